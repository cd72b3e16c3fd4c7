-- The texts of files, and what is read of them, by their names.
use Rattle.std.specs.Prelude.{ℕ, ◌≡◌, List, option_map, Option, Some, Result, Ok}
use Rattle.std.specs.Cmp.Lexicographic.{slice_cmp}
use Rattle.std.specs.Ordering.{nat_cmp}
use Rattle.std.specs.BTreeMap.{BTreeMap, get_by}
use denote.Ref.{Bor}
use Rattle.cop_eds.specs.declared.fault.Refusal.{Refusal}
use Rattle.cop_eds.specs.Reading.{reading}
use Rattle.cop_net.specs.Devices.{File, text_of}

-- what a map has at a name
abbrev pub named : {A : Type 0} → BTreeMap (Bor (List ℕ)) A → List ℕ → Option A
named texts name = get_by (λ key. slice_cmp nat_cmp name key.now) texts

-- the map has what is read of the text of each name: that it is accepted, as itself, or why it is refused
abbrev pub KnowsReadings : List File → BTreeMap (Bor (List ℕ)) (Result (List ℕ) Refusal) → Type 0
KnowsReadings files readings = (name : List ℕ) → named readings name ≡ option_map reading (text_of files name)

-- the map has the text of each name
abbrev pub KnowsTexts : List File → BTreeMap (Bor (List ℕ)) (Bor (List ℕ)) → Type 0
KnowsTexts files texts = (name : List ℕ) → option_map (λ t. t.now) (named texts name) ≡ text_of files name

-- what the map has at a name is what is read of its text, which is accepted
abbrev pub AreReadings : List File → BTreeMap (Bor (List ℕ)) (List ℕ) → Type 0
AreReadings files kept = (name x : List ℕ) → named kept name ≡ Some x → option_map reading (text_of files name) ≡ Some (Ok x)
