-- The dictionary of a text with values set is the old one with these values.
use Rattle.std.proofs.Common.{◌≡◌, ◌<◌, ℕ, zero, suc, ◌-◌, ◌*◌, ◌^◌, Bool, true, false, nat_le, List, [], ◌∷◌, map, Option, Some, None, Ok, refl, ap, ◌∙◌, codes, arith, ℤ}
use Rattle.std.proofs.lemmas.Bool.Decides.{nat_tests}
use Rattle.std.specs.Int.{bytes_low_first}
use Rattle.std.specs.Option.{option_map_or}
use Rattle.cop_eds.specs.declared.amount.Amount.TheVariants.{Hexadecimal}
use Rattle.cop_eds.specs.declared.description.Object.{Object}
use Rattle.cop_eds.specs.Amount.{amount_of}
use Rattle.cop_eds.specs.Sections.{value_in}
use Rattle.cop_eds.specs.Objects.{objects_of}
use Rattle.cop_dict.specs.declared.data_type.DataType.{DataType}
use Rattle.cop_dict.specs.declared.data_type.DataType.TheVariants as types
use Rattle.cop_dict.specs.Types.{type_numbered}
use Rattle.cop_dict.specs.Number.{number}
use Rattle.cop_dict.specs.Find.{Entry}
use Rattle.cop_dict.specs.Dict.{valued}
use Rattle.cop_dict.specs.Build.{initial_of, value_entry, entry_of_type, entry_built, built}
use Rattle.cop_dict.proofs.AgreeLemmas.{PartsIn, parts_of, entry_made, entry_again, value_kept, value_set, EachObject, IsChangedTo, built_again}
use Rattle.cop_dict.proofs.PatternLemmas.{own_number}
use Rattle.cop_dcf.specs.Dcf.{hexadecimal}
use Rattle.cop_dcf.specs.Planned.{settled}
use Rattle.cop_eds.specs.Kept.{Keeps, Seen, seen}
use Rattle.cop_dcf.proofs.HexLemmas.{AreBytes, amount_is}

-- what is set at an index and a sub: a number of so many bytes
pub record Word : Type 0 where
  pub width : ℕ
  pub value : ℕ

abbrev pub word_bytes : Word → List ℕ
word_bytes word = bytes_low_first 0 word.width word.value

-- a type holds the number in so many bytes
unfoldable pub Holds : DataType → Word → Type 0
Holds types.Boolean word = (word.width ≡ 1) × (word.value < 2)
Holds types.Integer8 word = (word.width ≡ 1) × (word.value < 2 ^ 8)
Holds types.Integer16 word = (word.width ≡ 2) × (word.value < 2 ^ 16)
Holds types.Integer32 word = (word.width ≡ 4) × (word.value < 2 ^ 32)
Holds types.Integer64 word = ⊥
Holds types.Unsigned8 word = (word.width ≡ 1) × (word.value < 2 ^ 8)
Holds types.Unsigned16 word = (word.width ≡ 2) × (word.value < 2 ^ 16)
Holds types.Unsigned32 word = (word.width ≡ 4) × (word.value < 2 ^ 32)
Holds types.Unsigned64 word = ⊥
Holds types.Real32 word = ⊥
Holds types.Real64 word = ⊥
Holds types.VisibleString word = ⊥
Holds types.OctetString word = ⊥
Holds types.Domain word = ⊥
Holds types.Opaque word = ⊥

pub low_are_bytes : (i k n : ℕ) → AreBytes (bytes_low_first i k n)
unfolding AreBytes
low_are_bytes i zero n = tt
low_are_bytes zero (suc k) n = (omega arith, low_are_bytes 1 k n)
low_are_bytes (suc i) (suc k) n = (omega arith, low_are_bytes (suc (suc i)) k n)

-- bytes are read again
one_read : (v : ℕ) → v < 2 ^ 8 → amount_of (hexadecimal (bytes_low_first 0 1 v)) ≡ Ok (Hexadecimal v)
one_read v small =
    let n : number (bytes_low_first 0 1 v) ≡ v = own_number 1 v (omega arith) in
    amount_is (bytes_low_first 0 1 v) (low_are_bytes 0 1 v) (omega arith) (rw n (omega arith)) ∙ ap (λ n. Ok (Hexadecimal n)) n

two_read : (v : ℕ) → v < 2 ^ 16 → amount_of (hexadecimal (bytes_low_first 0 2 v)) ≡ Ok (Hexadecimal v)
two_read v small =
    let n : number (bytes_low_first 0 2 v) ≡ v = own_number 2 v (omega arith) in
    amount_is (bytes_low_first 0 2 v) (low_are_bytes 0 2 v) (omega arith) (rw n (omega arith)) ∙ ap (λ n. Ok (Hexadecimal n)) n

four_read : (v : ℕ) → v < 2 ^ 32 → amount_of (hexadecimal (bytes_low_first 0 4 v)) ≡ Ok (Hexadecimal v)
four_read v small =
    let n : number (bytes_low_first 0 4 v) ≡ v = own_number 4 v (omega arith) in
    amount_is (bytes_low_first 0 4 v) (low_are_bytes 0 4 v) (omega arith) (rw n (omega arith)) ∙ ap (λ n. Ok (Hexadecimal n)) n

-- a number that is set is read again
initial_set : (t : DataType) (node line : ℕ) (word : Word) → Holds t word → initial_of t node (Some (line, hexadecimal (word_bytes word))) ≡ Ok (word_bytes word)
unfolding Holds
initial_set types.Boolean node line word h =
    let wide : word.width ≡ 1 = h.0 in
    let fits : nat_le word.value (1) ≡ true = let small = h.1 in grind (arith, nat_tests) in
    rw (wide, one_read word.value (omega (arith, h.1)), fits) refl
initial_set types.Integer8 node line word h =
    let wide : word.width ≡ 1 = h.0 in
    let fits : nat_le word.value (2 * 2 ^ 7 - 1) ≡ true = let small = h.1 in grind (arith, nat_tests) in
    rw (wide, one_read word.value h.1, fits) refl
initial_set types.Integer16 node line word h =
    let wide : word.width ≡ 2 = h.0 in
    let fits : nat_le word.value (2 * 2 ^ 15 - 1) ≡ true = let small = h.1 in grind (arith, nat_tests) in
    rw (wide, two_read word.value h.1, fits) refl
initial_set types.Integer32 node line word h =
    let wide : word.width ≡ 4 = h.0 in
    let fits : nat_le word.value (2 * 2 ^ 31 - 1) ≡ true = let small = h.1 in grind (arith, nat_tests) in
    rw (wide, four_read word.value h.1, fits) refl
initial_set types.Unsigned8 node line word h =
    let wide : word.width ≡ 1 = h.0 in
    let fits : nat_le word.value (2 ^ 8 - 1) ≡ true = let small = h.1 in grind (arith, nat_tests) in
    rw (wide, one_read word.value h.1, fits) refl
initial_set types.Unsigned16 node line word h =
    let wide : word.width ≡ 2 = h.0 in
    let fits : nat_le word.value (2 ^ 16 - 1) ≡ true = let small = h.1 in grind (arith, nat_tests) in
    rw (wide, two_read word.value h.1, fits) refl
initial_set types.Unsigned32 node line word h =
    let wide : word.width ≡ 4 = h.0 in
    let fits : nat_le word.value (2 ^ 32 - 1) ≡ true = let small = h.1 in grind (arith, nat_tests) in
    rw (wide, four_read word.value h.1, fits) refl
initial_set types.Integer64 node line word h = absurd h
initial_set types.Unsigned64 node line word h = absurd h
initial_set types.Real32 node line word h = absurd h
initial_set types.Real64 node line word h = absurd h
initial_set types.VisibleString node line word h = absurd h
initial_set types.OctetString node line word h = absurd h
initial_set types.Domain node line word h = absurd h
initial_set types.Opaque node line word h = absurd h

-- the entry with what is set at its index and sub
abbrev pub entry_set : (ℕ → ℕ → Option Word) → Entry → Entry
entry_set words entry = option_map_or (λ word. valued (word_bytes word) entry) (words entry.index entry.sub) entry

-- what the new text has as an object's value: the old one's, or a number that is set and that the object holds
abbrev pub IsSetAs : List ℕ → List ℕ → ℕ → DataType → Option Word → Type 0
IsSetAs old new section t None = value_in new section (codes "ParameterValue") ≡ value_in old section (codes "ParameterValue")
IsSetAs old new section t (Some word) = (value_in new section (codes "ParameterValue") ≡ Some (hexadecimal (word_bytes word))) × Holds t word

pub record LeavesLimits (is_set : List ℕ → Bool) : Type 0 where
  pub default : is_set (codes "DefaultValue") ≡ false
  pub low : is_set (codes "LowLimit") ≡ false
  pub high : is_set (codes "HighLimit") ≡ false

-- what is set, or is not, of an entry that is made
none_set : (words : ℕ → ℕ → Option Word) (o : Object) (t : DataType) (initial : List ℕ) (least greatest : Option ℤ) → words o.index o.sub ≡ None
    → entry_made o t initial least greatest ≡ settled (entry_set words (entry_made o t initial least greatest))
none_set words o t initial least greatest is = rw is refl

word_set : (words : ℕ → ℕ → Option Word) (o : Object) (t : DataType) (initial : List ℕ) (least greatest : Option ℤ) (word : Word) → words o.index o.sub ≡ Some word
    → entry_made o t (word_bytes word) least greatest ≡ settled (entry_set words (entry_made o t initial least greatest))
word_set words o t initial least greatest word is = rw is refl

-- the entry of an object in the new text
entry_kept : (is_added is_set : List ℕ → Bool) (old new : List ℕ) (node : ℕ) (words : ℕ → ℕ → Option Word) (o : Object) → Keeps is_added is_set old new → LeavesLimits is_set
    → IsSetAs old new o.place.section (type_numbered o.data_type) (words o.index o.sub) → IsChangedTo (λ e. settled (entry_set words e)) old new node o
entry_kept is_added is_set old new node words o keeps leaves set p e same h = by_word (words o.index o.sub) refl set
  where
    was : PartsIn old node o (type_numbered o.data_type) e
    was = parts_of old node o (type_numbered o.data_type) e h

    finish : (initial : List ℕ) → initial_of (type_numbered o.data_type) node (value_entry new o.place.section) ≡ Ok initial
        → entry_made o (type_numbered o.data_type) initial was.least was.greatest ≡ settled (entry_set words (entry_made o (type_numbered o.data_type) was.initial was.least was.greatest))
        → entry_built new node p ≡ Ok (settled (entry_set words e))
    finish initial value is =
        ap (λ (s : Seen). entry_of_type new node p (type_numbered s.data_type)) same
        ∙ entry_again old new node o p (type_numbered o.data_type) e was initial same
        (keeps.values o.place.section (codes "LowLimit") leaves.low) (keeps.values o.place.section (codes "HighLimit") leaves.high) value
        ∙ ap Ok (is ∙ ap (λ f. settled (entry_set words f)) was.whole)

    by_word : (x : Option Word) → words o.index o.sub ≡ x → IsSetAs old new o.place.section (type_numbered o.data_type) x → entry_built new node p ≡ Ok (settled (entry_set words e))
    by_word None is set =
        finish was.initial
        (value_kept old new o.place.section node (type_numbered o.data_type) was.initial set (keeps.values o.place.section (codes "DefaultValue") leaves.default) was.has_initial)
        (none_set words o (type_numbered o.data_type) was.initial was.least was.greatest is)
    by_word (Some word) is set =
        let read = value_set new o.place.section (hexadecimal (word_bytes word)) set.0 in
        finish (word_bytes word) (rw read.1 (initial_set (type_numbered o.data_type) node read.0 word set.1))
        (word_set words o (type_numbered o.data_type) was.initial was.least was.greatest word is)

-- each object of a list is set as the numbers say
unfoldable pub AreSet : (ℕ → ℕ → Option Word) → List ℕ → List ℕ → List Object → Type 0
AreSet words old new [] = Unit {0}
AreSet words old new (o ∷ os) = IsSetAs old new o.place.section (type_numbered o.data_type) (words o.index o.sub) × AreSet words old new os

entries_kept : (is_added is_set : List ℕ → Bool) (old new : List ℕ) (node : ℕ) (words : ℕ → ℕ → Option Word) (os : List Object)
    → Keeps is_added is_set old new → LeavesLimits is_set → AreSet words old new os → EachObject (IsChangedTo (λ e. settled (entry_set words e)) old new node) os
unfolding AreSet EachObject
entries_kept is_added is_set old new node words [] keeps leaves set = tt
entries_kept is_added is_set old new node words (o ∷ os) keeps leaves set =
    (entry_kept is_added is_set old new node words o keeps leaves set.0, entries_kept is_added is_set old new node words os keeps leaves set.1)

-- the dictionary of the new text
pub built_kept : (is_added is_set : List ℕ → Bool) (old new : List ℕ) (node : ℕ) (words : ℕ → ℕ → Option Word) (dict : List Entry)
    → Keeps is_added is_set old new → LeavesLimits is_set → map seen (objects_of new) ≡ map seen (objects_of old) → AreSet words old new (objects_of old)
    → built old node ≡ Ok dict → built new node ≡ Ok (map (λ e. settled (entry_set words e)) dict)
built_kept is_added is_set old new node words dict keeps leaves same set h =
    built_again (λ e. settled (entry_set words e)) old new node dict same (entries_kept is_added is_set old new node words (objects_of old) keeps leaves set) h
