-- The changes of identifiers, one TPDO after the other.
use Rattle.std.proofs.Common.{◌≡◌, ◌≤◌, ◌<◌, ◌+◌, ◌-◌, ℕ, suc, List, [], ◌++◌, Option, Some, None, refl, sym, ◌∙◌, append_assoc, arith}
use Rattle.std.specs.List.{range_with_len, cons_option}
use Rattle.std.proofs.lemmas.List.{append-nil}
use Rattle.cop_dict.specs.Find.{Entry}
use Rattle.cop_compare.specs.declared.identifiers.IdentifierChange.{IdentifierChange}
use Rattle.cop_compare.specs.Identifiers.{identifier_change, changes_among, identifier_changes}

-- the changes of the TPDOs from one on, so many of them
unfoldable pub changes_from : List Entry → List Entry → ℕ → ℕ → List IdentifierChange
changes_from old new tpdo count = changes_among old new (range_with_len tpdo count)

-- what is told, and what is left
pub record Told (old new : List Entry) (tpdo : ℕ) (all : List IdentifierChange) : Type 0 where
  pub whole : all ++ changes_from old new tpdo (513 - tpdo) ≡ identifier_changes old new

pub at_start : (old new : List Entry) (all : List IdentifierChange) → all ≡ [] → Told old new 1 all
unfolding changes_from identifier_changes
at_start old new all e = record { whole = rw e refl }

pub at_end : (old new : List Entry) (tpdo : ℕ) (all : List IdentifierChange) → 513 ≤ tpdo → Told old new tpdo all → all ≡ identifier_changes old new
unfolding changes_from
at_end old new tpdo all le told =
    let none : 513 - tpdo ≡ 0 = omega arith in
    sym (rw none (append-nil all)) ∙ told.whole

first_of : (old new : List Entry) (tpdo count : ℕ) → changes_from old new tpdo (suc count) ≡ cons_option (identifier_change old new tpdo) [] ++ changes_from old new (tpdo + 1) count
unfolding changes_from
first_of old new tpdo count = by_change (identifier_change old new tpdo)
  where
    by_change : (c : Option IdentifierChange) → cons_option c (changes_among old new (range_with_len (tpdo + 1) count)) ≡ cons_option c [] ++ changes_among old new (range_with_len (tpdo + 1) count)
    by_change None = refl
    by_change (Some c) = refl

pub goes_on : (old new : List Entry) (tpdo : ℕ) (all more : List IdentifierChange) (change : Option IdentifierChange) → tpdo < 513 → Told old new tpdo all
    → change ≡ identifier_change old new tpdo → more ≡ all ++ cons_option change [] → Told old new (tpdo + 1) more
goes_on old new tpdo all more change lt told is e = record { whole = longer ∙ told.whole }
  where
    left : 513 - tpdo ≡ suc (513 - (tpdo + 1))
    left = omega arith

    longer : more ++ changes_from old new (tpdo + 1) (513 - (tpdo + 1)) ≡ all ++ changes_from old new tpdo (513 - tpdo)
    longer = rw (e, is, left, first_of old new tpdo (513 - (tpdo + 1)), append_assoc) refl
