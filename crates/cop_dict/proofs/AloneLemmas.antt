-- Whether a write is accepted depends on the entry alone, except at mapping records.
use Rattle.std.proofs.Common.{◌≡◌, ℕ, Bool, true, false, List, refl, ap, Option, Some, None}
use Rattle.std.specs.Prelude.{if◌then◌else◌}
use Rattle.std.specs.Option.{option_or}
use Rattle.cop_dict.specs.declared.abort.Abort.{Abort}
use Rattle.cop_dict.specs.Number.{number}
use Rattle.cop_dict.specs.Rules.{first_broken, value_rules}
use Rattle.cop_dict.specs.Find.{Entry, entry_at}
use Rattle.cop_dict.specs.Pdo.{is_cob_id, is_mapping, cob_id_rules, refused_by_pdos, refused_mapping}
use Rattle.cop_dict.specs.Dict.{written, with_value, unless_broken, refused_alone, ◌>>=◌}

refused_so : (dict : List Entry) (e : Entry) (bytes : List ℕ) → is_mapping e.index ≡ false
    → refused_by_pdos dict e bytes ≡ (if is_cob_id e then first_broken (cob_id_rules e (number bytes)) else None)
unfolding refused_by_pdos
refused_so dict e bytes free = pick (is_cob_id e) (is_mapping e.index) (first_broken (cob_id_rules e (number bytes))) (refused_mapping dict e (number bytes)) free
  where
    pick : (a b : Bool) (x y : Option Abort) → b ≡ false → (if a then x else if b then y else None) ≡ (if a then x else None)
    pick true b x y h = refl
    pick false true x y h = cc
    pick false false x y h = refl

-- acceptance of a write depends on the entry alone, except at mapping records
pub written_alone : (dict : List Entry) (index sub : ℕ) (bytes : List ℕ) (e : Entry) → entry_at dict index sub ≡ Some e → is_mapping e.index ≡ false
    → written dict index sub bytes ≡ unless_broken (refused_alone e bytes) (with_value index sub bytes dict)
unfolding written
written_alone dict index sub bytes e at free = rw at (by_rules (first_broken (value_rules e.description bytes)))
  where
    by_rules : (a : Option Abort)
        → (unless_broken a e >>= λ checked. unless_broken (refused_by_pdos dict checked bytes) (with_value index sub bytes dict))
        ≡ unless_broken (option_or a (if is_cob_id e then first_broken (cob_id_rules e (number bytes)) else None)) (with_value index sub bytes dict)
    by_rules None = ap (λ o. unless_broken o (with_value index sub bytes dict)) (refused_so dict e bytes free)
    by_rules (Some a) = refl
