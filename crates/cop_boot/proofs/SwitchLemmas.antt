-- COB-IDs that are switched off and then on.
use Rattle.std.proofs.Common.{◌≡◌, ℕ, true, false, ◌==◌, List, refl, ap, ◌∙◌, arith, Option, Some, None}
use Rattle.std.proofs.lemmas.Bool.{and_parts}
use Rattle.std.specs.Prelude.{option_map}
use Rattle.std.specs.Result.{is_ok}
use Rattle.std.proofs.lemmas.Bool.Decides.{nat_tests}
use Rattle.cop_dict.specs.declared.abort.Abort.{Abort}
use Rattle.cop_dict.specs.Find.{Entry, entry_at}
use Rattle.cop_dict.specs.Pdo.{is_cob_id, is_communication, is_mapping}
use Rattle.cop_dict.specs.Dict.{written, with_value, valued, unless_broken, refused_alone}
use Rattle.cop_dict.proofs.Replaced.{value_replaced}
use Rattle.cop_dict.proofs.AloneLemmas.{written_alone}
use Rattle.cop_pdo.specs.CobIds as pdo
use Rattle.cop_net.specs.Settings as net
use Rattle.cop_setup.proofs.InTurn.{accepted_alone}

cob_free : (n : ℕ) → is_communication n ≡ true → is_mapping n ≡ false
cob_free n h = grind (arith, nat_tests)

-- a COB-ID that can be switched off and then on, in one dictionary, can be so in each where its entry is the same
pub switch_alone : (dict : List Entry) (index v id : ℕ) (e : Entry) → entry_at dict index 1 ≡ Some e → is_cob_id e ≡ true → net.takes dict index v id ≡ true
    → (refused_alone e (net.word (pdo.off v)) ≡ None) × (refused_alone (valued (net.word (pdo.off v)) e) (net.word (pdo.on v id)) ≡ None)
switch_alone dict index v id e at cob h = by_off (refused_alone e (net.word (pdo.off v))) refl
  where
    free : is_mapping e.index ≡ false
    free = cob_free e.index (and_parts (is_communication e.index) (e.sub == 1) cob).0

    first : written dict index 1 (net.word (pdo.off v)) ≡ unless_broken (refused_alone e (net.word (pdo.off v))) (with_value index 1 (net.word (pdo.off v)) dict)
    first = written_alone dict index 1 (net.word (pdo.off v)) e at free

    at_now : entry_at (with_value index 1 (net.word (pdo.off v)) dict) index 1 ≡ Some (valued (net.word (pdo.off v)) e)
    at_now = value_replaced dict index 1 (net.word (pdo.off v)) ∙ ap (option_map (valued (net.word (pdo.off v)))) at

    clash : false ≡ true → ⊥
    clash h = cc

    by_off : (o : Option Abort) → refused_alone e (net.word (pdo.off v)) ≡ o
        → (refused_alone e (net.word (pdo.off v)) ≡ None) × (refused_alone (valued (net.word (pdo.off v)) e) (net.word (pdo.on v id)) ≡ None)
    by_off None is =
        let then_on : is_ok (written (with_value index 1 (net.word (pdo.off v)) dict) index 1 (net.word (pdo.on v id))) ≡ true = rw (first, is) at h in
        (is, accepted_alone (with_value index 1 (net.word (pdo.off v)) dict) index 1 (net.word (pdo.on v id)) (valued (net.word (pdo.off v)) e) at_now free then_on)
    by_off (Some a) is = absurd (clash (rw (first, is) at h))
