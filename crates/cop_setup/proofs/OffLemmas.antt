-- Each PDO of a device that can be switched off is so.
use Rattle.std.proofs.Common.{◌≡◌, ◌<◌, ℕ, Bool, true, false, cond, List, length, get_or, Option, Some, None, IfSome, Contains, refl, sym, ap, ◌∙◌}
use Rattle.std.specs.Option.{option_and_then}
use Rattle.std.proofs.lemmas.List.{get_or_default}
use Rattle.cop_dict.specs.Find.{Entry, entry_at, unsigned32_of, IsSorted}
use Rattle.cop_dict.specs.Pdo.{is_cob_id}
use Rattle.cop_dict.proofs.DictLemmas.{own_place}
use Rattle.cop_pdo.specs.CobIds.{off}
use Rattle.cop_setup.specs.Settings.{bytes_of, cob_id_set}
use Rattle.cop_setup.specs.InTurn.{AcceptsInTurn, TakesAlone}
use Rattle.cop_setup.specs.Offs.{is_accepted, off_if_taken, off_of, every_off}
use Rattle.cop_setup.proofs.InTurn.{in_turn, accepted_alone}
use Rattle.cop_setup.proofs.CobIdLemmas.{Own, AtCobId, apart_of, takes_of, sub_of, free_of, wide}

pub off_own : (dict : List Entry) → Own (off_of dict)
off_own dict e = by_test (is_cob_id e) refl (unsigned32_of e)
  where
    by_goes : (b : Bool) (v : ℕ) → is_cob_id e ≡ true → IfSome (cond b (Some (cob_id_set e.index (off v))) None) (AtCobId e)
    by_goes true v h = (h, (refl, refl))
    by_goes false v h = tt

    by_test : (b : Bool) → is_cob_id e ≡ b → (o : Option ℕ) → IfSome (cond b (option_and_then (off_if_taken dict e.index) o) None) (AtCobId e)
    by_test false h o = tt
    by_test true h None = tt
    by_test true h (Some v) = by_goes (is_accepted dict (cob_id_set e.index (off v))) v h

module _ (dict : List Entry) (sorted : IsSorted dict) where
  pub inside : (k : ℕ) (d : Entry) → k < length dict → Contains dict (get_or dict k d)
  inside k d lt = (k, lt, get_or_default dict k (get_or dict k d) d lt)

  off_taken : (e : Entry) → Contains dict e → IfSome (off_of dict e) (TakesAlone dict)
  off_taken e there = by_test (is_cob_id e) refl (unsigned32_of e) refl
    where
      at : is_cob_id e ≡ true → entry_at dict e.index 1 ≡ Some e
      at cob = ap (entry_at dict e.index) (sym (sub_of e cob)) ∙ own_place dict e sorted there

      by_goes : (v : ℕ) → is_cob_id e ≡ true → unsigned32_of e ≡ Some v → (b : Bool) → is_accepted dict (cob_id_set e.index (off v)) ≡ b → IfSome (cond b (Some (cob_id_set e.index (off v))) None) (TakesAlone dict)
      by_goes v cob is true goes = record {
        entry = e;
        at = at cob;
        free = free_of e cob;
        width = wide e v is;
        accepts = accepted_alone dict e.index 1 (bytes_of (cob_id_set e.index (off v))) e (at cob) (free_of e cob) goes;
      }
      by_goes v cob is false goes = tt

      by_test : (b : Bool) → is_cob_id e ≡ b → (o : Option ℕ) → unsigned32_of e ≡ o → IfSome (cond b (option_and_then (off_if_taken dict e.index) o) None) (TakesAlone dict)
      by_test false cob o is = tt
      by_test true cob None is = tt
      by_test true cob (Some v) is = by_goes v cob is (is_accepted dict (cob_id_set e.index (off v))) refl

  pub offs_taken : AcceptsInTurn dict (every_off dict)
  offs_taken =
      in_turn (every_off dict) dict (apart_of (off_of dict) (off_own dict) dict sorted)
      (takes_of (off_of dict) (off_own dict) dict dict (λ k d lt. off_taken (get_or dict k d) (inside k d lt)))
