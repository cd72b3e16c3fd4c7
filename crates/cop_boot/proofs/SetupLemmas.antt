-- What a plan sets around the setup of a device is taken.
use Rattle.std.proofs.Common.{◌≡◌, ℕ, Bool, true, false, cond, ◌==◌, List, ◌++◌, get_or, Option, Some, None, Result, Ok, Err, IfSome, Contains, option_map, true≢false, refl, sym, ap, subst, ◌∙◌}
use Rattle.std.specs.List.{filter_map}
use Rattle.std.specs.Option.{option_and_then}
use Rattle.std.specs.Result.{is_ok}
use Rattle.std.proofs.lemmas.Bool.{and_parts}
use Rattle.cop_dict.specs.declared.abort.Abort.{Abort}
use Rattle.cop_dict.specs.Find.{Entry, entry_at, unsigned32_of}
use Rattle.cop_dict.specs.Pdo.{is_cob_id, is_communication}
use Rattle.cop_dict.specs.Dict as dictionary
use Rattle.cop_dict.specs.Dict.{valued, written}
use Rattle.cop_dict.proofs.DictLemmas.{own_place}
use Rattle.cop_pdo.specs.CobIds as pdo
use Rattle.cop_net.specs.Settings.{word, goes_off, takes}
use Rattle.cop_setup.specs.declared.setting.Setting.{Setting}
use Rattle.cop_setup.specs.Settings.{bytes_of, planned, cob_id_set}
use Rattle.cop_setup.specs.InTurn.{AcceptsInTurn, TakesAlone, HaveValues, IsElsewhere}
use Rattle.cop_setup.specs.Offs.{is_accepted, off_if_taken, off_of, every_off}
use Rattle.cop_setup.proofs.InTurn.{in_turn, kept_by_all, have_values, turns_append, planned_append}
use Rattle.cop_setup.proofs.CobIdLemmas.{sub_of, free_of, wide, apart_of, takes_of, values_of}
use Rattle.cop_setup.proofs.OffLemmas.{off_own, inside, offs_taken}
use Rattle.cop_dcf.specs.Settings.{on_set, set_of}
use Rattle.cop_boot.specs.PlanSettings.{Admits}
use Rattle.cop_boot.proofs.SwitchLemmas.{switch_alone}
use Rattle.cop_boot.proofs.PlanInTurn.{on_own}

first_ok : {A B : Type 0} (r : Result A Abort) (f : A → Result B Abort) → is_ok (dictionary.◌>>=◌ r f) ≡ true → is_ok r ≡ true
first_ok (Ok x) f h = refl
first_ok (Err e) f h = h

module _ (dict : List Entry) (ids : ℕ → Option ℕ) (time : ℕ) (can : Admits dict ids time) (setup : List Setting) (accepted : AcceptsInTurn (planned dict (every_off dict)) setup)
    (beside : (index : ℕ) → is_communication index ≡ true → IsElsewhere index 1 setup) where
  on_taken : (e : Entry) → Contains dict e → IfSome (off_of dict e) (λ s. entry_at (planned dict (every_off dict)) s.index s.sub ≡ option_map (valued (bytes_of s)) (entry_at dict s.index s.sub))
      → IfSome (set_of on_set ids e) (TakesAlone (planned (planned dict (every_off dict)) setup))
  on_taken e there has = by_test (is_cob_id e) refl (unsigned32_of e) refl (ids e.index) refl has
    where
      at : is_cob_id e ≡ true → entry_at dict e.index 1 ≡ Some e
      at cob = ap (entry_at dict e.index) (sym (sub_of e cob)) ∙ own_place dict e can.sorted there

      goes : (v id : ℕ) → takes dict e.index v id ≡ true → goes_off dict e.index v ≡ true
      goes v id h = first_ok (written dict e.index 1 (word (pdo.off v))) (λ now. written now e.index 1 (word (pdo.on v id))) h

      now : (v : ℕ) → is_cob_id e ≡ true → entry_at (planned dict (every_off dict)) e.index 1 ≡ option_map (valued (word (pdo.off v))) (entry_at dict e.index 1)
          → entry_at (planned (planned dict (every_off dict)) setup) e.index 1 ≡ Some (valued (word (pdo.off v)) e)
      now v cob h = kept_by_all setup (planned dict (every_off dict)) e.index 1 (beside e.index (and_parts (is_communication e.index) (e.sub == 1) cob).0) ∙ h ∙ ap (option_map (valued (word (pdo.off v)))) (at cob)

      by_goes : (v id : ℕ) → is_cob_id e ≡ true → unsigned32_of e ≡ Some v → takes dict e.index v id ≡ true → (b : Bool) → is_accepted dict (cob_id_set e.index (pdo.off v)) ≡ b
          → IfSome (cond b (Some (cob_id_set e.index (pdo.off v))) None) (λ s. entry_at (planned dict (every_off dict)) s.index s.sub ≡ option_map (valued (bytes_of s)) (entry_at dict s.index s.sub))
          → TakesAlone (planned (planned dict (every_off dict)) setup) (cob_id_set e.index (pdo.on v id))
      by_goes v id cob is t true g h = record {
        entry = valued (word (pdo.off v)) e;
        at = now v cob h;
        free = free_of e cob;
        width = wide e v is;
        accepts = (switch_alone dict e.index v id e (at cob) cob t).1;
      }
      by_goes v id cob is t false g h = let yes = goes v id t in absurd (true≢false (sym yes ∙ g))

      by_test : (b : Bool) → is_cob_id e ≡ b → (o : Option ℕ) → unsigned32_of e ≡ o → (id : Option ℕ) → ids e.index ≡ id
          → IfSome (cond b (option_and_then (off_if_taken dict e.index) o) None) (λ s. entry_at (planned dict (every_off dict)) s.index s.sub ≡ option_map (valued (bytes_of s)) (entry_at dict s.index s.sub))
          → IfSome (cond b (option_and_then (on_set id e.index) o) None) (TakesAlone (planned (planned dict (every_off dict)) setup))
      by_test false cob o is id own h = tt
      by_test true cob None is id own h = tt
      by_test true cob (Some v) is None own h = tt
      by_test true cob (Some v) is (Some id) own h = by_goes v id cob is (can.used e v id there cob is own) (is_accepted dict (cob_id_set e.index (pdo.off v))) refl h

  ons_taken : AcceptsInTurn (planned (planned dict (every_off dict)) setup) (filter_map (set_of on_set ids) dict)
  ons_taken =
      let have : HaveValues dict (planned dict (every_off dict)) (every_off dict) = have_values (every_off dict) dict (apart_of (off_of dict) (off_own dict) dict can.sorted) in
      in_turn (filter_map (set_of on_set ids) dict) (planned (planned dict (every_off dict)) setup) (apart_of (set_of on_set ids) (on_own ids) dict can.sorted)
      (takes_of (set_of on_set ids) (on_own ids) (planned (planned dict (every_off dict)) setup) dict
      (λ k d lt. on_taken (get_or dict k d) (inside dict can.sorted k d lt) (values_of (off_of dict) (off_own dict) dict (planned dict (every_off dict)) dict have k d lt)))

  pub setup_taken : AcceptsInTurn dict ((every_off dict ++ setup) ++ filter_map (set_of on_set ids) dict)
  setup_taken =
      turns_append (every_off dict ++ setup) (filter_map (set_of on_set ids) dict) dict (turns_append (every_off dict) setup dict (offs_taken dict can.sorted) accepted)
      (subst (λ d. AcceptsInTurn d (filter_map (set_of on_set ids) dict)) (sym (planned_append (every_off dict) setup dict)) ons_taken)
