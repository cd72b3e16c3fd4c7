-- What a plan sets in a dictionary that admits it is accepted in turn.
use Rattle.std.proofs.Common.{◌≡◌, ℕ, ◌<◌, Bool, true, false, cond, ◌&&◌, ◌||◌, List, [], ◌∷◌, ◌++◌, length, get_or, refl, ap, sym, subst, ◌∙◌, arith, ◌==◌, All, Option, Some, None, Contains, IfSome, IsSome, is_some}
use Rattle.std.proofs.lemmas.List.{get_or_default}
use Rattle.std.proofs.lemmas.Bool.{and_parts}
use Rattle.std.specs.Prelude.{ℤ, pos, option_map}
use Rattle.std.specs.List.{filter_map, cons_option}
use Rattle.std.proofs.lemmas.List.Elements.{All-head, All-tail}
use Rattle.std.specs.Option.{option_and_then}
use Rattle.std.specs.Ordering.{int_eq}
use Rattle.std.specs.Result.{is_ok}
use Rattle.std.specs.Int.{bytes_low_first}
use Rattle.std.proofs.lemmas.Bool.Decides.{nat_tests}
use Rattle.cop_dict.specs.declared.data_type.DataType.{DataType}
use Rattle.cop_dict.specs.declared.data_type.DataType.TheVariants as types
use Rattle.cop_dict.specs.Types.{width_of}
use Rattle.cop_dict.specs.Find.{Entry, entry_at, unsigned32_of}
use Rattle.cop_dict.specs.Pdo.{is_cob_id, is_communication, is_mapping, exists_by}
use Rattle.cop_rows.specs.SettingRows.{is_settable}
use Rattle.cop_net.specs.Asking.{AreTaken}
use Rattle.cop_dict.specs.Dict.{written, valued, refused_alone}
use Rattle.cop_dict.proofs.DictLemmas.{own_place, found_inside}
use Rattle.cop_pdo.specs.CobIds as pdo
use Rattle.cop_net.specs.Settings.{word, beats_by, has_or_takes, whole_of, is_unsigned16}
use Rattle.cop_setup.specs.declared.setting.Setting.{Setting}
use Rattle.cop_dcf.specs.Settings.{off_set, on_set, set_of, time_set, heartbeat_set, settings_of}
use Rattle.cop_setup.specs.Settings.{cob_id_set, bytes_of, planned}
use Rattle.cop_setup.specs.InTurn.{AcceptsInTurn, IsElsewhere, TakesAlone, TakesEach, HaveValues}
use Rattle.cop_boot.specs.PlanSettings.{Admits}
use Rattle.cop_setup.proofs.InTurn.{kept_by_all, in_turn, turns_append, planned_append, have_values, accepted_alone}
use Rattle.cop_setup.proofs.CobIdLemmas.{AtCobId, Own, sub_of, free_of, wide, apart_of, takes_of, values_of, no_beat}
use Rattle.cop_boot.proofs.SwitchLemmas.{switch_alone}

pub off_own : (ids : ℕ → Option ℕ) → Own (set_of off_set ids)
off_own ids e = by_test (is_cob_id e) refl (unsigned32_of e)
  where
    by_used : (b : Bool) (v : ℕ) → is_cob_id e ≡ true → IfSome (cond b (Some (cob_id_set e.index (pdo.off v))) None) (AtCobId e)
    by_used true v h = (h, (refl, refl))
    by_used false v h = tt

    by_test : (b : Bool) → is_cob_id e ≡ b → (o : Option ℕ) → IfSome (cond b (option_and_then (off_set (ids e.index) e.index) o) None) (AtCobId e)
    by_test false h o = tt
    by_test true h None = tt
    by_test true h (Some v) = by_used (is_some (ids e.index) || exists_by v) v h

pub on_own : (ids : ℕ → Option ℕ) → Own (set_of on_set ids)
on_own ids e = by_test (is_cob_id e) refl (unsigned32_of e) (ids e.index)
  where
    by_test : (b : Bool) → is_cob_id e ≡ b → (o id : Option ℕ) → IfSome (cond b (option_and_then (on_set id e.index) o) None) (AtCobId e)
    by_test false h o id = tt
    by_test true h None id = tt
    by_test true h (Some v) None = tt
    by_test true h (Some v) (Some id) = (h, (refl, refl))

narrow : (t : DataType) → is_unsigned16 t ≡ true → IsSome (width_of t)
narrow types.Unsigned16 h = refl
narrow _ h = cc

-- what is asked is elsewhere than COB-IDs and the heartbeat's time
settable_apart : (i j k l : ℕ) → is_settable i ≡ true → is_communication k ≡ true → (k == i) && (l == j) ≡ false
settable_apart i j k l h c = grind (arith, nat_tests)

settable_apart_back : (i j k l : ℕ) → is_settable i ≡ true → is_communication k ≡ true → (i == k) && (j == l) ≡ false
settable_apart_back i j k l h c = grind (arith, nat_tests)

settable_no_beat : (i j : ℕ) → is_settable i ≡ true → (i == 0x1017) && (j == 0) ≡ false
settable_no_beat i j h = grind (arith, nat_tests)

pub asked_beside : (asked : List Setting) (index sub : ℕ) → All (λ s. is_settable s.index ≡ true) asked → is_communication index ≡ true → IsElsewhere index sub asked
asked_beside [] index sub all c = tt
asked_beside (s ∷ rest) index sub all c =
    (settable_apart_back s.index s.sub index sub (All-head (λ s. is_settable s.index ≡ true) s rest all) c, asked_beside rest index sub (All-tail (λ s. is_settable s.index ≡ true) s rest all) c)

asked_no_beat : (asked : List Setting) → All (λ s. is_settable s.index ≡ true) asked → IsElsewhere 0x1017 0 asked
asked_no_beat [] all = tt
asked_no_beat (s ∷ rest) all = (settable_no_beat s.index s.sub (All-head (λ s. is_settable s.index ≡ true) s rest all), asked_no_beat rest (All-tail (λ s. is_settable s.index ≡ true) s rest all))

cob_ids_elsewhere : (f : Entry → Option Setting) (own : Own f) (index sub : ℕ) → is_settable index ≡ true → (xs : List Entry) → IsElsewhere index sub (filter_map f xs)
cob_ids_elsewhere f own index sub h [] = tt
cob_ids_elsewhere f own index sub h (x ∷ xs) = by_first (f x) (own x) (cob_ids_elsewhere f own index sub h xs)
  where
    by_first : (o : Option Setting) → IfSome o (AtCobId x) → IsElsewhere index sub (filter_map f xs) → IsElsewhere index sub (cons_option o (filter_map f xs))
    by_first None at rest = rest
    by_first (Some s) at rest = (settable_apart index sub s.index s.sub h (ap is_communication at.1.0 ∙ (and_parts (is_communication x.index) (x.sub == 1) at.0).0), rest)

-- a device takes at other objects what it took
taken_later : (dict new : List Entry) (asked : List Setting) → ((index sub : ℕ) → is_settable index ≡ true → entry_at new index sub ≡ entry_at dict index sub) → All (λ s. is_settable s.index ≡ true) asked
    → TakesEach dict asked → TakesEach new asked
taken_later dict new [] same all h = tt
taken_later dict new (s ∷ rest) same all h =
    let own = All-head (λ s. is_settable s.index ≡ true) s rest all in (
      record { entry = h.0.entry; at = same s.index s.sub own ∙ h.0.at; free = h.0.free; width = h.0.width; accepts = h.0.accepts },
      taken_later dict new rest same (All-tail (λ s. is_settable s.index ≡ true) s rest all) h.1,
    )

module _ (dict : List Entry) (asked : List Setting) (ids : ℕ → Option ℕ) (time : ℕ) (can : Admits dict ids time) (are : AreTaken dict asked) where
  inside : (k : ℕ) (d : Entry) → k < length dict → Contains dict (get_or dict k d)
  inside k d lt = (k, lt, same)
    where
      same : get_or dict k (get_or dict k d) ≡ get_or dict k d
      same = get_or_default dict k (get_or dict k d) d lt

  -- what is switched off is taken
  off_goes : (e : Entry) (v : ℕ) → entry_at dict e.index 1 ≡ Some e → is_cob_id e ≡ true → unsigned32_of e ≡ Some v → refused_alone e (word (pdo.off v)) ≡ None → TakesAlone dict (cob_id_set e.index (pdo.off v))
  off_goes e v there cob is h = record { entry = e; at = there; free = free_of e cob; width = wide e v is; accepts = h }

  off_by_id : (e : Entry) (v : ℕ) → Contains dict e → entry_at dict e.index 1 ≡ Some e → is_cob_id e ≡ true → unsigned32_of e ≡ Some v → (o : Option ℕ) → ids e.index ≡ o → (b : Bool) → exists_by v ≡ b
      → IfSome (cond (is_some o || b) (Some (cob_id_set e.index (pdo.off v))) None) (TakesAlone dict)
  off_by_id e v inside there cob is (Some id) own b ex = off_goes e v there cob is (switch_alone dict e.index v id e there cob (can.used e v id inside cob is own)).0
  off_by_id e v inside there cob is None own true ex = off_goes e v there cob is (accepted_alone dict e.index 1 (word (pdo.off v)) e there (free_of e cob) (can.unused e v inside cob is ex))
  off_by_id e v inside there cob is None own false ex = tt

  off_taken : (e : Entry) → Contains dict e → IfSome (set_of off_set ids e) (TakesAlone dict)
  off_taken e inside = by_test (is_cob_id e) refl (unsigned32_of e) refl
    where
      there : is_cob_id e ≡ true → entry_at dict e.index 1 ≡ Some e
      there cob = ap (entry_at dict e.index) (sym (sub_of e cob)) ∙ own_place dict e can.sorted inside

      by_test : (b : Bool) → is_cob_id e ≡ b → (o : Option ℕ) → unsigned32_of e ≡ o → IfSome (cond b (option_and_then (off_set (ids e.index) e.index) o) None) (TakesAlone dict)
      by_test false cob o is = tt
      by_test true cob None is = tt
      by_test true cob (Some v) is = off_by_id e v inside (there cob) cob is (ids e.index) refl (exists_by v) refl

  offs_accepted : AcceptsInTurn dict (filter_map (set_of off_set ids) dict)
  offs_accepted =
      in_turn (filter_map (set_of off_set ids) dict) dict (apart_of (set_of off_set ids) (off_own ids) dict can.sorted)
      (takes_of (set_of off_set ids) (off_own ids) dict dict (λ k d lt. off_taken (get_or dict k d) (inside k d lt)))

  -- what is switched on is taken then
  on_goes : (new : List Entry) (e : Entry) (v id : ℕ) → Contains dict e → entry_at dict e.index 1 ≡ Some e → is_cob_id e ≡ true → unsigned32_of e ≡ Some v → ids e.index ≡ Some id
      → entry_at new e.index 1 ≡ Some (valued (word (pdo.off v)) e) → TakesAlone new (cob_id_set e.index (pdo.on v id))
  on_goes new e v id inside there cob is own now = record {
    entry = valued (word (pdo.off v)) e;
    at = now;
    free = free_of e cob;
    width = wide e v is;
    accepts = (switch_alone dict e.index v id e there cob (can.used e v id inside cob is own)).1;
  }

  on_taken : (new : List Entry) (e : Entry) → Contains dict e → IfSome (set_of off_set ids e) (λ s. entry_at new s.index s.sub ≡ option_map (valued (bytes_of s)) (entry_at dict s.index s.sub))
      → IfSome (set_of on_set ids e) (TakesAlone new)
  on_taken new e inside has = by_test (is_cob_id e) refl (unsigned32_of e) refl (ids e.index) refl has
    where
      there : is_cob_id e ≡ true → entry_at dict e.index 1 ≡ Some e
      there cob = ap (entry_at dict e.index) (sym (sub_of e cob)) ∙ own_place dict e can.sorted inside

      by_test : (b : Bool) → is_cob_id e ≡ b → (o : Option ℕ) → unsigned32_of e ≡ o → (id : Option ℕ) → ids e.index ≡ id
          → IfSome (cond b (option_and_then (off_set id e.index) o) None) (λ s. entry_at new s.index s.sub ≡ option_map (valued (bytes_of s)) (entry_at dict s.index s.sub))
          → IfSome (cond b (option_and_then (on_set id e.index) o) None) (TakesAlone new)
      by_test false cob o is id own has = tt
      by_test true cob None is id own has = tt
      by_test true cob (Some v) is None own has = tt
      by_test true cob (Some v) is (Some id) own has = on_goes new e v id inside (there cob) cob is own (has ∙ ap (option_map (valued (word (pdo.off v)))) (there cob))

  -- the dictionary with all of the plan's PDOs switched off, and then with what is asked
  abbrev quiet : List Entry
  quiet = planned dict (filter_map (set_of off_set ids) dict)

  abbrev equipped : List Entry
  equipped = planned quiet asked

  asked_accepted : AcceptsInTurn quiet asked
  asked_accepted =
      in_turn asked quiet are.apart
      (taken_later dict quiet asked (λ index sub h. kept_by_all (filter_map (set_of off_set ids) dict) dict index sub (cob_ids_elsewhere (set_of off_set ids) (off_own ids) index sub h dict)) are.settable are.taken)

  still_off : (e : Entry) (o : Option Setting) → IfSome o (AtCobId e) → IfSome o (λ s. entry_at quiet s.index s.sub ≡ option_map (valued (bytes_of s)) (entry_at dict s.index s.sub))
      → IfSome o (λ s. entry_at equipped s.index s.sub ≡ option_map (valued (bytes_of s)) (entry_at dict s.index s.sub))
  still_off e None at has = tt
  still_off e (Some s) at has =
      kept_by_all asked quiet s.index s.sub (asked_beside asked s.index s.sub are.settable (ap is_communication at.1.0 ∙ (and_parts (is_communication e.index) (e.sub == 1) at.0).0)) ∙ has

  ons_accepted : AcceptsInTurn equipped (filter_map (set_of on_set ids) dict)
  ons_accepted =
      let have : HaveValues dict quiet (filter_map (set_of off_set ids) dict) = have_values (filter_map (set_of off_set ids) dict) dict (apart_of (set_of off_set ids) (off_own ids) dict can.sorted) in
      in_turn (filter_map (set_of on_set ids) dict) equipped (apart_of (set_of on_set ids) (on_own ids) dict can.sorted)
      (takes_of (set_of on_set ids) (on_own ids) equipped dict
      (λ k d lt. on_taken equipped (get_or dict k d) (inside k d lt)
      (still_off (get_or dict k d) (set_of off_set ids (get_or dict k d)) (off_own ids (get_or dict k d)) (values_of (set_of off_set ids) (off_own ids) dict quiet dict have k d lt))))

  -- and so is the heartbeat's time
  time_accepted : (new : List Entry) → entry_at new 0x1017 0 ≡ entry_at dict 0x1017 0 → AcceptsInTurn new (time_set time (option_and_then whole_of (entry_at dict 0x1017 0)))
  time_accepted new same = by_entry (entry_at dict 0x1017 0) refl can.beats
    where
      by_free : (n : ℕ) → n ≡ 0x1017 → is_mapping n ≡ false
      by_free n h = grind (arith, nat_tests)

      one : (e : Entry) → entry_at dict 0x1017 0 ≡ Some e → is_unsigned16 e.description.data_type ≡ true → is_ok (written dict 0x1017 0 (bytes_low_first 0 2 time)) ≡ true → TakesAlone new (heartbeat_set time)
      one e at type ok = record {
        entry = e;
        at = same ∙ at;
        free = by_free e.index (found_inside dict 0x1017 0 e at).1;
        width = narrow e.description.data_type type;
        accepts = accepted_alone dict 0x1017 0 (bytes_low_first 0 2 time) e at (by_free e.index (found_inside dict 0x1017 0 e at).1) ok;
      }

      by_now : (e : Entry) → entry_at dict 0x1017 0 ≡ Some e → (now : ℤ) → (b : Bool) → (b || (is_unsigned16 e.description.data_type && is_ok (written dict 0x1017 0 (bytes_low_first 0 2 time)))) ≡ true
          → AcceptsInTurn new (cond b [] (heartbeat_set time ∷ []))
      by_now e at now true h = tt
      by_now e at now false h = in_turn (heartbeat_set time ∷ []) new (tt, tt) (one e at (and_parts (is_unsigned16 e.description.data_type) _ h).0 (and_parts (is_unsigned16 e.description.data_type) _ h).1, tt)

      by_time : (e : Entry) → entry_at dict 0x1017 0 ≡ Some e → (o : Option ℤ) → has_or_takes dict time e o ≡ true → AcceptsInTurn new (time_set time o)
      by_time e at None h = tt
      by_time e at (Some now) h = by_now e at now (int_eq now (pos time)) h

      by_entry : (o : Option Entry) → entry_at dict 0x1017 0 ≡ o → beats_by dict time o ≡ true → AcceptsInTurn new (time_set time (option_and_then whole_of o))
      by_entry None at h = tt
      by_entry (Some e) at h = by_time e at (whole_of e) h

  pub plan_accepted : AcceptsInTurn dict (settings_of dict asked ids time)
  plan_accepted =
      let offs : List Setting = filter_map (set_of off_set ids) dict in
      let ons : List Setting = filter_map (set_of on_set ids) dict in
      let same : entry_at (planned equipped ons) 0x1017 0 ≡ entry_at dict 0x1017 0 =
      kept_by_all ons equipped 0x1017 0 (no_beat (set_of on_set ids) (on_own ids) dict)
      ∙ kept_by_all asked quiet 0x1017 0 (asked_no_beat asked are.settable)
      ∙ kept_by_all offs dict 0x1017 0 (no_beat (set_of off_set ids) (off_own ids) dict) in
      all_of offs asked ons (time_set time (option_and_then whole_of (entry_at dict 0x1017 0))) offs_accepted asked_accepted ons_accepted (time_accepted (planned equipped ons) same)
    where
      both : (d : List Entry) (a b : List Setting) → AcceptsInTurn d a → AcceptsInTurn (planned d a) b → AcceptsInTurn d (a ++ b)
      both d a b h i = turns_append a b d h i

      all_of : (a m b t : List Setting) → AcceptsInTurn dict a → AcceptsInTurn (planned dict a) m → AcceptsInTurn (planned (planned dict a) m) b → AcceptsInTurn (planned (planned (planned dict a) m) b) t
          → AcceptsInTurn dict (((a ++ m) ++ b) ++ t)
      all_of a m b t h i j k =
          let am : planned dict (a ++ m) ≡ planned (planned dict a) m = planned_append a m dict in
          let amb : planned dict ((a ++ m) ++ b) ≡ planned (planned (planned dict a) m) b = planned_append (a ++ m) b dict ∙ ap (λ (d : List Entry). planned d b) am in
          both dict ((a ++ m) ++ b) t (both dict (a ++ m) b (both dict a m h i) (subst (λ now. AcceptsInTurn now b) (sym am) j)) (subst (λ now. AcceptsInTurn now t) (sym amb) k)
