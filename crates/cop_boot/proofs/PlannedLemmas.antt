-- In a device that has the settings of a plan exactly the planned PDOs exist, with their identifiers.
use Rattle.std.proofs.Common.{◌≡◌, ℕ, ◌%◌, ◌^◌, ◌<◌, suc, Bool, true, false, cond, ◌||◌, ◌==◌, List, [], ◌∷◌, ◌++◌, get_or, All, Contains, refl, ap, sym, subst, ◌∙◌, arith, Option, Some, None, IfSome, is_some}
use Rattle.std.proofs.lemmas.List.{get_or_default}
use Rattle.std.specs.Prelude.{ℤ, pos, option_map}
use Rattle.std.specs.List.{filter_map, cons_option}
use Rattle.std.specs.Option.{option_and_then}
use Rattle.std.specs.Ordering.{int_eq}
use Rattle.std.proofs.Math.Bool.{and-false}
use Rattle.std.proofs.lemmas.Bool.{eqb-true, and_parts}
use Rattle.std.proofs.lemmas.Bool.Decides.{nat_tests}
use Rattle.cop_dict.specs.Types.{is_unsigned32}
use Rattle.cop_dict.specs.Number.{number}
use Rattle.cop_dict.specs.Find.{Entry, entry_at, unsigned32_of}
use Rattle.cop_dict.specs.Pdo.{is_cob_id, is_communication, exists_by}
use Rattle.cop_net.specs.Asking.{AreTaken}
use Rattle.cop_dict.specs.Dict.{valued}
use Rattle.cop_dict.proofs.DictLemmas.{own_place}
use Rattle.cop_dict.proofs.PatternLemmas.{own_number}
use Rattle.cop_pdo.specs.CobIds as pdo
use Rattle.cop_net.specs.Settings.{word, whole_of}
use Rattle.cop_setup.specs.declared.setting.Setting.{Setting}
use Rattle.cop_dcf.specs.Settings.{off_set, on_set, set_of, time_set, heartbeat_set, settings_of}
use Rattle.cop_setup.specs.Settings.{cob_id_set, bytes_of, planned}
use Rattle.cop_setup.specs.InTurn.{IsElsewhere}
use Rattle.cop_boot.specs.PlanSettings.{Admits}
use Rattle.cop_boot.specs.PlannedPdos.{IsAsPlanned}
use Rattle.cop_setup.proofs.InTurn.{kept_by_all, planned_append, have_values}
use Rattle.cop_boot.proofs.PlanInTurn.{off_own, on_own, asked_beside}
use Rattle.cop_setup.proofs.CobIdLemmas.{Own, AtCobId, apart_of, values_of, sub_of}

-- ---- numbers

on_small : (v id : ℕ) → id < 2 ^ 11 → pdo.on v id < 2 ^ 31
on_small v id h = omega (arith, h)

off_small : (v : ℕ) → pdo.off v < 2 ^ 32
off_small v = omega arith

on_exists : (v id : ℕ) → id < 2 ^ 11 → exists_by (pdo.on v id) ≡ true
on_exists v id h = let low = on_small v id h in grind (arith, nat_tests)

on_identifier : (v id : ℕ) → id < 2 ^ 11 → pdo.on v id % 2 ^ 30 ≡ id
on_identifier v id h = omega (arith, h)

off_exists : (v : ℕ) → exists_by (pdo.off v) ≡ false
off_exists v = grind (arith, nat_tests)

word_number : (n : ℕ) → n < 2 ^ 32 → number (word n) ≡ n
word_number n h = own_number 4 n h

-- ---- what a value of 4 bytes makes of a COB-ID

is_32 : (e : Entry) (v : ℕ) → unsigned32_of e ≡ Some v → is_unsigned32 e.description.data_type ≡ true
is_32 e v h = by_test (is_unsigned32 e.description.data_type) h
  where
    by_test : (b : Bool) → cond b (Some (number e.value)) None ≡ Some v → b ≡ true
    by_test true h = refl
    by_test false h = cc

has_word : (e : Entry) (v n : ℕ) → unsigned32_of e ≡ Some v → n < 2 ^ 32 → unsigned32_of (valued (word n) e) ≡ Some n
has_word e v n h small = rw (is_32 e v h, word_number n small) refl

keeps_type : (e : Entry) (v n : ℕ) → unsigned32_of e ≡ Some v → unsigned32_of (valued (word n) e) ≡ Some (number (word n))
keeps_type e v n h = rw (is_32 e v h) refl

beat_elsewhere : (time index : ℕ) (o : Option ℤ) → IsElsewhere index 1 (time_set time o)
beat_elsewhere time index None = tt
beat_elsewhere time index (Some now) = by_test (int_eq now (pos time))
  where
    by_test : (b : Bool) → IsElsewhere index 1 (cond b [] (heartbeat_set time ∷ []))
    by_test true = tt
    by_test false = (and-false (0x1017 == index), tt)

-- a COB-ID after it is switched on, where it is
abbrev switched : Option ℕ → ℕ → Option Entry → Option Entry
switched None v o = o
switched (Some id) v o = option_map (valued (word (pdo.on v id))) o

module _ (dict : List Entry) (asked : List Setting) (ids : ℕ → Option ℕ) (time : ℕ) (can : Admits dict ids time) (are : AreTaken dict asked) (low : (index id : ℕ) → ids index ≡ Some id → id < 2 ^ 11) where
  here_at : (e : Entry) → Contains dict e → is_cob_id e ≡ true → entry_at dict e.index 1 ≡ Some e
  here_at e inside cob = ap (entry_at dict e.index) (sym (sub_of e cob)) ∙ own_place dict e can.sorted inside

  -- what is set of other entries is elsewhere
  elsewhere_of : (f : Entry → Option Setting) (own : Own f) (e : Entry) → Contains dict e → is_cob_id e ≡ true → f e ≡ None → (xs : List Entry) → All (Contains dict) xs → IsElsewhere e.index 1 (filter_map f xs)
  elsewhere_of f own e inside cob none [] all = tt
  elsewhere_of f own e inside cob none (x ∷ xs) all = by_first (f x) refl (own x) (elsewhere_of f own e inside cob none xs (λ k d lt. all (suc k) d (omega arith)))
    where
      first : Contains dict x
      first = all 0 x (omega arith)

      apart : (s : Setting) → f x ≡ Some s → AtCobId x s → (b : Bool) → (x.index == e.index) ≡ b → b ≡ false
      apart s is at false t = refl
      apart s is at true t =
          let i : x.index ≡ e.index = eqb-true x.index e.index t in
          let both : ◌≡◌ {A = Option Entry} (Some x) (Some e) = sym (here_at x first at.0) ∙ ap (λ (n : ℕ). entry_at dict n 1) i ∙ here_at e inside cob in
          let same : x ≡ e = cc in
          let clash : ◌≡◌ {A = Option Setting} (Some s) None = sym is ∙ ap f same ∙ none in
          absurd (cc)

      by_first : (o : Option Setting) → f x ≡ o → IfSome o (AtCobId x) → IsElsewhere e.index 1 (filter_map f xs) → IsElsewhere e.index 1 (cons_option o (filter_map f xs))
      by_first None is at rest = rest
      by_first (Some s) is at rest =
          let no : (x.index == e.index) ≡ false = apart s is at (x.index == e.index) refl in
          (rw (at.1.0, no) refl, rest)

  abbrev offs : List Setting
  offs = filter_map (set_of off_set ids) dict

  abbrev ons : List Setting
  ons = filter_map (set_of on_set ids) dict

  abbrev beat : List Setting
  beat = time_set time (option_and_then whole_of (entry_at dict 0x1017 0))

  -- with what is asked, after the PDOs are switched off
  abbrev equipped : List Entry
  equipped = planned (planned dict offs) asked

  all_inside : All (Contains dict) dict
  all_inside = λ k d lt. (k, lt, get_or_default dict k (get_or dict k d) d lt)

  -- after the PDOs are switched off
  off_value : (e : Entry) (v : ℕ) → Contains dict e → is_cob_id e ≡ true → unsigned32_of e ≡ Some v → (b : Bool) → (is_some (ids e.index) || exists_by v) ≡ b
      → entry_at (planned dict offs) e.index 1 ≡ cond b (Some (valued (word (pdo.off v)) e)) (Some e)
  off_value e v inside cob is true t =
      let set : set_of off_set ids e ≡ Some (cob_id_set e.index (pdo.off v)) = rw (cob, is, t) refl in
      let have = values_of (set_of off_set ids) (off_own ids) dict (planned dict offs) dict (have_values offs dict (apart_of (set_of off_set ids) (off_own ids) dict can.sorted)) inside.0 e inside.1 in
      let own = subst (λ (x : Entry). IfSome (set_of off_set ids x) (λ s. entry_at (planned dict offs) s.index s.sub ≡ option_map (valued (bytes_of s)) (entry_at dict s.index s.sub))) inside.2 have in
      (rw set at own) ∙ ap (option_map (valued (word (pdo.off v)))) (here_at e inside cob)
  off_value e v inside cob is false t =
      let set : set_of off_set ids e ≡ None = rw (cob, is, t) refl in
      kept_by_all offs dict e.index 1 (elsewhere_of (set_of off_set ids) (off_own ids) e inside cob set dict all_inside) ∙ here_at e inside cob

  -- and after those of the plan are switched on
  on_value : (e : Entry) (v : ℕ) → Contains dict e → is_cob_id e ≡ true → unsigned32_of e ≡ Some v → (o : Option ℕ) → ids e.index ≡ o
      → entry_at (planned equipped ons) e.index 1 ≡ switched o v (entry_at equipped e.index 1)
  on_value e v inside cob is (Some id) t =
      let set : set_of on_set ids e ≡ Some (cob_id_set e.index (pdo.on v id)) = rw (cob, is, t) refl in
      let have = values_of (set_of on_set ids) (on_own ids) equipped (planned equipped ons) dict (have_values ons equipped (apart_of (set_of on_set ids) (on_own ids) dict can.sorted)) inside.0 e inside.1 in
      let own = subst (λ (x : Entry). IfSome (set_of on_set ids x) (λ s. entry_at (planned equipped ons) s.index s.sub ≡ option_map (valued (bytes_of s)) (entry_at equipped s.index s.sub))) inside.2 have in
      rw set at own
  on_value e v inside cob is None t =
      let set : set_of on_set ids e ≡ None = rw (cob, is, t) refl in
      kept_by_all ons equipped e.index 1 (elsewhere_of (set_of on_set ids) (on_own ids) e inside cob set dict all_inside)

  equipped_value : (e : Entry) → is_cob_id e ≡ true → entry_at equipped e.index 1 ≡ entry_at (planned dict offs) e.index 1
  equipped_value e cob = kept_by_all asked (planned dict offs) e.index 1 (asked_beside asked e.index 1 are.settable (and_parts (is_communication e.index) (e.sub == 1) cob).0)

  at_end : (e : Entry) → entry_at (planned dict (settings_of dict asked ids time)) e.index 1 ≡ entry_at (planned equipped ons) e.index 1
  at_end e =
      ap (λ (d : List Entry). entry_at d e.index 1)
      (planned_append ((offs ++ asked) ++ ons) beat dict ∙ ap (λ (d : List Entry). planned d beat) (planned_append (offs ++ asked) ons dict ∙ ap (λ (d : List Entry). planned d ons) (planned_append offs asked dict)))
      ∙ kept_by_all beat (planned equipped ons) e.index 1 (beat_elsewhere time e.index (option_and_then whole_of (entry_at dict 0x1017 0)))

  pub as_planned : (e : Entry) (v : ℕ) → Contains dict e → is_cob_id e ≡ true → unsigned32_of e ≡ Some v
      → IsAsPlanned (ids e.index) (option_and_then unsigned32_of (entry_at (planned dict (settings_of dict asked ids time)) e.index 1))
  as_planned e v inside cob is = rw (at_end e) (by_id (ids e.index) refl (exists_by v) refl)
    where
      by_id : (o : Option ℕ) → ids e.index ≡ o → (b : Bool) → exists_by v ≡ b → IsAsPlanned o (option_and_then unsigned32_of (entry_at (planned equipped ons) e.index 1))
      by_id (Some id) own b ex =
          let t : (is_some (ids e.index) || exists_by v) ≡ true = rw own refl in
          let small : id < 2 ^ 11 = low e.index id own in
          let fits : pdo.on v id < 2 ^ 32 = let s = on_small v id small in omega (arith, s) in
          let off = equipped_value e cob ∙ off_value e v inside cob is true t in
          let on : entry_at (planned equipped ons) e.index 1 ≡ Some (valued (word (pdo.on v id)) (valued (word (pdo.off v)) e)) =
          on_value e v inside cob is (Some id) own ∙ ap (option_map (valued (word (pdo.on v id)))) off in
          let now : unsigned32_of (valued (word (pdo.on v id)) (valued (word (pdo.off v)) e)) ≡ Some (pdo.on v id) =
          has_word (valued (word (pdo.off v)) e) (number (word (pdo.off v))) (pdo.on v id) (keeps_type e v (pdo.off v) is) fits in
          rw (on, now) (on_exists v id small, on_identifier v id small)
      by_id None own true ex =
          let t : (is_some (ids e.index) || exists_by v) ≡ true = rw (own, ex) refl in
          let on : entry_at (planned equipped ons) e.index 1 ≡ Some (valued (word (pdo.off v)) e) = on_value e v inside cob is None own ∙ equipped_value e cob ∙ off_value e v inside cob is true t in
          let now : unsigned32_of (valued (word (pdo.off v)) e) ≡ Some (pdo.off v) = has_word e v (pdo.off v) is (off_small v) in
          rw (on, now) (off_exists v)
      by_id None own false ex =
          let t : (is_some (ids e.index) || exists_by v) ≡ false = rw (own, ex) refl in
          let on : entry_at (planned equipped ons) e.index 1 ≡ Some e = on_value e v inside cob is None own ∙ equipped_value e cob ∙ off_value e v inside cob is false t in
          rw (on, is) ex
