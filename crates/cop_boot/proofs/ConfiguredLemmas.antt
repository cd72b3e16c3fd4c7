-- A node that is ready was configured.
use Rattle.std.proofs.Common.{◌≡◌, ℕ, suc, ◌+◌, ◌<◌, ◌≤◌, Bool, true, false, cond, List, [], ◌∷◌, ◌++◌, length, reverse, refl, ap, sym, ◌∙◌, subst, arith, nat_lt, nat_le, ◌==◌, Option, Some, None, append_assoc, ◌&&◌, ◌⊎◌, inl, inr, length-append}
use Rattle.std.specs.Prelude.{slice_get}
use Rattle.std.specs.Option.{option_or}
use Rattle.std.proofs.lemmas.Bool.Decides.{nat_tests}
use Rattle.std.proofs.lemmas.List.{append-nil, reverse-append}
use Rattle.cop_sdo.specs.Reply.{reply_of}
use Rattle.cop_setup.specs.declared.setting.Setting.{Setting}
use Rattle.cop_boot.specs.declared.«end».End.{End}
use Rattle.cop_boot.specs.declared.«end».End.TheVariants.{Ready, Silent, Restarting}
use Rattle.cop_boot.specs.Settings.{address_of}
use Rattle.cop_boot.specs.Node.{refusal}
use Rattle.cop_boot.specs.Ends.{Event, BootUp, Answer, Reached, boots, answers, refused_end, ended_by, first_end, is_too_late, is_confirmed, ready_after, end_of, ConfirmInTurn, IsConfigured}

-- how many answers are among events
abbrev count : List Event → ℕ
count [] = 0
count (BootUp at ∷ events) = count events
count (Answer at body ∷ events) = suc (count events)
count (Reached at ∷ events) = count events

confirm_more : (xs : List Setting) (events : List Event) (event : Event) → ConfirmInTurn xs events → ConfirmInTurn xs (events ++ event ∷ [])
confirm_more [] events event h = tt
confirm_more (s ∷ xs) [] event h = absurd h
confirm_more (s ∷ xs) (Answer at body ∷ events) event h = (h.0, confirm_more xs events event h.1)
confirm_more (s ∷ xs) (BootUp at ∷ events) event h = confirm_more (s ∷ xs) events event h
confirm_more (s ∷ xs) (Reached at ∷ events) event h = confirm_more (s ∷ xs) events event h

no_suc : (n : ℕ) → suc n ≡ 0 → ⊥
no_suc n h = omega (arith, h)

less_suc : (n m : ℕ) → suc n ≡ suc m → n ≡ m
less_suc n m h = omega (arith, h)

confirm_one : (xs : List Setting) (events : List Event) (s : Setting) (at : ℕ) (body : List ℕ) → count events ≡ length xs → ConfirmInTurn xs events
    → refusal (address_of s) (reply_of body) ≡ None → ConfirmInTurn (xs ++ s ∷ []) (events ++ Answer at body ∷ [])
confirm_one [] [] s at body n h r = (r, tt)
confirm_one [] (BootUp then ∷ events) s at body n h r = confirm_one [] events s at body n h r
confirm_one [] (Answer then other ∷ events) s at body n h r = absurd (no_suc (count events) n)
confirm_one [] (Reached then ∷ events) s at body n h r = confirm_one [] events s at body n h r
confirm_one (x ∷ xs) [] s at body n h r = absurd h
confirm_one (x ∷ xs) (BootUp then ∷ events) s at body n h r = confirm_one (x ∷ xs) events s at body n h r
confirm_one (x ∷ xs) (Answer then other ∷ events) s at body n h r = (h.0, confirm_one xs events s at body (less_suc (count events) (length xs) n) h.1 r)
confirm_one (x ∷ xs) (Reached then ∷ events) s at body n h r = confirm_one (x ∷ xs) events s at body n h r

boots_both : (xs ys : List Event) → boots (xs ++ ys) ≡ boots xs + boots ys
boots_both [] ys = omega arith
boots_both (BootUp at ∷ xs) ys = let h = boots_both xs ys in omega (arith, h)
boots_both (Answer at body ∷ xs) ys = boots_both xs ys
boots_both (Reached at ∷ xs) ys = boots_both xs ys

count_both : (xs ys : List Event) → count (xs ++ ys) ≡ count xs + count ys
count_both [] ys = omega arith
count_both (BootUp at ∷ xs) ys = count_both xs ys
count_both (Answer at body ∷ xs) ys = let h = count_both xs ys in omega (arith, h)
count_both (Reached at ∷ xs) ys = count_both xs ys

get_behind : (xs rest : List Setting) (s : Setting) (n : ℕ) → n ≡ length xs → slice_get (xs ++ s ∷ rest) n ≡ Some s
get_behind xs rest s n e = ap (slice_get (xs ++ s ∷ rest)) e ∙ there xs
  where
    there : (xs : List Setting) → slice_get (xs ++ s ∷ rest) (length xs) ≡ Some s
    there [] = refl
    there (x ∷ xs) = there xs

-- what the events so far say of a node, of which the past is the same, the latest first
record SoFar (settings : List Setting) (all past : List Event) : Type 0 where
  before : List Event
  at : ℕ
  after : List Event
  done : List Setting
  rest : List Setting
  split : all ≡ before ++ BootUp at ∷ after
  last : boots after ≡ 0
  parts : settings ≡ done ++ rest
  confirmed : ConfirmInTurn done after
  many : ((length done ≡ answers past) × (count after ≡ answers past)) ⊎ (rest ≡ [])

abbrev IsOn : List Setting → List Event → List Event → Type 0
IsOn settings all past = ((boots past == 0) ≡ true) ⊎ SoFar settings all past

module _ (number limit : ℕ) (settings : List Setting) where
  -- nothing ends a boot as ready
  not_ready : (past : List Event) (event : Event) → ended_by number limit settings past event ≡ Some Ready → ⊥
  not_ready past (BootUp at) h = by_test (boots past == 3) h
    where
      by_test : (b : Bool) → cond b (Some (Restarting number)) None ≡ Some Ready → ⊥
      by_test true h = cc
      by_test false h = cc
  not_ready past (Answer at body) h = by_test (boots past == 0) (slice_get settings (answers past)) h
    where
      by_refusal : (s : Setting) (o : Option ℕ) → refusal (address_of s) (reply_of body) ≡ o → refused_end number body (Some s) ≡ Some Ready → ⊥
      by_refusal s None e h = let other : refused_end number body (Some s) ≡ None = rw e refl in cc
      by_refusal s (Some code) e h = let other = rw e at h in cc

      by_test : (b : Bool) (o : Option Setting) → cond b None (refused_end number body o) ≡ Some Ready → ⊥
      by_test true o h = cc
      by_test false None h = cc
      by_test false (Some s) h = by_refusal s (refusal (address_of s) (reply_of body)) refl h
  not_ready past (Reached at) h = by_test (is_too_late limit settings past at) h
    where
      by_test : (b : Bool) → cond b (Some (Silent number)) None ≡ Some Ready → ⊥
      by_test true h = cc
      by_test false h = cc

  first_not_ready : (events past : List Event) → first_end number limit settings past events ≡ Some Ready → ⊥
  first_not_ready [] past h = cc
  first_not_ready (event ∷ events) past h = by_end (ended_by number limit settings past event) refl h (first_not_ready events (event ∷ past))
    where
      by_end : (o : Option End) → ended_by number limit settings past event ≡ o → option_or o (first_end number limit settings (event ∷ past) events) ≡ Some Ready
          → (first_end number limit settings (event ∷ past) events ≡ Some Ready → ⊥) → ⊥
      by_end None e h more = more h
      by_end (Some x) e h more = not_ready past event (e ∙ h)

  -- an answer that ended nothing confirmed the setting that was out
  accepted : (past : List Event) (at : ℕ) (body : List ℕ) (s : Setting) → (boots past == 0) ≡ false → slice_get settings (answers past) ≡ Some s
      → ended_by number limit settings past (Answer at body) ≡ None → refusal (address_of s) (reply_of body) ≡ None
  accepted past at body s some get h = by_refusal (refusal (address_of s) (reply_of body)) refl (rw (some, get) at h)
    where
      by_refusal : (o : Option ℕ) → refusal (address_of s) (reply_of body) ≡ o → refused_end number body (Some s) ≡ None → refusal (address_of s) (reply_of body) ≡ None
      by_refusal None e h = e
      by_refusal (Some code) e h = let other = rw e at h in cc

  answered_on : (all past : List Event) (at : ℕ) (body : List ℕ) → ended_by number limit settings past (Answer at body) ≡ None → IsOn settings all past
      → IsOn settings (all ++ Answer at body ∷ []) (Answer at body ∷ past)
  answered_on all past at body h (inl none) = inl none
  answered_on all past at body h (inr s) = by_boots (boots past == 0) refl
    where
      event : Event
      event = Answer at body

      split : all ++ event ∷ [] ≡ s.before ++ BootUp s.at ∷ (s.after ++ event ∷ [])
      split = ap (λ l. l ++ event ∷ []) s.split ∙ append_assoc s.before (BootUp s.at ∷ s.after) (event ∷ [])

      last : boots (s.after ++ event ∷ []) ≡ 0
      last = boots_both s.after (event ∷ []) ∙ ap (λ n. n + 0) s.last

      by_rest : (rest : List Setting) → s.rest ≡ rest → (boots past == 0) ≡ false → ((length s.done ≡ answers past) × (count s.after ≡ answers past)) ⊎ (s.rest ≡ []) → SoFar settings (all ++ event ∷ []) (event ∷ past)
      by_rest rest e some (inr none) = record {
        before = s.before;
        at = s.at;
        after = s.after ++ event ∷ [];
        done = s.done;
        rest = s.rest;
        split = split;
        last = last;
        parts = s.parts;
        confirmed = confirm_more s.done s.after event s.confirmed;
        many = inr none;
      }
      by_rest [] e some (inl m) = record {
        before = s.before;
        at = s.at;
        after = s.after ++ event ∷ [];
        done = s.done;
        rest = s.rest;
        split = split;
        last = last;
        parts = s.parts;
        confirmed = confirm_more s.done s.after event s.confirmed;
        many = inr e;
      }
      by_rest (x ∷ more) e some (inl m) =
          let parts : settings ≡ s.done ++ (x ∷ more) = s.parts ∙ ap (λ l. s.done ++ l) e in
          let get : slice_get settings (answers past) ≡ Some x = ap (λ l. slice_get l (answers past)) parts ∙ get_behind s.done more x (answers past) (sym m.0) in
          let holds = accepted past at body x some get h in
          let l : length (s.done ++ x ∷ []) ≡ length s.done + 1 = length-append s.done (x ∷ []) in
          let n : count (s.after ++ event ∷ []) ≡ count s.after + 1 = count_both s.after (event ∷ []) in
          record {
            before = s.before;
            at = s.at;
            after = s.after ++ event ∷ [];
            done = s.done ++ x ∷ [];
            rest = more;
            split = split;
            last = last;
            parts = parts ∙ sym (append_assoc s.done (x ∷ []) more);
            confirmed = confirm_one s.done s.after x at body (m.1 ∙ sym m.0) s.confirmed holds;
            many = inl (omega (arith, l, m.0), omega (arith, n, m.1));
          }

      by_boots : (b : Bool) → (boots past == 0) ≡ b → IsOn settings (all ++ event ∷ []) (event ∷ past)
      by_boots true none = inl none
      by_boots false some = inr (by_rest s.rest refl some s.many)

  reached_on : (all past : List Event) (at : ℕ) → IsOn settings all past → IsOn settings (all ++ Reached at ∷ []) (Reached at ∷ past)
  reached_on all past at (inl none) = inl none
  reached_on all past at (inr s) =
      let n : count (s.after ++ Reached at ∷ []) ≡ count s.after + 0 = count_both s.after (Reached at ∷ []) in
      inr (record {
        before = s.before;
        at = s.at;
        after = s.after ++ Reached at ∷ [];
        done = s.done;
        rest = s.rest;
        parts = s.parts;
        split = ap (λ l. l ++ Reached at ∷ []) s.split ∙ append_assoc s.before (BootUp s.at ∷ s.after) (Reached at ∷ []);
        last = boots_both s.after (Reached at ∷ []) ∙ ap (λ n. n + 0) s.last;
        confirmed = confirm_more s.done s.after (Reached at) s.confirmed;
        many = elim (s.many) [ inl m ↦ inl (m.0, omega (arith, n, m.1)) | inr none ↦ inr none ];
      })

  event_on : (all past : List Event) (event : Event) → ended_by number limit settings past event ≡ None → IsOn settings all past → IsOn settings (all ++ event ∷ []) (event ∷ past)
  event_on all past (BootUp at) h s = inr (record { before = all; at = at; after = []; done = []; rest = settings; split = refl; last = refl; parts = refl; confirmed = tt; many = inl (refl, refl) })
  event_on all past (Answer at body) h s = answered_on all past at body h s
  event_on all past (Reached at) h s = reached_on all past at s

  -- at the end
  all_done : (all past : List Event) → is_confirmed settings past ≡ true → IsOn settings all past → IsConfigured settings all
  all_done all past h s = by_tests (boots past) refl (nat_le (length settings) (answers past)) refl h s
    where
      by_many : (s : SoFar settings all past) → nat_le (length settings) (answers past) ≡ true → ((length s.done ≡ answers past) × (count s.after ≡ answers past)) ⊎ (s.rest ≡ []) → settings ≡ s.done
      by_many s le (inr none) = s.parts ∙ ap (λ l. s.done ++ l) none ∙ append-nil s.done
      by_many s le (inl m) = by_rest s.rest refl
        where
          too_many : (n k more : ℕ) → nat_le n k ≡ true → n ≡ k + suc more → ⊥
          too_many n k more le e = grind (arith, nat_tests)

          by_rest : (rest : List Setting) → s.rest ≡ rest → settings ≡ s.done
          by_rest [] e = s.parts ∙ ap (λ l. s.done ++ l) e ∙ append-nil s.done
          by_rest (x ∷ more) e =
              let l : length settings ≡ length s.done + suc (length more) = ap length (s.parts ∙ ap (λ l. s.done ++ l) e) ∙ length-append s.done (x ∷ more) in
              absurd (too_many (length settings) (answers past) (length more) le (l ∙ ap (λ n. n + suc (length more)) m.0))

      by_tests : (n : ℕ) → boots past ≡ n → (le : Bool) → nat_le (length settings) (answers past) ≡ le → (nat_lt 0 n && le) ≡ true → IsOn settings all past → IsConfigured settings all
      by_tests n e le f h (inl none) = absurd (clash n (rw e at none) (first_of (nat_lt 0 n) le h))
        where
          first_of : (a b : Bool) → (a && b) ≡ true → a ≡ true
          first_of true b h = refl
          first_of false b h = cc

          clash : (n : ℕ) → (n == 0) ≡ true → nat_lt 0 n ≡ true → ⊥
          clash n a b = grind (arith, nat_tests)
      by_tests n e le f h (inr s) =
          let holds : nat_le (length settings) (answers past) ≡ true = f ∙ second_of (nat_lt 0 n) le h in
          record { before = s.before; at = s.at; after = s.after; split = s.split; last = s.last; confirmed = subst (λ l. ConfirmInTurn l s.after) (sym (by_many s holds s.many)) s.confirmed }
        where
          second_of : (a b : Bool) → (a && b) ≡ true → b ≡ true
          second_of true b h = h
          second_of false b h = cc

  none_both : (a b : Option End) → option_or a b ≡ None → (a ≡ None) × (b ≡ None)
  none_both None b h = (refl, h)
  none_both (Some x) b h = cc

  configured_after : (events all past : List Event) → first_end number limit settings past events ≡ None → IsOn settings all past → is_confirmed settings (reverse events ++ past) ≡ true → IsConfigured settings (all ++ events)
  configured_after [] all past h s holds = subst (IsConfigured settings) (sym (append-nil all)) (all_done all past holds s)
  configured_after (event ∷ events) all past h s holds =
      let both = none_both (ended_by number limit settings past event) (first_end number limit settings (event ∷ past) events) h in
      let same : reverse (event ∷ events) ++ past ≡ reverse events ++ (event ∷ past) = ap (λ l. l ++ past) (reverse-append (event ∷ []) events) ∙ append_assoc (reverse events) (event ∷ []) past in
      subst (IsConfigured settings) (append_assoc all (event ∷ []) events)
      (configured_after events (all ++ event ∷ []) (event ∷ past) both.1 (event_on all past event both.0 s) (ap (is_confirmed settings) (sym same) ∙ holds))

  -- who is ready was configured
  pub ready_configured : (events : List Event) → end_of number limit settings events ≡ Some Ready → IsConfigured settings events
  ready_configured events h = by_end (first_end number limit settings [] events) refl h
    where
      by_confirmed : (b : Bool) → is_confirmed settings (reverse events) ≡ b → cond b (Some Ready) None ≡ Some Ready → is_confirmed settings (reverse events) ≡ true
      by_confirmed true e h = e
      by_confirmed false e h = cc

      by_end : (o : Option End) → first_end number limit settings [] events ≡ o → option_or o (ready_after settings (reverse events)) ≡ Some Ready → IsConfigured settings events
      by_end (Some x) e h = absurd (first_not_ready events [] (e ∙ h))
      by_end None e h =
          let holds = by_confirmed (is_confirmed settings (reverse events)) refl h in
          configured_after events [] [] e (inl refl) (ap (is_confirmed settings) (append-nil (reverse events)) ∙ holds)

-- ---- the other way

-- each setting has an answer
confirm_counts : (settings : List Setting) (events : List Event) → ConfirmInTurn settings events → length settings ≤ count events
confirm_counts [] events h = omega arith
confirm_counts (s ∷ rest) [] h = absurd h
confirm_counts (s ∷ rest) (Answer at body ∷ events) h = let more = confirm_counts rest events h.1 in omega (arith, more)
confirm_counts (s ∷ rest) (BootUp at ∷ events) h = confirm_counts (s ∷ rest) events h
confirm_counts (s ∷ rest) (Reached at ∷ events) h = confirm_counts (s ∷ rest) events h

-- of events, the latest first, those behind the last boot-up
answers_behind : (xs ys : List Event) (at : ℕ) → boots xs ≡ 0 → answers (xs ++ BootUp at ∷ ys) ≡ count xs
answers_behind [] ys at h = refl
answers_behind (BootUp then ∷ xs) ys at h = absurd (no_suc (boots xs) h)
answers_behind (Answer then body ∷ xs) ys at h = ap suc (answers_behind xs ys at h)
answers_behind (Reached then ∷ xs) ys at h = answers_behind xs ys at h

reverse_front : (x : Event) (xs : List Event) → reverse (x ∷ xs) ≡ reverse xs ++ x ∷ []
reverse_front x xs = reverse-append (x ∷ []) xs

count_reverse : (xs : List Event) → count (reverse xs) ≡ count xs
count_reverse [] = refl
count_reverse (x ∷ xs) =
    let both = count_both (reverse xs) (x ∷ []) in
    let same = count_both (x ∷ []) xs in
    ap count (reverse_front x xs) ∙ omega (arith, both, same, count_reverse xs)

boots_reverse : (xs : List Event) → boots (reverse xs) ≡ boots xs
boots_reverse [] = refl
boots_reverse (x ∷ xs) =
    let both = boots_both (reverse xs) (x ∷ []) in
    let same = boots_both (x ∷ []) xs in
    ap boots (reverse_front x xs) ∙ omega (arith, both, same, boots_reverse xs)

module _ (number limit : ℕ) (settings : List Setting) (events : List Event) (h : IsConfigured settings events) where
  past_is : reverse events ≡ reverse h.after ++ BootUp h.at ∷ reverse h.before
  past_is =
      ap reverse h.split ∙ reverse-append h.before (BootUp h.at ∷ h.after) ∙ ap (λ l. l ++ reverse h.before) (reverse_front (BootUp h.at) h.after)
      ∙ append_assoc (reverse h.after) (BootUp h.at ∷ []) (reverse h.before)

  confirmed_so : is_confirmed settings (reverse events) ≡ true
  confirmed_so =
      let none : boots (reverse h.after) ≡ 0 = boots_reverse h.after ∙ h.last in
      let some : boots (reverse events) ≡ boots (reverse h.after) + suc (boots (reverse h.before)) = ap boots past_is ∙ boots_both (reverse h.after) (BootUp h.at ∷ reverse h.before) in
      let all : answers (reverse events) ≡ count h.after = ap answers past_is ∙ answers_behind (reverse h.after) (reverse h.before) h.at none ∙ count_reverse h.after in
      by_counts (boots (reverse events)) (answers (reverse events)) (omega (arith, some)) (omega (arith, all, confirm_counts settings h.after h.confirmed))
    where
      by_counts : (b a : ℕ) → 0 < b → length settings ≤ a → (nat_lt 0 b && nat_le (length settings) a) ≡ true
      by_counts b a some all = grind (arith, nat_tests)

  -- who was configured is ready, where nothing else ended its boot
  pub confirmed_ready : first_end number limit settings [] events ≡ None → end_of number limit settings events ≡ Some Ready
  confirmed_ready none = ap (λ o. option_or o (ready_after settings (reverse events))) none ∙ ap (λ b. cond b (Some Ready) None) confirmed_so
