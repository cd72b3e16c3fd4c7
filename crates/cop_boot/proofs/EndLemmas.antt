-- A node's phase is what came from it says.
use Rattle.std.proofs.Common.{◌≡◌, ℕ, zero, suc, ◌+◌, Bool, true, false, cond, List, [], ◌∷◌, ◌++◌, length, reverse, refl, ap, sym, ◌∙◌, arith, nat_lt, nat_le, ◌==◌, Option, Some, None, append_assoc, ◌&&◌}
use Rattle.std.specs.Prelude.{slice_get}
use Rattle.std.specs.Option.{option_or}
use Rattle.std.proofs.lemmas.Bool.Decides.{nat_tests}
use Rattle.std.proofs.lemmas.List.{append-nil, reverse-append}
use Rattle.cop_sdo.specs.Message.{Message}
use Rattle.cop_sdo.specs.Reply.{reply_of}
use Rattle.cop_setup.specs.declared.setting.Setting.{Setting}
use Rattle.cop_boot.specs.declared.«end».End.{End}
use Rattle.cop_boot.specs.declared.«end».End.TheVariants.{Ready, Silent, Restarting}
use Rattle.cop_boot.specs.declared.«end».Phase.{Phase}
use Rattle.cop_boot.specs.declared.«end».Phase.TheVariants.{Waiting, Sending, Over}
use Rattle.cop_boot.specs.Settings.{address_of}
use Rattle.cop_boot.specs.Node.{Node, Moved, stays, over, sends, goes_on, is_final, booted, refusal, answered, answer_to, judged, awaited, gives_up}
use Rattle.cop_boot.specs.Manager.{end_in}
use Rattle.cop_boot.specs.Ends.{Event, BootUp, Answer, Reached, boots, answers, last_heard, refused_end, ended_by, first_end, ready_after, end_of}

-- what an event does to a node
abbrev pub met_by : Node → Event → Moved
met_by node (BootUp at) = booted node at
met_by node (Answer at body) = answered node at body
met_by node (Reached at) = awaited node at

abbrev pub after_events : Node → List Event → Node
after_events node [] = node
after_events node (event ∷ events) = after_events (met_by node event).node events

-- the phase after a past in which nothing ended the boot
abbrev pub phase_of : List Setting → List Event → Phase
phase_of settings past =
    cond (boots past == 0) (Waiting 0) (cond (nat_lt (answers past) (length settings)) (Sending (answers past) (last_heard past)) (Over Ready))

abbrev pub node_after : ℕ → ℕ → List Setting → List Event → Node
node_after number limit settings past = record { number = number; settings = settings; limit = limit; boots = boots past; phase = phase_of settings past }

-- a setting is there exactly below their number
get_some : (settings : List Setting) (j : ℕ) (s : Setting) → slice_get settings j ≡ Some s → nat_lt j (length settings) ≡ true
get_some [] j s h = cc
get_some (x ∷ rest) zero s h = grind (arith, nat_tests)
get_some (x ∷ rest) (suc j) s h = let more = get_some rest j s h in grind (arith, nat_tests)

get_none : (settings : List Setting) (j : ℕ) → slice_get settings j ≡ None → nat_lt j (length settings) ≡ false
get_none [] j h = grind (arith, nat_tests)
get_none (x ∷ rest) zero h = cc
get_none (x ∷ rest) (suc j) h = let more = get_none rest j h in grind (arith, nat_tests)

get_not : (settings : List Setting) (j : ℕ) → nat_lt j (length settings) ≡ false → slice_get settings j ≡ None
get_not [] j h = refl
get_not (x ∷ rest) zero h = absurd (no_zero (length rest) h)
  where
    no_zero : (n : ℕ) → nat_lt 0 (suc n) ≡ false → ⊥
    no_zero n h = grind (arith, nat_tests)
get_not (x ∷ rest) (suc j) h = get_not rest j (less (length rest) h)
  where
    less : (n : ℕ) → nat_lt (suc j) (suc n) ≡ false → nat_lt j n ≡ false
    less n h = grind (arith, nat_tests)

sent_on : (node : Node) (done now : ℕ) → (goes_on node done now).node ≡ record node { phase = cond (nat_lt done (length node.settings)) (Sending done now) (Over Ready) }
sent_on node done now = by_next (slice_get node.settings done) refl
  where
    by_next : (o : Option Setting) → slice_get node.settings done ≡ o
        → (sends node done now o).node ≡ record node { phase = cond (nat_lt done (length node.settings)) (Sending done now) (Over Ready) }
    by_next None h = rw (get_none node.settings done h) refl
    by_next (Some s) h = rw (get_some node.settings done s h) refl

not_zero : (n : ℕ) → (suc n == 0) ≡ false
not_zero n = grind (arith, nat_tests)

from_zero : (n : ℕ) → 0 + n ≡ n
from_zero n = omega arith

not_final : (settings : List Setting) (past : List Event) → is_final (phase_of settings past) ≡ false
not_final settings past = by_tests (boots past == 0) (nat_lt (answers past) (length settings))
  where
    by_tests : (a b : Bool) → is_final (cond a (Waiting 0) (cond b (Sending (answers past) (last_heard past)) (Over Ready))) ≡ false
    by_tests true b = refl
    by_tests false true = refl
    by_tests false false = refl

-- what an event makes of a node: an end, or the phase that the past with it says
abbrev Steps : ℕ → ℕ → List Setting → List Event → Event → Node → Option End → Type 0
Steps number limit settings past event node (Some e) = (node.phase ≡ Over e) × (is_final (Over e) ≡ true)
Steps number limit settings past event node None = node ≡ node_after number limit settings (event ∷ past)

module _ (number limit : ℕ) (settings : List Setting) (past : List Event) where
  booted_so : (at : ℕ) → Steps number limit settings past (BootUp at) (booted (node_after number limit settings past) at).node (ended_by number limit settings past (BootUp at))
  booted_so at = rw (not_final settings past) (by_test (boots past == 3))
    where
      by_test : (b : Bool) → Steps number limit settings past (BootUp at)
          (cond b (over (node_after number limit settings past) (Restarting number) None) (goes_on (record { number = number; settings = settings; limit = limit; boots = suc (boots past); phase = phase_of settings past }) 0 at)).node
          (cond b (Some (Restarting number)) None)
      by_test true = (refl, refl)
      by_test false = rw not_zero (sent_on (record { number = number; settings = settings; limit = limit; boots = suc (boots past); phase = phase_of settings past }) 0 at)

  abbrev with_phase : Phase → Node
  with_phase p = record { number = number; settings = settings; limit = limit; boots = boots past; phase = p }

  abbrev sending : Node
  sending = record { number = number; settings = settings; limit = limit; boots = boots past; phase = Sending (answers past) (last_heard past) }

  -- while a setting is out
  judged_so : (at : ℕ) (body : List ℕ) → (boots past == 0) ≡ false → (s : Setting) (o : Option ℕ) → refusal (address_of s) (reply_of body) ≡ o
      → Steps number limit settings past (Answer at body) (judged sending (answers past) at s (reply_of body) o).node (refused_end number body (Some s))
  judged_so at body some s None r = rw (r, some) (sent_on sending (suc (answers past)) at)
  judged_so at body some s (Some code) r = rw r (refl, refl)

  answered_so : (at : ℕ) (body : List ℕ) → Steps number limit settings past (Answer at body) (answered (node_after number limit settings past) at body).node (ended_by number limit settings past (Answer at body))
  answered_so at body = by_boots (boots past == 0) refl
    where
      by_get : (o : Option Setting) → slice_get settings (answers past) ≡ o → (boots past == 0) ≡ false → nat_lt (answers past) (length settings) ≡ true
          → Steps number limit settings past (Answer at body) (answer_to sending (answers past) at body o).node (refused_end number body o)
      by_get None g some lt = absurd (clash (get_none settings (answers past) g) lt)
        where
          clash : {b : Bool} → b ≡ false → b ≡ true → ⊥
          clash f t = cc
      by_get (Some s) g some lt = judged_so at body some s (refusal (address_of s) (reply_of body)) refl

      past_end : (k n : ℕ) → nat_lt k n ≡ false → nat_lt (suc k) n ≡ false
      past_end k n h = grind (arith, nat_tests)

      by_lt : (b : Bool) → nat_lt (answers past) (length settings) ≡ b → (boots past == 0) ≡ false
          → Steps number limit settings past (Answer at body) (answered (node_after number limit settings past) at body).node (ended_by number limit settings past (Answer at body))
      by_lt true lt some = rw (some, lt) (by_get (slice_get settings (answers past)) refl some lt)
      by_lt false lt some =
          let later : Over Ready ≡ phase_of settings (Answer at body ∷ past) = rw (some, past_end (answers past) (length settings) lt) refl in
          rw (some, lt, get_not settings (answers past) lt) (ap with_phase later)

      by_boots : (b : Bool) → (boots past == 0) ≡ b
          → Steps number limit settings past (Answer at body) (answered (node_after number limit settings past) at body).node (ended_by number limit settings past (Answer at body))
      by_boots true none =
          let later : Waiting 0 ≡ phase_of settings (Answer at body ∷ past) = rw none refl in
          rw none (ap with_phase later)
      by_boots false some = by_lt (nat_lt (answers past) (length settings)) refl some

  awaited_so : (at : ℕ) → Steps number limit settings past (Reached at) (awaited (node_after number limit settings past) at).node (ended_by number limit settings past (Reached at))
  awaited_so at = by_boots (boots past == 0) refl
    where
      by_late : (late : Bool) (p : Phase) (frame : Option Message) → p ≡ phase_of settings past → Steps number limit settings past (Reached at)
          (cond late (over (with_phase p) (Silent number) frame) (stays (with_phase p))).node (cond late (Some (Silent number)) None)
      by_late true p frame e = (refl, refl)
      by_late false p frame e = ap with_phase e

      by_lt : (b : Bool) → nat_lt (answers past) (length settings) ≡ b → (boots past == 0) ≡ false
          → Steps number limit settings past (Reached at) (awaited (node_after number limit settings past) at).node (ended_by number limit settings past (Reached at))
      by_lt true lt some =
          rw (some, lt) (by_late (nat_le (last_heard past + 4000000) at) (Sending (answers past) (last_heard past)) (gives_up number (slice_get settings (answers past))) (rw (some, lt) refl))
      by_lt false lt some =
          let later : Over Ready ≡ phase_of settings (Reached at ∷ past) = rw (some, lt) refl in
          rw (some, lt) (ap with_phase later)

      by_boots : (b : Bool) → (boots past == 0) ≡ b
          → Steps number limit settings past (Reached at) (awaited (node_after number limit settings past) at).node (ended_by number limit settings past (Reached at))
      by_boots true none = rw (none, from_zero limit) (by_late (nat_le limit at) (Waiting 0) None (rw none refl))
      by_boots false some = by_lt (nat_lt (answers past) (length settings)) refl some

  step_so : (event : Event) → Steps number limit settings past event (met_by (node_after number limit settings past) event).node (ended_by number limit settings past event)
  step_so (BootUp at) = booted_so at
  step_so (Answer at body) = answered_so at body
  step_so (Reached at) = awaited_so at

  end_so : end_in (phase_of settings past) ≡ ready_after settings past
  end_so = by_tests (boots past) (answers past) (length settings)
    where
      by_more : (k count : ℕ) (b : Bool) → nat_lt k count ≡ b → end_in (cond b (Sending k (last_heard past)) (Over Ready)) ≡ cond (nat_le count k) (Some Ready) None
      by_more k count true h = let no : nat_le count k ≡ false = grind (arith, nat_tests) in rw no refl
      by_more k count false h = let yes : nat_le count k ≡ true = grind (arith, nat_tests) in rw yes refl

      positive : (n : ℕ) → nat_lt 0 (suc n) ≡ true
      positive n = grind (arith, nat_tests)

      by_tests : (n k count : ℕ) → end_in (cond (n == 0) (Waiting 0) (cond (nat_lt k count) (Sending k (last_heard past)) (Over Ready))) ≡ cond (nat_lt 0 n && nat_le count k) (Some Ready) None
      by_tests zero k count = refl
      by_tests (suc n) k count = rw (not_zero n, positive n) (by_more k count (nat_lt k count) refl)

-- an end stands
stands : (node : Node) (e : End) → node.phase ≡ Over e → is_final (Over e) ≡ true → (event : Event) → (met_by node event).node ≡ node
stands node e h f (BootUp at) = rw (h, f) refl
stands node e h f (Answer at body) = rw h refl
stands node e h f (Reached at) = rw h refl

stands_over : (events : List Event) (node : Node) (e : End) → node.phase ≡ Over e → is_final (Over e) ≡ true → end_in (after_events node events).phase ≡ Some e
stands_over [] node e h f = rw h refl
stands_over (event ∷ events) node e h f = ap (λ n. end_in (after_events n events).phase) (stands node e h f event) ∙ stands_over events node e h f

-- the end of a boot, after a past in which nothing ended it
pub ends_after : (number limit : ℕ) (settings : List Setting) (events past : List Event)
    → end_in (after_events (node_after number limit settings past) events).phase
    ≡ option_or (first_end number limit settings past events) (ready_after settings (reverse events ++ past))
ends_after number limit settings [] past = end_so number limit settings past
ends_after number limit settings (event ∷ events) past =
    by_end (ended_by number limit settings past event) (met_by (node_after number limit settings past) event).node (step_so number limit settings past event) (ends_after number limit settings events (event ∷ past))
  where
    same : reverse (event ∷ events) ++ past ≡ reverse events ++ (event ∷ past)
    same = ap (λ l. l ++ past) (reverse-append (event ∷ []) events) ∙ append_assoc (reverse events) (event ∷ []) past

    by_end : (o : Option End) (node : Node) → Steps number limit settings past event node o
        → end_in (after_events (node_after number limit settings (event ∷ past)) events).phase ≡ option_or (first_end number limit settings (event ∷ past) events) (ready_after settings (reverse events ++ (event ∷ past)))
        → end_in (after_events node events).phase ≡ option_or (option_or o (first_end number limit settings (event ∷ past) events)) (ready_after settings (reverse (event ∷ events) ++ past))
    by_end (Some e) node h later = stands_over events node e h.0 h.1
    by_end None node h later =
        ap (λ n. end_in (after_events n events).phase) h ∙ later
        ∙ sym (ap (λ all. option_or (first_end number limit settings (event ∷ past) events) (ready_after settings all)) same)

-- the end of a node that its manager awaits from 0 on
pub ends_so : (number limit : ℕ) (settings : List Setting) (events : List Event)
    → end_in (after_events (record { number = number; settings = settings; limit = limit; boots = 0; phase = Waiting 0 }) events).phase ≡ end_of number limit settings events
ends_so number limit settings events = ends_after number limit settings events [] ∙ ap (λ all. option_or (first_end number limit settings [] events) (ready_after settings all)) (append-nil (reverse events))
