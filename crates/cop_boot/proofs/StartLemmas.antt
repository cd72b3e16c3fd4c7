-- What a manager sends, and when it starts the nodes.
use Rattle.std.proofs.Common.{◌≡◌, ℕ, suc, ◌+◌, Bool, true, false, cond, not, ◌&&◌, List, [], ◌∷◌, ◌++◌, map, max, refl, ap, sym, ◌∙◌, subst, ◌==◌, Option, Some, None, option_map, ◌⊎◌, inl, inr, nat_le, arith, slice_index}
use Rattle.std.specs.Prelude.{filter, option_to_list, slice_get, option_and_then}
use Rattle.std.specs.List.{list_all, AllByRecursion}
use Rattle.cop_dict.specs.declared.abort.Abort.TheVariants as aborts
use Rattle.cop_dict.specs.Codes.{code_of}
use Rattle.cop_sdo.specs.Message.{Message}
use Rattle.cop_sdo.specs.Reply as replies
use Rattle.cop_sdo.specs.Reply.{Reply, is_answer, reply_of}
use Rattle.cop_setup.specs.declared.setting.Setting.{Setting}
use Rattle.cop_boot.specs.declared.«end».End.TheVariants.{Ready, Aborted, Silent, Restarting}
use Rattle.cop_boot.specs.declared.«end».Phase.{Phase}
use Rattle.cop_boot.specs.declared.«end».Phase.TheVariants.{Waiting, Sending, Over}
use Rattle.cop_boot.specs.Settings.{address_of}
use Rattle.cop_boot.specs.Node.{Node, Moved, stays, over, sends, goes_on, is_final, booted, answered, answer_to, judged, awaited, refusal, own_abort, answered_in, awaited_in, gives_up}
use Rattle.cop_boot.specs.Manager.{Managing, Managed, Meeting, Heard, Moment, is_boot_up, heard_by, end_in, is_ready, is_ready_in, end_at, node_of, starting, moved, at_least, heard, met, met_all, driven, waiting_from, begun_at, all_ready, reset_all, start_all, is_command, commands_of, sent_by}
use Rattle.cop_boot.specs.Ends.{event_of, events, end_of, first_end, IsConfigured, Reached}
use Rattle.cop_boot.specs.Sent.{IsAbout, IsForOne, MaySend, WereConfigured}
use Rattle.cop_boot.proofs.StageLemmas.{IfThere}
use Rattle.cop_boot.proofs.EndLemmas.{after_events}
use Rattle.cop_boot.proofs.DriveLemmas.{Keeps, after_keeps, found_map, drives, heard_begun, passed_begun, heard_met, passed_met}
use Rattle.cop_boot.proofs.CommandLemmas.{driven_commands}
use Rattle.cop_boot.proofs.WorldLemmas.{all_are}
use Rattle.cop_boot.proofs.ConfiguredLemmas.{ready_configured, confirmed_ready}

-- ---- each node's own frames

abbrev About : Node → Option Message → Type 0
About node o = IfThere (IsAbout node.number node.settings) o

sends_about : (node : Node) (done now : ℕ) → About node (goes_on node done now).frame
sends_about node done now = by_next (slice_get node.settings done) refl
  where
    by_next : (o : Option Setting) → slice_get node.settings done ≡ o → About node (sends node done now o).frame
    by_next None e = tt
    by_next (Some s) e = (done, s, e, inl refl)

booted_about : (node : Node) (now : ℕ) → About node (booted node now).frame
booted_about node now = by_tests (is_final node.phase) (node.boots == 3)
  where
    by_tests : (a b : Bool) → About node (cond a (stays node) (cond b (over node (Restarting node.number) None) (goes_on (record node { boots = suc node.boots }) 0 now))).frame
    by_tests true b = tt
    by_tests false true = tt
    by_tests false false = sends_about (record node { boots = suc node.boots }) 0 now

aborts_about : (node : Node) (done : ℕ) (s : Setting) → slice_get node.settings done ≡ Some s → (reply : Reply) → About node (own_abort node.number (address_of s) reply)
aborts_about node done s e (replies.Abort code) = tt
aborts_about node done s e (replies.Confirm at) = (done, s, e, inr (code_of aborts.Command, refl))
aborts_about node done s e (replies.ConfirmSegment toggle) = (done, s, e, inr (code_of aborts.Command, refl))
aborts_about node done s e (replies.Value at bytes) = (done, s, e, inr (code_of aborts.Command, refl))
aborts_about node done s e (replies.Size at size) = (done, s, e, inr (code_of aborts.Command, refl))
aborts_about node done s e (replies.Segment toggle bytes is_last) = (done, s, e, inr (code_of aborts.Command, refl))
aborts_about node done s e replies.Other = (done, s, e, inr (code_of aborts.Command, refl))

answered_about : (node : Node) (now : ℕ) (body : List ℕ) (p : Phase) → About node (answered_in node now body p).frame
answered_about node now body (Waiting since) = tt
answered_about node now body (Over e) = tt
answered_about node now body (Sending done since) = by_get (slice_get node.settings done) refl
  where
    by_refusal : (s : Setting) → slice_get node.settings done ≡ Some s → (o : Option ℕ) → About node (judged node done now s (reply_of body) o).frame
    by_refusal s e None = sends_about node (suc done) now
    by_refusal s e (Some code) = aborts_about node done s e (reply_of body)

    by_get : (o : Option Setting) → slice_get node.settings done ≡ o → About node (answer_to node done now body o).frame
    by_get None e = tt
    by_get (Some s) e = by_refusal s e (refusal (address_of s) (reply_of body))

awaited_about : (node : Node) (now : ℕ) (p : Phase) → About node (awaited_in node now p).frame
awaited_about node now (Over e) = tt
awaited_about node now (Waiting since) = by_test (nat_le (since + node.limit) now)
  where
    by_test : (b : Bool) → About node (cond b (over node (Silent node.number) None) (stays node)).frame
    by_test true = tt
    by_test false = tt
awaited_about node now (Sending done since) = by_test (nat_le (since + 4000000) now)
  where
    by_get : (o : Option Setting) → slice_get node.settings done ≡ o → About node (gives_up node.number o)
    by_get None e = tt
    by_get (Some s) e = (done, s, e, inr (code_of aborts.TimeOut, refl))

    by_test : (b : Bool) → About node (cond b (over node (Silent node.number) (gives_up node.number (slice_get node.settings done))) (stays node)).frame
    by_test true = by_get (slice_get node.settings done) refl
    by_test false = tt

heard_about : (frame : Message) (now : ℕ) (node : Node) → About node (heard_by frame now node).frame
heard_about frame now node = by_tests (is_boot_up node.number frame) (is_answer node.number frame)
  where
    by_tests : (a b : Bool) → About node (cond a (booted node now) (cond b (answered node now frame.body) (stays node))).frame
    by_tests true b = booted_about node now
    by_tests false true = answered_about node now frame.body node.phase
    by_tests false false = tt

-- ---- and those of all

all_both : {A : Type 0} (P : A → Type 0) (xs ys : List A) → AllByRecursion P xs → AllByRecursion P ys → AllByRecursion P (xs ++ ys)
all_both P [] ys a b = b
all_both P (x ∷ xs) ys a b = (a.0, all_both P xs ys a.1 b)

all_so : {A : Type 0} (P Q : A → Type 0) → ((x : A) → P x → Q x) → (xs : List A) → AllByRecursion P xs → AllByRecursion Q xs
all_so P Q f [] h = tt
all_so P Q f (x ∷ xs) h = (f x h.0, all_so P Q f xs h.1)

one_for : (node : Node) (nodes : List Node) (o : Option Message) → About node o → AllByRecursion (IsForOne (node ∷ nodes)) (option_to_list o)
one_for node nodes None h = tt
one_for node nodes (Some frame) h = (inl h, tt)

all_for : (f : Node → Moved) → ((node : Node) → About node (f node).frame) → (nodes : List Node) → AllByRecursion (IsForOne nodes) (sent_by f nodes)
all_for f about [] = tt
all_for f about (node ∷ nodes) =
    all_both (IsForOne (node ∷ nodes)) (option_to_list (f node).frame) (sent_by f nodes) (one_for node nodes (f node).frame (about node))
    (all_so (IsForOne nodes) (IsForOne (node ∷ nodes)) (λ frame h. inr h) (sent_by f nodes) (all_for f about nodes))

all_may : (nodes : List Node) (frames : List Message) → AllByRecursion (IsForOne nodes) frames → AllByRecursion (MaySend nodes) frames
all_may nodes frames h = all_so (IsForOne nodes) (MaySend nodes) (λ frame h. inr (inr h)) frames h

starting_may : (m : Managing) (nodes : List Node) (frames : List Message) → AllByRecursion (MaySend nodes) frames → AllByRecursion (MaySend nodes) (starting m frames).frames
starting_may m nodes frames h = by_test (not m.started && all_ready m.nodes)
  where
    by_test : (b : Bool) → let out : Managed = cond b (record { manager = record m { started = true }; frames = frames ++ start_all ∷ [] }) (record { manager = m; frames = frames }) in AllByRecursion (MaySend nodes) out.frames
    by_test true = all_both (MaySend nodes) frames (start_all ∷ []) h (inr (inl refl), tt)
    by_test false = h

met_may : (m : Managing) (meeting : Meeting) → m.begun ≡ true → AllByRecursion (MaySend m.nodes) (met m meeting).frames
met_may m (Heard frame) begun =
    let clock = max m.clock m.clock in
    rw (heard_begun m frame m.clock begun)
    (starting_may (moved (heard_by frame clock) (at_least m m.clock)) m.nodes (sent_by (heard_by frame clock) m.nodes) (all_may m.nodes (sent_by (heard_by frame clock) m.nodes) (all_for (heard_by frame clock) (heard_about frame clock) m.nodes)))
met_may m (Moment now) begun =
    let clock = max m.clock now in
    rw (passed_begun m now begun)
    (all_may m.nodes (sent_by (λ node. awaited node clock) m.nodes) (all_for (λ node. awaited node clock) (λ node. awaited_about node clock node.phase) m.nodes))

-- nodes keep their numbers and settings
record Stay (nodes later : List Node) : Type 0 where
  by : Node → Node
  keeps : (node : Node) → Keeps node (by node)
  are : later ≡ map by nodes

met_stay : (m : Managing) (meeting : Meeting) → m.begun ≡ true → Stay m.nodes (met m meeting).manager.nodes × ((met m meeting).manager.begun ≡ true)
met_stay m (Heard frame) begun =
    let h = heard_met m frame begun in
    (record { by = λ node. after_events node (event_of node.number m.clock frame); keeps = λ node. after_keeps (event_of node.number m.clock frame) node; are = h.0 }, h.2)
met_stay m (Moment now) begun =
    let h = passed_met m now begun in
    (record { by = λ node. after_events node (Reached (max m.clock now) ∷ []); keeps = λ node. after_keeps (Reached (max m.clock now) ∷ []) node; are = h.0 }, h.2)

for_before : (f : Node → Node) → ((node : Node) → Keeps node (f node)) → (nodes : List Node) (frame : Message) → IsForOne (map f nodes) frame → IsForOne nodes frame
for_before f keeps [] frame h = h
for_before f keeps (node ∷ nodes) frame (inl h) = inl (rw ((keeps node).number, (keeps node).settings) at h)
for_before f keeps (node ∷ nodes) frame (inr h) = inr (for_before f keeps nodes frame h)

may_before : (nodes later : List Node) → Stay nodes later → (frame : Message) → MaySend later frame → MaySend nodes frame
may_before nodes later stay frame (inl h) = inl h
may_before nodes later stay frame (inr (inl h)) = inr (inl h)
may_before nodes later stay frame (inr (inr h)) = inr (inr (for_before stay.by stay.keeps nodes frame (subst (λ l. IsForOne l frame) stay.are h)))

all_met_may : (came : List Meeting) (m : Managing) → m.begun ≡ true → AllByRecursion (MaySend m.nodes) (met_all m came).frames
unfolding met_all
all_met_may [] m begun = tt
all_met_may (meeting ∷ came) m begun =
    let s = met_stay m meeting begun in
    let later = (met m meeting).manager in
    all_both (MaySend m.nodes) (met m meeting).frames (met_all later came).frames (met_may m meeting begun)
    (all_so (MaySend later.nodes) (MaySend m.nodes) (may_before m.nodes later.nodes s.0) (met_all later came).frames (all_met_may came later s.1))

pub all_sent_may : (m : Managing) (came : List Meeting) → AllByRecursion (MaySend m.nodes) (driven m came).frames
all_sent_may m came =
    let later = (begun_at m 0).manager in
    let stay : Stay m.nodes later.nodes = record { by = waiting_from 0; keeps = λ node. record { number = refl; settings = refl }; are = refl } in
    (inl refl, all_so (MaySend later.nodes) (MaySend m.nodes) (may_before m.nodes later.nodes stay) (met_all later came).frames (all_met_may came later refl))

-- ---- the start

second_of : (a b : Bool) → (a && b) ≡ true → b ≡ true
second_of true b h = h
second_of false b h = cc

starting_ready : (m : Managing) (frames : List Message) → m.started ≡ false → (starting m frames).manager.started ≡ true → all_ready (starting m frames).manager.nodes ≡ true
starting_ready m frames before_it begins = by_test (not m.started && all_ready m.nodes) refl begins
  where
    by_test : (b : Bool) → (not m.started && all_ready m.nodes) ≡ b
        → (let out : Managed = cond b (record { manager = record m { started = true }; frames = frames ++ start_all ∷ [] }) (record { manager = m; frames = frames }) in out.manager.started ≡ true)
        → (let out : Managed = cond b (record { manager = record m { started = true }; frames = frames ++ start_all ∷ [] }) (record { manager = m; frames = frames }) in all_ready out.manager.nodes ≡ true)
    by_test true e h = second_of (not m.started) (all_ready m.nodes) e
    by_test false e h = let clash : false ≡ true = sym before_it ∙ h in cc

heard_ready : (m : Managing) (frame : Message) (now : ℕ) → m.begun ≡ true → m.started ≡ false → (heard m frame now).manager.started ≡ true → all_ready (heard m frame now).manager.nodes ≡ true
heard_ready m frame now begun before_it begins =
    let clock = max m.clock now in
    let h = heard_begun m frame now begun in
    ap (λ (x : Managed). all_ready x.manager.nodes) h ∙ starting_ready (moved (heard_by frame clock) (at_least m now)) (sent_by (heard_by frame clock) m.nodes) before_it (ap (λ (x : Managed). x.manager.started) (sym h) ∙ begins)

met_ready : (m : Managing) (meeting : Meeting) → m.begun ≡ true → m.started ≡ false → (met m meeting).manager.started ≡ true → all_ready (met m meeting).manager.nodes ≡ true
met_ready m (Heard frame) begun before_it begins = heard_ready m frame m.clock begun before_it begins
met_ready m (Moment now) begun before_it begins = let clash : false ≡ true = sym before_it ∙ ap (λ (x : Managed). x.manager.started) (sym (passed_begun m now begun)) ∙ begins in cc

record Starts (m : Managing) (came : List Meeting) : Type 0 where
  until : List Meeting
  later : List Meeting
  split : came ≡ until ++ later
  ready : all_ready (met_all m until).manager.nodes ≡ true

starts_now : (m : Managing) (meeting : Meeting) (came : List Meeting) → all_ready (met m meeting).manager.nodes ≡ true → Starts m (meeting ∷ came)
unfolding met_all
starts_now m meeting came ready = record { until = meeting ∷ []; later = came; split = refl; ready = ready }

starts_later : (m : Managing) (meeting : Meeting) (came : List Meeting) → Starts (met m meeting).manager came → Starts m (meeting ∷ came)
unfolding met_all
starts_later m meeting came s = record { until = meeting ∷ s.until; later = s.later; split = ap (λ l. meeting ∷ l) s.split; ready = s.ready }

starts : (came : List Meeting) (m : Managing) → m.begun ≡ true → m.started ≡ false → (met_all m came).manager.started ≡ true → Starts m came
unfolding met_all
starts [] m begun before_it begins = let clash : false ≡ true = sym before_it ∙ begins in cc
starts (meeting ∷ came) m begun before_it begins = by_started (met m meeting).manager.started refl (starts came (met m meeting).manager (met_stay m meeting begun).1)
  where
    by_started : (b : Bool) → (met m meeting).manager.started ≡ b → ((met m meeting).manager.started ≡ false → (met_all (met m meeting).manager came).manager.started ≡ true → Starts (met m meeting).manager came) → Starts m (meeting ∷ came)
    by_started true e more = starts_now m meeting came (met_ready m meeting begun before_it e)
    by_started false e more = starts_later m meeting came (more e begins)

all_of : (nodes : List Node) → all_ready nodes ≡ true → list_all is_ready nodes ≡ true
all_of [] h = cc
all_of (node ∷ nodes) h = h

ready_end : (p : Phase) → is_ready_in p ≡ true → end_in p ≡ Some Ready
ready_end (Waiting since) h = cc
ready_end (Sending done since) h = cc
ready_end (Over Ready) h = refl
ready_end (Over (Aborted node index sub code)) h = cc
ready_end (Over (Silent node)) h = cc
ready_end (Over (Restarting node)) h = cc

-- a node stays under its number
stays_found : (nodes later : List Node) → Stay nodes later → (number : ℕ) (node : Node) → node_of nodes number ≡ Some node → (x : Node) × (node_of later number ≡ Some x)
stays_found nodes later stay number node h =
    (stay.by node, ap (λ l. node_of l number) stay.are ∙ found_map stay.by (λ node. (stay.keeps node).number) nodes number ∙ ap (option_map stay.by) h)

met_found : (came : List Meeting) (m : Managing) → m.begun ≡ true → (number : ℕ) (node : Node) → node_of m.nodes number ≡ Some node → (x : Node) × (node_of (met_all m came).manager.nodes number ≡ Some x)
unfolding met_all
met_found [] m begun number node h = (node, h)
met_found (meeting ∷ came) m begun number node h =
    let s = met_stay m meeting begun in
    let x = stays_found m.nodes (met m meeting).manager.nodes s.0 number node h in
    met_found came (met m meeting).manager s.1 number x.0 x.1

-- a node that is ready was configured by what came
pub ready_was_configured : (m : Managing) (came : List Meeting) (number : ℕ) (node : Node) → node_of m.nodes number ≡ Some node → end_at (driven m came).manager.nodes number ≡ Some Ready
    → IsConfigured node.settings (events node.number 0 came)
ready_was_configured m came number node found ready =
    let says : end_of node.number node.limit node.settings (events node.number 0 came) ≡ Some Ready =
    ap (option_and_then (λ node. end_of node.number node.limit node.settings (events node.number 0 came))) (sym found) ∙ sym (drives m came number) ∙ ready in
    ready_configured node.number node.limit node.settings (events node.number 0 came) says

started_configured : (m : Managing) (came : List Meeting) → (driven m came).manager.started ≡ true → WereConfigured m.nodes came
started_configured m came begins =
    let s = starts came (begun_at m 0).manager refl refl begins in
    record {
      until = s.until;
      later = s.later;
      split = s.split;
      each = λ number node found.
          let there = met_found s.until (begun_at m 0).manager refl number (waiting_from 0 node) (found_map (waiting_from 0) (λ node. refl) m.nodes number ∙ ap (option_map (waiting_from 0)) found) in
          let is : is_ready there.0 ≡ true = all_are (met_all (begun_at m 0).manager s.until).manager.nodes number there.0 (all_of (met_all (begun_at m 0).manager s.until).manager.nodes s.ready) there.1 in
          ready_was_configured m s.until number node found (ap (option_and_then (λ node. end_in node.phase)) there.1 ∙ ready_end there.0.phase is);
    }

-- no frame is the start among those whose only command is another
no_start : (before : List Message) (frames : List Message) → filter is_command frames ≡ before → (before ≡ []) ⊎ (before ≡ reset_all ∷ []) → AllByRecursion (λ frame. frame ≡ start_all → ⊥) frames
no_start before [] e h = tt
no_start before (frame ∷ frames) e h = by_test (is_command frame) refl e h (no_start before frames) (no_start [] frames)
  where
    other : reset_all ≡ start_all → ⊥
    other h = let e : 130 ≡ 1 = ap (λ (x : Message). slice_index x.body 0) h in absurd (omega (arith, e))

    by_test : (b : Bool) → is_command frame ≡ b → cond b (frame ∷ filter is_command frames) (filter is_command frames) ≡ before → (before ≡ []) ⊎ (before ≡ reset_all ∷ [])
        → (filter is_command frames ≡ before → (before ≡ []) ⊎ (before ≡ reset_all ∷ []) → AllByRecursion (λ frame. frame ≡ start_all → ⊥) frames)
        → (filter is_command frames ≡ [] → (◌≡◌ {A = List Message} [] []) ⊎ ([] ≡ reset_all ∷ []) → AllByRecursion (λ frame. frame ≡ start_all → ⊥) frames)
        → AllByRecursion (λ frame. frame ≡ start_all → ⊥) (frame ∷ frames)
    by_test false t e h more none = ((λ is. let clash : true ≡ false = ap is_command (sym is) ∙ t in cc), more e h)
    by_test true t e (inl h) more none = let clash : frame ∷ filter is_command frames ≡ [] = e ∙ h in cc
    by_test true t e (inr h) more none =
        let both : frame ∷ filter is_command frames ≡ reset_all ∷ [] = e ∙ h in
        let first : frame ≡ reset_all = cc in
        let rest : filter is_command frames ≡ [] = cc in
        ((λ is. other (sym first ∙ is)), none rest (inl refl))

-- where the start was sent, all nodes were configured
pub start_was_late : (m : Managing) (came : List Meeting) → AllByRecursion (λ frame. frame ≡ start_all → WereConfigured m.nodes came) (driven m came).frames
start_was_late m came = by_started (driven m came).manager.started refl (driven_commands m came)
  where
    by_started : (b : Bool) → (driven m came).manager.started ≡ b → filter is_command (driven m came).frames ≡ commands_of (driven m came).manager.started
        → AllByRecursion (λ frame. frame ≡ start_all → WereConfigured m.nodes came) (driven m came).frames
    by_started true e h = all_const (driven m came).frames
      where
        all_const : (frames : List Message) → AllByRecursion (λ frame. frame ≡ start_all → WereConfigured m.nodes came) frames
        all_const [] = tt
        all_const (frame ∷ frames) = ((λ is. started_configured m came e), all_const frames)
    by_started false e h =
        all_so (λ frame. frame ≡ start_all → ⊥) (λ frame. frame ≡ start_all → WereConfigured m.nodes came) (λ frame before_it is. absurd (before_it is)) (driven m came).frames
        (no_start (commands_of false) (driven m came).frames (h ∙ ap commands_of e) (inr refl))

-- ---- the other way

-- a node that was configured is ready, where nothing else ended its boot
pub configured_is_ready : (m : Managing) (came : List Meeting) (number : ℕ) (node : Node) → node_of m.nodes number ≡ Some node → IsConfigured node.settings (events node.number 0 came)
    → first_end node.number node.limit node.settings [] (events node.number 0 came) ≡ None → end_at (driven m came).manager.nodes number ≡ Some Ready
configured_is_ready m came number node found h none =
    drives m came number ∙ ap (option_and_then (λ node. end_of node.number node.limit node.settings (events node.number 0 came))) found
    ∙ confirmed_ready node.number node.limit node.settings (events node.number 0 came) h none

-- where all are ready they were started
abbrev WasStarted : Managing → Type 0
WasStarted m = all_ready m.nodes ≡ true → m.started ≡ true

starting_starts : (m : Managing) (frames : List Message) → WasStarted (starting m frames).manager
starting_starts m frames = by_tests m.started refl (all_ready m.nodes) refl
  where
    by_tests : (a : Bool) → m.started ≡ a → (b : Bool) → all_ready m.nodes ≡ b
        → (let out : Managed = cond (not a && b) (record { manager = record m { started = true }; frames = frames ++ start_all ∷ [] }) (record { manager = m; frames = frames }) in WasStarted out.manager)
    by_tests true e b f = λ _. e
    by_tests false e true f = λ _. refl
    by_tests false e false f = λ all. (let clash : false ≡ true = sym f ∙ all in cc)

awaited_ready : (node : Node) (now : ℕ) → is_ready (awaited node now).node ≡ true → is_ready node ≡ true
awaited_ready node now h = by_phase node.phase h
  where
    by_test : (b : Bool) (frame : Option Message) → is_ready (cond b (over node (Silent node.number) frame) (stays node)).node ≡ true → is_ready node ≡ true
    by_test true frame h = cc
    by_test false frame h = h

    by_phase : (p : Phase) → is_ready (awaited_in node now p).node ≡ true → is_ready node ≡ true
    by_phase (Waiting since) h = by_test (nat_le (since + node.limit) now) None h
    by_phase (Sending done since) h = by_test (nat_le (since + 4000000) now) (gives_up node.number (slice_get node.settings done)) h
    by_phase (Over e) h = h

all_before : (now : ℕ) (nodes : List Node) → list_all is_ready (map (λ node. (awaited node now).node) nodes) ≡ true → list_all is_ready nodes ≡ true
all_before now [] h = refl
all_before now (node ∷ nodes) h = by_test (is_ready (awaited node now).node) refl h (all_before now nodes)
  where
    by_test : (b : Bool) → is_ready (awaited node now).node ≡ b → (b && list_all is_ready (map (λ node. (awaited node now).node) nodes)) ≡ true
        → (list_all is_ready (map (λ node. (awaited node now).node) nodes) ≡ true → list_all is_ready nodes ≡ true) → list_all is_ready (node ∷ nodes) ≡ true
    by_test true e h more = rw (awaited_ready node now e) (more h)
    by_test false e h more = cc

ready_before : (now : ℕ) (nodes : List Node) → all_ready (map (λ node. (awaited node now).node) nodes) ≡ true → all_ready nodes ≡ true
ready_before now [] h = h
ready_before now (node ∷ nodes) h = all_before now (node ∷ nodes) h

met_starts : (m : Managing) (meeting : Meeting) → m.begun ≡ true → WasStarted m → WasStarted (met m meeting).manager
met_starts m (Heard frame) begun was =
    let clock = max m.clock m.clock in
    subst (λ (x : Managed). WasStarted x.manager) (sym (heard_begun m frame m.clock begun)) (starting_starts (moved (heard_by frame clock) (at_least m m.clock)) (sent_by (heard_by frame clock) m.nodes))
met_starts m (Moment now) begun was =
    subst (λ (x : Managed). WasStarted x.manager) (sym (passed_begun m now begun)) (λ all. was (ready_before (max m.clock now) m.nodes all))

all_met_starts : (came : List Meeting) (m : Managing) → m.begun ≡ true → WasStarted m → WasStarted (met_all m came).manager
unfolding met_all
all_met_starts [] m begun was = was
all_met_starts (meeting ∷ came) m begun was = all_met_starts came (met m meeting).manager (met_stay m meeting begun).1 (met_starts m meeting begun was)

none_yet : (nodes : List Node) → false ≡ all_ready (map (waiting_from 0) nodes)
none_yet [] = refl
none_yet (node ∷ nodes) = refl

-- and the start is the one command behind the reset
pub all_ready_are_started : (m : Managing) (came : List Meeting) → all_ready (driven m came).manager.nodes ≡ true → filter is_command (driven m came).frames ≡ commands_of true
all_ready_are_started m came all =
    let none : WasStarted (begun_at m 0).manager = λ ready. (let clash : false ≡ true = none_yet m.nodes ∙ ready in cc) in
    driven_commands m came ∙ ap commands_of (all_met_starts came (begun_at m 0).manager refl none all)
