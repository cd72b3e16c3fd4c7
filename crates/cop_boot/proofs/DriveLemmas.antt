-- A manager treats each node by itself.
use Rattle.std.proofs.Common.{◌≡◌, ℕ, suc, ◌+◌, ◌<◌, ◌≤◌, length, drop, get_or, drop-cons, drop_of_length-le, add-one, append_assoc, nat_le, max, Bool, true, false, cond, not, ◌&&◌, List, [], ◌∷◌, ◌++◌, map, refl, ap, sym, ◌∙◌, arith, ◌==◌, Option, Some, None, option_map}
use Rattle.std.specs.Prelude.{slice_get, option_and_then}
use Rattle.std.proofs.lemmas.List.{map-id, append-nil}
use Rattle.cop_sdo.specs.Message.{Message}
use Rattle.cop_sdo.specs.Reply.{is_answer, Reply}
use Rattle.cop_setup.specs.declared.setting.Setting.{Setting}
use Rattle.cop_boot.specs.declared.«end».End.TheVariants.{Silent, Restarting}
use Rattle.cop_boot.specs.declared.«end».Phase.{Phase}
use Rattle.cop_boot.specs.declared.«end».Phase.TheVariants.{Waiting, Sending, Over}
use Rattle.cop_boot.specs.declared.input.Input.{Input}
use Rattle.cop_boot.specs.Node.{Node, stays, over, sends, goes_on, is_final, booted, answered, answer_to, judged, awaited, refusal, answered_in, awaited_in, gives_up}
use Rattle.cop_sdo.specs.Reply.{reply_of}
use Rattle.cop_boot.specs.Settings.{address_of}
use Rattle.cop_boot.specs.Manager.{Managing, Managed, Meeting, Heard, Moment, meeting_of, is_boot_up, heard_by, end_in, end_at, node_of, starting, moved, at_least, heard, passed, met, met_all, behind, driven, waiting_from, begun_at, all_ready, start_all, sent_by}
use Rattle.cop_boot.specs.Ends.{Event, BootUp, Answer, Reached, event_of, events, end_of}
use Rattle.cop_boot.proofs.EndLemmas.{met_by, after_events, ends_so}

-- what keeps the number and the settings of a node
pub record Keeps (a b : Node) : Type 0 where
  pub number : b.number ≡ a.number
  pub settings : b.settings ≡ a.settings

kept : (a : Node) → Keeps a a
kept a = record { number = refl; settings = refl }

sends_keeps : (node : Node) (done now : ℕ) (o : Option Setting) → Keeps node (sends node done now o).node
sends_keeps node done now None = record { number = refl; settings = refl }
sends_keeps node done now (Some s) = record { number = refl; settings = refl }

booted_keeps : (node : Node) (now : ℕ) → Keeps node (booted node now).node
booted_keeps node now = by_tests (is_final node.phase) (node.boots == 3)
  where
    by_tests : (a b : Bool) → Keeps node
        (cond a (stays node) (cond b (over node (Restarting node.number) None) (goes_on (record node { boots = suc node.boots }) 0 now))).node
    by_tests true b = kept node
    by_tests false true = record { number = refl; settings = refl }
    by_tests false false = let k = sends_keeps (record node { boots = suc node.boots }) 0 now (slice_get node.settings 0) in record { number = k.number; settings = k.settings }

judged_keeps : (node : Node) (done now : ℕ) (s : Setting) (r : Reply) (o : Option ℕ) → Keeps node (judged node done now s r o).node
judged_keeps node done now s r None = sends_keeps node (suc done) now (slice_get node.settings (suc done))
judged_keeps node done now s r (Some code) = record { number = refl; settings = refl }

answer_keeps : (node : Node) (done now : ℕ) (body : List ℕ) (o : Option Setting) → Keeps node (answer_to node done now body o).node
answer_keeps node done now body None = kept node
answer_keeps node done now body (Some s) = judged_keeps node done now s (reply_of body) (refusal (address_of s) (reply_of body))

answered_keeps : (node : Node) (now : ℕ) (body : List ℕ) → Keeps node (answered node now body).node
answered_keeps node now body = by_phase node.phase
  where
    by_phase : (p : Phase) → Keeps node (answered_in node now body p).node
    by_phase (Waiting since) = kept node
    by_phase (Sending done since) = answer_keeps node done now body (slice_get node.settings done)
    by_phase (Over e) = kept node

awaited_keeps : (node : Node) (now : ℕ) → Keeps node (awaited node now).node
awaited_keeps node now = by_phase node.phase
  where
    by_test : (b : Bool) (frame : Option Message) → Keeps node (cond b (over node (Silent node.number) frame) (stays node)).node
    by_test true frame = record { number = refl; settings = refl }
    by_test false frame = kept node

    by_phase : (p : Phase) → Keeps node (awaited_in node now p).node
    by_phase (Waiting since) = by_test (nat_le (since + node.limit) now) None
    by_phase (Sending done since) = by_test (nat_le (since + 4000000) now) (gives_up node.number (slice_get node.settings done))
    by_phase (Over e) = kept node

pub met_keeps : (node : Node) (event : Event) → Keeps node (met_by node event).node
met_keeps node (BootUp at) = booted_keeps node at
met_keeps node (Answer at body) = answered_keeps node at body
met_keeps node (Reached at) = awaited_keeps node at

keeps_more : (a b c : Node) → Keeps a b → Keeps b c → Keeps a c
keeps_more a b c h g = record { number = g.number ∙ h.number; settings = g.settings ∙ h.settings }

pub after_keeps : (events : List Event) (node : Node) → Keeps node (after_events node events)
after_keeps [] node = kept node
after_keeps (event ∷ events) node = keeps_more _ _ _ (met_keeps node event) (after_keeps events (met_by node event).node)

-- what a frame does to a node is what its events do
pub heard_so : (frame : Message) (now : ℕ) (node : Node) → (heard_by frame now node).node ≡ after_events node (event_of node.number now frame)
heard_so frame now node = by_tests (is_boot_up node.number frame) (is_answer node.number frame)
  where
    by_tests : (a b : Bool) → (cond a (booted node now) (cond b (answered node now frame.body) (stays node))).node
        ≡ after_events node (cond a (BootUp now ∷ []) (cond b (Answer now frame.body ∷ []) []))
    by_tests true b = refl
    by_tests false true = refl
    by_tests false false = refl

after_more : (one more : List Event) (node : Node) → after_events node (one ++ more) ≡ after_events (after_events node one) more
after_more [] more node = refl
after_more (event ∷ one) more node = after_more one more (met_by node event).node

max_same : (n : ℕ) → max n n ≡ n
max_same n = omega arith

-- a start changes no node
pub starting_so : (m : Managing) (frames : List Message)
    → ((starting m frames).manager.nodes ≡ m.nodes) × ((starting m frames).manager.clock ≡ m.clock) × ((starting m frames).manager.begun ≡ m.begun)
starting_so m frames = by_test (not m.started && all_ready m.nodes)
  where
    by_test : (b : Bool) → let out : Managed = cond b (record { manager = record m { started = true }; frames = frames ++ start_all ∷ [] }) (record { manager = m; frames = frames }) in
        (out.manager.nodes ≡ m.nodes) × (out.manager.clock ≡ m.clock) × (out.manager.begun ≡ m.begun)
    by_test true = (refl, refl, refl)
    by_test false = (refl, refl, refl)

-- what a list of inputs makes of a node
abbrev pub run : ℕ → List Meeting → Node → Node
run clock inputs node = after_events node (events node.number clock inputs)

map_two : {A B C : Type 0} (f : B → C) (g : A → B) (h : A → C) → ((x : A) → f (g x) ≡ h x) → (xs : List A) → map f (map g xs) ≡ map h xs
map_two f g h same [] = refl
map_two f g h same (x ∷ xs) = rw (same x, map_two f g h same xs) refl

abbrev pub Met : Managing → Managing → List Node → ℕ → Type 0
Met m out nodes now = (out.nodes ≡ nodes) × (out.clock ≡ now) × (out.begun ≡ true)

pub chosen : {A : Type 0} (b : Bool) (x y : A) → b ≡ true → cond b x y ≡ x
chosen true x y h = refl
chosen false x y h = cc

pub heard_begun : (m : Managing) (frame : Message) (now : ℕ) → m.begun ≡ true
    → heard m frame now ≡ starting (moved (heard_by frame (max m.clock now)) (at_least m now)) (sent_by (heard_by frame (max m.clock now)) m.nodes)
heard_begun m frame now begun = chosen m.begun (starting (moved (heard_by frame (max m.clock now)) (at_least m now)) (sent_by (heard_by frame (max m.clock now)) m.nodes)) (record { manager = m; frames = [] }) begun

pub passed_begun : (m : Managing) (now : ℕ) → m.begun ≡ true
    → passed m now ≡ record { manager = moved (λ node. awaited node (max m.clock now)) (at_least m now); frames = sent_by (λ node. awaited node (max m.clock now)) m.nodes }
passed_begun m now begun =
    chosen m.begun (record { manager = moved (λ node. awaited node (max m.clock now)) (at_least m now); frames = sent_by (λ node. awaited node (max m.clock now)) m.nodes }) (record { manager = m; frames = [] }) begun

heard_each : (frame : Message) (clock now : ℕ) → now ≡ clock → (nodes : List Node)
    → map (λ node. (heard_by frame now node).node) nodes ≡ map (λ node. after_events node (event_of node.number clock frame)) nodes
heard_each frame clock now e [] = refl
heard_each frame clock now e (node ∷ nodes) = rw (heard_so frame now node, heard_each frame clock now e nodes, e) refl

pub heard_met : (m : Managing) (frame : Message) → m.begun ≡ true
    → Met m (heard m frame m.clock).manager (map (λ node. after_events node (event_of node.number m.clock frame)) m.nodes) m.clock
heard_met m frame begun =
    let s = starting_so (moved (heard_by frame (max m.clock m.clock)) (at_least m m.clock)) (sent_by (heard_by frame (max m.clock m.clock)) m.nodes) in
    let h = heard_begun m frame m.clock begun in (
      ap (λ x. x.manager.nodes) h ∙ s.0 ∙ heard_each frame m.clock (max m.clock m.clock) (max_same m.clock) m.nodes,
      ap (λ x. x.manager.clock) h ∙ s.1 ∙ max_same m.clock,
      ap (λ x. x.manager.begun) h ∙ s.2 ∙ begun,
    )

pub passed_met : (m : Managing) (now : ℕ) → m.begun ≡ true
    → Met m (passed m now).manager (map (λ node. after_events node (Reached (max m.clock now) ∷ [])) m.nodes) (max m.clock now)
passed_met m now begun =
    let h = passed_begun m now begun in
    (ap (λ x. x.manager.nodes) h, ap (λ x. x.manager.clock) h, ap (λ x. x.manager.begun) h ∙ begun)

-- what came before does to a node, and then what comes
run_on : (clock : ℕ) (one : List Event) (inputs : List Meeting) (node : Node)
    → run clock inputs (after_events node one) ≡ after_events node (one ++ events node.number clock inputs)
run_on clock one inputs node =
    rw ((after_keeps one node).number, after_more one (events node.number clock inputs) node) refl

runs_on : (out : Managing) (inputs : List Meeting) (m : Managing) (clock : ℕ) (g h : Node → Node) → Met m out (map g m.nodes) clock
    → ((node : Node) → run clock inputs (g node) ≡ h node)
    → (met_all out inputs).manager.nodes ≡ map (run out.clock inputs) out.nodes
    → (met_all out inputs).manager.nodes ≡ map h m.nodes
runs_on out inputs m clock g h met same later =
    later ∙ ap (λ nodes. map (run out.clock inputs) nodes) met.0 ∙ ap (λ now. map (run now inputs) (map g m.nodes)) met.1 ∙ map_two (run clock inputs) g h same m.nodes

pub runs : (inputs : List Meeting) (m : Managing) → m.begun ≡ true → (met_all m inputs).manager.nodes ≡ map (run m.clock inputs) m.nodes
unfolding met_all
runs [] m begun = sym (map-id m.nodes)
runs (Heard frame ∷ inputs) m begun =
    let h = heard_met m frame begun in
    runs_on (heard m frame m.clock).manager inputs m m.clock (λ node. after_events node (event_of node.number m.clock frame)) (run m.clock (Heard frame ∷ inputs)) h
    (λ node. run_on m.clock (event_of node.number m.clock frame) inputs node) (runs inputs (heard m frame m.clock).manager h.2)
runs (Moment now ∷ inputs) m begun =
    let h = passed_met m now begun in
    runs_on (passed m now).manager inputs m (max m.clock now) (λ node. after_events node (Reached (max m.clock now) ∷ [])) (run m.clock (Moment now ∷ inputs)) h
    (λ node. run_on (max m.clock now) (Reached (max m.clock now) ∷ []) inputs node) (runs inputs (passed m now).manager h.2)

-- what stands at a number
pub found_map : (f : Node → Node) → ((node : Node) → (f node).number ≡ node.number) → (nodes : List Node) (number : ℕ)
    → node_of (map f nodes) number ≡ option_map f (node_of nodes number)
found_map f same [] number = refl
found_map f same (node ∷ nodes) number =
    let there : ((f node).number == number) ≡ (node.number == number) = ap (λ n. n == number) (same node) in
    rw there (by_test (node.number == number) (found_map f same nodes number))
  where
    by_test : (b : Bool) → node_of (map f nodes) number ≡ option_map f (node_of nodes number)
        → cond b (Some (f node)) (node_of (map f nodes) number) ≡ option_map f (cond b (Some node) (node_of nodes number))
    by_test true h = refl
    by_test false h = h

-- the end of each node after a list of inputs is that of what came from it
pub drives : (m : Managing) (inputs : List Meeting) (number : ℕ)
    → end_at (driven m inputs).manager.nodes number ≡ option_and_then (λ node. end_of node.number node.limit node.settings (events node.number 0 inputs)) (node_of m.nodes number)
drives m inputs number =
    let all = runs inputs (begun_at m 0).manager refl ∙ map_two (run 0 inputs) (waiting_from 0) (λ node. run 0 inputs (waiting_from 0 node)) (λ node. refl) m.nodes in
    let at = found_map (λ node. run 0 inputs (waiting_from 0 node)) (λ node. (after_keeps (events node.number 0 inputs) (waiting_from 0 node)).number) m.nodes number in
    ap (λ nodes. end_at nodes number) all ∙ ap (option_and_then (λ node. end_in node.phase)) at ∙ by_found (node_of m.nodes number)
  where
    by_found : (o : Option Node) → option_and_then (λ node. end_in node.phase) (option_map (λ node. run 0 inputs (waiting_from 0 node)) o)
        ≡ option_and_then (λ node. end_of node.number node.limit node.settings (events node.number 0 inputs)) o
    by_found None = refl
    by_found (Some node) = ends_so node.number node.limit node.settings (events node.number 0 inputs)

-- a list of inputs, one after the other
pub begins_so : (m new : Managing) (first : Message) (before : List Message) (inputs : List Meeting) → (let out : Managed = record { manager = new; frames = first ∷ [] } in out) ≡ begun_at m 0
    → before ≡ first ∷ [] → driven m inputs ≡ behind before (met_all new inputs)
begins_so m new first before inputs begins push =
    ap (λ out. behind out.frames (met_all out.manager inputs)) (sym begins) ∙ ap (λ before. behind before (met_all new inputs)) (sym push)

pub meets_one : (all : Managed) (m new : Managing) (before after : List Message) (i : ℕ) (input : Input) (inputs : List Input) → i < length inputs → input ≡ get_or inputs i input
    → all ≡ behind before (met_all m (map meeting_of (drop i inputs))) → (let out : Managed = record { manager = new; frames = after } in out) ≡ behind before (met m (meeting_of input))
    → all ≡ behind after (met_all new (map meeting_of (drop (i + 1) inputs)))
unfolding met_all
meets_one all m new before after i input inputs inside is whole call =
    let later = drop (suc i) inputs in
    let rest = map meeting_of later in
    let one = met m (meeting_of input) in
    let split : drop i inputs ≡ input ∷ later = drop-cons inputs i input inside ∙ ap (λ x. x ∷ later) (sym is) in
    whole ∙ ap (λ l. behind before (met_all m (map meeting_of l))) split
    ∙ ap (λ frames. let out : Managed = record { manager = (met_all one.manager rest).manager; frames = frames } in out) (sym (append_assoc before one.frames (met_all one.manager rest).frames))
    ∙ ap (λ out. behind out.frames (met_all out.manager rest)) (sym call) ∙ ap (λ j. behind after (met_all new (map meeting_of (drop j inputs)))) (sym (add-one i))

pub met_whole : (all : Managed) (m : Managing) (before : List Message) (i : ℕ) (inputs : List Input) → length inputs ≤ i → all ≡ behind before (met_all m (map meeting_of (drop i inputs)))
    → (let out : Managed = record { manager = m; frames = before } in out) ≡ all
unfolding met_all
met_whole all m before i inputs past whole =
    sym (whole ∙ ap (λ l. behind before (met_all m (map meeting_of l))) (drop_of_length-le inputs past) ∙ ap (λ frames. let out : Managed = record { manager = m; frames = frames } in out) (append-nil before))
