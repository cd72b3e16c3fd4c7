-- A boot by turns keeps each node at its stage.
use Rattle.std.proofs.Common.{◌≡◌, ℕ, suc, ◌+◌, ◌<◌, Bool, true, false, cond, not, ◌&&◌, ◌||◌, List, [], ◌∷◌, ◌++◌, map, max, refl, ap, sym, subst, ◌∙◌, arith, ◌==◌, append_assoc, Option, Some, None, ◌⊎◌, inl, inr, nat_le}
use Rattle.std.proofs.lemmas.Bool.{eqb-true}
use Rattle.std.specs.Prelude.{filter, slice_get, option_to_list, option_map, if◌then◌else◌}
use Rattle.std.specs.List.{list_all}
use Rattle.std.proofs.lemmas.Bool.Decides.{nat_tests}
use Rattle.std.proofs.lemmas.List.{append-nil}
use Rattle.std.proofs.lemmas.List.Elements.{filter-append}
use Rattle.cop_sdo.specs.Message.{Message}
use Rattle.cop_sdo.specs.Reply.{Reply, Confirm, ConfirmSegment, Value, Size, Segment, Abort, Other, reply_of, is_answer}
use Rattle.cop_sdo.specs.declared.address.Address.{Address}
use Rattle.cop_sdo.proofs.Confirmed.{same_number}
use Rattle.cop_setup.specs.declared.setting.Setting.{Setting}
use Rattle.cop_boot.specs.declared.«end».End.TheVariants.{Silent, Restarting}
use Rattle.cop_boot.specs.declared.«end».Phase.{Phase}
use Rattle.cop_boot.specs.declared.«end».Phase.TheVariants.{Waiting, Sending, Over}
use Rattle.cop_boot.specs.declared.turn.Turn.{Turn}
use Rattle.cop_boot.specs.declared.turn.Turn.TheVariants.{ToNode, FromNode, Moment}
use Rattle.cop_boot.specs.Settings.{address_of}
use Rattle.cop_boot.specs.Node.{Node, Moved, stays, over, sends, goes_on, is_final, booted, answered, answered_in, answer_to, judged, own_abort, awaited, awaited_in, refusal, gives_up}
use Rattle.cop_boot.specs.Manager.{Managing, heard_by, is_boot_up, start_all, is_ready, is_ready_in, all_ready, node_of, sent_by, moved, at_least, starting, heard, passed}
use Rattle.cop_boot.specs.Device.{Attached, Responded, MayRespond}
use Rattle.cop_boot.specs.Booted.{Apart}
use Rattle.cop_boot.specs.Ends.{BootUp, Answer, Reached}
use Rattle.cop_boot.specs.Schedule.{Line, World, line_of, is_for, takes, posted, with_line, Delivers, DeliversTo, heard_on, heard_from, Takes, TakesAll}
use Rattle.cop_boot.proofs.DriveLemmas.{found_map, heard_begun, passed_begun, met_keeps}
use Rattle.cop_boot.proofs.StageLemmas.{Plan, IsSound, Stage, Done, IsAt, IfThere, ComesFrom, Each, sent_to, delivered, came, comes, started_at, waited, numbered, after_to, after_from, after_moment, nothing_sent, no_front, ready_line}

-- what a line of a number is after a change of each line
pub lines_map : (f : Line → Line) → ((line : Line) → (f line).number ≡ line.number) → (lines : List Line) (n : ℕ) → line_of (map f lines) n ≡ option_map f (line_of lines n)
lines_map f same [] n = refl
lines_map f same (line ∷ lines) n =
    let there : ((f line).number == n) ≡ (line.number == n) = ap (λ k. k == n) (same line) in
    rw there (by_test (line.number == n) (lines_map f same lines n))
  where
    by_test : (b : Bool) → line_of (map f lines) n ≡ option_map f (line_of lines n)
        → cond b (Some (f line)) (line_of (map f lines) n) ≡ option_map f (cond b (Some line) (line_of lines n))
    by_test true h = refl
    by_test false h = h

pub apart_map : (f : Node → Node) → ((node : Node) → (f node).number ≡ node.number) → (nodes : List Node) → Apart nodes → Apart (map f nodes)
apart_map f same [] h = tt
apart_map f same (node ∷ nodes) h =
    (ap (node_of (map f nodes)) (same node) ∙ found_map f same nodes node.number ∙ ap (option_map f) h.0, apart_map f same nodes h.1)

-- a node sends to itself alone
abbrev pub SendsAsItself : (Node → Moved) → Type 0
SendsAsItself f = (node : Node) → IfThere (λ frame. frame.id ≡ 0x600 + node.number) (f node).frame

for_itself : (n k : ℕ) (frame : Message) → frame.id ≡ 0x600 + k → is_for n frame ≡ (k == n)
for_itself n k frame e = rw e (tests n k)
  where
    tests : (n k : ℕ) → ((0x600 + k == 0) || (0x600 + k == 0x600 + n)) ≡ (k == n)
    tests n k = grind (arith, nat_tests)

one_sent : (n : ℕ) (node : Node) (o : Option Message) (b : Bool) → (node.number == n) ≡ b → IfThere (λ frame. frame.id ≡ 0x600 + node.number) o
    → filter (is_for n) (option_to_list o) ≡ cond b (option_to_list o) []
one_sent n node None true e h = refl
one_sent n node None false e h = refl
one_sent n node (Some frame) b e h = let t : is_for n frame ≡ b = for_itself n node.number frame h ∙ e in rw t (by_test b)
  where
    by_test : (b : Bool) → cond b (frame ∷ []) [] ≡ cond b (frame ∷ []) []
    by_test b = refl

number_found : (node : Node) (n : ℕ) → (node.number == n) ≡ true → node.number ≡ n
number_found node n h = grind (arith, nat_tests)

module _ (f : Node → Moved) (own : SendsAsItself f) where
  none_sent : (nodes : List Node) (n : ℕ) → node_of nodes n ≡ None → filter (is_for n) (sent_by f nodes) ≡ []
  none_sent [] n h = refl
  none_sent (node ∷ nodes) n h = by_test (node.number == n) refl h (none_sent nodes n)
    where
      by_test : (b : Bool) → (node.number == n) ≡ b → cond b (Some node) (node_of nodes n) ≡ None → (node_of nodes n ≡ None → filter (is_for n) (sent_by f nodes) ≡ [])
          → filter (is_for n) (option_to_list (f node).frame ++ sent_by f nodes) ≡ []
      by_test true e h more = cc
      by_test false e h more = filter-append (is_for n) (option_to_list (f node).frame) (sent_by f nodes) ∙ rw (one_sent n node (f node).frame false e (own node)) (more h)

  -- what goes to a node is what it sends
  sent_for : (nodes : List Node) (n : ℕ) (at : Node) → Apart nodes → node_of nodes n ≡ Some at → filter (is_for n) (sent_by f nodes) ≡ option_to_list (f at).frame
  sent_for [] n at apart h = cc
  sent_for (node ∷ nodes) n at apart h = by_test (node.number == n) refl h (λ h. sent_for nodes n at apart.1 h)
    where
      by_test : (b : Bool) → (node.number == n) ≡ b → cond b (Some node) (node_of nodes n) ≡ Some at → (node_of nodes n ≡ Some at → filter (is_for n) (sent_by f nodes) ≡ option_to_list (f at).frame)
          → filter (is_for n) (option_to_list (f node).frame ++ sent_by f nodes) ≡ option_to_list (f at).frame
      by_test true e h more =
          let is : node ≡ at = cc in
          let others = none_sent nodes n (ap (node_of nodes) (sym (number_found node n e)) ∙ apart.0) in
          filter-append (is_for n) (option_to_list (f node).frame) (sent_by f nodes)
          ∙ rw (one_sent n node (f node).frame true e (own node), others) (append-nil (option_to_list (f node).frame)) ∙ ap (λ x. option_to_list (f x).frame) is
      by_test false e h more = filter-append (is_for n) (option_to_list (f node).frame) (sent_by f nodes) ∙ rw (one_sent n node (f node).frame false e (own node)) (more h)

-- each node sends to itself

sends_own : (node : Node) (done now : ℕ) (o : Option Setting) → IfThere (λ frame. frame.id ≡ 0x600 + node.number) (sends node done now o).frame
sends_own node done now None = tt
sends_own node done now (Some s) = refl

booted_own : (node : Node) (now : ℕ) → IfThere (λ frame. frame.id ≡ 0x600 + node.number) (booted node now).frame
booted_own node now = by_tests (is_final node.phase) (node.boots == 3)
  where
    by_tests : (a b : Bool) → IfThere (λ frame. frame.id ≡ 0x600 + node.number)
        (cond a (stays node) (cond b (over node (Restarting node.number) None) (goes_on (record node { boots = suc node.boots }) 0 now))).frame
    by_tests true b = tt
    by_tests false true = tt
    by_tests false false = sends_own (record node { boots = suc node.boots }) 0 now (slice_get node.settings 0)

abort_own : (node : Node) (at : Address) (r : Reply) → IfThere (λ frame. frame.id ≡ 0x600 + node.number) (own_abort node.number at r)
abort_own node at (Confirm other) = refl
abort_own node at (ConfirmSegment toggle) = refl
abort_own node at (Value other bytes) = refl
abort_own node at (Size other size) = refl
abort_own node at (Segment toggle bytes last) = refl
abort_own node at (Abort code) = tt
abort_own node at Other = refl

judged_own : (node : Node) (done now : ℕ) (s : Setting) (r : Reply) (o : Option ℕ) → IfThere (λ frame. frame.id ≡ 0x600 + node.number) (judged node done now s r o).frame
judged_own node done now s r None = sends_own node (suc done) now (slice_get node.settings (suc done))
judged_own node done now s r (Some code) = abort_own node (address_of s) r

answer_own : (node : Node) (done now : ℕ) (body : List ℕ) (o : Option Setting) → IfThere (λ frame. frame.id ≡ 0x600 + node.number) (answer_to node done now body o).frame
answer_own node done now body None = tt
answer_own node done now body (Some s) = judged_own node done now s (reply_of body) (refusal (address_of s) (reply_of body))

answered_own : (node : Node) (now : ℕ) (body : List ℕ) (phase : Phase) → IfThere (λ frame. frame.id ≡ 0x600 + node.number) (answered_in node now body phase).frame
answered_own node now body (Waiting since) = tt
answered_own node now body (Sending done since) = answer_own node done now body (slice_get node.settings done)
answered_own node now body (Over e) = tt

pub awaited_own : (node : Node) (now : ℕ) → IfThere (λ frame. frame.id ≡ 0x600 + node.number) (awaited node now).frame
awaited_own node now = by_phase node.phase
  where
    by_test : (b : Bool) (o : Option Message) → IfThere (λ frame. frame.id ≡ 0x600 + node.number) o
        → IfThere (λ frame. frame.id ≡ 0x600 + node.number) (cond b (over node (Silent node.number) o) (stays node)).frame
    by_test true o h = h
    by_test false o h = tt

    by_setting : (o : Option Setting) → IfThere (λ frame. frame.id ≡ 0x600 + node.number) (gives_up node.number o)
    by_setting None = tt
    by_setting (Some s) = refl

    by_phase : (p : Phase) → IfThere (λ frame. frame.id ≡ 0x600 + node.number) (awaited_in node now p).frame
    by_phase (Waiting since) = by_test (nat_le (since + node.limit) now) None tt
    by_phase (Sending done since) = by_test (nat_le (since + 4000000) now) (gives_up node.number (slice_get node.settings done)) (by_setting (slice_get node.settings done))
    by_phase (Over e) = tt

pub heard_own : (frame : Message) (now : ℕ) (node : Node) → IfThere (λ frame. frame.id ≡ 0x600 + node.number) (heard_by frame now node).frame
heard_own frame now node = by_tests (is_boot_up node.number frame) (is_answer node.number frame)
  where
    by_tests : (a b : Bool) → IfThere (λ frame. frame.id ≡ 0x600 + node.number) (cond a (booted node now) (cond b (answered node now frame.body) (stays node))).frame
    by_tests true b = booted_own node now
    by_tests false true = answered_own node now frame.body node.phase
    by_tests false false = tt

pub heard_number : (frame : Message) (now : ℕ) (node : Node) → (heard_by frame now node).node.number ≡ node.number
heard_number frame now node = by_tests (is_boot_up node.number frame) (is_answer node.number frame)
  where
    by_tests : (a b : Bool) → (cond a (booted node now) (cond b (answered node now frame.body) (stays node))).node.number ≡ node.number
    by_tests true b = (met_keeps node (BootUp now)).number
    by_tests false true = (met_keeps node (Answer now frame.body)).number
    by_tests false false = refl

pub awaited_number : (now : ℕ) (node : Node) → (awaited node now).node.number ≡ node.number
awaited_number now node = (met_keeps node (Reached now)).number

-- a frame of another node does nothing
not_mine : (n m : ℕ) (frame : Message) (now : ℕ) (node : Node) → n < 128 → m < 128 → (n == m) ≡ false → node.number ≡ n → ComesFrom m frame → heard_by frame now node ≡ stays node
not_mine n m frame now node low high apart number from =
    let a : (frame.id == 0x700 + node.number) ≡ false = rw number (elim from [ inl e ↦ rw e (boot n m apart) | inr e ↦ rw e (cross n m low high) ]) in
    let b : (frame.id == 0x580 + node.number) ≡ false = rw number (elim from [ inl e ↦ rw e (over_cross n m low high) | inr e ↦ rw e (answer n m apart) ]) in
    rw (a, b) refl
  where
    boot : (n m : ℕ) → (n == m) ≡ false → (0x700 + m == 0x700 + n) ≡ false
    boot n m h = grind (arith, nat_tests)

    answer : (n m : ℕ) → (n == m) ≡ false → (0x580 + m == 0x580 + n) ≡ false
    answer n m h = grind (arith, nat_tests)

    cross : (n m : ℕ) → n < 128 → m < 128 → (0x580 + m == 0x700 + n) ≡ false
    cross n m low high = grind (arith, nat_tests)

    over_cross : (n m : ℕ) → n < 128 → m < 128 → (0x700 + m == 0x580 + n) ≡ false
    over_cross n m low high = grind (arith, nat_tests)

pub all_are : (nodes : List Node) (n : ℕ) (node : Node) → list_all is_ready nodes ≡ true → node_of nodes n ≡ Some node → is_ready node ≡ true
all_are [] n node all h = cc
all_are (x ∷ nodes) n node all h = by_test (x.number == n) (is_ready x) refl all h (λ all h. all_are nodes n node all h)
  where
    by_test : (b r : Bool) → is_ready x ≡ r → (r && list_all is_ready nodes) ≡ true → cond b (Some x) (node_of nodes n) ≡ Some node
        → (list_all is_ready nodes ≡ true → node_of nodes n ≡ Some node → is_ready node ≡ true) → is_ready node ≡ true
    by_test b false e all h more = cc
    by_test true true e all h more = let is : x ≡ node = cc in subst (λ x. is_ready x ≡ true) is e
    by_test false true e all h more = more all h

ready_found : (nodes : List Node) (n : ℕ) (node : Node) → all_ready nodes ≡ true → node_of nodes n ≡ Some node → is_ready node ≡ true
ready_found [] n node all h = cc
ready_found (x ∷ nodes) n node all h = all_are (x ∷ nodes) n node all h

-- the plans of a network's nodes
pub record ArePlans (plans : ℕ → Option Plan) : Type 0 where
  pub sound : (n : ℕ) (p : Plan) → plans n ≡ Some p → IsSound p
  pub number : (n : ℕ) (p : Plan) → plans n ≡ Some p → p.number ≡ n
  pub least : (n : ℕ) (p : Plan) → plans n ≡ Some p → n < 128

-- a node and its line stand at a stage of its plan
pub record Stands (w : World) (n : ℕ) (p : Plan) (stage : Stage) : Type 0 where
  pub node : Node
  pub line : Line
  pub found : node_of w.manager.nodes n ≡ Some node
  pub lined : line_of w.lines n ≡ Some line
  pub at : IsAt p stage node line

-- each node stands at a stage of its plan
pub record Holds (plans : ℕ → Option Plan) (w : World) : Type 0 where
  pub begun : w.manager.begun ≡ true
  pub apart : Apart w.manager.nodes
  pub starts : w.manager.started ≡ all_ready w.manager.nodes
  pub none : (n : ℕ) → plans n ≡ None → line_of w.lines n ≡ None
  pub absent : (n : ℕ) → plans n ≡ None → node_of w.manager.nodes n ≡ None
  pub each : (n : ℕ) (p : Plan) → plans n ≡ Some p → (stage : Stage) × Stands w n p stage

-- what the manager sends comes to a line
took : (f : Node → Moved) → SendsAsItself f → (nodes : List Node) (lines : List Line) (n : ℕ) (node : Node) (line : Line) → Apart nodes → node_of nodes n ≡ Some node
    → line_of lines n ≡ Some line → line.number ≡ n → line_of (map (takes (sent_by f nodes)) lines) n ≡ Some (sent_to line line.from (f node).frame)
took f own nodes lines n node line apart found lined number =
    lines_map (takes (sent_by f nodes)) (λ line. refl) lines n ∙ ap (option_map (takes (sent_by f nodes))) lined
    ∙ ap (λ to. let l : Line = record line { to = line.to ++ to } in Some l) (ap (λ k. filter (is_for k) (sent_by f nodes)) number ∙ sent_for f own nodes n node apart found)

took_start : (f : Node → Moved) → SendsAsItself f → (nodes : List Node) (lines : List Line) (n : ℕ) (node : Node) (line : Line) → Apart nodes → node_of nodes n ≡ Some node
    → line_of lines n ≡ Some line → line.number ≡ n
    → line_of (map (takes (sent_by f nodes ++ start_all ∷ [])) lines) n ≡ Some (record (sent_to line line.from (f node).frame) { to = (sent_to line line.from (f node).frame).to ++ start_all ∷ [] })
took_start f own nodes lines n node line apart found lined number =
    lines_map (takes (sent_by f nodes ++ start_all ∷ [])) (λ line. refl) lines n ∙ ap (option_map (takes (sent_by f nodes ++ start_all ∷ []))) lined
    ∙ ap (λ to. let l : Line = record line { to = line.to ++ to } in Some l)
    (filter-append (is_for line.number) (sent_by f nodes) (start_all ∷ []) ∙ ap (λ l. l ++ start_all ∷ []) (ap (λ k. filter (is_for k) (sent_by f nodes)) number ∙ sent_for f own nodes n node apart found))
    ∙ ap (λ to. let l : Line = record line { to = to } in Some l) (sym (append_assoc line.to (option_to_list (f node).frame) (start_all ∷ [])))

module _ (plans : ℕ → Option Plan) (good : ArePlans plans) where
  -- a call of the manager that moves each node by itself
  module _ (f : Node → Moved) (own : SendsAsItself f) (same : (node : Node) → (f node).node.number ≡ node.number) (m : Managing) (old : List Node) (lines : List Line)
      (nodes : m.nodes ≡ map (λ node. (f node).node) old) (begun : m.begun ≡ true) (apart : Apart old)
      (none : (n : ℕ) → plans n ≡ None → line_of lines n ≡ None) (absent : (n : ℕ) → plans n ≡ None → node_of old n ≡ None) where
    absent_now : (n : ℕ) → plans n ≡ None → node_of m.nodes n ≡ None
    absent_now n h = ap (λ nodes. node_of nodes n) nodes ∙ found_map (λ node. (f node).node) same old n ∙ ap (option_map (λ node. (f node).node)) (absent n h)

    apart_now : Apart m.nodes
    apart_now = subst Apart (sym nodes) (apart_map (λ node. (f node).node) same old apart)

    none_now : (frames : List Message) (n : ℕ) → plans n ≡ None → line_of (map (takes frames) lines) n ≡ None
    none_now frames n h = lines_map (takes frames) (λ line. refl) lines n ∙ ap (option_map (takes frames)) (none n h)

    -- how a node stands before, where the call takes it to a stage
    pub record Goes (n : ℕ) (p : Plan) (stage : Stage) : Type 0 where
      pub node : Node
      pub line : Line
      pub found : node_of old n ≡ Some node
      pub lined : line_of lines n ≡ Some line
      pub at : IsAt p stage (f node).node (sent_to line line.from (f node).frame)

    found_now : (n : ℕ) (node : Node) → node_of old n ≡ Some node → node_of m.nodes n ≡ Some (f node).node
    found_now n node h = ap (λ nodes. node_of nodes n) nodes ∙ found_map (λ node. (f node).node) same old n ∙ ap (option_map (λ node. (f node).node)) h

    pub goes : (n : ℕ) (p : Plan) → plans n ≡ Some p → (stage : Stage) → Goes n p stage → Stands (posted (record { manager = m; frames = sent_by f old }) lines) n p stage
    goes n p here stage g = record {
      node = (f g.node).node;
      line = sent_to g.line g.line.from (f g.node).frame;
      found = found_now n g.node g.found;
      lined = took f own old lines n g.node g.line apart g.found g.lined ((numbered p stage _ _ g.at).1 ∙ good.number n p here);
      at = g.at;
    }

    starts : (n : ℕ) (p : Plan) → plans n ≡ Some p → (stage : Stage) → Goes n p stage → all_ready m.nodes ≡ true
        → Stands (posted (record { manager = record m { started = true }; frames = sent_by f old ++ start_all ∷ [] }) lines) n p Done
    starts n p here stage g all = record {
      node = (f g.node).node;
      line = record (sent_to g.line g.line.from (f g.node).frame) { to = (sent_to g.line g.line.from (f g.node).frame).to ++ start_all ∷ [] };
      found = found_now n g.node g.found;
      lined = took_start f own old lines n g.node g.line apart g.found g.lined ((numbered p stage _ _ g.at).1 ∙ good.number n p here);
      at = started_at p (good.sound n p here) stage (f g.node).node (sent_to g.line g.line.from (f g.node).frame) g.at (ready_found m.nodes n (f g.node).node all (found_now n g.node g.found));
    }

    both : (a b : Bool) → (not a && b) ≡ true → b ≡ true
    both true b h = cc
    both false b h = h

    -- without a start, and with one
    pub plain : m.started ≡ all_ready m.nodes → ((n : ℕ) (p : Plan) → plans n ≡ Some p → (stage : Stage) × Goes n p stage) → Holds plans (posted (record { manager = m; frames = sent_by f old }) lines)
    plain all each = record {
      begun = begun;
      apart = apart_now;
      starts = all;
      none = none_now (sent_by f old);
      absent = absent_now;
      each = λ n p here. let g = each n p here in (g.0, goes n p here g.0 g.1);
    }

    pub and_start : (m.started ≡ true → all_ready m.nodes ≡ true) → ((n : ℕ) (p : Plan) → plans n ≡ Some p → (stage : Stage) × Goes n p stage) → Holds plans (posted (starting m (sent_by f old)) lines)
    and_start all each = by_test (not m.started && all_ready m.nodes) refl
      where
        neither : (a b : Bool) → (a ≡ true → b ≡ true) → (not a && b) ≡ false → a ≡ b
        neither true b f h = sym (f refl)
        neither false b f h = sym h

        by_test : (b : Bool) → (not m.started && all_ready m.nodes) ≡ b
            → Holds plans (posted (cond b (record { manager = record m { started = true }; frames = sent_by f old ++ start_all ∷ [] }) (record { manager = m; frames = sent_by f old })) lines)
        by_test false h = plain (neither m.started (all_ready m.nodes) all h) each
        by_test true h = record {
          begun = begun;
          apart = apart_now;
          starts = sym (both m.started (all_ready m.nodes) h);
          none = none_now (sent_by f old ++ start_all ∷ []);
          absent = absent_now;
          each = λ n p here. let g = each n p here in (Done, starts n p here g.0 g.1 (both m.started (all_ready m.nodes) h));
        }

    -- a node is at its stage, or a start has come
    pub and_start_one : (n : ℕ) (p : Plan) → plans n ≡ Some p → (stage : Stage) → Goes n p stage
        → (later : Stage) × Stands (posted (starting m (sent_by f old)) lines) n p later × ((later ≡ stage) ⊎ (later ≡ Done))
    and_start_one n p here stage g = by_test (not m.started && all_ready m.nodes) refl
      where
        by_test : (b : Bool) → (not m.started && all_ready m.nodes) ≡ b
            → (later : Stage)
            × Stands (posted (cond b (record { manager = record m { started = true }; frames = sent_by f old ++ start_all ∷ [] }) (record { manager = m; frames = sent_by f old })) lines) n p later
            × ((later ≡ stage) ⊎ (later ≡ Done))
        by_test false h = (stage, goes n p here stage g, inl refl)
        by_test true h = (Done, starts n p here stage g (both m.started (all_ready m.nodes) h), inr refl)

with_line_so : (new : Line) (lines : List Line) (n : ℕ) → line_of (with_line new lines) n ≡ option_map (λ line. if line.number == new.number then new else line) (line_of lines n)
with_line_so new lines n = lines_map (λ line. if line.number == new.number then new else line) (λ line. by_test line (line.number == new.number) refl) lines n
  where
    equal : (a b : ℕ) → (a == b) ≡ true → b ≡ a
    equal a b h = grind (arith, nat_tests)

    by_test : (line : Line) (b : Bool) → (line.number == new.number) ≡ b → (if b then new else line).number ≡ line.number
    by_test line true h = equal line.number new.number h
    by_test line false h = refl

line_put : (new : Line) (lines : List Line) (n : ℕ) (line : Line) → line_of lines n ≡ Some line → new.number ≡ line.number → line_of (with_line new lines) n ≡ Some new
line_put new lines n line lined same =
    with_line_so new lines n ∙ ap (option_map (λ line. if line.number == new.number then new else line)) lined ∙ rw (same, same_number line.number) refl

line_stays : (new : Line) (lines : List Line) (n : ℕ) (line : Line) → line_of lines n ≡ Some line → (line.number == new.number) ≡ false → line_of (with_line new lines) n ≡ Some line
line_stays new lines n line lined other =
    with_line_so new lines n ∙ ap (option_map (λ line. if line.number == new.number then new else line)) lined ∙ rw other refl

line_none : (new : Line) (lines : List Line) (n : ℕ) → line_of lines n ≡ None → line_of (with_line new lines) n ≡ None
line_none new lines n h = with_line_so new lines n ∙ ap (option_map (λ line. if line.number == new.number then new else line)) h

pub same_line : (lines : List Line) (n : ℕ) (a b : Line) → line_of lines n ≡ Some a → line_of lines n ≡ Some b → a ≡ b
same_line lines n a b h g = let e : Some a ≡ Some b = sym h ∙ g in cc

-- a moment makes no node ready, and leaves those that are
ready_same : (f : Node → Node) → ((node : Node) → is_ready (f node) ≡ is_ready node) → (nodes : List Node) → all_ready (map f nodes) ≡ all_ready nodes
ready_same f same [] = refl
ready_same f same (node ∷ nodes) = all_same (node ∷ nodes)
  where
    all_same : (nodes : List Node) → list_all is_ready (map f nodes) ≡ list_all is_ready nodes
    all_same [] = refl
    all_same (node ∷ nodes) = rw (same node, all_same nodes) refl

awaited_ready : (node : Node) (now : ℕ) → is_ready (awaited node now).node ≡ is_ready node
awaited_ready node now = by_phase node.phase refl
  where
    by_test : (b : Bool) (phase : Phase) (o : Option Message) → node.phase ≡ phase → is_ready_in phase ≡ false
        → is_ready (cond b (over node (Silent node.number) o) (stays node)).node ≡ is_ready_in phase
    by_test true phase o e none = sym none
    by_test false phase o e none = ap is_ready_in e

    by_phase : (p : Phase) → node.phase ≡ p → is_ready (awaited_in node now p).node ≡ is_ready_in node.phase
    by_phase (Waiting since) e = by_test (nat_le (since + node.limit) now) (Waiting since) None e refl ∙ sym (ap is_ready_in e)
    by_phase (Sending done since) e = by_test (nat_le (since + 4000000) now) (Sending done since) (gives_up node.number (slice_get node.settings done)) e refl ∙ sym (ap is_ready_in e)
    by_phase (Over x) e = refl

module _ (plans : ℕ → Option Plan) (good : ArePlans plans) (w : World) (h : Holds plans w) where
  -- where a moment takes a node
  pub moment_goes : (now n : ℕ) (p : Plan) → plans n ≡ Some p → (stage : Stage) → Stands w n p stage
      → Goes plans good (λ node. awaited node (max w.manager.clock now)) (λ node. awaited_own node (max w.manager.clock now)) (λ node. awaited_number (max w.manager.clock now) node)
      (moved (λ node. awaited node (max w.manager.clock now)) (at_least w.manager now)) w.manager.nodes w.lines refl h.begun h.apart h.none h.absent n p (after_moment p (max w.manager.clock now) stage)
  moment_goes now n p here stage s = record {
    node = s.node;
    line = s.line;
    found = s.found;
    lined = s.lined;
    at = waited p (max w.manager.clock now) stage s.node s.line s.at;
  }

  pub moment_stands : (now n : ℕ) (p : Plan) → plans n ≡ Some p → (stage : Stage) → Stands w n p stage → Stands (posted (passed w.manager now) w.lines) n p (after_moment p (max w.manager.clock now) stage)
  moment_stands now n p here stage s =
      let clock = max w.manager.clock now in
      subst (λ x. Stands (posted x w.lines) n p (after_moment p clock stage)) (sym (passed_begun w.manager now h.begun))
      (goes plans good (λ node. awaited node clock) (λ node. awaited_own node clock) (λ node. awaited_number clock node) (moved (λ node. awaited node clock) (at_least w.manager now))
      w.manager.nodes w.lines refl h.begun h.apart h.none h.absent n p here (after_moment p clock stage) (moment_goes now n p here stage s))

  -- a moment
  moment_holds : (now : ℕ) → Holds plans (posted (passed w.manager now) w.lines)
  moment_holds now =
      let clock = max w.manager.clock now in
      subst (λ x. Holds plans (posted x w.lines)) (sym (passed_begun w.manager now h.begun))
      (plain plans good (λ node. awaited node clock) (λ node. awaited_own node clock) (λ node. awaited_number clock node) (moved (λ node. awaited node clock) (at_least w.manager now))
      w.manager.nodes w.lines refl h.begun h.apart h.none h.absent
      (h.starts ∙ sym (ready_same (λ node. (awaited node clock).node) (λ node. awaited_ready node clock) w.manager.nodes))
      (λ n p here. let s = h.each n p here in (after_moment p clock s.0, moment_goes now n p here s.0 s.1)))

  -- a line is of a node that has a plan
  module _ (m : ℕ) (line : Line) (lined : line_of w.lines m ≡ Some line) where
    planned_at : (o : Option Plan) → plans m ≡ o → (p : Plan) × (plans m ≡ Some p)
    planned_at None e = absurd (clash (sym (h.none m e) ∙ lined))
      where
        clash : None ≡ Some line → ⊥
        clash e = cc
    planned_at (Some p) e = (p, e)

    line_number : (p : Plan) → plans m ≡ Some p → line.number ≡ m
    line_number p e =
        let s = h.each m p e in
        let same : s.1.line ≡ line = same_line w.lines m s.1.line line s.1.lined lined in
        sym (ap (λ l. l.number) same) ∙ (numbered p s.0 s.1.node s.1.line s.1.at).1 ∙ good.number m p e

  -- a frame of the line of a number is of the node of that number
  module _ (m : ℕ) (line : Line) (lined : line_of w.lines m ≡ Some line) (frame : Message) (rest : List Message) (front : line.from ≡ frame ∷ rest) where
    abbrev clock : ℕ
    clock = max w.manager.clock w.manager.clock

    abbrev new : Line
    new = record line { from = rest }

    from_it : (p : Plan) → plans m ≡ Some p → ComesFrom m frame
    from_it p e =
        let s = h.each m p e in
        let same : s.1.line ≡ line = same_line w.lines m s.1.line line s.1.lined lined in
        let all : Each (ComesFrom p.number) (frame ∷ rest) = subst (Each (ComesFrom p.number)) (ap (λ l. l.from) same ∙ front) (comes p (good.sound m p e) s.0 s.1.node s.1.line s.1.at) in
        subst (λ k. ComesFrom k frame) (good.number m p e) all.0

    -- how a node stands before the frame is heard, and where it goes
    heard_goes : (n : ℕ) (p : Plan) → plans n ≡ Some p → (stage : Stage) → Stands w n p stage → (b : Bool) → (n == m) ≡ b
        → Goes plans good (λ node. heard_by frame clock node) (λ node. heard_own frame clock node) (λ node. heard_number frame clock node)
        (moved (heard_by frame clock) (at_least w.manager w.manager.clock)) w.manager.nodes (with_line new w.lines) refl h.begun h.apart (λ n e. line_none new w.lines n (h.none n e)) h.absent n p
        (if b then after_from p clock stage else stage)
    heard_goes n p e stage s true t =
        let here : n ≡ m = eqb-true n m t in
        let at_n : line_of w.lines n ≡ Some line = subst (λ k. line_of w.lines k ≡ Some line) (sym here) lined in
        let same : s.line ≡ line = same_line w.lines n s.line line s.lined at_n in
        record {
          node = s.node;
          line = new;
          found = s.found;
          lined = line_put new w.lines n line at_n refl;
          at = came p (good.sound n p e) clock stage s.node line frame rest (subst (λ l. IsAt p stage s.node l) same s.at) front;
        }
    heard_goes n p e stage s false t =
        let q = planned_at m line lined (plans m) refl in
        let numbers = numbered p stage s.node s.line s.at in
        let still : heard_by frame clock s.node ≡ stays s.node =
        not_mine n m frame clock s.node (good.least n p e) (good.least m q.0 q.1) t (numbers.0 ∙ good.number n p e) (from_it q.0 q.1) in
        let other : (s.line.number == new.number) ≡ false = rw (numbers.1 ∙ good.number n p e, line_number m line lined q.0 q.1) t in
        record {
          node = s.node;
          line = s.line;
          found = s.found;
          lined = line_stays new w.lines n s.line s.lined other;
          at = subst (λ x. IsAt p stage x.node (sent_to s.line s.line.from x.frame)) (sym still) (subst (IsAt p stage s.node) (nothing_sent s.line) s.at);
        }

    pub frame_stands : (n : ℕ) (p : Plan) → plans n ≡ Some p → (stage : Stage) → Stands w n p stage
        → (later : Stage) × Stands (posted (heard w.manager frame w.manager.clock) (with_line new w.lines)) n p later × ((later ≡ (if n == m then after_from p clock stage else stage)) ⊎ (later ≡ Done))
    frame_stands n p e stage s =
        subst (λ x. (later : Stage) × Stands (posted x (with_line new w.lines)) n p later × ((later ≡ (if n == m then after_from p clock stage else stage)) ⊎ (later ≡ Done)))
        (sym (heard_begun w.manager frame w.manager.clock h.begun))
        (and_start_one plans good (λ node. heard_by frame clock node) (λ node. heard_own frame clock node) (λ node. heard_number frame clock node)
        (moved (heard_by frame clock) (at_least w.manager w.manager.clock)) w.manager.nodes (with_line new w.lines) refl h.begun h.apart (λ n e. line_none new w.lines n (h.none n e)) h.absent
        n p e (if n == m then after_from p clock stage else stage) (heard_goes n p e stage s (n == m) refl))

    -- when all nodes are ready, no frame is under way from them
    not_started : w.manager.started ≡ true → ⊥
    not_started e =
        let q = planned_at m line lined (plans m) refl in
        let s = h.each m q.0 q.1 in
        let same : s.1.line ≡ line = same_line w.lines m s.1.line line s.1.lined lined in
        let ready = ready_found w.manager.nodes m s.1.node (sym h.starts ∙ e) s.1.found in
        no_front frame rest (sym (ready_line q.0 (good.sound m q.0 q.1) s.0 s.1.node s.1.line s.1.at ready) ∙ ap (λ l. l.from) same ∙ front)

    frame_holds : Holds plans (posted (heard w.manager frame w.manager.clock) (with_line new w.lines))
    frame_holds =
        subst (λ x. Holds plans (posted x (with_line new w.lines))) (sym (heard_begun w.manager frame w.manager.clock h.begun))
        (and_start plans good (λ node. heard_by frame clock node) (λ node. heard_own frame clock node) (λ node. heard_number frame clock node)
        (moved (heard_by frame clock) (at_least w.manager w.manager.clock)) w.manager.nodes (with_line new w.lines) refl h.begun h.apart (λ n e. line_none new w.lines n (h.none n e)) h.absent
        (λ e. absurd (not_started e)) (λ n p e. let s = h.each n p e in (if n == m then after_from p clock s.0 else s.0, heard_goes n p e s.0 s.1 (n == m) refl)))

  from_holds : (m : ℕ) → Holds plans (heard_from w (line_of w.lines m))
  from_holds m = by_line (line_of w.lines m) refl
    where
      by_front : (line : Line) → line_of w.lines m ≡ Some line → (from : List Message) → line.from ≡ from → Holds plans (heard_on w line from)
      by_front line lined [] front = h
      by_front line lined (frame ∷ rest) front = frame_holds m line lined frame rest front

      by_line : (o : Option Line) → line_of w.lines m ≡ o → Holds plans (heard_from w o)
      by_line None e = h
      by_line (Some line) e = by_front line e line.from refl

  -- a frame is delivered to the line of a number
  module _ (m : ℕ) (line : Line) (d : Attached) (frame : Message) (rest : List Message) (r : Responded) (lined : line_of w.lines m ≡ Some line) (has : line.device ≡ Some d)
      (front : line.to ≡ frame ∷ rest) (may : MayRespond d frame r) where
    abbrev answered_line : Line
    answered_line = record line { to = rest; from = line.from ++ option_to_list r.answer; device = Some r.device }

    pub to_stands : (n : ℕ) (p : Plan) → plans n ≡ Some p → (stage : Stage) → Stands w n p stage → (b : Bool) → (n == m) ≡ b
        → Stands (record w { lines = with_line answered_line w.lines }) n p (if b then after_to stage else stage)
    to_stands n p e stage s true t =
        let at_n : line_of w.lines n ≡ Some line = subst (λ k. line_of w.lines k ≡ Some line) (sym (eqb-true n m t)) lined in
        let same : s.line ≡ line = same_line w.lines n s.line line s.lined at_n in
        record {
          node = s.node;
          line = answered_line;
          found = s.found;
          lined = line_put answered_line w.lines n line at_n refl;
          at = delivered p (good.sound n p e) stage s.node line frame rest d r (subst (λ l. IsAt p stage s.node l) same s.at) front has may;
        }
    to_stands n p e stage s false t =
        let q = planned_at m line lined (plans m) refl in
        let numbers = numbered p stage s.node s.line s.at in
        let other : (s.line.number == answered_line.number) ≡ false = rw (numbers.1 ∙ good.number n p e, line_number m line lined q.0 q.1) t in
        record { node = s.node; line = s.line; found = s.found; lined = line_stays answered_line w.lines n s.line s.lined other; at = s.at }

    to_holds : Holds plans (record w { lines = with_line answered_line w.lines })
    to_holds = record {
      begun = h.begun;
      apart = h.apart;
      starts = h.starts;
      none = λ n e. line_none answered_line w.lines n (h.none n e);
      absent = h.absent;
      each = λ n p e. let s = h.each n p e in (if n == m then after_to s.0 else s.0, to_stands n p e s.0 s.1 (n == m) refl);
    }

  pub turn_holds : (turn : Turn) (next : World) → Takes w turn next → Holds plans next
  turn_holds (Moment now) next e = subst (Holds plans) (sym e) (moment_holds now)
  turn_holds (FromNode m) next e = subst (Holds plans) (sym e) (from_holds m)
  turn_holds (ToNode m) next t = by_line (line_of w.lines m) refl t
    where
      by_front : (line : Line) → line_of w.lines m ≡ Some line → (device : Option Attached) → line.device ≡ device → (to : List Message) → line.to ≡ to → Delivers w line device to next → Holds plans next
      by_front line lined None a to b e = subst (Holds plans) (sym e) h
      by_front line lined (Some d) a [] b e = subst (Holds plans) (sym e) h
      by_front line lined (Some d) a (frame ∷ rest) b (r, may, e) = subst (Holds plans) (sym e) (to_holds m line d frame rest r lined a b may)

      by_line : (o : Option Line) → line_of w.lines m ≡ o → DeliversTo w o next → Holds plans next
      by_line None e t = subst (Holds plans) (sym t) h
      by_line (Some line) e t = by_front line e line.device refl line.to refl t

-- after any turns each node stands at a stage of its plan
pub turns_hold : (plans : ℕ → Option Plan) (good : ArePlans plans) (turns : List Turn) (w next : World) → Holds plans w → TakesAll w turns next → Holds plans next
turns_hold plans good [] w next h e = subst (Holds plans) (sym e) h
turns_hold plans good (turn ∷ turns) w next h (between, t, more) = turns_hold plans good turns between next (turn_holds plans good w h turn between t) more
