-- What is sent at a moment, and how much is sent at most.
use Rattle.std.proofs.Common.{◌≡◌, ℕ, suc, ◌+◌, ◌≤◌, Bool, true, false, cond, List, [], ◌∷◌, ◌++◌, map, length, max, nat_le, refl, ap, sym, ◌∙◌, arith, append_assoc, Option, Some, None}
use Rattle.std.specs.Prelude.{slice_get, option_to_list}
use Rattle.std.proofs.lemmas.List.{append-nil, length-map}
use Rattle.cop_frame.specs.declared.frames.Frame.{Frame}
use Rattle.cop_sdo.specs.Message.{Message, message_of}
use Rattle.cop_sdo.specs.Reply.{is_answer}
use Rattle.cop_boot.specs.declared.«end».End.TheVariants.{Silent}
use Rattle.cop_boot.specs.declared.«end».Phase.{Phase}
use Rattle.cop_boot.specs.declared.«end».Phase.TheVariants.{Waiting, Sending, Over}
use Rattle.cop_boot.specs.Node.{Node, Moved, stays, over, is_final, booted, answered, awaited, awaited_in, gives_up}
use Rattle.cop_boot.specs.Manager.{Managing, Managed, is_boot_up, heard_by, heard, moved, at_least, passed, reached, first_silent, until_frame, sent_by, behind, open_nodes, begun_at}
use Rattle.cop_boot.proofs.DriveLemmas.{heard_begun, passed_begun, starting_so}

-- a node that has waited is not moved by the same moment again
again : (x : Node) (now : ℕ) → awaited (awaited x now).node now ≡ stays (awaited x now).node
again x now = by_phase x.phase refl
  where
    by_test : (p : Phase) (frame : Option Message) (t b : Bool) → t ≡ b → x.phase ≡ p → awaited_in x now p ≡ cond t (over x (Silent x.number) frame) (stays x)
        → awaited (cond b (over x (Silent x.number) frame) (stays x)).node now ≡ stays (cond b (over x (Silent x.number) frame) (stays x)).node
    by_test p frame t true e is so = refl
    by_test p frame t false e is so = ap (awaited_in x now) is ∙ so ∙ ap (λ t. cond t (over x (Silent x.number) frame) (stays x)) e

    by_phase : (p : Phase) → x.phase ≡ p → awaited (awaited_in x now p).node now ≡ stays (awaited_in x now p).node
    by_phase (Waiting since) e = by_test (Waiting since) None (nat_le (since + x.limit) now) (nat_le (since + x.limit) now) refl e refl
    by_phase (Sending done since) e = by_test (Sending done since) (gives_up x.number (slice_get x.settings done)) (nat_le (since + 4000000) now) (nat_le (since + 4000000) now) refl e refl
    by_phase (Over end_now) e = ap (awaited_in x now) e

module _ (now : ℕ) where
  abbrev waits : Node → Moved
  waits node = awaited node now

  record Sends (nodes later : List Node) (frame : Message) : Type 0 where
    same : map (λ node. (waits node).node) nodes ≡ map (λ node. (waits node).node) later
    sent : sent_by waits nodes ≡ frame ∷ sent_by waits later

  -- the first frame of a moment, and what is left of it
  sends_first : (nodes later : List Node) (frame : Message) → (later, Some frame) ≡ first_silent now nodes → Sends nodes later frame
  sends_first [] later frame h = absurd (let clash : Some frame ≡ None = ap (λ p. p.1) h in cc)
  sends_first (x ∷ nodes) later frame h = by_frame (waits x).frame refl h (λ rest h. sends_first nodes rest frame h)
    where
      by_frame : (o : Option Message) → (waits x).frame ≡ o → (later, Some frame) ≡ until_frame (waits x).node o nodes (first_silent now nodes)
          → ((rest : List Node) → (rest, Some frame) ≡ first_silent now nodes → Sends nodes rest frame) → Sends (x ∷ nodes) later frame
      by_frame (Some f) e h more =
          let is : later ≡ (waits x).node ∷ nodes = ap (λ p. p.0) h in
          let same_frame : Some frame ≡ Some f = ap (λ p. p.1) h in
          let at : frame ≡ f = cc in
          record {
            same = rw (is, again x now) refl;
            sent = rw (e, is, again x now, at) refl;
          }
      by_frame None e h more =
          let is : later ≡ (waits x).node ∷ (first_silent now nodes).0 = ap (λ p. p.0) h in
          let f : Some frame ≡ (first_silent now nodes).1 = ap (λ p. p.1) h in
          let rest = more (first_silent now nodes).0 (ap (λ o. ((first_silent now nodes).0, o)) f) in
          record {
            same = rw (is, again x now) (ap (λ ns. (waits x).node ∷ ns) rest.same);
            sent = rw (e, is, again x now) rest.sent;
          }

  record Rests (nodes later : List Node) : Type 0 where
    same : map (λ node. (waits node).node) nodes ≡ later
    sent : sent_by waits nodes ≡ []

  sends_none : (nodes later : List Node) → (later, None) ≡ first_silent now nodes → Rests nodes later
  sends_none [] later h = record { same = sym (ap (λ p. p.0) h); sent = refl }
  sends_none (x ∷ nodes) later h = by_frame (waits x).frame refl h (λ rest h. sends_none nodes rest h)
    where
      by_frame : (o : Option Message) → (waits x).frame ≡ o → (later, None) ≡ until_frame (waits x).node o nodes (first_silent now nodes)
          → ((rest : List Node) → (rest, None) ≡ first_silent now nodes → Rests nodes rest) → Rests (x ∷ nodes) later
      by_frame (Some f) e h more = let clash : None ≡ Some f = ap (λ p. p.1) h in cc
      by_frame None e h more =
          let is : later ≡ (waits x).node ∷ (first_silent now nodes).0 = ap (λ p. p.0) h in
          let f : None ≡ (first_silent now nodes).1 = ap (λ p. p.1) h in
          let rest = more (first_silent now nodes).0 (ap (λ o. ((first_silent now nodes).0, o)) f) in
          record {
            same = ap (λ ns. (waits x).node ∷ ns) rest.same ∙ sym is;
            sent = rw e rest.sent;
          }

max_twice : (a b : ℕ) → max (max a b) b ≡ max a b
max_twice a b = omega arith

-- one call for a moment gave a frame: the rest of the moment is what is left
pub reached_some : (m later : Managing) (now : ℕ) (frame : Message) → (later, Some frame) ≡ reached m now
    → (let out : Managed = record { manager = (passed later now).manager; frames = frame ∷ (passed later now).frames } in out) ≡ passed m now
reached_some m later now frame h = by_begun m.begun refl h
  where
    by_begun : (b : Bool) → m.begun ≡ b
        → ◌≡◌ {A = Managing × Option Message} (later, Some frame) (cond {A = Managing × Option Message} b (record (at_least m now) { nodes = (first_silent (max m.clock now) m.nodes).0 }, (first_silent (max m.clock now) m.nodes).1) (m, None))
        → (let out : Managed = record { manager = (passed later now).manager; frames = frame ∷ (passed later now).frames } in out) ≡ passed m now
    by_begun false e h = let clash : Some frame ≡ None = ap (λ p. p.1) h in cc
    by_begun true e h =
        let is : later ≡ record (at_least m now) { nodes = (first_silent (max m.clock now) m.nodes).0 } = ap (λ p. p.0) h in
        let f : Some frame ≡ (first_silent (max m.clock now) m.nodes).1 = ap (λ p. p.1) h in
        let s = sends_first (max m.clock now) m.nodes (first_silent (max m.clock now) m.nodes).0 frame (ap (λ o. ((first_silent (max m.clock now) m.nodes).0, o)) f) in
        rw (is, passed_begun m now e, passed_begun (record (at_least m now) { nodes = (first_silent (max m.clock now) m.nodes).0 }) now e, max_twice m.clock now, s.same, s.sent) refl

pub reached_none : (m later : Managing) (now : ℕ) → (later, None) ≡ reached m now → (let out : Managed = record { manager = later; frames = [] } in out) ≡ passed m now
reached_none m later now h = by_begun m.begun refl h
  where
    by_begun : (b : Bool) → m.begun ≡ b
        → ◌≡◌ {A = Managing × Option Message} (later, None) (cond {A = Managing × Option Message} b (record (at_least m now) { nodes = (first_silent (max m.clock now) m.nodes).0 }, (first_silent (max m.clock now) m.nodes).1) (m, None))
        → (let out : Managed = record { manager = later; frames = [] } in out) ≡ passed m now
    by_begun false e h = let is : later ≡ m = ap (λ p. p.0) h in rw (is, e) refl
    by_begun true e h =
        let is : later ≡ record (at_least m now) { nodes = (first_silent (max m.clock now) m.nodes).0 } = ap (λ p. p.0) h in
        let f : None ≡ (first_silent (max m.clock now) m.nodes).1 = ap (λ p. p.1) h in
        let s = sends_none (max m.clock now) m.nodes (first_silent (max m.clock now) m.nodes).0 (ap (λ o. ((first_silent (max m.clock now) m.nodes).0, o)) f) in
        rw (is, passed_begun m now e, s.same, s.sent) refl

-- how many nodes are open

abbrev one_open : Phase → ℕ
one_open p = cond (is_final p) 0 1

at_most_one : (p : Phase) → one_open p ≤ 1
at_most_one p = by_test (is_final p)
  where
    by_test : (b : Bool) → cond b 0 1 ≤ 1
    by_test true = omega arith
    by_test false = omega arith

-- an end stands, whatever is heard
heard_open : (frame : Message) (now : ℕ) (node : Node) → one_open (heard_by frame now node).node.phase ≤ one_open node.phase
heard_open frame now node = by_final (is_final node.phase) refl
  where
    final_stays : (p : Phase) → node.phase ≡ p → is_final p ≡ true → (heard_by frame now node).node ≡ node
    final_stays (Waiting since) e h = cc
    final_stays (Sending done since) e h = cc
    final_stays (Over x) e h = by_tests (is_boot_up node.number frame) (is_answer node.number frame)
      where
        by_tests : (a b : Bool) → (cond a (booted node now) (cond b (answered node now frame.body) (stays node))).node ≡ node
        by_tests true b = rw (e, h) refl
        by_tests false true = rw e refl
        by_tests false false = refl

    by_final : (b : Bool) → is_final node.phase ≡ b → one_open (heard_by frame now node).node.phase ≤ cond b 0 1
    by_final true e = rw (final_stays node.phase refl e, e) (omega arith)
    by_final false e = at_most_one (heard_by frame now node).node.phase

heard_fewer : (frame : Message) (now : ℕ) (nodes : List Node) → open_nodes (map (λ node. (heard_by frame now node).node) nodes) ≤ open_nodes nodes
heard_fewer frame now [] = omega arith
heard_fewer frame now (x ∷ nodes) = let a = heard_open frame now x in let b = heard_fewer frame now nodes in omega arith

pub heard_closes : (m : Managing) (frame : Message) (now : ℕ) → open_nodes (heard m frame now).manager.nodes ≤ open_nodes m.nodes
heard_closes m frame now = by_begun m.begun refl
  where
    by_begun : (b : Bool) → m.begun ≡ b → open_nodes (heard m frame now).manager.nodes ≤ open_nodes m.nodes
    by_begun false e = rw e (omega arith)
    by_begun true e =
        rw (heard_begun m frame now e, (starting_so (moved (heard_by frame (max m.clock now)) (at_least m now)) (sent_by (heard_by frame (max m.clock now)) m.nodes)).0) (heard_fewer frame (max m.clock now) m.nodes)

-- each frame of a moment closes a node
awaited_open : (x : Node) (now : ℕ) → length (option_to_list (awaited x now).frame) + one_open (awaited x now).node.phase ≤ one_open x.phase
awaited_open x now = by_phase x.phase refl
  where
    by_test : (p : Phase) (o : Option Message) (b : Bool) → x.phase ≡ p → one_open p ≡ 1
        → length (option_to_list (cond b (over x (Silent x.number) o) (stays x)).frame) + one_open (cond b (over x (Silent x.number) o) (stays x)).node.phase ≤ one_open p
    by_test p None true e one = rw one (omega arith)
    by_test p (Some f) true e one = rw one (omega arith)
    by_test p o false e one = rw (e, one) (omega arith)

    by_phase : (p : Phase) → x.phase ≡ p → length (option_to_list (awaited_in x now p).frame) + one_open (awaited_in x now p).node.phase ≤ one_open p
    by_phase (Waiting since) e = by_test (Waiting since) None (nat_le (since + x.limit) now) e refl
    by_phase (Sending done since) e = by_test (Sending done since) (gives_up x.number (slice_get x.settings done)) (nat_le (since + 4000000) now) e refl
    by_phase (Over end_now) e = rw e (omega arith)

length_both : (a b : List Message) → length (a ++ b) ≡ length a + length b
length_both [] b = omega arith
length_both (x ∷ a) b = let h = length_both a b in omega arith

waited_fewer : (now : ℕ) (nodes : List Node) → length (sent_by (λ node. awaited node now) nodes) + open_nodes (map (λ node. (awaited node now).node) nodes) ≤ open_nodes nodes
waited_fewer now [] = omega arith
waited_fewer now (x ∷ nodes) =
    let a = awaited_open x now in
    let b = waited_fewer now nodes in
    let c = length_both (option_to_list (awaited x now).frame) (sent_by (λ node. awaited node now) nodes) in
    omega arith

pub passed_closes : (m : Managing) (now : ℕ) → length (passed m now).frames + open_nodes (passed m now).manager.nodes ≤ open_nodes m.nodes
passed_closes m now = by_begun m.begun refl
  where
    by_begun : (b : Bool) → m.begun ≡ b → length (passed m now).frames + open_nodes (passed m now).manager.nodes ≤ open_nodes m.nodes
    by_begun false e = rw e (omega arith)
    by_begun true e = rw (passed_begun m now e) (waited_fewer (max m.clock now) m.nodes)

pub few_open : (nodes : List Node) → open_nodes nodes ≤ length nodes
few_open [] = omega arith
few_open (x ∷ nodes) = let a = at_most_one x.phase in let b = few_open nodes in omega arith

-- a call of a moment that gave a frame, among those of the loop
pub goes_on_by : (before after : List Message) (m later : Managing) (frame : Message) (now : ℕ) (all : Managed)
    → all ≡ behind before (passed m now) → (later, Some frame) ≡ reached m now → after ≡ before ++ frame ∷ []
    → (all ≡ behind after (passed later now)) × (length (passed m now).frames ≡ suc (length (passed later now).frames))
goes_on_by before after m later frame now all h call push =
    let rest = reached_some m later now frame call in (
      h ∙ ap (behind before) (sym rest) ∙ ap (λ frames. let out : Managed = record { manager = (passed later now).manager; frames = frames } in out) (sym (append_assoc before (frame ∷ []) (passed later now).frames))
          ∙ ap (λ after. behind after (passed later now)) (sym push),
      ap (λ out. length out.frames) (sym rest),
    )

pub ends_by : (before : List Message) (m later : Managing) (now : ℕ) (all : Managed) → all ≡ behind before (passed m now) → (later, None) ≡ reached m now
    → (let out : Managed = record { manager = later; frames = before } in out) ≡ all
ends_by before m later now all h call =
    ap (λ frames. let out : Managed = record { manager = later; frames = frames } in out) (sym (append-nil before)) ∙ ap (behind before) (reached_none m later now call) ∙ sym h

length_same : (xs : List Frame) → length (map message_of xs) ≡ length xs
length_same [] = refl
length_same (x ∷ xs) = ap suc (length_same xs)

pub counted : (xs ys : List Frame) (more : List Message) → map message_of ys ≡ map message_of xs ++ more → length ys ≡ length xs + length more
counted xs ys more h =
    sym (length_same ys) ∙ ap length h ∙ length_both (map message_of xs) more ∙ ap (λ n. n + length more) (length_same xs)

pub begun_count : (m new : Managing) (frames : List Message) → (let out : Managed = record { manager = new; frames = frames } in out) ≡ begun_at m 0 → length new.nodes ≡ length m.nodes
begun_count m new frames h = ap (λ out. length out.manager.nodes) h ∙ simp length-map
