-- One node hears a frame, and no other.
use Rattle.std.proofs.Common.{◌≡◌, ◌==◌, ℕ, zero, suc, ◌+◌, ◌<◌, ◌≤◌, Bool, true, false, cond, ◌&&◌, ◌||◌, List, [], ◌∷◌, ◌++◌, map, length, set, get_or, refl, ap, sym, subst, ◌∙◌, arith, nat_lt, Option, Some, None}
use Rattle.std.specs.Prelude.{All, max, not, slice_get, option_map, option_to_list}
use Rattle.std.specs.List.{position, position_or_len, list_all}
use Rattle.std.proofs.lemmas.Bool.Decides.{nat_tests}
use Rattle.std.proofs.lemmas.List.Elements.{All-head, All-tail, All-get_or}
use Rattle.std.proofs.lemmas.List.Sums.{fails_before_first, passes_at_first}
use Rattle.cop_frame.specs.declared.frames.Frame.{Frame}
use Rattle.cop_sdo.specs.Message.{Message, message_of}
use Rattle.cop_sdo.specs.Reply.{is_answer}
use Rattle.cop_boot.specs.declared.member.Member.{Member}
use Rattle.cop_sdo.specs.Reply.{Reply, reply_of}
use Rattle.cop_setup.specs.declared.setting.Setting.{Setting}
use Rattle.cop_boot.specs.declared.«end».End.TheVariants.{Restarting}
use Rattle.cop_boot.specs.declared.«end».Phase.{Phase}
use Rattle.cop_boot.specs.declared.«end».Phase.TheVariants.{Waiting, Sending, Over}
use Rattle.cop_boot.specs.Settings.{address_of}
use Rattle.cop_boot.specs.Node.{Node, Moved, stays, over, sends, goes_on, is_final, booted, refusal, judged, answer_to, answered, answered_in}
use Rattle.cop_boot.proofs.DriveLemmas.{heard_begun, chosen}
use Rattle.cop_boot.specs.Manager.{Managing, Managed, comes_from, is_ready, all_ready, is_boot_up, heard_by, heard, moved, at_least, start_all, node_of, sent_by}
use Rattle.cop_boot.specs.Booted.{Apart}
use Rattle.cop_boot.specs.Member.{seen, IsMember, Moves}

-- a frame of another identifier does nothing
pub deaf : (frame : Message) (now : ℕ) (node : Node) → comes_from node.number frame.id ≡ false → heard_by frame now node ≡ stays node
deaf frame now node h = by_tests (frame.id == 0x700 + node.number) (frame.id == 0x580 + node.number) _ _ h
  where
    by_tests : (a b x y : Bool) → (a || b) ≡ false → cond (a && x) (booted node now) (cond (b && y) (answered node now frame.body) (stays node)) ≡ stays node
    by_tests true b x y h = cc
    by_tests false true x y h = cc
    by_tests false false x y h = refl

-- a frame comes from one node alone
one_sender : (m n id : ℕ) → m ≤ 127 → n ≤ 127 → (m == n) ≡ false → comes_from m id ≡ true → comes_from n id ≡ false
one_sender m n id low high apart from = grind (arith, nat_tests)

module _ (frame : Message) (now : ℕ) where
  abbrev hears : Node → Moved
  hears = heard_by frame now

  -- no member hears it
  none_hears : (xs : List Member) → ((k : ℕ) (d : Member) → k < length xs → comes_from (get_or xs k d).node frame.id ≡ false)
      → (map seen xs ≡ map (λ node. (hears node).node) (map seen xs)) × ([] ≡ sent_by hears (map seen xs))
  none_hears [] h = (refl, refl)
  none_hears (x ∷ xs) h =
      let here = deaf frame now (seen x) (h 0 x (omega arith)) in
      let later = none_hears xs (λ k d l. h (suc k) d (omega arith)) in
      (rw here (ap (λ nodes. seen x ∷ nodes) later.0), rw here later.1)

  -- those after one of another number do not
  others_deaf : (n : ℕ) → n ≤ 127 → comes_from n frame.id ≡ true → (xs : List Member) → All IsMember xs → node_of (map seen xs) n ≡ None
      → (k : ℕ) (d : Member) → k < length xs → comes_from (get_or xs k d).node frame.id ≡ false
  others_deaf n low from [] all none k d l = absurd (let g : ⊥ = omega arith in g)
  others_deaf n low from (x ∷ xs) all none k d l = by_test (x.node == n) refl none k l (λ none k l. others_deaf n low from xs (All-tail IsMember x xs all) none k d l)
    where
      by_test : (b : Bool) → (x.node == n) ≡ b → cond b (Some (seen x)) (node_of (map seen xs) n) ≡ None → (k : ℕ) → k < length (x ∷ xs)
          → (node_of (map seen xs) n ≡ None → (k : ℕ) → k < length xs → comes_from (get_or xs k d).node frame.id ≡ false) → comes_from (get_or (x ∷ xs) k d).node frame.id ≡ false
      by_test true e none k l later = cc
      by_test false e none zero l later = one_sender n x.node frame.id low (All-head IsMember x xs all).greatest (turned x.node n e) from
        where
          turned : (a b : ℕ) → (a == b) ≡ false → (b == a) ≡ false
          turned a b h = grind (arith, nat_tests)
      by_test false e none (suc k) l later = later none k (omega arith)

  -- a member behind one of another number has that other number
  not_first : (x : Member) (xs : List Member) (i : ℕ) (d : Member) → i < length xs → node_of (map seen xs) x.node ≡ None → ((get_or xs i d).node == x.node) ≡ false
  not_first x [] i d l none = absurd (let g : ⊥ = omega arith in g)
  not_first x (y ∷ xs) i d l none = by_test (y.node == x.node) refl none i l (λ none i l. not_first x xs i d l none)
    where
      by_test : (b : Bool) → (y.node == x.node) ≡ b → cond b (Some (seen y)) (node_of (map seen xs) x.node) ≡ None → (i : ℕ) → i < length (y ∷ xs)
          → (node_of (map seen xs) x.node ≡ None → (i : ℕ) → i < length xs → ((get_or xs i d).node == x.node) ≡ false) → ((get_or (y ∷ xs) i d).node == x.node) ≡ false
      by_test true e none i l later = cc
      by_test false e none zero l later = e
      by_test false e none (suc i) l later = later none i (omega arith)

  -- the one from whose node it comes hears it
  pub one_hears : (xs : List Member) (i : ℕ) (new d : Member) (sent : Option Frame) → All IsMember xs → Apart (map seen xs) → i < length xs
      → comes_from (get_or xs i d).node frame.id ≡ true → Moves sent new (hears (seen (get_or xs i d)))
      → (map seen (set xs i new) ≡ map (λ node. (hears node).node) (map seen xs)) × (option_to_list (option_map message_of sent) ≡ sent_by hears (map seen xs))
  one_hears [] i new d sent all apart l from moves = absurd (let g : ⊥ = omega arith in g)
  one_hears (x ∷ xs) zero new d sent all apart l from moves =
      let others = none_hears xs (others_deaf x.node (All-head IsMember x xs all).greatest from xs (All-tail IsMember x xs all) apart.0) in (
        ap (λ m. m.node ∷ map seen xs) moves ∙ ap (λ nodes. (hears (seen x)).node ∷ nodes) others.0,
        sym (append_nil_so (option_to_list (option_map message_of sent))) ∙ ap (λ m. option_to_list m.frame ++ []) moves ∙ ap (λ frames. option_to_list (hears (seen x)).frame ++ frames) others.1,
      )
    where
      append_nil_so : (l : List Message) → l ++ [] ≡ l
      append_nil_so [] = refl
      append_nil_so (m ∷ l) = ap (λ l. m ∷ l) (append_nil_so l)
  one_hears (x ∷ xs) (suc i) new d sent all apart l from moves =
      let tail = All-tail IsMember x xs all in
      let inside : i < length xs = omega arith in
      let low = (All-get_or IsMember xs i d inside tail).greatest in
      let here = deaf frame now (seen x) (one_sender (get_or xs i d).node x.node frame.id low (All-head IsMember x xs all).greatest (not_first x xs i d inside apart.0) from) in
      let later = one_hears xs i new d sent tail apart.1 inside from moves in
      (rw here (ap (λ nodes. seen x ∷ nodes) later.0), rw here later.1)

  module _ (xs : List Member) where
    abbrev test : Member → Bool
    test m = comes_from m.node frame.id

    pub found_so : (i : ℕ) → position test xs ≡ Some i → (i < length xs) × ((d : Member) → comes_from (get_or xs i d).node frame.id ≡ true)
    found_so i h = by_test (nat_lt (position_or_len test xs) (length xs)) refl h
      where
        less : (a b : ℕ) → nat_lt a b ≡ true → a < b
        less a b h = grind (arith, nat_tests)

        by_test : (b : Bool) → nat_lt (position_or_len test xs) (length xs) ≡ b → cond b (Some (position_or_len test xs)) None ≡ Some i
            → (i < length xs) × ((d : Member) → comes_from (get_or xs i d).node frame.id ≡ true)
        by_test true e h =
            let same : position_or_len test xs ≡ i = cc in
            let l = less (position_or_len test xs) (length xs) e in
            (subst (λ i. i < length xs) same l, λ d. subst (λ i. comes_from (get_or xs i d).node frame.id ≡ true) same (passes_at_first test xs d l))
        by_test false e h = cc

    pub absent_so : position test xs ≡ None → (map seen xs ≡ map (λ node. (hears node).node) (map seen xs)) × ([] ≡ sent_by hears (map seen xs))
    absent_so h = by_test (nat_lt (position_or_len test xs) (length xs)) refl h
      where
        most : (a b : ℕ) → nat_lt a b ≡ false → b ≤ a
        most a b h = grind (arith, nat_tests)

        by_test : (b : Bool) → nat_lt (position_or_len test xs) (length xs) ≡ b → cond b (Some (position_or_len test xs)) None ≡ None
            → (map seen xs ≡ map (λ node. (hears node).node) (map seen xs)) × ([] ≡ sent_by hears (map seen xs))
        by_test true e h = cc
        by_test false e h =
            let all = most (position_or_len test xs) (length xs) e in
            none_hears xs (λ k d l. fails_before_first test xs k d (omega (arith, l, all)))

-- members are all ready where their nodes are
pub all_ready_so : (xs : List Member) → false ≡ (length xs == 0) → list_all (λ m. is_ready (seen m)) xs ≡ all_ready (map seen xs)
all_ready_so [] h = cc
all_ready_so (x ∷ xs) h = all_so (x ∷ xs)
  where
    all_so : (xs : List Member) → list_all (λ m. is_ready (seen m)) xs ≡ list_all is_ready (map seen xs)
    all_so [] = refl
    all_so (x ∷ xs) = ap (λ b. is_ready (seen x) && b) (all_so xs)

-- a node that is ready after a frame has sent nothing
quiet_ready : (frame : Message) (now : ℕ) (node : Node) → is_ready (heard_by frame now node).node ≡ true → (heard_by frame now node).frame ≡ None
quiet_ready frame now node = by_tests (is_boot_up node.number frame) (is_answer node.number frame)
  where
    by_setting : (n : Node) (done : ℕ) (o : Option Setting) → is_ready (sends n done now o).node ≡ true → (sends n done now o).frame ≡ None
    by_setting n done None h = refl
    by_setting n done (Some s) h = cc

    by_boots : (a b : Bool) → is_ready (cond a (stays node) (cond b (over node (Restarting node.number) None) (goes_on (record node { boots = suc node.boots }) 0 now))).node ≡ true
        → (cond a (stays node) (cond b (over node (Restarting node.number) None) (goes_on (record node { boots = suc node.boots }) 0 now))).frame ≡ None
    by_boots true b h = refl
    by_boots false true h = refl
    by_boots false false h = by_setting (record node { boots = suc node.boots }) 0 (slice_get node.settings 0) h

    by_refusal : (done : ℕ) (s : Setting) (r : Reply) (o : Option ℕ) → is_ready (judged node done now s r o).node ≡ true → (judged node done now s r o).frame ≡ None
    by_refusal done s r None h = by_setting node (suc done) (slice_get node.settings (suc done)) h
    by_refusal done s r (Some code) h = cc

    by_answer : (done : ℕ) (o : Option Setting) → is_ready (answer_to node done now frame.body o).node ≡ true → (answer_to node done now frame.body o).frame ≡ None
    by_answer done None h = refl
    by_answer done (Some s) h = by_refusal done s (reply_of frame.body) (refusal (address_of s) (reply_of frame.body)) h

    by_phase : (p : Phase) → is_ready (answered_in node now frame.body p).node ≡ true → (answered_in node now frame.body p).frame ≡ None
    by_phase (Waiting since) h = refl
    by_phase (Sending done since) h = by_answer done (slice_get node.settings done) h
    by_phase (Over e) h = refl

    by_tests : (a b : Bool) → is_ready (cond a (booted node now) (cond b (answered node now frame.body) (stays node))).node ≡ true
        → (cond a (booted node now) (cond b (answered node now frame.body) (stays node))).frame ≡ None
    by_tests true b h = by_boots (is_final node.phase) (node.boots == 3) h
    by_tests false true h = by_phase node.phase h
    by_tests false false h = refl

none_sent : (frame : Message) (now : ℕ) (nodes : List Node) → list_all is_ready (map (λ node. (heard_by frame now node).node) nodes) ≡ true → sent_by (heard_by frame now) nodes ≡ []
none_sent frame now [] h = refl
none_sent frame now (x ∷ nodes) h = by_ready (is_ready (heard_by frame now x).node) refl h (none_sent frame now nodes)
  where
    by_ready : (b : Bool) → is_ready (heard_by frame now x).node ≡ b → (b && list_all is_ready (map (λ node. (heard_by frame now node).node) nodes)) ≡ true
        → (list_all is_ready (map (λ node. (heard_by frame now node).node) nodes) ≡ true → sent_by (heard_by frame now) nodes ≡ []) → sent_by (heard_by frame now) (x ∷ nodes) ≡ []
    by_ready true e h later = rw (quiet_ready frame now x e) (later h)
    by_ready false e h later = cc

abbrev pub heard_nodes : Message → ℕ → List Node → List Node
heard_nodes frame now nodes = map (λ node. (heard_by frame now node).node) nodes

quiet_all : (frame : Message) (now : ℕ) (nodes : List Node) → all_ready (heard_nodes frame now nodes) ≡ true → sent_by (heard_by frame now) nodes ≡ []
quiet_all frame now [] h = cc
quiet_all frame now (x ∷ nodes) h = none_sent frame now (x ∷ nodes) h

abbrev started_with : List Node → ℕ → List Message → Bool → Managed
started_with nodes clock frames begun = record { manager = record { begun = begun; clock = clock; started = true; nodes = nodes }; frames = frames }

-- the start is all that is sent then
starts_alone : (m : Managing) (frame : Message) (now : ℕ) → m.begun ≡ true → m.started ≡ false → all_ready (heard_nodes frame (max m.clock now) m.nodes) ≡ true
    → heard m frame now ≡ started_with (heard_nodes frame (max m.clock now) m.nodes) (max m.clock now) (start_all ∷ []) true
starts_alone m frame now has not_yet all =
    let clock = max m.clock now in
    let sent = sent_by (heard_by frame clock) m.nodes in
    heard_begun m frame now has
    ∙ chosen (not m.started && all_ready (heard_nodes frame clock m.nodes)) (started_with (heard_nodes frame clock m.nodes) clock (sent ++ start_all ∷ []) m.begun)
    (record { manager = moved (heard_by frame clock) (at_least m now); frames = sent }) (rw not_yet all)
    ∙ ap (λ frames. started_with (heard_nodes frame clock m.nodes) clock (frames ++ start_all ∷ []) m.begun) (quiet_all frame clock m.nodes all)
    ∙ ap (started_with (heard_nodes frame clock m.nodes) clock (start_all ∷ [])) has

pub starts_as : (m : Managing) (frame start : Message) (now clock : ℕ) (begun : Bool) (nodes : List Node) → m.begun ≡ true → m.started ≡ false → begun ≡ true
    → clock ≡ max m.clock now → nodes ≡ heard_nodes frame clock m.nodes → all_ready nodes ≡ true → start ≡ start_all
    → started_with nodes clock (start ∷ []) begun ≡ heard m frame now
starts_as m frame start now clock begun nodes has not_yet begun_so clock_so nodes_so all start_so =
    let ready = rw (nodes_so, clock_so) at all in
    rw (begun_so, nodes_so, clock_so, start_so) (sym (starts_alone m frame now has not_yet ready))
