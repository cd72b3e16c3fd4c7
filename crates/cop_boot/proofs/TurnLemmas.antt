-- One turn of a boot whose channels are kept as a log.
use Rattle.std.proofs.Common.{◌≡◌, ◌==◌, ℕ, zero, suc, ◌≤◌, Bool, true, false, cond, List, [], ◌∷◌, ◌++◌, map, max, length, drop, get_or, refl, ap, sym, subst, ◌∙◌, arith, replicate, Option, Some, None}
use Rattle.std.proofs.lemmas.Bool.{eqb-true}
use Rattle.std.specs.Prelude.{filter, find, option_map, option_to_list, is_some, IsSome, if◌then◌else◌}
use Rattle.std.proofs.lemmas.List.{drop-append-le, length-map}
use Rattle.std.proofs.Math.ListN.{length-replicate}
use Rattle.std.proofs.lemmas.List.Elements.{filter-append}
use Rattle.cop_frame.specs.declared.frames.Frame.{Frame}
use Rattle.cop_sdo.specs.Message.{Message, message_of}
use Rattle.cop_dict.specs.Find.{Entry}
use Rattle.cop_boot.specs.declared.bus.Answer.{Answer}
use Rattle.cop_boot.specs.declared.bus.Bus.{Bus}
use Rattle.cop_boot.specs.declared.turn.Turn.{Turn}
use Rattle.cop_boot.specs.declared.turn.Turn.TheVariants.{ToNode, FromNode, Moment}
use Rattle.cop_boot.specs.Node.{Node, awaited}
use Rattle.cop_boot.specs.Manager.{Managing, Managed, heard_by, heard, passed, node_of, moved, at_least, sent_by, behind, begun_at, waiting_from, reset_all}
use Rattle.cop_boot.specs.Device.{Attached}
use Rattle.cop_boot.specs.Booted.{device_of, CanBoot}
use Rattle.cop_boot.specs.Schedule.{Line, World, line_of, is_for, takes, with_line, DeliveredBy, Delivers, DeliversTo, heard_on, heard_from, Takes, begins, line_with}
use Rattle.cop_boot.specs.Bus.{IsBus, Runs, Made, to_of, from_of, line_at}
use Rattle.cop_boot.proofs.DriveLemmas.{heard_begun, passed_begun, starting_so}
use Rattle.cop_boot.proofs.BootLemmas.{boots_so}
use Rattle.cop_boot.proofs.WorldLemmas.{heard_number, awaited_number}

abbrev pub names : List Node → List ℕ
names nodes = map (λ node. node.number) nodes

-- lines of nodes, by their numbers
abbrev pub lines_by : (ℕ → Line) → List Node → List Line
lines_by at nodes = map (λ node. at node.number) nodes

pub line_found : (at : ℕ → Line) → ((n : ℕ) → (at n).number ≡ n) → (nodes : List Node) (n : ℕ) → line_of (lines_by at nodes) n ≡ option_map (λ node. at n) (node_of nodes n)
line_found at same [] n = refl
line_found at same (x ∷ nodes) n =
    ap (λ b. cond b (Some (at x.number)) (line_of (lines_by at nodes) n)) (ap (λ k. k == n) (same x.number)) ∙ by_test (x.number == n) refl (line_found at same nodes n)
  where
    by_test : (b : Bool) → (x.number == n) ≡ b → line_of (lines_by at nodes) n ≡ option_map (λ node. at n) (node_of nodes n)
        → cond b (Some (at x.number)) (line_of (lines_by at nodes) n) ≡ option_map (λ node. at n) (cond b (Some x) (node_of nodes n))
    by_test true e h = ap (λ k. Some (at k)) (eqb-true x.number n e)
    by_test false e h = h

-- a change of each line
pub lines_so : (new old : ℕ → Line) (f : Line → Line) → ((k : ℕ) → new k ≡ f (old k)) → (nodes : List Node) → lines_by new nodes ≡ map f (lines_by old nodes)
lines_so new old f same [] = refl
lines_so new old f same (x ∷ nodes) = rw (same x.number) (ap (λ l. f (old x.number) ∷ l) (lines_so new old f same nodes))

-- lines that are the same, one by one
pub lines_alike : (new old : ℕ → Line) → ((k : ℕ) → new k ≡ old k) → (nodes : List Node) → lines_by new nodes ≡ lines_by old nodes
lines_alike new old same [] = refl
lines_alike new old same (x ∷ nodes) = rw (same x.number) (ap (λ l. old x.number ∷ l) (lines_alike new old same nodes))

-- the lines of nodes with the same numbers
pub lines_named : (at : ℕ → Line) (a b : List Node) → names a ≡ names b → lines_by at a ≡ lines_by at b
lines_named at a b h = sym (twice a) ∙ ap (map at) h ∙ twice b
  where
    twice : (nodes : List Node) → map at (names nodes) ≡ lines_by at nodes
    twice [] = refl
    twice (x ∷ nodes) = ap (λ l. at x.number ∷ l) (twice nodes)

found_some : (nodes : List Node) (n : ℕ) → IsSome (node_of nodes n) → (node : Node) × (node_of nodes n ≡ Some node)
found_some nodes n h = by_found (node_of nodes n) refl h
  where
    by_found : (o : Option Node) → node_of nodes n ≡ o → IsSome o → (node : Node) × (node_of nodes n ≡ Some node)
    by_found None e h = cc
    by_found (Some node) e h = (node, e)

module _ (m : Managing) (old new : ℕ → Line) (sold : (n : ℕ) → (old n).number ≡ n) (n : ℕ) (has : IsSome (node_of m.nodes n)) where
  abbrev before : World
  before = record { manager = m; lines = lines_by old m.nodes }

  found : line_of before.lines n ≡ Some (old n)
  found = let f = found_some m.nodes n has in line_found old sold m.nodes n ∙ ap (option_map (λ node. old n)) f.1

  -- a line put in the place of its own
  put : (line : Line) → line.number ≡ n → new n ≡ line → ((k : ℕ) → (k == n) ≡ false → new k ≡ old k) → lines_by new m.nodes ≡ with_line line before.lines
  put line number is others = lines_so new old (λ l. if l.number == line.number then line else l) (λ k. by_test k (k == n) refl) m.nodes
    where
      by_test : (k : ℕ) (b : Bool) → (k == n) ≡ b → new k ≡ (if (old k).number == line.number then line else old k)
      by_test k true e = ap new (eqb-true k n e) ∙ is ∙ sym (ap (λ b. cond b line (old k)) (ap (λ i. i == line.number) (sold k) ∙ ap (λ j. k == j) number ∙ e))
      by_test k false e = others k e ∙ sym (ap (λ b. cond b line (old k)) (ap (λ i. i == line.number) (sold k) ∙ ap (λ j. k == j) number ∙ e))

  same_lines : new n ≡ old n → ((k : ℕ) → (k == n) ≡ false → new k ≡ old k) → lines_by new m.nodes ≡ lines_by old m.nodes
  same_lines is others = lines_alike new old (λ k. by_test k (k == n) refl) m.nodes
    where
      by_test : (k : ℕ) (b : Bool) → (k == n) ≡ b → new k ≡ old k
      by_test k true e = ap new (eqb-true k n e) ∙ is ∙ ap old (sym (eqb-true k n e))
      by_test k false e = others k e

  -- a delivery to the node
  pub takes_to : DeliveredBy (old n) (old n).device (old n).to (new n) → ((k : ℕ) → (k == n) ≡ false → new k ≡ old k)
      → Takes before (ToNode n) (record { manager = m; lines = lines_by new m.nodes })
  takes_to served others = subst (λ o. DeliversTo before o (record { manager = m; lines = lines_by new m.nodes })) (sym found) (by_front (old n).device (old n).to served)
    where
      still : new n ≡ old n → (let w : World = record { manager = m; lines = lines_by new m.nodes } in w) ≡ before
      still is = ap (λ lines. let w : World = record { manager = m; lines = lines } in w) (same_lines is others)

      by_front : (device : Option Attached) (to : List Message) → DeliveredBy (old n) device to (new n) → Delivers before (old n) device to (record { manager = m; lines = lines_by new m.nodes })
      by_front None to is = still is
      by_front (Some device) [] is = still is
      by_front (Some device) (frame ∷ rest) (responded, may, is) = (
        responded,
        may,
        ap (λ lines. let w : World = record { manager = m; lines = lines } in w)
            (put (record (old n) { to = rest; from = (old n).from ++ option_to_list responded.answer; device = Some responded.device }) (sold n) is others),
      )

  -- a frame of the node is heard
  pub takes_from : (later : Managing) (after : ℕ → Line) (frame : Message) (rest : List Message) → (old n).from ≡ frame ∷ rest → later ≡ (heard m frame m.clock).manager → names later.nodes ≡ names m.nodes
      → new n ≡ record (old n) { from = rest } → ((k : ℕ) → (k == n) ≡ false → new k ≡ old k) → ((k : ℕ) → after k ≡ takes (heard m frame m.clock).frames (new k))
      → Takes before (FromNode n) (record { manager = later; lines = lines_by after later.nodes })
  takes_from later after frame rest front call same is others post =
      let lines : lines_by after later.nodes ≡ map (takes (heard m frame m.clock).frames) (with_line (record (old n) { from = rest }) before.lines) =
      lines_named after later.nodes m.nodes same ∙ lines_so after new (takes (heard m frame m.clock).frames) post m.nodes ∙ ap (map (takes (heard m frame m.clock).frames)) (put (record (old n) { from = rest }) (sold n) is others) in
      ap (λ lines. let w : World = record { manager = later; lines = lines } in w) lines
      ∙ ap (λ manager. let w : World = record { manager = manager; lines = map (takes (heard m frame m.clock).frames) (with_line (record (old n) { from = rest }) before.lines) } in w) call ∙ at_once
    where
      at_once : (let w : World = record { manager = (heard m frame m.clock).manager; lines = map (takes (heard m frame m.clock).frames) (with_line (record (old n) { from = rest }) before.lines) } in w) ≡ heard_from before (line_of before.lines n)
      at_once = sym (ap (heard_from before) found ∙ ap (heard_on before (old n)) front)

  pub takes_none : (old n).from ≡ [] → Takes before (FromNode n) before
  takes_none front = sym (ap (heard_from before) found ∙ ap (heard_on before (old n)) front)

-- a moment
pub takes_moment : (m later : Managing) (old after : ℕ → Line) (now : ℕ) → later ≡ (passed m now).manager → names later.nodes ≡ names m.nodes → ((k : ℕ) → after k ≡ takes (passed m now).frames (old k))
    → Takes (record { manager = m; lines = lines_by old m.nodes }) (Moment now) (record { manager = later; lines = lines_by after later.nodes })
takes_moment m later old after now call same post =
    ap (λ lines. let w : World = record { manager = later; lines = lines } in w) (lines_named after later.nodes m.nodes same ∙ lines_so after old (takes (passed m now).frames) post m.nodes)
    ∙ ap (λ manager. let w : World = record { manager = manager; lines = map (takes (passed m now).frames) (lines_by old m.nodes) } in w) call

-- numbers stay

names_map : (f : Node → Node) → ((node : Node) → (f node).number ≡ node.number) → (nodes : List Node) → names (map f nodes) ≡ names nodes
names_map f same [] = refl
names_map f same (x ∷ nodes) = rw (same x) (ap (λ l. x.number ∷ l) (names_map f same nodes))

pub heard_names : (m : Managing) (frame : Message) (now : ℕ) → names (heard m frame now).manager.nodes ≡ names m.nodes
heard_names m frame now = by_begun m.begun refl
  where
    by_begun : (b : Bool) → m.begun ≡ b → names (heard m frame now).manager.nodes ≡ names m.nodes
    by_begun false e = rw e refl
    by_begun true e =
        let clock = max m.clock now in
        rw (heard_begun m frame now e, (starting_so (moved (heard_by frame clock) (at_least m now)) (sent_by (heard_by frame clock) m.nodes)).0)
        (names_map (λ node. (heard_by frame clock node).node) (heard_number frame clock) m.nodes)

pub passed_names : (m : Managing) (now : ℕ) → names (passed m now).manager.nodes ≡ names m.nodes
passed_names m now = by_begun m.begun refl
  where
    by_begun : (b : Bool) → m.begun ≡ b → names (passed m now).manager.nodes ≡ names m.nodes
    by_begun false e = rw e refl
    by_begun true e = rw (passed_begun m now e) (names_map (λ node. (awaited node (max m.clock now)).node) (awaited_number (max m.clock now)) m.nodes)

-- what the manager sends stands behind the frames that are on the way

filtered : (p : Message → Bool) (frames : List Frame) → map message_of (filter (λ frame. p (message_of frame)) frames) ≡ filter p (map message_of frames)
filtered p [] = refl
filtered p (x ∷ frames) = by_test (p (message_of x)) (filtered p frames)
  where
    by_test : (b : Bool) → map message_of (filter (λ frame. p (message_of frame)) frames) ≡ filter p (map message_of frames)
        → map message_of (cond b (x ∷ filter (λ frame. p (message_of frame)) frames) (filter (λ frame. p (message_of frame)) frames)) ≡ cond b (message_of x ∷ filter p (map message_of frames)) (filter p (map message_of frames))
    by_test true h = ap (λ l. message_of x ∷ l) h
    by_test false h = h

dropped : (i : ℕ) (frames : List Frame) → map message_of (drop i frames) ≡ drop i (map message_of frames)
dropped zero frames = refl
dropped (suc i) [] = refl
dropped (suc i) (x ∷ frames) = dropped i frames

pub sent_more : (n d : ℕ) (sent now : List Frame) (more : List Message) → map message_of now ≡ map message_of sent ++ more → d ≤ length sent
    → map message_of (filter (λ frame. is_for n (message_of frame)) (drop d now)) ≡ map message_of (filter (λ frame. is_for n (message_of frame)) (drop d sent)) ++ filter (is_for n) more
sent_more n d sent now more h l =
    filtered (is_for n) (drop d now) ∙ ap (filter (is_for n)) (dropped d now ∙ ap (drop d) h ∙ drop-append-le d (map message_of sent) more (simp length-map l))
    ∙ filter-append (is_for n) (drop d (map message_of sent)) more
    ∙ ap (λ front. front ++ filter (is_for n) more) (ap (filter (is_for n)) (sym (dropped d sent)) ∙ sym (filtered (is_for n) (drop d sent)))

-- a line behind whose channels more is sent
pub posted_line : (bus new : Bus) (devices : List Attached) (more : List Message) (k : ℕ) → new.delivered ≡ bus.delivered → new.heard ≡ bus.heard → new.answers ≡ bus.answers
    → map message_of new.sent.items ≡ map message_of bus.sent.items ++ more → get_or bus.delivered k 0 ≤ length bus.sent.items → line_at new devices k ≡ takes more (line_at bus devices k)
posted_line bus new devices more k delivered heard answers sent l =
    let from : from_of new k ≡ from_of bus k = ap (λ answers. map (λ answer. message_of answer.frame) (filter (λ answer. answer.node == k) (drop (get_or new.heard k 0) answers.items))) answers
    ∙ ap (λ heard. map (λ answer. message_of answer.frame) (filter (λ answer. answer.node == k) (drop (get_or heard k 0) bus.answers.items))) heard in
    let to : to_of new k ≡ to_of bus k ++ filter (is_for k) more =
    ap (λ delivered. map message_of (filter (λ frame. is_for k (message_of frame)) (drop (get_or delivered k 0) new.sent.items))) delivered
    ∙ sent_more k (get_or bus.delivered k 0) bus.sent.items new.sent.items more sent l in
    ap (λ from. let line : Line = record { number = k; to = to_of new k; from = from; device = device_of devices k } in line) from
    ∙ ap (λ to. let line : Line = record { number = k; to = to; from = from_of bus k; device = device_of devices k } in line) to

kept_to : (bus new : Bus) (k : ℕ) → new.sent ≡ bus.sent → new.delivered ≡ bus.delivered → to_of new k ≡ to_of bus k
kept_to bus new k sent delivered =
    ap (λ sent. map message_of (filter (λ frame. is_for k (message_of frame)) (drop (get_or new.delivered k 0) sent.items))) sent
    ∙ ap (λ delivered. map message_of (filter (λ frame. is_for k (message_of frame)) (drop (get_or delivered k 0) bus.sent.items))) delivered

-- the manager hears the front frame of a node
pub hears_so : (m later : Managing) (bus taken new : Bus) (devices : List Attached) (n clock : ℕ) (frame : Message) (more : List Message) → IsSome (node_of m.nodes n)
    → from_of bus n ≡ frame ∷ from_of taken n → ((k : ℕ) → (k == n) ≡ false → from_of taken k ≡ from_of bus k) → (taken.sent ≡ bus.sent) × (taken.answers ≡ bus.answers) × (taken.delivered ≡ bus.delivered)
    → (let out : Managed = record { manager = later; frames = more } in out) ≡ heard m frame clock → clock ≡ m.clock
    → new.delivered ≡ taken.delivered → new.heard ≡ taken.heard → new.answers ≡ taken.answers → map message_of new.sent.items ≡ map message_of taken.sent.items ++ more
    → ((k : ℕ) → get_or taken.delivered k 0 ≤ length taken.sent.items)
    → Takes (record { manager = m; lines = lines_by (line_at bus devices) m.nodes }) (FromNode n) (record { manager = later; lines = lines_by (line_at new devices) later.nodes })
hears_so m later bus taken new devices n clock frame more has front others kept call at delivered heard_kept answers sent bound =
    let out : (let out : Managed = record { manager = later; frames = more } in out) ≡ heard m frame m.clock = call ∙ ap (heard m frame) at in
    takes_from m (line_at bus devices) (line_at taken devices) (λ n. refl) n has later (line_at new devices) frame (from_of taken n) front (ap (λ o. o.manager) out)
    (ap (λ o. names o.manager.nodes) out ∙ heard_names m frame m.clock)
    (ap (λ to. let line : Line = record { number = n; to = to; from = from_of taken n; device = device_of devices n } in line) (kept_to bus taken n kept.0 kept.2))
    (λ k e. ap (λ to. let line : Line = record { number = k; to = to; from = from_of taken k; device = device_of devices k } in line) (kept_to bus taken k kept.0 kept.2)
    ∙ ap (λ from. let line : Line = record { number = k; to = to_of bus k; from = from; device = device_of devices k } in line) (others k e))
    (λ k. posted_line taken new devices more k delivered heard_kept answers sent (bound k) ∙ ap (λ frames. takes frames (line_at taken devices k)) (ap (λ o. o.frames) out))

-- a turn of a node that is not the manager's changes nothing
no_line : (m : Managing) (at : ℕ → Line) (n : ℕ) → ((k : ℕ) → (at k).number ≡ k) → false ≡ is_some (node_of m.nodes n) → line_of (lines_by at m.nodes) n ≡ None
no_line m at n same h = line_found at same m.nodes n ∙ by_found (node_of m.nodes n) h
  where
    by_found : (o : Option Node) → false ≡ is_some o → option_map (λ node. at n) o ≡ None
    by_found None h = refl
    by_found (Some node) h = cc

pub absent_to : (m : Managing) (at : ℕ → Line) (n : ℕ) → ((k : ℕ) → (at k).number ≡ k) → false ≡ is_some (node_of m.nodes n)
    → let w : World = record { manager = m; lines = lines_by at m.nodes } in Takes w (ToNode n) w
absent_to m at n same h =
    let w : World = record { manager = m; lines = lines_by at m.nodes } in
    subst (λ o. DeliversTo w o w) (sym (no_line m at n same h)) refl

pub absent_from : (m : Managing) (at : ℕ → Line) (n : ℕ) → ((k : ℕ) → (at k).number ≡ k) → false ≡ is_some (node_of m.nodes n)
    → let w : World = record { manager = m; lines = lines_by at m.nodes } in Takes w (FromNode n) w
absent_from m at n same h =
    let w : World = record { manager = m; lines = lines_by at m.nodes } in
    sym (ap (heard_from w) (no_line m at n same h))

-- a moment, on a bus
pub moment_so : (m later : Managing) (bus new : Bus) (devices : List Attached) (now : ℕ) (sent : List Message) → (let out : Managed = record { manager = later; frames = sent } in out) ≡ behind (map message_of bus.sent.items) (passed m now)
    → new.delivered ≡ bus.delivered → new.heard ≡ bus.heard → new.answers ≡ bus.answers → map message_of new.sent.items ≡ sent → ((k : ℕ) → get_or bus.delivered k 0 ≤ length bus.sent.items)
    → Takes (record { manager = m; lines = lines_by (line_at bus devices) m.nodes }) (Moment now) (record { manager = later; lines = lines_by (line_at new devices) later.nodes })
moment_so m later bus new devices now sent call delivered heard answers is bound =
    takes_moment m later (line_at bus devices) (line_at new devices) now (ap (λ o. o.manager) call) (ap (λ o. names o.manager.nodes) call ∙ passed_names m now)
    (λ k. posted_line bus new devices (passed m now).frames k delivered heard answers (is ∙ ap (λ o. o.frames) call) (bound k))

-- nodes of the same numbers
found_name : (nodes : List Node) (n : ℕ) → find (λ k. k == n) (names nodes) ≡ option_map (λ node. node.number) (node_of nodes n)
found_name [] n = refl
found_name (x ∷ nodes) n = by_test (x.number == n) (found_name nodes n)
  where
    by_test : (b : Bool) → find (λ k. k == n) (names nodes) ≡ option_map (λ node. node.number) (node_of nodes n)
        → cond b (Some x.number) (find (λ k. k == n) (names nodes)) ≡ option_map (λ node. node.number) (cond b (Some x) (node_of nodes n))
    by_test true h = refl
    by_test false h = h

pub known_named : (a b : List Node) (n : ℕ) → names a ≡ names b → is_some (node_of a n) ≡ is_some (node_of b n)
known_named a b n same =
    sym (some_so (node_of a n)) ∙ ap is_some (sym (found_name a n) ∙ ap (find (λ k. k == n)) same ∙ found_name b n) ∙ some_so (node_of b n)
  where
    some_so : (o : Option Node) → is_some (option_map (λ node. node.number) o) ≡ is_some o
    some_so None = refl
    some_so (Some node) = refl

pub absent_named : (a b : List Node) (n : ℕ) → names a ≡ names b → node_of b n ≡ None → node_of a n ≡ None
absent_named a b n same none = none_so (node_of a n) (known_named a b n same ∙ ap is_some none)
  where
    none_so : (o : Option Node) → is_some o ≡ false → o ≡ None
    none_so None h = refl
    none_so (Some node) h = cc

-- the beginning

none_behind : (n k : ℕ) → ◌≡◌ {A = ℕ} (get_or (replicate k 0) n 0) 0
none_behind n zero = refl
none_behind zero (suc k) = refl
none_behind (suc n) (suc k) = none_behind n k

pub fresh_bus : (bus : Bus) → bus.delivered ≡ replicate 256 0 → bus.heard ≡ replicate 256 0 → IsBus bus
fresh_bus bus delivered heard = record {
  places = ap length delivered ∙ simp length-replicate;
  others = ap length heard ∙ simp length-replicate;
  delivered = λ n. let z = ap (λ l. get_or l n 0) delivered ∙ none_behind n 256 in omega (arith, z);
  heard = λ n. let z = ap (λ l. get_or l n 0) heard ∙ none_behind n 256 in omega (arith, z);
}

pub begins_as : (m new : Managing) (bus : Bus) (devices : List Attached) (frame : Frame) → (let out : Managed = record { manager = new; frames = message_of frame ∷ [] } in out) ≡ begun_at m 0
    → bus.sent.items ≡ frame ∷ [] → bus.answers.items ≡ [] → bus.delivered ≡ replicate 256 0 → bus.heard ≡ replicate 256 0
    → (let w : World = record { manager = new; lines = lines_by (line_at bus devices) new.nodes } in w) ≡ begins m devices
begins_as m new bus devices frame call sent answers delivered taken =
    ap (λ manager. let w : World = record { manager = manager; lines = lines_by (line_at bus devices) manager.nodes } in w) (ap (λ o. o.manager) call)
    ∙ ap (λ lines. let w : World = record { manager = (begun_at m 0).manager; lines = lines } in w) (all m.nodes)
  where
    first_frame : (l : List Message) (x : Message) → message_of frame ∷ [] ≡ x ∷ [] → message_of frame ≡ x
    first_frame l x h = cc

    one : (n : ℕ) → line_at bus devices n ≡ takes (reset_all ∷ []) (record { number = n; to = []; from = []; device = device_of devices n })
    one n =
        let d = ap (λ l. get_or l n 0) delivered ∙ none_behind n 256 in
        let is : message_of frame ≡ reset_all = first_frame [] reset_all (ap (λ o. o.frames) call) in
        let to : to_of bus n ≡ reset_all ∷ [] =
        ap (λ i. map message_of (filter (λ frame. is_for n (message_of frame)) (drop i bus.sent.items))) d
        ∙ ap (λ l. map message_of (filter (λ frame. is_for n (message_of frame)) l)) sent
        ∙ by_frame (is_for n (message_of frame)) (ap (is_for n) is) ∙ ap (λ x. x ∷ []) is in
        let from : from_of bus n ≡ [] = ap (λ l. map (λ answer. message_of answer.frame) (filter (λ answer. answer.node == n) (drop (get_or bus.heard n 0) l))) answers ∙ none_left (get_or bus.heard n 0) in
        ap (λ to. let line : Line = record { number = n; to = to; from = from_of bus n; device = device_of devices n } in line) to
        ∙ ap (λ from. let line : Line = record { number = n; to = reset_all ∷ []; from = from; device = device_of devices n } in line) from
      where
        by_frame : (b : Bool) → b ≡ true → map message_of (cond b (frame ∷ []) []) ≡ message_of frame ∷ []
        by_frame true e = refl
        by_frame false e = cc

        none_left : (i : ℕ) → map (λ answer. message_of answer.frame) (filter (λ answer. answer.node == n) (drop {A = Answer} i [])) ≡ []
        none_left zero = refl
        none_left (suc i) = refl

    all : (nodes : List Node) → lines_by (line_at bus devices) (map (waiting_from 0) nodes) ≡ map (takes (reset_all ∷ [])) (map (line_with devices) nodes)
    all [] = refl
    all (x ∷ nodes) = rw (one x.number) (ap (λ l. takes (reset_all ∷ []) (line_with devices x) ∷ l) (all nodes))

-- the line of a number is that on the bus
pub line_there : (at : ℕ → Line) → ((n : ℕ) → (at n).number ≡ n) → (nodes : List Node) (n : ℕ) (line : Line) → line_of (lines_by at nodes) n ≡ Some line → line ≡ at n
line_there at same nodes n line h = by_found (node_of nodes n) (sym (line_found at same nodes n) ∙ h)
  where
    by_found : (o : Option Node) → option_map (λ node. at n) o ≡ Some line → line ≡ at n
    by_found None h = cc
    by_found (Some node) h = cc

-- what a boot by turns made of devices
pub made_so : (m : Managing) (devices : List Attached) (turns : List Turn) (later : Managing) (after : List Attached) (built : ℕ → List Entry)
    → Runs m devices turns later after → CanBoot m devices built → Made m built later after
made_so m devices turns later after built runs can =
    let b = boots_so m devices built turns runs.world can runs.boots in
    rw runs.manager
    (record {
      configured = λ n end. let x = b.configured n end in
          record { node = x.node; device = x.device; manages = x.manages; there = sym (runs.attached n x.line x.lined) ∙ x.there; dict = x.dict };
      no_other = b.no_other;
      started = b.started;
    })

pub begun_names : (m new : Managing) (frames : List Message) → (let out : Managed = record { manager = new; frames = frames } in out) ≡ begun_at m 0 → names new.nodes ≡ names m.nodes
begun_names m new frames h = ap (λ out. names out.manager.nodes) h ∙ names_map (waiting_from 0) (λ node. refl) m.nodes
