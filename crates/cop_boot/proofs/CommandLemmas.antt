-- The NMT commands among the frames that a manager sends.
use Rattle.std.proofs.Common.{◌≡◌, ℕ, ◌+◌, Bool, true, false, cond, not, ◌&&◌, List, [], ◌∷◌, ◌++◌, max, refl, ap, sym, ◌∙◌, arith, ◌==◌, append_assoc, Option, Some, None}
use Rattle.std.specs.Prelude.{filter, option_to_list}
use Rattle.std.proofs.lemmas.Bool.Decides.{nat_tests}
use Rattle.std.proofs.lemmas.List.{append-nil}
use Rattle.std.proofs.lemmas.List.Elements.{filter-append}
use Rattle.cop_sdo.specs.Message.{Message}
use Rattle.cop_boot.specs.declared.turn.Turn.{Turn}
use Rattle.cop_boot.specs.declared.turn.Turn.TheVariants.{ToNode, FromNode, Moment}
use Rattle.cop_boot.specs.Node.{Node, Moved, awaited}
use Rattle.cop_boot.specs.Manager as managers
use Rattle.cop_boot.specs.Manager.{Managing, Managed, Meeting, heard, heard_by, passed, moved, at_least, sent_by, starting, all_ready, start_all, is_command, starts_of, commands_of, begun_at, met, met_all, driven}
use Rattle.cop_boot.specs.Device.{Attached}
use Rattle.cop_boot.specs.Schedule.{Line, World, line_of, Delivers, DeliversTo, heard_on, heard_from, answered_on, answered_from, sent_at, sent_over, sent_in, Takes, TakesAll, begins, Boots}
use Rattle.cop_boot.proofs.DriveLemmas.{heard_begun, passed_begun}
use Rattle.cop_boot.proofs.StageLemmas.{IfThere}
use Rattle.cop_boot.proofs.WorldLemmas.{SendsAsItself, heard_own, awaited_own}

no_command : (frame : Message) (n : ℕ) → frame.id ≡ 0x600 + n → is_command frame ≡ false
no_command frame n h = rw h (high n)
  where
    high : (n : ℕ) → (0x600 + n == 0) ≡ false
    high n = grind (arith, nat_tests)

one_plain : (n : ℕ) (o : Option Message) → IfThere (λ frame. frame.id ≡ 0x600 + n) o → filter is_command (option_to_list o) ≡ []
one_plain n None h = refl
one_plain n (Some frame) h = let t = no_command frame n h in rw t refl

-- what goes to a node alone is no command
all_plain : (f : Node → Moved) → SendsAsItself f → (nodes : List Node) → filter is_command (sent_by f nodes) ≡ []
all_plain f own [] = refl
all_plain f own (node ∷ nodes) =
    filter-append is_command (option_to_list (f node).frame) (sent_by f nodes) ∙ rw (one_plain node.number (f node).frame (own node), all_plain f own nodes) refl

-- the start that was sent, and what a call sends
abbrev Tells : Bool → Managed → Type 0
Tells before out = starts_of before ++ filter is_command out.frames ≡ starts_of out.manager.started

nothing_tells : (m : Managing) → Tells m.started (record { manager = m; frames = [] })
nothing_tells m = append-nil (starts_of m.started)

plain_tells : (m : Managing) (frames : List Message) → filter is_command frames ≡ [] → Tells m.started (record { manager = m; frames = frames })
plain_tells m frames h = rw h (append-nil (starts_of m.started))

starting_tells : (m : Managing) (frames : List Message) → filter is_command frames ≡ [] → Tells m.started (starting m frames)
starting_tells m frames h = by_tests m.started refl (all_ready m.nodes)
  where
    now : filter is_command (frames ++ start_all ∷ []) ≡ start_all ∷ []
    now = filter-append is_command frames (start_all ∷ []) ∙ rw h refl

    by_tests : (a : Bool) → m.started ≡ a → (b : Bool)
        → Tells a (cond (not a && b) (record { manager = record m { started = true }; frames = frames ++ start_all ∷ [] }) (record { manager = m; frames = frames }))
    by_tests true e b = rw (h, e) refl
    by_tests false e true = rw now refl
    by_tests false e false = rw (h, e) refl

heard_tells : (m : Managing) (frame : Message) (now : ℕ) → Tells m.started (heard m frame now)
heard_tells m frame now = by_begun m.begun refl
  where
    by_begun : (b : Bool) → m.begun ≡ b → Tells m.started (heard m frame now)
    by_begun false e = rw e (nothing_tells m)
    by_begun true e =
        let clock = max m.clock now in
        rw (heard_begun m frame now e)
        (starting_tells (moved (heard_by frame clock) (at_least m now)) (sent_by (heard_by frame clock) m.nodes) (all_plain (λ node. heard_by frame clock node) (λ node. heard_own frame clock node) m.nodes))

passed_tells : (m : Managing) (now : ℕ) → Tells m.started (passed m now)
passed_tells m now = by_begun m.begun refl
  where
    by_begun : (b : Bool) → m.begun ≡ b → Tells m.started (passed m now)
    by_begun false e = rw e (nothing_tells m)
    by_begun true e =
        let clock = max m.clock now in
        rw (passed_begun m now e)
        (plain_tells (moved (λ node. awaited node clock) (at_least m now)) (sent_by (λ node. awaited node clock) m.nodes) (all_plain (λ node. awaited node clock) (λ node. awaited_own node clock) m.nodes))

-- one call, and then others
then_tells : (before : List Message) (one more : List Message) (a b : List Message) → before ++ filter is_command one ≡ a → a ++ filter is_command more ≡ b → before ++ filter is_command (one ++ more) ≡ b
then_tells before one more a b h g =
    ap (λ l. before ++ l) (filter-append is_command one more) ∙ sym (append_assoc before (filter is_command one) (filter is_command more)) ∙ ap (λ l. l ++ filter is_command more) h ∙ g

met_tells : (m : Managing) (meeting : Meeting) → Tells m.started (met m meeting)
met_tells m (managers.Heard frame) = heard_tells m frame m.clock
met_tells m (managers.Moment now) = passed_tells m now

all_tell : (came : List Meeting) (m : Managing) → Tells m.started (met_all m came)
unfolding met_all
all_tell [] m = nothing_tells m
all_tell (input ∷ rest) m =
    then_tells (starts_of m.started) (met m input).frames (met_all (met m input).manager rest).frames (starts_of (met m input).manager.started) (starts_of (met_all (met m input).manager rest).manager.started)
    (met_tells m input) (all_tell rest (met m input).manager)

-- the commands of a manager over a list of inputs
pub driven_commands : (m : Managing) (inputs : List Meeting) → filter is_command (driven m inputs).frames ≡ commands_of (driven m inputs).manager.started
driven_commands m inputs = ap (λ l. (begun_at m 0).frames ++ l) (all_tell inputs (begun_at m 0).manager)

-- ---- over the turns of a boot

abbrev TurnTells : World → Turn → World → Type 0
TurnTells w turn next = starts_of w.manager.started ++ filter is_command (sent_at w turn) ≡ starts_of next.manager.started

turn_tells : (w : World) (turn : Turn) (next : World) → Takes w turn next → TurnTells w turn next
turn_tells w (Moment now) next is = passed_tells w.manager now ∙ ap (λ (x : World). starts_of x.manager.started) (sym is)
turn_tells w (ToNode m) next is = append-nil (starts_of w.manager.started) ∙ by_line (line_of w.lines m) is
  where
    by_front : (line : Line) (device : Option Attached) (to : List Message) → Delivers w line device to next → starts_of w.manager.started ≡ starts_of next.manager.started
    by_front line None to is = ap (λ (x : World). starts_of x.manager.started) (sym is)
    by_front line (Some d) [] is = ap (λ (x : World). starts_of x.manager.started) (sym is)
    by_front line (Some d) (frame ∷ rest) (r, may, is) = ap (λ (x : World). starts_of x.manager.started) (sym is)

    by_line : (o : Option Line) → DeliversTo w o next → starts_of w.manager.started ≡ starts_of next.manager.started
    by_line None is = ap (λ (x : World). starts_of x.manager.started) (sym is)
    by_line (Some line) is = by_front line line.device line.to is
turn_tells w (FromNode m) next is = by_line (line_of w.lines m) is
  where
    by_front : (line : Line) (from : List Message) → next ≡ heard_on w line from → starts_of w.manager.started ++ filter is_command (answered_on w from) ≡ starts_of next.manager.started
    by_front line [] is = append-nil (starts_of w.manager.started) ∙ ap (λ (x : World). starts_of x.manager.started) (sym is)
    by_front line (frame ∷ rest) is = heard_tells w.manager frame w.manager.clock ∙ ap (λ (x : World). starts_of x.manager.started) (sym is)

    by_line : (o : Option Line) → next ≡ heard_from w o → starts_of w.manager.started ++ filter is_command (answered_from w o) ≡ starts_of next.manager.started
    by_line None is = append-nil (starts_of w.manager.started) ∙ ap (λ (x : World). starts_of x.manager.started) (sym is)
    by_line (Some line) is = by_front line line.from is

turns_tell : (turns : List Turn) (w next : World) (takes : TakesAll w turns next) → starts_of w.manager.started ++ filter is_command (sent_over turns w next takes) ≡ starts_of next.manager.started
turns_tell [] w next is = append-nil (starts_of w.manager.started) ∙ ap (λ (x : World). starts_of x.manager.started) (sym is)
turns_tell (turn ∷ turns) w next (between, takes, more) =
    then_tells (starts_of w.manager.started) (sent_at w turn) (sent_over turns between next more) (starts_of between.manager.started) (starts_of next.manager.started)
    (turn_tells w turn between takes) (turns_tell turns between next more)

-- the commands of a boot
pub boot_commands : (m : Managing) (devices : List Attached) (turns : List Turn) (w : World) (boots : Boots m devices turns w)
    → filter is_command (sent_in m devices turns w boots) ≡ commands_of w.manager.started
boot_commands m devices turns w boots = ap (λ l. (begun_at m 0).frames ++ l) (turns_tell turns (begins m devices) w boots)
