-- Before the limits of all nodes a moment changes none, and what a node hears does not bring its limit nearer.
use Rattle.std.proofs.Common.{◌≡◌, ℕ, zero, suc, ◌+◌, ◌<◌, ◌≤◌, Bool, true, false, cond, List, [], ◌∷◌, map, length, take, get_or, min, max, nat_le, refl, sym, subst, arith, add-one, Option, Some, None, ◌==◌}
use Rattle.std.specs.Prelude.{slice_get}
use Rattle.std.proofs.lemmas.Bool.Decides.{nat_tests}
use Rattle.cop_sdo.specs.Message.{Message}
use Rattle.cop_sdo.specs.Reply.{is_answer, Reply, reply_of}
use Rattle.cop_setup.specs.declared.setting.Setting.{Setting}
use Rattle.cop_boot.specs.declared.«end».End.TheVariants.{Restarting}
use Rattle.cop_boot.specs.declared.«end».Phase.{Phase}
use Rattle.cop_boot.specs.declared.«end».Phase.TheVariants.{Waiting, Sending, Over}
use Rattle.cop_boot.specs.declared.member.Member.{Member}
use Rattle.cop_boot.specs.Settings.{address_of}
use Rattle.cop_boot.specs.Node.{Node, stays, over, sends, goes_on, is_final, booted, refusal, judged, answer_to, answered, answered_in, awaited, awaited_in}
use Rattle.cop_boot.specs.Manager.{Managing, is_boot_up, heard_by, first_silent, reached}
use Rattle.cop_boot.specs.Member.{seen, LastsIn, LastsTo, AllLast, IsDueFrom}
use Rattle.cop_boot.proofs.HearingLemmas.{heard_nodes}

-- a limit that is not over before a moment is not over before an earlier one
lasts_less : (due less limit : ℕ) (p : Phase) → less ≤ due → LastsIn due limit p → LastsIn less limit p
lasts_less due less limit (Waiting since) l h = omega arith
lasts_less due less limit (Sending done since) l h = omega arith
lasts_less due less limit (Over e) l h = tt

all_last_less : (due less : ℕ) (nodes : List Node) → less ≤ due → AllLast due nodes → AllLast less nodes
all_last_less due less [] l h = tt
all_last_less due less (x ∷ nodes) l h = (lasts_less due less x.limit x.phase l h.0, all_last_less due less nodes l h.1)

pub all_last_from_zero : (nodes : List Node) → AllLast 0 nodes
all_last_from_zero [] = tt
all_last_from_zero (x ∷ nodes) = (by_phase x.phase, all_last_from_zero nodes)
  where
    by_phase : (p : Phase) → LastsIn 0 x.limit p
    by_phase (Waiting since) = omega arith
    by_phase (Sending done since) = omega arith
    by_phase (Over e) = tt

-- the earlier of a moment for the members so far and of one for the next
pub one_more_lasts : (xs : List Member) (i : ℕ) (d : Member) (due until new : ℕ) → i < length xs → new ≡ min due until → LastsTo until (seen (get_or xs i d))
    → AllLast due (map seen (take i xs)) → AllLast new (map seen (take (i + 1) xs))
one_more_lasts xs i d due until new l is one all =
    subst (λ j. AllLast new (map seen (take j xs))) (sym (add-one i)) (by_list xs i l one (all_last_less due new (map seen (take i xs)) (omega arith) all))
  where
    by_list : (xs : List Member) (i : ℕ) → i < length xs → LastsTo until (seen (get_or xs i d)) → AllLast new (map seen (take i xs)) → AllLast new (map seen (take (suc i) xs))
    by_list [] i l one all = absurd (let g : ⊥ = omega arith in g)
    by_list (x ∷ xs) zero l one all = (lasts_less until new x.limit x.phase (omega arith) one, tt)
    by_list (x ∷ xs) (suc i) l one all = (all.0, by_list xs i (omega arith) one all.1)

-- a node stays as it is before its limit is over
not_silent : (due now : ℕ) (node : Node) → now < due → LastsTo due node → awaited node now ≡ stays node
not_silent due now node before h = by_phase node.phase h
  where
    not_over : (a b : ℕ) → b < a → nat_le a b ≡ false
    not_over a b l = grind (arith, nat_tests)

    by_phase : (p : Phase) → LastsIn due node.limit p → awaited_in node now p ≡ stays node
    by_phase (Waiting since) h = rw (not_over (since + node.limit) now (omega arith)) refl
    by_phase (Sending done since) h = rw (not_over (since + 4000000) now (omega arith)) refl
    by_phase (Over e) h = refl

none_silent : (due now : ℕ) (nodes : List Node) → now < due → AllLast due nodes → first_silent now nodes ≡ (nodes, None)
none_silent due now [] before h = refl
none_silent due now (x ∷ nodes) before h = rw (not_silent due now x before h.0, none_silent due now nodes before h.1) refl

-- a moment before all limits is only the time on the clock
pub nothing_due : (m : Managing) (due now clock : ℕ) (begun started : Bool) (nodes : List Node) → m.begun ≡ true → begun ≡ true → started ≡ m.started → nodes ≡ m.nodes → clock ≡ max m.clock now
    → clock < due → AllLast due nodes → ((let later : Managing = record { begun = begun; clock = clock; started = started; nodes = nodes } in later), None) ≡ reached m now
nothing_due m due now clock begun started nodes has has_too same_start same_nodes is before last =
    let silent = none_silent due (max m.clock now) m.nodes (omega arith) (subst (AllLast due) same_nodes last) in
    rw (has_too, is, same_start, same_nodes, has, silent) refl

-- what a node hears at a moment from which its limit could be set anew
module _ (frame : Message) (due now : ℕ) (ahead : due ≤ now + 4000000) (node : Node) (lasts : LastsTo due node) where
  sends_lasts : (n : Node) (done : ℕ) (o : Option Setting) → LastsTo due (sends n done now o).node
  sends_lasts n done None = tt
  sends_lasts n done (Some s) = ahead

  booted_lasts : (a b : Bool) → LastsTo due (cond a (stays node) (cond b (over node (Restarting node.number) None) (goes_on (record node { boots = suc node.boots }) 0 now))).node
  booted_lasts true b = lasts
  booted_lasts false true = tt
  booted_lasts false false = sends_lasts (record node { boots = suc node.boots }) 0 (slice_get node.settings 0)

  judged_lasts : (done : ℕ) (s : Setting) (r : Reply) (o : Option ℕ) → LastsTo due (judged node done now s r o).node
  judged_lasts done s r None = sends_lasts node (suc done) (slice_get node.settings (suc done))
  judged_lasts done s r (Some code) = tt

  answer_lasts : (done : ℕ) (o : Option Setting) → LastsTo due (answer_to node done now frame.body o).node
  answer_lasts done None = lasts
  answer_lasts done (Some s) = judged_lasts done s (reply_of frame.body) (refusal (address_of s) (reply_of frame.body))

  answered_lasts : (p : Phase) → LastsTo due (answered_in node now frame.body p).node
  answered_lasts (Waiting since) = lasts
  answered_lasts (Sending done since) = answer_lasts done (slice_get node.settings done)
  answered_lasts (Over e) = lasts

  heard_lasts : LastsTo due (heard_by frame now node).node
  heard_lasts = by_tests (is_boot_up node.number frame) (is_answer node.number frame)
    where
      by_tests : (a b : Bool) → LastsTo due (cond a (booted node now) (cond b (answered node now frame.body) (stays node))).node
      by_tests true b = booted_lasts (is_final node.phase) (node.boots == 3)
      by_tests false true = answered_lasts node.phase
      by_tests false false = lasts

all_heard_last : (frame : Message) (due now : ℕ) (nodes : List Node) → due ≤ now + 4000000 → AllLast due nodes → AllLast due (heard_nodes frame now nodes)
all_heard_last frame due now [] ahead h = tt
all_heard_last frame due now (x ∷ nodes) ahead h = (heard_lasts frame due now ahead x h.0, all_heard_last frame due now nodes ahead h.1)

-- what is heard brings no limit nearer
pub heard_due : (frame : Message) (due clock now later : ℕ) (old new : List Node) → IsDueFrom due clock old → later ≡ max clock now → new ≡ heard_nodes frame later old → IsDueFrom due later new
heard_due frame due clock now later old new is late heard =
    let soon = is.soon in
    let ahead : due ≤ later + 4000000 = omega arith in
    record { soon = ahead; last = subst (AllLast due) (sym heard) (all_heard_last frame due later old ahead is.last) }
