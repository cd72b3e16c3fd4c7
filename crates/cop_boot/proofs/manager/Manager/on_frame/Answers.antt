use Rattle.std.proofs.Common.{◌≡◌, ◌∙◌, ℕ, List, ap, sym, subst, map, rules}
use Rattle.cop_sdo.specs.Message.{Message, message_of}
use Rattle.cop_boot.specs.Booted.{Apart}
use Rattle.cop_boot.specs.Node.{Node}
use Rattle.cop_boot.specs.Manager.{heard_by, all_ready}
use Rattle.cop_boot.specs.Member.{seen}
use Rattle.cop_boot.proofs.WorldLemmas.{apart_map, heard_number}
use Rattle.cop_boot.proofs.HearingLemmas.{heard_nodes, starts_as}
use Rattle.cop_boot.proofs.DueLemmas.{heard_due}
use Rattle.cop_boot.proofs.manager.Manager.on_frame.Goals as goal

kept : (frame : Message) (now : ℕ) (old new : List Node) → Apart old → new ≡ heard_nodes frame now old → Apart new
kept frame now old new apart is = subst Apart (sym is) (apart_map (λ node. (heard_by frame now node).node) (heard_number frame now) old apart)

pub invariant_of-self : goal.invariant_of-self
invariant_of-self c = (
  c.hear_in-sent.ensures.members,
  kept (message_of c.args.frame.now) c.latest-clock.result (map seen c.self.inside.members.items) _ c.self.invariant.1 c.hear_in-sent.ensures.nodes,
  heard_due (message_of c.args.frame.now) c.self.inside.due c.self.inside.clock c.args.now c.latest-clock.result (map seen c.self.inside.members.items) _ c.self.invariant.2 (search rules) c.hear_in-sent.ensures.nodes,
)

pub invariant_of-self-else-all_ready : goal.invariant_of-self-else-all_ready
invariant_of-self-else-all_ready c = (
  c.hear_in-sent.ensures.members,
  kept (message_of c.args.frame.now) c.latest-clock.result (map seen c.self.inside.members.items) _ c.self.invariant.1 c.hear_in-sent.ensures.nodes,
  heard_due (message_of c.args.frame.now) c.self.inside.due c.self.inside.clock c.args.now c.latest-clock.result (map seen c.self.inside.members.items) _ c.self.invariant.2 (search rules) c.hear_in-sent.ensures.nodes,
)

pub invariant_of-self-else-not-self-2 : goal.invariant_of-self-else-not-self-2
invariant_of-self-else-not-self-2 c = (
  c.hear_in-sent.ensures.members,
  kept (message_of c.args.frame.now) c.latest-clock.result (map seen c.self.inside.members.items) _ c.self.invariant.1 c.hear_in-sent.ensures.nodes,
  heard_due (message_of c.args.frame.now) c.self.inside.due c.self.inside.clock c.args.now c.latest-clock.result (map seen c.self.inside.members.items) _ c.self.invariant.2 (search rules) c.hear_in-sent.ensures.nodes,
)

pub returns-then-all_ready : goal.returns-then-all_ready
returns-then-all_ready c =
    starts_as c.args.self.now (message_of c.args.frame.now) (message_of c.command.result) c.args.now c.latest-clock.result c.self.inside.begun (map seen c.hear_in-sent.new.members.items)
    (search rules) (search rules) (search rules) (search rules) (search rules) (ap (λ xs. all_ready (map seen xs)) (sym c.deref.ensures.value) ∙ sym c.if-all_ready.ensures) (search rules)
