use Rattle.std.proofs.Common.{◌≡◌, max, sym, ap, subst, map, arith, rules}
use Rattle.cop_boot.specs.Booted.{Apart}
use Rattle.cop_boot.specs.Member.{seen, AllLast}
use Rattle.cop_boot.proofs.LoopLemmas.{silent_apart}
use Rattle.cop_boot.proofs.DueLemmas.{nothing_due}
use Rattle.cop_boot.proofs.manager.Manager.on_moment.Goals as goal

pub invariant_of-self : goal.invariant_of-self
invariant_of-self c =
    let late : c.latest-clock.result ≡ max c.self.inside.clock c.args.now = search rules in
    let soon = c.self.invariant.2.soon in
    (c.self.invariant.0, c.self.invariant.1, record { soon = omega (arith, soon, late); last = c.self.invariant.2.last })

pub returns-then-clock-self : goal.returns-then-clock-self
returns-then-clock-self c =
    nothing_due c.args.self.now c.self.inside.due c.args.now c.latest-clock.result c.self.inside.begun c.self.inside.started (map seen c.self.inside.members.items)
    (search rules) (search rules) (search rules) (search rules) (search rules) (omega arith) c.self.invariant.2.last

pub invariant_of-self-2 : goal.invariant_of-self-2
invariant_of-self-2 c = (
  c.wait_first-sent.ensures.members,
  subst Apart (sym (ap (λ r. r.0) c.wait_first-sent.ensures.nodes)) (silent_apart c.latest-clock.result (map seen c.self.inside.members.items) c.self.invariant.1),
  record { soon = c.due_after-self-inside.ensures.soon; last = subst (λ xs. AllLast c.due_after-self-inside.result (map seen xs)) c.deref.ensures.value c.due_after-self-inside.ensures.last },
)
