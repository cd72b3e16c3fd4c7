use Rattle.std.proofs.Common.{List, length, false, refl, sym, ap, subst, arith}
use Rattle.cop_rta.specs.declared.streams.Stream.{Stream}
use Rattle.cop_rta.specs.Ranges.{first_range, second_range}
use Rattle.cop_cert.specs.Assignments.{AreOutside}
use Rattle.cop_plan.specs.Values.{HaveDeadlines, ArePdosHigh}
use Rattle.cop_plan.proofs.FillingLemmas.{no_bit}
use Rattle.cop_plan.proofs.assigning.can_assign.Goals as goal

pub returns-then-not-have_deadlines : goal.returns-then-not-have_deadlines
returns-then-not-have_deadlines c = (
  λ t. absurd (no_bit false t refl),
  λ can. absurd (no_bit c.have_deadlines.result
      (c.have_deadlines.ensures.1 (subst (λ (streams : List Stream). HaveDeadlines streams c.args.pdos) (sym c.streams-streams.ensures.items) can.deadlines)) c.if-not-have_deadlines.true),
)

pub returns : goal.returns
returns c =
    let items = c.streams-streams.ensures.items in (
      λ synced. record {
        count = omega (arith, c.if-pdos-streams.false, ap length items);
        few = c.if-pdos-gt-MOST_PDOS.false;
        deadlines = subst (λ (streams : List Stream). HaveDeadlines streams c.args.pdos) items (c.have_deadlines.ensures.0 c.if-not-have_deadlines.false);
        provisional = subst (λ (streams : List Stream). ArePdosHigh streams c.args.pdos) items (c.are_pdos_high.ensures.0 c.if-not-are_pdos_high.false);
        outside_first = subst (λ (streams : List Stream). AreOutside first_range streams c.args.pdos) items (c.are_outside.ensures.0 c.if-not-are_outside.false);
        outside_second = subst (λ (streams : List Stream). AreOutside second_range streams c.args.pdos) items (c.are_outside-2.ensures.0 c.if-not-are_outside-2.false);
        synced = c.are_synced.ensures.0 synced;
      },
      λ can. c.are_synced.ensures.1 can.synced,
    )
