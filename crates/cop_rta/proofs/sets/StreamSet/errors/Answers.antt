use Rattle.std.proofs.Common.{◌≡◌, ◌∙◌, ◌-◌, ap, sym, arith, length}
use Rattle.cop_rta.proofs.TestedLemmas.{errors_of-at, nothing_of, in_errors, in_none}
use Rattle.cop_rta.proofs.sets.StreamSet.errors.Goals as goal

pub returns-then-count-eq0 : goal.returns-then-count-eq0
returns-then-count-eq0 c = sym (nothing_of c.args.self.now (omega (arith, c.if-count-eq0.true, ap length c.streams-streams.ensures.items)))

pub returns-then-is_errors : goal.returns-then-is_errors
returns-then-is_errors c =
    sym (errors_of-at c.args.self.now (length c.args.self.now - 1) c.index-streams-count.result (omega (arith, c.if-count-eq0.false, ap length c.streams-streams.ensures.items))
    (rw c.streams-streams.ensures.items at c.index-streams-count.is) ∙ in_errors c.index-streams-count.result (sym c.is_errors.ensures ∙ c.if-is_errors.true))

pub returns-else-is_errors : goal.returns-else-is_errors
returns-else-is_errors c =
    sym (errors_of-at c.args.self.now (length c.args.self.now - 1) c.index-streams-count.result (omega (arith, c.if-count-eq0.false, ap length c.streams-streams.ensures.items))
    (rw c.streams-streams.ensures.items at c.index-streams-count.is) ∙ in_none c.index-streams-count.result (sym c.is_errors.ensures ∙ c.if-is_errors.false))
