use Rattle.std.proofs.Common.{Some, sym, ap, ◌∙◌, arith}
use Rattle.cop_eds.proofs.KeyLemmas.{no_next, is_next, is_past}
use Rattle.cop_eds.proofs.sections.Sections.coded.Goals as goal

pub returns-in_err-next : goal.returns-in_err-next
returns-in_err-next c = rw c.from_residual.ensures (sym (no_next c.args.self.now c.args.code c.in_err-next.ensures c.args.code (omega arith)))

pub returns-then-next-code : goal.returns-then-next-code
returns-then-next-code c =
    ap (λ p. Some p) c.place_at.ensures ∙ sym (is_next c.args.self.now c.args.code (c.in_ok-next.next, c.in_ok-next.header) c.in_ok-next.ensures c.if-next-code.true)

pub returns-else-next-code : goal.returns-else-next-code
returns-else-next-code c = sym (is_past c.args.self.now c.args.code (c.in_ok-next.next, c.in_ok-next.header) c.in_ok-next.ensures c.if-next-code.false)
