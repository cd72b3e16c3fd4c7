use Rattle.cop_eds.proofs.KeyLemmas.{no_next, next_coded}
use Rattle.cop_eds.proofs.sections.Sections.next_code.Goals as goal

pub returns-in_err-next : goal.returns-in_err-next
returns-in_err-next c = rw c.from_residual.ensures (no_next c.args.self.now c.args.code c.in_err-next.ensures)

pub returns : goal.returns
returns c = rw c.place_at.ensures (next_coded c.args.self.now c.args.code _ c.in_ok-next.ensures)
