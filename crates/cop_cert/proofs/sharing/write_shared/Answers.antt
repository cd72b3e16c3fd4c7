use Rattle.cop_cert.proofs.LineLemmas.{third_are_lines, shared_is_lines}
use Rattle.cop_cert.proofs.sharing.write_shared.Goals as goal

pub returns : goal.returns
returns c = shared_is_lines c.args.refusals.now _ _ (rw c.in_ok-text.ensures.items third_are_lines) c.in_ok-write_refusals_shared.ensures
