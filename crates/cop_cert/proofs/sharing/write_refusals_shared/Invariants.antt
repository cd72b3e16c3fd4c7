use Rattle.std.proofs.Common.{take}
use Rattle.std.specs.List.{flat_map}
use Rattle.cop_cert.specs.Format.{shared_refusal_rows}
use Rattle.cop_cert.specs.Writer.{Adds}
use Rattle.cop_cert.proofs.sharing.write_refusals_shared.Given as goal

abbrev pub invariant-loop-refusal : goal.invariant-loop-refusal
invariant-loop-refusal l = Adds l.fn.text.items l.text.items (flat_map shared_refusal_rows (take l.refusal-index l.refusals))
