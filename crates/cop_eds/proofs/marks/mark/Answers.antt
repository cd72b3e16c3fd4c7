use Rattle.std.proofs.Common.{◌*◌, ◌%◌, ◌^◌, arith}
use Rattle.cop_eds.proofs.MarkLemmas.{one_bit, set_there, set_kept, past_marked}
use Rattle.cop_eds.proofs.marks.mark.Goals as goal

pub returns-then-place-marks-clause-set : goal.returns-then-place-marks-clause-set
returns-then-place-marks-clause-set c =
    set_there c.args.marks.now c.args.mark (1 * 2 ^ (c.args.mark % 64) % 18446744073709551616) c.if-place-marks.true (one_bit (c.args.mark % 64) (omega arith))

pub returns-then-place-marks-clause-kept : goal.returns-then-place-marks-clause-kept
returns-then-place-marks-clause-kept c other was =
    set_kept c.args.marks.now c.args.mark (1 * 2 ^ (c.args.mark % 64) % 18446744073709551616) other c.if-place-marks.true was

pub returns-else-place-marks-clause-set : goal.returns-else-place-marks-clause-set
returns-else-place-marks-clause-set c = past_marked c.args.marks.now c.args.mark (omega arith)
