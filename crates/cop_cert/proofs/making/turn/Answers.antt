use Rattle.std.proofs.Common.{◌<◌, length, not, arith}
use Rattle.std.proofs.lemmas.List.{get_or_default}
use Rattle.std.proofs.lemmas.List.Edits.{map_over_more}
use Rattle.cop_cert.proofs.making.turn.Goals as goal

pub loop-flag-preserved : goal.loop-flag-preserved
loop-flag-preserved c =
    let inside : c.loop-flag.flag-index < length c.args.flags.now = omega arith in
    map_over_more not c.args.flags.now c.loop-flag.flags c.loop-flag.flag-index _ inside c.loop-flag.invariant
    (get_or_default c.loop-flag.flags c.loop-flag.flag-index _ _ (omega arith))
