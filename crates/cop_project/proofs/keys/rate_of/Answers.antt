use Rattle.std.proofs.lemmas.Int.{to_z-of_z}
use mir.Syntax.{w64}
use Rattle.cop_project.proofs.Rates.{rate_cast, cast_of, no_cast}
use Rattle.cop_project.proofs.keys.rate_of.Goals as goal

pub returns-in-Ok : goal.returns-in-Ok
returns-in-Ok c =
    rate_cast c.args.kbits c.from_kbits.result c.in-Ok.kbits (cast_of _ _ _ (to_z-of_z w64 c.args.kbits c.ranges.kbits) c.in-Ok.ensures)
    c.from_kbits.ensures.found c.from_kbits.ensures.none

pub returns-in-Err : goal.returns-in-Err
returns-in-Err c = no_cast _ _ (to_z-of_z w64 c.args.kbits c.ranges.kbits) c.in-Err.ensures
