use Rattle.std.proofs.Common.{take}
use Rattle.cop_rta.specs.Test.{is_flagged}
use Rattle.cop_cert.specs.Chains.{AreMade}
use Rattle.cop_cert.proofs.making.members_with.Given as goal

abbrev pub invariant-loop-pdo : goal.invariant-loop-pdo
invariant-loop-pdo l = AreMade l.place.streams (is_flagged l.place.flags) l.place.rate (take l.pdo-index l.pdos) l.members
