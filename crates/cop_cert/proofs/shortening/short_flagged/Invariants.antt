use Rattle.std.proofs.Common.{◌≡◌, map, take}
use Rattle.cop_rta.specs.Test.{flagged_place}
use Rattle.cop_cert.specs.Short.{short_member}
use Rattle.cop_cert.proofs.shortening.short_flagged.Given as goal

abbrev pub invariant-loop-member : goal.invariant-loop-member
invariant-loop-member l = l.short ≡ map (short_member (λ p. flagged_place l.at.streams l.above p l.at.rate)) (take l.member-index l.members)
