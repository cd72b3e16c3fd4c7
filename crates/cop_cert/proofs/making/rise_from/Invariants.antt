use Rattle.std.proofs.Common.{◌↔◌, drop}
use Rattle.cop_cert.specs.Rising.{RiseFrom}
use Rattle.cop_cert.proofs.making.rise_from.Given as goal

-- all rise where what is left rises from low on
abbrev pub invariant-loop-member : goal.invariant-loop-member
invariant-loop-member l = RiseFrom 0 l.pdos l.members ↔ RiseFrom l.low l.pdos (drop l.member-index l.members)
