-- Bounds of responses by what the test says.
use Rattle.std.specs.Prelude.{ℕ, Option, None, Some}
use Rattle.cop_rta.specs.declared.verdicts.Verdict.{Verdict}
use Rattle.cop_rta.specs.declared.verdicts.Verdict.TheVariants.{Pass, Late, Long}

-- the greatest response of a stream that passes
abbrev pub bound_of : Verdict → Option ℕ
bound_of (Pass response) = Some response
bound_of (Late q response) = None
bound_of Long = None
