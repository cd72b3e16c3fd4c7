use Rattle.std.proofs.Common.{ℕ, ◌<◌, length, get_or}
use Rattle.cop_frame.specs.declared.rates.Rate.{Rate}
use Rattle.cop_rta.specs.declared.verdicts.Verdict.TheVariants.{Long}
use Rattle.cop_rta.specs.Test.{place_by_id}
use Rattle.cop_rta.specs.Verdict.{IsJudged}
use Rattle.cop_room.specs.Keeping.{IsKept}
use Rattle.cop_room.proofs.trials.first_failing.Given as goal

abbrev pub invariant-loop-index : goal.invariant-loop-index
invariant-loop-index l =
    (rate : Rate) → ((k : ℕ) → k < length l.streams → IsJudged (place_by_id l.streams k rate) (get_or l.verdicts k Long)) → (k : ℕ) → k < l.index → IsKept rate l.pdos l.streams k
