use Rattle.std.proofs.Common.{sym, ◌∙◌}
use Rattle.cop_tidy_reading.specs.SeenValues.{seen}
use Rattle.cop_tidy_reading.specs.Objects.{sub_checks}
use Rattle.cop_tidy_reading.proofs.SubLemmas.{last_check}
use Rattle.cop_tidy_reading.proofs.GatheringLemmas.{all_asked}
use Rattle.cop_tidy_reading.proofs.checks.check_each.Goals as goal

pub returns : goal.returns
returns c =
    c.check.ensures
    ∙ all_asked c.loop-sub.earliest.question (sub_checks (seen c.args.whole.now) c.args.index 0 256)
    (sym (last_check c.loop-sub.earliest.question (seen c.args.whole.now) c.args.index c.loop-sub.sub c.loop-sub-test.false) ∙ c.loop-sub.invariant)
