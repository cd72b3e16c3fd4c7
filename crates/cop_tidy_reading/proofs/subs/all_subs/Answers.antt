use Rattle.std.proofs.Common.{sym, ◌∙◌}
use Rattle.cop_tidy_reading.specs.SeenValues.{seen}
use Rattle.cop_tidy_reading.proofs.SubLemmas.{last_sub}
use Rattle.cop_tidy_reading.proofs.subs.all_subs.Goals as goal

pub returns : goal.returns
returns c =
    c.gathered.ensures
    ∙ sym (last_sub c.loop-sub.earliest.question c.loop-sub.objects.items (seen c.args.whole.now) c.args.main.now c.loop-sub.sub c.loop-sub-test.false)
    ∙ c.loop-sub.invariant
