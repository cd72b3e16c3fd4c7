use Rattle.cop_setup.proofs.TryLemmas.{one_more}
use Rattle.cop_setup.proofs.trying.try_all.Goals as goal

pub loop-place-preserved : goal.loop-place-preserved
loop-place-preserved c = one_more c.args.settings.now c.args.dict.now c.loop-place.dict c.try_one.new.dict c.loop-place.place _ c.loop-place-test.true c.loop-place.invariant c.in-Ok.ensures
