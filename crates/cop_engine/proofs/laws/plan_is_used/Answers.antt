use Rattle.cop_engine.proofs.OneUse.{plan_used, plan_booted}
use Rattle.cop_engine.proofs.laws.plan_is_used.Goals as goal

pub returns-clause-network : goal.returns-clause-network
returns-clause-network c = λ asked nodes pdos eds files outcome f x. plan_used c.one_outcome.ensures asked nodes pdos eds files outcome f x

pub returns-clause-boot : goal.returns-clause-boot
returns-clause-boot c = λ asked seed nodes pdos eds files text f b. plan_booted c.one_outcome.ensures asked nodes pdos eds seed files text f b
