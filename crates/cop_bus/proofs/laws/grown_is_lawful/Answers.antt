use Rattle.std.proofs.Common.{◌≡◌, subst}
use Rattle.std.specs.Prelude.{None}
use Rattle.cop_frame.specs.Rate.{ticks_of}
use Rattle.cop_bus.specs.Trace.{step_at}
use Rattle.cop_bus.specs.Judge.{broken_by}
use Rattle.cop_bus.proofs.Grows.{none-broken-more, none-broken-between, no-more}
use Rattle.cop_bus.proofs.laws.grown_is_lawful.Goals as goal

pub returns-clause-behind : goal.returns-clause-behind
returns-clause-behind c = λ rate streams until later steps more le fine.
    none-broken-more (ticks_of rate) streams until later steps more le (λ i l. subst (λ t. broken_by (ticks_of rate) streams until t i (step_at steps i) ≡ None) (no-more steps) (fine i l))

pub returns-clause-between : goal.returns-clause-between
returns-clause-between c = λ rate streams until later steps x ahead le apart fine. none-broken-between (ticks_of rate) streams until later steps x ahead le apart fine
