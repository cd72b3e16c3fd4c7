use Rattle.cop_engine.proofs.GuaranteeLemmas.{guaranteed, are_printed}
use Rattle.cop_engine.proofs.guarantee.planner_guarantee.Goals as goal

pub returns-clause-guaranteed : goal.returns-clause-guaranteed
returns-clause-guaranteed c = λ asked nodes pdos eds files f. guaranteed f.network.net f.network.said.network f.outcome f.network.planned

pub returns-clause-printed : goal.returns-clause-printed
returns-clause-printed c = λ asked nodes pdos eds files f. are_printed f.network.net f.network.said.network f.outcome f.written.verdicts f.network.planned f.written.judged
