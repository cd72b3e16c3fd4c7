use Rattle.std.proofs.Common.{refl}
use Rattle.cop_plan.specs.declared.assigning.Outcome.TheVariants.{Refused}
use Rattle.cop_engine.specs.Judgements.{none_passes}
use Rattle.cop_engine.proofs.JudgementLemmas.{seen_gives, said_of_all}
use Rattle.cop_engine.proofs.judgements.judge_pieces.Goals as goal

pub returns-in-Planned : goal.returns-in-Planned
returns-in-Planned g c =
    rw c.in-Planned.is (seen_gives c.in-Planned.plan (g.R.Read.remaining c.args.reader) c.seen_by.result c.seen_by.ensures)

pub returns-in-Refused : goal.returns-in-Refused
returns-in-Refused g c = rw c.in-Refused.is (said_of_all (Refused c.in-Refused.field-0) (g.R.Read.remaining c.args.reader) none_passes (λ _. refl))
