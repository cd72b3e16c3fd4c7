use Rattle.std.proofs.Common.{MatchResult}
use Rattle.cop_engine.specs.Judgements.{said_of, IsJudgement, ExplainsJudgement}
use Rattle.cop_engine.proofs.JudgementLemmas.{of_known}
use Rattle.cop_engine.proofs.judgements.judged_bytes.Goals as goal

pub returns-in-Some : goal.returns-in-Some
returns-in-Some c asked nodes pdos eds n =
    of_known c.args.trace.now (λ trace. MatchResult c.in-Some.judged (λ j. IsJudgement asked nodes pdos eds trace (said_of j)) (λ fault. ExplainsJudgement asked nodes pdos eds trace fault)) (c.in-Some.ensures asked nodes pdos eds n)
