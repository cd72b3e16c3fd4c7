use Rattle.std.proofs.Common.{ℕ, List, ◌≡◌, ◌∙◌, subst}
use Rattle.cop_frame.specs.declared.rates.Rate.{Rate}
use Rattle.cop_rta.specs.declared.streams.Stream.{Stream}
use Rattle.cop_rta.specs.Test.{flagged_place, is_flagged}
use Rattle.cop_rta.specs.Verdict.{IsJudged}
use Rattle.cop_figures.specs.Unsorted.{last_id, node_at, is_up_to}
use Rattle.cop_figures.proofs.UnsortedLemmas.{unsorted_so}
use Rattle.cop_figures.proofs.unsorted.unsorted_at.Goals as goal

pub returns-clause-judged : goal.returns-clause-judged
returns-clause-judged c =
    let set : c.streams-set.result.now ≡ c.args.plan.now.streams = c.streams-set.ensures.items in
    let same : c.streams.result.now ≡ c.args.plan.now.streams = c.streams.ensures.items ∙ set in
    unsorted_so c.args.rows.now c.args.plan.now.streams c.flag_before.new.out c.args.plan.now.rate c.args.pdo c.verdict.result
    (subst (λ (s : List Stream). (k : ℕ) → is_flagged c.flag_before.new.out k ≡ is_up_to s (last_id c.args.rows.now s (node_at c.args.rows.now c.args.pdo)) k) same c.flag_before.ensures.each)
    (subst (λ (s : List Stream). IsJudged (flagged_place s c.flag_before.new.out c.args.pdo c.args.plan.now.rate) c.verdict.result) set
    (subst (λ (r : Rate). IsJudged (flagged_place c.streams-set.result.now c.flag_before.new.out c.args.pdo r) c.verdict.result) c.rate.ensures c.verdict.ensures.judged))
