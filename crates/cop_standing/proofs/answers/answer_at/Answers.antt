use Rattle.std.proofs.Common.{◌↔◌, ℕ, Contains, refl}
use Rattle.cop_standing.specs.Answers.{IsLate}
use Rattle.cop_standing.proofs.AnswerLemmas.{failing_exactly, passes_exactly}
use Rattle.cop_standing.proofs.answers.answer_at.Goals as goal

pub returns : goal.returns
returns c =
    let streams = c.args.set.now in
    let verdicts = c.in_ok-verdicts.verdicts.items in
    let judged = c.in_ok-verdicts.ensures.judged in
    let failing = c.in_ok-failing.failing.items in
    let exact : (k : ℕ) → Contains failing k ↔ IsLate streams c.args.pdos verdicts k = rw (c.streams.ensures.items, c.deref.ensures.value) at c.in_ok-failing.ensures.exact in
    record {
      rate_is = refl;
      count = c.in_ok-verdicts.ensures.count;
      judged = judged;
      failing = failing_exactly c.args.rate streams c.args.pdos verdicts judged failing exact;
      rises = c.in_ok-failing.ensures.rises;
      passes = passes_exactly c.args.rate streams c.args.pdos verdicts judged failing exact;
    }
