use Rattle.std.proofs.Common.{sym, ◌∙◌}
use Rattle.std.proofs.lemmas.Bool.{both_ways}
use Rattle.cop_rta.proofs.IdentifierLemmas.{place_has_id}
use Rattle.cop_cert.proofs.FrameLemmas.{no_frame, one_frame, same_frame}
use Rattle.cop_cert.proofs.trials.tested_frame.Goals as goal

pub returns-in_default : goal.returns-in_default
returns-in_default c = no_frame c.args.set.now c.args.pdos c.args.id (sym c.place_of.ensures.place ∙ c.in_default.is)

pub returns-then-is_tested : goal.returns-then-is_tested
returns-then-is_tested c = (
  rw c.streams.ensures.items at (c.is_tested.ensures.0 c.if-is_tested.true),
  place_has_id c.args.set.now c.args.id c.in-Some.frame (sym c.place_of.ensures.place ∙ c.in-Some.is),
  same_frame c.args.set.now c.args.pdos c.args.id c.in-Some.frame (rw c.streams.ensures.items at c.streams.ensures.distinct) (sym c.place_of.ensures.place ∙ c.in-Some.is) c.in-Some.ensures.within,
)

pub returns-else-is_tested : goal.returns-else-is_tested
returns-else-is_tested c f tested its =
    let here = one_frame c.args.set.now c.args.pdos c.args.id c.in-Some.frame (rw c.streams.ensures.items at c.streams.ensures.distinct) (sym c.place_of.ensures.place ∙ c.in-Some.is) c.in-Some.ensures.within f tested its in
    both_ways c.is_tested.result c.if-is_tested.false (c.is_tested.ensures.1 (rw c.streams.ensures.items here))
