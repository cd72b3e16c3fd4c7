use Rattle.std.proofs.Common.{sym, ◌∙◌}
use Rattle.std.proofs.lemmas.Option.{slice_get-get_or}
use Rattle.cop_eds.proofs.RefusalLemmas.{goes_on}
use Rattle.cop_eds.proofs.sections.first_alone.Goals as goal

pub loop-place-preserved : goal.loop-place-preserved
loop-place-preserved c =
    goes_on c.args.source.now c.args.lines.now c.loop-place.place _ _ c.loop-place-test.true
    (c.requires.alone c.loop-place.place _ (slice_get-get_or c.args.lines.now c.loop-place.place _ c.loop-place-test.true) ∙ sym c.broken_alone.ensures ∙ c.in_default.is)
    c.loop-place.invariant
