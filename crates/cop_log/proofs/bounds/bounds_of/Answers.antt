use Rattle.std.proofs.Common.{◌∙◌, ap}
use Rattle.std.specs.Prelude.{map}
use Rattle.cop_log.specs.Bounds.{bound_of}
use Rattle.cop_log.proofs.BoundLemmas as Bounds
use Rattle.cop_log.proofs.bounds.bounds_of.Goals as goal

pub returns-clause-sound : goal.returns-clause-sound
returns-clause-sound c p d e =
    Bounds.sound c.args.rate c.args.streams.now c.in_ok-verdicts.verdicts.items c.in_ok-verdicts.ensures.count c.in_ok-verdicts.ensures.judged c.in_ok-bounds.bounds.items (c.in_ok-bounds.ensures ∙ ap (map bound_of) c.deref.ensures.value) p d e

pub returns-clause-each : goal.returns-clause-each
returns-clause-each c p r l h =
    Bounds.each c.args.rate c.args.streams.now c.in_ok-verdicts.verdicts.items c.in_ok-verdicts.ensures.count c.in_ok-verdicts.ensures.judged c.in_ok-bounds.bounds.items (c.in_ok-bounds.ensures ∙ ap (map bound_of) c.deref.ensures.value) c.one_verdict.ensures p r l h
