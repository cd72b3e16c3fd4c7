use Rattle.std.proofs.Common.{List, ℕ, subst}
use Rattle.cop_tidy.specs.Taken.{IsTaken}
use Rattle.cop_tidy.proofs.KeptLemmas.{told_as}
use Rattle.cop_tidy.proofs.tidying.mended.Goals as goal

pub returns-clause-found : goal.returns-clause-found
returns-clause-found c =
    told_as c.args.words.now c.args.source.now c.in_ok-text.text.items c.args.found c.args.before.now c.in_ok-after.after c.told_of-told.result
    c.requires.found c.requires.taken c.requires.accepted c.requires.refused
    (subst (λ (t : List ℕ). IsTaken t c.in_ok-after.after) c.deref-4.ensures.value c.in_ok-after.ensures.taken) c.told_of-told.ensures
