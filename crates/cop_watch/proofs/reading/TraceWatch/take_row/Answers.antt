use Rattle.std.proofs.Common.{◌++◌, ◌∷◌, [], sym, subst, ap, ◌∙◌}
use Rattle.std.specs.Prelude.{Ok}
use Rattle.cop_watch.specs.declared.reading.Stage.{Stage}
use Rattle.cop_watch.specs.Reading.{IsAt}
use Rattle.cop_watch.proofs.TextLemmas.{at-step, at-until, goes-on-with}
use Rattle.cop_watch.proofs.reading.TraceWatch.take_row.Goals as goal

pub returns-in-Ok-Taken-clause-at : goal.returns-in-Ok-Taken-clause-at
returns-in-Ok-Taken-clause-at c = λ is tau streams rows a.
    let said = sym c.entry_in.ensures ∙ c.in-Ok-Taken.is ∙ ap Ok c.in-Ok-Taken.field-0-is in
    let before = subst (λ (s : Stage). IsAt tau streams rows c.args.self.now.watch s) c.in-Steps.is a in
    subst (λ (s : Stage). IsAt tau streams (rows ++ c.args.self.now.row ∷ []) c.take.new.self s) (sym c.in-Steps.is)
    (at-step tau streams rows c.args.self.now.row c.in-Ok-Taken.step c.args.self.now.watch c.take.new.self said (λ steps h. goes-on-with tau streams (steps ++ c.in-Ok-Taken.step ∷ []) c.take.result c.take.new.self (c.is_known.ensures is) (c.take.ensures tau streams steps h)) before)

pub returns-in-Ok-Until-clause-at : goal.returns-in-Ok-Until-clause-at
returns-in-Ok-Until-clause-at c = λ is tau streams rows a.
    let said = sym c.entry_in.ensures ∙ c.in-Ok-Until.is ∙ ap Ok c.in-Ok-Until.field-0-is in
    let before = subst (λ (s : Stage). IsAt tau streams rows c.args.self.now.watch s) c.in-Steps.is a in
    at-until tau streams rows c.args.self.now.row c.in-Ok-Until.until c.args.self.now.watch said before
