use Rattle.std.proofs.Common.{◌++◌, ◌∷◌, [], ℕ, List, subst, rules, refl}
use Rattle.cop_watch.specs.declared.reading.Stage.{Stage}
use Rattle.cop_watch.specs.Reading.{IsRead}
use Rattle.cop_watch.proofs.TextLemmas.{shown}
use Rattle.cop_watch.proofs.reading.TraceWatch.finish.Goals as goal

pub returns-in-Ended : goal.returns-in-Ended
returns-in-Ended c = λ tau streams text h.
    let w = c.end_line.new.self in
    let read = c.end_line.ensures.read (search rules) tau streams text 10 refl h.read in
    let none = c.end_line.ensures.empty (search rules) in
    let at_end = subst (λ (xs : List ℕ). IsRead tau streams (text ++ 10 ∷ []) w.watch xs w.stage) none read in
    shown tau streams text 10 c.in-Ended.until c.finish.result w.watch h.plain h.unmarked refl (λ steps t. c.finish.ensures tau streams steps t)
    (subst (λ (s : Stage). IsRead tau streams (text ++ 10 ∷ []) w.watch [] s) c.in-Ended.is at_end)
