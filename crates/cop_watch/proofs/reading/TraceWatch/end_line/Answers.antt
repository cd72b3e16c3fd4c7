use Rattle.std.proofs.Common.{◌≡◌, ◌++◌, ◌∷◌, [], ℕ, List, length, subst, sym, ap, ◌∙◌, rules}
use Rattle.cop_table.specs.Plain.{is_comma, pieces}
use Rattle.cop_table.specs.Lines.{first_line}
use Rattle.cop_watch.specs.Reading.{IsRead}
use Rattle.cop_watch.proofs.TextLemmas.{line-read, ok-is}
use Rattle.cop_watch.proofs.reading.TraceWatch.end_line.Goals as goal

pub returns-clause-read : goal.returns-clause-read
returns-clause-read c = λ is tau streams text end e r.
    let line = c.args.self.now.line.items in
    let some : length line ≡ 0 → ⊥ = search rules in
    let fields : c.cut.new.self ≡ pieces is_comma (first_line c.deref.result.now) = ok-is c.cut.result _ (sym c.is_err.ensures.value ∙ c.if-is_err.false) c.cut.ensures.fields in
    let row = fields ∙ ap (λ (xs : List ℕ). pieces is_comma (first_line xs)) c.deref.ensures.value ∙ ap (pieces is_comma) r.whole in
    let none : c.take_row.new.self.line.items ≡ [] = c.take_row.ensures.line ∙ c.clear.ensures.items in
    subst (λ (xs : List ℕ). IsRead tau streams (text ++ end ∷ []) c.take_row.new.self.watch xs c.take_row.new.self.stage) (sym none)
    (line-read tau streams text line end c.cut.new.self c.args.self.now.watch c.take_row.new.self.watch c.args.self.now.stage c.take_row.new.self.stage e some row (c.take_row.ensures.at is tau streams) r)
