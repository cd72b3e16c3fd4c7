use Rattle.std.proofs.Common.{◌≡◌, ◌++◌, ◌∷◌, [], ℕ, List, length, subst, sym, ◌∙◌, rules, append_assoc}
use Rattle.cop_watch.specs.Reading.{IsRead}
use Rattle.cop_watch.proofs.TextLemmas.{part-read, line-read, none-is}
use Rattle.cop_watch.proofs.reading.TraceWatch.take_line.Goals as goal

pub returns-else-is_empty-2 : goal.returns-else-is_empty-2
returns-else-is_empty-2 c = λ is tau streams text end e r.
    let line = c.args.line.now in
    let none : c.args.self.now.line.items ≡ [] = none-is c.args.self.now.line.items (search rules) in
    let some : length line ≡ 0 → ⊥ = search rules in
    let before = subst (λ (xs : List ℕ). IsRead tau streams text c.args.self.now.watch xs c.args.self.now.stage) none r in
    let part = part-read tau streams text line [] c.args.self.now.watch c.args.self.now.stage c.requires.whole before in
    let after = line-read tau streams (text ++ line) line end c.args.self.now.row c.args.self.now.watch c.take_row.new.self.watch c.args.self.now.stage c.take_row.new.self.stage e some c.requires.row (c.take_row.ensures.at is tau streams) part in
    subst (λ (xs : List ℕ). IsRead tau streams xs c.take_row.new.self.watch c.take_row.new.self.line.items c.take_row.new.self.stage) (append_assoc text line (end ∷ []))
    (subst (λ (xs : List ℕ). IsRead tau streams ((text ++ line) ++ end ∷ []) c.take_row.new.self.watch xs c.take_row.new.self.stage) (sym (c.take_row.ensures.line ∙ none)) after)
