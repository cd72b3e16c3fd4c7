use Rattle.std.proofs.Common.{◌≡◌, ◌++◌, ℕ, List, cond, subst, sym, ap, ◌∙◌}
use Rattle.cop_watch.specs.Reading.{IsRead}
use Rattle.cop_watch.proofs.TextLemmas.{part-read}
use Rattle.cop_watch.proofs.reading.TraceWatch.keep.Goals as goal

pub returns-then-len-le-LONGEST : goal.returns-then-len-le-LONGEST
returns-then-len-le-LONGEST c = λ is tau streams text r.
    let line = c.args.self.now.line.items in
    let all : c.extend_from_slice.new.self.items ≡ line ++ c.args.part.now = c.extend_from_slice.ensures.items ∙ ap (λ b. cond b (line ++ c.args.part.now) line) (sym c.is_ok.ensures.value ∙ is) in
    subst (λ (xs : List ℕ). IsRead tau streams (text ++ c.args.part.now) c.args.self.now.watch xs c.args.self.now.stage) (sym all)
    (part-read tau streams text c.args.part.now line c.args.self.now.watch c.args.self.now.stage c.requires r)
