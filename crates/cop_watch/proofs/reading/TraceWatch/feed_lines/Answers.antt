use Rattle.std.proofs.Common.{◌++◌, ℕ, List, subst, ap, ◌∙◌, append_assoc}
use Rattle.cop_watch.specs.Reading.{IsRead}
use Rattle.cop_watch.proofs.reading.TraceWatch.feed_lines.Goals as goal

pub lines-preserved : goal.lines-preserved
lines-preserved c =
    let before = c.lines.invariant in
    let t = c.in-Some.ensures in (
      before.0 ++ t.first,
      append_assoc before.0 t.first c.in-Some.left.now ∙ ap (λ xs. before.0 ++ xs) t.divided ∙ before.1,
      λ tau streams text r. subst (λ (xs : List ℕ). IsRead tau streams xs c.feed_line.new.self.watch c.feed_line.new.self.line.items c.feed_line.new.self.stage) (append_assoc text before.0 t.first)
          (t.read tau streams (text ++ before.0) (before.2 tau streams text r)),
    )
