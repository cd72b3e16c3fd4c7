use Rattle.std.proofs.Common.{ℕ, None, get_or, refl, sym, subst, ◌∙◌, rules}
use Rattle.std.specs.Prelude.{slice_index}
use Rattle.cop_watch.specs.Breaking.{IsMarkBefore}
use Rattle.cop_watch.proofs.BreakLemmas.{queue-breaks}
use Rattle.cop_watch.proofs.watching.Watch.rule_of_queue.Goals as goal

pub returns-in-Some-hang_of : goal.returns-in-Some-hang_of
returns-in-Some-hang_of c =
    let w = c.args.self.now in
    let stream = c.in-Some.stream in
    let before = c.mark_at-before.result in
    let was = subst (λ (n : ℕ). IsMarkBefore stream (get_or w.last.items n None) (slice_index w.marks.items n) before) c.from-place.ensures c.mark_at-before.ensures in
    queue-breaks w (c.if-is_joining.ensures refl) c.args.id c.args.at c.args.event c.args.frame.now stream c.in-Some-hang_of.hang before c.rule_of_moment-next.result c.instance_rule.result
    (search rules) (sym c.stream_of.ensures ∙ c.in-Some.is) c.in-Some-hang_of.ensures was c.rule_of_moment-next.ensures c.instance_rule.ensures
