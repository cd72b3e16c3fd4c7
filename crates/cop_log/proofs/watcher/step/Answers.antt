use Rattle.std.proofs.Common.{◌∙◌, set, sym, ap, subst}
use Rattle.std.specs.Prelude.{IfSome, Some, None, slice_index_or}
use Rattle.cop_log.specs.Watching.{lane_of, IsWatched}
use Rattle.cop_log.specs.Watchers.{IsStepOfAll}
use Rattle.cop_log.proofs.Stepped.{step_all}
use Rattle.cop_log.proofs.watcher.step.Goals as goal

pub returns-else-placed-len-clause-some : goal.returns-else-placed-len-clause-some
returns-else-placed-len-clause-some c =
    let x = c.in-Some.placed in
    let anchors = c.args.anchors.now.items in
    let next = c.watch_next-next.result in
    subst (λ o. IfSome o (λ x. IsStepOfAll x c.args.entry c.args.number anchors (set anchors c.in-Some.placed.place (Some c.watch_next-next.result.anchor)) next.soon)) (sym c.in-Some.is)
    (λ t log clean within short same own lane distinct w.
    let s = c.watch_next-next.ensures.step log clean within short same own
    (subst (λ a. IsWatched (lane_of x.watch) log c.args.number a clean) (sym (c.anchor_at-before.ensures ∙ ap (λ xs. slice_index_or xs x.place None) c.deref.ensures.value)) (w.lanes x.place (lane_of x.watch) lane)) in (
      (λ f e. s.evident f e t x.place lane),
      step_all t distinct log c.args.number within anchors clean x.place (lane_of x.watch) lane own next.anchor next.soon s w,
    ))

pub returns-else-placed-len-clause-shown : goal.returns-else-placed-len-clause-shown
returns-else-placed-len-clause-shown c f e =
    let s = c.watch_next-next.ensures.shown f e in
    (c.in-Some.placed, s.0, c.in-Some.is, sym (c.anchor_at-before.ensures ∙ ap (λ xs. slice_index_or xs c.in-Some.placed.place None) c.deref.ensures.value) ∙ s.1, s.2)
