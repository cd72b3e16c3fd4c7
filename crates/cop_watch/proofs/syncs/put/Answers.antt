use Rattle.std.proofs.Common.{◌<◌, ◌%◌, length, subst, sym, ◌∙◌, rules}
use Rattle.cop_watch.specs.Syncs.{IsForgotten}
use Rattle.cop_watch.specs.declared.syncs.EndedSync.{EndedSync}
use Rattle.cop_watch.proofs.SyncLemmas.{puts-here, kept-is, none-kept}
use Rattle.cop_watch.proofs.syncs.put.Goals as goal

pub returns-in-Some : goal.returns-in-Some
returns-in-Some c =
    let xs = c.args.recent.now.items in
    let low : c.args.sync.mark % 64 < length xs = search rules in
    puts-here xs (c.args.sync.mark % 64) c.args.sync c.args.forgotten c.forget-in-Some.result low
    (λ s e. subst (λ (t : EndedSync). IsForgotten c.forget-in-Some.result t.event) (kept-is xs (c.args.sync.mark % 64) c.index-before.result.now c.in-Some.before s low (sym c.index-before.ensures ∙ c.in-Some.is) e) c.forget-in-Some.ensures.its)
    c.forget-in-Some.ensures.others

pub returns-in-None : goal.returns-in-None
returns-in-None c =
    let xs = c.args.recent.now.items in
    let low : c.args.sync.mark % 64 < length xs = search rules in
    puts-here xs (c.args.sync.mark % 64) c.args.sync c.args.forgotten c.args.forgotten low
    (λ s e. absurd (none-kept xs (c.args.sync.mark % 64) c.index-before.result.now s low (sym c.index-before.ensures ∙ c.in-None.is) e))
    (λ v gone. gone)
