use Rattle.std.proofs.Common.{◌≡◌, ◌∙◌, ◌<◌, ap, subst, length}
use Rattle.std.specs.Prelude.{set, slice_index_or}
use Rattle.cop_logbook.proofs.ToldLemmas.{kept_more}
use Rattle.cop_logbook.proofs.breaches.Breaches.add.Goals as goal

pub returns : goal.returns
returns c all h =
    let a = c.args.self.now in
    let kind = c.kind_of-kind.ensures in
    let count = c.saturating_add.result in
    kept_more all c.args.breach c.count_at-before.result count a _ h
    (c.count_at-before.ensures ∙ (ap (λ xs. slice_index_or xs c.kind_of-kind.result 0) c.deref.ensures.value ∙ ap (λ k. slice_index_or a.counts.items k 0) kind))
    c.saturating_add-self.ensures c.saturating_add.ensures
    (subst (λ k. k < length a.counts.items → c.set_at.new.counts.items ≡ set a.counts.items k count) kind c.set_at.ensures) c.in_ok-keep.ensures
