use Rattle.std.proofs.Common.{◌≡◌, length, subst, sym, ◌∙◌}
use Rattle.std.proofs.lemmas.List.{with_items_is}
use Rattle.std.proofs.lemmas.List.Sorted.{IsPermutation-trans, length_permutation}
use Rattle.std.specs.List.Sorted.{IsPermutation}
use Rattle.cop_eds.proofs.tickets.sort_tickets.Goals as goal

pub returns-then-not-are_rising : goal.returns-then-not-are_rising
returns-then-not-are_rising c =
    let len : length c.sort_parts.new.tickets ≡ c.args.tickets.now.len = length_permutation _ _ c.sort_parts.ensures ∙ c.deref_mut.ensures.len in
    let moved = subst (λ xs. IsPermutation xs c.sort_parts.new.tickets) c.deref_mut.ensures.value c.sort_parts.ensures in
    let same = with_items_is c.args.tickets.now c.sort_parts.new.tickets len in
    IsPermutation-trans _ _ _ (subst (IsPermutation c.args.tickets.now.items) (sym same) moved) c.sort_unstable_by_key.ensures.permutation
