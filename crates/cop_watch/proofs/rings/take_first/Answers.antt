use Rattle.std.proofs.Common.{◌≡◌, ◌<◌, ℕ, List, ◌∷◌, Option, Some, None, cond, length, nat_lt, refl, sym, ◌∙◌, ap, subst, inl, inr, ◌==◌, [], get_or, get_or-set_same, arith}
use Rattle.std.specs.Prelude.{IfSome, slice_set}
use Rattle.std.specs.BTreeSet.{BTreeSet, contains}
use Rattle.std.specs.Ordering.{nat_cmp}
use Rattle.cop_bus.proofs.Work.{lt-true, true-eq}
use Rattle.cop_bus.proofs.StepLemmas.{bool_cases}
use Rattle.cop_watch.specs.Rings.{Leaves, ring_of}
use Rattle.cop_watch.proofs.Further.{there}
use Rattle.cop_watch.proofs.rings.take_first.Goals as goal

-- others of the stream wait still
more : (o : Option ℕ) (rings : List (List ℕ)) (waiting : BTreeSet ℕ) (id place : ℕ) (ring rest : List ℕ) → place ≡ id → ring ≡ ring_of rings id → IfSome o (λ bits. ring ≡ bits ∷ rest) → 0 < length rest →
    IfSome o (Leaves rings (slice_set rings place rest) waiting waiting id)
more None rings waiting id place ring rest e f h some = tt
more (Some bits) rings waiting id place ring rest e f h some = record {
  rest = rest;
  first = sym f ∙ h;
  ring = ap (λ n. slice_set rings n rest) e;
  listed = λ before k. (elim (bool_cases (id == k)) [
    | inl t ↦ (let s = true-eq id k t in sym (ap (contains nat_cmp waiting) s) ∙ before ∙ sym (ap (λ b. cond b (nat_lt 0 (length rest)) (contains nat_cmp waiting k)) t ∙ lt-true 0 (length rest) some))
    | inr g ↦ sym (ap (λ b. cond b (nat_lt 0 (length rest)) (contains nat_cmp waiting k)) g)
  ]);
}

pub returns-else-is_empty-2-clause-some : goal.returns-else-is_empty-2-clause-some
returns-else-is_empty-2-clause-some c =
    let rings = c.args.rings.now.items in
    let place = c.from-place.result in
    let rest = c.take-first.new.self in
    let l : place < length rings = omega (arith, c.requires, c.from-place.ensures) in
    let same : get_or (slice_set rings place rest) place c.index-2.result.now ≡ rest = get_or-set_same rings place rest c.index-2.result.now l in
    let some = c.if-is_empty-2.ensures.some refl in
    let e : place ≡ c.args.id = c.from-place.ensures in
    let ring = there rings place c.index_mut.result.now [] l c.index_mut.ensures.value in
    more c.take-first.result rings c.args.waiting.now c.args.id place c.index_mut.result.now rest e
    (ring ∙ ap (ring_of rings) e) c.take-first.ensures.some (subst (λ (xs : List ℕ). 0 < length xs) (c.index-2.ensures ∙ same) some)
