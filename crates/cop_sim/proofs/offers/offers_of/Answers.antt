use Rattle.std.proofs.Common.{◌≡◌, ◌∙◌, ℕ, List, ap, arith, map}
use Rattle.std.specs.Prelude.{Option, None}
use Rattle.std.proofs.lemmas.List.{ext_get_or}
use Rattle.cop_sim.specs.declared.behaviours.Offer.{Offer}
use Rattle.cop_sim.proofs.offers.offers_of.Goals as goal

pub set-requires-clause-early : goal.set-requires-clause-early
set-requires-clause-early c = c.requires.early c.loop-i.i

pub returns : goal.returns
returns c =
    let h = c.loop-i.invariant in
    let count = h.count in
    let same : c.loop-i.offers.next ≡ c.args.next.now = ext_get_or None c.loop-i.offers.next c.args.next.now (omega (arith, count, c.requires.count)) (λ i l. h.done i (omega (arith, l, count, c.requires.count, c.loop-i-test.false))) in
    ap (λ (xs : List ℕ). record { ids = xs; next = c.loop-i.offers.next }) h.ids ∙ ap (λ (xs : List (Option Offer)). record { ids = map (λ k. k.id) c.args.streams.now; next = xs }) same
