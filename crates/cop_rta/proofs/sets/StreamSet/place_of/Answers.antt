use Rattle.std.proofs.Common.{rules, sym, ◌∙◌, ◌≡◌, ◌<◌, ℕ, length, subst, Option, Some, IfSome}
use Rattle.cop_rta.specs.Streams.{place_of_id}
use Rattle.cop_rta.proofs.PlaceLemmas.{known_past, place_within}
use Rattle.cop_rta.proofs.sets.StreamSet.place_of.Goals as goal

pub returns-in_err-place-clause-place : goal.returns-in_err-place-clause-place
returns-in_err-place-clause-place c =
    c.from_residual.ensures ∙ sym (rw (← c.self.view_is) (known_past c.self.inside.places.items c.self.inside.streams.items c.args.id c.self.invariant.2 (rw c.deref.ensures.value at (rw c.from.ensures at c.in_err-place.ensures.lookup).3)))

pub returns-clause-within : goal.returns-clause-within
returns-clause-within c =
    let there : Some c.from-2.result ≡ place_of_id c.args.self.now c.args.id = search rules in
    subst (λ (o : Option ℕ). IfSome o (λ k. k < length c.args.self.now)) (sym there) (place_within c.args.self.now c.args.id)
