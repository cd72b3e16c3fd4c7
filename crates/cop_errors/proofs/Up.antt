-- Identifiers with NMT's put at 1, and the instances of disturbances.
use Rattle.std.proofs.Common.{◌≡◌, ◌≢◌, ◌∙◌, ℕ, zero, suc, ◌≤◌, inl, inr, List, [], ◌∷◌, subst, arith}
use Rattle.std.specs.Prelude.{Contains}
use Rattle.std.specs.List.{AllByRecursion as Each}
use Rattle.std.proofs.lemmas.List.Elements.{All-contains}
use Rattle.cop_rta.specs.declared.streams.Stream.{Stream}
use Rattle.cop_bus.specs.Run.{Instance, IsKnown}
use Rattle.cop_bus.proofs.Totals.{Pairs, Contains-head, Contains-tail}
use Rattle.cop_errors.specs.Errors.{Disturbance}
use Rattle.cop_rta.specs.UpLemmas.{up_id, up_id-cases, up_id-pos}
use Rattle.cop_rta.specs.Errors.{HasNoOne}
use Rattle.cop_errors.specs.Extended.{hit_instance, hit_instances}

pub up_id-not_zero : (a : ℕ) → up_id a ≡ 0 → ⊥
up_id-not_zero a e = let p = up_id-pos a in omega (arith, p, e)

-- an instance of the set is not of the identifier that is free
pub known_not_one : (streams : List Stream) (y : Instance) → HasNoOne streams → IsKnown streams y → y.id ≢ 1
known_not_one streams y free known e =
    let j = known.some_stream in
    All-contains (λ k. k.id ≢ 1) streams j.1 free (j.0, j.2, j.3) (j.4 ∙ e)

pub Each-hits : (P : Instance → Type 0) (hits : List Disturbance) (events : List ℕ) → Each (λ h. (e : ℕ) → P (hit_instance h e)) hits → Each P (hit_instances hits events)
Each-hits P [] events f = tt
Each-hits P (h ∷ hits) [] f = (f.0 h.start, Each-hits P hits [] f.1)
Each-hits P (h ∷ hits) (e ∷ events) f = (f.0 e, Each-hits P hits events f.1)

pub Pairs-hits : (R : Instance → Instance → Type 0) (hits : List Disturbance) (events : List ℕ) → Pairs (λ g h. (d e : ℕ) → R (hit_instance g d) (hit_instance h e)) hits → Pairs R (hit_instances hits events)
Pairs-hits R [] events f = tt
Pairs-hits R (g ∷ hits) [] f = (Each-hits (R (hit_instance g g.start)) hits [] (one g.start hits f.0), Pairs-hits R hits [] f.1)
  where
    one : (d : ℕ) (hits : List Disturbance) → Each (λ h. (d e : ℕ) → R (hit_instance g d) (hit_instance h e)) hits → Each (λ h. (e : ℕ) → R (hit_instance g d) (hit_instance h e)) hits
    one d [] f = tt
    one d (h ∷ hits) f = (f.0 d, one d hits f.1)
Pairs-hits R (g ∷ hits) (d ∷ events) f = (Each-hits (R (hit_instance g d)) hits events (one d hits f.0), Pairs-hits R hits events f.1)
  where
    one : (d : ℕ) (hits : List Disturbance) → Each (λ h. (d e : ℕ) → R (hit_instance g d) (hit_instance h e)) hits → Each (λ h. (e : ℕ) → R (hit_instance g d) (hit_instance h e)) hits
    one d [] f = tt
    one d (h ∷ hits) f = (f.0 d, one d hits f.1)

-- a disturbance's instance is there, with some event
pub hit_in : (hits : List Disturbance) (events : List ℕ) (h : Disturbance) → Contains hits h → (e : ℕ) × Contains (hit_instances hits events) (hit_instance h e)
hit_in [] events h c = absurd (let l = c.1 in omega arith)
hit_in (g ∷ hits) [] h (zero, l, q) = subst (λ k. (e : ℕ) × Contains (hit_instances (g ∷ hits) []) (hit_instance k e)) q (g.start, Contains-head (hit_instance g g.start) (hit_instances hits []))
hit_in (g ∷ hits) (d ∷ events) h (zero, l, q) = subst (λ k. (e : ℕ) × Contains (hit_instances (g ∷ hits) (d ∷ events)) (hit_instance k e)) q (d, Contains-head (hit_instance g d) (hit_instances hits events))
hit_in (g ∷ hits) [] h (suc i, l, e) = let w = hit_in hits [] h (i, omega (arith, l), e) in (w.0, Contains-tail (hit_instance g g.start) (hit_instance h w.0) (hit_instances hits []) w.1)
hit_in (g ∷ hits) (d ∷ events) h (suc i, l, e) = let w = hit_in hits events h (i, omega (arith, l), e) in (w.0, Contains-tail (hit_instance g d) (hit_instance h w.0) (hit_instances hits events) w.1)
