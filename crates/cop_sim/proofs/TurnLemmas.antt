-- What the parts of a turn change.
use Rattle.std.proofs.Common.{◌≡◌, ◌≢◌, ℕ, ◌<◌, zero, suc, List, [], ◌∷◌, ap, length, get_or, slice_get, slice_set, Option, Some, Result, Ok, Err, OnOk, IsOk, ◌↔◌, true, false, refl, ◌∙◌, subst, eq-eqb, inr}
use Rattle.std.specs.Option.{option_eq}
use Rattle.std.proofs.lemmas.Option.{get_or_from_slice_get}
use lib.Dec.{eqb}
use Rattle.cop_rta.specs.declared.streams.Stream.{Stream}
use Rattle.cop_bus.specs.declared.bus.Instance.{Instance}
use Rattle.cop_bus.specs.declared.rings.Full.{Full}
use Rattle.cop_bus.specs.Rings.{RingValue}
use Rattle.cop_sim.specs.Stages.{with_last, IsPut}

pub put_ok : (rings after : List RingValue) (joined : Option ℕ) (place : ℕ) (y : Instance) (r : Result (Unit {0}) Full) → joined ≢ Some place
    → ((v : RingValue) → slice_get rings place ≡ Some v → (IsOk r ↔ (length v.waiting < v.most)))
    → ((v : RingValue) → slice_get rings place ≡ Some v → OnOk r (after ≡ slice_set rings place (with_last v y)))
    → OnOk r (IsPut rings joined place y after joined)
put_ok rings after joined place y (Ok u) other room ok = inr (other, refl, λ v e. ((room v e).0 refl, ok v e))
put_ok rings after joined place y (Err e) other room ok = tt

pub same_stream : (streams : List Stream) (place : ℕ) (s k : Stream) → s ≡ get_or streams place s → slice_get streams place ≡ Some k → s ≡ k
same_stream streams place s k is there = is ∙ get_or_from_slice_get streams place k s there

pub not_some : (joined : Option ℕ) (place : ℕ) → option_eq eqb joined (Some place) ≡ false → joined ≢ Some place
not_some joined place f e =
    let h : option_eq eqb (Some place) (Some place) ≡ false = subst (λ (j : Option ℕ). option_eq eqb j (Some place) ≡ false) e f in
    let t : eqb place place ≡ true = eq-eqb place place refl in
    absurd (cc)

-- what stands at a place put there again
pub set-same : {X : Type 0} (xs : List X) (i : ℕ) (x : X) → slice_get xs i ≡ Some x → xs ≡ slice_set xs i x
set-same [] i x e = refl
set-same (y ∷ ys) zero x e = let same : y ≡ x = cc in ap (λ v. v ∷ ys) same
set-same (y ∷ ys) (suc i) x e = ap (λ v. y ∷ v) (set-same ys i x e)
