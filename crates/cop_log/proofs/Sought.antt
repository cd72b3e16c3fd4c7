-- The stream with a bound that has an identifier.
use Rattle.std.proofs.Common.{◌≡◌, ◌∙◌, ℕ, ◌≤◌, ◌<◌, inl, inr, List, [], ◌∷◌, zero, suc, length, get_or, refl, sym, ap, arith, Option, Some, None}
use Rattle.std.specs.Prelude.{◌≢◌, slice_get, slice_index_or}
use Rattle.std.proofs.lemmas.Bool.{cases_lt}
use Rattle.std.proofs.lemmas.List.Elements.{All-contains}
use Rattle.std.proofs.lemmas.Option.{slice_get_read}
use Rattle.cop_frame.specs.Rate.{ticks_of}
use Rattle.cop_rta.specs.declared.streams.Stream.{Stream}
use Rattle.cop_rta.specs.Streams.{place_of_id, AreDistinct}
use Rattle.cop_bus.proofs.Sound.{in_streams}
use Rattle.cop_log.specs.Log.{Terms}
use Rattle.cop_log.specs.Watchers.{HasNoLane, HasLane}
use Rattle.cop_log.proofs.Named.{nowhere, there}
use Rattle.cop_log.proofs.Stepped.{other_id}

-- identifiers of streams are small
pub far : (t : Terms) (id : ℕ) → 2048 ≤ id → HasNoLane t id
far t id h p k o e = let r = k.stream.id_in_range in omega (arith, r, h, e)

pub none_there : (t : Terms) (id : ℕ) → place_of_id t.streams id ≡ None → HasNoLane t id
none_there t id e p k o same = All-contains (λ k. k.id ≢ id) t.streams k.stream (nowhere t.streams id e) (in_streams t.streams p k.stream o.there) same

-- past the end of a list there is nothing
pub beyond : (xs : List (Option ℕ)) (n : ℕ) → length xs ≤ n → slice_index_or xs n None ≡ None
beyond [] zero h = refl
beyond [] (suc n) h = refl
beyond (x ∷ xs) zero h = absurd (omega arith)
beyond (x ∷ xs) (suc n) h = beyond xs n (omega arith)

-- the stream that has it has no bound
pub no_bound : (t : Terms) → AreDistinct t.streams → (id n : ℕ) → place_of_id t.streams id ≡ Some n → n < length t.streams → slice_index_or t.bounds n None ≡ None → HasNoLane t id
no_bound t distinct id n e l none p k o same = elim (cases_lt p n) [
  | inl h ↦ apart (λ q. omega arith)
  | inr h ↦ elim (cases_lt n p) [
    | inl g ↦ apart (λ q. omega arith)
    | inr g ↦ (let q : n ≡ p = omega arith in
        let bound : None ≡ Some k.bound = sym none ∙ (ap (λ n. slice_index_or t.bounds n None) q ∙ o.bound) in
        absurd (cc))
  ]
]
  where
    at : slice_get t.streams n ≡ Some (get_or t.streams n k.stream)
    at = slice_get_same t.streams n k.stream l
      where
        slice_get_same : (xs : List Stream) (n : ℕ) (d : Stream) → n < length xs → slice_get xs n ≡ Some (get_or xs n d)
        slice_get_same [] n d l = absurd (omega arith)
        slice_get_same (x ∷ xs) zero d l = refl
        slice_get_same (x ∷ xs) (suc n) d l = slice_get_same xs n d (omega arith)

    its : (get_or t.streams n k.stream).id ≡ id
    its = there t.streams id n (get_or t.streams n k.stream) e l (default t.streams n k.stream l)
      where
        default : (xs : List Stream) (n : ℕ) (d : Stream) → n < length xs → get_or xs n d ≡ get_or xs n (get_or xs n d)
        default [] n d l = absurd (omega arith)
        default (x ∷ xs) zero d l = refl
        default (x ∷ xs) (suc n) d l = default xs n d (omega arith)

    apart : (p ≡ n → ⊥) → ⊥
    apart q = other_id t.streams distinct n p (get_or t.streams n k.stream) k.stream at o.there q (same ∙ sym its)

-- it has one
pub has_bound : (t : Terms) (id n : ℕ) (x : Stream) (b : ℕ) → place_of_id t.streams id ≡ Some n → n < length t.streams → x ≡ get_or t.streams n x → slice_index_or t.bounds n None ≡ Some b →
    HasLane t n (record { stream = x; tau = ticks_of t.rate; bound = b; clock = t.clock }) id
has_bound t id n x b e l is bound = (
  record { there = slice_get_read t.streams (length t.streams) n x refl l is; bound = bound; tau = refl; same_clock = refl },
  there t.streams id n x e l is,
)
