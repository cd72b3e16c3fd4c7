-- The identifiers of a set's streams.
use Rattle.std.proofs.Common.{◌≡◌, ◌≢◌, ◌==◌, ℕ, zero, suc, ◌<◌, ◌≤◌, Bool, true, false, if◌then◌else◌, List, [], ◌∷◌, length, get_or, option_map, Option, Some, None, refl, sym, ◌∙◌, arith, ⊎_elim}
use Rattle.std.proofs.lemmas.Bool.{eqb-true, eqb-false, cases_lt}
use Rattle.cop_rta.specs.declared.streams.Stream.{Stream}
use Rattle.cop_rta.specs.Streams.{AreDistinct, place_of_id}
use Rattle.cop_rta.specs.Test.{of_stream}

pub of_stream_at : (streams : List Stream) (k : ℕ) (d : Stream) → k < length streams → of_stream (λ s. s.id) streams k ≡ (get_or streams k d).id
of_stream_at [] k d h = absurd (omega arith)
of_stream_at (s ∷ ss) zero d h = refl
of_stream_at (s ∷ ss) (suc k) d h = of_stream_at ss k d (omega arith)

-- two streams of a set have two identifiers
pub two_apart : (streams : List Stream) → AreDistinct streams → (j k : ℕ) → j < k → k < length streams → of_stream (λ s. s.id) streams j ≢ of_stream (λ s. s.id) streams k
two_apart [] distinct j k lt h same = absurd (omega arith)
two_apart (s ∷ ss) distinct j k lt h same =
    distinct j k s lt h (sym (of_stream_at (s ∷ ss) j s (omega (arith, lt, h))) ∙ same ∙ of_stream_at (s ∷ ss) k s h)

pub one_place : (streams : List Stream) → AreDistinct streams → (j k : ℕ) → j < length streams → k < length streams → of_stream (λ s. s.id) streams j ≡ of_stream (λ s. s.id) streams k → j ≡ k
one_place streams distinct j k left right same = ⊎_elim
    (λ (lt : j < k). absurd (two_apart streams distinct j k lt right same))
    (λ (le : k ≤ j). ⊎_elim
    (λ (lt : k < j). absurd (two_apart streams distinct k j lt left (sym same)))
    (λ (ge : j ≤ k). omega arith)
    (cases_lt k j))
    (cases_lt j k)

-- the stream that stands at the place of an identifier has it
has_it : (b : Bool) (s : Stream) (ss : List Stream) (id k : ℕ) (o : Option ℕ) → (b ≡ true → s.id ≡ id) → ((n : ℕ) → o ≡ Some n → of_stream (λ s. s.id) ss n ≡ id)
    → (if b then Some 0 else option_map (λ k. suc k) o) ≡ Some k → of_stream (λ s. s.id) (s ∷ ss) k ≡ id
has_it true s ss id k o first later e = let zero_is : 0 ≡ k = cc in rw (← zero_is) (first refl)
has_it false s ss id k None first later e = cc
has_it false s ss id k (Some n) first later e = let next : suc n ≡ k = cc in rw (← next) (later n refl)

pub place_has_id : (streams : List Stream) (id k : ℕ) → place_of_id streams id ≡ Some k → of_stream (λ s. s.id) streams k ≡ id
place_has_id [] id k e = cc
place_has_id (s ∷ ss) id k e =
    has_it (s.id == id) s ss id k (place_of_id ss id) (λ t. eqb-true s.id id t) (λ n found. place_has_id ss id n found) e

-- where an identifier has no place, no stream has it
hidden : (b : Bool) (s : Stream) (ss : List Stream) (id k : ℕ) (o : Option ℕ) → (b ≡ false → s.id ≢ id) → (o ≡ None → (n : ℕ) → n < length ss → of_stream (λ s. s.id) ss n ≢ id)
    → (if b then Some 0 else option_map (λ k. suc k) o) ≡ None → k < length (s ∷ ss) → of_stream (λ s. s.id) (s ∷ ss) k ≢ id
hidden true s ss id k o first later e lt = absurd (cc)
hidden false s ss id zero o first later e lt = first refl
hidden false s ss id (suc k) None first later e lt = later refl k (omega (arith, lt))
hidden false s ss id (suc k) (Some n) first later e lt = absurd (cc)

pub no_place : (streams : List Stream) (id : ℕ) → place_of_id streams id ≡ None → (k : ℕ) → k < length streams → of_stream (λ s. s.id) streams k ≢ id
no_place [] id e k lt = absurd (omega (arith, lt))
no_place (s ∷ ss) id e k lt =
    hidden (s.id == id) s ss id k (place_of_id ss id) (λ f. eqb-false s.id id f) (λ none n below. no_place ss id none n below) e lt
