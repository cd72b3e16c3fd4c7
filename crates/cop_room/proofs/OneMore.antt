-- One stream more among others.
use Rattle.std.proofs.Common.{◌≡◌, ◌∙◌, ℕ, zero, suc, ◌+◌, ◌<◌, ◌≤◌, Bool, false, nat_lt, if◌then◌else◌, List, [], ◌∷◌, ◌++◌, length, slice_get, Some, refl, ap, arith, ⊎_elim}
use Rattle.std.proofs.lemmas.Bool.{cases_lt, lt-ltb}
use Rattle.std.proofs.lemmas.Bool.Decides.{nat_tests}
use Rattle.cop_frame.specs.declared.rates.Rate.{Rate}
use Rattle.cop_rta.specs.declared.streams.Stream.{Stream}
use Rattle.cop_rta.specs.Entries.{entry_of}
use Rattle.cop_rta.specs.Streams.{AreDistinct}
use Rattle.cop_rta.specs.Test.{Passes, place_by_id}
use Rattle.cop_room.specs.Harder.{IsHarder, AreAmong, past_one}
use Rattle.cop_room.proofs.ChangeLemmas.{alike}
use Rattle.cop_room.proofs.ByIdentifier.{fewer_passes}

pub past_before : (index k : ℕ) → k < index → past_one index k ≡ k
past_before index k lt = ap (λ (b : Bool). if b then k else k + 1) (lt-ltb k index lt)

not_before : (x y : ℕ) → y ≤ x → nat_lt x y ≡ false
not_before x y le = grind (arith, nat_tests)

pub past_after : (index k : ℕ) → index ≤ k → past_one index k ≡ k + 1
past_after index k le = ap (λ (b : Bool). if b then k else k + 1) (not_before k index le)

rises : (index j k : ℕ) → j < k → past_one index j < past_one index k
rises index j k lt = ⊎_elim
    (λ (before : j < index). ⊎_elim
    (λ (both : k < index). omega (arith, past_before index j before, past_before index k both, lt))
    (λ (over : index ≤ k). omega (arith, past_before index j before, past_after index k over, lt))
    (cases_lt k index))
    (λ (after : index ≤ j). omega (arith, past_after index j after, past_after index k (omega (arith, after, lt)), lt))
    (cases_lt j index)

before_it : (left right : List Stream) (s : Stream) (k : ℕ) → k < length left → slice_get (left ++ s ∷ right) k ≡ slice_get (left ++ right) k
before_it [] right s k lt = absurd (omega (arith, lt))
before_it (l ∷ left) right s zero lt = refl
before_it (l ∷ left) right s (suc k) lt = before_it left right s k (omega (arith, lt))

after_it : (left right : List Stream) (s : Stream) (k : ℕ) → length left ≤ k → slice_get (left ++ s ∷ right) (suc k) ≡ slice_get (left ++ right) k
after_it [] right s k le = refl
after_it (l ∷ left) right s zero le = absurd (omega (arith, le))
after_it (l ∷ left) right s (suc k) le = after_it left right s k (omega (arith, le))

pub one_more : (left right : List Stream) (s : Stream) → AreAmong (left ++ right) (left ++ s ∷ right) (past_one (length left))
one_more left right s = record { rises = λ j k lt inside. rises (length left) j k lt; each = each }
  where
    each : (k : ℕ) (a : Stream) → slice_get (left ++ right) k ≡ Some a → (t : Stream) × (slice_get (left ++ s ∷ right) (past_one (length left) k) ≡ Some t) × IsHarder (entry_of a) (entry_of t)
    each k a at = ⊎_elim
        (λ (lt : k < length left). (a, ap (slice_get (left ++ s ∷ right)) (past_before (length left) k lt) ∙ before_it left right s k lt ∙ at, alike (entry_of a)))
        (λ (le : length left ≤ k).
        let next : k + 1 ≡ suc k = omega arith in
        (a, ap (slice_get (left ++ s ∷ right)) (past_after (length left) k le ∙ next) ∙ after_it left right s k le ∙ at, alike (entry_of a)))
        (cases_lt k (length left))

pub one_fewer : (left right : List Stream) (s : Stream) (rate : Rate) (k : ℕ) → AreDistinct (left ++ s ∷ right) → k < length (left ++ right)
    → Passes (place_by_id (left ++ s ∷ right) (past_one (length left) k) rate) → Passes (place_by_id (left ++ right) k rate)
one_fewer left right s rate k distinct inside passes = fewer_passes (left ++ right) (left ++ s ∷ right) (past_one (length left)) rate k distinct (one_more left right s) inside passes
