-- Streams of the same times pass in the same places.
use Rattle.std.proofs.Common.{◌≡◌, ℕ, ◌≤◌, Bool, List, [], ◌∷◌, length, map, slice_get, Option, Some, None, option_map, refl, sym, ap, ◌∙◌, subst}
use Rattle.std.specs.Option.{option_and_then, ForSome}
use Rattle.std.proofs.lemmas.Option.{slice_get-map}
use Rattle.cop_frame.specs.declared.rates.Rate.{Rate}
use Rattle.cop_rta.specs.declared.streams.Stream.{Stream}
use Rattle.cop_rta.specs.Test.{Passes}
use Rattle.cop_plan.specs.Values.{Timing, timing_of}
use Rattle.cop_plan.proofs.SameAsking as asking
use Rattle.cop_plan.proofs.SameAsking.{Asking, asking_of, place_at}

abbrev asking_in : Timing → Asking
asking_in t = record { bytes = t.bytes; period = t.period; jitter = t.jitter; every = t.every }

of_timings : (streams : List Stream) → map asking_in (map timing_of streams) ≡ map asking_of streams
of_timings [] = refl
of_timings (s ∷ ss) = ap (λ (asks : List Asking). asking_of s ∷ asks) (of_timings ss)

module _ (one other : List Stream) (e : map timing_of one ≡ map timing_of other) where
  pub askings : map asking_of one ≡ map asking_of other
  askings = sym (of_timings one) ∙ ap (λ (ts : List Timing). map asking_in ts) e ∙ of_timings other

  pub same_length : length one ≡ length other
  same_length = asking.same_length one other askings

  same_timing : (k : ℕ) → option_map timing_of (slice_get one k) ≡ option_map timing_of (slice_get other k)
  same_timing k = sym (slice_get-map timing_of one k) ∙ ap (λ (ts : List Timing). slice_get ts k) e ∙ slice_get-map timing_of other k

  deadline_by_timing : (o : Option Stream) → option_and_then (λ (s : Stream). s.deadline) o ≡ option_and_then (λ (t : Timing). t.deadline) (option_map timing_of o)
  deadline_by_timing None = refl
  deadline_by_timing (Some s) = refl

  pub same_deadline : (k : ℕ) → option_and_then (λ (s : Stream). s.deadline) (slice_get one k) ≡ option_and_then (λ (s : Stream). s.deadline) (slice_get other k)
  same_deadline k = deadline_by_timing (slice_get one k) ∙ ap (λ (t : Option Timing). option_and_then (λ (t : Timing). t.deadline) t) (same_timing k) ∙ sym (deadline_by_timing (slice_get other k))

  pub passes_same : (above : ℕ → Bool) (index : ℕ) (rate : Rate) (ahead : ℕ) → Passes (place_at one above index rate ahead) → Passes (place_at other above index rate ahead)
  passes_same above index rate ahead =
      asking.passes_same one other askings above index rate ahead (λ r h. subst (λ (d : Option ℕ). ForSome d (λ d. r ≤ d)) (same_deadline index) h)
