-- Which changes ask more.
use Rattle.std.proofs.Common.{◌≡◌, ◌∙◌, ℕ, ◌*◌, ◌/◌, ◌≤◌, ◌==◌, max, min, Bool, true, false, if◌then◌else◌, List, slice_get, Option, Some, None, option_map, refl, sym, subst, arith, le_refl, mul-le-mul_left, ⊎_elim}
use Rattle.std.specs.Option.{ForSome}
use Rattle.std.proofs.lemmas.Option.{slice_get_cases}
use Rattle.cop_rta.specs.declared.streams.Stream.{Stream}
use Rattle.cop_rta.specs.Entries.{Entry, entry_of}
use Rattle.cop_rta.specs.CeilLemmas.{div_ceil-mono}
use Rattle.cop_rta.specs.Test.{sync_id}
use Rattle.cop_room.specs.Harder.{IsHarder, AreHarder}
use Rattle.cop_room.specs.Changes.{AreChanged, IsHarderChange, at_row, with_period, with_jitter, with_bytes, with_deadline, with_pace, with_sync_period, scaled, scaled_period, with_periods, with_times, stretched, with_deadlines}
use Rattle.cop_room.specs.Keeping.{GetHarderUp, GetHarderDown}

deadline_alike : (o : Option ℕ) → ForSome o (λ d. (e : ℕ) × (o ≡ Some e) × (e ≤ d))
deadline_alike o d is = (d, is, le_refl d)

deadline_lower : (x y : ℕ) → x ≤ y → ForSome (Some y) (λ d. (e : ℕ) × (Some x ≡ Some e) × (e ≤ d))
deadline_lower x y le d is = let same : y ≡ d = cc in (x, refl, omega (arith, le, same))

-- an entry asks no less than itself
pub alike : (e : Entry) → IsHarder e e
alike e = record { id = refl; every = refl; bytes = le_refl e.bytes; period = le_refl e.period; jitter = le_refl e.jitter; deadline = deadline_alike e.deadline }

one_row : (change harder : Entry → Entry) (row k : ℕ) (e : Entry) → IsHarder (change e) (harder e) → IsHarder (at_row row change k e) (at_row row harder k e)
one_row change harder row k e h = go (k == row)
  where
    go : (b : Bool) → IsHarder (if b then change e else e) (if b then harder e else e)
    go true = h
    go false = alike e

pub period_harder : (row : ℕ) → GetHarderDown (λ x. at_row row (with_period x))
period_harder row x y le k e = one_row (with_period y) (with_period x) row k e
    (record { id = refl; every = refl; bytes = le_refl e.bytes; period = le; jitter = le_refl e.jitter; deadline = deadline_alike e.deadline })

shorter : (e : Entry) (x y : ℕ) → x ≤ y → IsHarder (with_period y e) (with_period x e)
shorter e x y le = record { id = refl; every = refl; bytes = le_refl e.bytes; period = le; jitter = le_refl e.jitter; deadline = deadline_alike e.deadline }

pub sync_faster : GetHarderDown with_sync_period
sync_faster x y le k e = go (e.id == sync_id) (e.every == 0)
  where
    go : (a b : Bool) → IsHarder (if a then with_period y e else if b then e else with_period (e.every * y) e) (if a then with_period x e else if b then e else with_period (e.every * x) e)
    go true b = shorter e x y le
    go false true = alike e
    go false false = shorter e (e.every * x) (e.every * y) (mul-le-mul_left e.every le)

pub jitter_longer : (row : ℕ) → GetHarderUp (λ x. at_row row (with_jitter x))
jitter_longer row x y le k e = one_row (with_jitter x) (with_jitter y) row k e
    (record { id = refl; every = refl; bytes = le_refl e.bytes; period = le_refl e.period; jitter = le; deadline = deadline_alike e.deadline })

pub bytes_more : (row : ℕ) → GetHarderUp (λ x. at_row row (with_bytes x))
bytes_more row x y le k e = one_row (with_bytes x) (with_bytes y) row k e
    (record { id = refl; every = refl; bytes = le; period = le_refl e.period; jitter = le_refl e.jitter; deadline = deadline_alike e.deadline })

pub deadline_sooner : (row : ℕ) → GetHarderDown (λ x. at_row row (with_deadline x))
deadline_sooner row x y le k e = one_row (with_deadline y) (with_deadline x) row k e
    (record { id = refl; every = refl; bytes = le_refl e.bytes; period = le_refl e.period; jitter = le_refl e.jitter; deadline = deadline_lower x y le })

pub pace_faster : (row : ℕ) → GetHarderDown (λ x. at_row row (with_pace x))
pace_faster row x y le k e = one_row (with_pace y) (with_pace x) row k e
    (record { id = refl; every = refl; bytes = le_refl e.bytes; period = le; jitter = le_refl e.jitter; deadline = deadline_lower x y le })

no_longer : (least m n : ℕ) → m ≤ n → max least (4 * m) ≤ max least (4 * n)
no_longer least m n h = omega arith

scaled_less : (least time x y : ℕ) → x ≤ y → scaled least x time ≤ scaled least y time
scaled_less least time x y le = no_longer least _ _ (div_ceil-mono (time / 4 * x) (time / 4 * y) 1000 (omega arith) (mul-le-mul_left (time / 4) le))

period_less : (e : Entry) (x y : ℕ) → x ≤ y → scaled_period x e ≤ scaled_period y e
period_less e x y le = go (e.every == 0)
  where
    go : (b : Bool) → (if b then scaled 400 x e.period else e.every * scaled 400 x (e.period / e.every)) ≤ (if b then scaled 400 y e.period else e.every * scaled 400 y (e.period / e.every))
    go true = scaled_less 400 e.period x y le
    go false = mul-le-mul_left e.every (scaled_less 400 (e.period / e.every) x y le)

scaled_deadline : (x y : ℕ) → x ≤ y → (o : Option ℕ) → ForSome (option_map (scaled 4 y) o) (λ d. (e : ℕ) × (option_map (scaled 4 x) o ≡ Some e) × (e ≤ d))
scaled_deadline x y le None d is = absurd (cc)
scaled_deadline x y le (Some n) d is = let same : scaled 4 y n ≡ d = cc in (scaled 4 x n, refl, subst (λ z. scaled 4 x n ≤ z) same (scaled_less 4 n x y le))

pub periods_harder : GetHarderDown with_periods
periods_harder x y le k e = record { id = refl; every = refl; bytes = le_refl e.bytes; period = period_less e x y le; jitter = le_refl e.jitter; deadline = deadline_alike e.deadline }

pub times_harder : GetHarderDown with_times
times_harder x y le k e = record { id = refl; every = refl; bytes = le_refl e.bytes; period = period_less e x y le; jitter = le_refl e.jitter; deadline = scaled_deadline x y le e.deadline }

capped_less : (most m n : ℕ) → m ≤ n → min most m ≤ min most n
capped_less most m n le = omega (arith, le)

stretched_less : (time x y : ℕ) → x ≤ y → stretched x time ≤ stretched y time
stretched_less time x y le = capped_less 240000000 (scaled 4 x time) (scaled 4 y time) (scaled_less 4 time x y le)

stretched_deadline : (x y : ℕ) → ((n : ℕ) → stretched x n ≤ stretched y n) → (o : Option ℕ) → ForSome (option_map (stretched y) o) (λ d. (e : ℕ) × (option_map (stretched x) o ≡ Some e) × (e ≤ d))
stretched_deadline x y less None d is = absurd (cc)
stretched_deadline x y less (Some n) d is = let same : stretched y n ≡ d = cc in (stretched x n, refl, subst (λ z. stretched x n ≤ z) same (less n))

pub deadlines_by : (x y : ℕ) → ((n : ℕ) → stretched x n ≤ stretched y n) → IsHarderChange (with_deadlines y) (with_deadlines x)
deadlines_by x y less k e =
    record { id = refl; every = refl; bytes = le_refl e.bytes; period = le_refl e.period; jitter = le_refl e.jitter; deadline = stretched_deadline x y less e.deadline }

pub deadlines_harder : GetHarderDown with_deadlines
deadlines_harder x y le = deadlines_by x y (λ n. stretched_less n x y le)

pub changed_harder : (change harder : ℕ → Entry → Entry) (streams first second : List Stream) → IsHarderChange change harder → AreChanged change streams first → AreChanged harder streams second → AreHarder first second
changed_harder change harder streams first second h a b = record { as_many = sym a.as_many ∙ b.as_many; each = each }
  where
    each : (k : ℕ) (s t : Stream) → slice_get first k ≡ Some s → slice_get second k ≡ Some t → IsHarder (entry_of s) (entry_of t)
    each k s t at_first at_second = ⊎_elim
        (λ o. subst (λ e. IsHarder e (entry_of t)) (sym (a.each k o.0 s o.2 at_first)) (subst (λ e. IsHarder (change k (entry_of o.0)) e) (sym (b.each k o.0 t o.2 at_second)) (h k (entry_of o.0))))
        (λ past. ⊎_elim
        (λ f. let n = a.as_many in absurd (omega (arith, past.0, n, f.1)))
        (λ none. let bad : Some s ≡ None = sym at_first ∙ none.1 in absurd (cc))
        (slice_get_cases first k).1)
        (slice_get_cases streams k).1
