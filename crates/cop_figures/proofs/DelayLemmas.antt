-- What a response is made of.
use Rattle.std.proofs.Common.{◌≡◌, ◌∙◌, ℕ, zero, suc, ◌+◌, ◌-◌, ◌*◌, ◌^◌, ◌<◌, ◌≤◌, ◌≢◌, min, ◌⊎◌, inl, inr, Bool, true, false, nat_lt, if◌then◌else◌, List, [], ◌∷◌, ◌++◌, map, filter, take, length, get_or, slice_get, sum_by, Some, None, refl, sym, ap, subst, arith, add-one, le_antisymm}
use Rattle.std.proofs.Math.Nat.{zero-add}
use Rattle.std.proofs.lemmas.Bool.{cases_eq, cases_lt, eq-eqb, ne_eqb}
use Rattle.std.proofs.lemmas.List.{map-append}
use Rattle.std.proofs.lemmas.List.Elements.{filter-append}
use Rattle.std.proofs.lemmas.List.Sums.{sum_by-append}
use Rattle.std.proofs.lemmas.Option.{slice_get_cases}
use Rattle.std.proofs.Math.Seq.{take-suc, take-length}
use Rattle.cop_frame.specs.declared.rates.Rate.{Rate}
use Rattle.cop_frame.specs.Rate.{ticks_of}
use Rattle.cop_rta.specs.declared.streams.Stream.{Stream}
use Rattle.cop_rta.specs.Solutions.{IsLeastSolution}
use Rattle.cop_rta.specs.Sums.{sum_where}
use Rattle.cop_rta.specs.SumsLemmas.{sum_where-more_yes, sum_where-more_no, sum_where-none}
use Rattle.cop_rta.specs.Test.{StreamPlace, of_stream, load_of, is_flagged, has_lower_id, is_above, jitter_at, period_at, cost_at, blocking, interference, queueing_at, horizon, place_among, place_by_id, place_with, ahead_of, IsBusyTime, IsQueuedWithin, IsResponse}
use Rattle.cop_rta.specs.Verdict.{PassesBy}
use Rattle.cop_figures.specs.declared.delays.Delay.{Delay}
use Rattle.cop_figures.specs.declared.delays.Breakdown.{Breakdown}
use Rattle.cop_figures.specs.Delays.{delay_by, delays_before, IsBrokenDown}

-- flags that tell of lower identifiers make the place by identifiers
pub same_place : (streams : List Stream) (flags : List Bool) (index : ℕ) (rate : Rate) → ((k : ℕ) → is_flagged flags k ≡ has_lower_id streams index k)
    → place_with streams flags index rate (ahead_of streams rate) ≡ place_by_id streams index rate
same_place streams flags index rate h =
    let tests : is_flagged flags ≡ has_lower_id streams index = λ i k. h k i in
    ap (λ (test : ℕ → Bool). place_among streams test index rate) tests

-- a least solution of a demand that is cut off at the greatest u64 is one of the demand, where it is below that
pub uncut : (f : ℕ → ℕ) (x : ℕ) → IsLeastSolution (λ t. min (f t) (2 ^ 64 - 1)) 0 x → x ≤ horizon → IsLeastSolution f 0 x
uncut f x s low = record {
  within = s.within;
  solves = (let e = s.solves in omega (arith, e, low));
  least = λ y l e. go y l e (cases_lt y x);
}
  where
    go : (y : ℕ) → 0 ≤ y → y ≡ f y → (y < x) ⊎ (x ≤ y) → x ≤ y
    go y l e (inr above) = above
    go y l e (inl below) = s.least y l (omega (arith, e, below, low))

-- and where it has one, the search finds one
pub not_none : (f : ℕ → ℕ) (x : ℕ) → IsLeastSolution f 0 x → x ≤ horizon → ((y : ℕ) → 0 ≤ y → y ≤ horizon → y ≢ min (f y) (2 ^ 64 - 1)) → ⊥
not_none f x s low none = none x s.within low (let e = s.solves in omega (arith, e, low))

pub one_solution : (f : ℕ → ℕ) (from x y : ℕ) → IsLeastSolution f from x → IsLeastSolution f from y → x ≡ y
one_solution f from x y a b = le_antisymm (a.least y b.within b.solves) (b.least x a.within a.solves)

-- an instance waits for the longest transfer from below
pub within_wait : (p : StreamPlace) (q w : ℕ) → IsLeastSolution (queueing_at p q) 0 w → blocking p ≤ w
unfolding queueing_at
within_wait p q w s = let e = s.solves in omega (arith, e)

-- an instance that waits so long has no response but its own
pub other_response : (p : StreamPlace) (q w r : ℕ) → IsLeastSolution (queueing_at p q) 0 w → (jitter_at p + w + cost_at p - q * period_at p ≡ r → ⊥) → IsResponse p q r → ⊥
other_response p q w r waits apart is = apart (ap (λ (x : ℕ). jitter_at p + x + cost_at p - q * period_at p) (one_solution (queueing_at p q) 0 w is.wait waits is.queueing) ∙ sym is.response)

-- none of the first instances has a response
abbrev pub NoneBelow : StreamPlace → ℕ → ℕ → Type 0
NoneBelow p response n = (k : ℕ) → k < n → IsResponse p k response → ⊥

pub none_next : (p : StreamPlace) (response n : ℕ) → NoneBelow p response n → (IsResponse p n response → ⊥) → NoneBelow p response (n + 1)
none_next p response n before here k low is = go (cases_eq k n)
  where
    go : (k ≡ n) ⊎ (k ≡ n → ⊥) → ⊥
    go (inl same) = here (subst (λ (q : ℕ). IsResponse p q response) same is)
    go (inr apart) = before k (omega (arith, low, apart)) is

-- some instance of the busy time has the greatest response
pub some_has : (p : StreamPlace) (response time n : ℕ) → PassesBy p response → IsBusyTime p time → ((q : ℕ) → IsQueuedWithin p time q → q < n) → NoneBelow p response n → ⊥
some_has p response time n passes busy counted none =
    let same : passes.time ≡ time = one_solution _ 1 passes.time time passes.busy busy in
    let q : ℕ = passes.reached.0 in
    none q (counted q (subst (λ (t : ℕ). IsQueuedWithin p t q) same passes.reached.1)) passes.reached.2

no_less : (m : ℕ) → nat_lt m m ≡ false
no_less m = grind arith

module _ (streams : List Stream) (index : ℕ) (rate : Rate) (wait : ℕ) where
  abbrev p : StreamPlace
  p = place_by_id streams index rate

  abbrev id : ℕ
  id = of_stream (λ s. s.id) streams index

  abbrev load : Stream → ℕ
  load s = load_of rate (ahead_of streams rate) (wait + ticks_of rate) s

  above_is : (k : ℕ) (s : Stream) → slice_get streams k ≡ Some s → is_above p k ≡ nat_lt s.id id
  above_is k s e = go (cases_eq k index)
    where
      test : has_lower_id streams index k ≡ nat_lt s.id id
      test = rw e refl

      go : (k ≡ index) ⊎ (k ≡ index → ⊥) → is_above p k ≡ nat_lt s.id id
      go (inl same) =
          let own : id ≡ s.id = rw (← same, e) refl in
          rw (eq-eqb k index same, own) (sym (no_less s.id))
      go (inr apart) = rw (ne_eqb k index apart, test) refl

  -- what the first so many streams put in front of the wait
  abbrev before : ℕ → ℕ
  before n = sum_by (λ d. d.ticks) (delays_before (take n streams) rate (ahead_of streams rate) id wait)

  alone : (s : Stream) (b : Bool) → nat_lt s.id id ≡ b → sum_by (λ d. d.ticks) (delays_before (s ∷ []) rate (ahead_of streams rate) id wait) ≡ (if b then load s else 0)
  alone s true e = rw e (zero-add (load s))
  alone s false e = rw e refl

  -- of two lists
  of_both : (xs ys : List Stream) → sum_by (λ d. d.ticks) (delays_before (xs ++ ys) rate (ahead_of streams rate) id wait)
      ≡ sum_by (λ d. d.ticks) (delays_before xs rate (ahead_of streams rate) id wait) + sum_by (λ d. d.ticks) (delays_before ys rate (ahead_of streams rate) id wait)
  of_both xs ys =
      let test : Stream → Bool = (λ s. nat_lt s.id id) in
      let delay : Stream → Delay = delay_by rate (ahead_of streams rate) wait in
      ap (λ (l : List Stream). sum_by (λ d. d.ticks) (map delay l)) (filter-append test xs ys)
      ∙ (ap (λ (l : List Delay). sum_by (λ d. d.ticks) l) (map-append delay (filter test xs) (filter test ys))
      ∙ sum_by-append (λ d. d.ticks) (map delay (filter test xs)) (map delay (filter test ys)))

  next : (n : ℕ) (s : Stream) → n < length streams → get_or streams n s ≡ s → before (suc n) ≡ before n + (if nat_lt s.id id then load s else 0)
  next n s low here =
      let first : take (suc n) streams ≡ take n streams ++ s ∷ [] = take-suc streams n s low ∙ ap (λ (x : Stream). take n streams ++ x ∷ []) here in
      ap (λ (l : List Stream). sum_by (λ d. d.ticks) (delays_before l rate (ahead_of streams rate) id wait)) first
      ∙ (of_both (take n streams) (s ∷ []) ∙ ap (λ (x : ℕ). before n + x) (alone s (nat_lt s.id id) refl))

  more : (n : ℕ) (s : Stream) (b : Bool) → is_above p n ≡ b → slice_get streams n ≡ Some s
      → sum_where (is_above p) (of_stream load streams) n + (if b then load s else 0) ≡ sum_where (is_above p) (of_stream load streams) (suc n)
  more n s true above here = let its : of_stream load streams n ≡ load s = rw here refl in let step = rw add-one at (sum_where-more_yes (is_above p) (of_stream load streams) n above) in omega (arith, its, step)
  more n s false above here = let step = rw add-one at (sum_where-more_no (is_above p) (of_stream load streams) n above) in omega (arith, step)

  sums : (n : ℕ) → n ≤ length streams → before n ≡ sum_where (is_above p) (of_stream load streams) n
  sums zero h = sym (sum_where-none (is_above p) (of_stream load streams))
  sums (suc n) h = go (slice_get_cases streams n).1 (λ low. sums n low)
    where
      go : ((s : Stream) × (n < length streams) × (slice_get streams n ≡ Some s) × (get_or streams n s ≡ s)) ⊎ ((length streams ≤ n) × (slice_get streams n ≡ None)) → (n ≤ length streams → before n ≡ sum_where (is_above p) (of_stream load streams) n)
          → before (suc n) ≡ sum_where (is_above p) (of_stream load streams) (suc n)
      go (inr past) earlier = absurd (omega (arith, h, past.0))
      go (inl found) earlier =
          let s : Stream = found.0 in
          let more_now = more n s (nat_lt s.id id) (above_is n s found.2) found.2 in
          let step = next n s found.1 found.3 in
          let ih = earlier (omega (arith, h)) in
          step ∙ (ap (λ (x : ℕ). x + (if nat_lt s.id id then load s else 0)) ih ∙ more_now)

  pub delays_are : sum_by (λ d. d.ticks) (delays_before streams rate (ahead_of streams rate) id wait) ≡ interference p (wait + ticks_of rate)
  delays_are =
      ap (λ (l : List Stream). sum_by (λ d. d.ticks) (delays_before l rate (ahead_of streams rate) id wait)) (sym (take-length streams)) ∙ sums (length streams) (omega arith)

  pub broken_down : (b : Breakdown) → b.wait ≡ wait → PassesBy p b.response → IsLeastSolution (queueing_at p b.instance) 0 b.wait → b.response ≡ b.jitter + b.wait + b.transfer - b.instance * period_at p
      → b.jitter ≡ jitter_at p → b.transfer ≡ cost_at p → b.blocking ≡ blocking p → b.delays.items ≡ delays_before streams rate (ahead_of streams rate) id b.wait → IsBrokenDown p b
  unfolding queueing_at
  broken_down b same passes waits response jitter transfer blocking_is delays = record {
    greatest = passes;
    waits = waits;
    response = response;
    jitter = jitter;
    transfer = transfer;
    blocking = blocking_is;
    delays = delays;
    sum = (let e = waits.solves in rw (delays, same, delays_are, blocking_is, transfer) (rw same at e));
  }
