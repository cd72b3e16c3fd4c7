-- What passes with the errors above it passes without them.
use Rattle.std.proofs.Common.{◌≡◌, ◌≢◌, ◌∙◌, ℕ, zero, suc, ◌+◌, ◌*◌, ◌≤◌, ◌<◌, ◌⊎◌, inl, inr, max, List, [], ◌∷◌, refl, sym, ap, subst, arith, le_refl, zero-le, mul-le-mul_right, Option, Some, None, length, slice_get, Bool, true, false, not, ◌==◌, ◌&&◌, if◌then◌else◌}
use Rattle.std.specs.Prelude.{nat_lt}
use Rattle.std.specs.Option.{option_map_or, option_and_then}
use Rattle.std.proofs.lemmas.Bool.{cases_lt}
use Rattle.std.proofs.lemmas.Bool.Decides.{nat_tests}
use Rattle.std.proofs.lemmas.List.Elements.{All-contains}
use Rattle.std.proofs.lemmas.Option.{slice_get_cases, slice_get_within}
use Rattle.cop_frame.specs.declared.rates.Rate.{Rate}
use Rattle.cop_frame.specs.Rate.{ticks_of}
use Rattle.cop_rta.specs.declared.streams.Stream.{Stream}
use Rattle.cop_rta.specs.Streams.{place_of_id}
use Rattle.cop_rta.specs.Sums.{sum_where, max_where}
use Rattle.cop_rta.specs.CeilLemmas.{div_ceil-mono}
use Rattle.cop_rta.specs.Test.{StreamPlace, Passes, of_stream, cost_of, jitter_of, load_of, has_lower_id, is_above, is_below, busy_at, queueing_at, blocking, interference, sync_id, sync_place, ahead_of, place_by_id}
use Rattle.cop_rta.proofs.IdentifierLemmas.{place_has_id}
use Rattle.cop_rta.proofs.JitteredLemmas.{passes_with}
use Rattle.cop_rta.proofs.SyncLemmas.{place_inside, sync_response_is, sync_response_none, ahead_is, ahead_none, sync_responds}
use Rattle.cop_rta.specs.declared.errors.Errors.{Errors}
use Rattle.cop_rta.specs.UpLemmas.{up_id, up_id-other}
use Rattle.cop_rta.specs.Errors.{HasNoOne, up, errors_stream, tested}
use Rattle.cop_rta.proofs.BusLemmas.{in_streams, jitter-own, jitter-synced, up_id-lower, up_id-mono, slice_up, place_up}
use Rattle.cop_rta.proofs.Easier.{IsEasier, passes_too, greatest_too}

-- a sum, or a maximum, of fewer and smaller numbers
sum_less : (P Q : ℕ → Bool) (F G : ℕ → ℕ) (n : ℕ) → ((k : ℕ) → k < n → P k ≡ true → (Q k ≡ true) × (F k ≤ G k)) → sum_where P F n ≤ sum_where Q G n
unfolding sum_where
sum_less P Q F G zero h = zero-le
sum_less P Q F G (suc n) h = go (P n) refl (sum_less P Q F G n (λ k l e. h k (omega (arith, l)) e))
  where
    go : (b : Bool) → P n ≡ b → sum_where P F n ≤ sum_where Q G n → sum_where P F n + (if b then F n else 0) ≤ sum_where Q G n + (if Q n then G n else 0)
    go false e r = omega (arith, r)
    go true e r = let w = h n (omega arith) e in let t : (if Q n then G n else 0) ≡ G n = ap (λ b. if b then G n else 0) w.0 in omega (arith, r, w.1, t)

max_less : (P Q : ℕ → Bool) (F G : ℕ → ℕ) (n : ℕ) → ((k : ℕ) → k < n → P k ≡ true → (Q k ≡ true) × (F k ≤ G k)) → max_where P F n ≤ max_where Q G n
unfolding max_where
max_less P Q F G zero h = zero-le
max_less P Q F G (suc n) h = go (P n) refl (max_less P Q F G n (λ k l e. h k (omega (arith, l)) e))
  where
    go : (b : Bool) → P n ≡ b → max_where P F n ≤ max_where Q G n → max (max_where P F n) (if b then F n else 0) ≤ max (max_where Q G n) (if Q n then G n else 0)
    go false e r = omega (arith, r)
    go true e r = let w = h n (omega arith) e in let t : (if Q n then G n else 0) ≡ G n = ap (λ b. if b then G n else 0) w.0 in omega (arith, r, w.1, t)

sum_next : (Q : ℕ → Bool) (G : ℕ → ℕ) (n : ℕ) → sum_where Q G n ≤ sum_where Q G (suc n)
unfolding sum_where
sum_next Q G n = omega arith

max_next : (Q : ℕ → Bool) (G : ℕ → ℕ) (n : ℕ) → max_where Q G n ≤ max_where Q G (suc n)
unfolding max_where
max_next Q G n = omega arith

tested_length : (e : Errors) (streams : List Stream) → length (tested (Some e) streams) ≡ suc (length streams)
tested_length e [] = refl
tested_length e (k ∷ streams) = ap (λ n. suc n) (tested_length e streams)

lt-up : (a b : ℕ) → a ≢ 1 → b ≢ 1 → nat_lt (up_id a) (up_id b) ≡ nat_lt a b
lt-up a b n k = elim (cases_lt a b) [
  | inl l ↦ (let m : up_id a < up_id b = elim (cases_lt (up_id a) (up_id b)) [ inl l ↦ l | inr g ↦ absurd (let g' = up_id-lower b a k g in omega (arith, l, g')) ] in yes-lt (up_id a) (up_id b) a b m l)
  | inr l ↦ (let m : up_id b ≤ up_id a = up_id-mono b a l in no-lt (up_id a) (up_id b) a b m l)
]
  where
    yes-lt : (x y a b : ℕ) → x < y → a < b → nat_lt x y ≡ nat_lt a b
    yes-lt x y a b h l = is-lt x y h ∙ sym (is-lt a b l)
      where
        is-lt : (x y : ℕ) → x < y → nat_lt x y ≡ true
        is-lt x y h = grind (arith, nat_tests)

    no-lt : (x y a b : ℕ) → y ≤ x → b ≤ a → nat_lt x y ≡ nat_lt a b
    no-lt x y a b h l = not-lt x y h ∙ sym (not-lt a b l)
      where
        not-lt : (x y : ℕ) → y ≤ x → nat_lt x y ≡ false
        not-lt x y h = grind (arith, nat_tests)

module _ (e : Errors) (streams : List Stream) (free : HasNoOne streams) (rate : Rate) (k : ℕ) (m : Stream) (its : slice_get streams k ≡ Some m) where
  abbrev set : List Stream
  set = tested (Some e) streams

  not_one : (i : ℕ) (s : Stream) → slice_get streams i ≡ Some s → s.id ≢ 1
  not_one i s at = All-contains (λ k. k.id ≢ 1) streams s free (in_streams streams i s at)

  its_up : slice_get set k ≡ Some (up m)
  its_up = slice_up streams (errors_stream e ∷ []) k m its

  at_old : (f : Stream → ℕ) (i : ℕ) (s : Stream) → slice_get streams i ≡ Some s → of_stream f streams i ≡ f s
  at_old f i s at = ap (λ o. option_map_or f o 0) at

  at_new : (f : Stream → ℕ) (i : ℕ) (s : Stream) → slice_get streams i ≡ Some s → of_stream f set i ≡ f (up s)
  at_new f i s at = ap (λ o. option_map_or f o 0) (slice_up streams (errors_stream e ∷ []) i s at)

  old_lower : (i : ℕ) (s : Stream) → slice_get streams i ≡ Some s → has_lower_id streams k i ≡ nat_lt s.id m.id
  old_lower i s at = ap (λ o. option_map_or (λ s. nat_lt s.id (of_stream (λ s. s.id) streams k)) o false) at ∙ ap (λ n. nat_lt s.id n) (at_old (λ s. s.id) k m its)

  new_lower : (i : ℕ) (s : Stream) → slice_get streams i ≡ Some s → has_lower_id set k i ≡ nat_lt (up_id s.id) (up_id m.id)
  new_lower i s at = ap (λ o. option_map_or (λ s. nat_lt s.id (of_stream (λ s. s.id) set k)) o false) (slice_up streams (errors_stream e ∷ []) i s at) ∙ ap (λ n. nat_lt (up_id s.id) n) (at_new (λ s. s.id) k m its)

  same_lower : (i : ℕ) (s : Stream) → slice_get streams i ≡ Some s → has_lower_id set k i ≡ has_lower_id streams k i
  same_lower i s at = new_lower i s at ∙ lt-up s.id m.id (not_one i s at) (not_one k m its) ∙ sym (old_lower i s at)

  here : (i : ℕ) → i < length streams → (s : Stream) × (slice_get streams i ≡ Some s)
  here i l = elim (slice_get_cases streams i).1 [ inr past ↦ absurd (omega (arith, past.0, l)) | inl there ↦ (there.0, there.2) ]

  -- a place among the streams of the bus and the same among those that are tested, where no jitter is less
  module _ (a b : ℕ) (longer : (i : ℕ) (s : Stream) → slice_get streams i ≡ Some s → (i ≡ k) ⊎ (has_lower_id streams k i ≡ true) → jitter_of a s ≤ jitter_of b s) where
    abbrev old : StreamPlace
    old = record { streams = streams; above = has_lower_id streams k; index = k; rate = rate; ahead = a }

    abbrev new : StreamPlace
    new = record { streams = set; above = has_lower_id set k; index = k; rate = rate; ahead = b }

    load_less : (t : ℕ) (s : Stream) → jitter_of a s ≤ jitter_of b s → load_of rate a t s ≤ load_of rate b t (up s)
    load_less t s l = mul-le-mul_right (cost_of rate s) (div_ceil-mono (t + jitter_of a s) (t + jitter_of b s) s.period (let p = s.period_least in omega (arith, p)) (omega (arith, l)))

    above_right : (x y : Bool) → (not x && y) ≡ true → y ≡ true
    above_right true y h = absurd (cc)
    above_right false y h = h

    interference_less : (t : ℕ) → interference old t ≤ interference new t
    interference_less t =
        let n = tested_length e streams in
        let less = sum_less (is_above old) (is_above new) (of_stream (load_of rate a t) streams) (of_stream (load_of rate b t) set) (length streams) (λ i l h. one i h (here i l).0 (here i l).1) in
        let next = sum_next (is_above new) (of_stream (load_of rate b t) set) (length streams) in
        let same : sum_where (is_above new) (of_stream (load_of rate b t) set) (length set) ≡ sum_where (is_above new) (of_stream (load_of rate b t) set) (suc (length streams)) = ap (λ n. sum_where (is_above new) (of_stream (load_of rate b t) set) n) n in
        omega (arith, less, next, same)
      where
        one : (i : ℕ) → is_above old i ≡ true → (s : Stream) → slice_get streams i ≡ Some s → (is_above new i ≡ true) × (of_stream (load_of rate a t) streams i ≤ of_stream (load_of rate b t) set i)
        one i h s at =
            let x = at_old (load_of rate a t) i s at in
            let y = at_new (load_of rate b t) i s at in
            let z = load_less t s (longer i s at (inr (above_right (i == k) (has_lower_id streams k i) h))) in
            (ap (λ v. not (i == k) && v) (same_lower i s at) ∙ h, omega (arith, x, y, z))

    blocking_less : blocking old ≤ blocking new
    blocking_less =
        let n = tested_length e streams in
        let less = max_less (is_below old) (is_below new) (of_stream (cost_of rate) streams) (of_stream (cost_of rate) set) (length streams) (λ i l h. one i h (here i l).0 (here i l).1) in
        let next = max_next (is_below new) (of_stream (cost_of rate) set) (length streams) in
        let same : max_where (is_below new) (of_stream (cost_of rate) set) (length set) ≡ max_where (is_below new) (of_stream (cost_of rate) set) (suc (length streams)) = ap (λ n. max_where (is_below new) (of_stream (cost_of rate) set) n) n in
        omega (arith, less, next, same)
      where
        one : (i : ℕ) → is_below old i ≡ true → (s : Stream) → slice_get streams i ≡ Some s → (is_below new i ≡ true) × (of_stream (cost_of rate) streams i ≤ of_stream (cost_of rate) set i)
        one i h s at =
            let x = at_old (cost_of rate) i s at in
            let y = at_new (cost_of rate) i s at in
            (ap (λ v. not (i == k) && not v) (same_lower i s at) ∙ h, omega (arith, x, y))

    own_load : (t : ℕ) → of_stream (load_of rate a t) streams k ≤ of_stream (load_of rate b t) set k
    own_load t = let x = at_old (load_of rate a t) k m its in let y = at_new (load_of rate b t) k m its in let z = load_less t m (longer k m its (inl refl)) in omega (arith, x, y, z)

    busy_less : (t : ℕ) → busy_at old t ≤ busy_at new t
    unfolding busy_at
    busy_less t = let x = own_load t in let y = interference_less t in let z = blocking_less in omega (arith, x, y, z)

    same_cost : of_stream (cost_of rate) streams k ≡ of_stream (cost_of rate) set k
    same_cost = at_old (cost_of rate) k m its ∙ sym (at_new (cost_of rate) k m its)

    queueing_less : (q w : ℕ) → queueing_at old q w ≤ queueing_at new q w
    unfolding queueing_at
    queueing_less q w = let x = ap (λ c. q * c) same_cost in let y = interference_less (w + ticks_of rate) in let z = blocking_less in omega (arith, x, y, z)

    pub easier : IsEasier old new
    easier = record {
      inside = slice_get_within streams k m its;
      busy = busy_less;
      queueing = queueing_less;
      period = at_old (λ s. s.period) k m its ∙ sym (at_new (λ s. s.period) k m its);
      cost = same_cost;
      deadline = ap (option_and_then (λ s. s.deadline)) its ∙ sym (ap (option_and_then (λ s. s.deadline)) its_up);
      jitter = (let x = at_old (jitter_of a) k m its in let y = at_new (jitter_of b) k m its in let z = longer k m its (inl refl) in omega (arith, x, y, z));
    }

-- what SYNC's response puts in front of latencies is no more without the errors, where a stream below SYNC passes with them
module _ (e : Errors) (streams : List Stream) (free : HasNoOne streams) (rate : Rate) (k : ℕ) (m : Stream) (its : slice_get streams k ≡ Some m) where
  ahead_less : sync_id < m.id → Passes (place_by_id (tested (Some e) streams) k rate) → ahead_of streams rate ≤ ahead_of (tested (Some e) streams) rate
  ahead_less lower passes = go (place_of_id streams sync_id) refl
    where
      none_there : place_of_id streams sync_id ≡ None → (i : ℕ) → place_of_id streams sync_id ≡ Some i → ⊥
      none_there p i q = let bad : None ≡ Some i = sym p ∙ q in absurd (cc)

      go : (o : Option ℕ) → place_of_id streams sync_id ≡ o → ahead_of streams rate ≤ ahead_of (tested (Some e) streams) rate
      go None p = let z = ahead_none streams rate ((sync_response_none streams rate).1 (λ i q. absurd (none_there p i q))) in omega (arith, z)
      go (Some i) p =
          let inside = place_inside streams sync_id i p in
          let at = here e streams free rate k m its i inside in
          let sync : Stream = at.0 in
          let id : sync.id ≡ sync_id = sym (at_old e streams free rate k m its (λ s. s.id) i sync at.1) ∙ place_has_id streams sync_id i p in
          let up_m : up_id m.id ≡ m.id = up_id-other m.id (omega (arith, lower)) in
          let is_new : place_of_id (tested (Some e) streams) sync_id ≡ Some i = place_up streams (errors_stream e ∷ []) i p in
          let g = sync_responds (tested (Some e) streams) rate (ahead_of (tested (Some e) streams) rate) i k (up m) is_new (its_up e streams free rate k m its) (omega (arith, up_m, lower))
          (slice_get_within (tested (Some e) streams) k (up m) (its_up e streams free rate k m its)) ((passes_with (place_by_id (tested (Some e) streams) k rate)).0 passes) in
          let new_is = ahead_is (tested (Some e) streams) rate g.0 ((sync_response_is (tested (Some e) streams) rate g.0).1 (i, is_new, g.1)) in
          let f = greatest_too (sync_place streams rate i) (sync_place (tested (Some e) streams) rate i) (easier e streams free rate i sync at.1 0 0 (λ j s q c. le_refl (jitter_of 0 s))) g.0 g.1 in
          let old_is = ahead_is streams rate f.0 ((sync_response_is streams rate f.0).1 (i, p, f.1)) in
          omega (arith, new_is, old_is, f.2)

  pub without_errors : Passes (place_by_id (tested (Some e) streams) k rate) → Passes (place_by_id streams k rate)
  without_errors passes = passes_too (place_by_id streams k rate) (place_by_id (tested (Some e) streams) k rate)
      (easier e streams free rate k m its (ahead_of streams rate) (ahead_of (tested (Some e) streams) rate) longer) passes
    where
      low : (i : ℕ) (s : Stream) → slice_get streams i ≡ Some s → (i ≡ k) ⊎ (has_lower_id streams k i ≡ true) → s.id ≤ m.id
      low i s at (inl same) = let both : Some s ≡ Some m = sym at ∙ subst (λ j. slice_get streams j ≡ Some m) (sym same) its in let one : s ≡ m = cc in let d : s.id ≡ m.id = ap (λ s. s.id) one in omega (arith, d)
      low i s at (inr lower) = is-lt s.id m.id (sym (old_lower e streams free rate k m its i s at) ∙ lower)
        where
          is-lt : (x y : ℕ) → nat_lt x y ≡ true → x ≤ y
          is-lt x y h = grind (arith, nat_tests)

      longer : (i : ℕ) (s : Stream) → slice_get streams i ≡ Some s → (i ≡ k) ⊎ (has_lower_id streams k i ≡ true) → jitter_of (ahead_of streams rate) s ≤ jitter_of (ahead_of (tested (Some e) streams) rate) s
      longer i s at c = elim (cases_lt 0 s.every) [
        | inr z ↦ (let async : s.every ≡ 0 = omega arith in let a = jitter-own (ahead_of streams rate) s async in let b = jitter-own (ahead_of (tested (Some e) streams) rate) s async in omega (arith, a, b))
        | inl l ↦ (let high = s.synchronous_id l in let below = low i s at c in let less = ahead_less (omega (arith, high, below)) passes in
            let a = jitter-synced (ahead_of streams rate) s l in let b = jitter-synced (ahead_of (tested (Some e) streams) rate) s l in omega (arith, a, b, less))
      ]
