-- A place among streams, and one among others of which each is no easier: what the test has of the two.
use Rattle.std.proofs.Common.{◌≡◌, ◌∙◌, ℕ, ◌+◌, ◌-◌, ◌*◌, ◌<◌, ◌≤◌, ◌==◌, ◌&&◌, ◌||◌, not, Bool, true, false, List, length, slice_get, Some, None, refl, sym, ap, arith, le_refl, le_trans, le_of_eq, add-le-add, mul-le-mul_left, ⊎_elim}
use Rattle.std.specs.Option.{option_and_then, ForSome}
use Rattle.std.proofs.lemmas.Bool.{cases_eq, cases_lt, eq-eqb, ne_eqb}
use Rattle.std.proofs.lemmas.Option.{slice_get_cases}
use Rattle.cop_frame.specs.declared.rates.Rate.{Rate}
use Rattle.cop_frame.specs.Rate.{ticks_of}
use Rattle.cop_rta.specs.declared.streams.Stream.{Stream}
use Rattle.cop_rta.specs.Entries.{entry_of}
use Rattle.cop_rta.specs.Test.{StreamPlace, Passes, of_stream, cost_of, jitter_of, load_of, is_above, is_below, period_at, jitter_at, cost_at, deadline_at, blocking, interference, busy_at, queueing_at, IsBusyTime, IsQueuedWithin}
use Rattle.cop_rta.specs.TestLemmas.{busy_at-mono, queueing_at-mono}
use Rattle.cop_rta.specs.Witnesses.{HasWitnesses}
use Rattle.cop_rta.specs.Greatest.{HasGreatest}
use Rattle.cop_rta.proofs.LeastLemmas.{least_from, least_exists, same_least}
use Rattle.cop_rta.proofs.QueueLemmas.{busy_at_pos, cost_pos}
use Rattle.cop_rta.proofs.WitnessLemmas.{passes_has_witnesses, witnesses_pass}
use Rattle.cop_rta.proofs.GreatestLemmas.{has_greatest}
use Rattle.cop_room.specs.Harder.{IsHarder, AreAmong}
use Rattle.cop_room.proofs.SumLemmas.{sum_among, max_among}
use Rattle.cop_room.proofs.HarderLemmas.{cost_harder, load_harder}

-- one place asks no more than another
pub record AsksNoMore (p h : StreamPlace) : Type 0 where
  pub inside : p.index < length p.streams
  pub there : h.index < length h.streams
  pub busy : (t : ℕ) → busy_at p t ≤ busy_at h t
  pub queueing : (q w : ℕ) → queueing_at p q w ≤ queueing_at h q w
  pub jitter : jitter_at p ≤ jitter_at h
  pub cost : cost_at p ≤ cost_at h
  pub period : period_at h ≤ period_at p
  pub deadline : ForSome (deadline_at p) (λ d. (e : ℕ) × (deadline_at h ≡ Some e) × (e ≤ d))

queued_there : (q a b t u j k : ℕ) → q * b ≤ q * a → t ≤ u → j ≤ k → q * a < t + j → q * b < u + k
queued_there q a b t u j k times later late queued = omega arith

in_time : (j w c j' c' a b d e : ℕ) → j ≤ j' → c ≤ c' → b ≤ a → e ≤ d → j' + w + c' ≤ e + b → j + w + c ≤ d + a
in_time j w c j' c' a b d e h i l m n = omega arith

no_later : (j w c j' w' c' a b r r' : ℕ) → j ≤ j' → w ≤ w' → c ≤ c' → b ≤ a → r ≡ j + w + c - a → r' ≡ j' + w' + c' - b → r ≤ r'
no_later j w c j' w' c' a b r r' h i l m n o = omega arith

grown : (j w c j' w' c' a b u v r : ℕ) → 0 < u → w ≤ w' → c ≤ c' → b ≤ a → u ≡ j + w + c - a → v ≡ j' + w' + c' - b → v ≤ r → u + j' ≤ r + j
grown j w c j' w' c' a b u v r some h i l m n o = omega arith

first_instance : (j w c x r : ℕ) → 0 < c → r ≡ j + w + c - 0 * x → 0 < r
first_instance j w c x r some is = omega arith

module _ (p h : StreamPlace) (less : AsksNoMore p h) where
  queued : (q t u : ℕ) → t ≤ u → IsQueuedWithin p t q → IsQueuedWithin h u q
  queued q t u le is = queued_there q (period_at p) (period_at h) t u (jitter_at p) (jitter_at h) (mul-le-mul_left q less.period) le less.jitter is

  -- what shows that the harder one passes shows it of the easier one
  pub easier_witnesses : HasWitnesses h → HasWitnesses p
  easier_witnesses shown = record {
    time = shown.time;
    started = shown.started;
    within = shown.within;
    closed = le_trans (less.busy shown.time) shown.closed;
    each = λ q is.
        let w = shown.each q (queued q shown.time shown.time (le_refl shown.time) is) in (
          w.0,
          le_trans (less.queueing q w.0) w.1,
          λ d has.
              let e = less.deadline d has in
              in_time (jitter_at p) w.0 (cost_at p) (jitter_at h) (cost_at h) (q * period_at p) (q * period_at h) d e.0 less.jitter less.cost (mul-le-mul_left q less.period) e.2 (w.2 e.0 e.1),
        );
  }

  pub easier_passes : Passes h → Passes p
  easier_passes passes = witnesses_pass p less.inside (easier_witnesses (passes_has_witnesses h passes))

  -- of two greatest responses the easier one's is no greater
  greatest_less : (u r t : ℕ) (g : HasGreatest p u) (has : HasGreatest h r) → IsBusyTime p t → t ≤ has.time → u ≤ r
  greatest_less u r t g has busy within =
      let q : ℕ = g.reached.0 in
      let early : g.time ≤ has.time = le_trans (g.busy.least t busy.within busy.solves) within in
      let v = has.each q (queued q g.time has.time early g.reached.1) in
      let w = least_exists (queueing_at p q) v.1.wait (record { mono = queueing_at-mono p q }) (le_trans (less.queueing q v.1.wait) (le_of_eq (sym v.1.queueing.solves))) in
      let same : g.reached.2.wait ≡ w.0 = same_least (queueing_at p q) 0 g.reached.2.wait w.0 g.reached.2.queueing w.1 in
      let sooner : g.reached.2.wait ≤ v.1.wait = omega (arith, same, w.2) in
      le_trans (no_later (jitter_at p) g.reached.2.wait (cost_at p) (jitter_at h) v.1.wait (cost_at h) (q * period_at p) (q * period_at h) u v.0 less.jitter sooner less.cost (mul-le-mul_left q less.period) g.reached.2.response v.1.response) v.2

  costs : 0 < cost_at p
  costs = ⊎_elim (λ s. rw s.2 (cost_pos p.rate s.0)) (λ past. absurd (omega (arith, past.0, less.inside))) (slice_get_cases p.streams p.index).1

  -- a greatest response is one of some time
  takes_time : (u : ℕ) → HasGreatest p u → 0 < u
  takes_time u g =
      let v = g.each 0 (let w = g.busy.within in omega (arith, w)) in
      let some = first_instance (jitter_at p) v.1.wait (cost_at p) (period_at p) v.0 costs v.1.response in
      omega (arith, some, v.2)

  -- the harder one's is later by no less than its jitter is longer
  pub greatest_grows : (u r : ℕ) (g : HasGreatest p u) (has : HasGreatest h r) → u + jitter_at h ≤ r + jitter_at p
  greatest_grows u r g has =
      let q : ℕ = g.reached.0 in
      let t = least_from (busy_at p) 1 has.time (record { mono = busy_at-mono p }) (busy_at_pos p less.inside) has.busy.within (le_trans (less.busy has.time) (le_of_eq (sym has.busy.solves))) in
      let early : g.time ≤ has.time = le_trans (g.busy.least t.0 t.1.within t.1.solves) t.2 in
      let v = has.each q (queued q g.time has.time early g.reached.1) in
      let w = least_exists (queueing_at p q) v.1.wait (record { mono = queueing_at-mono p q }) (le_trans (less.queueing q v.1.wait) (le_of_eq (sym v.1.queueing.solves))) in
      let same : g.reached.2.wait ≡ w.0 = same_least (queueing_at p q) 0 g.reached.2.wait w.0 g.reached.2.queueing w.1 in
      let sooner : g.reached.2.wait ≤ v.1.wait = omega (arith, same, w.2) in
      grown (jitter_at p) g.reached.2.wait (cost_at p) (jitter_at h) v.1.wait (cost_at h) (q * period_at p) (q * period_at h) u v.0 r (takes_time u g) sooner less.cost (mul-le-mul_left q less.period) g.reached.2.response v.1.response v.2

  -- and the greatest response is no greater
  pub easier_greatest : (r : ℕ) → HasGreatest h r → (u : ℕ) × HasGreatest p u × (u ≤ r)
  easier_greatest r has =
      let t = least_from (busy_at p) 1 has.time (record { mono = busy_at-mono p }) (busy_at_pos p less.inside) has.busy.within (le_trans (less.busy has.time) (le_of_eq (sym has.busy.solves))) in
      let g = has_greatest p less.inside t.0 t.1 (le_trans t.2 has.within) in
      (_, g, greatest_less _ r t.0 g has t.1 t.2)

module _ (streams more : List Stream) (place : ℕ → ℕ) (among : AreAmong streams more place) where
  pub stream_at : (k : ℕ) → k < length streams → (s t : Stream) × (slice_get streams k ≡ Some s) × (slice_get more (place k) ≡ Some t) × IsHarder (entry_of s) (entry_of t)
  stream_at k lt = ⊎_elim
      (λ s. let t = among.each k s.0 s.2 in (s.0, t.0, s.2, t.1, t.2))
      (λ past. absurd (omega (arith, past.0, lt)))
      (slice_get_cases streams k).1

  pub place_inside : (k : ℕ) → k < length streams → place k < length more
  place_inside k lt = let two = stream_at k lt in ⊎_elim
      (λ s. s.1)
      (λ past. let bad : Some two.1 ≡ None = sym two.3 ∙ past.1 in absurd (cc))
      (slice_get_cases more (place k)).1

  pub places_apart : (j k : ℕ) → j < length streams → k < length streams → (place j ≡ place k) → j ≡ k
  places_apart j k left right same = ⊎_elim
      (λ (lt : j < k). absurd (omega (arith, among.rises j k lt right, same)))
      (λ (le : k ≤ j). ⊎_elim (λ (lt : k < j). absurd (omega (arith, among.rises k j lt left, same))) (λ (ge : j ≤ k). omega (arith, le, ge)) (cases_lt k j))
      (cases_lt j k)

  pub same_place : (j k : ℕ) → j < length streams → k < length streams → (place j == place k) ≡ (j == k)
  same_place j k left right = ⊎_elim
      (λ (e : j ≡ k). eq-eqb (place j) (place k) (ap place e) ∙ sym (eq-eqb j k e))
      (λ (ne : j ≡ k → ⊥). ne_eqb (place j) (place k) (λ e. ne (places_apart j k left right e)) ∙ sym (ne_eqb j k ne))
      (cases_eq j k)

  -- a number of a stream that is no less there
  pub of_no_less : (f g : Stream → ℕ) (k : ℕ) → k < length streams → ((s t : Stream) → slice_get streams k ≡ Some s → slice_get more (place k) ≡ Some t → IsHarder (entry_of s) (entry_of t) → f s ≤ g t)
      → of_stream f streams k ≤ of_stream g more (place k)
  of_no_less f g k lt h = let two = stream_at k lt in rw (two.2, two.3) (h two.0 two.1 two.2 two.3 two.4)

  pub of_no_more : (f g : Stream → ℕ) (k : ℕ) → k < length streams → ((s t : Stream) → IsHarder (entry_of s) (entry_of t) → g t ≤ f s)
      → of_stream g more (place k) ≤ of_stream f streams k
  of_no_more f g k lt h = let two = stream_at k lt in rw (two.2, two.3) (h two.0 two.1 two.4)

  module _ (above beyond : ℕ → Bool) (index : ℕ) (rate : Rate) (ahead behind : ℕ) (inside : index < length streams)
      (alike : (k : ℕ) → k < length streams → beyond (place k) ≡ above k)
      (later : (k : ℕ) (s t : Stream) → slice_get streams k ≡ Some s → IsHarder (entry_of s) (entry_of t) → (k == index || above k) ≡ true → jitter_of ahead s ≤ jitter_of behind t) where
    abbrev pub easy : StreamPlace
    easy = record { streams = streams; above = above; index = index; rate = rate; ahead = ahead }

    abbrev pub hard : StreamPlace
    hard = record { streams = more; above = beyond; index = place index; rate = rate; ahead = behind }

    above_too : (k : ℕ) → k < length streams → is_above easy k ≡ true → is_above hard (place k) ≡ true
    above_too k lt h = ap (λ b. not b && beyond (place k)) (same_place k index lt inside) ∙ ap (λ b. not (k == index) && b) (alike k lt) ∙ h

    below_too : (k : ℕ) → k < length streams → is_below easy k ≡ true → is_below hard (place k) ≡ true
    below_too k lt h = ap (λ b. not b && not (beyond (place k))) (same_place k index lt inside) ∙ ap (λ b. not (k == index) && not b) (alike k lt) ∙ h

    counts : (a b : Bool) → (not a && b) ≡ true → (a || b) ≡ true
    counts true b h = refl
    counts false b h = h

    own : (b : Bool) → (true || b) ≡ true
    own b = refl

    pub own_counts : (index == index || above index) ≡ true
    own_counts = rw (eq-eqb index index refl) refl

    own_load : (x : ℕ) → of_stream (load_of rate ahead x) streams index ≤ of_stream (load_of rate behind x) more (place index)
    own_load x = of_no_less (load_of rate ahead x) (load_of rate behind x) index inside (λ s t at there h. load_harder rate ahead behind x s t h (later index s t at h own_counts))

    interference_less : (x : ℕ) → interference easy x ≤ interference hard x
    interference_less x = sum_among (length streams) (length more) place (is_above easy) (is_above hard) (of_stream (load_of rate ahead x) streams) (of_stream (load_of rate behind x) more)
        (record {
          rises = among.rises;
          passes = above_too;
          grows = λ k lt is. of_no_less (load_of rate ahead x) (load_of rate behind x) k lt (λ s t at there h. load_harder rate ahead behind x s t h (later k s t at h (counts (k == index) (above k) is)));
        })
        place_inside

    blocking_less : blocking easy ≤ blocking hard
    blocking_less = max_among (length streams) (length more) place (is_below easy) (is_below hard) (of_stream (cost_of rate) streams) (of_stream (cost_of rate) more)
        (record {
          rises = among.rises;
          passes = below_too;
          grows = λ k lt is. of_no_less (cost_of rate) (cost_of rate) k lt (λ s t at there h. cost_harder rate s t h);
        })
        place_inside

    cost_less : cost_at easy ≤ cost_at hard
    cost_less = of_no_less (cost_of rate) (cost_of rate) index inside (λ s t at there h. cost_harder rate s t h)

    busy_less : (x : ℕ) → busy_at easy x ≤ busy_at hard x
    unfolding busy_at
    busy_less x = add-le-add blocking_less (add-le-add (own_load x) (interference_less x))

    queueing_less : (q w : ℕ) → queueing_at easy q w ≤ queueing_at hard q w
    unfolding queueing_at
    queueing_less q w = add-le-add blocking_less (add-le-add (mul-le-mul_left q cost_less) (interference_less (w + ticks_of rate)))

    deadline_less : (d : ℕ) → deadline_at easy ≡ Some d → (e : ℕ) × (deadline_at hard ≡ Some e) × (e ≤ d)
    deadline_less d is =
        let two = stream_at index inside in
        let its : two.0.deadline ≡ Some d = sym (ap (option_and_then (λ s. s.deadline)) two.2) ∙ is in
        let e = two.4.deadline d its in
        (e.0, ap (option_and_then (λ s. s.deadline)) two.3 ∙ e.1, e.2)

    pub asks_no_more : AsksNoMore easy hard
    asks_no_more = record {
      inside = inside;
      there = place_inside index inside;
      busy = busy_less;
      queueing = queueing_less;
      jitter = of_no_less (jitter_of ahead) (jitter_of behind) index inside (λ s t at there h. later index s t at h own_counts);
      cost = cost_less;
      period = of_no_more (λ s. s.period) (λ s. s.period) index inside (λ s t h. h.period);
      deadline = deadline_less;
    }
