-- What is evident from a log speaks against each run that is said to have it.
use Rattle.std.proofs.Common.{◌≡◌, ◌∙◌, ℕ, ◌+◌, ◌-◌, ◌*◌, ◌≤◌, ◌<◌, List, zero, suc, length, refl, sym, ap, subst, arith, Some, Bool, true, false, cond}
use Rattle.std.specs.Prelude.{Contains, ◌==◌, ◌≢◌, slice_get, slice_index_or, None}
use Rattle.std.specs.Option.{ForSome}
use Rattle.std.proofs.lemmas.List.Elements.{All-contains}
use Rattle.std.proofs.lemmas.Bool.Decides.{nat_tests}
use Rattle.cop_frame.specs.Rate.{ticks_of}
use Rattle.cop_rta.specs.declared.streams.Stream.{Stream}
use Rattle.cop_rta.proofs.QueueLemmas.{ticks_pos}
use Rattle.cop_bus.specs.Run.{Instance, IsRunAbove, jitter_at, least_bits}
use Rattle.cop_bus.specs.Spread.{IsSpread}
use Rattle.cop_bus.proofs.Sound.{in_streams}
use Rattle.cop_lines.specs.declared.entries.Entry.{Entry}
use Rattle.cop_log.specs.declared.findings.Finding.{Finding}
use Rattle.cop_log.specs.declared.findings.Finding.TheVariants.{Unknown, Length, Soon, Crowded, Fallen}
use Rattle.cop_log.specs.Log.{Terms, entry_at, IsOf, HasLog, AreBounded, IsRunWith, count_of, least_of, Lane, IsLaneOf, IsNear, IsSoon, stamp, IsEvidence}
use Rattle.cop_log.proofs.Counted.{count-next, count-own, least-next}
use Rattle.cop_bus.proofs.Bounded as Bounded
use Rattle.cop_log.proofs.Distance as Distance

module _ (t : Terms) (until : ℕ) (run : List Instance) (log : List Entry) (bounded : AreBounded t) (with : IsRunWith t until run log) where
  abbrev has : HasLog (ticks_of t.rate) t.clock until run log
  has = with.has

  -- the instance of an entry
  abbrev of : (i : ℕ) → i < length log → Instance
  of i l = (has.seen i l).1

  in_run : (i : ℕ) (l : i < length log) → Contains run (of i l)
  in_run i l = ((has.seen i l).0, (has.seen i l).2, (has.seen i l).3)

  is_of : (i : ℕ) (l : i < length log) → IsOf (ticks_of t.rate) (entry_at log i) (has.end i) (of i l)
  is_of i l = (has.seen i l).4

  module _ (p : ℕ) (m : Stream) (at : slice_get t.streams p ≡ Some m) (d : ℕ) (bound : slice_index_or t.bounds p None ≡ Some d) where
    in_set : Contains t.streams m
    in_set = in_streams t.streams p m at

    above : IsRunAbove t.rate t.streams until run p m
    above = record { stream = at; legal = with.legal; obeying = λ p x l e. with.obeying p x l }

    spread : IsSpread (jitter_at t.streams t.rate) run m
    spread = Bounded.spread t.streams p t.rate m at until run above bounded.synced d (bounded.passes p d bound)

    -- the next of the stream
    later : (i j : ℕ) (k : i < length log) (l : j < length log) → i < j → (entry_at log i).id ≡ m.id → (entry_at log j).id ≡ m.id → (of i k).event + m.period ≤ (of j l).event
    later i j k l h u v =
        Distance.period_later (ticks_of t.rate) t.streams until run (ticks_pos t.rate) with.legal (jitter_at t.streams t.rate) m in_set spread (of i k) (of j l) (in_run i k) (in_run j l)
        ((is_of i k).same_id ∙ u) ((is_of j l).same_id ∙ v) (has.end i) (has.end j) (is_of i k).ended (is_of j l).ended (has.in_order i j h l)

    -- the last entry of the stream up to a place, which is so many after the first
    record Reached (i : ℕ) (k : i < length log) (j : ℕ) : Type 0 where
      last : ℕ
      inside : last < length log
      by : last ≤ j
      own : (entry_at log last).id ≡ m.id
      count : ℕ
      counted : count + count_of m.id log (suc i) ≡ count_of m.id log (suc j)
      events : (of i k).event + count * m.period ≤ (of last inside).event

    reach : (i : ℕ) (k : i < length log) → (entry_at log i).id ≡ m.id → (n j : ℕ) → i + n ≡ j → j < length log → Reached i k j
    reach i k u zero j e l =
        let q : i ≡ j = omega arith in
        record { last = i; inside = k; by = omega arith; own = u; count = 0; counted = (let c = ap (λ x. count_of m.id log (suc x)) q in omega arith); events = omega arith }
    reach i k u (suc n) j e l =
        let q : suc (i + n) ≡ j = omega arith in
        subst (Reached i k) q (go ((entry_at log (suc (i + n))).id == m.id) refl (reach i k u n (i + n) refl (omega arith)) (count-next m.id log (suc (i + n)) (omega arith)))
      where
        go : (b : Bool) → ((entry_at log (suc (i + n))).id == m.id) ≡ b → Reached i k (i + n) →
            count_of m.id log (suc (suc (i + n))) ≡ cond ((entry_at log (suc (i + n))).id == m.id) 1 0 + count_of m.id log (suc (i + n)) → Reached i k (suc (i + n))
        go true t r c =
            let inside : suc (i + n) < length log = omega arith in
            let own : (entry_at log (suc (i + n))).id ≡ m.id = grind (arith, nat_tests) in
            let far = later r.last (suc (i + n)) r.inside inside (let b = r.by in omega arith) r.own own in
            let d : count_of m.id log (suc (suc (i + n))) ≡ 1 + count_of m.id log (suc (i + n)) = c ∙ ap (λ b. cond b 1 0 + count_of m.id log (suc (i + n))) t in
            record { last = suc (i + n); inside = inside; by = omega arith; own = own; count = suc r.count; counted = (let h = r.counted in omega arith); events = (let h = r.events in omega arith) }
        go false t r c =
            let d : count_of m.id log (suc (suc (i + n))) ≡ 0 + count_of m.id log (suc (i + n)) = c ∙ ap (λ b. cond b 1 0 + count_of m.id log (suc (i + n))) t in
            record { last = r.last; inside = r.inside; by = (let h = r.by in omega arith); own = r.own; count = r.count; counted = (let h = r.counted in omega arith); events = r.events }

    -- so many instances apart, as many periods lie between the events
    events_apart : (i j n : ℕ) (k : i < length log) (l : j < length log) → i < j → (entry_at log i).id ≡ m.id → (entry_at log j).id ≡ m.id →
        n + count_of m.id log i ≡ count_of m.id log j → (of i k).event + n * m.period ≤ (of j l).event
    events_apart i zero n k l h u v c = absurd (omega arith)
    events_apart i (suc j) n k l h u v c =
        let r = reach i k u (j - i) j (omega arith) (omega arith) in
        let far = later r.last (suc j) r.inside l (let b = r.by in omega arith) r.own v in
        let own = count-own m.id log i k u in
        let same : n ≡ suc r.count = (let d = r.counted in omega arith) in
        let e = r.events in
        subst (λ n. (of i k).event + n * m.period ≤ (of (suc j) l).event) (sym same) (omega arith)

    -- an instance of the stream has ended by the bound after its event
    by_bound : (i : ℕ) (k : i < length log) → (entry_at log i).id ≡ m.id → has.end i ≤ (of i k).event + d
    by_bound i k u =
        let a = (is_of i k).ended in
        let q = All-contains (λ y. y.id ≡ m.id → ForSome (Some d) (λ d. ForSome y.start (λ s. s ≤ until → s + y.bits * ticks_of t.rate ≤ y.event + d))) run (of i k)
        (Bounded.responds t.streams p t.rate m at until run above bounded.synced d (bounded.passes p d bound))
        (in_run i k) ((is_of i k).same_id ∙ u) d refl a.0 a.1 (let b = has.by_end i k in omega (arith, a.2)) in
        omega (arith, q, a.2)

    not_before : (j : ℕ) (l : j < length log) → (entry_at log j).id ≡ m.id → (of j l).event + least_bits m.bytes * ticks_of t.rate + 1 ≤ has.end j + ticks_of t.rate
    not_before j l u = Distance.not_before (ticks_of t.rate) t.streams until run (ticks_pos t.rate) with.legal (jitter_at t.streams t.rate) m in_set spread (of j l) (in_run j l) ((is_of j l).same_id ∙ u) (has.end j) (is_of j l).ended

  -- too soon
  pub not_soon : (p : ℕ) (lane : Lane) → IsLaneOf t p lane → (i j n : ℕ) → IsSoon lane log i j n → ⊥
  not_soon p lane o i j n soon =
      let k : i < length log = (let a = soon.ordered in let b = soon.within in omega arith) in
      let l = soon.within in
      let m = lane.stream in
      let far = events_apart p m o.there lane.bound o.bound i j n k l soon.ordered soon.first soon.second soon.counted in
      let first = by_bound p m o.there lane.bound o.bound i k soon.first in
      let second = not_before p m o.there lane.bound o.bound j l soon.second in
      let slow = has.not_slow i j soon.ordered l in
      let near = subst (λ c. IsNear (record { stream = lane.stream; tau = ticks_of t.rate; bound = lane.bound; clock = c }) (stamp log i) (stamp log j) n) o.same_clock
      (subst (λ t. IsNear (record { stream = lane.stream; tau = t; bound = lane.bound; clock = lane.clock }) (stamp log i) (stamp log j) n) o.tau soon.near) in
      omega (arith, near, slow, far, first, second)

  -- transfers that do not fit
  pub fit : (i n j : ℕ) → i + n ≡ j → j < length log → has.end i + least_of (ticks_of t.rate) log (suc j) ≤ has.end j + least_of (ticks_of t.rate) log (suc i)
  fit i zero j e l = let q : i ≡ j = omega arith in subst (λ j. has.end i + least_of (ticks_of t.rate) log (suc j) ≤ has.end j + least_of (ticks_of t.rate) log (suc i)) q (omega arith)
  fit i (suc n) j e l =
      let q : suc (i + n) ≡ j = omega arith in
      let r = fit i n (i + n) refl (omega arith) in
      subst (λ j. has.end i + least_of (ticks_of t.rate) log (suc j) ≤ has.end j + least_of (ticks_of t.rate) log (suc i)) q (
      let k : suc (i + n) < length log = omega arith in
      let k' : i + n < length log = omega arith in
      let gap = Distance.apart (ticks_of t.rate) t.streams until run (ticks_pos t.rate) with.legal (of (i + n) k') (of (suc (i + n)) k) (in_run (i + n) k') (in_run (suc (i + n)) k) (has.end (i + n)) (has.end (suc (i + n))) (is_of (i + n) k').ended (is_of (suc (i + n)) k).ended (has.in_order (i + n) (suc (i + n)) (omega arith) k) in
      let s = least-next (ticks_of t.rate) log (suc (i + n)) k in
      let short = Distance.long_enough (ticks_of t.rate) t.streams until run (ticks_pos t.rate) with.legal (of (suc (i + n)) k) (in_run (suc (i + n)) k) in
      let len = (is_of (suc (i + n)) k).same_bytes in
      let short' : least_bits (entry_at log (suc (i + n))).len * ticks_of t.rate ≤ (of (suc (i + n)) k).bits * ticks_of t.rate = subst (λ b. least_bits b * ticks_of t.rate ≤ (of (suc (i + n)) k).bits * ticks_of t.rate) len short in
      omega (arith, gap, s, short', r))

  pub convicts : (finding : Finding) → IsEvidence t log finding → ⊥
  convicts (Unknown i) h =
      let y = of i h.0 in
      let k = Distance.stream_of (ticks_of t.rate) t.streams until run (ticks_pos t.rate) with.legal y (in_run i h.0) in
      All-contains (λ k. k.id ≢ (entry_at log i).id) t.streams k.0 h.1 k.1 (k.2 ∙ (is_of i h.0).same_id)
  convicts (Length i) h =
      let k = h.1 in
      let o = Distance.owes (ticks_of t.rate) t.streams until run (ticks_pos t.rate) with.legal k.1 (k.0, k.2, k.3) (of i h.0) (in_run i h.0) ((is_of i h.0).same_id ∙ sym k.4.0) in
      k.4.1 (sym o.same_bytes ∙ (is_of i h.0).same_bytes)
  convicts (Soon i j n) h = not_soon h.0 h.1 h.2 i j n h.3
  convicts (Crowded i j) h =
      let w = h.1 in
      let f = fit i (j - i) j (let l = w.ordered in omega arith) w.within in
      let slow = has.not_slow i j w.ordered w.within in
      let sum = w.counted in
      let full = w.full in
      omega (arith, sum, full, f, slow)
  convicts (Fallen i j) h =
      let slow = has.not_slow i j h.ordered h.within in
      let order = has.in_order i j h.ordered h.within in
      let lower = h.lower in
      omega (arith, lower, order, slow)
