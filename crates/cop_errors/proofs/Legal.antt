-- A run with disturbances is a legal run of one more stream.
use Rattle.std.proofs.Common.{◌≡◌, ◌≢◌, ℕ, ◌+◌, ◌*◌, ◌≤◌, ◌<◌, ◌⊎◌, inl, inr, List, [], ◌∷◌, map, refl, sym, ap, arith, Some, length, get_or, zero-le}
use Rattle.std.specs.Prelude.{Contains, Any, All, AllPairs}
use Rattle.std.specs.Option.{ForSome}
use Rattle.std.specs.List.{AllByRecursion as Each}
use Rattle.std.proofs.Math.Nat.{mul-le-mul}
use Rattle.std.proofs.lemmas.List.Elements.{recursion_from_All, All-from_recursion, All-contains}
use Rattle.cop_frame.specs.Lengths.{least_bits, worst_bits}
use Rattle.cop_rta.specs.declared.streams.Stream.{Stream}
use Rattle.cop_bus.specs.Run.{Instance, Runs, Waits, HasLengthOf, IsKnown, IsSentBefore, IsLegal}
use Rattle.cop_bus.proofs.Totals.{Pairs, Pairs-from_AllPairs, AllPairs-from_Pairs, Pairs-map, Each-from_Contains, Contains-head}
use Rattle.cop_bus.proofs.Sound.{takes-time}
use Rattle.cop_bus.proofs.Synced.{at_index}
use Rattle.cop_rta.specs.declared.errors.Errors.{Errors}
use Rattle.cop_errors.specs.Errors.{Disturbance, HitRuns, IsDisturbed}
use Rattle.cop_rta.specs.UpLemmas.{up_id}
use Rattle.cop_rta.specs.Errors.{HasNoOne, up, errors_stream, tested}
use Rattle.cop_errors.specs.Extended.{up_instance, hit_instance, hit_instances, extended}
use Rattle.cop_errors.proofs.Lists.{Each-mapped, Each-append, Pairs-mapped, Pairs-append, any_of, of_any, Contains-left, Contains-right, Contains-mapped}
use Rattle.cop_rta.proofs.TestedLemmas.{up_id-injective}
use Rattle.cop_rta.proofs.BusLemmas.{up_id-mono}
use Rattle.cop_errors.proofs.Up.{up_id-not_zero, known_not_one, Each-hits, Pairs-hits, hit_in}

-- a disturbed transfer has a length of the errors' stream
pub hit_length : (e : Errors) (h : Disturbance) (event : ℕ) → (1 ≤ h.bits) × (h.bits ≤ 166) → HasLengthOf (errors_stream e) (hit_instance h event)
unfolding least_bits worst_bits
hit_length e h event b = record { not_shorter = b.0; not_longer = b.1; same_bytes = refl }

module _ (tau : ℕ) (e : Errors) (streams : List Stream) (until : ℕ) (run : List Instance) (hits : List Disturbance) (events : List ℕ)
    (tick : 1 ≤ tau) (free : HasNoOne streams) (disturbed : IsDisturbed tau streams until run hits) where
  abbrev set : List Stream
  set = tested (Some e) streams

  abbrev more : List Instance
  more = extended run hits events

  known_each : Each (IsKnown streams) run
  known_each = recursion_from_All (IsKnown streams) run disturbed.known

  known_at : (y : Instance) → Contains run y → IsKnown streams y
  known_at y c = All-contains (IsKnown streams) run y disturbed.known c

  bits_at : (h : Disturbance) → Contains hits h → (1 ≤ h.bits) × (h.bits ≤ 166)
  bits_at h c = All-contains (λ h. (1 ≤ h.bits) × (h.bits ≤ 166)) hits h disturbed.bits c

  not_one : (k : Stream) → Contains streams k → k.id ≢ 1
  not_one k c = All-contains (λ k. k.id ≢ 1) streams k free c

  -- a disturbance runs at its start
  hit_takes : (h : Disturbance) → Contains hits h → 1 ≤ h.bits * tau
  hit_takes h c =
      let b = (bits_at h c).0 in
      let p : 1 * 1 ≤ h.bits * tau = mul-le-mul b tick in
      omega (arith, p)

  -- a fact of each instance
  each_more : (P : Instance → Type 0) → ((y : Instance) → Contains run y → P (up_instance y)) → ((h : Disturbance) → Contains hits h → (event : ℕ) → P (hit_instance h event)) → All P more
  each_more P f g = All-from_recursion P more
      (Each-append P (map up_instance run) (hit_instances hits events)
      (Each-mapped up_instance P run (Each-from_Contains (λ y. P (up_instance y)) run f))
      (Each-hits P hits events (Each-from_Contains (λ h. (event : ℕ) → P (hit_instance h event)) hits g)))

  -- a fact of each stream of the tested set
  each_stream : (P : Stream → Type 0) → ((k : Stream) → Contains streams k → P (up k)) → P (errors_stream e) → All P set
  each_stream P f g = All-from_recursion P set
      (Each-append P (map up streams) (errors_stream e ∷ [])
      (Each-mapped up P streams (Each-from_Contains (λ k. P (up k)) streams f)) (g, tt))

  -- and of each two instances
  pairs_more : (R : Instance → Instance → Type 0) → Pairs (λ y z. R (up_instance y) (up_instance z)) run → Pairs (λ g h. (a b : ℕ) → R (hit_instance g a) (hit_instance h b)) hits →
      ((y : Instance) → Contains run y → (h : Disturbance) → Contains hits h → (a : ℕ) → R (up_instance y) (hit_instance h a)) → AllPairs R more
  pairs_more R f g a = AllPairs-from_Pairs R more
      (Pairs-append R (map up_instance run) (hit_instances hits events)
      (Pairs-mapped up_instance R run f) (Pairs-hits R hits events g)
      (Each-mapped up_instance (λ y. Each (R y) (hit_instances hits events)) run (Each-from_Contains (λ y. Each (R (up_instance y)) (hit_instances hits events)) run
      (λ y c. Each-hits (R (up_instance y)) hits events (Each-from_Contains (λ h. (a : ℕ) → R (up_instance y) (hit_instance h a)) hits (λ h d. a y c h d))))))

  -- some instance
  any_run : (P : Instance → Type 0) → Any (λ y. P (up_instance y)) run → Any P more
  any_run P a = let w = of_any (λ y. P (up_instance y)) run a in
      any_of P more (up_instance w.0) (Contains-left (map up_instance run) (hit_instances hits events) (up_instance w.0) (Contains-mapped up_instance run w.0 w.1)) w.2

  any_hit : (P : Instance → Type 0) (h : Disturbance) → Contains hits h → ((a : ℕ) → P (hit_instance h a)) → Any P more
  any_hit P h c f = let w = hit_in hits events h c in
      any_of P more (hit_instance h w.0) (Contains-right (map up_instance run) (hit_instances hits events) (hit_instance h w.0) w.1) (f w.0)

  known_more : All (IsKnown set) more
  known_more = each_more (IsKnown set) of_run of_hit
    where
      of_run : (y : Instance) → Contains run y → IsKnown set (up_instance y)
      of_run y c =
          let w = known_at y c in
          let j = w.some_stream in
          let own = known_not_one streams y free w in
          record {
            some_stream = any_of (λ k. k.id ≡ up_id y.id) set (up j.1) (Contains-left (map up streams) (errors_stream e ∷ []) (up j.1) (Contains-mapped up streams j.1 (j.0, j.2, j.3))) (ap up_id j.4);
            length = each_stream (λ k. k.id ≡ up_id y.id → HasLengthOf k (up_instance y))
                (λ k d same. let l : HasLengthOf k y = All-contains (λ k. k.id ≡ y.id → HasLengthOf k y) streams k w.length d (up_id-injective k.id y.id (not_one k d) own same) in
                record { not_shorter = l.not_shorter; not_longer = l.not_longer; same_bytes = l.same_bytes })
                (λ same. absurd (up_id-not_zero y.id (sym same)));
          }

      of_hit : (h : Disturbance) → Contains hits h → (event : ℕ) → IsKnown set (hit_instance h event)
      of_hit h c event = record {
        some_stream = any_of (λ k. k.id ≡ 0) set (errors_stream e) (Contains-right (map up streams) (errors_stream e ∷ []) (errors_stream e) (Contains-head (errors_stream e) [])) refl;
        length = each_stream (λ k. k.id ≡ 0 → HasLengthOf k (hit_instance h event))
            (λ k d same. absurd (up_id-not_zero k.id same))
            (λ same. hit_length e h event (bits_at h c));
      }

  order_more : AllPairs (λ y z. y.id ≡ z.id → IsSentBefore y z) more
  order_more = pairs_more (λ y z. y.id ≡ z.id → IsSentBefore y z)
      (Pairs-from_AllPairs (λ y z. up_id y.id ≡ up_id z.id → IsSentBefore (up_instance y) (up_instance z)) run
      (λ i j d l h same. disturbed.in_order i j d l h (up_id-injective _ _ (own i d (omega (arith, l, h))) (own j d h) same)))
      (Pairs-map (λ g h. g.start < h.start) (λ g h. (a b : ℕ) → (hit_instance g a).id ≡ (hit_instance h b).id → IsSentBefore (hit_instance g a) (hit_instance h b)) hits
      (λ g h l a b same t is. (g.start, refl, (let s : h.start ≡ t = cc in omega (arith, l, s))))
      (Pairs-from_AllPairs (λ g h. g.start < h.start) hits disturbed.rising))
      (λ y c h d a same. absurd (up_id-not_zero y.id same))
    where
      own : (i : ℕ) (d : Instance) → i < length run → (get_or run i d).id ≢ 1
      own i d l = known_not_one streams (get_or run i d) free (known_at (get_or run i d) (at_index run i d l))

  one_more : AllPairs (λ y z. (x : ℕ) → Runs tau y x → Runs tau z x → ⊥) more
  one_more = pairs_more (λ y z. (x : ℕ) → Runs tau y x → Runs tau z x → ⊥)
      (Pairs-map (λ y z. (x : ℕ) → Runs tau y x → Runs tau z x → ⊥) (λ y z. (x : ℕ) → Runs tau (up_instance y) x → Runs tau (up_instance z) x → ⊥) run (λ y z f. f)
      (Pairs-from_AllPairs (λ y z. (x : ℕ) → Runs tau y x → Runs tau z x → ⊥) run disturbed.one_at_a_time))
      (Pairs-map (λ g h. (x : ℕ) → HitRuns tau g x → HitRuns tau h x → ⊥) (λ g h. (a b : ℕ) → (x : ℕ) → Runs tau (hit_instance g a) x → Runs tau (hit_instance h b) x → ⊥) hits
      (λ g h f a b x p q. f x (hit_runs g a x p) (hit_runs h b x q))
      (Pairs-from_AllPairs (λ g h. (x : ℕ) → HitRuns tau g x → HitRuns tau h x → ⊥) hits disturbed.one_hit))
      (λ y c h d a x p q. All-contains (λ h. (x : ℕ) → Runs tau y x → HitRuns tau h x → ⊥) hits h (All-contains (λ y. All (λ h. (x : ℕ) → Runs tau y x → HitRuns tau h x → ⊥) hits) run y disturbed.apart c) d x p (hit_runs h a x q))
    where
      hit_runs : (h : Disturbance) (a x : ℕ) → Runs tau (hit_instance h a) x → HitRuns tau h x
      hit_runs h a x r = let s : h.start ≡ r.0 = (let t = r.1 in cc) in (omega (arith, s, r.2), omega (arith, s, r.3))

  asked_more : All (λ y. ForSome y.start (λ s. Any (λ z. Waits z s) more)) more
  asked_more = each_more (λ y. ForSome y.start (λ s. Any (λ z. Waits z s) more))
      (λ y c s is. any_run (λ z. Waits z s) (All-contains (λ y. ForSome y.start (λ s. Any (λ z. Waits z s) run)) run y disturbed.asked_for c s is))
      (λ h c event s is. any_hit (λ z. Waits z s) h c (λ a. own_wait h s a is))
    where
      own_wait : (h : Disturbance) (s a : ℕ) → Some h.start ≡ Some s → Waits (hit_instance h a) s
      own_wait h s a is = let same : h.start ≡ s = cc in (omega (arith, same), λ t e. (let other : h.start ≡ t = cc in omega (arith, same, other)))

  joined_more : All (λ y. ForSome y.start (λ s. y.queued < s + tau)) more
  joined_more = each_more (λ y. ForSome y.start (λ s. y.queued < s + tau))
      (λ y c. All-contains (λ y. ForSome y.start (λ s. y.queued < s + tau)) run y disturbed.joined c)
      (λ h c event s is. (let same : h.start ≡ s = cc in omega (arith, same, tick)))

  -- where a transfer starts no disturbance waits: both would run
  none_waits : (y : Instance) → Contains run y → (s : ℕ) → y.start ≡ Some s → (h : Disturbance) → Contains hits h → (a : ℕ) → Waits (hit_instance h a) s → ⊥
  none_waits y c s is h d a w =
      let late : s ≤ h.start = w.1 h.start refl in
      let early = w.0 in
      let long = takes-time tau streams y tick (known_at y c) in
      let long' = hit_takes h d in
      All-contains (λ h. (x : ℕ) → Runs tau y x → HitRuns tau h x → ⊥) hits h (All-contains (λ y. All (λ h. (x : ℕ) → Runs tau y x → HitRuns tau h x → ⊥) hits) run y disturbed.apart c) d s
      (s, is, omega arith, omega (arith, long)) (omega (arith, early), omega (arith, late, long'))

  priority_more : All (λ y. ForSome y.start (λ s. All (λ z. Waits z s → y.id ≤ z.id) more)) more
  priority_more = each_more (λ y. ForSome y.start (λ s. All (λ z. Waits z s → y.id ≤ z.id) more))
      (λ y c s is. each_more (λ z. Waits z s → up_id y.id ≤ z.id)
      (λ z d w. up_id-mono y.id z.id (All-contains (λ z. Waits z s → y.id ≤ z.id) run z (All-contains (λ y. ForSome y.start (λ s. All (λ z. Waits z s → y.id ≤ z.id) run)) run y disturbed.by_priority c s is) d w))
      (λ h d a w. absurd (none_waits y c s is h d a w)))
      (λ h c event s is. each_more (λ z. Waits z s → 0 ≤ z.id) (λ z d w. zero-le) (λ g d a w. zero-le))

  idle_more : (x : ℕ) → x < until → All (λ z. Waits z x → Any (λ y. Runs tau y x) more) more
  idle_more x l = each_more (λ z. Waits z x → Any (λ y. Runs tau y x) more)
      (λ z c w. elim (All-contains (λ z. Waits z x → Any (λ y. Runs tau y x) run ⊎ Any (λ h. HitRuns tau h x) hits) run z (disturbed.never_idle x l) c w) [
        | inl a ↦ any_run (λ y. Runs tau y x) a
        | inr a ↦ (let v = of_any (λ h. HitRuns tau h x) hits a in any_hit (λ y. Runs tau y x) v.0 v.1 (λ a. (v.0.start, refl, v.2.0, v.2.1)))
      ])
      (λ h c event w. (let late : x ≤ h.start = w.1 h.start refl in let early = w.0 in let long = hit_takes h c in
      any_hit (λ y. Runs tau y x) h c (λ a. (h.start, refl, omega (arith, early), omega (arith, late, long)))))

  pub legal_more : IsLegal tau (tested (Some e) streams) until (extended run hits events)
  legal_more = record {
    known = known_more;
    in_order = order_more;
    one_at_a_time = one_more;
    asked_for = asked_more;
    joined = joined_more;
    by_priority = priority_more;
    never_idle = idle_more;
  }
