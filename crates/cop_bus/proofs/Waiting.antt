use Rattle.std.proofs.Common.{◌≡◌, ℕ, ◌+◌, ◌*◌, ◌≤◌, ◌<◌, inl, inr, List, subst, arith, Bool, true, cond}
use Rattle.std.specs.Prelude.{Contains, All, Option, filter, nat_lt, nat_le, ◌==◌, ◌&&◌}
use Rattle.std.specs.Option.{ForSome}
use Rattle.std.specs.Int.{div_ceil}
use Rattle.std.proofs.lemmas.Bool.{cases_lt}
use Rattle.std.proofs.lemmas.List.Elements.{All-contains}
use Rattle.cop_rta.specs.declared.streams.Stream.{Stream}
use Rattle.cop_frame.specs.declared.rates.Rate.{Rate}
use Rattle.cop_frame.specs.Rate.{ticks_of}
use Rattle.cop_rta.proofs.QueueLemmas.{ticks_pos}
use Rattle.cop_bus.specs.Run.{Instance, Waits, IsKnown, IsLegal, IsOnTime, is_unstarted, waits, waiting}
use Rattle.cop_bus.proofs.Totals.{total-sum_by, Pairs-from_AllPairs, Pairs-map, Each-from_Contains}
use Rattle.cop_bus.proofs.Counts.{number, number-window, div_ceil-above}
use Rattle.cop_bus.proofs.Work.{true-le, true-eq}
use Rattle.cop_bus.proofs.Demand.{and-left, and-right}
use Rattle.cop_bus.specs.Spread.{IsQueuedWithin, IsApart, IsSpread}
use Rattle.cop_bus.proofs.Test.{Meets}
use Rattle.cop_bus.proofs.Sound.{sound_by, takes-time}

-- the test says what `Waits` says
pub waits-tells : (x : ℕ) (y : Instance) → waits x y ≡ true → Waits y x
waits-tells x y e = (
  true-le y.queued x (and-left (nat_le y.queued x) (is_unstarted x y.start) e),
  λ s g. true-le x s (subst (λ o. is_unstarted x o ≡ true) g (and-right (nat_le y.queued x) (is_unstarted x y.start) e)),
)

module _ (J : Stream → ℕ) (rate : Rate) (streams : List Stream) (until : ℕ) (run : List Instance) (m : Stream) (legal : IsLegal (ticks_of rate) streams until run)
    (spread : All (λ k. k.id ≤ m.id → IsSpread J run k) streams) (in_set : Contains streams m) (due : Option ℕ)
    (meets : Meets J (ticks_of rate) (filter (λ k. nat_lt k.id m.id) streams) (filter (λ k. nat_lt m.id k.id) streams) m due) where
  pub waiting-bound : ForSome due (λ d. (x : ℕ) → x ≤ until → waiting m.id x run ≤ div_ceil d m.period)
  waiting-bound d e x ends =
      let s = total-sum_by (λ y. cond (p y) 1 0) run in
      let few : number p run ≤ div_ceil d m.period = elim (number-window m.period (x + d + 1) d p (x + 1) run
      (Each-from_Contains (λ y. p y ≡ true → (x + 1 ≤ y.event + d) × (y.event + d < x + d + 1)) run near)
      (Pairs-map (λ y z. y.id ≡ m.id → z.id ≡ m.id → IsApart m.period y z) (λ y z. p y ≡ true → p z ≡ true → y.event + m.period ≤ z.event) run apart
      (Pairs-from_AllPairs (λ y z. y.id ≡ m.id → z.id ≡ m.id → IsApart m.period y z) run own.in_order))) [
        | inl z ↦ omega arith
        | inr w ↦ div_ceil-above (number p run) d m.period (omega (arith, m.period_least)) (omega (arith, w))
      ] in
      omega (arith, s, few)
    where
      p : Instance → Bool
      p y = (y.id == m.id) && waits x y

      own : IsSpread J run m
      own = All-contains (λ k. k.id ≤ m.id → IsSpread J run k) streams m spread in_set (omega arith)

      its : (y : Instance) → p y ≡ true → y.id ≡ m.id
      its y e = true-eq y.id m.id (and-left (y.id == m.id) (waits x y) e)

      long : (y : Instance) → IsKnown streams y → 1 ≤ y.bits * ticks_of rate
      long y w = takes-time (ticks_of rate) streams y (ticks_pos rate) w

      near : (y : Instance) → Contains run y → p y ≡ true → (x + 1 ≤ y.event + d) × (y.event + d < x + d + 1)
      near y c t =
          let w = waits-tells x y (and-right (y.id == m.id) (waits x y) t) in
          let k = All-contains (IsKnown streams) run y legal.known c in
          let o = All-contains (λ y. y.id ≡ m.id → IsQueuedWithin (J m) y) run y own.in_time c (its y t) in
          let a = o.after_event in
          let f = All-contains (λ y. y.id ≡ m.id → IsOnTime (ticks_of rate) until due y) run y (sound_by J rate streams until run m legal spread in_set due meets) c (its y t) d e in
          elim (cases_lt until (y.event + d)) [
            | inl l ↦ (omega arith, omega (arith, w.0))
            | inr l ↦ (let g = f l in let h = w.1 g.0 g.1 in (omega (arith, g.2, long y k), omega (arith, w.0)))
          ]

      apart : (y z : Instance) → (y.id ≡ m.id → z.id ≡ m.id → IsApart m.period y z) → p y ≡ true → p z ≡ true → y.event + m.period ≤ z.event
      apart y z h e f = (h (its y e) (its z f)).period_apart
