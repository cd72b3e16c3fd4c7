-- How far apart two transfers end in a legal run, and two of a stream whose instances are spread.
use Rattle.std.proofs.Common.{◌≡◌, ◌∙◌, ℕ, ◌+◌, ◌*◌, ◌≤◌, ◌<◌, inl, inr, List, sym, subst, arith, Some}
use Rattle.std.specs.Prelude.{AllPairs, Contains}
use Rattle.std.specs.Option.{ForSome}
use Rattle.std.proofs.lemmas.List.Elements.{All-contains}
use Rattle.std.proofs.Math.Nat.{mul-le-mul_right}
use Rattle.std.proofs.lemmas.Bool.{cases_lt}
use Rattle.cop_rta.specs.declared.streams.Stream.{Stream}
use Rattle.cop_bus.specs.Run.{Instance, Runs, IsLegal, IsKnown, HasLengthOf, IsSentBefore, least_bits}
use Rattle.cop_bus.specs.Spread.{IsSpread, IsApart, IsQueuedWithin}
use Rattle.cop_bus.proofs.Totals.{Pairs-from_AllPairs, Pairs-of_two}
use Rattle.cop_bus.proofs.Sound.{takes-time}

-- its transfer ends at a moment
abbrev pub Ends : ℕ → Instance → ℕ → Type 0
Ends tau y e = (s : ℕ) × (y.start ≡ Some s) × (s + y.bits * tau ≡ e)

pub same_end : (tau : ℕ) (y z : Instance) (e f : ℕ) → y ≡ z → Ends tau y e → Ends tau z f → e ≡ f
same_end tau y z e f same a b =
    let g : Ends tau z e = subst (λ y. Ends tau y e) same a in
    let t : Some g.0 ≡ Some b.0 = sym g.1 ∙ b.1 in
    let q : g.0 ≡ b.0 = cc in
    omega (arith, q, g.2, b.2)

module _ (tau : ℕ) (streams : List Stream) (until : ℕ) (run : List Instance) (tick : 1 ≤ tau) (legal : IsLegal tau streams until run) where
  known : (y : Instance) → Contains run y → IsKnown streams y
  known y c = All-contains (IsKnown streams) run y legal.known c

  pub takes : (y : Instance) → Contains run y → 1 ≤ y.bits * tau
  takes y c = takes-time tau streams y tick (known y c)

  after_it : (y z : Instance) → Contains run y → Contains run z → (e f : ℕ) → Ends tau y e → Ends tau z f → e < f →
      ((x : ℕ) → Runs tau y x → Runs tau z x → ⊥) → e + z.bits * tau ≤ f
  after_it y z c d e f a b l apart = elim (cases_lt b.0 e) [
    | inr k ↦ (let q = b.2 in omega arith)
    | inl k ↦ elim (cases_lt b.0 a.0) [
      | inl h ↦ (let t = takes y c in absurd (apart a.0 (a.0, a.1, omega arith, omega arith) (b.0, b.1, omega arith, omega (arith, a.2, b.2))))
      | inr h ↦ (let t = takes z d in absurd (apart b.0 (a.0, a.1, h, omega (arith, a.2)) (b.0, b.1, omega arith, omega (arith, b.2))))
    ]
  ]

  -- of two transfers that which ends later has begun after the end of the other
  pub apart : (y z : Instance) → Contains run y → Contains run z → (e f : ℕ) → Ends tau y e → Ends tau z f → e < f → e + z.bits * tau ≤ f
  apart y z c d e f a b l = elim (Pairs-of_two (λ y z. (x : ℕ) → Runs tau y x → Runs tau z x → ⊥) run y z (Pairs-from_AllPairs (λ y z. (x : ℕ) → Runs tau y x → Runs tau z x → ⊥) run legal.one_at_a_time) c d) [
    | inl same ↦ (let q = same_end tau y z e f same a b in absurd (omega arith))
    | inr r ↦ elim r [
      | inl h ↦ after_it y z c d e f a b l h
      | inr h ↦ after_it y z c d e f a b l (λ x p q. h x q p)
    ]
  ]

  -- a transfer is as long as the shortest of its bytes
  pub long_enough : (y : Instance) → Contains run y → least_bits y.len * tau ≤ y.bits * tau
  long_enough y c =
      let k = (known y c).some_stream in
      let o : HasLengthOf k.1 y = All-contains (λ k. k.id ≡ y.id → HasLengthOf k y) streams k.1 (known y c).length (k.0, k.2, k.3) k.4 in
      let h : least_bits y.len ≤ y.bits = subst (λ b. least_bits b ≤ y.bits) (sym o.same_bytes) o.not_shorter in
      mul-le-mul_right tau h

  -- its stream
  pub stream_of : (y : Instance) → Contains run y → (k : Stream) × Contains streams k × (k.id ≡ y.id)
  stream_of y c = let k = (known y c).some_stream in (k.1, (k.0, k.2, k.3), k.4)

  -- what an instance owes to its stream
  pub owes : (m : Stream) → Contains streams m → (y : Instance) → Contains run y → y.id ≡ m.id → HasLengthOf m y
  owes m in_set y c u = All-contains (λ k. k.id ≡ y.id → HasLengthOf k y) streams m (known y c).length in_set (sym u)

  module _ (J : Stream → ℕ) (m : Stream) (in_set : Contains streams m) (spread : IsSpread J run m) where
    abbrev Both : Instance → Instance → Type 0
    Both y z = (y.id ≡ z.id → IsSentBefore y z) × (y.id ≡ m.id → z.id ≡ m.id → IsApart m.period y z)

    both : AllPairs Both run
    both = λ i j d l h. (legal.in_order i j d l h, spread.in_order i j d l h)

    -- of two instances of a stream that which ends later has the later event, by a period at least
    pub period_later : (y z : Instance) → Contains run y → Contains run z → y.id ≡ m.id → z.id ≡ m.id → (e f : ℕ) → Ends tau y e → Ends tau z f → e < f →
        y.event + m.period ≤ z.event
    period_later y z c d u v e f a b l = elim (Pairs-of_two Both run y z (Pairs-from_AllPairs Both run both) c d) [
      | inl same ↦ (let q = same_end tau y z e f same a b in absurd (omega arith))
      | inr r ↦ elim r [
        | inl h ↦ (h.1 u v).period_apart
        | inr h ↦ (let s = h.0 (v ∙ sym u) a.0 a.1 in
            let t : Some s.0 ≡ Some b.0 = sym s.1 ∙ b.1 in
            let q : s.0 ≡ b.0 = cc in
            let g = apart y z c d e f a b l in
            let p = takes y c in
            absurd (omega (arith, q, g, p, a.2, b.2, s.2)))
      ]
    ]

    -- an instance ends as long after its event as the shortest transfer takes, less a bit time
    pub not_before : (y : Instance) → Contains run y → y.id ≡ m.id → (e : ℕ) → Ends tau y e → y.event + least_bits m.bytes * tau + 1 ≤ e + tau
    not_before y c u e a =
        let o = owes m in_set y c u in
        let j = All-contains (λ y. ForSome y.start (λ s. y.queued < s + tau)) run y legal.joined c a.0 a.1 in
        let early = (All-contains (λ y. y.id ≡ m.id → IsQueuedWithin (J m) y) run y spread.in_time c u).after_event in
        let short : least_bits m.bytes * tau ≤ y.bits * tau = mul-le-mul_right tau o.not_shorter in
        omega (arith, j, early, short, a.2)
