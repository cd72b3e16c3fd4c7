use Rattle.std.proofs.Common.{◌≡◌, ℕ, ◌+◌, ◌*◌, ◌≤◌, ◌<◌, ◌⊎◌, inl, inr, List, [], ◌∷◌, ◌++◌, refl, sym, ◌∙◌, ap, subst, append_assoc, arith, suc, Bool, true, cond}
use Rattle.std.specs.Prelude.{Contains, Any, All, filter, nat_lt, nat_le, ◌==◌, ◌&&◌, Option, Some, slice_get}
use Rattle.std.specs.Option.{ForSome}
use Rattle.std.specs.List.{AllByRecursion as Each}
use Rattle.std.proofs.Math.Nat.{mul-le-mul}
use Rattle.std.proofs.lemmas.Bool.{cases_lt}
use Rattle.std.proofs.lemmas.List.Elements.{recursion_from_All, All-from_recursion, All-contains, Contains-append_right}
use Rattle.std.proofs.lemmas.Option.{slice_get_within, get_or_from_slice_get}
use Rattle.cop_frame.specs.declared.rates.Rate.{Rate}
use Rattle.cop_frame.specs.Rate.{ticks_of}
use Rattle.cop_frame.proofs.LengthLemmas.{least_bits-least}
use Rattle.cop_rta.proofs.QueueLemmas.{ticks_pos}
use Rattle.cop_rta.specs.declared.streams.Stream.{Stream}
use Rattle.cop_bus.proofs.Test.{longest, load, blocking, busy_value, queue_value, Meets}
use Rattle.cop_bus.specs.Run.{Instance, Runs, Waits, IsKnown, HasLengthOf, IsSentBefore, IsLegal, IsOnTime}
use Rattle.cop_bus.specs.Spread.{IsQueuedWithin, IsApart, IsSpread}
use Rattle.cop_bus.proofs.Totals.{total, total-le, total-add, total-append, total-more, total-split, Pairs, Pairs-from_AllPairs, Pairs-map, Pairs-of_two, Pairs-across, Pairs-append_left, Pairs-append_right, Each-map, Each-map2, Each-from_Contains, Each-append_left, Each-append_right, Contains-head}
use Rattle.cop_bus.proofs.Counts.{number, among, among-le, number-before}
use Rattle.cop_bus.proofs.Work.{done, asked, upper, covered, low-block, last_within, pending, start_cases, done-unstarted, asked-not, true-le, true-eq, eq-true, le-true, done-le, upper-is, upper-not}
use Rattle.cop_bus.proofs.Demand.{above_in, of_in, above-load, stream-load, lower-short, upper-point, asked-point, not-longer, and-left, and-right, and-true}

-- a transfer takes time
pub takes-time : (tau : ℕ) (streams : List Stream) (y : Instance) → 1 ≤ tau → IsKnown streams y → 1 ≤ y.bits * tau
takes-time tau streams y tick w =
    let j = w.some_stream in
    let i : HasLengthOf j.1 y = All-contains (λ j. j.id ≡ y.id → HasLengthOf j y) streams j.1 w.length (j.0, j.2, j.3) j.4 in
    let a = i.not_shorter in
    let b : 1 ≤ y.bits = omega (arith, a, least_bits-least j.1.bytes) in
    let c : 1 * 1 ≤ y.bits * tau = mul-le-mul b tick in
    omega arith

-- One instance x of the stream m of a legal run, with those before and after it.
module _ (J : Stream → ℕ) (tau until : ℕ) (streams : List Stream) (pre : List Instance) (x : Instance) (post : List Instance) (m : Stream)
    (tick : 1 ≤ tau) (periods : All (λ k. 1 ≤ k.period) streams) (legal : IsLegal tau streams until (pre ++ (x ∷ post)))
    (obeying : All (λ k. k.id ≤ m.id → IsSpread J (pre ++ (x ∷ post)) k) streams) (in_set : Contains streams m) (its : x.id ≡ m.id) where
  abbrev pub run : List Instance
  run = pre ++ (x ∷ post)

  pub x_in : Contains run x
  x_in = Contains-append_right pre (x ∷ post) x (Contains-head x post)

  pub apart : Pairs (λ y z. (u : ℕ) → Runs tau y u → Runs tau z u → ⊥) run
  apart = Pairs-from_AllPairs (λ y z. (u : ℕ) → Runs tau y u → Runs tau z u → ⊥) run legal.one_at_a_time

  pub sent_order : Pairs (λ y z. y.id ≡ z.id → IsSentBefore y z) run
  sent_order = Pairs-from_AllPairs (λ y z. y.id ≡ z.id → IsSentBefore y z) run legal.in_order

  pub own_obeys : IsSpread J run m
  own_obeys = All-contains (λ k. k.id ≤ m.id → IsSpread J run k) streams m obeying in_set (omega arith)

  pub in_time_each : Each (λ y. y.id ≡ m.id → IsQueuedWithin (J m) y) run
  in_time_each = recursion_from_All (λ y. y.id ≡ m.id → IsQueuedWithin (J m) y) run own_obeys.in_time

  pub x_in_time : IsQueuedWithin (J m) x
  x_in_time = All-contains (λ y. y.id ≡ m.id → IsQueuedWithin (J m) y) run x own_obeys.in_time x_in its

  pub order : Pairs (λ y z. y.id ≡ m.id → z.id ≡ m.id → IsApart m.period y z) run
  order = Pairs-from_AllPairs (λ y z. y.id ≡ m.id → z.id ≡ m.id → IsApart m.period y z) run own_obeys.in_order

  pub known : Each (IsKnown streams) run
  known = recursion_from_All (IsKnown streams) run legal.known

  pub known_at : (y : Instance) → Contains run y → IsKnown streams y
  known_at y c = All-contains (IsKnown streams) run y legal.known c

  -- the length of an instance of the stream m
  pub of_m : (y : Instance) → IsKnown streams y → y.id ≡ m.id → HasLengthOf m y
  of_m y w e = All-contains (λ j. j.id ≡ y.id → HasLengthOf j y) streams m w.length in_set (sym e)

  -- a transfer takes time
  pub takes : (y : Instance) → IsKnown streams y → 1 ≤ y.bits * tau
  takes y w = takes-time tau streams y tick w

  abbrev pub asked_by : ℕ → ℕ
  asked_by t = total (upper m.id (asked tau t)) run

  abbrev pub done_by : ℕ → ℕ
  done_by t = total (upper m.id (done tau t)) run

  -- x is not queued yet, or waits
  abbrev pub Active : ℕ → Type 0
  Active u = (u < x.queued) ⊎ Waits x u

  -- a moment from which on, until x is queued, more is asked for than done
  abbrev pub Behind : ℕ → Type 0
  Behind lo = (u : ℕ) → lo < u → u ≤ x.queued → done_by u < asked_by u

  -- some instance of m or above waits or is being sent
  abbrev pub AtWork : ℕ → Type 0
  AtWork u = (y : Instance) × Contains run y × (y.id ≤ m.id) × (Waits y u ⊎ Runs tau y u)

  -- a moment from which on, until x is queued, that is so
  abbrev pub Busy : ℕ → Type 0
  Busy lo = (u : ℕ) → lo ≤ u → u < x.queued → AtWork u

  pub busy_behind : (lo : ℕ) → Behind lo → Busy lo
  busy_behind lo behind u h k =
      let w = total-more (upper m.id (asked tau (suc u))) (upper m.id (done tau (suc u))) run (behind (suc u) (omega arith) k) in
      let p = pending tau m.id u w.0 w.2 in
      (w.0, w.1, p.0, p.1)

  pub at_work : (lo : ℕ) → Busy lo → (u : ℕ) → lo ≤ u → Active u → AtWork u
  at_work lo busy u h (inl k) = busy u h k
  at_work lo busy u h (inr k) = (x, x_in, omega arith, inl k)

  -- LAW 1: transfers follow without a gap
  pub no_gap : (lo : ℕ) → Busy lo → (u : ℕ) → lo ≤ u → u < until → Active u → Any (λ y. Runs tau y u) run
  no_gap lo behind u h k a =
      let w = at_work lo behind u h a in
      elim w.3 [
        | inl q ↦ All-contains (λ z. Waits z u → Any (λ y. Runs tau y u) run) run w.0 (legal.never_idle u k) w.1 q
        | inr r ↦ (w.1.0, w.0, w.1.1, w.1.2, r)
      ]

  -- LAW 2: none of a lower stream starts there
  pub none_lower : (lo : ℕ) → Busy lo → (y : Instance) → Contains run y → m.id < y.id → (s : ℕ) → y.start ≡ Some s → lo ≤ s → Active s → ⊥
  none_lower lo behind y c low s e h a =
      let w = at_work lo behind s h a in
      let own : Runs tau y s = (s, e, omega arith, (let t = takes y (known_at y c) in omega arith)) in
      elim w.3 [
        | inl q ↦ (let r = All-contains (λ z. Waits z s → y.id ≤ z.id) run w.0 (All-contains (λ y. ForSome y.start (λ s. All (λ z. Waits z s → y.id ≤ z.id) run)) run y legal.by_priority c s e) w.1 q in let l = w.2 in absurd (omega arith))
        | inr r ↦ (let l = w.2 in elim (Pairs-of_two (λ y z. (u : ℕ) → Runs tau y u → Runs tau z u → ⊥) run y w.0 apart c w.1) [
          | inl same ↦ (let i : y.id ≡ (w.0).id = ap (λ y. y.id) same in absurd (omega arith))
          | inr (inl d) ↦ d s own r
          | inr (inr d) ↦ d s r own
        ])
      ]

  abbrev pub below : List Stream
  below = filter (λ k. nat_lt m.id k.id) streams

  abbrev pub above : List Stream
  above = filter (λ k. nat_lt k.id m.id) streams

  -- what is done in a window in which x is active, but for one lower transfer, is done for m or above
  pub worked : (lo n : ℕ) → Busy lo → asked_by lo ≤ done_by lo → ((u : ℕ) → lo ≤ u → u < lo + n → (u < until) × Active u) →
      asked_by lo + n ≤ done_by (lo + n) + blocking tau below
  worked lo n behind quiet act =
      let c = covered tau lo n run (λ u a b. let w = act u a b in no_gap lo behind u a w.0 w.1) in
      let s = total-split (λ y. nat_le y.id m.id) (done tau lo) run in
      let t = total-split (λ y. nat_le y.id m.id) (done tau (lo + n)) run in
      let l = low-block tau m.id (blocking tau below) lo n run
      (Each-map (IsKnown streams) (λ y. m.id < y.id → y.bits * tau ≤ blocking tau below) run (λ y w h. lower-short tau m.id streams y w h) known)
      (Each-from_Contains (λ y. m.id < y.id → ForSome y.start (λ s. lo ≤ s → lo + n ≤ s)) run
      (λ y c h s e k. elim (cases_lt s (lo + n)) [ inr g ↦ g | inl g ↦ absurd (none_lower lo behind y c h s e k (act s k g).1) ]))
      apart in
      omega (arith, c, s, t, l, quiet)

  pub joined_at : Each (λ y. ForSome y.start (λ s. y.queued < s + tau)) run
  joined_at = recursion_from_All (λ y. ForSome y.start (λ s. y.queued < s + tau)) run legal.joined

  -- of m, and queued at lo or later
  abbrev pub late : ℕ → Instance → Bool
  late lo y = (y.id == m.id) && nat_le lo y.queued

  pub late-is : (lo : ℕ) (y : Instance) → late lo y ≡ true → (y.id ≡ m.id) × (lo ≤ y.queued)
  late-is lo y e = (true-eq y.id m.id (and-left (y.id == m.id) (nat_le lo y.queued) e), true-le lo y.queued (and-right (y.id == m.id) (nat_le lo y.queued) e))

  pub known_pre : Each (IsKnown streams) pre
  known_pre = Each-append_left (IsKnown streams) pre (x ∷ post) known

  -- as many periods as instances of m there before x lie between that moment and the event of x
  pub own_events : (lo : ℕ) → lo ≤ x.queued → lo + number (late lo) pre * m.period ≤ x.event + J m
  own_events lo h =
      let a = x_in_time.within_jitter in
      number-before m.period (J m) x.event (late lo) lo pre (omega arith)
      (Each-map2 (λ y. y.id ≡ m.id → IsQueuedWithin (J m) y) (λ y. y.id ≡ m.id → x.id ≡ m.id → IsApart m.period y x) (λ y. late lo y ≡ true → (lo ≤ y.event + J m) × (y.event + m.period ≤ x.event)) pre one
      (Each-append_left (λ y. y.id ≡ m.id → IsQueuedWithin (J m) y) pre (x ∷ post) in_time_each)
      (Pairs-across (λ y z. y.id ≡ m.id → z.id ≡ m.id → IsApart m.period y z) pre (x ∷ post) x (Contains-head x post) order))
      (Pairs-map (λ y z. y.id ≡ m.id → z.id ≡ m.id → IsApart m.period y z) (λ y z. late lo y ≡ true → late lo z ≡ true → y.event + m.period ≤ z.event) pre two
      (Pairs-append_left (λ y z. y.id ≡ m.id → z.id ≡ m.id → IsApart m.period y z) pre (x ∷ post) order))
    where
      one : (y : Instance) → (y.id ≡ m.id → IsQueuedWithin (J m) y) → (y.id ≡ m.id → x.id ≡ m.id → IsApart m.period y x) → late lo y ≡ true → (lo ≤ y.event + J m) × (y.event + m.period ≤ x.event)
      one y w f e =
          let l = late-is lo y e in
          let b = (w l.0).within_jitter in
          (omega (arith, l.1), (f l.0 its).period_apart)

      two : (y z : Instance) → (y.id ≡ m.id → z.id ≡ m.id → IsApart m.period y z) → late lo y ≡ true → late lo z ≡ true → y.event + m.period ≤ z.event
      two y z f e g = (f (late-is lo y e).0 (late-is lo z g).0).period_apart

  -- and they take no longer than as many of the longest
  pub own_work : (lo : ℕ) → among (late lo) (λ y. y.bits * tau) pre ≤ number (late lo) pre * longest tau m
  own_work lo = among-le (late lo) (λ y. y.bits * tau) (longest tau m) pre
      (Each-map (IsKnown streams) (λ y. late lo y ≡ true → y.bits * tau ≤ longest tau m) pre (λ y w e. not-longer tau m y (of_m y w (late-is lo y e).0)) known_pre)

  -- LAW 3, in the queue: what is done up to a moment before x starts
  pub in_queue : (lo w : ℕ) → ForSome x.start (λ s. lo + suc w ≤ s) →
      done_by (lo + suc w) ≤ asked_by lo + (total (load J tau (w + tau)) above + number (late lo) pre * longest tau m)
  in_queue lo w unsent =
      let front : total (upper m.id (done tau (lo + suc w))) pre ≤ total (λ y. upper m.id (asked tau lo) y + (hp y + cond (late lo y) (y.bits * tau) 0)) pre =
      total-le (upper m.id (done tau (lo + suc w))) (λ y. upper m.id (asked tau lo) y + (hp y + cond (late lo y) (y.bits * tau) 0)) pre
      (Each-map (λ y. ForSome y.start (λ s. y.queued < s + tau)) (λ y. upper m.id (done tau (lo + suc w)) y ≤ upper m.id (asked tau lo) y + (hp y + cond (late lo y) (y.bits * tau) 0)) pre
      (λ y j. upper-point tau m.id lo (w + tau) (suc w) (cond (late lo y) (y.bits * tau) 0) y j (omega arith) (mine y))
      (Each-append_left (λ y. ForSome y.start (λ s. y.queued < s + tau)) pre (x ∷ post) joined_at)) in
      let back : total (upper m.id (done tau (lo + suc w))) (x ∷ post) ≤ total (λ y. upper m.id (asked tau lo) y + hp y) (x ∷ post) =
      total-le (upper m.id (done tau (lo + suc w))) (λ y. upper m.id (asked tau lo) y + hp y) (x ∷ post)
      (Each-map2 (λ y. ForSome y.start (λ s. y.queued < s + tau)) (λ y. y.id ≡ m.id → ForSome y.start (λ s. lo + suc w ≤ s)) (λ y. upper m.id (done tau (lo + suc w)) y ≤ upper m.id (asked tau lo) y + hp y) (x ∷ post)
      (λ y j g. let p = upper-point tau m.id lo (w + tau) (suc w) 0 y j (omega arith) (λ i q. let z = done-unstarted tau (lo + suc w) y (g i) in omega arith) in omega arith)
      (Each-append_right (λ y. ForSome y.start (λ s. y.queued < s + tau)) pre (x ∷ post) joined_at) (
        unsent_too,
        Each-map (λ y. x.id ≡ y.id → IsSentBefore x y) (λ y. y.id ≡ m.id → ForSome y.start (λ s. lo + suc w ≤ s)) post later
            (Pairs-append_right (λ y z. y.id ≡ z.id → IsSentBefore y z) pre (x ∷ post) sent_order).0,
      )) in
      let a1 = total-add (upper m.id (asked tau lo)) (λ y. hp y + cond (late lo y) (y.bits * tau) 0) pre in
      let a2 = total-add hp (λ y. cond (late lo y) (y.bits * tau) 0) pre in
      let a3 = total-add (upper m.id (asked tau lo)) hp (x ∷ post) in
      let s1 = total-append (upper m.id (done tau (lo + suc w))) pre (x ∷ post) in
      let s2 = total-append (upper m.id (asked tau lo)) pre (x ∷ post) in
      let s3 = total-append hp pre (x ∷ post) in
      let l = above-load J tau (w + tau) lo m.id streams run periods known obeying in
      let o = own_work lo in
      omega (arith, front, back, a1, a2, a3, s1, s2, s3, l, o)
    where
      hp : Instance → ℕ
      hp y = cond (above_in m.id lo (lo + (w + tau)) y) (y.bits * tau) 0

      mine : (y : Instance) → y.id ≡ m.id → lo ≤ y.queued → done tau (lo + suc w) y ≤ cond (late lo y) (y.bits * tau) 0
      mine y i q = let t : late lo y ≡ true = and-true (y.id == m.id) (nat_le lo y.queued) (eq-true y.id m.id i) (le-true lo y.queued q) in
          subst (λ b. done tau (lo + suc w) y ≤ cond b (y.bits * tau) 0) (sym t) (done-le tau (lo + suc w) y)

      unsent_too : x.id ≡ m.id → ForSome x.start (λ s. lo + suc w ≤ s)
      unsent_too i = unsent

      later : (y : Instance) → (x.id ≡ y.id → IsSentBefore x y) → y.id ≡ m.id → ForSome y.start (λ s. lo + suc w ≤ s)
      later y f i s e = let g = f (its ∙ sym i) s e in let k = unsent g.0 g.1 in omega (arith, g.2)

  -- LAW 3, in the busy period: what is asked for within it
  pub in_busy : (lo t : ℕ) → asked_by (lo + t) ≤ asked_by lo + (total (load J tau t) above + load J tau t m)
  in_busy lo t =
      let p : total (upper m.id (asked tau (lo + t))) run ≤ total (λ y. upper m.id (asked tau lo) y + (hp y + own y)) run =
      total-le (upper m.id (asked tau (lo + t))) (λ y. upper m.id (asked tau lo) y + (hp y + own y)) run
      (Each-from_Contains (λ y. upper m.id (asked tau (lo + t)) y ≤ upper m.id (asked tau lo) y + (hp y + own y)) run (λ y c. asked-point tau m.id lo t y)) in
      let a1 = total-add (upper m.id (asked tau lo)) (λ y. hp y + own y) run in
      let a2 = total-add hp own run in
      let l = above-load J tau t lo m.id streams run periods known obeying in
      let k = stream-load J tau t lo streams run m (All-contains (λ k. 1 ≤ k.period) streams m periods in_set) in_set known own_obeys in
      omega (arith, p, a1, a2, l, k)
    where
      hp : Instance → ℕ
      hp y = cond (above_in m.id lo (lo + t) y) (y.bits * tau) 0

      own : Instance → ℕ
      own y = cond (of_in m.id lo (lo + t) y) (y.bits * tau) 0

  -- the last moment, not after x is queued, at which what is done of m or above is no less than was asked for before it
  pub reference : (lo : ℕ) × (lo ≤ x.queued) × (asked_by lo ≤ done_by lo) × Behind lo
  reference = last_within asked_by done_by
      (total-le (upper m.id (asked tau 0)) (upper m.id (done tau 0)) run (Each-from_Contains (λ y. upper m.id (asked tau 0) y ≤ upper m.id (done tau 0) y) run
      (λ y c. elim (cases_lt m.id y.id) [ inl a ↦ (let e = upper-not m.id (asked tau 0) y a in omega arith) | inr a ↦ (let e = upper-is m.id (asked tau 0) y a in let z = asked-not tau 0 y (omega arith) in omega arith) ])))
      x.queued

  -- LAW 4, first half: x's number is within the busy period
  pub number_within : (lo t : ℕ) → (lo + t ≤ x.event → lo + t ≤ until) → lo ≤ x.queued → asked_by lo ≤ done_by lo → Behind lo →
      1 ≤ t → busy_value J tau above below m t ≤ t →
      number (late lo) pre * m.period < t + J m
  number_within lo t ends within quiet behind pos solves = elim (cases_lt (number (late lo) pre * m.period) (t + J m)) [
    | inl l ↦ l
    | inr l ↦ (let e = own_events lo within in
        let a = x_in_time.after_event in
        let n = ends (omega (arith, e, l)) in
        let w = worked lo t (busy_behind lo behind) quiet (λ u b c. (omega (arith, n), inl (omega (arith, e, l, a)))) in
        let b = behind (lo + t) (omega arith) (omega (arith, e, l, a)) in
        let i = in_busy lo t in
        absurd (omega (arith, w, b, i, solves)))
  ]

  -- LAW 4, second half: x starts at most w after that moment, or the run ends before
  pub starts_within : (lo w : ℕ) → lo ≤ x.queued → asked_by lo ≤ done_by lo → Busy lo → (ForSome x.start (λ s. lo + suc w ≤ s) → lo + w < until) →
      queue_value J tau above below m (number (late lo) pre) w ≤ w →
      (s : ℕ) × (x.start ≡ Some s) × (s ≤ lo + w)
  starts_within lo w within quiet behind ends solves = elim (start_cases x.start) [
    | inl n ↦ absurd (late_start (λ s e. absurd (cc)))
    | inr v ↦ elim (cases_lt (lo + w) v.0) [
      | inr l ↦ (v.0, v.1, l)
      | inl l ↦ absurd (late_start (λ s e. let q : v.0 ≡ s = same_some v.0 s (sym v.1 ∙ e) in omega arith))
    ]
  ]
    where
      same_some : (a b : ℕ) → Some a ≡ Some b → a ≡ b
      same_some a b e = cc

      late_start : ForSome x.start (λ s. lo + suc w ≤ s) → ⊥
      late_start unsent =
          let open' = ends unsent in
          let act : (u : ℕ) → lo ≤ u → u < lo + suc w → (u < until) × Active u = λ u b c. (omega (arith, open'), elim (cases_lt u x.queued) [ inl k ↦ inl k | inr k ↦ inr (k, λ s e. let g = unsent s e in omega arith) ]) in
          let a = worked lo (suc w) behind quiet act in
          let i = in_queue lo w unsent in
          omega (arith, a, i, solves)

  -- x starts in time: after q and w are found
  pub from_number : (due : Option ℕ) → Meets J tau above below m due → (d : ℕ) → due ≡ Some d → (lo : ℕ) → lo ≤ x.queued → asked_by lo ≤ done_by lo → Busy lo → (t : ℕ) →
      number (late lo) pre * m.period < t + J m → ((q : ℕ) → q * m.period < t + J m →
      (w : ℕ) × (queue_value J tau above below m q w ≤ w) × ForSome due (λ d. J m + w + longest tau m ≤ d + q * m.period)) →
      ((w : ℕ) → lo + w + longest tau m ≤ x.event + d → ForSome x.start (λ s. lo + suc w ≤ s) → lo + w < until) →
      (s : ℕ) × (x.start ≡ Some s) × (s + x.bits * tau ≤ x.event + d)
  from_number due passes d e lo within quiet busy t small in_time ends =
      let v = in_time (number (late lo) pre) small in
      let w = v.0 in
      let f = v.2 d e in
      let g = own_events lo within in
      let long = not-longer tau m x (of_m x (known_at x x_in) its) in
      let fits : lo + w + longest tau m ≤ x.event + d = omega (arith, f, g) in
      let s = starts_within lo w within quiet busy (ends w fits) v.1 in
      (s.0, s.1, omega (arith, s.2, fits, long))

  -- the theorem, at x
  pub on_time : (due : Option ℕ) → Meets J tau above below m due → IsOnTime tau until due x
  on_time due passes d e ends =
      let r = reference in
      let q = number_within r.0 passes.busy (λ l. omega arith) r.1 r.2 r.3 passes.from_on passes.closed in
      let long = not-longer tau m x (of_m x (known_at x x_in) its) in
      let pos = takes x (known_at x x_in) in
      from_number due passes d e r.0 r.1 r.2 (busy_behind r.0 r.3) passes.busy q passes.in_time (λ w fits u. omega (arith, long, pos))

  -- the same of one that starts by the end of the run, wherever its deadline falls
  pub started_on_time : (due : Option ℕ) → Meets J tau above below m due → ForSome due (λ d. ForSome x.start (λ s. s ≤ until → s + x.bits * tau ≤ x.event + d))
  started_on_time due passes d e s g ends =
      let r = reference in
      let long = not-longer tau m x (of_m x (known_at x x_in) its) in
      let go : (r.0 + passes.busy ≤ x.event → r.0 + passes.busy ≤ until) → s + x.bits * tau ≤ x.event + d = λ h. (
      let q = number_within r.0 passes.busy h r.1 r.2 r.3 passes.from_on passes.closed in
      let v = from_number due passes d e r.0 r.1 r.2 (busy_behind r.0 r.3) passes.busy q passes.in_time (λ w fits u. (let k = u s g in omega arith)) in
      let same : Some s ≡ Some v.0 = sym g ∙ v.1 in
      let t : s ≡ v.0 = cc in
      omega (arith, v.2)) in
      elim (cases_lt s (r.0 + passes.busy)) [
        | inr k ↦ go (λ l. omega arith)
        | inl k ↦ elim (cases_lt x.event (r.0 + passes.busy)) [
          | inl l ↦ go (λ h. absurd (omega arith))
          | inr l ↦ (let v = passes.in_time 0 (omega (arith, passes.from_on)) in let f = v.2 d e in omega (arith, f, long))
        ]
      ]

-- a stream's period is not 0, and it is in the set
pub periods_pos : (streams : List Stream) → All (λ k. 1 ≤ k.period) streams
periods_pos streams = All-from_recursion (λ k. 1 ≤ k.period) streams (Each-from_Contains (λ k. 1 ≤ k.period) streams (λ k c. omega (arith, k.period_least)))

pub in_streams : (streams : List Stream) (index : ℕ) (m : Stream) → slice_get streams index ≡ Some m → Contains streams m
in_streams streams index m e = (index, slice_get_within streams index m e, get_or_from_slice_get streams index m _ e)

-- a fact of each element that follows from what stands before and after it
pub each_by_place : {X : Type 0} (P : X → Type 0) (front xs : List X) → ((pre : List X) (x : X) (post : List X) → front ++ xs ≡ pre ++ (x ∷ post) → P x) → Each P xs
each_by_place P front [] h = tt
each_by_place P front (x ∷ xs) h = (h front x xs refl, each_by_place P (front ++ (x ∷ [])) xs (λ pre y post e. h pre y post (sym (append_assoc front (x ∷ []) xs) ∙ e)))

module _ (J : Stream → ℕ) (rate : Rate) (streams : List Stream) (until : ℕ) (run : List Instance) (m : Stream) (legal : IsLegal (ticks_of rate) streams until run)
    (spread : All (λ k. k.id ≤ m.id → IsSpread J run k) streams) (in_set : Contains streams m) (due : Option ℕ)
    (meets : Meets J (ticks_of rate) (filter (λ k. nat_lt k.id m.id) streams) (filter (λ k. nat_lt m.id k.id) streams) m due) where
  pub sound_by : All (λ y. y.id ≡ m.id → IsOnTime (ticks_of rate) until due y) run
  sound_by = All-from_recursion (λ y. y.id ≡ m.id → IsOnTime (ticks_of rate) until due y) run
      (each_by_place (λ y. y.id ≡ m.id → IsOnTime (ticks_of rate) until due y) [] run
      (λ pre x post e its. on_time J (ticks_of rate) until streams pre x post m (ticks_pos rate) (periods_pos streams)
      (subst (λ r. IsLegal (ticks_of rate) streams until r) e legal) (subst (λ r. All (λ k. k.id ≤ m.id → IsSpread J r k) streams) e spread) in_set its due meets))

  pub started_sound_by : All (λ y. y.id ≡ m.id → ForSome due (λ d. ForSome y.start (λ s. s ≤ until → s + y.bits * ticks_of rate ≤ y.event + d))) run
  started_sound_by = All-from_recursion (λ y. y.id ≡ m.id → ForSome due (λ d. ForSome y.start (λ s. s ≤ until → s + y.bits * ticks_of rate ≤ y.event + d))) run
      (each_by_place (λ y. y.id ≡ m.id → ForSome due (λ d. ForSome y.start (λ s. s ≤ until → s + y.bits * ticks_of rate ≤ y.event + d))) [] run
      (λ pre x post e its. started_on_time J (ticks_of rate) until streams pre x post m (ticks_pos rate) (periods_pos streams)
      (subst (λ r. IsLegal (ticks_of rate) streams until r) e legal) (subst (λ r. All (λ k. k.id ≤ m.id → IsSpread J r k) streams) e spread) in_set its due meets))
