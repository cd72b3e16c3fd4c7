use Rattle.std.proofs.Common.{◌≡◌, ℕ, ◌+◌, ◌-◌, ◌*◌, ◌≤◌, ◌<◌, ◌⊎◌, inl, inr, List, length, refl, sym, ◌∙◌, ap, subst, arith, suc, zero}
use Rattle.std.specs.Prelude.{Any, All, AllPairs, Option, None, Some}
use Rattle.std.specs.Option.{ForSome}
use Rattle.std.proofs.lemmas.Bool.{cases_lt, cases_order}
use Rattle.std.proofs.lemmas.List.Elements.{All-from_recursion}
use Rattle.cop_rta.specs.declared.streams.Stream.{Stream}
use Rattle.cop_bus.specs.Run.{Instance, Runs, Waits, IsKnown, IsSentBefore, IsLegal}
use Rattle.cop_bus.specs.declared.steps.Step.{Step}
use Rattle.cop_bus.specs.declared.steps.Content.{Content}
use Rattle.cop_bus.specs.Trace.{at_of, rank_of, is_queue, is_start, count_to, nth_that, step_at, moment_of, bits_of, after, running, instance, instances}
use Rattle.cop_bus.proofs.Indexed.{WaitsAfter, Obeys, IsTraceOf}
use Rattle.cop_bus.specs.declared.steps.Step.TheVariants.{Queue, Start, End}
use Rattle.cop_bus.proofs.Totals.{AllPairs-from_Pairs}
use Rattle.cop_bus.proofs.Sound.{takes-time}
use Rattle.cop_bus.proofs.Work.{start_cases}
use Rattle.cop_bus.proofs.StepLemmas as Steps
use Rattle.cop_bus.proofs.StepLemmas.{same_some, moment-some, count_to-past, nth_that-some, nth_that-at, nth_before, queue_shape, start_shape, is_queue-of, is_start-of, IsRest, each_instance, pairs_instances, instance_in}

module _ (tau : ℕ) (streams : List Stream) (until : ℕ) (steps : List Step) (tick : 1 ≤ tau) (obeys : Obeys tau streams until steps) where
  abbrev pub queues : ℕ → ℕ → ℕ
  queues id i = count_to (is_queue id) steps i

  abbrev pub starts : ℕ → ℕ → ℕ
  starts id i = count_to (is_start id) steps i

  -- moments do not fall
  pub later : (i j : ℕ) → i ≤ j → j < length steps → at_of (step_at steps i) ≤ at_of (step_at steps j)
  later i j l k = elim (cases_lt i j) [
    | inr e ↦ (let q : i ≡ j = omega arith in subst (λ n. at_of (step_at steps i) ≤ at_of (step_at steps n)) q (omega arith))
    | inl h ↦ elim (obeys.ordered i j h k) [ inl a ↦ omega arith | inr b ↦ omega (arith, b.0) ]
  ]

  abbrev pub end_of : ℕ → ℕ → ℕ → ℕ
  end_of b at id = at + bits_of (nth_that (is_queue id) (starts id b) steps) * tau

  -- what runs was started, and since then instances were queued alone
  pub running-started : (i id e : ℕ) → i ≤ length steps → running tau steps i ≡ Some (id, e) →
      (b : ℕ) × (at : ℕ) × (b < i) × (step_at steps b ≡ Start id at) × (e ≡ end_of b at id) × ((c : ℕ) → b < c → c < i → rank_of (step_at steps c) ≡ 1)
  running-started i id e l h = Steps.running_started tau steps i id e l h

  -- a transfer that was started still runs, or has ended at its moment
  pub runs_or_ended : (b at id : ℕ) → step_at steps b ≡ Start id at → (d : ℕ) → suc b + d ≤ length steps →
      (running tau steps (suc b + d) ≡ Some (id, end_of b at id)) ⊎ ((c : ℕ) × (c < suc b + d) × (step_at steps c ≡ End id (end_of b at id)))
  runs_or_ended b at id h zero l = let e : suc b + 0 ≡ suc b = omega arith in
      inl (subst (λ n. running tau steps n ≡ Some (id, end_of b at id)) (sym e) (ap (λ x. after tau steps b x (running tau steps b)) h))
  runs_or_ended b at id h (suc d) l =
      let e : suc b + suc d ≡ suc (suc b + d) = omega arith in
      subst (λ n. (running tau steps n ≡ Some (id, end_of b at id)) ⊎ ((c : ℕ) × (c < n) × (step_at steps c ≡ End id (end_of b at id)))) (sym e)
      (elim (runs_or_ended b at id h d (omega arith)) [
        | inr w ↦ inr (w.0, omega (arith, w.1), w.2)
        | inl r ↦ go (step_at steps (suc b + d)) refl r
      ])
    where
      i : ℕ
      i = suc b + d

      go : (x : Step) → step_at steps (suc b + d) ≡ x → running tau steps (suc b + d) ≡ Some (id, end_of b at id) →
          (after tau steps (suc b + d) (step_at steps (suc b + d)) (running tau steps (suc b + d)) ≡ Some (id, end_of b at id)) ⊎ ((c : ℕ) × (c < suc (suc b + d)) × (step_at steps c ≡ End id (end_of b at id)))
      go (Queue k at' event frame) q r = inl (ap (λ x. after tau steps (suc b + d) x (running tau steps (suc b + d))) q ∙ r)
      go (Start k at') q r = let n = obeys.start_free (suc b + d) at' k (omega arith) q in absurd (cc)
      go (End k at') q r =
          let n = obeys.end_due (suc b + d) at' k (omega arith) q in
          let p = same_some (k, at') (id, end_of b at id) (sym n ∙ r) in
          let a : at' ≡ end_of b at id = ap (λ v. v.1) p in
          let f : k ≡ id = ap (λ v. v.0) p in
          inr (suc b + d, omega arith, q ∙ ap (λ n. End k n) a ∙ ap (λ n. End n (end_of b at id)) f)

  -- a start takes the instance that has its number
  pub paired : (b at id : ℕ) → b < length steps → step_at steps b ≡ Start id at →
      (a : ℕ) × (q : ℕ) × (event : ℕ) × (frame : Content) × (a < length steps) × (step_at steps a ≡ Queue id q event frame) × (queues id a ≡ starts id b) × (q < at + tau) × (end_of b at id ≡ at + frame.bits * tau)
  paired b at id l h =
      let w = obeys.start_has b at id l h in
      let n = nth_that-some (is_queue id) (starts id b) steps (Queue id w.0 w.1 w.2) w.3 in
      (n.0, w.0, w.1, w.2, n.1, n.2, n.4, w.4, ap (λ o. at + bits_of o * tau) w.3)

  -- and that instance starts there
  pub starts_there : (a b q at id event : ℕ) (frame : Content) → b < length steps → step_at steps b ≡ Start id at → queues id a ≡ starts id b →
      (instance steps a q id event frame).start ≡ Some at
  starts_there a b q at id event frame l h e =
      ap moment_of (ap (λ j. nth_that (is_start id) j steps) e ∙ nth_that-at (is_start id) steps b l (is_start-of id (step_at steps b) at h) ∙ ap Some h)

  -- an instance that starts does so at a start that has its number
  pub started_at : (a q id event : ℕ) (frame : Content) (s : ℕ) → (instance steps a q id event frame).start ≡ Some s →
      (b : ℕ) × (b < length steps) × (step_at steps b ≡ Start id s) × (starts id b ≡ queues id a)
  started_at a q id event frame s e =
      let m = moment-some (nth_that (is_start id) (queues id a) steps) s e in
      let n = nth_that-some (is_start id) (queues id a) steps m.0 m.1 in
      let h = start_shape id m.0 n.3 in
      let t : h.0 ≡ s = sym (ap at_of h.1) ∙ m.2 in
      (n.0, n.1, n.2 ∙ h.1 ∙ ap (λ v. Start id v) t, n.4)

  pub takes : (a q id event : ℕ) (frame : Content) → a < length steps → step_at steps a ≡ Queue id q event frame → 1 ≤ frame.bits * tau
  takes a q id event frame l e = takes-time tau streams (instance steps a q id event frame) tick (obeys.known a q id event frame l e)

  -- of two starts the later comes after the earlier one's end
  pub starts_apart : (b c at at' id id' : ℕ) → b < c → c < length steps → step_at steps b ≡ Start id at → step_at steps c ≡ Start id' at' → (end_of b at id ≤ at') × (at < at')
  starts_apart b c at at' id id' l k h g =
      let e : suc b + (c - suc b) ≡ c = omega arith in
      let none = obeys.start_free c at' id' k g in
      let r = runs_or_ended b at id h (c - suc b) (omega arith) in
      let w : end_of b at id ≤ at' = elim r [
        | inl a ↦ absurd (let a' : running tau steps c ≡ Some (id, end_of b at id) = subst (λ n. running tau steps n ≡ Some (id, end_of b at id)) e a in cc)
        | inr v ↦ (let o = later v.0 c (omega (arith, v.1)) k in let m : at_of (step_at steps c) ≡ at' = ap at_of g in let n : at_of (step_at steps v.0) ≡ end_of b at id = ap at_of v.2 in omega arith)
      ] in
      let p = paired b at id (omega arith) h in
      let t = takes p.0 p.1 id p.2 p.3 p.4 p.5 in
      (w, omega (arith, p.8))

  -- what is queued by the moment of a start stands before it
  pub queued_before : (a b q at id k event : ℕ) (frame : Content) → a < length steps → b < length steps → step_at steps a ≡ Queue k q event frame → step_at steps b ≡ Start id at → q ≤ at → a < b
  queued_before a b q at id k event frame l m h g o = elim (cases_lt a b) [
    | inl r ↦ r
    | inr r ↦ absurd (elim (cases_lt b a) [
      | inl v ↦ (let x : at_of (step_at steps a) ≡ q = ap at_of h in let y : at_of (step_at steps b) ≡ at = ap at_of g in let u : rank_of (step_at steps a) ≡ 1 = ap rank_of h in let w : rank_of (step_at steps b) ≡ 2 = ap rank_of g in
          elim (obeys.ordered b a v l) [ inl z ↦ omega arith | inr z ↦ omega (arith, z.0, z.1) ])
      | inr v ↦ (let e : a ≡ b = omega arith in let z : Queue k q event frame ≡ Start id at = sym h ∙ ap (step_at steps) e ∙ g in cc)
    ])
  ]

  -- what waits when a start comes, and what waits at its moment
  pub waits-step : (b k at id : ℕ) → b < length steps → step_at steps b ≡ Start id at → WaitsAfter steps b k → Any (λ z. Waits z at) (instances steps)
  waits-step b k at id l h w =
      let n = nth_before (is_queue k) steps b (starts k b) w in
      let s = queue_shape k (step_at steps n.0) n.3 in
      let z = instance steps n.0 s.0 k s.1 s.2 in
      let c = instance_in steps 0 steps (λ i. ap (step_at steps) (let e : i ≡ 0 + i = omega arith in e)) n.0 s.0 k s.1 s.2 (omega arith) (omega (arith, n.2)) s.3 in
      let q : s.0 ≤ at = (let o = later n.0 b (omega (arith, n.1)) l in let x : at_of (step_at steps n.0) ≡ s.0 = ap at_of s.3 in let y : at_of (step_at steps b) ≡ at = ap at_of h in omega arith) in
      let u : ForSome z.start (λ s. at ≤ s) = λ t e. (let v = started_at n.0 s.0 k s.1 s.2 t e in
      elim (cases_lt v.0 b) [
        | inl r ↦ (let p = count_to-past (is_start k) steps v.0 b r v.1 (is_start-of k (step_at steps v.0) t v.2) in absurd (omega (arith, v.3, n.4)))
        | inr r ↦ (let o = later b v.0 r v.1 in let x : at_of (step_at steps v.0) ≡ t = ap at_of v.2 in let y : at_of (step_at steps b) ≡ at = ap at_of h in omega arith)
      ]) in
      (c.0, z, c.1, c.2, (q, u))

  -- an instance that waits at the moment of a start waits when it comes
  pub waits-moment : (a b q k event : ℕ) (frame : Content) (at id : ℕ) → a < length steps → b < length steps → step_at steps a ≡ Queue k q event frame → step_at steps b ≡ Start id at →
      Waits (instance steps a q k event frame) at → WaitsAfter steps b k
  waits-moment a b q k event frame at id l m h g w =
      let r = queued_before a b q at id k event frame l m h g w.0 in
      let p = count_to-past (is_queue k) steps a b r l (is_queue-of k (step_at steps a) q event frame h) in
      elim (cases_lt (queues k a) (starts k b)) [
        | inr v ↦ omega arith
        | inl v ↦ (let n = nth_before (is_start k) steps b (queues k a) v in
            let s = start_shape k (step_at steps n.0) n.3 in
            let t = starts_there a n.0 q s.0 k event frame n.2 s.1 (sym n.4) in
            let u = w.1 s.0 t in
            let x = starts_apart n.0 b s.0 at k id n.1 m s.1 g in absurd (omega (arith, x.1)))
      ]

  -- the steps up to a moment, and those after it
  pub cut : (u n : ℕ) → n ≤ length steps →
      (k : ℕ) × (k ≤ n) × ((i : ℕ) → i < k → at_of (step_at steps i) ≤ u) × ((i : ℕ) → k ≤ i → i < n → u < at_of (step_at steps i))
  cut u zero l = (0, omega arith, λ i h. absurd (omega arith), λ i h g. absurd (omega arith))
  cut u (suc n) l = go (cases_lt u (at_of (step_at steps n))) (cut u n (omega arith))
    where
      go : (u < at_of (step_at steps n)) ⊎ (at_of (step_at steps n) ≤ u) →
          (k : ℕ) × (k ≤ n) × ((i : ℕ) → i < k → at_of (step_at steps i) ≤ u) × ((i : ℕ) → k ≤ i → i < n → u < at_of (step_at steps i)) →
          (k : ℕ) × (k ≤ suc n) × ((i : ℕ) → i < k → at_of (step_at steps i) ≤ u) × ((i : ℕ) → k ≤ i → i < suc n → u < at_of (step_at steps i))
      go (inr h) r = (suc n, omega arith, λ i g. (let o = later i n (omega arith) (omega arith) in omega arith), λ i g f. absurd (omega arith))
      go (inl h) r = (r.0, omega (arith, r.1), r.2, λ i g f. elim (cases_lt i n) [ inl v ↦ r.3 i g v | inr v ↦ (let e : n ≡ i = omega arith in subst (λ j. u < at_of (step_at steps j)) e h) ])

  pub in_steps : IsRest steps 0 steps
  in_steps i = ap (step_at steps) (let e : i ≡ 0 + i = omega arith in e)

  -- what runs after the steps up to a moment runs at it
  pub runs-at : (u k id e : ℕ) → k ≤ length steps → ((i : ℕ) → i < k → at_of (step_at steps i) ≤ u) → running tau steps k ≡ Some (id, e) → u < e → Any (λ y. Runs tau y u) (instances steps)
  runs-at u k id e l before h late =
      let r = running-started k id e l h in
      let p = paired r.0 r.1 id (omega (arith, r.2)) r.3 in
      let c = instance_in steps 0 steps in_steps p.0 p.1 id p.2 p.3 (omega arith) (omega (arith, p.4)) p.5 in
      let t = starts_there p.0 r.0 p.1 r.1 id p.2 p.3 (omega (arith, r.2)) r.3 p.6 in
      let o = before r.0 r.2 in
      let x : at_of (step_at steps r.0) ≡ r.1 = ap at_of r.3 in
      (c.0, instance steps p.0 p.1 id p.2 p.3, c.1, c.2, (r.1, t, omega arith, omega (arith, r.4, p.8)))

  -- what waits at a tick, no transfer of which starts there, waits after the steps up to it
  pub waits-cut : (u k a q id event : ℕ) (frame : Content) → ((i : ℕ) → i < k → at_of (step_at steps i) ≤ u) → ((i : ℕ) → k ≤ i → i < length steps → u < at_of (step_at steps i)) →
      a < length steps → step_at steps a ≡ Queue id q event frame → q ≤ u → ForSome (instance steps a q id event frame).start (λ s. suc u ≤ s) → (a < k) × WaitsAfter steps k id
  waits-cut u k a q id event frame before after' l h w v =
      let x : at_of (step_at steps a) ≡ q = ap at_of h in
      let r : a < k = elim (cases_lt a k) [ inl z ↦ z | inr z ↦ (let o = after' a z l in absurd (omega arith)) ] in
      let p = count_to-past (is_queue id) steps a k r l (is_queue-of id (step_at steps a) q event frame h) in (
        r,
        elim (cases_lt (queues id a) (starts id k)) [
          | inr z ↦ omega arith
          | inl z ↦ (let n = nth_before (is_start id) steps k (queues id a) z in
              let s = start_shape id (step_at steps n.0) n.3 in
              let t = starts_there a n.0 q s.0 id event frame n.2 s.1 (sym n.4) in
              let f = v s.0 t in
              let o = before n.0 n.1 in
              let y : at_of (step_at steps n.0) ≡ s.0 = ap at_of s.1 in absurd (omega arith))
        ],
      )

  pub never-idle : (u : ℕ) → u < until → (a q id event : ℕ) (frame : Content) → a < length steps → step_at steps a ≡ Queue id q event frame → Waits (instance steps a q id event frame) u → Any (λ y. Runs tau y u) (instances steps)
  never-idle u l a q id event frame m h w = elim (start_cases (instance steps a q id event frame).start) [
    | inl n ↦ idle (λ s e. absurd (cc))
    | inr v ↦ elim (cases_lt u v.0) [
      | inl f ↦ idle (subst (λ o. ForSome o (λ s. suc u ≤ s)) (sym v.1) (λ s e. let g : v.0 ≡ s = same_some v.0 s e in omega arith))
      | inr f ↦ (let g = w.1 v.0 v.1 in
          let t = takes a q id event frame m h in
          let c = instance_in steps 0 steps in_steps a q id event frame (omega arith) (omega arith) h in
          (c.0, instance steps a q id event frame, c.1, c.2, (v.0, v.1, omega arith, omega arith)))
    ]
  ]
    where
      idle : ForSome (instance steps a q id event frame).start (λ s. suc u ≤ s) → Any (λ y. Runs tau y u) (instances steps)
      idle unsent =
          let c = cut u (length steps) (omega arith) in
          let k = waits-cut u c.0 a q id event frame c.2 c.3 m h w.0 unsent in
          state c.0 c.1 c.2 c.3 k.0 k.1 (running tau steps c.0) refl
        where
          last : (k : ℕ) → k ≤ length steps → (suc k ≡ suc k) → ℕ
          last k l e = k

          state : (k : ℕ) → k ≤ length steps → ((i : ℕ) → i < k → at_of (step_at steps i) ≤ u) → ((i : ℕ) → k ≤ i → i < length steps → u < at_of (step_at steps i)) →
              a < k → WaitsAfter steps k id → (r : Option (ℕ × ℕ)) → running tau steps k ≡ r → Any (λ y. Runs tau y u) (instances steps)
          state zero b before after' r v o e = absurd (omega arith)
          state (suc k) b before after' r v None e = elim (cases_lt (suc k) (length steps)) [
            | inl f ↦ (let x = obeys.not_idle k id f e v in let y = after' (suc k) (omega arith) f in let z = before k (omega arith) in absurd (omega arith))
            | inr f ↦ (let x = obeys.last_not_idle k id (omega arith) e v in let z = before k (omega arith) in absurd (omega arith))
          ]
          state (suc k) b before after' r v (Some p) e = elim (cases_lt (suc k) (length steps)) [
            | inl f ↦ (let y = after' (suc k) (omega arith) f in elim (obeys.none_missing (suc k) p.0 p.1 f e) [
              | inl g ↦ runs-at u (suc k) p.0 p.1 b before e (omega arith)
              | inr g ↦ (let x : at_of (step_at steps (suc k)) ≡ p.1 = ap at_of g in runs-at u (suc k) p.0 p.1 b before e (omega arith))
            ])
            | inr f ↦ (let q : suc k ≡ length steps = omega arith in let x = obeys.last_missing p.0 p.1 (subst (λ n. running tau steps n ≡ Some (p.0, p.1)) q e) in runs-at u (suc k) p.0 p.1 b before e (omega arith))
          ]

  -- of two instances of one stream the earlier is queued first
  pub queued_first : (a q id event : ℕ) (frame : Content) (b q' id' event' : ℕ) (frame' : Content) → a < b → b < length steps → step_at steps a ≡ Queue id q event frame → step_at steps b ≡ Queue id' q' event' frame' → q ≤ q'
  queued_first a q id event frame b q' id' event' frame' l m h g =
      let o = later a b (omega arith) m in let x : at_of (step_at steps a) ≡ q = ap at_of h in let y : at_of (step_at steps b) ≡ q' = ap at_of g in omega arith

  -- and sent first
  pub sent_first : (a q id event : ℕ) (frame : Content) (b q' id' event' : ℕ) (frame' : Content) → a < b → b < length steps → step_at steps a ≡ Queue id q event frame → step_at steps b ≡ Queue id' q' event' frame' →
      id ≡ id' → IsSentBefore (instance steps a q id event frame) (instance steps b q' id' event' frame')
  sent_first a q id event frame b q' id' event' frame' l m h g e t f =
      let f' : (instance steps b q' id event' frame').start ≡ Some t = subst (λ i. (instance steps b q' i event' frame').start ≡ Some t) (sym e) f in
      let v = started_at b q' id event' frame' t f' in
      let p = count_to-past (is_queue id) steps a b l (omega arith) (is_queue-of id (step_at steps a) q event frame h) in
      let n = nth_before (is_start id) steps v.0 (queues id a) (omega (arith, v.3)) in
      let s = start_shape id (step_at steps n.0) n.3 in
      let x = starts_apart n.0 v.0 s.0 t id id n.1 v.1 s.1 v.2 in
      (s.0, starts_there a n.0 q s.0 id event frame n.2 s.1 (sym n.4), x.1)

  pub length_there : (a b q id event : ℕ) (frame : Content) (at : ℕ) → a < length steps → b < length steps → step_at steps a ≡ Queue id q event frame → step_at steps b ≡ Start id at → queues id a ≡ starts id b → end_of b at id ≡ at + frame.bits * tau
  length_there a b q id event frame at l m h g e = Steps.end_there tau steps a b q id event frame at l h e

  -- no two transfers run at one tick
  pub one-at-a-time : (a q id event : ℕ) (frame : Content) (b q' id' event' : ℕ) (frame' : Content) → a < b → b < length steps → step_at steps a ≡ Queue id q event frame → step_at steps b ≡ Queue id' q' event' frame' →
      (x : ℕ) → Runs tau (instance steps a q id event frame) x → Runs tau (instance steps b q' id' event' frame') x → ⊥
  one-at-a-time a q id event frame b q' id' event' frame' l m h g x r s =
      let v = started_at a q id event frame r.0 r.1 in
      let w = started_at b q' id' event' frame' s.0 s.1 in
      let e1 = length_there a v.0 q id event frame r.0 (omega arith) v.1 h v.2 (sym v.3) in
      let e2 = length_there b w.0 q' id' event' frame' s.0 m w.1 g w.2 (sym w.3) in
      elim (cases_order v.0 w.0) [
        | inr (inl o) ↦ (let z = starts_apart v.0 w.0 r.0 s.0 id id' o w.1 v.2 w.2 in omega (arith, z.0, r.3, s.2))
        | inr (inr o) ↦ (let z = starts_apart w.0 v.0 s.0 r.0 id' id o v.1 w.2 v.2 in omega (arith, z.0, s.3, r.2))
        | inl o ↦ (let z : Start id r.0 ≡ Start id' s.0 = sym v.2 ∙ ap (step_at steps) o ∙ w.2 in
            let i : id ≡ id' = cc in
            let p = count_to-past (is_queue id) steps a b l (omega arith) (is_queue-of id (step_at steps a) q event frame h) in
            let n : starts id v.0 ≡ starts id' w.0 = ap (λ k. starts k v.0) i ∙ ap (starts id') o in
            let y : queues id b ≡ queues id' b = ap (λ k. queues k b) i in
            omega (arith, v.3, w.3, n, y, p))
      ]

  -- THE RULES BY STEPS MAKE A LEGAL RUN
  pub legal : IsLegal tau streams until (instances steps)
  legal = record {
    known = from (IsKnown streams) (λ a q id event frame l h. obeys.known a q id event frame l h);
    in_order = two (λ y z. y.id ≡ z.id → IsSentBefore y z) sent_first;
    one_at_a_time = two (λ y z. (x : ℕ) → Runs tau y x → Runs tau z x → ⊥) one-at-a-time;
    asked_for = from (λ y. ForSome y.start (λ s. Any (λ z. Waits z s) (instances steps))) (λ a q id event frame l h s e.
        let v = started_at a q id event frame s e in let w = obeys.start_asked v.0 s id v.1 v.2 in waits-step v.0 w.0 s id v.1 v.2 w.1);
    joined = from (λ y. ForSome y.start (λ s. y.queued < s + tau)) (λ a q id event frame l h s e.
        let v = started_at a q id event frame s e in
        let p = paired v.0 s id v.1 v.2 in
        let n = nth_that-at (is_queue id) steps a l (is_queue-of id (step_at steps a) q event frame h) in
        let k = nth_that-at (is_queue id) steps p.0 p.4 (is_queue-of id (step_at steps p.0) p.1 p.2 p.3 p.5) in
        let j : queues id p.0 ≡ queues id a = p.6 ∙ v.3 in
        let z : Some (step_at steps p.0) ≡ Some (step_at steps a) = sym k ∙ ap (λ j. nth_that (is_queue id) j steps) j ∙ n in
        let x : step_at steps p.0 ≡ step_at steps a = same_some (step_at steps p.0) (step_at steps a) z in
        let y : p.1 ≡ q = sym (ap at_of p.5) ∙ ap at_of x ∙ ap at_of h in
        omega (arith, p.7));
    by_priority = from (λ y. ForSome y.start (λ s. All (λ z. Waits z s → y.id ≤ z.id) (instances steps))) (λ a q id event frame l h s e.
        let v = started_at a q id event frame s e in
        from (λ z. Waits z s → id ≤ z.id) (λ a' q' id' event' frame' l' h' w. obeys.start_lowest v.0 s id v.1 v.2 id' (waits-moment a' v.0 q' id' event' frame' s id l' v.1 h' v.2 w)));
    never_idle = λ u l. from (λ z. Waits z u → Any (λ y. Runs tau y u) (instances steps)) (λ a q id event frame m h w. never-idle u l a q id event frame m h w);
  }
    where
      from : (P : Instance → Type 0) → ((a q id event : ℕ) (frame : Content) → a < length steps → step_at steps a ≡ Queue id q event frame → P (instance steps a q id event frame)) → All P (instances steps)
      from P h = All-from_recursion P (instances steps) (each_instance steps 0 steps in_steps P (λ a q id event frame l k e. h a q id event frame (omega arith) e))

      two : (R : Instance → Instance → Type 0) → ((a q id event : ℕ) (frame : Content) (b q' id' event' : ℕ) (frame' : Content) → a < b → b < length steps → step_at steps a ≡ Queue id q event frame → step_at steps b ≡ Queue id' q' event' frame' → R (instance steps a q id event frame) (instance steps b q' id' event' frame')) → AllPairs R (instances steps)
      two R h = AllPairs-from_Pairs R (instances steps) (pairs_instances steps 0 steps in_steps R (λ a q id event frame b q' id' event' frame' l k e g. h a q id event frame b q' id' event' frame' l (omega arith) e g))

  -- and the trace of one: each start is of an instance, and each end is there once
  pub two_ends : (i j at at' id id' : ℕ) → i < j → j < length steps → step_at steps i ≡ End id at → step_at steps j ≡ End id' at' → at < at'
  two_ends i j at at' id id' l k h g =
      let r = running-started j id' at' (omega arith) (obeys.end_due j at' id' k g) in
      let o : i < r.0 = elim (cases_order i r.0) [
        | inr (inl v) ↦ v
        | inl v ↦ absurd (let z : End id at ≡ Start id' r.1 = sym h ∙ ap (step_at steps) v ∙ r.3 in cc)
        | inr (inr v) ↦ absurd (let z = r.5 i v l in let y : rank_of (step_at steps i) ≡ 0 = ap rank_of h in omega arith)
      ] in
      let p = paired r.0 r.1 id' (omega (arith, r.2)) r.3 in
      let t = takes p.0 p.1 id' p.2 p.3 p.4 p.5 in
      let w = later i r.0 (omega arith) (omega (arith, r.2)) in
      let x : at_of (step_at steps i) ≡ at = ap at_of h in
      let y : at_of (step_at steps r.0) ≡ r.1 = ap at_of r.3 in
      omega (arith, p.8, r.4)

  pub legal_trace : IsTraceOf tau streams until steps
  legal_trace = record {
    ordered = obeys.ordered;
    by_end = obeys.by_end;
    no_more_starts = λ id. elim (cases_lt (queues id (length steps)) (starts id (length steps))) [
      | inr l ↦ l
      | inl l ↦ absurd (let n = nth_before (is_start id) steps (length steps) (queues id (length steps)) l in
          let s = start_shape id (step_at steps n.0) n.3 in
          let p = paired n.0 s.0 id n.2 s.1 in
          let c = count_to-past (is_queue id) steps p.0 (length steps) p.4 p.4 (is_queue-of id (step_at steps p.0) p.1 p.2 p.3 p.5) in
          omega (arith, p.6, n.4))
    ];
    ends_are = λ i at id l h. (
        let r = running-started i id at (omega arith) (obeys.end_due i at id l h) in
        let p = paired r.0 r.1 id (omega (arith, r.2)) r.3 in
        let c = instance_in steps 0 steps in_steps p.0 p.1 id p.2 p.3 (omega arith) (omega (arith, p.4)) p.5 in
        let t = starts_there p.0 r.0 p.1 r.1 id p.2 p.3 (omega (arith, r.2)) r.3 p.6 in
        (c.0, instance steps p.0 p.1 id p.2 p.3, c.1, c.2, (refl, (r.1, t, omega (arith, p.8, r.4)))));
    each_end = All-from_recursion (λ y. ForSome y.start (λ s. s + y.bits * tau ≤ until → (i : ℕ) × (i < length steps) × (step_at steps i ≡ End y.id (s + y.bits * tau)))) (instances steps)
        (each_instance steps 0 steps in_steps (λ y. ForSome y.start (λ s. s + y.bits * tau ≤ until → (i : ℕ) × (i < length steps) × (step_at steps i ≡ End y.id (s + y.bits * tau))))
        (λ a q id event frame k l h s e u.
        let v = started_at a q id event frame s e in
        let f = length_there a v.0 q id event frame s (omega arith) v.1 h v.2 (sym v.3) in
        let d : suc v.0 + (length steps - suc v.0) ≡ length steps = omega (arith, v.1) in
        elim (runs_or_ended v.0 s id v.2 (length steps - suc v.0) (omega (arith, v.1))) [
          | inl r ↦ (let z = obeys.last_missing id (end_of v.0 s id) (subst (λ n. running tau steps n ≡ Some (id, end_of v.0 s id)) d r) in absurd (omega arith))
          | inr r ↦ (r.0, omega (arith, r.1), r.2 ∙ ap (λ n. End id n) f)
        ]));
    ends_once = two_ends;
    legal = legal;
  }
