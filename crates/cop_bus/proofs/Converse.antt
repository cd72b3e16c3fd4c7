use Rattle.std.proofs.Common.{◌≡◌, ℕ, ◌+◌, ◌-◌, ◌*◌, ◌≤◌, ◌<◌, ◌⊎◌, inl, inr, List, length, refl, sym, ◌∙◌, ap, subst, arith, suc, zero}
use Rattle.std.specs.Prelude.{Contains, Any, All, Option, None, Some}
use Rattle.std.specs.Option.{ForSome}
use Rattle.std.proofs.lemmas.Bool.{cases_lt, cases_order}
use Rattle.std.proofs.lemmas.List.Elements.{All-from_recursion, All-contains}
use Rattle.cop_rta.specs.declared.streams.Stream.{Stream}
use Rattle.cop_bus.specs.Run.{Instance, Runs, Waits, IsKnown}
use Rattle.cop_bus.specs.declared.steps.Step.{Step}
use Rattle.cop_bus.specs.declared.steps.Content.{Content}
use Rattle.cop_bus.specs.Trace.{at_of, rank_of, is_queue, is_start, count_to, nth_that, step_at, after, running, instance, instances}
use Rattle.cop_bus.proofs.Indexed.{WaitsAfter, Obeys, IsTraceOf}
use Rattle.cop_bus.specs.declared.steps.Step.TheVariants.{Queue, Start, End}
use Rattle.cop_bus.proofs.Totals.{Pairs-from_AllPairs}
use Rattle.cop_bus.proofs.Sound.{takes-time}
use Rattle.cop_bus.proofs.StepLemmas.{end_at, end_there, running_started, started-at, starts-there, in-steps, count_to-past, nth_that-at, nth_before, queue_shape, start_shape, is_queue-of, is_start-of, each_instance, instance_in, pairs_at}

module _ (tau : ℕ) (streams : List Stream) (until : ℕ) (steps : List Step) (tick : 1 ≤ tau) (ok : IsTraceOf tau streams until steps) where
  abbrev pub queues : ℕ → ℕ → ℕ
  queues id i = count_to (is_queue id) steps i

  abbrev pub starts : ℕ → ℕ → ℕ
  starts id i = count_to (is_start id) steps i

  pub here : (a q id event : ℕ) (frame : Content) → a < length steps → step_at steps a ≡ Queue id q event frame → Contains (instances steps) (instance steps a q id event frame)
  here a q id event frame l h = instance_in steps 0 steps (in-steps steps) a q id event frame (omega arith) (omega arith) h

  -- a fact of each instance
  pub of_each : (P : Instance → Type 0) → ((a q id event : ℕ) (frame : Content) → a < length steps → step_at steps a ≡ Queue id q event frame → P (instance steps a q id event frame)) → All P (instances steps)
  of_each P h = All-from_recursion P (instances steps) (each_instance steps 0 steps (in-steps steps) P (λ a q id event frame l k e. h a q id event frame (omega arith) e))

  pub later : (i j : ℕ) → i ≤ j → j < length steps → at_of (step_at steps i) ≤ at_of (step_at steps j)
  later i j l k = elim (cases_lt i j) [
    | inr e ↦ (let q : i ≡ j = omega arith in subst (λ n. at_of (step_at steps i) ≤ at_of (step_at steps n)) q (omega arith))
    | inl h ↦ elim (ok.ordered i j h k) [ inl a ↦ omega arith | inr b ↦ omega (arith, b.0) ]
  ]

  -- of two steps of one moment the one of lower rank stands first
  pub ranked : (i j : ℕ) → i < length steps → j < length steps → at_of (step_at steps i) ≤ at_of (step_at steps j) → rank_of (step_at steps i) < rank_of (step_at steps j) → i < j
  ranked i j l k o r = elim (cases_order i j) [
    | inr (inl v) ↦ v
    | inl v ↦ absurd (let e : rank_of (step_at steps i) ≡ rank_of (step_at steps j) = ap (λ n. rank_of (step_at steps n)) v in omega arith)
    | inr (inr v) ↦ absurd (elim (ok.ordered j i v l) [ inl z ↦ omega arith | inr z ↦ omega (arith, z.1) ])
  ]

  pub sooner : (i j : ℕ) → i < length steps → j < length steps → at_of (step_at steps i) < at_of (step_at steps j) → i < j
  sooner i j l k o = elim (cases_lt i j) [ inl v ↦ v | inr v ↦ absurd (let z = later j i v l in omega arith) ]

  pub takes : (a q id event : ℕ) (frame : Content) → a < length steps → step_at steps a ≡ Queue id q event frame → 1 ≤ frame.bits * tau
  takes a q id event frame l h = takes-time tau streams (instance steps a q id event frame) tick (All-contains (IsKnown streams) (instances steps) (instance steps a q id event frame) ok.legal.known (here a q id event frame l h))

  -- a start is of an instance
  pub paired : (b at id : ℕ) → b < length steps → step_at steps b ≡ Start id at →
      (a : ℕ) × (q : ℕ) × (event : ℕ) × (frame : Content) × (a < length steps) × (step_at steps a ≡ Queue id q event frame) × (queues id a ≡ starts id b) × (end_at tau steps b at id ≡ at + frame.bits * tau) × ((instance steps a q id event frame).start ≡ Some at)
  paired b at id l h =
      let c = count_to-past (is_start id) steps b (length steps) l l (is_start-of id (step_at steps b) at h) in
      let m = ok.no_more_starts id in
      let n = nth_before (is_queue id) steps (length steps) (starts id b) (omega arith) in
      let s = queue_shape id (step_at steps n.0) n.3 in
      (n.0, s.0, s.1, s.2, n.2, s.3, n.4, end_there tau steps n.0 b s.0 id s.1 s.2 at n.2 s.3 n.4, starts-there steps n.0 b s.0 at id s.1 s.2 l h n.4)

  -- two instances never run at one tick
  pub apart : (a q id event : ℕ) (frame : Content) (b q' id' event' : ℕ) (frame' : Content) (x : ℕ) → a < length steps → b < length steps → step_at steps a ≡ Queue id q event frame → step_at steps b ≡ Queue id' q' event' frame' →
      Runs tau (instance steps a q id event frame) x → Runs tau (instance steps b q' id' event' frame') x → a ≡ b
  apart a q id event frame b q' id' event' frame' x l k h g r s = elim (cases_order a b) [
    | inl v ↦ v
    | inr (inl v) ↦ absurd (pairs_at steps 0 steps (in-steps steps) (λ y z. (x : ℕ) → Runs tau y x → Runs tau z x → ⊥) (Pairs-from_AllPairs (λ y z. (x : ℕ) → Runs tau y x → Runs tau z x → ⊥) (instances steps) ok.legal.one_at_a_time) a q id event frame b q' id' event' frame' (omega arith) v (omega arith) h g x r s)
    | inr (inr v) ↦ absurd (pairs_at steps 0 steps (in-steps steps) (λ y z. (x : ℕ) → Runs tau y x → Runs tau z x → ⊥) (Pairs-from_AllPairs (λ y z. (x : ℕ) → Runs tau y x → Runs tau z x → ⊥) (instances steps) ok.legal.one_at_a_time) b q' id' event' frame' a q id event frame (omega arith) v (omega arith) g h x s r)
  ]

  -- of two starts the later comes after the earlier one's end
  pub starts_apart : (b c at at' id id' : ℕ) → b < c → c < length steps → step_at steps b ≡ Start id at → step_at steps c ≡ Start id' at' → (end_at tau steps b at id ≤ at') × (at < at')
  starts_apart b c at at' id id' l k h g =
      let p = paired b at id (omega arith) h in
      let r = paired c at' id' k g in
      let t = takes p.0 p.1 id p.2 p.3 p.4 p.5 in
      let u = takes r.0 r.1 id' r.2 r.3 r.4 r.5 in
      let o = later b c (omega arith) k in
      let x : at_of (step_at steps b) ≡ at = ap at_of h in
      let y : at_of (step_at steps c) ≡ at' = ap at_of g in
      let w : end_at tau steps b at id ≤ at' = elim (cases_lt at' (end_at tau steps b at id)) [
        | inr v ↦ v
        | inl v ↦ absurd (let e = apart p.0 p.1 id p.2 p.3 r.0 r.1 id' r.2 r.3 at' p.4 r.4 p.5 r.5 (at, p.8, omega arith, omega (arith, p.7)) (at', r.8, omega arith, omega arith) in
            let z : Queue id p.1 p.2 p.3 ≡ Queue id' r.1 r.2 r.3 = sym p.5 ∙ ap (step_at steps) e ∙ r.5 in
            let i : id ≡ id' = cc in
            let m : starts id b ≡ starts id' c = sym p.6 ∙ ap (λ n. queues id n) e ∙ ap (λ n. queues n r.0) i ∙ r.6 in
            let n : starts id c ≡ starts id' c = ap (λ n. starts n c) i in
            let f = count_to-past (is_start id) steps b c l (omega arith) (is_start-of id (step_at steps b) at h) in
            omega (arith, m, n, f))
      ] in
      (w, omega (arith, p.7))

  -- an end is that of a start before it
  pub end_start : (i at id : ℕ) → i < length steps → step_at steps i ≡ End id at → (b : ℕ) × (s : ℕ) × (b < i) × (step_at steps b ≡ Start id s) × (end_at tau steps b s id ≡ at)
  end_start i at id l h =
      let e = ok.ends_are i at id l h in
      All-contains (λ y. y.id ≡ id → (s : ℕ) × (y.start ≡ Some s) × (s + y.bits * tau ≡ at) → (b : ℕ) × (s : ℕ) × (b < i) × (step_at steps b ≡ Start id s) × (end_at tau steps b s id ≡ at)) (instances steps) e.1
      (of_each (λ y. y.id ≡ id → (s : ℕ) × (y.start ≡ Some s) × (s + y.bits * tau ≡ at) → (b : ℕ) × (s : ℕ) × (b < i) × (step_at steps b ≡ Start id s) × (end_at tau steps b s id ≡ at)) one)
      (e.0, e.2, e.3) e.4.0 e.4.1
    where
      one : (a q k event : ℕ) (frame : Content) → a < length steps → step_at steps a ≡ Queue k q event frame → k ≡ id →
          (s : ℕ) × ((instance steps a q k event frame).start ≡ Some s) × (s + frame.bits * tau ≡ at) → (b : ℕ) × (s : ℕ) × (b < i) × (step_at steps b ≡ Start id s) × (end_at tau steps b s id ≡ at)
      one a q k event frame m g f w =
          let v = started-at steps a q k event frame w.0 w.1 in
          let z = end_there tau steps a v.0 q k event frame w.0 m g (sym v.3) in
          let t = takes a q k event frame m g in
          let x : at_of (step_at steps v.0) ≡ w.0 = ap at_of v.2 in
          let y : at_of (step_at steps i) ≡ at = ap at_of h in
          (v.0, w.0, sooner v.0 i v.1 l (omega (arith, w.2)), v.2 ∙ ap (λ n. Start n w.0) f, sym (ap (λ n. end_at tau steps v.0 w.0 n) f) ∙ z ∙ w.2)

  -- while a transfer runs, instances are queued alone
  pub quiet_between : (b c at id : ℕ) → b < c → c < length steps → step_at steps b ≡ Start id at → at_of (step_at steps c) < end_at tau steps b at id → rank_of (step_at steps c) ≡ 1
  quiet_between b c at id l k h v = go (step_at steps c) refl
    where
      go : (x : Step) → step_at steps c ≡ x → rank_of (step_at steps c) ≡ 1
      go (Queue n at' event frame) q = ap rank_of q
      go (Start n at') q = absurd (let w = starts_apart b c at at' id n l k h q in let y : at_of (step_at steps c) ≡ at' = ap at_of q in omega (arith, w.0))
      go (End n at') q = absurd (
          let e = end_start c at' n k q in
          let y : at_of (step_at steps c) ≡ at' = ap at_of q in
          let x : at_of (step_at steps b) ≡ at = ap at_of h in
          elim (cases_order e.0 b) [
            | inl g ↦ (let z : Start n e.1 ≡ Start id at = sym e.3 ∙ ap (step_at steps) g ∙ h in
                let i : n ≡ id = cc in let j : e.1 ≡ at = cc in
                let m : end_at tau steps e.0 e.1 n ≡ end_at tau steps b at id = ap (λ d. end_at tau steps d e.1 n) g ∙ ap (λ d. end_at tau steps b d n) j ∙ ap (λ d. end_at tau steps b at d) i in
                omega (arith, e.4))
            | inr (inl g) ↦ (let w = starts_apart e.0 b e.1 at n id g (omega arith) e.3 h in
                let r : rank_of (step_at steps c) ≡ 0 = ap rank_of q in let s : rank_of (step_at steps b) ≡ 2 = ap rank_of h in
                let o = ranked c b k (omega arith) (omega (arith, w.0, e.4)) (omega arith) in omega arith)
            | inr (inr g) ↦ (let w = starts_apart b e.0 at e.1 id n g (omega (arith, e.2)) h e.3 in
                let p = paired e.0 e.1 n (omega (arith, e.2)) e.3 in
                omega (arith, w.0, e.4, p.7))
          ])

  -- a transfer that was started runs as long as instances are queued alone
  pub still_runs : (b at id : ℕ) → step_at steps b ≡ Start id at → (d : ℕ) → ((c : ℕ) → b < c → c < suc b + d → rank_of (step_at steps c) ≡ 1) → running tau steps (suc b + d) ≡ Some (id, end_at tau steps b at id)
  still_runs b at id h zero q = let e : suc b + 0 ≡ suc b = omega arith in
      subst (λ n. running tau steps n ≡ Some (id, end_at tau steps b at id)) (sym e) (ap (λ x. after tau steps b x (running tau steps b)) h)
  still_runs b at id h (suc d) q =
      let e : suc b + suc d ≡ suc (suc b + d) = omega arith in
      subst (λ n. running tau steps n ≡ Some (id, end_at tau steps b at id)) (sym e)
      (go (step_at steps (suc b + d)) refl (q (suc b + d) (omega arith) (omega arith)) (still_runs b at id h d (λ c l k. q c l (omega arith))))
    where
      go : (x : Step) → step_at steps (suc b + d) ≡ x → rank_of (step_at steps (suc b + d)) ≡ 1 → running tau steps (suc b + d) ≡ Some (id, end_at tau steps b at id) →
          after tau steps (suc b + d) (step_at steps (suc b + d)) (running tau steps (suc b + d)) ≡ Some (id, end_at tau steps b at id)
      go (Queue k at' event frame) f r i = ap (λ x. after tau steps (suc b + d) x (running tau steps (suc b + d))) f ∙ i
      go (Start k at') f r i = absurd (let z : rank_of (step_at steps (suc b + d)) ≡ 2 = ap rank_of f in omega arith)
      go (End k at') f r i = absurd (let z : rank_of (step_at steps (suc b + d)) ≡ 0 = ap rank_of f in omega arith)

  pub runs_to : (b i at id : ℕ) → step_at steps b ≡ Start id at → b < i → ((c : ℕ) → b < c → c < i → rank_of (step_at steps c) ≡ 1) → running tau steps i ≡ Some (id, end_at tau steps b at id)
  runs_to b i at id h l q =
      let e : suc b + (i - suc b) ≡ i = omega arith in
      subst (λ n. running tau steps n ≡ Some (id, end_at tau steps b at id)) e (still_runs b at id h (i - suc b) (λ c m k. q c m (omega arith)))

  -- each end that falls by the last moment is there, after its start
  pub end_there' : (b at id : ℕ) → b < length steps → step_at steps b ≡ Start id at → end_at tau steps b at id ≤ until →
      (i : ℕ) × (i < length steps) × (step_at steps i ≡ End id (end_at tau steps b at id)) × (b < i)
  end_there' b at id l h u =
      let p = paired b at id l h in
      let t = takes p.0 p.1 id p.2 p.3 p.4 p.5 in
      let e = All-contains (λ y. ForSome y.start (λ s. s + y.bits * tau ≤ until → (i : ℕ) × (i < length steps) × (step_at steps i ≡ End y.id (s + y.bits * tau)))) (instances steps) (instance steps p.0 p.1 id p.2 p.3) ok.each_end (here p.0 p.1 id p.2 p.3 p.4 p.5) at p.8 (omega (arith, p.7)) in
      let g : step_at steps e.0 ≡ End id (end_at tau steps b at id) = e.2 ∙ ap (λ n. End id n) (sym p.7) in
      let x : at_of (step_at steps b) ≡ at = ap at_of h in
      let y : at_of (step_at steps e.0) ≡ end_at tau steps b at id = ap at_of g in
      (e.0, e.1, g, sooner b e.0 l e.1 (omega (arith, p.7)))

  pub end_due : (i at id : ℕ) → i < length steps → step_at steps i ≡ End id at → running tau steps i ≡ Some (id, at)
  end_due i at id l h =
      let e = end_start i at id l h in
      let x : at_of (step_at steps i) ≡ at = ap at_of h in
      runs_to e.0 i e.1 id e.3 e.2 (λ c m k. (
      let o = later c i (omega arith) l in
      elim (cases_lt (at_of (step_at steps c)) at) [
        | inl v ↦ quiet_between e.0 c e.1 id m (omega arith) e.3 (omega (arith, e.4))
        | inr v ↦ absurd (elim (ok.ordered c i k l) [
          | inl z ↦ omega arith
          | inr z ↦ (let r : rank_of (step_at steps i) ≡ 0 = ap rank_of h in ended c k (omega arith) (step_at steps c) refl (omega (arith, z.1)))
        ])
      ]))
      ∙ ap (λ n. Some (id, n)) e.4
    where
      ended : (c : ℕ) → c < i → at_of (step_at steps c) ≡ at → (x : Step) → step_at steps c ≡ x → rank_of (step_at steps c) ≤ 0 → ⊥
      ended c m o (End n at') q r = let z = ok.ends_once c i at' at n id m l q h in let y : at_of (step_at steps c) ≡ at' = ap at_of q in omega arith
      ended c m o (Start n at') q r = let y : rank_of (step_at steps c) ≡ 2 = ap rank_of q in omega arith
      ended c m o (Queue n at' event frame) q r = let y : rank_of (step_at steps c) ≡ 1 = ap rank_of q in omega arith

  pub start_free : (c at id : ℕ) → c < length steps → step_at steps c ≡ Start id at → running tau steps c ≡ None
  start_free c at id l h = go (running tau steps c) refl
    where
      go : (r : Option (ℕ × ℕ)) → running tau steps c ≡ r → running tau steps c ≡ None
      go None e = e
      go (Some p) e = absurd (
          let r = running_started tau steps c p.0 p.1 (omega arith) e in
          let w = starts_apart r.0 c r.1 at p.0 id r.2 l r.3 h in
          let u = ok.by_end c l in
          let x : at_of (step_at steps c) ≡ at = ap at_of h in
          let z = end_there' r.0 r.1 p.0 (omega (arith, r.2)) r.3 (omega (arith, w.0)) in
          let y : at_of (step_at steps z.0) ≡ end_at tau steps r.0 r.1 p.0 = ap at_of z.2 in
          let s : rank_of (step_at steps z.0) ≡ 0 = ap rank_of z.2 in
          let t : rank_of (step_at steps c) ≡ 2 = ap rank_of h in
          let o = ranked z.0 c z.1 l (omega (arith, w.0)) (omega arith) in
          let q = r.5 z.0 z.3 o in
          omega arith)

  pub none_missing : (i id e : ℕ) → i < length steps → running tau steps i ≡ Some (id, e) → (at_of (step_at steps i) < e) ⊎ (step_at steps i ≡ End id e)
  none_missing i id e l h = elim (cases_lt (at_of (step_at steps i)) e) [
    | inl v ↦ inl v
    | inr v ↦ (
        let r = running_started tau steps i id e (omega arith) h in
        let u = ok.by_end i l in
        let z = end_there' r.0 r.1 id (omega (arith, r.2)) r.3 (omega (arith, r.4)) in
        let y : at_of (step_at steps z.0) ≡ end_at tau steps r.0 r.1 id = ap at_of z.2 in
        let s : rank_of (step_at steps z.0) ≡ 0 = ap rank_of z.2 in
        let f : step_at steps z.0 ≡ End id e = z.2 ∙ ap (λ n. End id n) (sym r.4) in
        elim (cases_order z.0 i) [
          | inl g ↦ inr (sym (ap (step_at steps) g) ∙ f)
          | inr (inl g) ↦ absurd (let q = r.5 z.0 z.3 g in omega arith)
          | inr (inr g) ↦ absurd (elim (ok.ordered i z.0 g z.1) [
            | inl k ↦ omega (arith, r.4)
            | inr k ↦ ended z.0 g z.1 f (step_at steps i) refl (omega (arith, k.1)) v
          ])
        ])
  ]
    where
      ended : (c : ℕ) → i < c → c < length steps → step_at steps c ≡ End id e → (x : Step) → step_at steps i ≡ x → rank_of (step_at steps i) ≤ 0 → e ≤ at_of (step_at steps i) → ⊥
      ended c m n f (End k at') q r v = let z = ok.ends_once i c at' e k id m n q f in let y : at_of (step_at steps i) ≡ at' = ap at_of q in omega arith
      ended c m n f (Start k at') q r v = let y : rank_of (step_at steps i) ≡ 2 = ap rank_of q in omega arith
      ended c m n f (Queue k at' event frame) q r v = let y : rank_of (step_at steps i) ≡ 1 = ap rank_of q in omega arith

  pub last_missing : (id e : ℕ) → running tau steps (length steps) ≡ Some (id, e) → until < e
  last_missing id e h = elim (cases_lt until e) [
    | inl v ↦ v
    | inr v ↦ absurd (
        let r = running_started tau steps (length steps) id e (omega arith) h in
        let z = end_there' r.0 r.1 id r.2 r.3 (omega (arith, r.4)) in
        let s : rank_of (step_at steps z.0) ≡ 0 = ap rank_of z.2 in
        let q = r.5 z.0 z.3 z.1 in omega arith)
  ]

  -- a stream of which an instance waits after the first i steps has one that is queued there and starts later, if at all
  pub waits_index : (i k : ℕ) → i ≤ length steps → WaitsAfter steps i k →
      (a : ℕ) × (q : ℕ) × (event : ℕ) × (frame : Content) × (a < i) × (step_at steps a ≡ Queue k q event frame) ×
      ((t : ℕ) → (instance steps a q k event frame).start ≡ Some t → (v : ℕ) × (i ≤ v) × (v < length steps) × (step_at steps v ≡ Start k t))
  waits_index i k l w =
      let n = nth_before (is_queue k) steps i (starts k i) w in
      let s = queue_shape k (step_at steps n.0) n.3 in (
        n.0,
        s.0,
        s.1,
        s.2,
        n.1,
        s.3,
        λ t e. (
            let v = started-at steps n.0 s.0 k s.1 s.2 t e in
            elim (cases_lt v.0 i) [
              | inl r ↦ absurd (let p = count_to-past (is_start k) steps v.0 i r v.1 (is_start-of k (step_at steps v.0) t v.2) in omega (arith, v.3, n.4))
              | inr r ↦ (v.0, r, v.1, v.2)
            ]),
      )

  pub start_lowest : (i at id : ℕ) → i < length steps → step_at steps i ≡ Start id at → (k : ℕ) → WaitsAfter steps i k → id ≤ k
  start_lowest i at id l h k w =
      let p = paired i at id l h in
      let n = waits_index i k (omega arith) w in
      let x : at_of (step_at steps i) ≡ at = ap at_of h in
      let y : at_of (step_at steps n.0) ≡ n.1 = ap at_of n.5 in
      let o = later n.0 i (omega (arith, n.4)) l in
      All-contains (λ z. Waits z at → id ≤ z.id) (instances steps) (instance steps n.0 n.1 k n.2 n.3)
      (All-contains (λ y. ForSome y.start (λ s. All (λ z. Waits z s → y.id ≤ z.id) (instances steps))) (instances steps) (instance steps p.0 p.1 id p.2 p.3) ok.legal.by_priority (here p.0 p.1 id p.2 p.3 p.4 p.5) at p.8)
      (here n.0 n.1 k n.2 n.3 (omega (arith, n.4)) n.5)
      (omega arith, λ t e. (let v = n.6 t e in let u = later i v.0 v.1 v.2 in let f : at_of (step_at steps v.0) ≡ t = ap at_of v.3 in omega arith))

  pub start_asked : (i at id : ℕ) → i < length steps → step_at steps i ≡ Start id at → (k : ℕ) × WaitsAfter steps i k
  start_asked i at id l h =
      let p = paired i at id l h in
      let w = All-contains (λ y. ForSome y.start (λ s. Any (λ z. Waits z s) (instances steps))) (instances steps) (instance steps p.0 p.1 id p.2 p.3) ok.legal.asked_for (here p.0 p.1 id p.2 p.3 p.4 p.5) at p.8 in
      All-contains (λ z. Waits z at → (k : ℕ) × WaitsAfter steps i k) (instances steps) w.1 (of_each (λ z. Waits z at → (k : ℕ) × WaitsAfter steps i k) one) (w.0, w.2, w.3) w.4
    where
      one : (a q k event : ℕ) (frame : Content) → a < length steps → step_at steps a ≡ Queue k q event frame → Waits (instance steps a q k event frame) at → (k : ℕ) × WaitsAfter steps i k
      one a q k event frame m g w =
          let x : at_of (step_at steps i) ≡ at = ap at_of h in
          let y : at_of (step_at steps a) ≡ q = ap at_of g in
          let s : rank_of (step_at steps a) ≡ 1 = ap rank_of g in
          let t : rank_of (step_at steps i) ≡ 2 = ap rank_of h in
          let r = ranked a i m l (omega (arith, w.0)) (omega arith) in
          let p = count_to-past (is_queue k) steps a i r m (is_queue-of k (step_at steps a) q event frame g) in
          elim (cases_lt (queues k a) (starts k i)) [
            | inr v ↦ (k, omega arith)
            | inl v ↦ absurd (
                let n = nth_before (is_start k) steps i (queues k a) v in
                let s = start_shape k (step_at steps n.0) n.3 in
                let t = starts-there steps a n.0 q s.0 k event frame n.2 s.1 (sym n.4) in
                let u = w.1 s.0 t in
                let z = starts_apart n.0 i s.0 at k id n.1 l s.1 h in omega (arith, z.1))
          ]

  pub start_has : (i at id : ℕ) → i < length steps → step_at steps i ≡ Start id at →
      (q event : ℕ) × (frame : Content) × (nth_that (is_queue id) (starts id i) steps ≡ Some (Queue id q event frame)) × (q < at + tau)
  start_has i at id l h =
      let p = paired i at id l h in
      let n = nth_that-at (is_queue id) steps p.0 p.4 (is_queue-of id (step_at steps p.0) p.1 p.2 p.3 p.5) in
      let j = All-contains (λ y. ForSome y.start (λ s. y.queued < s + tau)) (instances steps) (instance steps p.0 p.1 id p.2 p.3) ok.legal.joined (here p.0 p.1 id p.2 p.3 p.4 p.5) at p.8 in
      (p.1, p.2, p.3, ap (λ j. nth_that (is_queue id) j steps) (sym p.6) ∙ n ∙ ap Some p.5, j)

  -- where something waits and nothing runs after the first i + 1 steps, no tick follows
  pub no_tick : (i k : ℕ) → suc i ≤ length steps → running tau steps (suc i) ≡ None → WaitsAfter steps (suc i) k → at_of (step_at steps i) < until →
      ((v : ℕ) → suc i ≤ v → v < length steps → at_of (step_at steps i) < at_of (step_at steps v)) → ⊥
  no_tick i k l none w ends after' =
      let n = waits_index (suc i) k l w in
      let y : at_of (step_at steps n.0) ≡ n.1 = ap at_of n.5 in
      let o = later n.0 i (omega (arith, n.4)) (omega arith) in
      let r = All-contains (λ z. Waits z (at_of (step_at steps i)) → Any (λ y. Runs tau y (at_of (step_at steps i))) (instances steps)) (instances steps) (instance steps n.0 n.1 k n.2 n.3)
      (ok.legal.never_idle (at_of (step_at steps i)) ends) (here n.0 n.1 k n.2 n.3 (omega (arith, n.4)) n.5)
      (omega arith, λ t e. (let v = n.6 t e in let u = after' v.0 v.1 v.2 in let f : at_of (step_at steps v.0) ≡ t = ap at_of v.3 in omega arith)) in
      All-contains (λ y. Runs tau y (at_of (step_at steps i)) → ⊥) (instances steps) r.1 (of_each (λ y. Runs tau y (at_of (step_at steps i)) → ⊥) one) (r.0, r.2, r.3) r.4
    where
      one : (a q id event : ℕ) (frame : Content) → a < length steps → step_at steps a ≡ Queue id q event frame → Runs tau (instance steps a q id event frame) (at_of (step_at steps i)) → ⊥
      one a q id event frame m g r =
          let b = started-at steps a q id event frame r.0 r.1 in
          let z = end_there tau steps a b.0 q id event frame r.0 m g (sym b.3) in
          let x : at_of (step_at steps b.0) ≡ r.0 = ap at_of b.2 in
          let before : b.0 < suc i = elim (cases_lt b.0 (suc i)) [ inl v ↦ v | inr v ↦ absurd (let u = after' b.0 v b.1 in omega (arith, r.2)) ] in
          let s = runs_to b.0 (suc i) r.0 id b.2 before (λ c f k. (let o = later c i (omega arith) (omega arith) in quiet_between b.0 c r.0 id f (omega arith) b.2 (omega (arith, r.3)))) in
          absurd (cc)

  pub not_idle : (i k : ℕ) → suc i < length steps → running tau steps (suc i) ≡ None → WaitsAfter steps (suc i) k → at_of (step_at steps (suc i)) ≤ at_of (step_at steps i)
  not_idle i k l none w = elim (cases_lt (at_of (step_at steps i)) (at_of (step_at steps (suc i)))) [
    | inr v ↦ v
    | inl v ↦ absurd (let u = ok.by_end (suc i) l in no_tick i k (omega arith) none w (omega arith) (λ j m n. (let o = later (suc i) j m n in omega arith)))
  ]

  pub last_not_idle : (i k : ℕ) → suc i ≡ length steps → running tau steps (suc i) ≡ None → WaitsAfter steps (suc i) k → until ≤ at_of (step_at steps i)
  last_not_idle i k e none w = elim (cases_lt (at_of (step_at steps i)) until) [
    | inr v ↦ v
    | inl v ↦ absurd (no_tick i k (omega arith) none w v (λ j m n. absurd (omega arith)))
  ]

  -- THE TRACE OF A LEGAL RUN BREAKS NO RULE
  pub obeys : Obeys tau streams until steps
  obeys = record {
    ordered = ok.ordered;
    by_end = ok.by_end;
    known = λ i at id event frame l h. All-contains (IsKnown streams) (instances steps) (instance steps i at id event frame) ok.legal.known (here i at id event frame l h);
    start_free = start_free;
    end_due = end_due;
    none_missing = none_missing;
    last_missing = last_missing;
    start_asked = start_asked;
    start_has = start_has;
    start_lowest = start_lowest;
    not_idle = not_idle;
    last_not_idle = last_not_idle;
  }
