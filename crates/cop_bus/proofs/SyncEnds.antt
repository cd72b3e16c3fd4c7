-- The SYNC that has a number in a trace is the one that has it in the trace's run, and ends where that one's transfer does.
use Rattle.std.proofs.Common.{◌≡◌, ◌∙◌, ℕ, zero, suc, ◌+◌, ◌-◌, ◌*◌, ◌≤◌, ◌<◌, inl, inr, List, [], ◌∷◌, length, slice_get, Some, refl, sym, ap, subst, arith, Bool, true, false, cond}
use Rattle.std.specs.Prelude.{filter, ◌==◌, if◌then◌else◌}
use Rattle.std.proofs.lemmas.Bool.{cases_lt, cases_order}
use Rattle.cop_rta.specs.declared.streams.Stream.{Stream}
use Rattle.cop_rta.specs.Test.{sync_id}
use Rattle.cop_bus.specs.declared.steps.Step.{Step}
use Rattle.cop_bus.specs.declared.steps.Content.{Content}
use Rattle.cop_bus.specs.declared.steps.Step.TheVariants.{Queue, Start, End}
use Rattle.cop_bus.specs.Run.{Instance, IsSync}
use Rattle.cop_bus.specs.Trace.{at_of, rank_of, is_queue, is_start, count_to, nth_that, step_at, moment_of, running, instance, instances, instances_from}
use Rattle.cop_bus.specs.Ends.{is_end, event_in, HasEnded, runs_of}
use Rattle.cop_bus.proofs.Indexed.{Obeys}
use Rattle.cop_bus.proofs.Work.{true-eq, eq-true}
use Rattle.cop_bus.proofs.StepLemmas.{same_some, moment-some, count_to-suc, count_to-past, nth_that-some, nth_that-at, is_queue-of, IsRest, rest_tail, in-steps, end_at, end_there, running_started}
use Rattle.cop_bus.proofs.Balanced.{Balance, balance_all, end_shape}
use Rattle.cop_bus.proofs.Judged as Judged

-- the instance of a queue step has its number
pub number_is : (id : ℕ) (steps : List Step) (i : ℕ) (rest : List Step) → IsRest steps i rest → (b q event : ℕ) (frame : Content) → b < length rest → step_at rest b ≡ Queue id q event frame →
    slice_get (filter (λ y. y.id == id) (instances_from steps i rest)) (count_to (is_queue id) rest b) ≡ Some (instance steps (i + b) q id event frame)
number_is id steps i [] same b q event frame l e = absurd (omega arith)
number_is id steps i (x ∷ rest) same zero q event frame l e =
    let n : i ≡ i + 0 = omega arith in
    subst (λ x. slice_get (filter (λ y. y.id == id) (instances_from steps i (x ∷ rest))) 0 ≡ Some (instance steps (i + 0) q id event frame)) (sym e)
    (subst (λ k. slice_get (filter (λ y. y.id == id) (instance steps i q id event frame ∷ instances_from steps (suc i) rest)) 0 ≡ Some (instance steps k q id event frame)) n
    (ap (λ b. slice_get (cond b (instance steps i q id event frame ∷ filter (λ y. y.id == id) (instances_from steps (suc i) rest)) (filter (λ y. y.id == id) (instances_from steps (suc i) rest))) 0) (eq-true id id refl)))
number_is id steps i (x ∷ rest) same (suc b) q event frame l e =
    let n : suc i + b ≡ i + suc b = omega arith in
    go x (subst (λ k. slice_get (filter (λ y. y.id == id) (instances_from steps (suc i) rest)) (count_to (is_queue id) rest b) ≡ Some (instance steps k q id event frame)) n
    (number_is id steps (suc i) rest (rest_tail steps i x rest same) b q event frame (omega arith) e))
  where
    none : (c : ℕ) → slice_get (filter (λ y. y.id == id) (instances_from steps (suc i) rest)) c ≡ Some (instance steps (i + suc b) q id event frame) → slice_get (filter (λ y. y.id == id) (instances_from steps (suc i) rest)) (0 + c) ≡ Some (instance steps (i + suc b) q id event frame)
    none c r = let m : 0 + c ≡ c = omega arith in rw m r

    own : (v : Bool) (y : Instance) → slice_get (filter (λ y. y.id == id) (instances_from steps (suc i) rest)) (count_to (is_queue id) rest b) ≡ Some (instance steps (i + suc b) q id event frame) →
        slice_get (cond v (y ∷ filter (λ y. y.id == id) (instances_from steps (suc i) rest)) (filter (λ y. y.id == id) (instances_from steps (suc i) rest))) ((if v then 1 else 0) + count_to (is_queue id) rest b) ≡ Some (instance steps (i + suc b) q id event frame)
    own true y r = let m : 1 + count_to (is_queue id) rest b ≡ suc (count_to (is_queue id) rest b) = omega arith in rw m r
    own false y r = let m : 0 + count_to (is_queue id) rest b ≡ count_to (is_queue id) rest b = omega arith in rw m r

    go : (x : Step) → slice_get (filter (λ y. y.id == id) (instances_from steps (suc i) rest)) (count_to (is_queue id) rest b) ≡ Some (instance steps (i + suc b) q id event frame) →
        slice_get (filter (λ y. y.id == id) (instances_from steps i (x ∷ rest))) (count_to (is_queue id) (x ∷ rest) (suc b)) ≡ Some (instance steps (i + suc b) q id event frame)
    go (Queue k at event' frame') r = own (k == id) (instance steps i at k event' frame') r
    go (Start k at) r = none (count_to (is_queue id) rest b) r
    go (End k at) r = none (count_to (is_queue id) rest b) r

abbrev Found : ℕ → List Step → Instance → List Step → ℕ → ℕ → Type 0
Found id steps y rest i a = (b : ℕ) × (q : ℕ) × (event : ℕ) × (frame : Content) × (b < length rest) × (step_at rest b ≡ Queue id q event frame) × (count_to (is_queue id) rest b ≡ a) × (y ≡ instance steps (i + b) q id event frame)

-- and each that has a number is that of a queue step
pub of_number : (id : ℕ) (steps : List Step) (i : ℕ) (rest : List Step) → IsRest steps i rest → (a : ℕ) (y : Instance) → slice_get (filter (λ y. y.id == id) (instances_from steps i rest)) a ≡ Some y →
    (b : ℕ) × (q : ℕ) × (event : ℕ) × (frame : Content) × (b < length rest) × (step_at rest b ≡ Queue id q event frame) × (count_to (is_queue id) rest b ≡ a) × (y ≡ instance steps (i + b) q id event frame)
of_number id steps i [] same a y e = absurd (cc)
of_number id steps i (x ∷ rest) same a y e = go x e (λ n d. of_number id steps (suc i) rest (rest_tail steps i x rest same) n y d)
  where
    later : (x : Step) (v a n : ℕ) → (if is_queue id x then 1 else 0) ≡ v → a ≡ v + n → Found id steps y rest (suc i) n → Found id steps y (x ∷ rest) i a
    later x v a n t s r = (
      suc r.0,
      r.1,
      r.2,
      r.3,
      omega (arith, r.4),
      r.5,
      (let c = r.6 in omega (arith, t, s, c)),
      r.7 ∙ ap (λ k. instance steps k r.1 id r.2 r.3) (let m : suc i + r.0 ≡ i + suc r.0 = omega arith in m),
    )

    queue : (k at event' : ℕ) (frame' : Content) (v : Bool) (a : ℕ) → (k == id) ≡ v →
        slice_get (cond v (instance steps i at k event' frame' ∷ filter (λ y. y.id == id) (instances_from steps (suc i) rest)) (filter (λ y. y.id == id) (instances_from steps (suc i) rest))) a ≡ Some y →
        ((n : ℕ) → slice_get (filter (λ y. y.id == id) (instances_from steps (suc i) rest)) n ≡ Some y → Found id steps y rest (suc i) n) → Found id steps y (Queue k at event' frame' ∷ rest) i a
    queue k at event' frame' true zero t e f =
        let s : k ≡ id = true-eq k id t in
        let d : instance steps i at k event' frame' ≡ y = same_some (instance steps i at k event' frame') y e in
        let n : i ≡ i + 0 = omega arith in
        (0, at, event', frame', omega arith, ap (λ k. Queue k at event' frame') s, refl, sym d ∙ ap (λ k. instance steps i at k event' frame') s ∙ ap (λ j. instance steps j at id event' frame') n)
    queue k at event' frame' true (suc n) t e f = later (Queue k at event' frame') 1 (suc n) n (ap (λ b. if b then 1 else 0) t) (omega arith) (f n e)
    queue k at event' frame' false a t e f = later (Queue k at event' frame') 0 a a (ap (λ b. if b then 1 else 0) t) (omega arith) (f a e)

    go : (x : Step) → slice_get (filter (λ y. y.id == id) (instances_from steps i (x ∷ rest))) a ≡ Some y →
        ((n : ℕ) → slice_get (filter (λ y. y.id == id) (instances_from steps (suc i) rest)) n ≡ Some y → Found id steps y rest (suc i) n) → Found id steps y (x ∷ rest) i a
    go (Queue k at event' frame') e f = queue k at event' frame' (k == id) a refl e f
    go (Start k at) e f = later (Start k at) 0 a a refl (omega arith) (f a e)
    go (End k at) e f = later (End k at) 0 a a refl (omega arith) (f a e)

-- ---- ends by their numbers

-- where none passes a count stays
still : (p : Step → Bool) (steps : List Step) (b d : ℕ) → suc b + d ≤ length steps → ((c : ℕ) → b < c → c < suc b + d → p (step_at steps c) ≡ false) → count_to p steps (suc b + d) ≡ count_to p steps (suc b)
still p steps b zero l h = let e : suc b + 0 ≡ suc b = omega arith in ap (count_to p steps) e
still p steps b (suc d) l h =
    let e : suc b + suc d ≡ suc (suc b + d) = omega arith in
    let r = still p steps b d (omega arith) (λ c m n. h c m (omega arith)) in
    let s = count_to-suc p steps (suc b + d) (omega arith) in
    let z : cond {A = ℕ} (p (step_at steps (suc b + d))) 1 0 ≡ 0 = ap (λ v. cond {A = ℕ} v 1 0) (h (suc b + d) (omega arith) (omega arith)) in
    ap (count_to p steps) e ∙ s ∙ omega (arith, r, z)

module _ (tau : ℕ) (streams : List Stream) (until : ℕ) (steps : List Step) (tick : 1 ≤ tau) (obeys : Obeys tau streams until steps) where
  -- of a stream as many have started as have ended, and one more while one runs
  pub balanced : (id i : ℕ) → i ≤ length steps → Balance tau steps id i
  balanced id i l = balance_all tau steps i l (λ j at k m e. obeys.start_free j at k (omega arith) e) (λ j at k m e. obeys.end_due j at k (omega arith) e) id i (omega arith)

  -- an end is that of the transfer whose start has its number
  pub end_number : (c id e : ℕ) → c < length steps → step_at steps c ≡ End id e →
      (b : ℕ) × (at : ℕ) × (b < c) × (step_at steps b ≡ Start id at) × (e ≡ end_at tau steps b at id) × (count_to (is_start id) steps b ≡ count_to (is_end id) steps c)
  end_number c id e l h =
      let due = obeys.end_due c e id l h in
      let r = running_started tau steps c id e (omega arith) due in
      let b = r.0 in
      let n : suc b + (c - suc b) ≡ c = let m = r.2 in omega (arith, m) in
      let s = still (is_start id) steps b (c - suc b) (omega (arith, n, l)) (λ k m o. no_start (step_at steps k) (r.5 k m (omega (arith, o, n)))) in
      let s' : count_to (is_start id) steps c ≡ count_to (is_start id) steps (suc b) = subst (λ n. count_to (is_start id) steps n ≡ count_to (is_start id) steps (suc b)) n s in
      let u = count_to-suc (is_start id) steps b (omega (arith, r.2, l)) in
      let one : cond {A = ℕ} (is_start id (step_at steps b)) 1 0 ≡ 1 = ap (λ x. cond {A = ℕ} (is_start id x) 1 0) r.3 ∙ ap (λ v. cond {A = ℕ} v 1 0) (eq-true id id refl) in
      let w = balanced id c (omega arith) in
      let o : runs_of id (running tau steps c) ≡ 1 = ap (runs_of id) due ∙ ap (λ v. cond {A = ℕ} v 1 0) (eq-true id id refl) in
      (b, r.1, r.2, r.3, r.4, omega (arith, s', u, one, w, o))
    where
      no_start : (x : Step) → rank_of x ≡ 1 → is_start id x ≡ false
      no_start (Queue k at event frame) z = refl
      no_start (Start k at) z = absurd (cc)
      no_start (End k at) z = refl

  -- what has ended in the trace is a SYNC of its run
  pub ended_is_sync : (i a event ended : ℕ) → HasEnded steps i a event ended → IsSync tau until (instances steps) a event ended
  ended_is_sync i a event ended h =
      let m = moment-some (nth_that (is_end sync_id) a steps) ended h.ended_is in
      let n = nth_that-some (is_end sync_id) a steps m.0 m.1 in
      let c = n.0 in
      let s = end_shape sync_id m.0 n.3 in
      let at_end : s.0 ≡ ended = sym (ap at_of s.1) ∙ m.2 in
      let here : step_at steps c ≡ End sync_id s.0 = n.2 ∙ s.1 in
      let e = end_number c sync_id s.0 n.1 here in
      let p = Judged.paired tau streams until steps tick obeys e.0 e.1 sync_id (omega (arith, e.2, n.1)) e.3 in
      let number : count_to (is_queue sync_id) steps p.0 ≡ a = p.6 ∙ e.5 ∙ n.4 in
      let queue : nth_that (is_queue sync_id) a steps ≡ Some (Queue sync_id p.1 p.2 p.3) = ap (λ j. nth_that (is_queue sync_id) j steps) (sym number) ∙ nth_that-at (is_queue sync_id) steps p.0 p.4 (is_queue-of sync_id (step_at steps p.0) p.1 p.2 p.3 p.5) ∙ ap Some p.5 in
      let event' : p.2 ≡ event = same_some p.2 event (sym (ap event_in queue) ∙ h.event_is) in
      let there = number_is sync_id steps 0 steps (in-steps steps) p.0 p.1 p.2 p.3 p.4 p.5 in
      let z : 0 + p.0 ≡ p.0 = omega arith in
      let last = obeys.by_end c n.1 in
      record {
        sync = instance steps p.0 p.1 sync_id p.2 p.3;
        here = ap (slice_get (filter (λ y. y.id == sync_id) (instances steps))) (sym number) ∙ there ∙ ap (λ k. Some (instance steps k p.1 sync_id p.2 p.3)) z;
        event_is = event';
        start = e.1;
        starts = Judged.starts_there tau streams until steps tick obeys p.0 e.0 p.1 e.1 sync_id p.2 p.3 (omega (arith, e.2, n.1)) e.3 p.6;
        ends = sym p.8 ∙ sym e.4 ∙ at_end;
        by_end = (let v : at_of (step_at steps c) ≡ s.0 = ap at_of here in omega (arith, last, v, at_end));
      }

  end_is : (k : ℕ) (x : Step) (at : ℕ) → x ≡ End k at → is_end k x ≡ true
  end_is k x at e = ap (is_end k) e ∙ eq-true k k refl

  -- an end after a start of the same moment's end is that start's
  same_start : (b b' at at' id : ℕ) → b < length steps → b' < length steps → step_at steps b ≡ Start id at → step_at steps b' ≡ Start id at' → end_at tau steps b at id ≡ end_at tau steps b' at' id → b ≡ b'
  same_start b b' at at' id l l' h h' e = elim (cases_order b b') [
    | inl same ↦ same
    | inr (inl lt) ↦ (let a = Judged.starts_apart tau streams until steps tick obeys b b' at at' id id lt l' h h' in
        let p = Judged.paired tau streams until steps tick obeys b' at' id l' h' in
        let t = Judged.takes tau streams until steps tick obeys p.0 p.1 id p.2 p.3 p.4 p.5 in
        absurd (let f = p.8 in let g = a.0 in omega (arith, t, f, g, e)))
    | inr (inr gt) ↦ (let a = Judged.starts_apart tau streams until steps tick obeys b' b at' at id id gt l h' h in
        let p = Judged.paired tau streams until steps tick obeys b at id l h in
        let t = Judged.takes tau streams until steps tick obeys p.0 p.1 id p.2 p.3 p.4 p.5 in
        absurd (let f = p.8 in let g = a.0 in omega (arith, t, f, g, e)))
  ]

  -- and a SYNC of the run has ended in the trace before each queue step from its end on
  pub sync_is_ended : (j a event ended : ℕ) → j < length steps → rank_of (step_at steps j) ≡ 1 → ended ≤ at_of (step_at steps j) → IsSync tau until (instances steps) a event ended → HasEnded steps j a event ended
  sync_is_ended j a event ended inside rank after' y =
      let f = of_number sync_id steps 0 steps (in-steps steps) a y.sync y.here in
      let b0 = f.0 in
      let q = f.1 in
      let ev = f.2 in
      let frame = f.3 in
      let z : 0 + b0 ≡ b0 = omega arith in
      let same : y.sync ≡ instance steps b0 q sync_id ev frame = f.7 ∙ ap (λ k. instance steps k q sync_id ev frame) z in
      let starts : (instance steps b0 q sync_id ev frame).start ≡ Some y.start = sym (ap (λ y. y.start) same) ∙ y.starts in
      let s = Judged.started_at tau streams until steps tick obeys b0 q sync_id ev frame y.start starts in
      let b = s.0 in
      let its = end_there tau steps b0 b q sync_id ev frame y.start f.4 f.5 (sym s.3) in
      let bits : y.sync.bits ≡ frame.bits = ap (λ y. y.bits) same in
      let work : y.sync.bits * tau ≡ frame.bits * tau = ap (λ n. n * tau) bits in
      let end_is_it : end_at tau steps b y.start sync_id ≡ ended = its ∙ ap (λ n. y.start + n) (sym work) ∙ y.ends in
      let t = Judged.takes tau streams until steps tick obeys b0 q sync_id ev frame f.4 f.5 in
      let late : y.start < ended = let e = y.ends in omega (arith, e, work, t) in
      let first : b < j = elim (cases_lt b j) [
        | inl lt ↦ lt
        | inr ge ↦ absurd (let o = Judged.later tau streams until steps tick obeys j b ge s.1 in let v : at_of (step_at steps b) ≡ y.start = ap at_of s.2 in omega (arith, o, v, late, after'))
      ] in
      let n : suc b + (j - suc b) ≡ j = omega (arith, first) in
      elim (Judged.runs_or_ended tau streams until steps tick obeys b y.start sync_id s.2 (j - suc b) (omega (arith, n, inside))) [
        | inl r ↦ (let r' : running tau steps j ≡ Some (sync_id, end_at tau steps b y.start sync_id) = subst (λ k. running tau steps k ≡ Some (sync_id, end_at tau steps b y.start sync_id)) n r in
            elim (obeys.none_missing j sync_id (end_at tau steps b y.start sync_id) inside r') [
              | inl before ↦ absurd (omega (arith, before, after', end_is_it))
              | inr here ↦ absurd (let v : rank_of (step_at steps j) ≡ 0 = ap rank_of here in omega (arith, v, rank))
            ])
        | inr w ↦ (let c = w.0 in
            let lt : c < j = omega (arith, w.1, n) in
            let e = end_number c sync_id (end_at tau steps b y.start sync_id) (omega (arith, lt, inside)) w.2 in
            let own : b ≡ e.0 = same_start b e.0 y.start e.1 sync_id s.1 (omega (arith, e.2, lt, inside)) s.2 e.3 e.4 in
            let number : count_to (is_end sync_id) steps c ≡ a = sym e.5 ∙ ap (count_to (is_start sync_id) steps) (sym own) ∙ s.3 ∙ f.6 in
            let passes : is_end sync_id (step_at steps c) ≡ true = end_is sync_id (step_at steps c) (end_at tau steps b y.start sync_id) w.2 in
            record {
              before = (let p = count_to-past (is_end sync_id) steps c j lt (omega (arith, lt, inside)) passes in omega (arith, p, number));
              event_is = ap event_in (ap (λ k. nth_that (is_queue sync_id) k steps) (sym f.6) ∙ nth_that-at (is_queue sync_id) steps b0 f.4 (is_queue-of sync_id (step_at steps b0) q ev frame f.5) ∙ ap Some f.5)
                  ∙ ap Some (sym (ap (λ y. y.event) same) ∙ y.event_is);
              ended_is = ap moment_of (ap (λ k. nth_that (is_end sync_id) k steps) (sym number) ∙ nth_that-at (is_end sync_id) steps c (omega (arith, lt, inside)) passes ∙ ap Some w.2) ∙ ap Some end_is_it;
            })
      ]
