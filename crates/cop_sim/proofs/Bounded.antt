-- How many instances of a stream wait in a partial play.
use Rattle.std.proofs.Common.{◌≡◌, ℕ, ◌+◌, ◌-◌, ◌≤◌, ◌<◌, ◌⊎◌, inl, inr, List, [], ◌∷◌, ◌++◌, length, refl, sym, ◌∙◌, ap, subst, arith, suc, zero, Bool, true, cond, ◌&&◌, nat_le, max, length-append}
use Rattle.std.specs.Prelude.{Some, ◌==◌, All}
use Rattle.std.specs.Int.{div_ceil}
use Rattle.std.proofs.lemmas.Bool.{cases_lt}
use Rattle.cop_frame.specs.Rate.{ticks_of}
use Rattle.cop_rta.specs.declared.streams.Stream.{Stream}
use Rattle.cop_rta.specs.Greatest.{AreSynced}
use Rattle.cop_bus.specs.declared.steps.Step.{Step}
use Rattle.cop_bus.specs.declared.steps.Content.{Content}
use Rattle.cop_bus.specs.declared.steps.Step.TheVariants.{Queue, Start, End}
use Rattle.cop_bus.specs.Run.{Instance, IsLegal, IsObeying, waits, waiting, is_unstarted}
use Rattle.cop_bus.specs.Trace.{is_queue, is_start, count_to, step_at, at_of, instance, instances, instances_from, now_of}
use Rattle.cop_bus.proofs.Totals.{total-sum_by}
use Rattle.cop_bus.proofs.Counts.{number}
use Rattle.cop_bus.proofs.Work.{le-true, eq-true, start_cases, true-eq}
use Rattle.cop_bus.proofs.Demand.{and-true}
use Rattle.cop_bus.proofs.StepLemmas.{bool_cases, IsRest, rest_head, rest_tail, in-steps, count_to-suc, count_to-past, count_to-zero, one-true, one-false, started-at, is_start-of}
use Rattle.cop_plan.specs.Values.{PlanValue, AreOnTime}
use Rattle.cop_sim.specs.Guarantee.{IsPdo, IsKept}
use Rattle.cop_sim.specs.Play.{Actor, streams_of, queue_step, IsPartialPlay, IsPlay, waiting_after}
use Rattle.cop_sim.proofs.GuaranteeLemmas.{kept}
use Rattle.cop_bus.proofs.Grows.{step_at-more, count_to-more, no-more}
use Rattle.cop_bus.proofs.Appended.{count_to-one}

-- Of the instances that the first n steps queue, those that no start sends wait.
module _ (steps : List Step) (id moment n : ℕ) (within : n ≤ length steps) (early : (i : ℕ) → i < n → at_of (step_at steps i) ≤ moment) where
  abbrev starts : ℕ
  starts = count_to (is_start id) steps (length steps)

  abbrev queues : ℕ → ℕ
  queues i = count_to (is_queue id) steps i

  abbrev test : Instance → Bool
  test y = (y.id == id) && waits moment y

  unstarted : (a q event : ℕ) (frame : Content) → starts ≤ queues a → is_unstarted moment (instance steps a q id event frame).start ≡ true
  unstarted a q event frame l = elim (start_cases (instance steps a q id event frame).start) [
    | inl e ↦ ap (is_unstarted moment) e
    | inr w ↦ (let b = started-at steps a q id event frame w.0 w.1 in
        let p = count_to-past (is_start id) steps b.0 (length steps) b.1 b.1 (is_start-of id (step_at steps b.0) w.0 b.2) in
        let e = b.3 in absurd (omega (arith, p, e, l)))
  ]

  few : (d i : ℕ) (rest : List Step) → IsRest steps i rest → i + length rest ≡ length steps → i + d ≡ n → queues n ≤ number test (instances_from steps i rest) + max starts (queues i)
  few zero i rest same len e = let q : i ≡ n = omega arith in subst (λ m. queues m ≤ number test (instances_from steps i rest) + max starts (queues i)) q (omega arith)
  few (suc d) i [] same len e = absurd (omega arith)
  few (suc d) i (Queue k at event frame ∷ rest) same len e =
      let x = Queue k at event frame in
      let h = rest_head steps i x rest same in
      let ih = few d (suc i) rest (rest_tail steps i x rest same) (omega arith) (omega arith) in
      let s = count_to-suc (is_queue id) steps i (omega arith) in
      elim (bool_cases (k == id)) [
        | inr f ↦ (let z = one-false (is_queue id (step_at steps i)) (ap (is_queue id) h ∙ f) in let q : queues (suc i) ≡ queues i = omega (arith, s, z) in
            let ih2 = subst (λ m. queues n ≤ number test (instances_from steps (suc i) rest) + max starts m) q ih in omega (arith, ih2))
        | inl t ↦ (let z = one-true (is_queue id (step_at steps i)) (ap (is_queue id) h ∙ t) in let q : queues (suc i) ≡ suc (queues i) = omega (arith, s, z) in
            let ih2 = subst (λ m. queues n ≤ number test (instances_from steps (suc i) rest) + max starts m) q ih in
            elim (cases_lt (queues i) starts) [
              | inl l ↦ omega (arith, ih2, l)
              | inr l ↦ (let m : at ≤ moment = subst (λ y. at_of y ≤ moment) h (early i (omega arith)) in
                  let u = unstarted i at event frame l in
                  let v : test (instance steps i at id event frame) ≡ true = and-true (id == id) (waits moment (instance steps i at id event frame)) (eq-true id id refl)
                  (and-true (nat_le at moment) (is_unstarted moment (instance steps i at id event frame).start) (le-true at moment m) u) in
                  let w : test (instance steps i at k event frame) ≡ true = subst (λ j. test (instance steps i at j event frame) ≡ true) (sym (true-eq k id t)) v in
                  let c = one-true (test (instance steps i at k event frame)) w in omega (arith, ih2, l, c))
            ])
      ]
  few (suc d) i (Start k at ∷ rest) same len e =
      let x = Start k at in
      let h = rest_head steps i x rest same in
      let ih = few d (suc i) rest (rest_tail steps i x rest same) (omega arith) (omega arith) in
      let s = count_to-suc (is_queue id) steps i (omega arith) in
      let z = one-false (is_queue id (step_at steps i)) (ap (is_queue id) h) in
      let q : queues (suc i) ≡ queues i = omega (arith, s, z) in
      subst (λ m. queues n ≤ number test (instances_from steps (suc i) rest) + max starts m) q ih
  few (suc d) i (End k at ∷ rest) same len e =
      let x = End k at in
      let h = rest_head steps i x rest same in
      let ih = few d (suc i) rest (rest_tail steps i x rest same) (omega arith) (omega arith) in
      let s = count_to-suc (is_queue id) steps i (omega arith) in
      let z = one-false (is_queue id (step_at steps i)) (ap (is_queue id) h) in
      let q : queues (suc i) ≡ queues i = omega (arith, s, z) in
      subst (λ m. queues n ≤ number test (instances_from steps (suc i) rest) + max starts m) q ih

  pub unsent-wait : queues n ≤ waiting id moment (instances steps) + starts
  unsent-wait =
      let f = few n 0 steps (in-steps steps) (omega arith) (omega arith) in
      let z = count_to-zero (is_queue id) steps in
      let t = total-sum_by (λ y. cond (test y) 1 0) (instances steps) in
      omega (arith, f, z, t)

module _ (plan : PlanValue) (fine : AreOnTime plan.rate plan.streams (length plan.ids)) (synced : AreSynced plan.streams) (actors : List Actor) (streams : streams_of actors ≡ plan.streams) (until : ℕ) (steps : List Step) where
  -- a play keeps what the plan guarantees
  pub play-kept : IsPlay (ticks_of plan.rate) actors until steps → IsKept plan until (instances steps)
  play-kept play =
      let h = play.legal in
      kept plan fine synced until (instances steps) (record {
        legal = subst (λ s. IsLegal (ticks_of plan.rate) s until (instances steps)) streams h.legal;
        obeying = subst (λ s. All (IsObeying (ticks_of plan.rate) until (instances steps)) s) streams h.obeying;
      })

  -- and a partial play has no more instances waiting
  module _ (play : IsPartialPlay (ticks_of plan.rate) actors until steps) where
    abbrev all : List Step
    all = steps ++ play.ahead

    last-first : (i n : ℕ) → i < n → n ≡ length steps → at_of (step_at all i) ≤ now_of steps
    last-first i zero l e = absurd (omega arith)
    last-first i (suc n) l e =
        let m : length steps - 1 ≡ n = omega arith in
        let s = step_at-more steps play.ahead n (omega arith) in
        subst (λ k. at_of (step_at all i) ≤ at_of (step_at steps k)) (sym m) (subst (λ y. at_of (step_at all i) ≤ at_of y) s (go (cases_lt i n)))
      where
        go : (i < n) ⊎ (n ≤ i) → at_of (step_at all i) ≤ at_of (step_at all n)
        go c = elim c [
          | inl k ↦ elim (play.legal.ordered i n k (long (omega (arith, e)))) [ inl o ↦ omega arith | inr o ↦ (let q = o.0 in omega arith) ]
          | inr k ↦ (let q : i ≡ n = omega arith in subst (λ j. at_of (step_at all i) ≤ at_of (step_at all j)) q (omega arith))
        ]
          where
            long : n < length steps → n < length all
            long r = (let w = length-append steps play.ahead in omega arith)

    starts-same : (id : ℕ) → count_to (is_start id) all (length all) ≡ count_to (is_start id) steps (length steps)
    starts-same id = elim play.is_ahead [
      | inl e ↦ ap (λ t. count_to (is_start id) (steps ++ t) (length (steps ++ t))) e ∙ ap (λ t. count_to (is_start id) t (length t)) (no-more steps)
      | inr w ↦ (let b = w.1 in let o = (w.4).1 in
          let y = queue_step b.stream.id o.0 in
          let c = count_to-one (is_start id) steps y in
          ap (λ t. count_to (is_start id) (steps ++ t) (length (steps ++ t))) o.2 ∙ omega (arith, c))
    ]

    pub few-wait : (k : Stream) → IsPdo plan k → (d : ℕ) → k.deadline ≡ Some d → waiting_after k.id steps ≤ div_ceil d k.period
    few-wait k pdo d e =
        let h = play.legal in
        let g = kept plan fine synced (now_of all) (instances all) (record {
          legal = subst (λ s. IsLegal (ticks_of plan.rate) s (now_of all) (instances all)) streams h.legal;
          obeying = subst (λ s. All (IsObeying (ticks_of plan.rate) (now_of all) (instances all)) s) streams h.obeying;
        }) in
        let l : length steps ≤ length all = (let w = length-append steps play.ahead in omega arith) in
        let u = unsent-wait all k.id (now_of steps) (length steps) l (λ i r. last-first i (length steps) r refl) in
        let q = count_to-more (is_queue k.id) steps play.ahead (length steps) (omega arith) in
        let s = starts-same k.id in
        let f = g.few_wait k pdo d (now_of steps) e within in
        omega (arith, u, q, s, f)
      where
        within : now_of steps ≤ now_of all
        within = go (length steps) refl
          where
            none : (steps : List Step) → zero ≡ length steps → now_of steps ≤ now_of all
            none [] e = omega arith
            none (x ∷ xs) e = absurd (omega arith)

            go : (n : ℕ) → n ≡ length steps → now_of steps ≤ now_of all
            go zero e = none steps e
            go (suc n) e =
                let m : length steps - 1 ≡ n = omega arith in
                let s = step_at-more steps play.ahead n (omega arith) in
                let w = length-append steps play.ahead in
                subst (λ k. at_of (step_at steps k) ≤ now_of all) (sym m) (subst (λ y. at_of y ≤ now_of all) s (elim (cases_lt n (length all - 1)) [
                  | inl r ↦ elim (play.legal.ordered n (length all - 1) r (omega arith)) [ inl o ↦ omega arith | inr o ↦ (let q = o.0 in omega arith) ]
                  | inr r ↦ (let q : n ≡ length all - 1 = omega arith in subst (λ j. at_of (step_at all n) ≤ at_of (step_at all j)) q (omega arith))
                ]))
