use Rattle.std.proofs.Common.{◌≡◌, ℕ, ◌+◌, ◌*◌, ◌≤◌, ◌<◌, inl, inr, List, length, refl, sym, ◌∙◌, ap, subst, arith, suc, zero, Bool, true, false, cond, not, drop, ◌&&◌, nat_le}
use Rattle.std.specs.Prelude.{Option, None, Some, All, Contains}
use Rattle.std.proofs.lemmas.List.Elements.{All-from_recursion, All-contains, recursion_from_All, All-weaker}
use Rattle.cop_rta.specs.declared.streams.Stream.{Stream}
use Rattle.cop_bus.specs.declared.steps.Step.{Step}
use Rattle.cop_bus.specs.declared.steps.Content.{Content}
use Rattle.cop_bus.specs.declared.steps.Step.TheVariants.{Queue, Start, End}
use Rattle.cop_bus.specs.Run.{Instance, IsOnTime}
use Rattle.cop_bus.specs.Trace.{step_at, instance, instances}
use Rattle.cop_bus.specs.Judge.{id_of, stream_of}
use Rattle.cop_bus.specs.Late.{has_ended, misses, is_late, sent_at, first_late, first_late_from}
use Rattle.cop_bus.proofs.Totals.{Each-from_Contains, Pairs-from_AllPairs}
use Rattle.cop_bus.proofs.Demand.{and-true, and-left, and-right}
use Rattle.cop_bus.proofs.Work.{true-le, le-true}
use Rattle.cop_bus.proofs.StepLemmas.{bool_cases, each_instance, instance_in, in-steps}
use Rattle.cop_bus.proofs.Verdict.{drop-at, drop-all}
use Rattle.cop_bus.proofs.Accepts.{AreDistinct, only-one, none-there, stream-found}
use Rattle.cop_bus.proofs.Found.{stream_cases, at-found}

-- The search for a late instance, from step i on.
abbrev pub late_at : ℕ → List Stream → ℕ → List Step → ℕ → Bool
late_at tau streams until steps i = is_late tau until (stream_of streams (id_of (step_at steps i))) (sent_at steps i (id_of (step_at steps i))) (step_at steps i)

pub late-split : (tau : ℕ) (streams : List Stream) (until : ℕ) (steps : List Step) (i : ℕ) (b : Bool) → i < length steps → b ≡ late_at tau streams until steps i →
    first_late_from tau streams until steps i (drop i steps) ≡ cond b (Some (suc i)) (first_late_from tau streams until steps (suc i) (drop (suc i) steps))
late-split tau streams until steps i b l e =
    ap (first_late_from tau streams until steps i) (drop-at steps i l) ∙ ap (λ v. cond v (Some (suc i)) (first_late_from tau streams until steps (suc i) (drop (suc i) steps))) (sym e)

-- an instance is late where it is not on time
pub on-time : (tau until : ℕ) (deadline : Option ℕ) (y : Instance) → misses tau until y.event y.bits deadline y.start ≡ false → IsOnTime tau until deadline y
on-time tau until None y h = λ d e. absurd (cc)
on-time tau until (Some d) y h = λ v e l.
    (let q : v ≡ d = cc in go y.start refl (omega (arith, q, l)) h q)
  where
    go : (o : Option ℕ) → y.start ≡ o → y.event + d ≤ until → (nat_le (y.event + d) until && not (has_ended tau y.bits (y.event + d) o)) ≡ false → {v : ℕ} → v ≡ d → (s : ℕ) × (y.start ≡ Some s) × (s + y.bits * tau ≤ y.event + v)
    go None e l f q = let t = and-true (nat_le (y.event + d) until) true (le-true (y.event + d) until l) refl in absurd (cc)
    go (Some s) e l f q = elim (bool_cases (nat_le (s + y.bits * tau) (y.event + d))) [
      | inl t ↦ (s, e, omega (arith, true-le (s + y.bits * tau) (y.event + d) t, q))
      | inr t ↦ (let u = and-true (nat_le (y.event + d) until) (not (nat_le (s + y.bits * tau) (y.event + d))) (le-true (y.event + d) until l) (ap not t) in absurd (cc))
    ]

pub late-not : (tau until : ℕ) (deadline : Option ℕ) (y : Instance) → misses tau until y.event y.bits deadline y.start ≡ true → IsOnTime tau until deadline y → ⊥
late-not tau until None y h g = absurd (cc)
late-not tau until (Some d) y h g =
    let l = true-le (y.event + d) until (and-left (nat_le (y.event + d) until) _ h) in
    let r = g d refl l in
    let e : has_ended tau y.bits (y.event + d) y.start ≡ true = ap (has_ended tau y.bits (y.event + d)) r.1 ∙ le-true (r.0 + y.bits * tau) (y.event + d) r.2 in
    let n = and-right (nat_le (y.event + d) until) (not (has_ended tau y.bits (y.event + d) y.start)) h in
    let m : not (has_ended tau y.bits (y.event + d) y.start) ≡ false = ap not e in
    absurd (cc)

-- the stream of its identifier is the one that is found
pub found-is : (ks : List Stream) (k : Stream) (id : ℕ) → AreDistinct ks → Contains ks k → k.id ≡ id → stream_of ks id ≡ Some k
found-is ks k id d m e = elim (stream_cases (stream_of ks id)) [
  | inl n ↦ absurd (All-contains (λ s. s.id ≡ id → ⊥) ks k (All-from_recursion (λ s. s.id ≡ id → ⊥) ks (none-there ks id n)) m e)
  | inr f ↦ (let q = All-contains (λ s. s.id ≡ id → s ≡ f.0) ks k (All-from_recursion (λ s. s.id ≡ id → s ≡ f.0) ks (only-one ks id f.0 (Pairs-from_AllPairs (λ k l. k.id ≡ l.id → ⊥) ks d) f.1)) m e in
      f.1 ∙ ap Some (sym q))
]

module _ (tau : ℕ) (streams : List Stream) (until : ℕ) (steps : List Step) where
  abbrev pub AllOnTime : Stream → Type 0
  AllOnTime k = All (λ y. y.id ≡ k.id → IsOnTime tau until k.deadline y) (instances steps)

  pub none-at : (i : ℕ) → i < length steps → first_late_from tau streams until steps i (drop i steps) ≡ None →
      (late_at tau streams until steps i ≡ false) × (first_late_from tau streams until steps (suc i) (drop (suc i) steps) ≡ None)
  none-at i l e = elim (bool_cases (late_at tau streams until steps i)) [
    | inl t ↦ (let s = late-split tau streams until steps i true l (sym t) in absurd (cc))
    | inr f ↦ (f, sym (late-split tau streams until steps i false l (sym f)) ∙ e)
  ]

  pub none-from : first_late tau streams until steps ≡ None → (i : ℕ) → i ≤ length steps → first_late_from tau streams until steps i (drop i steps) ≡ None
  none-from h zero l = h
  none-from h (suc i) l = (none-at i (omega arith) (none-from h i (omega arith))).1

  pub all-on-time : AreDistinct streams → first_late tau streams until steps ≡ None → All AllOnTime streams
  all-on-time d h = All-from_recursion AllOnTime streams (Each-from_Contains AllOnTime streams (λ k m. All-from_recursion (λ y. y.id ≡ k.id → IsOnTime tau until k.deadline y) (instances steps)
      (each_instance steps 0 steps (in-steps steps) (λ y. y.id ≡ k.id → IsOnTime tau until k.deadline y) (λ a at id event frame l n e. (λ q. on-time tau until k.deadline (instance steps a at id event frame) (at-step a at id event frame (omega arith) e k m q))))))
    where
      at-step : (a at id event : ℕ) (frame : Content) → a < length steps → step_at steps a ≡ Queue id at event frame → (k : Stream) → Contains streams k → id ≡ k.id → misses tau until event frame.bits k.deadline (sent_at steps a id) ≡ false
      at-step a at id event frame l e k m q =
          let f = (none-at a l (none-from h a (omega arith))).0 in
          let g = ap (λ x. is_late tau until (stream_of streams (id_of x)) (sent_at steps a (id_of x)) x) e in
          let o = ap (λ v. is_late tau until v (sent_at steps a id) (Queue id at event frame)) (found-is streams k id d m (sym q)) in
          sym o ∙ sym g ∙ f

  pub none-late : All AllOnTime streams → (i : ℕ) → i < length steps → late_at tau streams until steps i ≡ false
  none-late h i l = go (step_at steps i) refl (stream_of streams (id_of (step_at steps i))) refl
    where
      go : (x : Step) → step_at steps i ≡ x → (o : Option Stream) → stream_of streams (id_of (step_at steps i)) ≡ o → late_at tau streams until steps i ≡ false
      go x e None f = ap (λ v. is_late tau until v (sent_at steps i (id_of (step_at steps i))) (step_at steps i)) f
      go (Start id at) e (Some k) f = ap (λ v. is_late tau until v (sent_at steps i (id_of (step_at steps i))) (step_at steps i)) f ∙ ap (λ x. is_late tau until (Some k) (sent_at steps i (id_of x)) x) e
      go (End id at) e (Some k) f = ap (λ v. is_late tau until v (sent_at steps i (id_of (step_at steps i))) (step_at steps i)) f ∙ ap (λ x. is_late tau until (Some k) (sent_at steps i (id_of x)) x) e
      go (Queue id at event frame) e (Some k) f =
          ap (λ v. is_late tau until v (sent_at steps i (id_of (step_at steps i))) (step_at steps i)) f ∙ ap (λ x. is_late tau until (Some k) (sent_at steps i (id_of x)) x) e
          ∙ elim (bool_cases (misses tau until event frame.bits k.deadline (sent_at steps i id))) [
            | inr n ↦ n
            | inl t ↦ (let g : stream_of streams id ≡ Some k = sym (ap (λ x. stream_of streams (id_of x)) e) ∙ f in
                let p = at-found streams id k AllOnTime (recursion_from_All (λ s. s.id ≡ id → AllOnTime s) streams (All-weaker AllOnTime (λ s. s.id ≡ id → AllOnTime s) (λ s a q. a) streams h)) g in
                let c = instance_in steps 0 steps (in-steps steps) i at id event frame (omega arith) (omega arith) e in
                let v = All-contains (λ y. y.id ≡ k.id → IsOnTime tau until k.deadline y) (instances steps) (instance steps i at id event frame) p c (sym (stream-found streams id k g).1) in
                absurd (late-not tau until k.deadline (instance steps i at id event frame) t v))
          ]

  pub none-found : All AllOnTime streams → (n i : ℕ) → i + n ≡ length steps → first_late_from tau streams until steps i (drop i steps) ≡ None
  none-found h zero i e =
      let q : i ≡ length steps = omega arith in
      subst (λ m. first_late_from tau streams until steps m (drop m steps) ≡ None) (sym q) (ap (first_late_from tau streams until steps (length steps)) (drop-all steps))
  none-found h (suc n) i e =
      let l : i < length steps = omega arith in
      late-split tau streams until steps i false l (sym (none-late h i l)) ∙ none-found h n (suc i) (omega arith)
