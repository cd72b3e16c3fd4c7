-- The seeded run of a plan, from what the simulator gives.
use Rattle.std.proofs.Common.{◌≡◌, ℕ, ◌+◌, ◌-◌, ◌<◌, ◌^◌, inl, inr, true, false, is_some, not, if◌then◌else◌, min, List, [], ◌∷◌, length, map, slice_get, Option, None, Result, Ok, Err, MatchResult, Bool, cond, refl, sym, ap, ◌∙◌, subst, arith}
use Rattle.std.proofs.lemmas.Option.{slice_get-map}
use Rattle.cop_frame.specs.Rate.{ticks_of}
use Rattle.cop_rta.specs.declared.streams.Stream.{Stream}
use Rattle.cop_bus.specs.declared.steps.Step.{Step}
use Rattle.cop_bus.specs.Format.{short, text_of}
use Rattle.std.specs.Prelude.{codes, fold, sum_by}
use Rattle.cop_bus.specs.Piecewise.{told, Begins}
use Rattle.cop_bus.proofs.StepLemmas.{bool_cases}
use Rattle.cop_net.specs.Fixed.{ticks}
use Rattle.cop_rta.specs.Errors.{errors_of}
use Rattle.cop_plan.specs.Values.{PlanValue, on_bus}
use Rattle.cop_sim.specs.declared.drawing.Seeded.{Seeded}
use Rattle.cop_frame.specs.declared.rates.Rate.{Rate}
use Rattle.cop_rta.specs.Streams.{AreDistinct}
use Rattle.cop_sim.specs.declared.faults.SimFault.{SimFault}
use Rattle.cop_sim.specs.declared.faults.SimFault.TheVariants as simulator
use Rattle.cop_sim.specs.Drawing.{seeded_actor, offer_of, joins_of, fresh}
use Rattle.cop_sim.specs.Play.{Actor, actors_of, streams_of, IsPlay, Disobeys}
use Rattle.cop_sim.specs.Sinks.{Took, IsCause}
use Rattle.cop_sim.proofs.DrawingLemmas.{actors-are}
use Rattle.cop_sim.proofs.Written.{whole}
use Rattle.cop_engine.specs.declared.seeded_runs.Recorder.{Recorder}
use Rattle.cop_engine.specs.declared.seeded_runs.RunFault.{RunFault}
use Rattle.cop_engine.specs.declared.seeded_runs.RunFault.TheVariants as runs
use Rattle.cop_engine.specs.Judgements.{is_start, transfers_in, judged_text}
use Rattle.cop_engine.specs.Recorders.{counted, Records, IsFinished}
use Rattle.cop_engine.specs.Runs.{seeded, IsRun, ExplainsRun, plan_on_bus, run_fault, IsOfWriting}
use Rattle.cop_engine.proofs.PlanStreams.{was_there}

length_of_map : {X Y : Type 0} (f : X → Y) (xs : List X) → length (map f xs) ≡ length xs
length_of_map f [] = refl
length_of_map f (x ∷ xs) = let e = length_of_map f xs in omega (arith, e)

folded : {X : Type 0} (f : X → ℕ) (n : ℕ) (xs : List X) → fold (λ a x. a + f x) n xs ≡ n + sum_by f xs
folded f n [] = omega arith
folded f n (x ∷ xs) =
    let a = folded f (n + f x) xs in
    let b : sum_by f (x ∷ xs) ≡ 0 + f x + sum_by f xs = folded f (0 + f x) xs in
    omega (arith, a, b)

-- a count that rises at each start is that of the transfers
module _ {S : Type 0} (count : S → ℕ) (takes : S → Step → S → Type 0) (counts : (s : S) (x : Step) (t : S) → takes s x t → count t ≡ counted (count s) x) where
  pub total : (s : S) (steps : List Step) (t : S) → Took takes s steps t → count s + length steps < 2 ^ 64 → count t ≡ count s + transfers_in steps
  total s [] t e l = let h = ap count e in omega (arith, h)
  total s (x ∷ steps) t h l =
      let c = counts s x h.0 h.1 in
      let adds : transfers_in (x ∷ steps) ≡ 0 + cond {A = ℕ} (is_start x) 1 0 + transfers_in steps = folded (λ x. cond {A = ℕ} (is_start x) 1 0) (0 + cond {A = ℕ} (is_start x) 1 0) steps in
      elim (bool_cases (is_start x)) [
        | inl b ↦ (let m : count h.0 ≡ min (count s + 1) (2 ^ 64 - 1) = c ∙ ap (λ (v : Bool). cond v (min (count s + 1) (2 ^ 64 - 1)) (count s)) b in
            let one : cond {A = ℕ} (is_start x) 1 0 ≡ 1 = ap (λ (v : Bool). cond {A = ℕ} v 1 0) b in
            let ih = total h.0 steps t h.2 (omega (arith, m, l)) in
            omega (arith, m, l, one, ih, adds))
        | inr b ↦ (let m : count h.0 ≡ count s = c ∙ ap (λ (v : Bool). cond v (min (count s + 1) (2 ^ 64 - 1)) (count s)) b in
            let none : cond {A = ℕ} (is_start x) 1 0 ≡ 0 = ap (λ (v : Bool). cond {A = ℕ} v 1 0) b in
            let ih = total h.0 steps t h.2 (omega (arith, m, l)) in
            omega (arith, m, l, none, ih, adds))
      ]

-- the actors of behaviours that were made by a seed
actors : (seed : ℕ) (streams : List Stream) (items : List Seeded) → items ≡ map (fresh seed) streams → actors_of offer_of (λ s z u. joins_of s z) streams items ≡ seeded seed streams
actors seed streams items is = ap (actors_of offer_of (λ s z u. joins_of s z) streams) is ∙ actors-are seed streams

pub seeded_streams : (seed : ℕ) (streams : List Stream) → streams_of (seeded seed streams) ≡ streams
seeded_streams seed [] = refl
seeded_streams seed (k ∷ ks) = ap (λ (xs : List Stream). k ∷ xs) (seeded_streams seed ks)

-- a seeded behaviour does not disobey
abbrev NeverDisobeys : Type 0
NeverDisobeys = (rate : Rate) (actors : List Actor) (seed : ℕ) (k : Stream) (until n : ℕ) → AreDistinct (streams_of actors) → Disobeys (ticks_of rate) actors until (seeded_actor seed k) n → ⊥

module _ (plan : PlanValue) (seed until : ℕ) where
  pub cause_explains : NeverDisobeys → AreDistinct plan.streams → (items : List Seeded) (failed : Bool) (fault : SimFault) → items ≡ map (fresh seed) plan.streams → IsCause plan (actors_of offer_of (λ s z u. joins_of s z) plan.streams items) (length items) (ticks until) failed fault
      → ExplainsRun plan seed until (run_fault fault)
  cause_explains never distinct items failed fault is h = go fault (subst (λ (them : List Actor). IsCause plan them (length items) (ticks until) failed fault) (actors seed plan.streams items is) h)
    where
      go : (fault : SimFault) → IsCause plan (seeded seed plan.streams) (length items) (ticks until) failed fault → ExplainsRun plan seed until (run_fault fault)
      go simulator.Count h = absurd (h (ap (λ (xs : List Seeded). length xs) is ∙ length_of_map (fresh seed) plan.streams))
      go (simulator.Disobeys stream instance) h =
          let w = was_there (seeded_actor seed) (slice_get plan.streams stream) h.0 (sym (slice_get-map (seeded_actor seed) plan.streams stream) ∙ h.1) in
          absurd (never plan.rate (seeded seed plan.streams) seed w.0 (ticks until) instance (subst AreDistinct (sym (seeded_streams seed plan.streams)) distinct) (subst (λ (a : Actor). Disobeys (ticks_of plan.rate) (seeded seed plan.streams) (ticks until) a instance) (sym w.2) h.2))
      go (simulator.Backlog id) h = (id, h.0, h.1)
      go simulator.Sink h = tt
      go simulator.Memory h = tt

  pub writing_explains : (fault : RunFault) → IsOfWriting fault → ExplainsRun plan seed until fault
  writing_explains runs.Simulation h = absurd h
  writing_explains runs.Trace h = tt
  writing_explains runs.Memory h = tt

  module _ {W : Type 0} (contents : W → Option (List ℕ)) where
    pub run_is : (items : List Seeded) (w w' : W) (s t : Recorder W) (text : List ℕ) → items ≡ map (fresh seed) plan.streams → Begins contents w s.trace → s.transfers ≡ 0
        → ((steps : List Step) × IsPlay (ticks_of plan.rate) (actors_of offer_of (λ s z u. joins_of s z) plan.streams items) (ticks until) steps × Took (λ a x b. Records contents a x b) s steps t × (length steps < 2 ^ 64))
        → IsFinished contents t (ticks until) text w' → IsRun plan seed until text (contents w) (contents w')
    unfolding text_of
    run_is items w w' s t text is begins none play finished =
        let l = play.3 in
        let n = total (λ r. r.transfers) (λ a x b. Records contents a x b) (λ a x b e. e.1) s play.0 t play.2 (omega (arith, none, l)) in
        record {
          steps = play.0;
          play = subst (λ (them : List Actor). IsPlay (ticks_of plan.rate) them (ticks until) play.0) (actors seed plan.streams items is) play.1;
          text_is = finished.0 ∙ ap (λ (m : ℕ). judged_text m None) (omega (arith, none, n));
          trace = whole (λ r. told contents r.trace) (λ a x b. Records contents a x b) (λ a x b e. e.0) (contents w) (contents w') s play.0 t (short (codes "until") (ticks until) 0) begins play.2 finished.1;
        }

pub each_arm : {X E : Type 0} (r : Result X E) (A A' : X → Type 0) (B B' : E → Type 0) → ((x : X) → A x → A' x) → ((e : E) → B e → B' e) → MatchResult r A B → MatchResult r A' B'
each_arm (Ok x) A A' B B' f g h = f x h
each_arm (Err e) A A' B B' f g h = g e h

-- ---- the plan on the bus

pub run_on_plain : (plan : PlanValue) → is_some (errors_of plan.streams) ≡ false → plan ≡ plan_on_bus plan
run_on_plain plan none = sym (ap (λ b. if b then on_bus plan else plan) none)

pub run_on_bus : (plan bus : PlanValue) → is_some (errors_of plan.streams) ≡ true → bus ≡ on_bus plan → bus ≡ plan_on_bus plan
run_on_bus plan bus some its = its ∙ sym (ap (λ b. if b then on_bus plan else plan) some)

pub none_told : {A : Type 0} (o : Option A) (b : Bool) → is_some o ≡ not b → b ≡ true → is_some o ≡ false
none_told o b e h = e ∙ ap not h

pub some_told : {A : Type 0} (o : Option A) (b : Bool) → is_some o ≡ not b → b ≡ false → is_some o ≡ true
some_told o b e h = e ∙ ap not h
