-- The plan that a network has is the one by which it is judged, run and booted.
use Rattle.std.proofs.Common.{◌≡◌, Bool, true, false, is_some, if◌then◌else◌, ℕ, List, [], length, None, Some, sym, ap, ◌∙◌, subst}
use Rattle.cop_frame.specs.declared.rates.Rate.{Rate}
use Rattle.cop_frame.specs.Rate.{ticks_of}
use Rattle.cop_rta.specs.declared.streams.Stream.{Stream}
use Rattle.cop_rta.specs.Streams.{AreDistinct}
use Rattle.cop_bus.specs.declared.steps.Step.{Step}
use Rattle.cop_bus.specs.Format.{text_of}
use Rattle.cop_bus.specs.Late.{first_late}
use Rattle.cop_bus.specs.Reading.{Told, trace_of}
use Rattle.cop_net.specs.Devices.{File}
use Rattle.cop_net.specs.Fixed.{ticks}
use Rattle.cop_plan.specs.Orders.{HasPdos}
use Rattle.cop_plan.specs.Plans.{IsOutcome, IsPlan}
use Rattle.cop_rta.specs.Errors.{errors_of, bus_of}
use Rattle.cop_plan.specs.Values.{PlanValue, on_bus}
use Rattle.cop_plan.proofs.BusPlans.{bus_distinct}
use Rattle.cop_plan.specs.declared.assigning.Outcome.{Outcome}
use Rattle.cop_plan.specs.declared.choices.Asked.{Asked}
use Rattle.cop_plan.specs.declared.assigning.Outcome.TheVariants.{Planned, Refused}
use Rattle.cop_sim.specs.Play.{Actor, streams_of, IsPlay}
use Rattle.cop_engine.specs.declared.plans.Files.{Files}
use Rattle.cop_engine.specs.Networks.{IsPlannedNetwork}
use Rattle.cop_engine.specs.Plans.{AreFilesOf}
use Rattle.cop_engine.specs.Judgements.{IsJudgement, IsJudgedBy, judged_text, transfers_in}
use Rattle.cop_engine.specs.Runs.{seeded, IsRun, plan_on_bus, IsRunBy, IsNetworkRun}
use Rattle.cop_engine.specs.Boots.{IsBootOf}
use Rattle.cop_engine.proofs.OnePlan.{OneOutcome, has_pdos, ok_once, outcome_once}
use Rattle.cop_engine.proofs.RunLemmas.{seeded_streams}

module _ (one : OneOutcome) (asked : Asked) (nodes pdos : List ℕ) (eds : List File) where
  pub plan_used : (files : Files) (outcome : Outcome) → (f : AreFilesOf asked nodes pdos eds files) → IsPlannedNetwork asked nodes pdos eds outcome → outcome ≡ f.outcome
  plan_used files outcome f x = outcome_once one asked nodes pdos eds outcome f.outcome x f.network

  pub plan_booted : (seed : ℕ) (files : Files) (text : List ℕ) → (f : AreFilesOf asked nodes pdos eds files) → (b : IsBootOf asked seed nodes pdos eds text) → b.outcome ≡ f.outcome
  plan_booted seed files text f b = plan_used files b.outcome f b.network

  -- a trace has one judgement by an outcome
  judged_once : (outcome : Outcome) (trace text other : List ℕ) → IsJudgedBy outcome trace text → IsJudgedBy outcome trace other → text ≡ other
  judged_once (Planned plan) trace text other x y =
      let told : x.told ≡ y.told = ok_once (trace_of trace) x.told y.told x.read y.read in
      x.text_is ∙ ap (λ (t : Told). judged_text (transfers_in t.steps) (first_late (ticks_of plan.rate) (bus_of plan.streams) t.until t.steps)) told ∙ sym y.text_is
  judged_once (Refused refusals) trace text other x y = x ∙ sym y

  pub one_judgement : (trace text other : List ℕ) → IsJudgement asked nodes pdos eds trace text → IsJudgement asked nodes pdos eds trace other → text ≡ other
  one_judgement trace text other x y =
      let mine : IsJudgedBy y.outcome trace text = subst (λ (o : Outcome). IsJudgedBy o trace text) (outcome_once one asked nodes pdos eds x.outcome y.outcome x.network y.network) x.judged in
      judged_once y.outcome trace text other mine y.judged

-- the play of a behaviour is one
abbrev OnePlay : Type 0
OnePlay = (rate : Rate) (actors : List Actor) (until : ℕ) (steps others : List Step) → AreDistinct (streams_of actors) → IsPlay (ticks_of rate) actors until steps → IsPlay (ticks_of rate) actors until others → steps ≡ others

abbrev AreApart : Type 0
AreApart = (rates : List Rate) (streams : List Stream) (pdos : ℕ) (plan : PlanValue) → HasPdos streams pdos → IsPlan rates streams pdos plan → AreDistinct plan.streams

-- so are the streams of a plan on the bus
apart_on_bus : (plan : PlanValue) → AreDistinct plan.streams → AreDistinct (plan_on_bus plan).streams
apart_on_bus plan distinct = go (is_some (errors_of plan.streams))
  where
    go : (b : Bool) → AreDistinct (if b then on_bus plan else plan).streams
    go true = bus_distinct plan.streams distinct
    go false = distinct

module _ (play : OnePlay) where
  -- a plan has one run
  run_once : (plan : PlanValue) (seed until : ℕ) (text trace other another : List ℕ) → AreDistinct plan.streams
      → IsRun plan seed until text (Some []) (Some trace) → IsRun plan seed until other (Some []) (Some another) → (text ≡ other) × (trace ≡ another)
  run_once plan seed until text trace other another distinct x y =
      let steps : x.steps ≡ y.steps = play plan.rate (seeded seed plan.streams) (ticks until) x.steps y.steps (subst AreDistinct (sym (seeded_streams seed plan.streams)) distinct) x.play y.play in (
        x.text_is ∙ ap (λ (s : List Step). judged_text (transfers_in s) None) steps ∙ sym y.text_is,
        x.trace ∙ ap (text_of (ticks until)) steps ∙ sym y.trace,
      )

  run_by_once : (rates : List Rate) (streams : List Stream) (pdos : ℕ) (outcome : Outcome) (seed until : ℕ) (text trace other another : List ℕ) → AreApart → HasPdos streams pdos → IsOutcome rates streams pdos outcome
      → IsRunBy outcome seed until text trace → IsRunBy outcome seed until other another → (text ≡ other) × (trace ≡ another)
  run_by_once rates streams pdos (Planned plan) seed until text trace other another apart has planned x y =
      run_once (plan_on_bus plan) seed until text trace other another (apart_on_bus plan (apart rates streams pdos plan has planned)) x y
  run_by_once rates streams pdos (Refused refusals) seed until text trace other another apart has planned x y = (x.0 ∙ sym y.0, x.1 ∙ sym y.1)

  pub one_run : OneOutcome → AreApart → (asked : Asked) (nodes pdos : List ℕ) (eds : List File) (seed until : ℕ) (text trace other another : List ℕ)
      → IsNetworkRun asked nodes pdos eds seed until text trace → IsNetworkRun asked nodes pdos eds seed until other another → (text ≡ other) × (trace ≡ another)
  one_run one apart asked nodes pdos eds seed until text trace other another x y =
      let same : x.outcome ≡ y.outcome = outcome_once one asked nodes pdos eds x.outcome y.outcome x.network y.network in
      let mine : IsRunBy y.outcome seed until text trace = subst (λ (o : Outcome). IsRunBy o seed until text trace) same x.run in
      let net = y.network.net in
      run_by_once net.equipment.rates net.set (length net.rows) y.outcome seed until text trace other another apart (has_pdos net y.network.said.network) y.network.planned mine y.run
