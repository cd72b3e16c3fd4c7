-- The seeded run of a plan.
use Rattle.std.specs.Prelude.{◌≡◌, ℕ, List, [], map, Option, None, Some, is_some, if◌then◌else◌}
use Rattle.std.specs.Io.KnownBytes.{Appends}
use Rattle.cop_frame.specs.Rate.{ticks_of}
use Rattle.cop_rta.specs.declared.streams.Stream.{Stream}
use Rattle.cop_bus.specs.declared.steps.Step.{Step}
use Rattle.cop_bus.specs.Format.{text_of}
use Rattle.cop_net.specs.Devices.{File}
use Rattle.cop_net.specs.Fixed.{ticks}
use Rattle.cop_rta.specs.Errors.{errors_of}
use Rattle.cop_plan.specs.Values.{PlanValue, on_bus}
use Rattle.cop_plan.specs.declared.assigning.Outcome.{Outcome}
use Rattle.cop_plan.specs.declared.choices.Asked.{Asked}
use Rattle.cop_plan.specs.declared.assigning.Outcome.TheVariants.{Planned, Refused}
use Rattle.cop_sim.specs.declared.faults.SimFault.{SimFault}
use Rattle.cop_sim.specs.declared.faults.SimFault.TheVariants as simulator
use Rattle.cop_sim.specs.Drawing.{seeded_actor}
use Rattle.cop_sim.specs.Play.{Actor, IsPlay, IsBacklog}
use Rattle.cop_sim.specs.Sinks.{IsFixed}
use Rattle.cop_engine.specs.declared.faults.Fault.{Fault}
use Rattle.cop_engine.specs.declared.faults.Fault.TheVariants as faults
use Rattle.cop_engine.specs.declared.seeded_runs.RunFault.{RunFault}
use Rattle.cop_engine.specs.declared.seeded_runs.RunFault.TheVariants as runs
use Rattle.cop_engine.specs.Judgements.{transfers_in, judged_text, none_passes}
use Rattle.cop_engine.specs.Networks.{ExplainsNetwork, IsPlannedNetwork}

-- the behaviours of the streams by a seed
abbrev pub seeded : ℕ → List Stream → List Actor
seeded seed streams = map (seeded_actor seed) streams

-- The play of the plan's streams by a seed, up to so many microseconds: the text tells its transfers and that no PDO is
-- late, and known bytes have grown by the trace's text.
pub record IsRun (plan : PlanValue) (seed until : ℕ) (text : List ℕ) (before after : Option (List ℕ)) : Type 0 where
  pub steps : List Step
  pub play : IsPlay (ticks_of plan.rate) (seeded seed plan.streams) (ticks until) steps
  pub text_is : text ≡ judged_text (transfers_in steps) None
  pub trace : Appends before after (text_of (ticks until) steps)

-- too many instances of a fixed frame wait
abbrev pub IsBacklogged : PlanValue → ℕ → ℕ → Type 0
IsBacklogged plan seed until = (id : ℕ) × IsFixed plan id × IsBacklog (ticks_of plan.rate) (seeded seed plan.streams) (ticks until) id

-- why there is none; a trace that is not written is the writer's fault
abbrev pub ExplainsRun : PlanValue → ℕ → ℕ → RunFault → Type 0
ExplainsRun plan seed until runs.Simulation = IsBacklogged plan seed until
ExplainsRun plan seed until runs.Trace = Unit {0}
ExplainsRun plan seed until runs.Memory = Unit {0}

-- the plan on the bus alone, whose streams a run has: a run has no errors
abbrev pub plan_on_bus : PlanValue → PlanValue
plan_on_bus plan = if is_some (errors_of plan.streams) then on_bus plan else plan

-- by the plan of a network; where no rate passes there is no trace
abbrev pub IsRunBy : Outcome → ℕ → ℕ → List ℕ → List ℕ → Type 0
IsRunBy (Planned plan) seed until text trace = IsRun (plan_on_bus plan) seed until text (Some []) (Some trace)
IsRunBy (Refused refusals) seed until text trace = (text ≡ none_passes) × (trace ≡ [])

-- the run of the network that the files say
pub record IsNetworkRun (asked : Asked) (nodes pdos : List ℕ) (eds : List File) (seed until : ℕ) (text trace : List ℕ) : Type 0 where
  pub outcome : Outcome
  pub network : IsPlannedNetwork asked nodes pdos eds outcome
  pub run : IsRunBy outcome seed until text trace

-- why there is none: the network, or else its run
abbrev pub ExplainsNetworkRun : Asked → List ℕ → List ℕ → List File → ℕ → ℕ → Fault → Type 0
ExplainsNetworkRun asked nodes pdos files seed until (faults.Network r) = ExplainsNetwork asked.rates nodes pdos files (faults.Network r)
ExplainsNetworkRun asked nodes pdos files seed until (faults.Refused number place) = ⊥
ExplainsNetworkRun asked nodes pdos files seed until faults.Simulation = (plan : PlanValue) × IsPlannedNetwork asked nodes pdos files (Planned plan) × IsBacklogged (plan_on_bus plan) seed until
ExplainsNetworkRun asked nodes pdos files seed until (faults.File name) = ⊥
ExplainsNetworkRun asked nodes pdos files seed until faults.Usage = ⊥
ExplainsNetworkRun asked nodes pdos files seed until faults.Memory = Unit {0}

-- a writer into memory fails for want of memory alone
abbrev pub fault_of_run : RunFault → Fault
fault_of_run runs.Simulation = faults.Simulation
fault_of_run runs.Trace = faults.Memory
fault_of_run runs.Memory = faults.Memory

-- what a fault of the simulator means
abbrev pub run_fault : SimFault → RunFault
run_fault simulator.Count = runs.Simulation
run_fault (simulator.Disobeys stream instance) = runs.Simulation
run_fault (simulator.Backlog id) = runs.Simulation
run_fault simulator.Sink = runs.Trace
run_fault simulator.Memory = runs.Memory

-- a fault of the trace's writing
abbrev pub IsOfWriting : RunFault → Type 0
IsOfWriting runs.Simulation = ⊥
IsOfWriting runs.Trace = Unit {0}
IsOfWriting runs.Memory = Unit {0}
