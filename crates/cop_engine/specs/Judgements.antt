-- The judgement of a trace by the plan of a network.
use Rattle.std.specs.Prelude.{◌≡◌, ◌⊎◌, ℕ, List, ◌++◌, codes, decimal, Bool, true, false, count_by, Option, None, Some, Ok, Err}
use Rattle.cop_frame.specs.declared.rates.Rate.{Rate}
use Rattle.cop_frame.specs.Rate.{ticks_of}
use Rattle.cop_rta.specs.declared.streams.Stream.{Stream}
use Rattle.cop_rta.specs.Errors.{bus_of}
use Rattle.cop_bus.specs.declared.steps.Step.{Step}
use Rattle.cop_bus.specs.declared.steps.Step.TheVariants as steps
use Rattle.cop_bus.specs.Trace.{IsLegalTrace}
use Rattle.cop_bus.specs.Judge.{first_broken}
use Rattle.cop_bus.specs.Late.{first_late}
use Rattle.cop_bus.specs.Reading.{Told, trace_of}
use Rattle.cop_net.specs.Devices.{File}
use Rattle.cop_plan.specs.Values.{PlanValue}
use Rattle.cop_plan.specs.declared.assigning.Outcome.{Outcome}
use Rattle.cop_plan.specs.declared.choices.Asked.{Asked}
use Rattle.cop_plan.specs.declared.assigning.Outcome.TheVariants.{Planned, Refused}
use Rattle.cop_engine.specs.declared.judgements.Judgement.{Judgement}
use Rattle.cop_engine.specs.declared.judgements.Judgement.TheVariants as judgements
use Rattle.cop_engine.specs.declared.faults.Fault.{Fault}
use Rattle.cop_engine.specs.declared.faults.Fault.TheVariants as faults
use Rattle.cop_engine.specs.Networks.{network_in, IsPlannedNetwork}

-- a transfer starts
abbrev pub is_start : Step → Bool
is_start (steps.Start id at) = true
is_start (steps.Queue id at event frame) = false
is_start (steps.End id at) = false

abbrev pub transfers_in : List Step → ℕ
transfers_in steps = count_by is_start steps

-- what is said of the first late instance, by the number of its queue step
abbrev pub said_late : Option ℕ → List ℕ
said_late None = codes "on time\n"
said_late (Some step) = codes "late " ++ decimal step ++ codes "\n"

abbrev pub judged_text : ℕ → Option ℕ → List ℕ
judged_text transfers late = codes "transfers " ++ decimal transfers ++ codes "\n" ++ said_late late

abbrev pub none_passes : List ℕ
none_passes = codes "no rate passes\n"

-- the text of a judgement
abbrev pub said_of : Judgement → List ℕ
said_of judgements.NonePasses = none_passes
said_of (judgements.OnTime transfers) = judged_text transfers None

-- the text is of a legal trace in which all streams obey, and this is said of it
pub record IsJudged (rate : Rate) (streams : List Stream) (trace text : List ℕ) : Type 0 where
  pub told : Told
  pub read : trace_of trace ≡ Ok told
  pub legal : IsLegalTrace (ticks_of rate) streams told.until told.steps
  pub text_is : text ≡ judged_text (transfers_in told.steps) (first_late (ticks_of rate) streams told.until told.steps)

-- the same, where none is late: under a plan's identifiers none is
pub record IsCleared (rate : Rate) (streams : List Stream) (trace text : List ℕ) : Type 0 where
  pub told : Told
  pub read : trace_of trace ≡ Ok told
  pub legal : IsLegalTrace (ticks_of rate) streams told.until told.steps
  pub text_is : text ≡ judged_text (transfers_in told.steps) None

-- it is none, or its first step that breaks a rule is this
abbrev pub ExplainsTrace : Rate → List Stream → List ℕ → Fault → Type 0
ExplainsTrace rate streams trace (faults.Network r) = ⊥
ExplainsTrace rate streams trace (faults.Refused number place) =
    (trace_of trace ≡ Err (place, number)) ⊎ ((told : Told) × (trace_of trace ≡ Ok told) × (first_broken (ticks_of rate) streams told.until told.steps ≡ Some (place, number)))
ExplainsTrace rate streams trace faults.Simulation = ⊥
ExplainsTrace rate streams trace (faults.File name) = ⊥
ExplainsTrace rate streams trace faults.Usage = ⊥
ExplainsTrace rate streams trace faults.Memory = Unit {0}

-- by a plan's rate and its streams on the bus; where no rate passes the trace is not looked at
abbrev pub IsJudgedBy : Outcome → List ℕ → List ℕ → Type 0
IsJudgedBy (Planned plan) trace text = IsJudged plan.rate (bus_of plan.streams) trace text
IsJudgedBy (Refused refusals) trace text = text ≡ none_passes

-- the judgement of a trace by the plan of the network that the files say
pub record IsJudgement (asked : Asked) (nodes pdos : List ℕ) (eds : List File) (trace text : List ℕ) : Type 0 where
  pub outcome : Outcome
  pub network : IsPlannedNetwork asked nodes pdos eds outcome
  pub judged : IsJudgedBy outcome trace text

-- why there is none: the network, or else the trace
abbrev pub ExplainsJudgement : Asked → List ℕ → List ℕ → List File → List ℕ → Fault → Type 0
ExplainsJudgement asked nodes pdos files trace (faults.Network r) = network_in asked.rates nodes pdos files ≡ Err r
ExplainsJudgement asked nodes pdos files trace (faults.Refused number place) =
    (plan : PlanValue) × IsPlannedNetwork asked nodes pdos files (Planned plan) × ExplainsTrace plan.rate (bus_of plan.streams) trace (faults.Refused number place)
ExplainsJudgement asked nodes pdos files trace faults.Simulation = ⊥
ExplainsJudgement asked nodes pdos files trace (faults.File name) = ⊥
ExplainsJudgement asked nodes pdos files trace faults.Usage = ⊥
ExplainsJudgement asked nodes pdos files trace faults.Memory = Unit {0}

-- what the judgement says: that no instance is late
abbrev pub SaysOnTime : Outcome → List ℕ → List ℕ → Type 0
SaysOnTime (Planned plan) trace text = (told : Told) × (trace_of trace ≡ Ok told) × (text ≡ judged_text (transfers_in told.steps) None)
SaysOnTime (Refused refusals) trace text = text ≡ none_passes
