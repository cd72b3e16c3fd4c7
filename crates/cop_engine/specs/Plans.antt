-- The files of a plan.
use Rattle.std.specs.Prelude.{◌≡◌, ℕ, List, length}
use Rattle.cop_rta.specs.declared.verdicts.Verdict.{Verdict}
use Rattle.cop_cert.specs.Short.{file_of}
use Rattle.cop_rows.specs.declared.pdo_table.PdoRow.{PdoRow}
use Rattle.cop_net.specs.Devices.{File}
use Rattle.cop_net.specs.Network.{Net}
use Rattle.cop_plan.specs.declared.assigning.Outcome.{Outcome}
use Rattle.cop_plan.specs.declared.choices.Asked.{Asked}
use Rattle.cop_plan.specs.declared.assigning.Outcome.TheVariants.{Planned, Refused}
use Rattle.cop_plan.specs.Values.{PlanValue}
use Rattle.cop_engine.specs.declared.plans.Files.{Files}
use Rattle.cop_engine.specs.Tests.{AreVerdicts}
use Rattle.cop_engine.specs.Networks.{IsPlannedNetwork}
use Rattle.cop_engine.specs.Dcfs.{dcfs_of}
use Rattle.cop_engine.specs.PlanTexts.{plan_text, is_planned, refusals_of}

-- what the test says of the PDOs of a plan, under their identifiers
abbrev pub ArePlanVerdicts : Outcome → List Verdict → ℕ → Type 0
ArePlanVerdicts (Planned plan) verdicts pdos = AreVerdicts plan.rate plan.streams verdicts pdos
ArePlanVerdicts (Refused refusals) verdicts pdos = Unit {0}

-- the text of a plan, with what the test says of its PDOs
abbrev pub IsPlanText : List PdoRow → PlanValue → List ℕ → Type 0
IsPlanText rows plan text = (verdicts : List Verdict) × AreVerdicts plan.rate plan.streams verdicts (length rows) × (text ≡ plan_text rows verdicts (Planned plan))

-- The files of what the planner answers for a network: the plan's text with the response of each PDO, the refusal file with the greatest
-- refusal set of each slower candidate, or of each candidate where no rate passes, and the DCF file of each device.
pub record AreFilesFor (eds : List File) (net : Net) (outcome : Outcome) (files : Files) : Type 0 where
  pub verdicts : List Verdict
  pub judged : ArePlanVerdicts outcome verdicts (length net.rows)
  pub is_plan : files.planned ≡ is_planned outcome
  pub plan : files.plan.items ≡ plan_text net.rows verdicts outcome
  pub refusals : files.refusals.items ≡ file_of net.set (length net.rows) (refusals_of outcome)
  pub dcf : files.dcf ≡ dcfs_of eds net outcome

-- the files of what is asked of the network that the tables and the EDS files say
pub record AreFilesOf (asked : Asked) (nodes pdos : List ℕ) (eds : List File) (files : Files) : Type 0 where
  pub outcome : Outcome
  pub network : IsPlannedNetwork asked nodes pdos eds outcome
  pub written : AreFilesFor eds network.net outcome files
