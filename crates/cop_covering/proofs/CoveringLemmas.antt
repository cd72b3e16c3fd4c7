-- What an answer of the planner says of refusals.
use Rattle.std.proofs.Common.{◌↔◌, Bool, List, length, IsTrue}
use Rattle.cop_cert.specs.declared.refusals.Refusal.{Refusal}
use Rattle.cop_net.specs.Network.{Net}
use Rattle.cop_plan.specs.declared.assigning.Outcome.{Outcome}
use Rattle.cop_plan.specs.Plans.{IsOutcome}
use Rattle.cop_covering.specs.Coverings.{CoversOutcome, CoversNetwork}

pub covers_by : (net : Net) (refusals : List Refusal) (outcome : Outcome) (covers : Bool) → IsOutcome net.equipment.rates net.set (length net.rows) outcome
    → (IsTrue covers ↔ CoversOutcome refusals outcome) → CoversNetwork net refusals covers
covers_by net refusals outcome covers planned h = record { outcome = outcome; planned = planned; covers_is = h }
