-- What came of the boot of the nodes that are meant, where there are some.
use Rattle.std.proofs.Common.{◌≡◌, ℕ, ◌≤◌, List, [], ◌∷◌, length, subst, arith}
use Rattle.std.specs.Prelude.{Result, Ok, Err, IfOk}
use Rattle.cop_frame.specs.declared.rates.Rate.{Rate}
use Rattle.cop_net.specs.Network.{Net}
use Rattle.cop_live.specs.Log.{ByteStep, ClockStep}
use Rattle.cop_commission.specs.declared.commissioning.Approach.{Approach}
use Rattle.cop_commission.specs.declared.commissioning.Commissioned.{Commissioned}
use Rattle.cop_commission.specs.Commissioning.{meant_nodes, IsMet, IsMetOrAbsent, IsCommissioned}

met_so : {P : Type 0} (reads writes : ByteStep P) (asks : ClockStep P) (net : Net) (rate : Rate) (ids nodes : List ℕ) (approach : Approach) (p q : P) (ended : Commissioned)
    → 1 ≤ length nodes → IsMet reads writes asks net rate ids nodes approach p q ended → IsMetOrAbsent reads writes asks net rate ids nodes approach p q ended
met_so reads writes asks net rate ids [] approach p q ended some met = absurd (omega arith)
met_so reads writes asks net rate ids (node ∷ nodes) approach p q ended some met = met

pub commissioned_so : {P E : Type 0} (reads writes : ByteStep P) (asks : ClockStep P) (net : Net) (rate : Rate) (ids nodes : List ℕ) (approach : Approach) (p q : P) (result : Result Commissioned E)
    → nodes ≡ meant_nodes net approach.reach.only → 1 ≤ length nodes → IfOk result (λ ended. IsMet reads writes asks net rate ids nodes approach p q ended)
    → IfOk result (λ ended. IsCommissioned reads writes asks net rate ids approach p q ended)
commissioned_so reads writes asks net rate ids nodes approach p q (Ok ended) e some met =
    subst (λ (ns : List ℕ). IsMetOrAbsent reads writes asks net rate ids ns approach p q ended) e (met_so reads writes asks net rate ids nodes approach p q ended some met)
commissioned_so reads writes asks net rate ids nodes approach p q (Err fault) e some met = met
