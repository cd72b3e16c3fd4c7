-- How a bus is reached, by what was found of it.
use Rattle.std.proofs.Common.{sym, subst, inr}
use Rattle.cop_frame.specs.declared.rates.Rate.{Rate}
use Rattle.cop_live.specs.Log.{ByteStep, ClockStep}
use Rattle.cop_live.specs.Session.{CloseFails}
use Rattle.cop_survey.specs.declared.reaching.Reason.{Reason}
use Rattle.cop_survey.specs.declared.reaching.Reached.{Reached}
use Rattle.cop_survey.specs.declared.reaching.Reached.TheVariants.{Open, Left, Failed}
use Rattle.cop_survey.specs.Reaching.{IsFound, found_of, IsReached, Leaves, if_failed, ReachFails}

module _ {P : Type 0} (reads writes : ByteStep P) (asks : ClockStep P) (rate : Rate) where
  -- the adapter was closed for what was found
  pub left_so : (reason : Reason) (p heard q : P) (reached : Reached) → IsFound reads writes asks rate p (found_of reason) heard → Leaves reads writes reason heard reached q → IsReached reads writes asks rate p reached q
  left_so reason p heard q Open finds h = absurd h
  left_so reason p heard q (Left other) finds h = record { heard = heard; finds = subst (λ (r : Reason). IsFound reads writes asks rate p (found_of r) heard) (sym h.0) finds; closes = h.1 }
  left_so reason p heard q Failed finds h = tt

  pub unleft_so : (fails : ByteStep P) (reason : Reason) (p heard q : P) (reached : Reached) → IsFound reads writes asks rate p (found_of reason) heard → if_failed reached (CloseFails reads writes fails heard q)
      → if_failed reached (ReachFails reads writes asks fails rate p q)
  unleft_so fails reason p heard q Open finds h = tt
  unleft_so fails reason p heard q (Left other) finds h = tt
  unleft_so fails reason p heard q Failed finds h = inr (reason, heard, finds, h)
