-- Networks can be planned, and candidates are a set of rates.
use Rattle.std.proofs.Common.{◌≡◌, ◌↔◌, ℕ, ◌≤◌, List, length, Option, Some, None, IsSome, Contains, refl, false, arith}
use Rattle.cop_frame.specs.declared.rates.Rate.{Rate}
use Rattle.cop_rta.specs.declared.streams.Stream.{Stream}
use Rattle.cop_net.specs.Network.{Net, IsNetwork}
use Rattle.cop_plan.specs.declared.assigning.Outcome.{Outcome}
use Rattle.cop_plan.specs.declared.assigning.Outcome.TheVariants.{Planned, Refused}
use Rattle.cop_plan.specs.Plans.{CanAssign, IsSlower, IsPlan, IsOutcome}
use Rattle.cop_plan.specs.Values.{PlanValue}
use Rattle.cop_plan.proofs.FillingLemmas.{no_bit}
use Rattle.cop_plan.proofs.AssignLemmas.{also}

pub the_deadline : (o : Option ℕ) → IsSome o → (d : ℕ) × (o ≡ Some d)
the_deadline None h = absurd (no_bit false h refl)
the_deadline (Some d) h = (d, refl)

pub none_undated : (o : Option ℕ) (d : ℕ) → o ≡ Some d → IsSome o
none_undated None d e = absurd (cc)
none_undated (Some x) d e = refl

pub can_assign_network : (n : Net) → IsNetwork n → length n.rows ≤ 512 → CanAssign n.set (length n.rows)
can_assign_network n h few = record {
  count = h.streams.count;
  few = few;
  deadlines = λ p low. the_deadline _ (h.streams.deadlines p low);
  provisional = λ p low. omega (arith, h.streams.provisional p low);
  outside_first = λ k low inside. h.streams.outside k low inside;
  outside_second = h.streams.outside_second;
  synced = h.synced;
}

module _ (rates others : List Rate) (same : (rate : Rate) → Contains rates rate ↔ Contains others rate) (streams : List Stream) (pdos : ℕ) where
  there : (than rate : Rate) → IsSlower rates than rate → IsSlower others than rate
  there than rate s = ((same rate).0 s.0, s.1)

  back : (than rate : Rate) → IsSlower others than rate → IsSlower rates than rate
  back than rate s = ((same rate).1 s.0, s.1)

  plan_same : (plan : PlanValue) → IsPlan rates streams pdos plan → IsPlan others streams pdos plan
  plan_same plan h = record {
    candidate = (same plan.rate).0 h.candidate;
    count = h.count;
    passing = h.passing;
    order = h.order;
    by_priority = h.by_priority;
    slowest = λ rate s. h.slowest rate (back plan.rate rate s);
    refused = also streams pdos (IsSlower rates plan.rate) (IsSlower others plan.rate) plan.refusals (there plan.rate) (back plan.rate) h.refused;
    renamed = h.renamed;
  }

  -- what is planned for some candidates is planned for the same ones
  pub outcome_same : (outcome : Outcome) → IsOutcome rates streams pdos outcome → IsOutcome others streams pdos outcome
  outcome_same (Planned plan) h = plan_same plan h
  outcome_same (Refused refusals) h = record {
    none = λ rate c. h.none rate ((same rate).1 c);
    refused = also streams pdos (Contains rates) (Contains others) refusals (λ rate c. (same rate).0 c) (λ rate c. (same rate).1 c) h.refused;
  }
