-- A file holds the refusals of a plan.
use Rattle.std.proofs.Common.{◌≤◌, ℕ, List, length, get_or}
use Rattle.cop_frame.specs.declared.rates.Rate.{Rate}
use Rattle.cop_rta.specs.declared.streams.Stream.{Stream}
use Rattle.cop_cert.specs.declared.refusals.Refusal.{Refusal}
use Rattle.cop_cert.specs.Writable.{AreWritable}
use Rattle.cop_cert.proofs.MadeLemmas.{made_is_writable}
use Rattle.cop_plan.specs.Plans.{AreRefusals}

pub refusals_writable : (streams : List Stream) (pdos : ℕ) (Are : Rate → Type 0) (refusals : List Refusal) → pdos ≤ length streams → pdos ≤ 512
    → AreRefusals streams pdos Are refusals → AreWritable refusals
refusals_writable streams pdos Are refusals count few are = record {
  rise = are.rise;
  each = λ k d below.
      let one = are.each k d below in
      made_is_writable streams pdos (get_or refusals k d) count few one.holds one.made;
}
