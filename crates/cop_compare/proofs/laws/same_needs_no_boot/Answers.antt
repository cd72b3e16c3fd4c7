use Rattle.cop_compare.proofs.LawLemmas.{unnamed_stays, all_stay}
use Rattle.cop_compare.proofs.laws.same_needs_no_boot.Goals as goal

pub returns : goal.returns
returns c = record { unnamed = unnamed_stays; same = all_stay }
