use Rattle.cop_plan.proofs.RenameLemmas.{passing_before_renaming, none_lower}
use Rattle.cop_plan.proofs.laws.no_assignment_is_on_time.Goals as goal

pub returns : goal.returns
returns c = λ rate streams renamed pdos ids few provisional none assigned have fine.
    none ids (assigned, passing_before_renaming rate streams renamed pdos ids have few provisional (none_lower pdos ids assigned) fine)
