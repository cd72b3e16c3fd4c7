-- Why nothing is sent at a port is refused, as the program has it.
use Rattle.cop_engine.specs.declared.faults.Fault.{Fault}
use Rattle.cop_engine.specs.declared.faults.Fault.TheVariants.{Refused}
use Rattle.cop_survey.specs.declared.reaching.Reason.{Reason}
use Rattle.cop_survey.specs.declared.reaching.Reason.TheVariants.{Garbled, Erroneous, Unopened}

-- why nothing is sent is refused by the number of a rule, and a place
abbrev pub refused_for : Reason → Fault
refused_for (Garbled lines) = Refused 103 lines
refused_for (Erroneous flags) = Refused 102 0
refused_for (Unopened command) = Refused 104 0
