use Rattle.cop_setup.proofs.InTurn.{in_turn, have_values, kept_by_all}
use Rattle.cop_setup.proofs.laws.apart_are_accepted.Goals as goal

pub returns : goal.returns
returns c = record { accepted = in_turn; values = have_values; others = kept_by_all }
