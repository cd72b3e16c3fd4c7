use Rattle.cop_live.proofs.opening.+drop_said.Given as goal

abbrev pub decreases-drop_said : goal.decreases-drop_said
decreases-drop_said g l = l.reads
