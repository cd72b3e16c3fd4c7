use Rattle.cop_live.proofs.flags.+read_flags.Given as goal

abbrev pub decreases-read_flags : goal.decreases-read_flags
decreases-read_flags g l = l.reads
