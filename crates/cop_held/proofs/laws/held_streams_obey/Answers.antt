use Rattle.cop_held.proofs.RedatedLemmas.{still_legal, held_obeys, others_obey}
use Rattle.cop_held.proofs.laws.held_streams_obey.Goals as goal

pub returns-clause-legal : goal.returns-clause-legal
returns-clause-legal c = λ tau until streams held run h. still_legal tau until streams held run h

pub returns-clause-held : goal.returns-clause-held
returns-clause-held c = λ tau until held run k every is apart. held_obeys tau until held run k every is apart

pub returns-clause-others : goal.returns-clause-others
returns-clause-others c = λ tau until held run k free is obeys. others_obey held free tau until run k is obeys
