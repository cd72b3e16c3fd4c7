use Rattle.cop_pdo.proofs.LawLemmas.{writes_leave, stores_leave, resets_leave}
use Rattle.cop_pdo.proofs.SentLemmas.{unpacking_leaves}
use Rattle.cop_pdo.proofs.laws.objects_stay.Goals as goal

pub returns-clause-writes : goal.returns-clause-writes
returns-clause-writes c = writes_leave

pub returns-clause-stores : goal.returns-clause-stores
returns-clause-stores c = stores_leave

pub returns-clause-resets : goal.returns-clause-resets
returns-clause-resets c = resets_leave

pub returns-clause-unpacking : goal.returns-clause-unpacking
returns-clause-unpacking c = unpacking_leaves
