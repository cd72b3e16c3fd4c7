use Rattle.cop_cert.proofs.EvidenceLemmas.{evidence_fails}
use Rattle.cop_cert.proofs.laws.evidence_excludes_passing.Goals as goal

pub returns : goal.returns
returns c = evidence_fails
