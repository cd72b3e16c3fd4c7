use Rattle.cop_sdo.specs.Outcome as progress
use Rattle.cop_transfer.proofs.NodeLemmas.{heard_goes, asks_first, gives_first, expires_to}
use Rattle.cop_transfer.proofs.laws.clients_ask_their_node.Goals as goal

pub returns-clause-read : goal.returns-clause-read
returns-clause-read c node at started e = asks_first node at started e

pub returns-clause-write : goal.returns-clause-write
returns-clause-write c node at bytes started e = gives_first node at bytes started e

pub returns-clause-next : goal.returns-clause-next
returns-clause-next c client later answer request h = heard_goes client later answer (progress.Send request) h

pub returns-clause-abort : goal.returns-clause-abort
returns-clause-abort c client later answer abort code h = (heard_goes client later answer (progress.Ended abort code) h).0

pub returns-clause-expire : goal.returns-clause-expire
returns-clause-expire c client later abort e = expires_to client later abort e
