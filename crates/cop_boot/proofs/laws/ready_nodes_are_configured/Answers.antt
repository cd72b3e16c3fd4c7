use Rattle.cop_boot.proofs.StartLemmas.{ready_was_configured, start_was_late, configured_is_ready, all_ready_are_started}
use Rattle.cop_boot.proofs.laws.ready_nodes_are_configured.Goals as goal

pub returns : goal.returns
returns c = record { ready = ready_was_configured; start = start_was_late; becomes_ready = configured_is_ready; start_follows = all_ready_are_started }
