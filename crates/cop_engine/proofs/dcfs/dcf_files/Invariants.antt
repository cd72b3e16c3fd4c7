use Rattle.std.proofs.Common.{◌≡◌}
use Rattle.cop_engine.specs.Dcfs.{dcfs_below}
use Rattle.cop_engine.proofs.dcfs.dcf_files.Given as goal

abbrev pub invariant-loop-node : goal.invariant-loop-node
invariant-loop-node l = l.files ≡ dcfs_below l.eds_files l.network l.plan l.node
