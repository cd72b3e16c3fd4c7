use Rattle.std.proofs.Common.{◌≡◌, Some, sym, ap, ◌∙◌}
use Rattle.cop_engine.specs.Dcfs.{device_row}
use Rattle.cop_engine.proofs.DcfLemmas.{text_accepted}
use Rattle.cop_engine.proofs.dcfs.push_dcf.Goals as goal

pub dcf_file-requires-clause-accepted : goal.dcf_file-requires-clause-accepted
dcf_file-requires-clause-accepted c =
    let found : device_row c.args.network.now.nodes.devices c.args.node ≡ Some c.in-Some.row.now =
    ap (λ rows. device_row rows c.args.node) (sym c.devices.ensures.rows) ∙ sym c.in-Some.ensures in
    text_accepted c.args.eds_files.now c.args.network.now.nodes.devices c.args.node c.in-Some.row.now c.requires.texts found
