use Rattle.std.proofs.Common.{◌∙◌}
use Rattle.cop_net.proofs.NetworkLemmas.{network_streams, made}
use Rattle.cop_net.proofs.making.network_of_rows.Goals as goal

pub invariant_of-result : goal.invariant_of-result
invariant_of-result c =
    let frames = c.requires.frames in
    let rows = c.requires.rows in
    let devices = c.requires.devices in
    let made_of = rw c.new-frames.ensures at c.in_ok-set.ensures in
    let s = network_streams c.args.frames.now c.args.rows.now c.args.devices c.in_ok-set.set frames.2 (rw rows.0 (rows.1.count)) made_of in
    let streams = rw (frames.0, rows.0) at made_of in (
      record {
        wanted = devices.wanted;
        files = devices.files;
        made = made devices.wanted c.args.nodes.now c.args.pdos.now devices.files c.args.devices c.in_ok-set.set devices.made streams;
        nodes = frames.1;
        rows = rows.1;
        streams = rw rows.0 at s.0;
        signalled = rw (frames.0, rows.0) at s.1;
        synced = s.3;
        rates = s.2;
      },
      c.new-frames.ensures ∙ frames.0,
    )
