use Rattle.cop_rows.proofs.RowsKept.{kept_device}
use Rattle.cop_rows.proofs.node_rows.NodeRows.push_device.Goals as goal

pub invariant_of-self : goal.invariant_of-self
invariant_of-self c =
    rw c.from-flag.ensures (kept_device c.self.inside.flags (record { devices = c.self.inside.devices.items; frames = c.self.inside.frames.items }) c.args.row
    c.push.new.self.items c.in-Ok.ensures.items c.self.invariant.0 c.self.invariant.1 c.requires (rw c.from-flag.ensures at c.if-self-flag.false))
