use Rattle.std.proofs.Common.{◌≡◌, ◌<◌, length, get_or, set, subst, sym, ap, ◌∙◌}
use Rattle.cop_rows.specs.declared.node_table.DeviceRow.{DeviceRow}
use Rattle.cop_rows.specs.Nodes.{IsNodeTable}
use Rattle.cop_rows.specs.SettingRows.{AreSettingRows}
use Rattle.cop_rows.proofs.SettingLemmas.{table_kept}
use Rattle.cop_rows.proofs.node_table.NodeTable.ask.Goals as goal

pub invariant_of-self : goal.invariant_of-self
invariant_of-self c =
    let devices = c.self.inside.devices.items in
    let old = c.index_mut.result.now in
    let new = c.ask_device.new.device in
    let is : record (get_or devices c.in-Some.place old) { settings = new.settings } ≡ new =
    sym (c.ask_device.ensures.others ∙ ap (λ (d : DeviceRow). record d { settings = new.settings }) c.index_mut.ensures.value) in
    let inside : c.in-Some.place < length devices = rw c.deref.ensures.value at c.in-Some.ensures.within in
    let before : AreSettingRows old.settings = subst (λ (d : DeviceRow). AreSettingRows d.settings) (sym c.index_mut.ensures.value) (c.self.invariant.settings c.in-Some.place old inside) in
    subst (λ d. IsNodeTable (record { devices = set devices c.in-Some.place d; frames = c.self.inside.frames.items })) is
    (table_kept (record { devices = devices; frames = c.self.inside.frames.items }) c.in-Some.place old new.settings inside c.self.invariant (c.ask_device.ensures.apart before))
