use Rattle.std.proofs.Common.{sym, ap, ◌∙◌, arith, true≢false, vec_len}
use Rattle.std.proofs.lemmas.Bool.{eq-eqb}
use Rattle.cop_rows.specs.Nodes.{NodeLists}
use Rattle.cop_rows.specs.NodeReading.{first_lacking}
use Rattle.cop_rows.proofs.DeviceLemmas.{table}
use Rattle.cop_rows.proofs.node_rows.NodeRows.into_table.Goals as goal

pub invariant_of-result : goal.invariant_of-result
invariant_of-result c =
    table (record { devices = c.self.inside.devices.items; frames = c.self.inside.frames.items }) c.self.invariant.0
    (ap (λ (lists : NodeLists). first_lacking lists.devices lists.frames) c.self.view_is ∙ sym c.first_lacking.ensures ∙ c.in_default.is)
    (λ none. true≢false (sym (eq-eqb (vec_len c.self.inside.devices) 0 (omega (arith, c.self.inside.devices.ok.0, none))) ∙ sym c.is_empty.ensures ∙ c.if-is_empty.false))
