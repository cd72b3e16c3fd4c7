use Rattle.std.proofs.Common.{◌∷◌, ◌++◌, [], codes, decimal, ap, ◌∙◌}
use Rattle.cop_dcf.proofs.TableLemmas.{device_by_section}
use Rattle.cop_dcf.proofs.section_keys.add_device.Goals as goal

pub returns : goal.returns
returns c = λ changes are.
    let first = c.in_ok-add_key.ensures.keys changes are in
    let second = c.in_ok-add_key-2.ensures.keys (changes ++ c.in_ok-number_key.field-0 ∷ []) first in
    let third = c.in_ok-add_key-3.ensures.keys ((changes ++ c.in_ok-number_key.field-0 ∷ []) ++ c.in_ok-new.field-0 ∷ []) second in
    device_by_section c.add_key-3.new.keys.items changes c.in_ok-number_key.field-0 c.in_ok-new.field-0 c.in_ok-number_key-2.field-0 c.args.section c.args.node c.args.name.now c.args.rate
    third (c.in_ok-number_key.ensures ∙ ap (λ n. record { section = c.args.section; key = codes "NodeID"; value = decimal n }) c.from.ensures) c.in_ok-new.ensures (c.in_ok-number_key-2.ensures ∙ ap (λ n. record { section = c.args.section; key = codes "Baudrate"; value = decimal n }) c.kbits.ensures)
