use Rattle.std.proofs.Common.{◌≡◌, ◌+◌, ◌∷◌, ◌++◌, [], None, get_or, length, ap, ◌∙◌}
use Rattle.cop_eds.specs.Rows.{rows_of}
use Rattle.cop_eds.specs.Edits.{section_count}
use Rattle.cop_dcf.specs.Dcf.{setting_in, values_from, origin_set, device_set, file_number, device_number}
use Rattle.cop_dcf.proofs.TableLemmas.{values_known, all_keys}
use Rattle.cop_dcf.proofs.section_keys.section_keys.Goals as goal

pub returns : goal.returns
returns c =
    let text = c.args.eds.now in
    let settings = c.args.settings.now in
    let seen = c.deref.result.now in
    let values = values_from (λ section. get_or seen section None) 0 (length seen) in
    let known : values ≡ values_from (setting_in text settings) 0 (section_count (rows_of text) + 1) =
    values_known c.in_ok-table.table.items seen text settings (c.section_count-count.result + 1) c.in_ok-table.ensures c.deref.ensures.value
    ∙ ap (λ n. values_from (setting_in text settings) 0 (n + 1)) c.section_count-count.ensures.value in
    let first = c.in_ok-add_section.ensures.keys values c.in_ok-keys.ensures.keys in
    let second = c.in_ok-add_section-2.ensures.keys values first in
    let third = c.in_ok-add_key.ensures.keys values second in
    let fourth = c.in_ok-add_device.ensures (values ++ c.in_ok-new.field-0 ∷ []) third in
    let origin : c.in_ok-new.field-0 ∷ [] ≡ origin_set (file_number (rows_of text)) c.args.eds_name.now =
    ap (λ key. key ∷ []) c.in_ok-new.ensures ∙ ap (λ n. origin_set n c.args.eds_name.now) c.named_sections-file.ensures.file in
    let device = ap (λ n. device_set n c.args.node c.args.name.now c.args.rate) c.named_sections-file.ensures.device in
    all_keys c.add_device.new.keys.items values (values_from (setting_in text settings) 0 (section_count (rows_of text) + 1)) c.in_ok-new.field-0 (origin_set (file_number (rows_of text)) c.args.eds_name.now)
    (device_set c.named_sections-file.result.1 c.args.node c.args.name.now c.args.rate) (device_set (device_number (rows_of text)) c.args.node c.args.name.now c.args.rate) fourth known origin device
