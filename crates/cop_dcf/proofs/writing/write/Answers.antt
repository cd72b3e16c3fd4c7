use Rattle.std.proofs.Common.{refl, take}
use Rattle.cop_eds.specs.Text.{mark_len}
use Rattle.cop_dcf.specs.Dcf.{changes_of}
use Rattle.cop_dcf.proofs.DcfLemmas.{all_put}
use Rattle.cop_dcf.proofs.writing.write.Goals as goal

pub returns : goal.returns
returns c =
    let text = c.args.eds.now in
    all_put text (changes_of text c.args.settings.now c.args.node c.args.name.now c.args.rate c.args.eds_name.now) c.in_ok-table.table.items c.deref.result.now c.deref-2.result.now c.deref-3.result.now
    c.keys_in.result.now c.keys_in-2.result.now c.named_sections-file.result.0 c.named_sections-file.result.1 (take (mark_len text) text) c.in_ok-text.text.items c.put_lines.new.text.items c.put_absent.new.text.items
    c.put_absent-2.new.text.items c.in_ok-table.ensures c.in_ok-text.ensures refl c.in_ok-put_lines.ensures c.deref.ensures.value c.in_ok-put_absent.ensures c.keys_in.ensures c.deref-2.ensures.value
    c.named_sections-file.ensures.file c.in_ok-put_absent-2.ensures c.keys_in-2.ensures c.deref-3.ensures.value c.named_sections-file.ensures.device
