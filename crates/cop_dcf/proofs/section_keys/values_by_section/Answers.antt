use Rattle.std.proofs.Common.{ℕ, None, get_or, length, ap, ◌∙◌}
use Rattle.cop_dcf.proofs.TableLemmas.{none_by_section, by_section_next, one_longer}
use Rattle.cop_dcf.proofs.section_keys.values_by_section.Goals as goal

pub loop-section-init : goal.loop-section-init
loop-section-init c = record {
  size = ap length c.in_ok-keys.ensures.items;
  keys = none_by_section c.in_ok-keys.keys.items (λ section. get_or c.args.table.now section None) c.in_ok-keys.ensures.items;
}

pub loop-section-preserved : goal.loop-section-preserved
loop-section-preserved c =
    let settings = λ (section : ℕ). get_or c.args.table.now section None in
    let own = c.in_ok-value_keys.ensures in
    let all = c.in_ok-push.ensures.items in record {
      size = ap length all ∙ one_longer c.loop-section.keys.items c.in_ok-value_keys.field-0 c.loop-section.section c.loop-section.invariant.size;
      keys = by_section_next c.loop-section.keys.items c.push.new.self.items settings c.loop-section.section c.in_ok-value_keys.field-0 c.loop-section.invariant.size c.loop-section.invariant.keys own all;
    }
