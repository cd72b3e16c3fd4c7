use Rattle.std.proofs.Common.{◌≡◌, None, get_or, length}
use Rattle.cop_dcf.specs.Dcf.{values_from}
use Rattle.cop_dcf.specs.Changes.{AreBySection}
use Rattle.cop_dcf.proofs.section_keys.values_by_section.Given as goal

abbrev pub invariant-loop-section : goal.invariant-loop-section
invariant-loop-section l = record {
  size : length l.keys.items ≡ l.section;
  keys : AreBySection l.keys.items (values_from (λ section. get_or l.fn.table section None) 0 l.section);
}
