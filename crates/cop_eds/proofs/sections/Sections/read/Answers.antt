use Rattle.std.proofs.Common.{rules}
use Rattle.cop_eds.proofs.sections.Sections.read.Goals as goal

pub invariant_of-result : goal.invariant_of-result
invariant_of-result c = record {
  all = search rules;
  within = search rules;
  size = search rules;
  fits = search rules;
  ticketed = search rules;
  marked = rw c.deref-3.ensures.value at c.in_ok-marks.ensures;
  by_number = search rules;
  ordered = search (rules, c.are_searchable-is_named.ensures);
  by_name = search rules;
}
