use Rattle.std.proofs.Common.{◌≡◌, ◌++◌, length}
use Rattle.std.specs.List.{AllByRecursion, flat_map}
use Rattle.std.specs.BTreeMap.{values}
use Rattle.cop_eds.specs.Found.{IsInside, spanned}
use Rattle.cop_eds.proofs.found.in_order.Given as goal

abbrev pub invariant-loop-span : goal.invariant-loop-span
invariant-loop-span l = record {
  collected : l.objects.items ++ flat_map (spanned l.all) l.span-iterator ≡ flat_map (spanned l.all) (values l.spans);
  inside : AllByRecursion (IsInside (length l.all)) l.span-iterator;
}
