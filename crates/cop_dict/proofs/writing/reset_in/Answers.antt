use Rattle.std.proofs.Common.{◌≡◌, map, subst, sym, arith}
use Rattle.std.proofs.lemmas.List.Edits.{map_over_more}
use Rattle.cop_dict.specs.Find.{IsSorted}
use Rattle.cop_dict.specs.Dict.{as_built}
use Rattle.cop_dict.proofs.DictLemmas.{all_changed, sorted_map, built_kept}
use Rattle.cop_dict.proofs.writing.reset_in.Goals as goal

pub loop-object-preserved : goal.loop-object-preserved
loop-object-preserved c =
    rw (c.reset.ensures, ← c.object-item.is)
    (map_over_more as_built c.args.objects.now c.loop-object.objects c.loop-object.object-index c.object-item.result (omega arith) c.loop-object.invariant c.object-item.is)

pub returns-clause-sorted : goal.returns-clause-sorted
returns-clause-sorted c =
    let all : c.loop-object.objects ≡ map as_built c.args.objects.now = all_changed as_built _ _ c.loop-object.object-index (omega arith) c.loop-object.invariant in
    subst IsSorted (sym all) (sorted_map as_built built_kept c.args.objects.now c.requires)
