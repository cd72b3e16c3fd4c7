use Rattle.std.proofs.Common.{◌≡◌, map, subst, sym, arith}
use Rattle.std.proofs.lemmas.List.Edits.{map_over_more}
use Rattle.cop_dict.specs.Find.{IsSorted}
use Rattle.cop_dict.specs.Dict.{reset_communication}
use Rattle.cop_dict.proofs.DictLemmas.{all_changed, sorted_map, reset_kept}
use Rattle.cop_dict.proofs.writing.reset_communication_in.Goals as goal

pub loop-object-preserved : goal.loop-object-preserved
loop-object-preserved c =
    rw (c.reset_communication.ensures, ← c.object-item.is)
    (map_over_more reset_communication c.args.objects.now c.loop-object.objects c.loop-object.object-index c.object-item.result (omega arith) c.loop-object.invariant c.object-item.is)

pub returns-clause-sorted : goal.returns-clause-sorted
returns-clause-sorted c =
    let all : c.loop-object.objects ≡ map reset_communication c.args.objects.now = all_changed reset_communication _ _ c.loop-object.object-index (omega arith) c.loop-object.invariant in
    subst IsSorted (sym all) (sorted_map reset_communication reset_kept c.args.objects.now c.requires)
