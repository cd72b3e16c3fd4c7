use Rattle.std.proofs.Common.{◌∙◌, sym}
use Rattle.std.proofs.lemmas.Result.{err_from_is_err_and}
use Rattle.cop_dict.specs.Build.{entry_built}
use Rattle.cop_dict.proofs.OrderLemmas.{Rises, place_of_object, rises_at, objects_rise}
use Rattle.cop_dict.proofs.BuildLemmas.{goes_on, fails, ends, built_sorted}
use Rattle.cop_dict.proofs.KeyLemmas.{keys_at}
use Rattle.cop_dict.proofs.building.entries.Goals as goal

pub entry_built-requires-clause-index : goal.entry_built-requires-clause-index
entry_built-requires-clause-index c =
    let rises : Rises place_of_object 0 c.objects-object-items.result.now = rw c.objects-object-items.ensures (objects_rise c.args.eds.now) in
    (rises_at place_of_object 0 c.objects-object-items.result.now c.loop-i.i _ rises c.loop-i-test.true).1

pub entry_built-requires-clause-sub : goal.entry_built-requires-clause-sub
entry_built-requires-clause-sub c =
    let rises : Rises place_of_object 0 c.objects-object-items.result.now = rw c.objects-object-items.ensures (objects_rise c.args.eds.now) in
    (rises_at place_of_object 0 c.objects-object-items.result.now c.loop-i.i _ rises c.loop-i-test.true).2

pub returns-in_err-entry_built-clause-value : goal.returns-in_err-entry_built-clause-value
returns-in_err-entry_built-clause-value c =
    let p = err_from_is_err_and c.from_residual-in_err-entry_built.result c.from_residual-in_err-entry_built.ensures.1 in
    rw (p.1, p.2)
    (fails (entry_built c.args.eds.now c.args.node) c.objects-object-items.result.now c.loop-i.i _ c.loop-i.entries.items _ _
    c.loop-i-test.true c.loop-i.invariant
    (c.in_err-entry_built.ensures c.args.eds.now (keys_at c.args.eds.now c.args.keys.now c.objects-object-items.result.now c.loop-i.i _ _ c.requires c.objects-object-items.ensures c.loop-i-test.true)))

pub loop-i-preserved : goal.loop-i-preserved
loop-i-preserved c =
    rw c.in_ok-push.ensures.items
    (goes_on (entry_built c.args.eds.now c.args.node) c.objects-object-items.result.now c.loop-i.i _ c.loop-i.entries.items _
    c.loop-i-test.true (c.in_ok-entry_built.ensures c.args.eds.now (keys_at c.args.eds.now c.args.keys.now c.objects-object-items.result.now c.loop-i.i _ _ c.requires c.objects-object-items.ensures c.loop-i-test.true))
    ∙ c.loop-i.invariant)

pub returns-clause-value : goal.returns-clause-value
returns-clause-value c =
    sym c.loop-i.invariant
    ∙ ends (entry_built c.args.eds.now c.args.node) c.objects-object-items.result.now c.loop-i.i c.loop-i.entries.items c.loop-i-test.false

pub returns-clause-sorted : goal.returns-clause-sorted
returns-clause-sorted c =
    built_sorted c.args.eds.now c.args.node c.loop-i.entries.items
    (sym c.loop-i.invariant
    ∙ ends (entry_built c.args.eds.now c.args.node) c.objects-object-items.result.now c.loop-i.i c.loop-i.entries.items c.loop-i-test.false)
