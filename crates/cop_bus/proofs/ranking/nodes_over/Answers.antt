use Rattle.std.proofs.Common.{◌≡◌, ◌+◌, ◌-◌, arith, sym, subst}
use Rattle.std.specs.Prelude.{slice_index, slice_set}
use Rattle.std.proofs.lemmas.List.{get_or_read}
use Rattle.cop_bus.specs.Ranks.{AreNodes}
use Rattle.cop_bus.proofs.RankLemmas.{places-nodes, nodes-down}
use Rattle.cop_bus.proofs.ranking.nodes_over.Goals as goal

pub loop-node-init : goal.loop-node-init
loop-node-init c = record {
  low = omega arith;
  nodes = places-nodes c.args.places c.in_ok-nodes.nodes.items c.in_ok-nodes.ensures.many c.in_ok-nodes.ensures.leaves;
}

pub loop-node-preserved : goal.loop-node-preserved
loop-node-preserved c =
    let node = c.loop-node.node - 1 in
    let nodes = c.loop-node.nodes.items in
    let h = c.loop-node.invariant in
    let more = c.loop-node-test.true in
    let low = h.low in
    let many = h.nodes.many in
    let read : c.index.result.now ≡ slice_index nodes (node + node) = get_or_read nodes (node + node) c.index.result.now (omega (arith, more, low, many)) c.index.ensures 0 in
    record {
      low = omega (arith, low);
      nodes = subst (λ v. AreNodes c.args.places node (slice_set nodes node v)) (sym read)
          (nodes-down c.args.places node nodes (omega (arith, more)) (omega (arith, more, low)) (subst (λ n. AreNodes c.args.places n nodes) (let e : c.loop-node.node ≡ node + 1 = omega (arith, more) in e) h.nodes));
    }
