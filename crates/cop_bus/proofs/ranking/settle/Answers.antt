use Rattle.std.proofs.Common.{◌≡◌, ◌/◌, ◌<◌, ◌∙◌, length, ap, subst, arith}
use Rattle.std.specs.Prelude.{slice_index}
use Rattle.std.proofs.lemmas.List.{get_or_read}
use Rattle.cop_bus.specs.Ranks.{leader}
use Rattle.cop_bus.proofs.RankLemmas.{settled-nodes, settled-named, settled-led, next-key, all-led}
use Rattle.cop_bus.proofs.ranking.settle.Goals as goal

pub loop-node-preserved : goal.loop-node-preserved
loop-node-preserved c =
    let keys = c.args.keys.now in
    let leaders = c.loop-node.leaders.items in
    let node = c.loop-node.node in
    let other = c.sibling.result in
    let first = c.loop-node.first in
    let next = c.leader-first.result in
    let h = c.loop-node.invariant in
    let many = h.nodes.many in
    let least = c.loop-node-test.true in
    let most = h.most in
    let beside = c.sibling.ensures in
    let read : c.index-place.result.now ≡ slice_index leaders other = get_or_read leaders other c.index-place.result.now (omega (arith, many, c.sibling.ensures, h.most)) c.index-place.ensures 0 in
    let is : next ≡ leader first (record { place = slice_index leaders other; key = slice_index keys (slice_index leaders other) }) =
    c.leader-first.ensures ∙ ap (λ v. leader first (record { place = v; key = slice_index keys v })) read in
    let nodes = settled-nodes keys leaders node other first h.nodes least most h.named h.key beside next is in
    let named = settled-named keys leaders node other first h.nodes least most h.named h.key beside next is in
    record {
      nodes = nodes;
      least = omega (arith, least);
      most = omega (arith, most);
      named = named;
      key = next-key keys leaders node other first h.nodes least most h.named h.key beside next is;
      within = subst (λ v. v < length keys) named (nodes.within (node / 2) (omega (arith, least)) (omega (arith, most)));
      led = settled-led keys leaders node other first h.nodes least most h.named h.key beside next is h.led;
    }

pub returns-clause-led : goal.returns-clause-led
returns-clause-led c = all-led c.args.keys.now c.loop-node.leaders.items c.loop-node.node c.loop-node-test.false c.loop-node.invariant.led
