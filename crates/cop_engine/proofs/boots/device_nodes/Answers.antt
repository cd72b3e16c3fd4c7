use Rattle.std.proofs.Common.{◌∙◌, sym, ap, arith}
use Rattle.cop_engine.proofs.BootLemmas.{no_nodes, has_device, no_device}
use Rattle.cop_engine.proofs.boots.device_nodes.Goals as goal
use Rattle.cop_engine.proofs.boots.device_nodes.Goals.{then-has_device+in_ok-push, else-has_device}

pub loop-node-init : goal.loop-node-init
loop-node-init c = (omega arith, c.new-nodes.ensures.items ∙ sym (no_nodes c.args.network.now))

pub loop-node-preserved : goal.loop-node-preserved
loop-node-preserved c =
    let inv = c.loop-node.invariant in (
      omega arith,
      elim c.if-has_device.branch [
        | then-has_device+in_ok-push w ↦
            ap (λ v. v.items) w.nodes-is ∙ has_device c.args.network.now c.loop-node.nodes.items _ c.loop-node.node inv.0 (sym c.has_device.ensures ∙ w.if-has_device.true) inv.1 w.in_ok-push.ensures.items
        | else-has_device w ↦
            ap (λ v. v.items) w.nodes-is ∙ no_device c.args.network.now c.loop-node.nodes.items c.loop-node.node inv.0 (sym c.has_device.ensures ∙ w.if-has_device.false) inv.1
      ],
    )
