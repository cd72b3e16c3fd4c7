use Rattle.std.proofs.Common.{◌++◌, ◌+◌, sym, ap, ◌∙◌, append-nil, append_assoc}
use Rattle.cop_start.specs.Senders.{each_to, sender_at}
use Rattle.cop_start.proofs.EachLemmas.{senders_none, senders_more}
use Rattle.cop_start.proofs.senders.add_device.Goals as goal

pub loop-before-init : goal.loop-before-init
loop-before-init c = rw (senders_none (sender_at c.args.node c.args.dict.now)) (sym (append-nil c.args.senders.now.items))

pub loop-before-preserved : goal.loop-before-preserved
loop-before-preserved c =
    let f = sender_at c.args.node c.args.dict.now in
    let before = c.loop-before.before in
    let now = c.args.senders.now.items in
    c.in_ok-add_sender.ensures ∙ rw c.loop-before.invariant (append_assoc now (each_to f before) (f (before + 1)) ∙ ap (λ t. now ++ t) (sym (senders_more f before)))
