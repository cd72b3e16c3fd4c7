use Rattle.std.proofs.Common.{◌≡◌, ◌<◌, get_or, length, ap, sym, ◌∙◌, arith}
use Rattle.cop_dcf.proofs.SettingsLemmas.{grown_some, grown_none}
use Rattle.cop_commission.specs.Senders.{own_sender}
use Rattle.cop_commission.proofs.senders.add_own.Goals as goal
use Rattle.cop_commission.proofs.senders.add_own.Goals.{in-Some+in_ok-push, in_default}

pub loop-entry-preserved : goal.loop-entry-preserved
loop-entry-preserved c =
    let f = own_sender c.args.node in
    let lt : c.loop-entry.entry-index < length c.args.entries.now = omega arith in
    let found : f (get_or c.args.entries.now c.loop-entry.entry-index c.entry-item.result) ≡ c.own_sender.result = sym (c.own_sender.ensures ∙ ap f c.entry-item.is) in
    elim c.match-own_sender.branch [
      | in-Some+in_ok-push w ↦
          ap (λ v. v.items) w.senders-is
          ∙ grown_some f c.args.entries.now c.loop-entry.entry-index c.entry-item.result w.in-Some.sender c.args.senders.now.items c.loop-entry.senders.items w.push.new.self.items lt
          (found ∙ w.in-Some.is) c.loop-entry.invariant w.in_ok-push.ensures.items
      | in_default w ↦
          ap (λ v. v.items) w.senders-is
          ∙ grown_none f c.args.entries.now c.loop-entry.entry-index c.entry-item.result c.args.senders.now.items c.loop-entry.senders.items lt
          (found ∙ w.in_default.is) c.loop-entry.invariant
    ]
