use Rattle.std.proofs.Common.{sym, subst, ap}
use Rattle.cop_watch.specs.declared.syncs.Syncs.{Syncs}
use Rattle.cop_watch.specs.declared.syncs.Newest.TheVariants.{Sync}
use Rattle.cop_watch.specs.Syncs.{Puts}
use Rattle.cop_watch.proofs.SyncLemmas.{ends-put, ends-first}
use Rattle.cop_watch.proofs.syncs.Syncs.end.Goals as goal
use Rattle.cop_watch.proofs.syncs.Syncs.end.Goals.{in-Nothing, in-Sync}

pub returns-after-self : goal.returns-after-self
returns-after-self c = λ is.
    let before = c.args.self.now in
    let after : Syncs = record { newest = Sync c.in-Some.sync; recent = c.match-self.self.recent; forgotten = c.match-self.self.forgotten } in
    elim c.match-self.branch [
      | in-Nothing w ↦ ends-first before after c.args.event c.args.at w.in-Nothing.is c.in-Some.ensures (ap (λ (s : Syncs). s.recent.items) w.self-is) (ap (λ (s : Syncs). s.forgotten) w.self-is)
      | in-Sync w ↦ ends-put before after c.args.event c.args.at w.in-Sync.before w.in-Sync.is c.in-Some.ensures
          (subst (λ (s : Syncs). Puts before.recent.items s.recent.items w.in-Sync.before before.forgotten s.forgotten) (sym w.self-is) w.put-self.ensures)
    ]
