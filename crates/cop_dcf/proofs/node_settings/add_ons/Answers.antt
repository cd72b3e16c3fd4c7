use Rattle.std.proofs.Common.{◌≡◌, ◌<◌, get_or, length, ap, ◌∙◌, arith}
use Rattle.cop_dcf.specs.Identifiers.{id_in}
use Rattle.cop_dcf.specs.Settings.{set_of, on_set}
use Rattle.cop_dcf.proofs.SettingsLemmas.{set_alike, grown_some, grown_none}
use Rattle.cop_dcf.proofs.node_settings.add_ons.Goals as goal
use Rattle.cop_dcf.proofs.node_settings.add_ons.Goals.{in-Some+in_ok-push, in_default}

pub loop-entry-preserved : goal.loop-entry-preserved
loop-entry-preserved c =
    let f = set_of on_set (id_in c.args.places.now) in
    let lt : c.loop-entry.entry-index < length c.args.entries.now = omega arith in
    let found : f (get_or c.args.entries.now c.loop-entry.entry-index c.entry-item.result) ≡ c.on_set.result =
    set_alike on_set (id_in c.args.places.now) c.id_in.result c.index.result c.entry-item.result c.args.entries.now c.loop-entry.entry-index c.on_set.result
    c.on_set.ensures c.id_in.ensures c.index.ensures c.entry-item.is in
    elim c.match-on_set.branch [
      | in-Some+in_ok-push w ↦
          ap (λ v. v.items) w.settings-is
          ∙ grown_some f c.args.entries.now c.loop-entry.entry-index c.entry-item.result w.in-Some.setting c.args.settings.now.items c.loop-entry.settings.items w.push.new.self.items lt
          (found ∙ w.in-Some.is) c.loop-entry.invariant w.in_ok-push.ensures.items
      | in_default w ↦
          ap (λ v. v.items) w.settings-is
          ∙ grown_none f c.args.entries.now c.loop-entry.entry-index c.entry-item.result c.args.settings.now.items c.loop-entry.settings.items lt
          (found ∙ w.in_default.is) c.loop-entry.invariant
    ]
