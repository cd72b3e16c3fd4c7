use Rattle.std.proofs.Common.{◌≡◌, ◌<◌, ◌++◌, [], Some, All, ap, sym, ◌∙◌, length, append-nil}
use Rattle.std.specs.List.{cons_option}
use Rattle.std.specs.Option.{option_copied}
use Rattle.cop_dcf.specs.Identifiers.{KnowsIds}
use Rattle.cop_dcf.specs.Settings.{dictionary_of, asked_of}
use Rattle.cop_dcf.proofs.SettingsLemmas.{ids_small, noted_small, node_settings_are}
use Rattle.cop_dcf.proofs.node_settings.settings.Goals as goal
use Rattle.cop_dcf.proofs.node_settings.settings.Goals.{in-Some-time_set+in_ok-push, in_default-time_set}

pub add_ons-requires : goal.add_ons-requires
add_ons-requires c =
    let net = c.args.network.now in
    let plan = c.args.plan.now in
    let small : All (λ id. id < 2048) c.ids.result.now = rw c.ids.ensures.ids (ids_small net.equipment.rates net.set (length net.rows) plan c.requires) in
    λ index. noted_small c.identifiers-places.result c.rows.result.now c.ids.result.now c.args.node index c.identifiers-places.ensures small

pub returns : goal.returns
returns c =
    let net = c.args.network.now in
    let plan = c.args.plan.now in
    let dict = c.in-Some.dict.now in
    let own : dictionary_of net c.args.node ≡ Some dict = sym c.dictionary.ensures ∙ ap option_copied c.in-Some.is in
    let knows : KnowsIds c.identifiers-places.result net.rows plan.ids c.args.node = rw (← c.rows.ensures.rows, ← c.ids.ensures.ids) c.identifiers-places.ensures in
    let offs = c.in_ok-add_offs.ensures in
    let asked : c.add_asked.new.settings.items ≡ c.add_offs.new.settings.items ++ asked_of net c.args.node = c.in_ok-add_asked.ensures ∙ ap (λ xs. c.add_offs.new.settings.items ++ xs) c.settings.ensures in
    let ons = c.in_ok-add_ons.ensures in
    let time = rw c.heartbeat.ensures at c.time_set.ensures in
    let offs_of = rw c.entries.ensures.value at offs in
    let ons_of = rw c.entries-2.ensures.value at ons in
    let all : c.match-time_set.settings.items ≡ c.add_ons.new.settings.items ++ cons_option c.time_set.result [] = elim c.match-time_set.branch [
      | in-Some-time_set+in_ok-push w ↦
          ap (λ v. v.items) w.settings-is ∙ w.in_ok-push.ensures.items ∙ ap (λ o. c.add_ons.new.settings.items ++ cons_option o []) (sym w.in-Some-time_set.is)
      | in_default-time_set w ↦
          ap (λ v. v.items) w.settings-is ∙ sym (append-nil c.add_ons.new.settings.items) ∙ ap (λ o. c.add_ons.new.settings.items ++ cons_option o []) (sym w.in_default-time_set.is)
    ] in
    node_settings_are net plan.ids c.args.node dict c.identifiers-places.result c.new-settings.result.items c.add_offs.new.settings.items c.add_asked.new.settings.items c.add_ons.new.settings.items c.match-time_set.settings.items c.time_set.result
    own knows c.new-settings.ensures.items offs_of asked ons_of time all
