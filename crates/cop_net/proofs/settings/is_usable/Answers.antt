use Rattle.std.proofs.Common.{sym, ◌∙◌}
use Rattle.cop_net.proofs.SettingLemmas.{usable, at_cob_id}
use Rattle.cop_net.proofs.settings.is_usable.Goals as goal

pub returns : goal.returns
returns c =
    c.may_switch.ensures
    ∙ rw c.description.ensures
    (sym (usable c.args.dict.now c.args.index c.in-Some.entry.now c.in-Some-unsigned32.cob_id c.args.signals.is_second_open (sym c.in-Some.ensures)
    (at_cob_id c.args.dict.now c.args.index c.in-Some.entry.now c.requires (sym c.in-Some.ensures)) (sym c.in-Some-unsigned32.ensures.value)))
