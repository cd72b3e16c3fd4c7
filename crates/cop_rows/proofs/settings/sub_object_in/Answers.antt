use Rattle.cop_rows.proofs.SettingLemmas.{third_part}
use Rattle.cop_rows.proofs.settings.sub_object_in.Goals as goal

pub returns-in_default-Some : goal.returns-in_default-Some
returns-in_default-Some c =
    let e = rw c.in_default-Some.is-1 at c.cut.ensures in
    third_part c.args.first.now c.args.rest.now c.cut.result.0.now c.in_default-Some.field-0-1.now e.0
