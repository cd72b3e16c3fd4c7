use Rattle.std.proofs.Common.{◌≡◌, take, ap, sym, ◌∙◌}
use Rattle.std.specs.Int.{bytes_low_first}
use Rattle.cop_tidy_device.proofs.ByteLemmas.{first_bytes}
use Rattle.cop_tidy_device.proofs.look.are_of_number.Goals as goal

pub returns : goal.returns
returns c =
    let whole : c.to_le_bytes-all.result ≡ bytes_low_first 0 8 c.args.number = c.to_le_bytes-all.ensures in
    let same : take c.args.width c.to_le_bytes-all.result ≡ bytes_low_first 0 c.args.width c.args.number =
    ap (take c.args.width) whole ∙ first_bytes c.args.width 8 0 c.args.number c.requires in
    (λ h. c.are_same_bytes.ensures.0 h ∙ same, λ h. c.are_same_bytes.ensures.1 (h ∙ sym same))
