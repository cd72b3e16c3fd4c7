use Rattle.std.proofs.Common.{◌≡◌, false, Ok, take, sym, subst, ◌∙◌, ap}
use Rattle.cop_dict.specs.Dict.{written}
use Rattle.cop_setup.specs.Width.{size_of}
use Rattle.cop_setup.specs.Settings.{bytes_of}
use Rattle.cop_setup.specs.Trying.{is_unlike}
use Rattle.cop_setup.proofs.TryLemmas.{taken_bytes, accepted_so}
use Rattle.cop_setup.proofs.trying.try_one.Goals as goal

pub returns-in-Ok : goal.returns-in-Ok
returns-in-Ok c =
    let alike : is_unlike c.args.dict.now c.args.setting.now ≡ false = sym c.is_unlike.ensures ∙ c.if-is_unlike.false in
    let bytes : take c.from.result c.to_le_bytes-all.result ≡ bytes_of c.args.setting.now =
    ap (λ n. take n c.to_le_bytes-all.result) (c.from.ensures ∙ c.bytes.ensures) ∙ ap (take (size_of c.args.setting.now.width)) c.to_le_bytes-all.ensures
    ∙ taken_bytes c.args.setting.now.width c.args.setting.now.value in
    let so =
    accepted_so c.args.dict.now c.write.new.self c.args.setting.now
    (subst (λ bytes. written c.args.dict.now c.args.setting.now.index c.args.setting.now.sub bytes ≡ Ok c.write.new.self) bytes c.in-Ok.ensures.exact) in
    (record { alike = alike; accepted = so.1 }, so.0)
