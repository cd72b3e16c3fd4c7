use Rattle.std.proofs.Common.{ap, sym, ◌∙◌}
use Rattle.std.specs.Option.{option_copied}
use Rattle.cop_dcf.proofs.PieceLemmas.{set_body, own_body}
use Rattle.cop_dcf.proofs.writing.body_of.Goals as goal

pub returns-in-Some : goal.returns-in-Some
returns-in-Some c = c.line.ensures ∙ sym (set_body c.args.eds.now c.args.line.now c.args.keys.now c.in-Some.key.now (sym c.set_key.ensures ∙ ap option_copied c.in-Some.is))

pub returns-in-None : goal.returns-in-None
returns-in-None c = rw c.source.ensures.value (sym (own_body c.args.eds.now c.args.line.now c.args.keys.now (sym c.set_key.ensures ∙ ap option_copied c.in-None.is)))
