use Rattle.std.proofs.Common.{Some, ◌∷◌, ◌++◌, sym, ap, ◌∙◌}
use Rattle.std.proofs.lemmas.Slice.Eq.{strip_prefix_is}
use Rattle.std.proofs.lemmas.Bool.Decides.{Decides-eqb}
use Rattle.cop_eds.proofs.PlainLemmas.{both_sides}
use Rattle.cop_eds.proofs.text.value_after.Goals as goal

pub returns-then-is_sign : goal.returns-then-is_sign
returns-then-is_sign c =
    let line = strip_prefix_is Decides-eqb c.args.line.now c.args.key.now (Some c.in_ok-rest.rest) c.in_ok-rest.ensures.cases in
    let rest = c.in-Some.ensures.cases.0 ∙ ap (λ b. b ∷ c.in-Some.value.now) c.if-is_sign.true in
    let sides = both_sides c.args.line.now c.args.key.now _ c.requires (line ∙ ap (λ r. c.args.key.now ++ r) rest) in
    (sides.0, sides.1 ∙ sym c.trim.ensures)
