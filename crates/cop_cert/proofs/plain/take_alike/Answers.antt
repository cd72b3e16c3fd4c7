use Rattle.std.proofs.Common.{◌≡◌, ◌≤◌, ap, ◌∙◌, arith}
use Rattle.cop_cert.specs.Entries.{least_number}
use Rattle.cop_cert.specs.Plain.{head_text, list_word}
use Rattle.cop_cert.proofs.HeadLemmas.{head_is_before}
use Rattle.cop_cert.proofs.plain.take_alike.Goals as goal

pub returns-clause-leads : goal.returns-clause-leads
returns-clause-leads c =
    let low : least_number c.args.version ≤ c.args.entry.number = omega (arith, c.if-entry-least_number.false, c.least_number.ensures) in
    let high : c.args.entry.number ≤ 512 = omega (arith, c.if-entry-gt512.false) in
    let head : c.deref.result.now ≡ head_text c.args.entry.rate c.args.entry.number (list_word c.args.list) = c.deref.ensures.value ∙ (c.in_ok-head.ensures.text ∙ ap (λ word. head_text c.args.entry.rate c.args.entry.number word) c.list_word.ensures.word) in
    c.take_under.ensures.leads c.args.version (head_is_before c.args.version c.args.entry c.args.list c.deref.result.now c.requires.word low high head)
