use Rattle.std.proofs.Common.{◌∙◌, ◌++◌, take, sym, ap, subst, arith}
use Rattle.std.proofs.lemmas.List.{take_more}
use Rattle.std.specs.String.{string_bytes}
use Rattle.cop_logbook.specs.Words.{AreLines}
use Rattle.cop_logbook.proofs.WordLemmas.{one_more_line}
use Rattle.cop_logbook.proofs.breaches.lines_of.Goals as goal

pub loop-breach-preserved : goal.loop-breach-preserved
loop-breach-preserved c =
    let told = c.args.breaches.now in
    let place = c.loop-breach.breach-index in
    let before = string_bytes c.loop-breach.text in
    let text = c.in_ok-push_str.ensures.bytes ∙ ap (λ xs. before ++ xs) c.deref.ensures in
    let more = one_more_line (take place told) _ before (string_bytes c.in_ok-line.line) c.loop-breach.invariant.lines c.in_ok-line.ensures in
    record {
      lines = subst (λ bs. AreLines bs (string_bytes c.push_str.new.self)) (sym (take_more told place _ (omega arith))) (subst (AreLines _) (sym text) more);
    }
