use Rattle.std.proofs.Common.{sym, ◌∙◌}
use Rattle.cop_rows.proofs.ConsumerLemmas.{three_parts}
use Rattle.cop_rows.proofs.pdos.consumer_in.Goals as goal

pub returns-then-is_some : goal.returns-then-is_some
returns-then-is_some c =
    let e = rw c.in_default-Some.is-1 at c.cut.ensures in
    let h = rw c.in_default-Some.rest-is at c.cut-2.ensures in
    three_parts c.args.text.now c.in_default-Some.rest.now _ c.cut-2.result.0.now c.cut-2.result.1 e.0 h (sym c.is_some.ensures ∙ c.if-is_some.true)
