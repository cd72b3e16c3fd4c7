use Rattle.std.proofs.Common.{sym}
use Rattle.cop_table.proofs.PlainLemmas.{plain_lines}
use Rattle.cop_table.proofs.records.text_of.Goals as goal

pub returns-else-has_quote-clause-all : goal.returns-else-has_quote-clause-all
returns-else-has_quote-clause-all c = rw c.without_mark.ensures (sym (plain_lines c.args.text.now (c.has_quote.ensures c.if-has_quote.false)))
