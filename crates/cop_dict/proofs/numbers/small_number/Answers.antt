use Rattle.std.proofs.Common.{sym, ◌∙◌}
use Rattle.cop_dict.proofs.NumberLemmas.{first_alone, first_not_alone}
use Rattle.cop_dict.proofs.numbers.small_number.Goals as goal

pub returns-in-len1-up-clause-value : goal.returns-in-len1-up-clause-value
returns-in-len1-up-clause-value c = first_alone c.args.bytes.now c.in-len1-up.len_at_least (sym c.is_zero.ensures ∙ c.if-is_zero.true)

pub returns-in_default-clause-large : goal.returns-in_default-clause-large
returns-in_default-clause-large c = first_not_alone c.args.bytes.now c.in-len1-up.len_at_least (sym c.is_zero.ensures ∙ c.if-is_zero.false)
