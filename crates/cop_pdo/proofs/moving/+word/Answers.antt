use Rattle.std.proofs.Common.{◌+◌, arith}
use Rattle.cop_pdo.proofs.MovingLemmas.{raised_fits, rest_bits, sum_is, sum_fits, rest_of}
use Rattle.cop_dict.specs.Mapping.{total_bits}
use Rattle.cop_pdo.proofs.moving.+word.Goals as goal

pub raised-requires : goal.raised-requires
raised-requires t c =
    raised_fits c.word-rest.result _ (total_bits (rest_of c.args.entries.now)) (total_bits c.args.entries.now) c.word-rest.ensures.bound (rest_bits c.args.entries.now c.in-len1-up.len_at_least) c.requires.bits

pub overflow_add-result : goal.overflow_add-result
overflow_add-result t c =
    let small = sum_fits (c.mapped_value.result + c.raised.result) (total_bits c.args.entries.now)
    (sum_is c.args.dict.now c.args.direction c.args.entries.now c.mapped_value.result c.word-rest.result c.raised.result c.in-len1-up.len_at_least c.mapped_value.ensures c.word-rest.ensures.value c.raised.ensures)
    c.requires.bits in omega (arith, small)

pub returns-in-len1-up-clause-bound : goal.returns-in-len1-up-clause-bound
returns-in-len1-up-clause-bound t c =
    sum_is c.args.dict.now c.args.direction c.args.entries.now c.mapped_value.result c.word-rest.result c.raised.result c.in-len1-up.len_at_least c.mapped_value.ensures c.word-rest.ensures.value c.raised.ensures
