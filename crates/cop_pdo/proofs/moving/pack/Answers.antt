use Rattle.std.proofs.Common.{◌∙◌}
use Rattle.cop_pdo.proofs.BitLemmas.{word_bytes}
use Rattle.cop_pdo.specs.Bits.{payload_bits}
use Rattle.cop_pdo.proofs.moving.pack.Goals as goal

pub returns-clause-body : goal.returns-clause-body
returns-clause-body c =
    c.to_le_bytes.ensures ∙ rw (c.word-word.ensures.value, c.direction.ensures, c.entries.ensures.entries) (word_bytes (payload_bits c.args.dict.now c.args.mapping.now))
