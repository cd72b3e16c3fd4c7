use Rattle.std.proofs.Common.{rules, ◌≡◌, ◌∙◌, take, sym}
use Rattle.cop_dict.specs.Mapping.{total_bits}
use Rattle.cop_pdo.specs.Bits.{bits_of_bytes, bytes_for}
use Rattle.cop_pdo.proofs.UnpackLemmas.{bytes_number}
use Rattle.cop_pdo.proofs.moving.unpack.Goals as goal

pub returns-clause-ok : goal.returns-clause-ok
returns-clause-ok c =
    let count : c.from-count.result ≡ bytes_for (total_bits c.args.mapping.now.entries) = c.from-count.ensures ∙ c.bytes.ensures.bytes in
    rw (← count, ← c.entries.ensures.entries, ← c.direction.ensures)
    (c.store_all.ensures.value (bits_of_bytes (take c.from-count.result c.args.body.now))
    (bytes_number (take c.from-count.result c.args.body.now) (rw c.number.ensures.value at c.number.ensures.bound) ∙ sym c.number.ensures.value))

-- written here so that a body that breaks it is refused at once
pub slice_bounds-number-end : goal.slice_bounds-number-end
slice_bounds-number-end c = search rules

pub returns-clause-short : goal.returns-clause-short
returns-clause-short c = search rules
