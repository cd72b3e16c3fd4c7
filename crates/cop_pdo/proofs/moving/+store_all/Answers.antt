use Rattle.std.proofs.Common.{◌∙◌, ℕ, take, drop, get_or, sym}
use Rattle.cop_pdo.proofs.MovingLemmas.{none}
use Rattle.cop_pdo.proofs.BitLemmas.{number_taken, number_dropped}
use Rattle.cop_pdo.proofs.UnpackLemmas.{rest_unpacked}
use Rattle.cop_pdo.proofs.moving.+store_all.Goals as goal

pub returns-in-len1-up-clause-value : goal.returns-in-len1-up-clause-value
returns-in-len1-up-clause-value t c = λ bits v.
    let n : ℕ = (get_or c.args.entries.now 0 none).bits in
    c.store_all.ensures.value (drop n bits) (number_dropped n bits ∙ rw v (sym c.lowered.ensures))
    ∙ rw (c.store.ensures.value (take n bits) (number_taken n bits ∙ rw v (sym c.lowest.ensures)))
    (sym (rest_unpacked c.args.dict.now c.args.direction c.args.entries.now bits c.in-len1-up.len_at_least))
