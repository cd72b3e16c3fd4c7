-- PDOs whose nodes' controllers do not sort.
use Rattle.std.proofs.Common.{ℕ, Bool, List, ◌≡◌, subst}
use Rattle.cop_frame.specs.declared.rates.Rate.{Rate}
use Rattle.cop_rows.specs.declared.pdo_table.PdoRow.{PdoRow}
use Rattle.cop_rta.specs.declared.streams.Stream.{Stream}
use Rattle.cop_rta.specs.declared.verdicts.Verdict.{Verdict}
use Rattle.cop_rta.specs.Test.{place_among, flagged_place, is_flagged}
use Rattle.cop_rta.specs.Verdict.{IsJudged}
use Rattle.cop_figures.specs.Unsorted.{last_id, node_at, is_up_to, place_unsorted}

-- flags that tell of identifiers up to the greatest of a node make its place
pub unsorted_so : (rows : List PdoRow) (streams : List Stream) (flags : List Bool) (rate : Rate) (pdo : ℕ) (v : Verdict)
    → ((k : ℕ) → is_flagged flags k ≡ is_up_to streams (last_id rows streams (node_at rows pdo)) k) → IsJudged (flagged_place streams flags pdo rate) v → IsJudged (place_unsorted rows streams rate pdo) v
unsorted_so rows streams flags rate pdo v h judged =
    let tests : is_flagged flags ≡ is_up_to streams (last_id rows streams (node_at rows pdo)) = λ i k. h k i in
    subst (λ (test : ℕ → Bool). IsJudged (place_among streams test pdo rate) v) tests judged
