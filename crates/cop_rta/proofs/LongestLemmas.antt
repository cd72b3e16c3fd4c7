-- The longest transfer of some streams is found as soon as one is as long as a frame can be.
use Rattle.std.proofs.Common.{◌≡◌, ◌<◌, ◌≤◌, ◌+◌, ◌*◌, ℕ, zero, suc, Bool, List, arith, le_refl, ⊎_elim}
use Rattle.std.proofs.lemmas.Bool.{cases_lt}
use Rattle.cop_frame.specs.declared.rates.Rate.{Rate}
use Rattle.cop_frame.specs.Rate.{ticks_of}
use Rattle.cop_rta.specs.declared.streams.Stream.{Stream}
use Rattle.cop_rta.specs.Sums.{max_where}
use Rattle.cop_rta.specs.Test.{of_stream, cost_of}
use Rattle.cop_rta.proofs.BoundLemmas.{cost_within, max_most, of_stream_most}

max_where-within : (p : ℕ → Bool) (f : ℕ → ℕ) (k n : ℕ) → k ≤ n → max_where p f k ≤ max_where p f n
unfolding max_where
max_where-within p f k zero within = let none : k ≡ 0 = omega (arith, within) in rw none (le_refl 0)
max_where-within p f k (suc n) within = ⊎_elim
    (λ (lt : k < suc n). let before : max_where p f k ≤ max_where p f n = max_where-within p f k n (omega (arith, lt)) in omega (arith, before))
    (λ (ge : suc n ≤ k). let same : k ≡ suc n = omega (arith, within, ge) in rw same (le_refl _))
    (cases_lt k (suc n))

pub found_early : (p : ℕ → Bool) (rate : Rate) (streams : List Stream) (k n found : ℕ) → k < n → found ≡ max_where p (of_stream (cost_of rate) streams) (k + 1)
    → 166 * ticks_of rate ≤ found → found ≡ max_where p (of_stream (cost_of rate) streams) n
found_early p rate streams k n found inside is long =
    let f = of_stream (cost_of rate) streams in
    let within : max_where p f (k + 1) ≤ max_where p f n = max_where-within p f (k + 1) n (omega (arith, inside)) in
    let most : max_where p f n ≤ 166 * ticks_of rate = max_most p f (166 * ticks_of rate) n (λ j. of_stream_most (cost_of rate) streams j (166 * ticks_of rate) (cost_within rate)) in
    omega (arith, is, within, most, long)
