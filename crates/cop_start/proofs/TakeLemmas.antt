-- The first so many of a list.
use Rattle.std.proofs.Common.{◌≡◌, ℕ, ◌<◌, ◌≤◌, ◌⊎◌, inl, inr, min, List, length, take, refl, sym, ◌∙◌, arith}
use Rattle.std.proofs.lemmas.List.{take_all}
use Rattle.std.proofs.lemmas.Bool.{cases_lt}
use Rattle.std.proofs.Math.Nat.{min-eq_left, min-eq_right}
use Rattle.cop_start.specs.declared.senders.Sender.{Sender}

pub taken_at_most : (n : ℕ) (xs : List Sender) → take (min (length xs) n) xs ≡ take n xs
taken_at_most n xs = by (cases_lt (length xs) n)
  where
    by : (length xs < n) ⊎ (n ≤ length xs) → take (min (length xs) n) xs ≡ take n xs
    by (inl few) =
        let least : min (length xs) n ≡ length xs = min-eq_left (omega (arith, few)) in
        rw least (take_all (length xs) xs (omega arith) ∙ sym (take_all n xs (omega (arith, few))))
    by (inr many) = let least : min (length xs) n ≡ n = min-eq_right many in rw least refl
