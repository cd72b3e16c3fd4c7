-- Inputs that are read up to a limit.
use Rattle.std.proofs.Common.{◌≡◌, ℕ, ◌+◌, ◌≤◌, List, [], ◌++◌, length, take, Option, Some, None, IfSome, ap, subst, ◌∙◌, arith, length-take, take_all}
use Rattle.std.specs.Prelude.{option_map}
use Rattle.std.specs.Io.Take.{take_inner, take_limit, take_remaining}
use Rattle.std.specs.declared.io.traits.Take.{Take}

all_of : (left : Option (List ℕ)) (limit : ℕ) (bytes : List ℕ) → IfSome (option_map (take (limit + 1)) left) (λ xs. bytes ≡ [] ++ xs) → length bytes ≤ limit → IfSome left (λ xs. bytes ≡ xs)
all_of None limit bytes e short = e
all_of (Some xs) limit bytes e short = e ∙ take_all (limit + 1) xs (omega (arith, ap length e, length-take (limit + 1) xs, short))

-- what a reader gives up to one byte more than a limit is all that it has left, if it keeps the limit
pub within_is_all : {R : Type 0} (remaining : R → Option (List ℕ)) (reader : R) (t : Take R) (limit : ℕ) (bytes : List ℕ) → take_inner t ≡ reader → take_limit t ≡ limit + 1
    → IfSome (take_remaining remaining t) (λ xs. bytes ≡ [] ++ xs) → length bytes ≤ limit → IfSome (remaining reader) (λ xs. bytes ≡ xs)
within_is_all remaining reader t limit bytes inner most read short =
    subst (λ r. IfSome (remaining r) (λ xs. bytes ≡ xs)) inner
    (all_of (remaining t.inner) limit bytes (subst (λ n. IfSome (option_map (take n) (remaining t.inner)) (λ xs. bytes ≡ [] ++ xs)) most read) short)
