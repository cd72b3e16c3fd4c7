-- Sets of numbers, as words of sixty-four bits.
use Rattle.std.specs.Prelude.{ℕ, ◌==◌, ◌/◌, ◌%◌, Bool, List, get_or}
use Rattle.std.specs.Int.{bit_at}

-- the bit of a number is set
abbrev pub has : List ℕ → ℕ → Bool
has words number = bit_at (get_or words (number / 64) 0) (number % 64) == 1
