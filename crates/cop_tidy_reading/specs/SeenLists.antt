-- Entries of lists, as the definitions see them.
use Rattle.std.specs.Prelude.{ℕ, List}
use Rattle.std.specs.List.{fold}
use Rattle.std.specs.Ordering.{nat_cmp}
use Rattle.std.specs.BTreeSet.{insert_key}
use Rattle.cop_tidy_reading.specs.declared.lists.Entry as code
use Rattle.cop_tidy_reading.specs.Lists.{Entry}

-- an entry
abbrev pub entry_seen : code.Entry → Entry
entry_seen entry = record { number = entry.number; line = entry.line; text = entry.text.items }

-- these numbers in rising order, and those behind them
abbrev pub with_all : List ℕ → List ℕ → List ℕ
with_all named indexes = fold (insert_key nat_cmp) named indexes
