-- A log that is read in pieces.
use Rattle.std.specs.Prelude.{ℕ, ◌^◌, ◌<◌, List, [], ◌++◌, length, Option}
use Rattle.std.specs.Io.KnownBytes.{Consumes}
use Rattle.cop_log.specs.Log.{Terms}
use Rattle.cop_log.specs.Reading.{Wanted}
use Rattle.cop_logbook.specs.declared.logbook.Logbook.{Logbook}
use Rattle.cop_logbook.specs.Books.{HasNoted, IsWhy}
use Rattle.cop_logbook.specs.declared.logbook.BookFault.{BookFault}
use Rattle.cop_logbook.specs.declared.watching.WatchFault.{WatchFault}
use Rattle.cop_logbook.specs.declared.watching.WatchFault.TheVariants.{Book, Read}
use Rattle.cop_table.specs.Pieces.{HoldsOfAll}

-- a logbook has taken some bytes more, which a reader gave
pub record TakesAlong (left rest : Option (List ℕ)) (before after : Logbook) : Type 0 where
  pub bytes : List ℕ
  pub given : Consumes left rest bytes
  pub taken : (t : Terms) (w : Wanted) (text : List ℕ) → length (text ++ bytes) < 2 ^ 64 → HasNoted t w text [] before → HasNoted t w (text ++ bytes) [] after

-- what a reader gave was refused: whatever comes behind it, the log is
pub record RefusesAlong (left : Option (List ℕ)) (before : Logbook) (fault : BookFault) : Type 0 where
  pub bytes : List ℕ
  pub rest : Option (List ℕ)
  pub given : Consumes left rest bytes
  pub refused : (t : Terms) (w : Wanted) (text : List ℕ) → length (text ++ bytes) < 2 ^ 64 → HasNoted t w text [] before → (more : List ℕ) → IsWhy w ((text ++ bytes) ++ more) fault

-- of a reader that fails nothing is said
abbrev pub FailsAlong : Option (List ℕ) → Logbook → WatchFault → Type 0
FailsAlong left before (Book fault) = RefusesAlong left before fault
FailsAlong left before (Read error) = Unit {0}

-- why the log of all that a reader has is not watched
abbrev pub IsWhyNot : Wanted → Option (List ℕ) → WatchFault → Type 0
IsWhyNot w left (Book fault) = HoldsOfAll left (λ text. length text < 2 ^ 64 → IsWhy w text fault)
IsWhyNot w left (Read error) = Unit {0}
