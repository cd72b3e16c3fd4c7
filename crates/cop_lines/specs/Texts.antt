-- The lines of a text, which end by LF (byte 10). The last one has no end: it is what stands behind the last LF, and may be empty. A text
-- may come in pieces.
use Rattle.std.specs.Prelude.{◌≡◌, ℕ, ◌+◌, ◌≤◌, ◌<◌, List, [], ◌∷◌, ◌++◌, length, ◌==◌, if◌then◌else◌}
use Rattle.cop_lines.specs.Words.{place_in, front, back}
use Rattle.cop_lines.specs.declared.cutter.CutFault.{CutFault}
use Rattle.cop_lines.specs.declared.cutter.CutFault.TheVariants.{Long, Memory}

-- a byte before the first of some lines
abbrev pub begun : ℕ → List (List ℕ) → List (List ℕ)
begun c [] = (c ∷ []) ∷ []
begun c (l ∷ ls) = (c ∷ l) ∷ ls

abbrev pub lines_of : List ℕ → List (List ℕ)
lines_of [] = [] ∷ []
lines_of (c ∷ text) = if c == 10 then [] ∷ lines_of text else begun c (lines_of text)

-- the lines of a text, the first of which begins with what was kept
abbrev pub lines_behind : List ℕ → List ℕ → List (List ℕ)
lines_behind kept [] = kept ∷ []
lines_behind kept (c ∷ text) = if c == 10 then kept ∷ lines_behind [] text else lines_behind (kept ++ c ∷ []) text

-- the greatest length of a line, without its end
abbrev pub most_line : ℕ
most_line = 4096

-- the line that was kept does not end in a piece: all of the piece is kept
pub record GoesOn (kept piece now : List ℕ) : Type 0 where
  pub no_end : place_in 10 piece ≡ length piece
  pub all : now ≡ kept ++ piece
  pub short : length now ≤ most_line

-- it ends in the piece, of which something is left
pub record Ends (kept piece line left : List ℕ) : Type 0 where
  pub has_end : place_in 10 piece < length piece
  pub whole : line ≡ kept ++ front 10 piece
  pub rest : left ≡ back 10 piece
  pub short : length line ≤ most_line

-- it is too long, as far as the piece has it; or memory is wanting
abbrev pub IsWhy : List ℕ → List ℕ → CutFault → Type 0
IsWhy kept piece Long = most_line < length kept + length (front 10 piece)
IsWhy kept piece Memory = Unit {0}

-- the lines that end in a piece, one after the other, and what is kept behind them
abbrev pub IsCut : List ℕ → List ℕ → List (List ℕ) → List ℕ → Type 0
IsCut kept piece [] now = GoesOn kept piece now
IsCut kept piece (l ∷ ls) now = (left : List ℕ) × Ends kept piece l left × IsCut [] left ls now

-- the lines that end in each of some pieces, and what is kept behind all of them
abbrev pub AreCut : List ℕ → List (List ℕ) → List (List (List ℕ)) → List ℕ → Type 0
AreCut kept [] [] now = now ≡ kept
AreCut kept [] (ls ∷ more) now = ⊥
AreCut kept (p ∷ ps) [] now = ⊥
AreCut kept (p ∷ ps) (ls ∷ more) now = (between : List ℕ) × IsCut kept p ls between × AreCut between ps more now

-- all lines of each piece
abbrev pub all_of : List (List (List ℕ)) → List (List ℕ)
all_of [] = []
all_of (ls ∷ more) = ls ++ all_of more
