-- A text as its headers and keys.
use Rattle.std.specs.Prelude.{ℕ, ◌+◌, ◌-◌, List, [], ◌∷◌, ◌++◌, length, take, drop, map, Some, None, Result, Ok}
use Rattle.cop_eds.specs.Text.{mark_len, cut, end_len}
use Rattle.cop_tidy_lines.specs.declared.kinds.LineKind.{LineKind}
use Rattle.cop_tidy_lines.specs.declared.kinds.LineKind.TheVariants.{Silent, Header, Pair, Unknown}
use Rattle.cop_tidy_lines.specs.Blanks.{loose_start}
use Rattle.cop_tidy_lines.specs.Kinds.{kind_meant}
use Rattle.cop_tidy_reading.specs.declared.items.Before.{Before}
use Rattle.cop_tidy_reading.specs.declared.question.About.TheVariants as abouts
use Rattle.cop_tidy_reading.specs.declared.question.Question.{Question}
use Rattle.cop_tidy_reading.specs.Questions.{◌>>=◌, ask}

-- a line that begins a section or states the value of a key: its number, that of its section, and its bytes
pub record Said : Type 0 where
  pub line : ℕ
  pub section : ℕ
  pub kind : LineKind
  pub body : List ℕ

-- a line without its end and without blanks at its front
abbrev pub body_of : List ℕ → List ℕ
body_of raw = loose_start (take (length raw - end_len raw) raw)

-- the lines of a text, behind a mark at its front
abbrev pub bodies_of : List ℕ → List (List ℕ)
bodies_of text = map body_of (cut (drop (mark_len text) text))

-- where the next line stands
abbrev pub after : Before → LineKind → Before
after before (Header name) = record { lines = before.lines + 1; sections = before.sections + 1; name = Some name }
after before kind = record before { lines = before.lines + 1 }

-- what a line says; 71 where it may be several things, or is none
abbrev pub said : Before → List ℕ → LineKind → Result (List Said) Question
said before body Silent = Ok []
said before body Unknown = ask abouts.NoLine (before.lines + 1)
said before body (Pair key) = Ok (record { line = before.lines + 1; section = before.sections; kind = Pair key; body = body } ∷ [])
said before body (Header name) = Ok (record { line = before.lines + 1; section = before.sections + 1; kind = Header name; body = body } ∷ [])

-- what lines say one after the other
unfoldable pub said_from : Before → List (List ℕ) → Result (List Said) Question
said_from before [] = Ok []
said_from before (body ∷ bodies) = do
  first ← said before body (kind_meant before.name body)
  rest ← said_from (after before (kind_meant before.name body)) bodies
  Ok (first ++ rest)

-- the headers and keys of a text, before which no section stands
unfoldable pub items_of : List ℕ → Result (List Said) Question
items_of text = said_from (record { lines = 0; sections = 0; name = None }) (bodies_of text)
