-- What is written as a table is read as its records.
use Rattle.std.proofs.Common.{◌≡◌, ℕ, zero, suc, ◌+◌, ◌<◌, ◌≤◌, List, [], ◌∷◌, ◌++◌, length, refl, ap, arith, length-append, Some, codes, lit<, map}
use Rattle.csv.specs.Machine.{next_record}
use Rattle.csv.specs.Reading.{records_from, default_config, strip_bom}
use Rattle.csv.specs.Writing.{escaped, is_blank, fields_text}
use Rattle.csv.specs.declared.parser.State.TheVariants as st
use Rattle.csv.proofs.RoundTrip.{read-write-many}
use Rattle.cop_table.specs.Records.{records_of}
use Rattle.cop_bus.specs.Format.{Fields, line, lines, header, text_of, rows_of, fields_of, short}
use Rattle.cop_bus.specs.declared.steps.Step.{Step}
use Rattle.cop_bus.specs.declared.steps.Step.TheVariants.{Queue, Start, End}

-- rows of two fields or more
abbrev pub AreWide : List Fields → Type 0
AreWide [] = Unit {0}
AreWide (row ∷ rows) = (1 < length row) × AreWide rows

line_read : (row : Fields) (tail : List ℕ) → 1 < length row → next_record default_config st.StartRecord [] [] (line row ++ tail) ≡ Some (row, st.StartRecord, tail)
unfolding line
line_read [] tail h = absurd (omega arith)
line_read (x ∷ []) tail h = absurd (omega arith)
line_read (x ∷ y ∷ ys) tail h = read-write-many x y ys tail

lines_read : (rows : List Fields) (n : ℕ) → AreWide rows → length rows < n → records_from default_config n st.StartRecord (lines rows) ≡ rows
unfolding records_from next_record
lines_read rows zero wide h = absurd (omega arith)
lines_read [] (suc n) wide h = refl
lines_read (row ∷ rows) (suc n) wide h = rw (line_read row (lines rows) wide.0) (ap (λ t. row ∷ t) (lines_read rows n wide.1 (omega arith)))

line_some : (row : Fields) → 0 < length (line row)
unfolding line
line_some row = simp length-append (omega arith)

count_lines : (rows : List Fields) → length rows ≤ length (lines rows)
count_lines [] = omega arith
count_lines (row ∷ rows) = simp length-append (omega (arith, line_some row, count_lines rows))

-- the header has no byte order mark
starts_plain : (rest : List ℕ) → strip_bom (line header ++ rest) ≡ line header ++ rest
unfolding strip_bom line escaped is_blank fields_text
starts_plain rest = refl

table_read : (rows : List Fields) → AreWide rows → records_of (lines (header ∷ rows)) ≡ header ∷ rows
table_read rows wide =
    rw (starts_plain (lines rows)) (lines_read (header ∷ rows) (length (lines (header ∷ rows)) + 1) (lit< tt, wide) (omega (arith, count_lines (header ∷ rows))))

wide_step : (step : Step) → 1 < length (fields_of step)
wide_step (Queue id at event frame) = lit< tt
wide_step (Start id at) = lit< tt
wide_step (End id at) = lit< tt

wide_steps : (steps : List Step) (last : Fields) → 1 < length last → AreWide (map fields_of steps ++ (last ∷ []))
wide_steps [] last h = (h, tt)
wide_steps (step ∷ steps) last h = (wide_step step, wide_steps steps last h)

-- the text of a trace has its records
pub text_read : (until : ℕ) (steps : List Step) → records_of (text_of until steps) ≡ rows_of until steps
unfolding text_of
text_read until steps = table_read (map fields_of steps ++ (short (codes "until") until 0 ∷ [])) (wide_steps steps (short (codes "until") until 0) (lit< tt))
