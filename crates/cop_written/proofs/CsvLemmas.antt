-- What is written as a table is read as its records.
use Rattle.std.proofs.Common.{◌≡◌, ℕ, zero, suc, ◌+◌, ◌<◌, ◌≤◌, List, [], ◌∷◌, ◌++◌, length, refl, ap, sym, ◌∙◌, arith, length-append, append_assoc, Some, codes, lit<}
use Rattle.csv.specs.Machine.{next_record}
use Rattle.csv.specs.Reading.{records_from, default_config, strip_bom}
use Rattle.csv.specs.Writing.{escaped, is_blank, fields_text}
use Rattle.csv.specs.declared.parser.State.TheVariants as st
use Rattle.csv.proofs.RoundTrip.{read-write-many}
use Rattle.cop_table.specs.Records.{records_of}
use Rattle.cop_rows.specs.NodeReading as nodes
use Rattle.cop_rows.specs.PdoReading as pdos
use Rattle.cop_written.specs.Texts.{line}

abbrev pub Fields : Type 0
Fields = List (List ℕ)

abbrev pub lines : List Fields → List ℕ
lines [] = []
lines (row ∷ rows) = line row ++ lines rows

pub lines_append : (rows more : List Fields) → lines (rows ++ more) ≡ lines rows ++ lines more
lines_append [] more = refl
lines_append (row ∷ rows) more = rw (lines_append rows more) (sym (append_assoc (line row) (lines rows) (lines more)))

-- rows of two fields or more
abbrev pub AreWide : List Fields → Type 0
AreWide [] = Unit {0}
AreWide (row ∷ rows) = (1 < length row) × AreWide rows

pub wide_append : (rows more : List Fields) → AreWide rows → AreWide more → AreWide (rows ++ more)
wide_append [] more h k = k
wide_append (row ∷ rows) more h k = (h.0, wide_append rows more h.1 k)

line_read : (row : Fields) (tail : List ℕ) → 1 < length row → next_record default_config st.StartRecord [] [] (line row ++ tail) ≡ Some (row, st.StartRecord, tail)
unfolding line
line_read [] tail h = absurd (omega arith)
line_read (x ∷ []) tail h = absurd (omega arith)
line_read (x ∷ y ∷ ys) tail h = read-write-many x y ys tail

lines_read : (rows : List Fields) (n : ℕ) → AreWide rows → length rows < n → records_from default_config n st.StartRecord (lines rows) ≡ rows
unfolding records_from next_record
lines_read rows zero wide h = absurd (omega arith)
lines_read [] (suc n) wide h = refl
lines_read (row ∷ rows) (suc n) wide h = rw (line_read row (lines rows) wide.0) (ap (λ t. row ∷ t) (lines_read rows n wide.1 (omega arith)))

line_some : (row : Fields) → 0 < length (line row)
unfolding line
line_some row = simp length-append (omega arith)

count_lines : (rows : List Fields) → length rows ≤ length (lines rows)
count_lines [] = omega arith
count_lines (row ∷ rows) = simp length-append (omega (arith, line_some row, count_lines rows))

-- the headers, which have no byte order mark
node_header : line nodes.header ≡ codes "row,node,name,eds,period,jitter\n"
unfolding line escaped is_blank fields_text
node_header = refl

pdo_header : line pdos.header ≡ codes "node,tpdo,period,jitter,deadline,consumers\n"
unfolding line escaped is_blank fields_text
pdo_header = refl

node_plain : (rest : List ℕ) → strip_bom (codes "row,node,name,eds,period,jitter\n" ++ rest) ≡ codes "row,node,name,eds,period,jitter\n" ++ rest
unfolding strip_bom
node_plain rest = refl

pdo_plain : (rest : List ℕ) → strip_bom (codes "node,tpdo,period,jitter,deadline,consumers\n" ++ rest) ≡ codes "node,tpdo,period,jitter,deadline,consumers\n" ++ rest
unfolding strip_bom
pdo_plain rest = refl

all_read : (header : Fields) (rows : List Fields) (text : List ℕ) → 1 < length header → AreWide rows → text ≡ line header ++ lines rows → strip_bom text ≡ text → records_of text ≡ header ∷ rows
all_read header rows text wide all e plain =
    rw (plain, e) (lines_read (header ∷ rows) (length (lines (header ∷ rows)) + 1) (wide, all) (omega (arith, count_lines (header ∷ rows))))

pub nodes_read : (rows : List Fields) → AreWide rows → records_of (codes "row,node,name,eds,period,jitter\n" ++ lines rows) ≡ nodes.header ∷ rows
nodes_read rows wide = all_read nodes.header rows _ (lit< tt) wide (ap (λ h. h ++ lines rows) (sym node_header)) (node_plain (lines rows))

pub pdos_read : (rows : List Fields) → AreWide rows → records_of (codes "node,tpdo,period,jitter,deadline,consumers\n" ++ lines rows) ≡ pdos.header ∷ rows
pdos_read rows wide = all_read pdos.header rows _ (lit< tt) wide (ap (λ h. h ++ lines rows) (sym pdo_header)) (pdo_plain (lines rows))
