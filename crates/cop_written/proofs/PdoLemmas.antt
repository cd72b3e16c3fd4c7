-- The rows of a table of PDOs that is written are read.
use Rattle.std.proofs.Common.{◌≡◌, ℕ, zero, suc, ◌+◌, ◌*◌, ◌<◌, ◌≤◌, ◌^◌, ◌⊎◌, inl, inr, Bool, true, false, not, ◌&&◌, ◌||◌, ◌==◌, if◌then◌else◌, List, [], ◌∷◌, ◌++◌, length, refl, sym, ap, ◌∙◌, arith, append_assoc, append-nil, length-append, Result, Ok, Err, codes, decimal, lit<, nat_le}
use Rattle.std.specs.List.{AllByRecursion}
use Rattle.std.proofs.lemmas.Bool.{le-leb, ne_eqb, eq-eqb, eqb-true, and_parts, false_from_ne_true}
use Rattle.std.proofs.lemmas.Fmt.{decimal_is_IsNumeral}
use Rattle.std.proofs.lemmas.Str.Parse.{digit_from_value}
use Rattle.std.specs.Str.Parse.{AllDigits}
use Rattle.cop_table.specs.Reading.{◌>>=◌}
use Rattle.cop_table.specs.Rows.{rows_from}
use Rattle.cop_table.proofs.RowsLemmas.{goes_on}
use Rattle.cop_rows.specs.declared.refusals.Column.TheVariants as columns
use Rattle.cop_rows.specs.declared.pdo_table.Consumer.{Consumer}
use Rattle.cop_rows.specs.declared.pdo_table.PdoRow.{PdoRow}
use Rattle.cop_rows.specs.Fields.{parts, with_first, each}
use Rattle.cop_rows.specs.Pdos.{IsConsumer}
use Rattle.cop_rows.specs.PdoReading.{consumer_from, consumer_of, consumers_of, period_in, numbers_in, pdo_in, is_named, pushed, added, pdos_of}
use Rattle.cop_written.specs.declared.pdos.Row.{Row}
use Rattle.cop_written.specs.Texts.{consumer_text, more_consumers, consumers_text, row_fields, row_lines, pdo_text}
use Rattle.cop_written.specs.Sound.{key, IsRow, AreRows, pdo_rows}
use Rattle.cop_written.proofs.CsvLemmas.{Fields, lines, AreWide, pdos_read}
use Rattle.cop_written.proofs.NumberLemmas.{within_decimal}

-- ---- parts of a text

Lacks : ℕ → List ℕ → Type 0
Lacks c [] = Unit {0}
Lacks c (b ∷ bs) = ((b == c) ≡ false) × Lacks c bs

lacks_both : (c : ℕ) (xs ys : List ℕ) → Lacks c xs → Lacks c ys → Lacks c (xs ++ ys)
unfolding Lacks
lacks_both c [] ys h k = k
lacks_both c (x ∷ xs) ys h k = (h.0, lacks_both c xs ys h.1 k)

parts_cut : (c : ℕ) (xs ys : List ℕ) → Lacks c xs → parts c (xs ++ c ∷ ys) ≡ xs ∷ parts c ys
unfolding Lacks
parts_cut c [] ys h = rw (eq-eqb c c refl) refl
parts_cut c (x ∷ xs) ys h = rw (h.0, parts_cut c xs ys h.1) refl

parts_whole : (c : ℕ) (xs : List ℕ) → Lacks c xs → parts c xs ≡ xs ∷ []
unfolding Lacks
parts_whole c [] h = refl
parts_whole c (x ∷ xs) h = rw (h.0, parts_whole c xs h.1) refl

digits_lack : (c : ℕ) (ds : List ℕ) → c < 48 → AllDigits 10 ds → Lacks c ds
unfolding Lacks
digits_lack c [] lt h = tt
digits_lack c (d ∷ ds) lt h = (ne_eqb d c (λ e. let r = digit_from_value d h.0 in omega (arith, r, lt, e)), digits_lack c ds lt h.1)

decimal_lacks : (c n : ℕ) → c < 48 → n ≤ 60000000 → Lacks c (decimal n)
decimal_lacks c n lt h = digits_lack c (decimal n) lt (decimal_is_IsNumeral n (omega (arith, h))).0.1

-- ---- consumers

consumer_lacks : (c : Consumer) → IsConsumer c → Lacks 32 (consumer_text c)
unfolding Lacks
consumer_lacks c h =
    lacks_both 32 (decimal c.node) (46 ∷ decimal c.rpdo) (decimal_lacks 32 c.node (lit< tt) (omega (arith, h.node_most)))
    (refl, decimal_lacks 32 c.rpdo (lit< tt) (omega (arith, h.rpdo_most)))

consumer_read : (c : Consumer) → IsConsumer c → consumer_of (consumer_text c) ≡ Ok c
consumer_read c h =
    rw (
      parts_cut 46 (decimal c.node) (decimal c.rpdo) (decimal_lacks 46 c.node (lit< tt) (omega (arith, h.node_most))),
      parts_whole 46 (decimal c.rpdo) (decimal_lacks 46 c.rpdo (lit< tt) (omega (arith, h.rpdo_most))),
      within_decimal columns.Consumers 1 127 c.node h.node_least h.node_most (omega arith),
      within_decimal columns.Consumers 1 512 c.rpdo h.rpdo_least h.rpdo_most (omega arith),
    ) refl

each_consumer_read : (c : Consumer) (cs : List Consumer) → AllByRecursion IsConsumer (c ∷ cs) → each consumer_of (parts 32 (consumers_text (c ∷ cs))) ≡ Ok (c ∷ cs)
unfolding each
each_consumer_read c [] h = rw (append-nil (consumer_text c), parts_whole 32 (consumer_text c) (consumer_lacks c h.0), consumer_read c h.0) refl
each_consumer_read c (d ∷ cs) h =
    rw (
      parts_cut 32 (consumer_text c) (consumers_text (d ∷ cs)) (consumer_lacks c h.0),
      consumer_read c h.0,
      each_consumer_read d cs h.1,
    ) refl

some_text : (c : Consumer) (cs : List Consumer) → (length (consumers_text (c ∷ cs)) == 0) ≡ false
some_text c cs = ne_eqb _ 0 (λ e. omega (arith, e, length-append (consumer_text c) (more_consumers cs), length-append (decimal c.node) (46 ∷ decimal c.rpdo)))

consumers_read : (cs : List Consumer) → AllByRecursion IsConsumer cs → consumers_of (consumers_text cs) ≡ Ok cs
consumers_read [] h = refl
consumers_read (c ∷ cs) h = rw (some_text c cs) (each_consumer_read c cs h)

-- ---- rows

pdo_row : Row → PdoRow
pdo_row r = record { node = r.node; tpdo = r.tpdo; period = r.period; jitter = 0; deadline = r.deadline; consumers = r.consumers }

period_read : (n : ℕ) → (n ≡ 0) ⊎ ((100 ≤ n) × (n ≤ 60000000)) → period_in (decimal n) ≡ Ok n
period_read n (inl e) = rw (e, within_decimal columns.Period 0 60000000 0 (omega arith) (omega arith) (omega arith)) refl
period_read n (inr h) =
    rw (
      within_decimal columns.Period 0 60000000 n (omega arith) h.1 (omega arith),
      ne_eqb n 0 (λ e. omega (arith, e, h.0)),
      le-leb 100 n h.0,
      le-leb n 60000000 h.1,
    ) refl

row_read : (behind : ℕ) (r : Row) → IsRow behind r → pdo_in (row_fields r) ≡ Ok (pdo_row r)
unfolding numbers_in pdo_row
row_read behind r h =
    rw (
      within_decimal columns.Node 1 127 r.node h.node_least h.node_most (omega arith),
      within_decimal columns.Tpdo 1 512 r.tpdo h.tpdo_least h.tpdo_most (omega arith),
      period_read r.period h.period,
      within_decimal columns.Deadline 1 60000000 r.deadline h.deadline_least h.deadline_most (omega arith),
      consumers_read r.consumers h.consumers,
    ) refl

AreUpTo : ℕ → List PdoRow → Type 0
AreUpTo most [] = Unit {0}
AreUpTo most (r ∷ rows) = (512 * r.node + r.tpdo ≤ most) × AreUpTo most rows

up_to_more : (most : ℕ) (before : List PdoRow) (r : PdoRow) → most < 512 * r.node + r.tpdo → AreUpTo most before → AreUpTo (512 * r.node + r.tpdo) (before ++ r ∷ [])
unfolding AreUpTo
up_to_more most [] r lt h = (omega arith, tt)
up_to_more most (x ∷ before) r lt h = (omega (arith, h.0, lt), up_to_more most before r lt h.1)

other_row : (most node tpdo : ℕ) (x : PdoRow) → most < 512 * node + tpdo → 512 * x.node + x.tpdo ≤ most → ((x.node == node) && (x.tpdo == tpdo)) ≡ false
other_row most node tpdo x lt le = false_from_ne_true _ (λ both.
    let parts = and_parts (x.node == node) (x.tpdo == tpdo) both in
    let nodes : x.node ≡ node = eqb-true _ _ parts.0 in
    let numbers : x.tpdo ≡ tpdo = eqb-true _ _ parts.1 in
    omega (arith, nodes, numbers, lt, le))

none_so_far : (most node tpdo : ℕ) (before : List PdoRow) → most < 512 * node + tpdo → AreUpTo most before → is_named before node tpdo ≡ false
unfolding AreUpTo
none_so_far most node tpdo [] lt h = refl
none_so_far most node tpdo (x ∷ before) lt h = rw (other_row most node tpdo x lt h.0, none_so_far most node tpdo before lt h.1) refl

row_added : (place behind : ℕ) (r : Row) (before : List PdoRow) → IsRow behind r → AreUpTo behind before → length before < 512
    → added place before (row_fields r) ≡ Ok (before ++ pdo_row r ∷ [])
unfolding pdo_row
row_added place behind r before h up few =
    rw (row_read behind r h, none_so_far behind r.node r.tpdo before h.rises up, ne_eqb (length before) 512 (λ e. omega (arith, e, few))) refl

row_records : List Row → List Fields
row_records [] = []
row_records (r ∷ rows) = row_fields r ∷ row_records rows

rows_read : (place behind : ℕ) (before : List PdoRow) (rows : List Row) → AreRows behind rows → AreUpTo behind before → length before + length rows ≤ 512
    → rows_from added place before (row_records rows) ≡ Ok (before ++ pdo_rows rows)
unfolding row_records pdo_row rows_from
rows_read place behind before [] h up few = rw (append-nil before) refl
rows_read place behind before (r ∷ rows) h up few =
    let here = goes_on added place before (before ++ pdo_row r ∷ []) (row_fields r) (row_records rows) _ refl (row_added place behind r before h.0 up (omega (arith, few))) in
    let count : length (before ++ pdo_row r ∷ []) + length rows ≤ 512 = omega (arith, few, length-append before (pdo_row r ∷ [])) in
    let more = rows_read (place + 1) (key r) (before ++ pdo_row r ∷ []) rows h.1 (up_to_more behind before (pdo_row r) h.0.rises up) count in
    here ∙ more ∙ rw (append_assoc before (pdo_row r ∷ []) (pdo_rows rows)) refl

row_lines_are : (rows : List Row) → row_lines rows ≡ lines (row_records rows)
unfolding row_records
row_lines_are [] = refl
row_lines_are (r ∷ rows) = rw (row_lines_are rows) refl

rows_wide : (rows : List Row) → AreWide (row_records rows)
unfolding row_records
rows_wide [] = tt
rows_wide (r ∷ rows) = (lit< tt, rows_wide rows)

pub pdos_are_read : (rows : List Row) → length rows ≤ 512 → AreRows 0 rows → pdos_of (pdo_text rows) ≡ Ok (pdo_rows rows)
unfolding pdos_of AreUpTo
pdos_are_read rows few all =
    rw (row_lines_are rows, pdos_read (row_records rows) (rows_wide rows), rows_read 1 0 [] rows all tt (omega (arith, few))) refl
