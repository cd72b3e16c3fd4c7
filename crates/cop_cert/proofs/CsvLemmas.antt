-- What is written as a table is read as its records.
use Rattle.std.proofs.Common.{◌≡◌, ℕ, zero, suc, ◌+◌, ◌<◌, ◌≤◌, Bool, true, false, if◌then◌else◌, bytes_eq, List, [], ◌∷◌, ◌++◌, length, refl, ap, arith, length-append, Some, codes, lit<, map}
use Rattle.std.specs.List.{flat_map}
use Rattle.csv.specs.Machine.{next_record}
use Rattle.csv.specs.Reading.{records_from, default_config, strip_bom}
use Rattle.csv.specs.Writing.{escaped, is_blank, fields_text}
use Rattle.csv.specs.declared.parser.State.TheVariants as st
use Rattle.csv.proofs.RoundTrip.{read-write-many}
use Rattle.cop_table.specs.Records.{records_of}
use Rattle.cop_frame.specs.declared.rates.Rate.{Rate}
use Rattle.cop_cert.specs.Format.{Fields, line, lines, header, text_of, rows_of, refusal_rows, cause_rows, member_rows, long_word, late_word, evidence_rows, fields_of, version, version_of, same_rows, member_rows_after, members_rows_after, shared_cause_rows, shared_refusal_rows, shared_text_of}
use Rattle.cop_cert.specs.Evidence.{busy_list_of}
use Rattle.cop_cert.specs.declared.entries.Side.{Side}
use Rattle.cop_cert.specs.declared.entries.Side.TheVariants as sides
use Rattle.cop_cert.specs.declared.entries.Version.{Version}
use Rattle.cop_cert.specs.declared.entries.Version.TheVariants.{First, Second, Third}
use Rattle.cop_cert.specs.declared.refusals.Cause.{Cause}
use Rattle.cop_cert.specs.declared.refusals.Cause.TheVariants.{Places, Sync, Sdo}
use Rattle.cop_cert.specs.declared.refusals.Evidence.{Evidence}
use Rattle.cop_cert.specs.declared.refusals.Evidence.TheVariants.{Long, Late}
use Rattle.cop_cert.specs.declared.refusals.Member.{Member}
use Rattle.cop_cert.specs.declared.refusals.Refusal.{Refusal}

-- rows of two fields or more
abbrev pub AreWide : List Fields → Type 0
AreWide [] = Unit {0}
AreWide (row ∷ rows) = (1 < length row) × AreWide rows

line_read : (row : Fields) (tail : List ℕ) → 1 < length row → next_record default_config st.StartRecord [] [] (line row ++ tail) ≡ Some (row, st.StartRecord, tail)
unfolding line
line_read [] tail h = absurd (omega arith)
line_read (x ∷ []) tail h = absurd (omega arith)
line_read (x ∷ y ∷ ys) tail h = read-write-many x y ys tail

lines_read : (rows : List Fields) (n : ℕ) → AreWide rows → length rows < n → records_from default_config n st.StartRecord (lines rows) ≡ rows
unfolding records_from next_record
lines_read rows zero wide h = absurd (omega arith)
lines_read [] (suc n) wide h = refl
lines_read (row ∷ rows) (suc n) wide h = rw (line_read row (lines rows) wide.0) (ap (λ t. row ∷ t) (lines_read rows n wide.1 (omega arith)))

line_some : (row : Fields) → 0 < length (line row)
unfolding line
line_some row = simp length-append (omega arith)

count_lines : (rows : List Fields) → length rows ≤ length (lines rows)
count_lines [] = omega arith
count_lines (row ∷ rows) = simp length-append (omega (arith, line_some row, count_lines rows))

-- the header has no byte order mark
starts_plain : (rest : List ℕ) → strip_bom (line header ++ rest) ≡ line header ++ rest
unfolding strip_bom line escaped is_blank fields_text
starts_plain rest = refl

table_read : (rows : List Fields) → AreWide rows → records_of (lines (header ∷ rows)) ≡ header ∷ rows
table_read rows wide =
    rw (starts_plain (lines rows)) (lines_read (header ∷ rows) (length (lines (header ∷ rows)) + 1) (lit< tt, wide) (omega (arith, count_lines (header ∷ rows))))

wide_append : (rows more : List Fields) → AreWide rows → AreWide more → AreWide (rows ++ more)
wide_append [] more h k = k
wide_append (row ∷ rows) more h k = (h.0, wide_append rows more h.1 k)

wide_mapped : (rate : Rate) (pdo : ℕ) (what : List ℕ) (numbers : List ℕ) → AreWide (map (fields_of rate pdo what) numbers)
wide_mapped rate pdo what [] = tt
wide_mapped rate pdo what (n ∷ numbers) = (lit< tt, wide_mapped rate pdo what numbers)

wide_evidence : (rate : Rate) (number : ℕ) (long late : List ℕ) (evidence : Evidence) → AreWide (evidence_rows rate number long late evidence)
wide_evidence rate number long late (Long busy) = (lit< tt, wide_mapped rate number (codes "busy") busy)
wide_evidence rate number long late (Late q busy queue) =
    (lit< tt, wide_append _ _ (wide_mapped rate number (codes "busy") busy) (wide_mapped rate number (codes "queue") queue))

wide_members : (side : Side) (rate : Rate) (members : List Member) → AreWide (flat_map (member_rows side rate) members)
wide_members side rate [] = tt
wide_members side rate (m ∷ members) = wide_append _ _ (wide_evidence rate (m.pdo + 1) (long_word side) (late_word side) m.evidence) (wide_members side rate members)

wide_cause : (rate : Rate) (cause : Cause) → AreWide (cause_rows rate cause)
wide_cause rate (Places members) = wide_members sides.Place rate members
wide_cause rate (Sync busy) = (lit< tt, wide_mapped rate 0 (codes "busy") busy)
wide_cause rate (Sdo up id evidence) =
    wide_append _ _ (wide_members sides.Up rate up) (lit< tt, wide_evidence rate 0 (codes "long") (codes "late") evidence)

wide_refusals : (refusals : List Refusal) → AreWide (flat_map refusal_rows refusals)
wide_refusals [] = tt
wide_refusals (r ∷ refusals) = wide_append _ _ (wide_cause r.rate r.cause) (wide_refusals refusals)

wide_version : (v : Version) → 1 < length (version v)
wide_version First = lit< tt
wide_version Second = lit< tt
wide_version Third = lit< tt

-- the text of refusals has their records
pub text_read : (refusals : List Refusal) → records_of (text_of refusals) ≡ rows_of refusals
unfolding text_of
text_read refusals = table_read (version (version_of refusals) ∷ flat_map refusal_rows refusals) (wide_version (version_of refusals), wide_refusals refusals)

-- ---- the third version

wide_same : (rate : Rate) (number : ℕ) (long late : List ℕ) (evidence : Evidence) → AreWide (same_rows rate number long late evidence)
wide_same rate number long late (Long busy) = (lit< tt, (lit< tt, tt))
wide_same rate number long late (Late q busy queue) = (lit< tt, (lit< tt, wide_mapped rate number (codes "queue") queue))

wide_either : (b : Bool) (rows more : List Fields) → AreWide rows → AreWide more → AreWide (if b then rows else more)
wide_either true rows more h k = h
wide_either false rows more h k = k

wide_after : (side : Side) (rate : Rate) (before : List ℕ) (members : List Member) → AreWide (members_rows_after side rate before members)
wide_after side rate before [] = tt
wide_after side rate before (m ∷ members) =
    wide_append _ _
    (wide_either (bytes_eq (busy_list_of m.evidence) before) _ _ (wide_same rate (m.pdo + 1) (long_word side) (late_word side) m.evidence)
    (wide_evidence rate (m.pdo + 1) (long_word side) (late_word side) m.evidence))
    (wide_after side rate (busy_list_of m.evidence) members)

wide_shared : (rate : Rate) (cause : Cause) → AreWide (shared_cause_rows rate cause)
wide_shared rate (Places members) = wide_after sides.Place rate [] members
wide_shared rate (Sync busy) = wide_cause rate (Sync busy)
wide_shared rate (Sdo up id evidence) =
    wide_append _ _ (wide_after sides.Up rate [] up) (lit< tt, wide_evidence rate 0 (codes "long") (codes "late") evidence)

wide_all_shared : (refusals : List Refusal) → AreWide (flat_map shared_refusal_rows refusals)
wide_all_shared [] = tt
wide_all_shared (r ∷ refusals) = wide_append _ _ (wide_shared r.rate r.cause) (wide_all_shared refusals)

-- the text of the third version has its records
pub shared_text_read : (refusals : List Refusal) → records_of (shared_text_of refusals) ≡ header ∷ version Third ∷ flat_map shared_refusal_rows refusals
unfolding shared_text_of
shared_text_read refusals = table_read (version Third ∷ flat_map shared_refusal_rows refusals) (wide_version Third, wide_all_shared refusals)
