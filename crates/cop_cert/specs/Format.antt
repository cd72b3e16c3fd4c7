-- The text of a refusal file: CSV with the fields rate, pdo, what, value.
use Rattle.std.specs.Prelude.{ℕ, ◌+◌, Bool, true, false, if◌then◌else◌, List, [], ◌∷◌, ◌++◌, codes, decimal, map, bytes_eq}
use Rattle.std.specs.List.{flat_map, list_all}
use Rattle.csv.specs.Writing.{row_text, default_writer}
use Rattle.cop_frame.specs.declared.rates.Rate.{Rate}
use Rattle.cop_frame.specs.Rate.{kbits_of}
use Rattle.cop_cert.specs.declared.entries.Side.{Side}
use Rattle.cop_cert.specs.declared.entries.Side.TheVariants as sides
use Rattle.cop_cert.specs.declared.entries.Version.{Version}
use Rattle.cop_cert.specs.declared.entries.Version.TheVariants.{First, Second, Third}
use Rattle.cop_cert.specs.declared.refusals.Cause.{Cause}
use Rattle.cop_cert.specs.declared.refusals.Cause.TheVariants.{Places, Sync, Sdo}
use Rattle.cop_cert.specs.declared.refusals.Evidence.{Evidence}
use Rattle.cop_cert.specs.declared.refusals.Evidence.TheVariants.{Long, Late}
use Rattle.cop_cert.specs.declared.refusals.Member.{Member}
use Rattle.cop_cert.specs.declared.refusals.Refusal.{Refusal}
use Rattle.cop_cert.specs.Evidence.{busy_list_of}

-- a record is a list of fields
abbrev pub Fields : Type 0
Fields = List (List ℕ)

abbrev pub header : Fields
header = codes "rate" ∷ codes "pdo" ∷ codes "what" ∷ codes "value" ∷ []

-- the first record under the header names the version: the first knows causes by places alone, and the third a busy list that is the one before
abbrev pub version : Version → Fields
version First = codes "0" ∷ codes "0" ∷ codes "version" ∷ codes "1" ∷ []
version Second = codes "0" ∷ codes "0" ∷ codes "version" ∷ codes "2" ∷ []
version Third = codes "0" ∷ codes "0" ∷ codes "version" ∷ codes "3" ∷ []

-- one record: the rate in kbit/s, the PDO's number from 1 on or 0 for a fixed frame, a word and a number
abbrev pub fields_of : Rate → ℕ → List ℕ → ℕ → Fields
fields_of rate number what value = decimal (kbits_of rate) ∷ decimal number ∷ what ∷ decimal value ∷ []

abbrev pub numbers_rows : Rate → ℕ → List ℕ → List ℕ → List Fields
numbers_rows rate number what numbers = map (fields_of rate number what) numbers

-- evidence: the kind, then a record for each number of its lists
abbrev pub evidence_rows : Rate → ℕ → List ℕ → List ℕ → Evidence → List Fields
evidence_rows rate number long late (Long busy) = fields_of rate number long 0 ∷ numbers_rows rate number (codes "busy") busy
evidence_rows rate number long late (Late q busy queue) =
    fields_of rate number late q ∷ (numbers_rows rate number (codes "busy") busy ++ numbers_rows rate number (codes "queue") queue)

-- the words of evidence, by which members it is of
abbrev pub long_word : Side → List ℕ
long_word sides.Place = codes "long"
long_word sides.Up = codes "uplong"

abbrev pub late_word : Side → List ℕ
late_word sides.Place = codes "late"
late_word sides.Up = codes "uplate"

abbrev pub member_rows : Side → Rate → Member → List Fields
member_rows side rate member = evidence_rows rate (member.pdo + 1) (long_word side) (late_word side) member.evidence

abbrev pub frame_rows : Rate → ℕ → Evidence → List Fields
frame_rows rate id evidence = fields_of rate 0 (codes "sdo") id ∷ evidence_rows rate 0 (codes "long") (codes "late") evidence

abbrev pub cause_rows : Rate → Cause → List Fields
cause_rows rate (Places members) = flat_map (member_rows sides.Place rate) members
cause_rows rate (Sync busy) = fields_of rate 0 (codes "sync") 0 ∷ numbers_rows rate 0 (codes "busy") busy
cause_rows rate (Sdo up id evidence) = flat_map (member_rows sides.Up rate) up ++ frame_rows rate id evidence

abbrev pub refusal_rows : Refusal → List Fields
refusal_rows refusal = cause_rows refusal.rate refusal.cause

abbrev pub is_by_places : Cause → Bool
is_by_places (Places members) = true
is_by_places (Sync busy) = false
is_by_places (Sdo up id evidence) = false

-- the first version that has words for all causes
abbrev pub version_of : List Refusal → Version
version_of refusals = if list_all (λ r. is_by_places r.cause) refusals then First else Second

-- the records of a refusal file
abbrev pub rows_of : List Refusal → List Fields
rows_of refusals = header ∷ version (version_of refusals) ∷ flat_map refusal_rows refusals

-- a record as a line: its fields with commas between them, and a line feed
unfoldable pub line : Fields → List ℕ
line fields = row_text default_writer fields

abbrev pub lines : List Fields → List ℕ
lines rows = flat_map line rows

-- the text of a refusal file
unfoldable pub text_of : List Refusal → List ℕ
text_of refusals = lines (rows_of refusals)

-- evidence whose busy list is that of the member before: one record in place of the list says so
abbrev pub same_rows : Rate → ℕ → List ℕ → List ℕ → Evidence → List Fields
same_rows rate number long late (Long busy) = fields_of rate number long 0 ∷ fields_of rate number (codes "same") 0 ∷ []
same_rows rate number long late (Late q busy queue) =
    fields_of rate number late q ∷ fields_of rate number (codes "same") 0 ∷ numbers_rows rate number (codes "queue") queue

-- a member in the third version, after one with this busy list
abbrev pub member_rows_after : Side → Rate → List ℕ → Member → List Fields
member_rows_after side rate before member =
    if bytes_eq (busy_list_of member.evidence) before then same_rows rate (member.pdo + 1) (long_word side) (late_word side) member.evidence
    else member_rows side rate member

-- members in the third version, after one with this busy list
abbrev pub members_rows_after : Side → Rate → List ℕ → List Member → List Fields
members_rows_after side rate before [] = []
members_rows_after side rate before (member ∷ more) =
    member_rows_after side rate before member ++ members_rows_after side rate (busy_list_of member.evidence) more

-- the records of a cause in the third version
abbrev pub shared_cause_rows : Rate → Cause → List Fields
shared_cause_rows rate (Places members) = members_rows_after sides.Place rate [] members
shared_cause_rows rate (Sync busy) = cause_rows rate (Sync busy)
shared_cause_rows rate (Sdo up id evidence) = members_rows_after sides.Up rate [] up ++ frame_rows rate id evidence

abbrev pub shared_refusal_rows : Refusal → List Fields
shared_refusal_rows refusal = shared_cause_rows refusal.rate refusal.cause

-- the text of a refusal file of the third version, in which a busy list stands once for members that follow one another and have it
unfoldable pub shared_text_of : List Refusal → List ℕ
shared_text_of refusals = lines (header ∷ version Third ∷ flat_map shared_refusal_rows refusals)
