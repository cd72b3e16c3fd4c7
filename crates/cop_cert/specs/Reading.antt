-- The refusals of a text. Of its records the first that breaks a rule counts, and of its rules the least.
use Rattle.std.specs.Prelude.{ℕ, ◌+◌, ◌-◌, Bool, true, false, not, ◌&&◌, List, [], ◌∷◌, ◌++◌, length, ◌==◌, nat_lt, nat_le, if◌then◌else◌, Option, Some, None, Result, Ok, Err}
use Rattle.cop_table.specs.Reading.{◌>>=◌}
use Rattle.cop_table.specs.Records.{under_header, BadHeader}
use Rattle.cop_table.specs.Rows.{rows_from}
use Rattle.cop_frame.specs.Rate.{kbits_of}
use Rattle.cop_cert.specs.Format.{Fields, header}
use Rattle.cop_cert.specs.Faults.{refuse, placed}
use Rattle.cop_cert.specs.Entries.{entry_in, version_in}
use Rattle.cop_cert.specs.Evidence.{busy_list_of}
use Rattle.cop_cert.specs.declared.entries.Entry.{Entry}
use Rattle.cop_cert.specs.declared.entries.Word.{Word}
use Rattle.cop_cert.specs.declared.entries.Word.TheVariants as words
use Rattle.cop_cert.specs.declared.entries.Listed.{Listed}
use Rattle.cop_cert.specs.declared.entries.Listed.TheVariants as lists
use Rattle.cop_cert.specs.declared.entries.Side.{Side}
use Rattle.cop_cert.specs.declared.entries.Side.TheVariants as sides
use Rattle.cop_cert.specs.declared.entries.Version.{Version}
use Rattle.cop_cert.specs.declared.faults.Breach.{Breach}
use Rattle.cop_cert.specs.declared.faults.Rule.{Rule}
use Rattle.cop_cert.specs.declared.faults.Rule.TheVariants as rules
use Rattle.cop_cert.specs.declared.refusals.Evidence.{Evidence}
use Rattle.cop_cert.specs.declared.refusals.Evidence.TheVariants.{Long, Late}
use Rattle.cop_cert.specs.declared.refusals.Member.{Member}
use Rattle.cop_cert.specs.declared.refusals.Refusal.{Refusal}
use Rattle.cop_cert.specs.declared.refusals.Cause.{Cause}
use Rattle.cop_cert.specs.declared.refusals.Cause.TheVariants.{Places, Sync, Sdo}
use Rattle.cop_cert.specs.declared.drafts.Draft.{Draft}
use Rattle.cop_cert.specs.declared.drafts.Part.{Part}
use Rattle.cop_cert.specs.declared.drafts.Part.TheVariants as parts
use Rattle.cop_frame.specs.declared.rates.Rate.{Rate}

-- no list of the evidence is missing
abbrev pub is_complete : Evidence → Bool
is_complete (Long busy) = not (length busy == 0)
is_complete (Late q busy queue) = not (length busy == 0) && not (length queue == 0)

-- a number more, in a list of at most 200,000
abbrev pub longer : List ℕ → ℕ → Result (List ℕ) Rule
longer numbers value = if nat_lt (length numbers) 200000 then Ok (numbers ++ value ∷ []) else Err rules.TooLong

-- a busy number goes to the busy list, while no queue list has begun
abbrev pub with_busy : Evidence → ℕ → Result Evidence Rule
with_busy (Long busy) value = longer busy value >>= λ busy. Ok (Long busy)
with_busy (Late q busy queue) value =
    if not (length queue == 0) then Err rules.Misplaced else longer busy value >>= λ busy. Ok (Late q busy queue)

-- a queue number goes to the queue list of late evidence, once it has a busy list
abbrev pub with_queue : Evidence → ℕ → Result Evidence Rule
with_queue (Long busy) value = Err rules.Misplaced
with_queue (Late q busy queue) value =
    if length busy == 0 then Err rules.Misplaced else longer queue value >>= λ queue. Ok (Late q busy queue)

-- the side of a member, place or up, as a test
abbrev pub is_same_side : Side → Side → Bool
is_same_side sides.Place sides.Place = true
is_same_side sides.Place sides.Up = false
is_same_side sides.Up sides.Place = false
is_same_side sides.Up sides.Up = true

-- the cause that members and the part after them come to, if none of it is missing
abbrev pub cause_of : List Member → Part → Option Cause
cause_of members (parts.Member sides.Place m) = if is_complete m.evidence then Some (Places (members ++ m ∷ [])) else None
cause_of members (parts.Member sides.Up m) = None
cause_of members (parts.Sync busy) = if length busy == 0 then None else Some (Sync busy)
cause_of members (parts.Named id) = None
cause_of members (parts.Frame id evidence) = if is_complete evidence then Some (Sdo members id evidence) else None

abbrev pub begun : List Refusal → Rate → List Member → Part → Draft
begun done rate members part = record { done = done; rate = rate; members = members; part = part }

abbrev pub refused_at : Rate → Cause → Refusal
refused_at rate cause = record { rate = rate; cause = cause }

abbrev pub or_misplaced : {A : Type 0} → Option A → Result A Rule
or_misplaced None = Err rules.Misplaced
or_misplaced (Some x) = Ok x

-- the refusals of a draft, if none of the last is missing
abbrev pub closed : Draft → Result (List Refusal) Rule
closed d = or_misplaced (cause_of d.members d.part) >>= λ cause. Ok (d.done ++ refused_at d.rate cause ∷ [])

-- the rule that a part of the same rate breaks which cannot follow a member: a refusal by places is whole, and one of a greater rate
-- follows; one by an SDO frame lacks it
abbrev pub stopped_by : Side → Rule
stopped_by sides.Place = rules.Rates
stopped_by sides.Up = rules.Misplaced

abbrev pub missing : Evidence → Option Rule
missing evidence = if is_complete evidence then None else Some rules.Misplaced

-- the rule that a part breaks which follows a member at the same rate: it is one more of the same side, with a greater number, or the
-- SDO frame below those that have to be up
abbrev pub broken_after : Side → Member → Part → Option Rule
broken_after side m (parts.Member other n) =
    if not (is_same_side side other) then Some (stopped_by side)
    else if nat_le n.pdo m.pdo then Some rules.Members
    else missing m.evidence
broken_after sides.Up m (parts.Named id) = missing m.evidence
broken_after side m next = Some (stopped_by side)

abbrev pub unless_broken : {A : Type 0} → Option Rule → A → Result A Rule
unless_broken None x = Ok x
unless_broken (Some rule) x = Err rule

-- a part that follows another at the same rate
abbrev pub joined : Draft → Part → Part → Result Draft Rule
joined d (parts.Member side m) next = unless_broken (broken_after side m next) (begun d.done d.rate (d.members ++ m ∷ []) next)
joined d (parts.Sync busy) next = Err rules.Rates
joined d (parts.Named id) next = Err rules.Misplaced
joined d (parts.Frame id evidence) next = Err rules.Rates

-- a record that begins a part
abbrev pub begin : Option Draft → Rate → Part → Result Draft Rule
begin None rate part = Ok (begun [] rate [] part)
begin (Some d) rate part =
    if nat_lt (kbits_of rate) (kbits_of d.rate) then Err rules.Rates
    else if kbits_of rate == kbits_of d.rate then joined d d.part part
    else closed d >>= λ done. Ok (begun done rate [] part)

abbrev pub of_named : Draft → Part → Evidence → Result Draft Rule
of_named d (parts.Named id) evidence = Ok (begun d.done d.rate d.members (parts.Frame id evidence))
of_named d part evidence = Err rules.Misplaced

-- the evidence of the frame that was named, at the same rate
abbrev pub given : Option Draft → Rate → Evidence → Result Draft Rule
given None rate evidence = Err rules.Misplaced
given (Some d) rate evidence = if kbits_of rate == kbits_of d.rate then of_named d d.part evidence else Err rules.Misplaced

-- evidence of a PDO begins a member, that of number 0 is of the frame that was named
abbrev pub with_evidence : Side → Option Draft → Entry → Evidence → Result Draft Rule
with_evidence side draft e evidence =
    if e.number == 0 then given draft e.rate evidence
    else begin draft e.rate (parts.Member side (record { pdo = e.number - 1; evidence = evidence }))

abbrev pub with_number : Listed → Evidence → ℕ → Result Evidence Rule
with_number lists.Busy evidence value = with_busy evidence value
with_number lists.Queue evidence value = with_queue evidence value

-- SYNC has a busy list alone
abbrev pub with_sync : Listed → List ℕ → ℕ → Result (List ℕ) Rule
with_sync lists.Busy busy value = longer busy value
with_sync lists.Queue busy value = Err rules.Misplaced

-- the number that records of a part's lists have: the PDO's from 1 on, or 0 of a fixed frame; a frame without evidence has no list
abbrev pub is_of_number : Part → ℕ → Bool
is_of_number (parts.Member side m) number = nat_lt 0 number && (number - 1 == m.pdo)
is_of_number (parts.Sync busy) number = number == 0
is_of_number (parts.Named id) number = false
is_of_number (parts.Frame id evidence) number = number == 0

-- one number more in a list of a part
abbrev pub with_more : Listed → Part → ℕ → Result Part Rule
with_more list (parts.Member side m) value =
    with_number list m.evidence value >>= λ evidence. Ok (parts.Member side (record { pdo = m.pdo; evidence = evidence }))
with_more list (parts.Sync busy) value = with_sync list busy value >>= λ busy. Ok (parts.Sync busy)
with_more list (parts.Named id) value = Err rules.Misplaced
with_more list (parts.Frame id evidence) value = with_number list evidence value >>= λ evidence. Ok (parts.Frame id evidence)

abbrev pub lengthened : Listed → Part → ℕ → ℕ → Result Part Rule
lengthened list part number value = if is_of_number part number then with_more list part value else Err rules.Misplaced

-- a record that adds a number to the part at hand, whose rate and number it repeats
abbrev pub add : Listed → Option Draft → Entry → Result Draft Rule
add list None e = Err rules.Misplaced
add list (Some d) e =
    if not (kbits_of e.rate == kbits_of d.rate) then Err rules.Misplaced
    else lengthened list d.part e.number e.value >>= λ part. Ok (begun d.done d.rate d.members part)

-- the busy list of the last of some members, if there is one
abbrev pub last_busy : List Member → List ℕ
last_busy [] = []
last_busy (m ∷ []) = busy_list_of m.evidence
last_busy (m ∷ n ∷ more) = last_busy (n ∷ more)

-- a list without numbers takes those of another
abbrev pub with_numbers : List ℕ → List ℕ → Result (List ℕ) Rule
with_numbers shared numbers = if length numbers == 0 then Ok shared else Err rules.Misplaced

-- evidence takes a busy list that another has, before any number of its own
abbrev pub with_list : List ℕ → Evidence → Result Evidence Rule
with_list shared (Long busy) = with_numbers shared busy >>= λ busy. Ok (Long busy)
with_list shared (Late q busy queue) = with_numbers shared busy >>= λ busy. Ok (Late q busy queue)

-- a member takes that of the member before
abbrev pub with_same : List ℕ → Part → Result Part Rule
with_same shared (parts.Member side m) =
    if length shared == 0 then Err rules.Misplaced
    else with_list shared m.evidence >>= λ evidence. Ok (parts.Member side (record { pdo = m.pdo; evidence = evidence }))
with_same shared (parts.Sync busy) = Err rules.Misplaced
with_same shared (parts.Named id) = Err rules.Misplaced
with_same shared (parts.Frame id evidence) = Err rules.Misplaced

-- a record that gives the part at hand, whose rate and number it repeats, the busy list of the member before
abbrev pub share : Option Draft → Entry → Result Draft Rule
share None e = Err rules.Misplaced
share (Some d) e =
    if not (kbits_of e.rate == kbits_of d.rate) then Err rules.Misplaced
    else if not (is_of_number d.part e.number) then Err rules.Misplaced
    else with_same (last_busy d.members) d.part >>= λ part. Ok (begun d.done d.rate d.members part)

abbrev pub by_word : Word → Option Draft → Entry → Result Draft Rule
by_word (words.Long side) draft e = with_evidence side draft e (Long [])
by_word (words.Late side) draft e = with_evidence side draft e (Late e.value [] [])
by_word words.Sync draft e = begin draft e.rate (parts.Sync [])
by_word words.Same draft e = share draft e
by_word words.Sdo draft e = if nat_lt e.value 65536 then begin draft e.rate (parts.Named e.value) else Err rules.Number
by_word (words.Number list) draft e = add list draft e

-- what a record makes of the draft of those before it
unfoldable pub next : Option Draft → Entry → Result Draft Rule
next draft e = by_word e.word draft e

-- the draft at hand after a step
abbrev pub at_hand : Result Draft Rule → Result (Option Draft) Rule
at_hand step = step >>= λ d. Ok (Some d)

abbrev pub taken : Version → ℕ → Option Draft → Fields → Result (Option Draft) Breach
taken version place draft row = placed place (entry_in version row >>= λ e. at_hand (next draft e))

-- the end of the text
unfoldable pub finished : Option Draft → Result (List Refusal) Rule
finished None = Ok []
finished (Some d) = closed d

abbrev pub ended : ℕ → Option Draft → Result (List Refusal) Breach
ended place draft = placed place (finished draft)

abbrev pub at_header : {A : Type 0} → Result A BadHeader → Result A Breach
at_header (Ok x) = Ok x
at_header (Err b) = refuse rules.Version 0

abbrev pub rows_in : List ℕ → Result (List Fields) Breach
rows_in text = at_header (under_header header text)

abbrev pub known_version : Option Version → List Fields → Result (Version × List Fields) Breach
known_version None rows = refuse rules.Version 1
known_version (Some version) rows = Ok (version, rows)

-- the version, and the records after its own
abbrev pub after_version : List Fields → Result (Version × List Fields) Breach
after_version [] = refuse rules.Version 1
after_version (first ∷ rows) =
    if not (length first == 4) then refuse rules.Fields 1 else known_version (version_in first) rows

-- the refusals of the records after that of the version, which count from 2
abbrev pub refusals_in : Version → List Fields → Result (List Refusal) Breach
refusals_in version rows = rows_from (taken version) 2 None rows >>= ended (1 + length rows)

-- the refusals of a text: its records count from 1, which is that of the version
unfoldable pub refusals_of : List ℕ → Result (List Refusal) Breach
refusals_of text = do
  rows ← rows_in text
  read ← after_version rows
  refusals_in read.0 read.1
