-- What is read can be written: a draft keeps, record by record, what a file may hold.
use Rattle.std.proofs.Common.{◌≡◌, ℕ, ◌+◌, ◌<◌, ◌≤◌, ◌^◌, ◌==◌, Bool, true, false, not, ◌&&◌, ◌⊎◌, inl, inr, ◌-◌, nat_lt, nat_le, List, [], ◌∷◌, ◌++◌, length, All, Result, Ok, Err, Option, Some, None, IfOk, refl, arith, cond, length-append}
use Rattle.std.proofs.lemmas.List.Elements.{All-append, All-head, All-tail}
use Rattle.std.proofs.lemmas.List.Quantifiers.{all_pairs_push}
use Rattle.std.proofs.lemmas.Bool.{and_parts, or_cases, leb-true, not-true, not-false}
use Rattle.std.proofs.lemmas.Bool.Decides.{nat_tests}
use Rattle.cop_frame.specs.Rate.{kbits_of}
use Rattle.cop_table.specs.Reading.{◌>>=◌, Gives}
use Rattle.cop_table.specs.Records.{field}
use Rattle.cop_table.specs.Rows.{rows_from}
use Rattle.cop_frame.specs.declared.rates.Rate.{Rate}
use Rattle.cop_cert.specs.Assignments.{IsSdo}
use Rattle.cop_cert.specs.Format.{Fields}
use Rattle.cop_cert.specs.Entries.{number_in, rate_in, least_number, pdo_number_in, word_of, or_rule, with_value, is_sdo, is_value_of, is_number_of, entry_in}
use Rattle.cop_cert.specs.Evidence.{busy_list_of}
use Rattle.cop_cert.specs.Faults.{placed}
use Rattle.cop_cert.specs.Reading.{is_complete, longer, with_busy, with_queue, with_number, with_more, is_of_number, lengthened, is_same_side, stopped_by, missing, broken_after, unless_broken, begun, cause_of, refused_at, or_misplaced, closed, joined, begin, of_named, given, with_evidence, add, last_busy, with_numbers, with_list, with_same, share, by_word, next, taken, finished, rows_in, after_version, refusals_of}
use Rattle.cop_cert.specs.Writable.{IsWritableList, IsWritableEvidence, AreWritableMembers, IsWritableCause, IsWritableRefusal, AreWritable}
use Rattle.cop_cert.specs.declared.drafts.Draft.{Draft}
use Rattle.cop_cert.specs.declared.drafts.Part.{Part}
use Rattle.cop_cert.specs.declared.drafts.Part.TheVariants as parts
use Rattle.cop_cert.specs.declared.entries.Entry.{Entry}
use Rattle.cop_cert.specs.declared.entries.Word.{Word}
use Rattle.cop_cert.specs.declared.entries.Word.TheVariants as words
use Rattle.cop_cert.specs.declared.entries.Listed.{Listed}
use Rattle.cop_cert.specs.declared.entries.Listed.TheVariants as lists
use Rattle.cop_cert.specs.declared.entries.Side.{Side}
use Rattle.cop_cert.specs.declared.entries.Side.TheVariants as sides
use Rattle.cop_cert.specs.declared.entries.Version.{Version}
use Rattle.cop_cert.specs.declared.faults.Breach.{Breach}
use Rattle.cop_cert.specs.declared.faults.Rule.{Rule}
use Rattle.cop_cert.specs.declared.faults.Rule.TheVariants as rules
use Rattle.cop_cert.specs.declared.refusals.Cause.{Cause}
use Rattle.cop_cert.specs.declared.refusals.Cause.TheVariants.{Places, Sync, Sdo}
use Rattle.cop_cert.specs.declared.refusals.Evidence.{Evidence}
use Rattle.cop_cert.specs.declared.refusals.Evidence.TheVariants.{Long, Late}
use Rattle.cop_cert.specs.declared.refusals.Member.{Member}
use Rattle.cop_cert.specs.declared.refusals.Refusal.{Refusal}

-- ---- readings that succeed

-- what a reading in steps was made of
bound : {A B F : Type 0} (r : Result A F) (f : A → Result B F) (y : B) → (r >>= f) ≡ Ok y → (x : A) × (r ≡ Ok x) × (f x ≡ Ok y)
bound (Ok x) f y h = (x, refl, h)
bound (Err e) f y h = cc

-- a test that let a value through
passed : {A F : Type 0} (b : Bool) (x y : A) (e : F) → cond b (Ok x) (Err e) ≡ Ok y → (b ≡ true) × (x ≡ y)
passed true x y e h = (refl, cc)
passed false x y e h = cc

-- a test that held no refusal back
not_held : {A F : Type 0} (b : Bool) (r : Result A F) (y : A) (e : F) → cond b (Err e) r ≡ Ok y → (b ≡ false) × (r ≡ Ok y)
not_held true r y e h = cc
not_held false r y e h = (refl, h)

-- a test that let a reading through
taken_where : {A F : Type 0} (b : Bool) (r : Result A F) (y : A) (e : F) → cond b r (Err e) ≡ Ok y → (b ≡ true) × (r ≡ Ok y)
taken_where true r y e h = (refl, h)
taken_where false r y e h = cc

-- tests that gave a value, or held none back
given_where : {A : Type 0} (b : Bool) (x y : A) → cond b (Some x) None ≡ Some y → (b ≡ true) × (x ≡ y)
given_where true x y h = (refl, cc)
given_where false x y h = cc

kept_where : {A : Type 0} (b : Bool) (x y : A) → cond b None (Some x) ≡ Some y → (b ≡ false) × (x ≡ y)
kept_where true x y h = cc
kept_where false x y h = (refl, cc)

not_some : {A : Type 0} (b : Bool) (o : Option A) (x : A) → cond b (Some x) o ≡ None → (b ≡ false) × (o ≡ None)
not_some true o x h = cc
not_some false o x h = (refl, h)

placed_cause : (o : Option Cause) (c : Cause) → or_misplaced o ≡ Ok c → o ≡ Some c
placed_cause None c h = cc
placed_cause (Some x) c h = cc

is_whole : (evidence : Evidence) → missing evidence ≡ None → is_complete evidence ≡ true
is_whole evidence h = go (is_complete evidence) h
  where
    go : (b : Bool) → cond b None (Some rules.Misplaced) ≡ None → b ≡ true
    go true e = refl
    go false e = cc

at_place : {A : Type 0} (place : ℕ) (r : Result A Rule) (y : A) → placed place r ≡ Ok y → r ≡ Ok y
at_place place (Ok x) y h = cc
at_place place (Err e) y h = cc

-- ---- a record

-- the number and the value of a record are in their ranges, and that of `sdo` is an SDO frame's identifier
record IsInRange (e : Entry) : Type 0 where
  number : e.number ≤ 512
  value : e.value < 2 ^ 64
  sdo : e.word ≡ words.Sdo → IsSdo e.value

number_fits : (text : List ℕ) (n : ℕ) → number_in text ≡ Ok n → n < 2 ^ 64
number_fits text n h = grind (arith, nat_tests)

pdo_fits : (version : Version) (text : List ℕ) (number : ℕ) → pdo_number_in version text ≡ Ok number → number ≤ 512
pdo_fits version text number h =
    let n = bound (number_in text) _ number h in
    let p = passed (nat_le (least_number version) n.0 && nat_le n.0 512) n.0 number rules.Number n.2 in
    let both = and_parts (nat_le (least_number version) n.0) (nat_le n.0 512) p.0 in
    let most : n.0 ≤ 512 = let e = both.1 in grind (arith, nat_tests) in
    rw (← p.1) most

sdo_of : (id : ℕ) → is_sdo id ≡ true → IsSdo id
sdo_of id e = go (or_cases (nat_le 0x581 id && nat_le id 0x5FF) (nat_le 0x601 id && nat_le id 0x67F) e)
  where
    go : ((nat_le 0x581 id && nat_le id 0x5FF) ≡ true) ⊎ ((nat_le 0x601 id && nat_le id 0x67F) ≡ true) → IsSdo id
    go (inl h) = let p = and_parts (nat_le 0x581 id) (nat_le id 0x5FF) h in inl (leb-true 0x581 id p.0, leb-true id 0x5FF p.1)
    go (inr h) = let p = and_parts (nat_le 0x601 id) (nat_le id 0x67F) h in inr (leb-true 0x601 id p.0, leb-true id 0x67F p.1)

sdo_value : (word : Word) (value : ℕ) → is_value_of word value ≡ true → word ≡ words.Sdo → IsSdo value
sdo_value word value good e = sdo_of value (rw e at good)

value_fits : (rate : _) (number value : ℕ) (word : Word) (e : Entry) → number ≤ 512 → value < 2 ^ 64 → with_value rate number value word ≡ Ok e → IsInRange e
value_fits rate number value word e p v h =
    let good = not_held (not (is_value_of word value)) _ e rules.Number h in
    let is = (passed (is_number_of word number) (record { rate = rate; number = number; word = word; value = value }) e rules.Misplaced good.1).1 in
    record { number = rw (← is) p; value = rw (← is) v; sdo = rw (← is) (sdo_value word value (not-false (is_value_of word value) good.0)) }

entry_fits : (version : Version) (row : Fields) (e : Entry) → entry_in version row ≡ Ok e → IsInRange e
unfolding entry_in
entry_fits version row e h =
    let four = not_held (not (length row == 4)) _ e rules.Fields h in
    let rate = bound (rate_in (field row 0)) _ e four.1 in
    let number = bound (pdo_number_in version (field row 1)) _ e rate.2 in
    let value = bound (number_in (field row 3)) _ e number.2 in
    let word = bound (or_rule rules.Misplaced (word_of version (field row 2))) _ e value.2 in
    value_fits rate.0 number.0 value.0 word.0 e (pdo_fits version (field row 1) number.0 number.1) (number_fits (field row 3) value.0 value.1) word.2

-- ---- lists that grow

-- at most 200,000 numbers of 64 bits
record IsPart (numbers : List ℕ) : Type 0 where
  count : length numbers ≤ 200000
  fit : All (λ n. n < 2 ^ 64) numbers

abbrev IsPartEvidence : Evidence → Type 0
IsPartEvidence (Long busy) = IsPart busy
IsPartEvidence (Late q busy queue) = (q < 2 ^ 64) × IsPart busy × IsPart queue

nothing : IsPart []
nothing = record { count = omega arith; fit = λ k d below. absurd (omega (arith, below)) }

one : {A : Type 0} (P : A → Type 0) (x : A) → P x → All P (x ∷ [])
one P x h k d below = let e : k ≡ 0 = omega (arith, below) in rw e h

pushed : (numbers more : List ℕ) (value : ℕ) → IsPart numbers → value < 2 ^ 64 → longer numbers value ≡ Ok more → IsPart more
pushed numbers more value part fits h =
    let p = passed (nat_lt (length numbers) 200000) (numbers ++ value ∷ []) more rules.TooLong h in
    let below : length numbers < 200000 = let e = p.0 in grind (arith, nat_tests) in
    rw (← p.1) (record {
      count = rw (length-append numbers (value ∷ [])) (omega (arith, below));
      fit = All-append (λ n. n < 2 ^ 64) numbers (value ∷ []) part.fit (one (λ n. n < 2 ^ 64) value fits);
    })

busy_pushed : (e more : Evidence) (value : ℕ) → IsPartEvidence e → value < 2 ^ 64 → with_busy e value ≡ Ok more → IsPartEvidence more
busy_pushed (Long busy) more value part fits h =
    let p = bound (longer busy value) _ more h in
    let e : Long p.0 ≡ more = let e = p.2 in cc in
    rw (← e) (pushed busy p.0 value part fits p.1)
busy_pushed (Late q busy queue) more value part fits h =
    let n = not_held (not (length queue == 0)) _ more rules.Misplaced h in
    let p = bound (longer busy value) _ more n.1 in
    let e : Late q p.0 queue ≡ more = let e = p.2 in cc in
    rw (← e) (part.0, pushed busy p.0 value part.1 fits p.1, part.2)

queue_pushed : (e more : Evidence) (value : ℕ) → IsPartEvidence e → value < 2 ^ 64 → with_queue e value ≡ Ok more → IsPartEvidence more
queue_pushed (Long busy) more value part fits h = cc
queue_pushed (Late q busy queue) more value part fits h =
    let n = not_held (length busy == 0) _ more rules.Misplaced h in
    let p = bound (longer queue value) _ more n.1 in
    let e : Late q busy p.0 ≡ more = let e = p.2 in cc in
    rw (← e) (part.0, part.1, pushed queue p.0 value part.2 fits p.1)

number_pushed : (list : Listed) (e more : Evidence) (value : ℕ) → IsPartEvidence e → value < 2 ^ 64 → with_number list e value ≡ Ok more → IsPartEvidence more
number_pushed lists.Busy = busy_pushed
number_pushed lists.Queue = queue_pushed

some_of : (numbers : List ℕ) → (length numbers == 0) ≡ false → IsPart numbers → IsWritableList numbers
some_of numbers e part = record { some = grind (arith, nat_tests); count = part.count; fit = part.fit }

-- evidence that is complete may stand in a file
whole : (e : Evidence) → is_complete e ≡ true → IsPartEvidence e → IsWritableEvidence e
whole (Long busy) h part = some_of busy (not-true (length busy == 0) h) part
whole (Late q busy queue) h part =
    let h = and_parts (not (length busy == 0)) (not (length queue == 0)) h in
    (part.0, some_of busy (not-true (length busy == 0) h.0) part.1, some_of queue (not-true (length queue == 0) h.1) part.2)

-- ---- parts

-- the last part may stand in a file as far as it was read, after these members
IsSoundPart : List Member → Part → Type 0
IsSoundPart members (parts.Member side m) = (m.pdo < 512) × All (λ k. k.pdo < m.pdo) members × IsPartEvidence m.evidence
IsSoundPart members (parts.Sync busy) = IsPart busy
IsSoundPart members (parts.Named id) = IsSdo id
IsSoundPart members (parts.Frame id evidence) = IsSdo id × IsPartEvidence evidence

no_members : AreWritableMembers []
no_members = record {
  rise = λ i j d lt below. absurd (omega (arith, below));
  inside = λ k d below. absurd (omega (arith, below));
  evidence = λ k d below. absurd (omega (arith, below));
}

none : {A : Type 0} (P : A → Type 0) → All P []
none P = λ k d below. absurd (omega (arith, below))

-- one member more that is whole
member_more : (members : List Member) (m : Member) → AreWritableMembers members → m.pdo < 512 → All (λ k. k.pdo < m.pdo) members → IsPartEvidence m.evidence → is_complete m.evidence ≡ true
    → AreWritableMembers (members ++ m ∷ [])
member_more members m h small above part complete = record {
  rise = all_pairs_push (λ m n. m.pdo < n.pdo) members m h.rise (λ k e below. above k e below);
  inside = All-append (λ m. m.pdo < 512) members (m ∷ []) h.inside (one (λ m. m.pdo < 512) m small);
  evidence = All-append (λ m. IsWritableEvidence m.evidence) members (m ∷ []) h.evidence (one (λ m. IsWritableEvidence m.evidence) m (whole m.evidence complete part));
}

-- a cause that is whole may stand in a file
cause_writable : (members : List Member) (part : Part) (cause : Cause) → AreWritableMembers members → IsSoundPart members part → cause_of members part ≡ Some cause → IsWritableCause cause
unfolding IsSoundPart
cause_writable members (parts.Member sides.Place m) cause h sound e =
    let p = given_where (is_complete m.evidence) (Places (members ++ m ∷ [])) cause e in
    rw (← p.1) (rw (length-append members (m ∷ [])) (omega arith), member_more members m h sound.0 sound.1 sound.2 p.0)
cause_writable members (parts.Member sides.Up m) cause h sound e = cc
cause_writable members (parts.Sync busy) cause h sound e =
    let p = kept_where (length busy == 0) (Sync busy) cause e in rw (← p.1) (some_of busy p.0 sound)
cause_writable members (parts.Named id) cause h sound e = cc
cause_writable members (parts.Frame id evidence) cause h sound e =
    let p = given_where (is_complete evidence) (Sdo members id evidence) cause e in
    rw (← p.1) (h, sound.0, whole evidence p.0 sound.1)

-- ---- drafts

-- what a draft has read may stand in a file: the refusals before it, the members before the part at hand, and its lists so far
record IsSound (d : Draft) : Type 0 where
  done : AreWritable d.done
  rates : All (λ r. kbits_of r.rate < kbits_of d.rate) d.done
  members : AreWritableMembers d.members
  part : IsSoundPart d.members d.part

abbrev IsSoundIf : Option Draft → Type 0
IsSoundIf None = Unit {0}
IsSoundIf (Some d) = IsSound d

none_writable : AreWritable []
none_writable = record { rise = λ i j d lt below. absurd (omega (arith, below)); each = none IsWritableRefusal }

closed_writable : (d : Draft) (found : List Refusal) → IsSound d → closed d ≡ Ok found → AreWritable found
closed_writable d found sound h =
    let p = bound (or_misplaced (cause_of d.members d.part)) _ found h in
    let its = placed_cause (cause_of d.members d.part) p.0 p.1 in
    let is : d.done ++ refused_at d.rate p.0 ∷ [] ≡ found = let e = p.2 in cc in
    rw (← is) (record {
      rise = all_pairs_push (λ r s. kbits_of r.rate < kbits_of s.rate) d.done (refused_at d.rate p.0) sound.done.rise (λ k e below. sound.rates k e below);
      each = All-append IsWritableRefusal d.done (refused_at d.rate p.0 ∷ []) sound.done.each
          (one IsWritableRefusal (refused_at d.rate p.0) (cause_writable d.members d.part p.0 sound.members sound.part its));
    })

closed_rates : (d : Draft) (found : List Refusal) (rate : Rate) → IsSound d → kbits_of d.rate < kbits_of rate → closed d ≡ Ok found → All (λ r. kbits_of r.rate < kbits_of rate) found
closed_rates d found rate sound above h =
    let p = bound (or_misplaced (cause_of d.members d.part)) _ found h in
    let is : d.done ++ refused_at d.rate p.0 ∷ [] ≡ found = let e = p.2 in cc in
    rw (← is) (All-append (λ r. kbits_of r.rate < kbits_of rate) d.done (refused_at d.rate p.0 ∷ [])
    (λ k x below. let lower = sound.rates k x below in omega (arith, lower, above)) (one (λ r. kbits_of r.rate < kbits_of rate) (refused_at d.rate p.0) above))

-- ---- steps

allowed : {A : Type 0} (rule : Option Rule) (x y : A) → unless_broken rule x ≡ Ok y → (rule ≡ None) × (x ≡ y)
allowed None x y h = (refl, cc)
allowed (Some rule) x y h = cc

-- what follows a member at the same rate is above it and all before
fresh_after : (side : Side) (m : Member) (next : Part) (members : List Member) → IsSoundPart [] next → All (λ k. k.pdo < m.pdo) members → broken_after side m next ≡ None
    → (is_complete m.evidence ≡ true) × IsSoundPart (members ++ m ∷ []) next
unfolding IsSoundPart
fresh_after side m (parts.Member other n) members fresh above e =
    let same = not_some (not (is_same_side side other)) _ (stopped_by side) e in
    let rises = not_some (nat_le n.pdo m.pdo) _ rules.Members same.1 in
    let up : m.pdo < n.pdo = let e = rises.0 in grind (arith, nat_tests) in
    (is_whole m.evidence rises.1, (fresh.0, All-append (λ k. k.pdo < n.pdo) members (m ∷ []) (λ k x below. let lower = above k x below in omega (arith, lower, up)) (one (λ k. k.pdo < n.pdo) m up), fresh.2))
fresh_after sides.Up m (parts.Named id) members fresh above e = (is_whole m.evidence e, fresh)
fresh_after sides.Place m (parts.Named id) members fresh above e = cc
fresh_after side m (parts.Sync busy) members fresh above e = cc
fresh_after side m (parts.Frame id evidence) members fresh above e = cc

joined_sound : (d more : Draft) (part next : Part) → IsSound d → IsSoundPart d.members part → IsSoundPart [] next → joined d part next ≡ Ok more → IsSound more
unfolding IsSoundPart
joined_sound d more (parts.Member side m) next sound at fresh h =
    let p = allowed (broken_after side m next) (begun d.done d.rate (d.members ++ m ∷ []) next) more h in
    let f = fresh_after side m next d.members fresh at.1 p.0 in
    rw (← p.1) (record { done = sound.done; rates = sound.rates; members = member_more d.members m sound.members at.0 at.1 at.2 f.0; part = f.1 })
joined_sound d more (parts.Sync busy) next sound at fresh h = cc
joined_sound d more (parts.Named id) next sound at fresh h = cc
joined_sound d more (parts.Frame id evidence) next sound at fresh h = cc

began : (rate : Rate) (part : Part) (done : List Refusal) → AreWritable done → All (λ r. kbits_of r.rate < kbits_of rate) done → IsSoundPart [] part → IsSound (begun done rate [] part)
began rate part done fine rates fresh = record { done = fine; rates = rates; members = no_members; part = fresh }

begin_sound : (draft : Option Draft) (d : Draft) (rate : Rate) (part : Part) → IsSoundIf draft → IsSoundPart [] part → begin draft rate part ≡ Ok d → IsSound d
begin_sound None d rate part sound fresh h =
    let is : begun [] rate [] part ≡ d = cc in rw (← is) (began rate part [] none_writable (none (λ r. kbits_of r.rate < kbits_of rate)) fresh)
begin_sound (Some before) d rate part sound fresh h =
    let n = not_held (nat_lt (kbits_of rate) (kbits_of before.rate)) _ d rules.Rates h in
    go (kbits_of rate == kbits_of before.rate) refl n.0 n.1
  where
    go : (b : Bool) → (kbits_of rate == kbits_of before.rate) ≡ b → nat_lt (kbits_of rate) (kbits_of before.rate) ≡ false
        → cond b (joined before before.part part) (closed before >>= λ done. Ok (begun done rate [] part)) ≡ Ok d → IsSound d
    go true same lower e = joined_sound before d before.part part sound sound.part fresh e
    go false other lower e =
        let above : kbits_of before.rate < kbits_of rate = grind (arith, nat_tests) in
        let p = bound (closed before) _ d e in
        let is : begun p.0 rate [] part ≡ d = let e = p.2 in cc in
        rw (← is) (began rate part p.0 (closed_writable before p.0 sound p.1) (closed_rates before p.0 rate sound above p.1) fresh)

named_sound : (d more : Draft) (part : Part) (evidence : Evidence) → IsSound d → IsSoundPart d.members part → IsPartEvidence evidence → of_named d part evidence ≡ Ok more → IsSound more
unfolding IsSoundPart
named_sound d more (parts.Member side m) evidence sound at fresh h = cc
named_sound d more (parts.Sync busy) evidence sound at fresh h = cc
named_sound d more (parts.Named id) evidence sound at fresh h =
    let is : begun d.done d.rate d.members (parts.Frame id evidence) ≡ more = cc in
    rw (← is) (record { done = sound.done; rates = sound.rates; members = sound.members; part = (at, fresh) })
named_sound d more (parts.Frame id other) evidence sound at fresh h = cc

given_sound : (draft : Option Draft) (d : Draft) (rate : Rate) (evidence : Evidence) → IsSoundIf draft → IsPartEvidence evidence → given draft rate evidence ≡ Ok d → IsSound d
given_sound None d rate evidence sound fresh h = cc
given_sound (Some before) d rate evidence sound fresh h =
    named_sound before d before.part evidence sound sound.part fresh (taken_where (kbits_of rate == kbits_of before.rate) (of_named before before.part evidence) d rules.Misplaced h).1

-- ---- the busy list of the member before

part_of : (e : Evidence) → IsWritableEvidence e → IsPart (busy_list_of e)
part_of (Long busy) h = record { count = h.count; fit = h.fit }
part_of (Late q busy queue) h = record { count = h.1.count; fit = h.1.fit }

last_part : (members : List Member) → All (λ m. IsWritableEvidence m.evidence) members → IsPart (last_busy members)
last_part [] h = nothing
last_part (m ∷ []) h = part_of m.evidence (All-head (λ m. IsWritableEvidence m.evidence) m [] h)
last_part (m ∷ n ∷ more) h = last_part (n ∷ more) (All-tail (λ m. IsWritableEvidence m.evidence) m (n ∷ more) h)

list_given : (shared : List ℕ) (e more : Evidence) → IsPart shared → IsPartEvidence e → with_list shared e ≡ Ok more → IsPartEvidence more
list_given shared (Long busy) more its part h =
    let p = bound (with_numbers shared busy) _ more h in
    let is : Long p.0 ≡ more = let e = p.2 in cc in
    let same = (passed (length busy == 0) shared p.0 rules.Misplaced p.1).1 in
    rw (← is) (rw same at its)
list_given shared (Late q busy queue) more its part h =
    let p = bound (with_numbers shared busy) _ more h in
    let is : Late q p.0 queue ≡ more = let e = p.2 in cc in
    let same = (passed (length busy == 0) shared p.0 rules.Misplaced p.1).1 in
    rw (← is) (part.0, rw same at its, part.2)

part_shared : (shared : List ℕ) (members : List Member) (part more : Part) → IsPart shared → IsSoundPart members part → with_same shared part ≡ Ok more → IsSoundPart members more
unfolding IsSoundPart
part_shared shared members (parts.Member side m) more its at h =
    let n = not_held (length shared == 0) _ more rules.Misplaced h in
    let p = bound (with_list shared m.evidence) _ more n.1 in
    let is : parts.Member side (record { pdo = m.pdo; evidence = p.0 }) ≡ more = let e = p.2 in cc in
    rw (← is) (at.0, at.1, list_given shared m.evidence p.0 its at.2 p.1)
part_shared shared members (parts.Sync busy) more its at h = cc
part_shared shared members (parts.Named id) more its at h = cc
part_shared shared members (parts.Frame id evidence) more its at h = cc

share_sound : (draft : Option Draft) (d : Draft) (e : Entry) → IsSoundIf draft → share draft e ≡ Ok d → IsSound d
share_sound None d e sound h = cc
share_sound (Some before) d e sound h =
    let n = not_held (not (kbits_of e.rate == kbits_of before.rate)) _ d rules.Misplaced h in
    let k = not_held (not (is_of_number before.part e.number)) _ d rules.Misplaced n.1 in
    let p = bound (with_same (last_busy before.members) before.part) _ d k.1 in
    let is : begun before.done before.rate before.members p.0 ≡ d = let e = p.2 in cc in
    let shared = last_part before.members sound.members.evidence in
    rw (← is) (record { done = sound.done; rates = sound.rates; members = sound.members; part = part_shared (last_busy before.members) before.members before.part p.0 shared sound.part p.1 })

evidence_sound : (side : Side) (draft : Option Draft) (d : Draft) (e : Entry) (evidence : Evidence) → IsSoundIf draft → IsInRange e → IsPartEvidence evidence → with_evidence side draft e evidence ≡ Ok d → IsSound d
unfolding IsSoundPart
evidence_sound side draft d e evidence sound range fresh h = go (e.number == 0) refl h
  where
    fresh_member : (e.number == 0) ≡ false → IsSoundPart [] (parts.Member side (record { pdo = e.number - 1; evidence = evidence }))
    fresh_member some = (let low : 0 < e.number = grind (arith, nat_tests) in omega (arith, range.number, low), none (λ (k : Member). k.pdo < e.number - 1), fresh)

    go : (b : Bool) → (e.number == 0) ≡ b → cond b (given draft e.rate evidence) (begin draft e.rate (parts.Member side (record { pdo = e.number - 1; evidence = evidence }))) ≡ Ok d → IsSound d
    go true zero_is k = given_sound draft d e.rate evidence sound fresh k
    go false some k = begin_sound draft d e.rate (parts.Member side (record { pdo = e.number - 1; evidence = evidence })) sound (fresh_member some) k

part_pushed : (list : Listed) (members : List Member) (part more : Part) (value : ℕ) → IsSoundPart members part → value < 2 ^ 64 → with_more list part value ≡ Ok more → IsSoundPart members more
unfolding IsSoundPart
part_pushed list members (parts.Member side m) more value at fits h =
    let p = bound (with_number list m.evidence value) _ more h in
    let is : parts.Member side (record { pdo = m.pdo; evidence = p.0 }) ≡ more = let e = p.2 in cc in
    rw (← is) (at.0, at.1, number_pushed list m.evidence p.0 value at.2 fits p.1)
part_pushed lists.Busy members (parts.Sync busy) more value at fits h =
    let p = bound (longer busy value) _ more h in
    let is : parts.Sync p.0 ≡ more = let e = p.2 in cc in
    rw (← is) (pushed busy p.0 value at fits p.1)
part_pushed lists.Queue members (parts.Sync busy) more value at fits h = cc
part_pushed list members (parts.Named id) more value at fits h = cc
part_pushed list members (parts.Frame id evidence) more value at fits h =
    let p = bound (with_number list evidence value) _ more h in
    let is : parts.Frame id p.0 ≡ more = let e = p.2 in cc in
    rw (← is) (at.0, number_pushed list evidence p.0 value at.1 fits p.1)

add_sound : (list : Listed) (draft : Option Draft) (d : Draft) (e : Entry) → IsSoundIf draft → IsInRange e → add list draft e ≡ Ok d → IsSound d
add_sound list None d e sound range h = cc
add_sound list (Some before) d e sound range h =
    let n = not_held (not (kbits_of e.rate == kbits_of before.rate)) _ d rules.Misplaced h in
    let p = bound (lengthened list before.part e.number e.value) _ d n.1 in
    let is : begun before.done before.rate before.members p.0 ≡ d = let e = p.2 in cc in
    let more = taken_where (is_of_number before.part e.number) (with_more list before.part e.value) p.0 rules.Misplaced p.1 in
    rw (← is) (record { done = sound.done; rates = sound.rates; members = sound.members; part = part_pushed list before.members before.part p.0 e.value sound.part range.value more.1 })

fresh_sync : IsSoundPart [] (parts.Sync [])
unfolding IsSoundPart
fresh_sync = nothing

fresh_named : (id : ℕ) → IsSdo id → IsSoundPart [] (parts.Named id)
unfolding IsSoundPart
fresh_named id h = h

next_sound : (word : Word) (draft : Option Draft) (d : Draft) (e : Entry) → e.word ≡ word → IsSoundIf draft → IsInRange e → by_word word draft e ≡ Ok d → IsSound d
next_sound (words.Long side) draft d e is sound range h = evidence_sound side draft d e (Long []) sound range nothing h
next_sound (words.Late side) draft d e is sound range h = evidence_sound side draft d e (Late e.value [] []) sound range (range.value, nothing, nothing) h
next_sound words.Sync draft d e is sound range h = begin_sound draft d e.rate (parts.Sync []) sound fresh_sync h
next_sound words.Same draft d e is sound range h = share_sound draft d e sound h
next_sound words.Sdo draft d e is sound range h =
    begin_sound draft d e.rate (parts.Named e.value) sound (fresh_named e.value (range.sdo is)) (taken_where (nat_lt e.value 65536) (begin draft e.rate (parts.Named e.value)) d rules.Number h).1
next_sound (words.Number list) draft d e is sound range h = add_sound list draft d e sound range h

taken_sound : (version : Version) (place : ℕ) (draft more : Option Draft) (row : Fields) → IsSoundIf draft → taken version place draft row ≡ Ok more → IsSoundIf more
unfolding next
taken_sound version place draft more row sound h =
    let p = bound (entry_in version row) _ more (at_place place _ more h) in
    let q = bound (next draft p.0) _ more p.2 in
    let is : Some q.0 ≡ more = let e = q.2 in cc in
    rw (← is) (next_sound p.0.word draft q.0 p.0 refl sound (entry_fits version row p.0 p.1) q.1)

rows_sound : (version : Version) (rows : List Fields) (place : ℕ) (draft more : Option Draft) → IsSoundIf draft → rows_from (taken version) place draft rows ≡ Ok more → IsSoundIf more
unfolding rows_from
rows_sound version [] place draft more sound h = let is : draft ≡ more = cc in rw (← is) sound
rows_sound version (row ∷ rows) place draft more sound h =
    let p = bound (taken version place draft row) _ more h in
    rows_sound version rows (place + 1) p.0 more (taken_sound version place draft p.0 row sound p.1) p.2

finished_writable : (draft : Option Draft) (found : List Refusal) → IsSoundIf draft → finished draft ≡ Ok found → AreWritable found
unfolding finished
finished_writable None found sound h = let is : [] ≡ found = cc in rw (← is) none_writable
finished_writable (Some d) found sound h = closed_writable d found sound h

-- what a text says can be written
pub read_is_writable : (text : List ℕ) (found : List Refusal) → refusals_of text ≡ Ok found → AreWritable found
unfolding refusals_of
read_is_writable text found h =
    let rows = bound (rows_in text) _ found h in
    let below = bound (after_version rows.0) _ found rows.2 in
    let draft = bound (rows_from (taken below.0.0) 2 None below.0.1) _ found below.2 in
    finished_writable draft.0 found (rows_sound below.0.0 below.0.1 2 None draft.0 tt draft.1) (at_place (1 + length below.0.1) (finished draft.0) found draft.2)

-- what a function gives that reads the text can be written
pub given_is_writable : {X E : Type 0} (view : X → List Refusal) (refusal : E → Option Breach) (result : Result X E) (text : List ℕ)
    → Gives view refusal result (refusals_of text) → IfOk result (λ x. AreWritable (view x))
given_is_writable view refusal (Ok x) text h = read_is_writable text (view x) h
given_is_writable view refusal (Err e) text h = tt
