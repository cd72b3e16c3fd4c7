-- What is written is read again.
use Rattle.std.proofs.Common.{◌≡◌, ℕ, zero, suc, ◌+◌, ◌<◌, ◌≤◌, ◌^◌, true, false, ◌==◌, List, [], ◌∷◌, ◌++◌, ◌-◌, ◌&&◌, ◌||◌, inl, inr, Bool, nat_le, if◌then◌else◌, get_or, length, All, Result, Ok, Err, Option, Some, None, codes, refl, ◌∙◌, arith, add-zero, append-nil, append_assoc, length-append, AllPairs, lit<}
use Rattle.std.specs.List.{flat_map, list_all}
use Rattle.std.proofs.lemmas.Bool.{and_parts, le-leb, lt-ltb, le-ltb, lt-leb, ne_eqb, eq-eqb}
use Rattle.std.proofs.lemmas.List.Elements.{All-head, All-tail}
use Rattle.cop_table.specs.Reading.{◌>>=◌}
use Rattle.cop_table.specs.Rows.{rows_from}
use Rattle.cop_frame.specs.declared.rates.Rate.{Rate}
use Rattle.cop_frame.specs.Rate.{kbits_of}
use Rattle.cop_cert.specs.Assignments.{IsSdo}
use Rattle.cop_cert.specs.Format.{Fields, fields_of, numbers_rows, evidence_rows, long_word, late_word, member_rows, frame_rows, cause_rows, refusal_rows, is_by_places, version, version_of, text_of}
use Rattle.cop_cert.specs.Entries.{least_number, word_of, is_sdo, is_number_of}
use Rattle.cop_cert.specs.Reading.{taken, next, longer, with_number, with_more, is_of_number, is_same_side, begun, begin, cause_of, refused_at, closed, is_complete, finished, ended, after_version, refusals_of}
use Rattle.cop_cert.specs.Plain.{list_word}
use Rattle.cop_cert.specs.Writable.{IsWritableList, IsWritableEvidence, AreWritableMembers, IsWritableCause, IsWritableRefusal, AreWritable}
use Rattle.cop_cert.specs.declared.drafts.Draft.{Draft}
use Rattle.cop_cert.specs.declared.drafts.Part.{Part}
use Rattle.cop_cert.specs.declared.drafts.Part.TheVariants as parts
use Rattle.cop_cert.specs.declared.entries.Side.{Side}
use Rattle.cop_cert.specs.declared.entries.Side.TheVariants as sides
use Rattle.cop_cert.specs.declared.entries.Version.{Version}
use Rattle.cop_cert.specs.declared.entries.Version.TheVariants.{First, Second, Third}
use Rattle.cop_cert.specs.declared.faults.Rule.{Rule}
use Rattle.cop_cert.specs.declared.refusals.Cause.{Cause}
use Rattle.cop_cert.specs.declared.refusals.Cause.TheVariants.{Places, Sync, Sdo}
use Rattle.cop_cert.specs.declared.entries.Word.TheVariants as words
use Rattle.cop_cert.specs.declared.entries.Listed.{Listed}
use Rattle.cop_cert.specs.declared.entries.Listed.TheVariants as lists
use Rattle.cop_cert.specs.declared.faults.Breach.{Breach}
use Rattle.cop_cert.specs.declared.refusals.Evidence.{Evidence}
use Rattle.cop_cert.specs.declared.refusals.Evidence.TheVariants.{Long, Late}
use Rattle.cop_cert.specs.declared.refusals.Member.{Member}
use Rattle.cop_cert.specs.declared.refusals.Refusal.{Refusal}
use Rattle.cop_cert.proofs.RowLemmas.{entry_is, least_small}
use Rattle.cop_cert.proofs.CsvLemmas.{text_read}

module _ (v : Version) where
  -- records lead from one draft to another, wherever they stand
  pub record Leads (a : Option Draft) (rows : List Fields) (b : Option Draft) : Type 0 where
    pub leads : (place : ℕ) → rows_from (taken v) place a rows ≡ Ok b

  pub leads_none : (a : Option Draft) → Leads a [] a
  unfolding rows_from
  leads_none a = record { leads = λ place. refl }

  pub leads_cons : (a b c : Option Draft) (row : Fields) (rows : List Fields) → ((place : ℕ) → taken v place a row ≡ Ok b) → Leads b rows c → Leads a (row ∷ rows) c
  unfolding rows_from
  leads_cons a b c row rows h k = record { leads = λ place. rw (h place) (k.leads (place + 1)) }

  appended : (r : Result (Option Draft) Breach) (f g : Option Draft → Result (Option Draft) Breach) (h : Option Draft → Result (Option Draft) Breach)
      → ((d : Option Draft) → f d ≡ (g d >>= h)) → (r >>= f) ≡ ((r >>= g) >>= h)
  appended (Ok d) f g h e = e d
  appended (Err b) f g h e = refl

  rows_from-append : (place : ℕ) (a : Option Draft) (rows more : List Fields) → rows_from (taken v) place a (rows ++ more) ≡ (rows_from (taken v) place a rows >>= λ b. rows_from (taken v) (place + length rows) b more)
  unfolding rows_from
  rows_from-append place a [] more = rw (add-zero place) refl
  rows_from-append place a (row ∷ rows) more =
      let e : place + length (row ∷ rows) ≡ place + 1 + length rows = omega arith in
      rw e (appended (taken v place a row) (λ d. rows_from (taken v) (place + 1) d (rows ++ more)) (λ d. rows_from (taken v) (place + 1) d rows) (λ b. rows_from (taken v) (place + 1 + length rows) b more)
      (λ d. rows_from-append (place + 1) d rows more))

  pub leads_append : (a b c : Option Draft) (rows more : List Fields) → Leads a rows b → Leads b more c → Leads a (rows ++ more) c
  leads_append a b c rows more h k = record { leads = λ place. rows_from-append place a rows more ∙ rw (h.leads place) (k.leads (place + length rows)) }

-- ---- the numbers of a list

pub list_known : (v : Version) (list : Listed) → word_of v (list_word list) ≡ Some (words.Number list)
list_known First lists.Busy = refl
list_known First lists.Queue = refl
list_known Second lists.Busy = refl
list_known Second lists.Queue = refl
list_known Third lists.Busy = refl
list_known Third lists.Queue = refl

pub not_empty : (n : ℕ) → 0 < n → (n == 0) ≡ false
not_empty n h = ne_eqb n 0 (λ e. omega arith)

pub complete_is : (evidence : Evidence) → IsWritableEvidence evidence → is_complete evidence ≡ true
complete_is (Long busy) h = rw (not_empty (length busy) h.some) refl
complete_is (Late q busy queue) h = rw (not_empty (length busy) h.1.some, not_empty (length queue) h.2.some) refl

module _ (v : Version) (done : List Refusal) (rate : Rate) (members : List Member) (number : ℕ) (low : least_number v ≤ number) (high : number ≤ 512) where
  abbrev pub at : Part → Option Draft
  at part = Some (begun done rate members part)

  -- the numbers of a list of a part
  module _ (list : Listed) (f : List ℕ → Part) (its : (xs : List ℕ) → is_of_number (f xs) number ≡ true)
      (puts : (xs : List ℕ) (x : ℕ) → with_more list (f xs) x ≡ (longer xs x >>= λ ys. Ok (f ys))) where
    one_number : (numbers : List ℕ) (value : ℕ) → length numbers < 200000 → value < 2 ^ 64
        → (place : ℕ) → taken v place (at (f numbers)) (fields_of rate number (list_word list) value) ≡ Ok (at (f (numbers ++ value ∷ [])))
    unfolding next
    one_number numbers value room fits place =
        rw (
          entry_is v rate number value (list_word list) (words.Number list) low high fits (list_known v list) refl refl,
          eq-eqb (kbits_of rate) (kbits_of rate) refl,
          its numbers,
          puts numbers value,
          lt-ltb (length numbers) 200000 room,
        ) refl

    pub all_numbers : (numbers more : List ℕ) → length numbers + length more ≤ 200000 → All (λ n. n < 2 ^ 64) more
        → Leads v (at (f numbers)) (numbers_rows rate number (list_word list) more) (at (f (numbers ++ more)))
    all_numbers numbers [] room fit = rw (append-nil numbers) (leads_none v (at (f numbers)))
    all_numbers numbers (n ∷ more) room fit =
        let rest = all_numbers (numbers ++ n ∷ []) more (simp length-append (omega arith)) (All-tail (λ n. n < 2 ^ 64) n more fit) in
        leads_cons v (at (f numbers)) (at (f (numbers ++ n ∷ []))) (at (f (numbers ++ n ∷ more))) _ _
        (one_number numbers n (omega arith) (All-head (λ n. n < 2 ^ 64) n more fit))
        (rw append_assoc at rest)

  -- evidence of a part, whose first record begins it
  module _ (a : Option Draft) (long late : List ℕ) (g : Evidence → Part) (its : (e : Evidence) → is_of_number (g e) number ≡ true)
      (puts : (list : Listed) (e : Evidence) (x : ℕ) → with_more list (g e) x ≡ (with_number list e x >>= λ e. Ok (g e)))
      (long_begins : (place : ℕ) → taken v place a (fields_of rate number long 0) ≡ Ok (at (g (Long []))))
      (late_begins : (q : ℕ) → q < 2 ^ 64 → (place : ℕ) → taken v place a (fields_of rate number late q) ≡ Ok (at (g (Late q [] [])))) where
    through : (list : Listed) (f : List ℕ → Evidence) (xs : List ℕ) (x : ℕ) → with_number list (f xs) x ≡ (longer xs x >>= λ ys. Ok (f ys))
        → with_more list (g (f xs)) x ≡ (longer xs x >>= λ ys. Ok (g (f ys)))
    through list f xs x e = puts list (f xs) x ∙ rw e (go (longer xs x))
      where
        go : (r : Result (List ℕ) Rule) → ((r >>= λ ys. Ok (f ys)) >>= λ e. Ok (g e)) ≡ (r >>= λ ys. Ok (g (f ys)))
        go (Ok ys) = refl
        go (Err rule) = refl

    pub evidence_leads : (evidence : Evidence) → IsWritableEvidence evidence → Leads v a (evidence_rows rate number long late evidence) (at (g evidence))
    evidence_leads (Long busy) h =
        leads_cons v a (at (g (Long []))) (at (g (Long busy))) _ _ long_begins
        (all_numbers lists.Busy (λ xs. g (Long xs)) (λ xs. its (Long xs)) (λ xs x. through lists.Busy Long xs x refl) [] busy (omega (arith, h.count)) h.fit)
    evidence_leads (Late q busy queue) h =
        leads_cons v a (at (g (Late q [] []))) (at (g (Late q busy queue))) _ _ (late_begins q h.0)
        (leads_append v (at (g (Late q [] []))) (at (g (Late q busy []))) (at (g (Late q busy queue))) _ _
        (all_numbers lists.Busy (λ xs. g (Late q xs [])) (λ xs. its (Late q xs [])) (λ xs x. through lists.Busy (λ ys. Late q ys []) xs x refl) [] busy (omega (arith, h.1.count)) h.1.fit)
        (all_numbers lists.Queue (λ xs. g (Late q busy xs)) (λ xs. its (Late q busy xs))
        (λ xs x. through lists.Queue (λ ys. Late q busy ys) xs x (rw (not_empty (length busy) h.1.some) refl)) [] queue (omega (arith, h.2.count)) h.2.fit))

-- ---- members

-- the words of the members of a side are known in a version
pub record KnowsSide (v : Version) (side : Side) : Type 0 where
  pub long : word_of v (long_word side) ≡ Some (words.Long side)
  pub late : word_of v (late_word side) ≡ Some (words.Late side)

pub knows_place : (v : Version) → KnowsSide v sides.Place
knows_place First = record { long = refl; late = refl }
knows_place Second = record { long = refl; late = refl }
knows_place Third = record { long = refl; late = refl }

-- a version has words for causes other than places
pub record KnowsFrames (v : Version) : Type 0 where
  pub none : least_number v ≡ 0
  pub sync : word_of v (codes "sync") ≡ Some words.Sync
  pub sdo : word_of v (codes "sdo") ≡ Some words.Sdo
  pub up : KnowsSide v sides.Up

knows_frames : KnowsFrames Second
knows_frames = record { none = refl; sync = refl; sdo = refl; up = record { long = refl; late = refl } }

placed_long : (side : Side) (pdo : ℕ) → is_number_of (words.Long side) (pdo + 1) ≡ true
placed_long sides.Place pdo = refl
placed_long sides.Up pdo = le-leb 1 (pdo + 1) (omega arith)

placed_late : (side : Side) (pdo : ℕ) → is_number_of (words.Late side) (pdo + 1) ≡ true
placed_late sides.Place pdo = refl
placed_late sides.Up pdo = le-leb 1 (pdo + 1) (omega arith)

abbrev pub member_part : Side → ℕ → Evidence → Part
member_part side pdo evidence = parts.Member side (record { pdo = pdo; evidence = evidence })

module _ (v : Version) (side : Side) (known : KnowsSide v side) (a : Option Draft) (done : List Refusal) (rate : Rate) (before : List Member) (pdo : ℕ) (small : pdo < 512)
    (begins : (evidence : Evidence) → begin a rate (member_part side pdo evidence) ≡ Ok (begun done rate before (member_part side pdo evidence))) where
  abbrev begun_with : Evidence → Option Draft
  begun_with evidence = Some (begun done rate before (member_part side pdo evidence))

  pub long_begins : (place : ℕ) → taken v place a (fields_of rate (pdo + 1) (long_word side) 0) ≡ Ok (begun_with (Long []))
  unfolding next
  long_begins place =
      let low : least_number v ≤ pdo + 1 = omega (arith, least_small v) in
      let some : (pdo + 1 == 0) ≡ false = not_empty (pdo + 1) (omega arith) in
      let same : pdo + 1 - 1 ≡ pdo = omega arith in
      rw (entry_is v rate (pdo + 1) 0 (long_word side) (words.Long side) low (omega arith) (omega arith) known.long refl (placed_long side pdo), some, same, begins (Long [])) refl

  pub late_begins : (q : ℕ) → q < 2 ^ 64 → (place : ℕ) → taken v place a (fields_of rate (pdo + 1) (late_word side) q) ≡ Ok (begun_with (Late q [] []))
  unfolding next
  late_begins q fits place =
      let low : least_number v ≤ pdo + 1 = omega (arith, least_small v) in
      let some : (pdo + 1 == 0) ≡ false = not_empty (pdo + 1) (omega arith) in
      let same : pdo + 1 - 1 ≡ pdo = omega arith in
      rw (entry_is v rate (pdo + 1) q (late_word side) (words.Late side) low (omega arith) fits known.late refl (placed_late side pdo), some, same, begins (Late q [] [])) refl

  pub member_leads : (evidence : Evidence) → IsWritableEvidence evidence
      → Leads v a (evidence_rows rate (pdo + 1) (long_word side) (late_word side) evidence) (Some (begun done rate before (member_part side pdo evidence)))
  member_leads =
      let low : least_number v ≤ pdo + 1 = omega (arith, least_small v) in
      let same : pdo + 1 - 1 ≡ pdo = omega arith in
      evidence_leads v done rate before (pdo + 1) low (omega arith) a (long_word side) (late_word side) (member_part side pdo)
      (λ e. rw (lt-ltb 0 (pdo + 1) (omega arith), same, eq-eqb pdo pdo refl) refl)
      (λ list e x. refl)
      long_begins
      late_begins

-- records lead to a draft of all these members, of which the last is at hand
pub record MembersEnd (v : Version) (side : Side) (a : Option Draft) (rows : List Fields) (done : List Refusal) (rate : Rate) (all : List Member) : Type 0 where
  pub before : List Member
  pub last : Member
  pub leads : Leads v a rows (Some (begun done rate before (parts.Member side last)))
  pub complete : is_complete last.evidence ≡ true
  pub all_are : before ++ last ∷ [] ≡ all

same_side : (side : Side) → is_same_side side side ≡ true
same_side sides.Place = refl
same_side sides.Up = refl

pub next_member_begins : (side : Side) (done : List Refusal) (rate : Rate) (before : List Member) (m : Member) (pdo : ℕ) → is_complete m.evidence ≡ true → m.pdo < pdo → (evidence : Evidence)
    → begin (Some (begun done rate before (parts.Member side m))) rate (member_part side pdo evidence) ≡ Ok (begun done rate (before ++ m ∷ []) (member_part side pdo evidence))
next_member_begins side done rate before m pdo complete rises evidence =
    rw (le-ltb (kbits_of rate) (kbits_of rate) (omega arith), eq-eqb (kbits_of rate) (kbits_of rate) refl, same_side side, lt-leb pdo m.pdo rises, complete) refl

pub pairs_on : {A : Type 0} (R : A → A → Type 0) (x : A) (rest : List A) → AllPairs R (x ∷ rest) → AllPairs R rest
pairs_on R x rest h = λ i j d lt below. h (suc i) (suc j) d (omega arith) (omega arith)

module _ (v : Version) (side : Side) (known : KnowsSide v side) (done : List Refusal) (rate : Rate) where
  members_end : (before : List Member) (m : Member) (rest : List Member) → is_complete m.evidence ≡ true → AllPairs (λ m n. m.pdo < n.pdo) (m ∷ rest) → All (λ m. m.pdo < 512) rest
      → All (λ m. IsWritableEvidence m.evidence) rest
      → MembersEnd v side (Some (begun done rate before (parts.Member side m))) (flat_map (member_rows side rate) rest) done rate (before ++ m ∷ rest)
  members_end before m [] complete rise inside fine = record { before = before; last = m; leads = leads_none v _; complete = complete; all_are = refl }
  members_end before m (n ∷ rest) complete rise inside fine =
      let here = Some (begun done rate before (parts.Member side m)) in
      let rises : m.pdo < n.pdo = rise 0 1 n (lit< tt) (omega arith) in
      let whole = All-head (λ m. IsWritableEvidence m.evidence) n rest fine in
      let first = member_leads v side known here done rate (before ++ m ∷ []) n.pdo (All-head (λ m. m.pdo < 512) n rest inside) (next_member_begins side done rate before m n.pdo complete rises) n.evidence whole in
      let later = members_end (before ++ m ∷ []) n rest (complete_is n.evidence whole) (pairs_on (λ m n. m.pdo < n.pdo) m (n ∷ rest) rise)
      (All-tail (λ m. m.pdo < 512) n rest inside) (All-tail (λ m. IsWritableEvidence m.evidence) n rest fine) in
      record {
        before = later.before;
        last = later.last;
        leads = leads_append v here _ _ (evidence_rows rate (n.pdo + 1) (long_word side) (late_word side) n.evidence) (flat_map (member_rows side rate) rest) first later.leads;
        complete = later.complete;
        all_are = later.all_are ∙ append_assoc before (m ∷ []) (n ∷ rest);
      }

  -- from where any part begins a refusal of the rate
  first_members : (a : Option Draft) (m : Member) (rest : List Member) → ((part : Part) → begin a rate part ≡ Ok (begun done rate [] part)) → AreWritableMembers (m ∷ rest)
      → MembersEnd v side a (flat_map (member_rows side rate) (m ∷ rest)) done rate (m ∷ rest)
  first_members a m rest begins h =
      let whole = All-head (λ m. IsWritableEvidence m.evidence) m rest h.evidence in
      let first = member_leads v side known a done rate [] m.pdo (All-head (λ m. m.pdo < 512) m rest h.inside) (λ e. begins (member_part side m.pdo e)) m.evidence whole in
      let later = members_end [] m rest (complete_is m.evidence whole) h.rise (All-tail (λ m. m.pdo < 512) m rest h.inside) (All-tail (λ m. IsWritableEvidence m.evidence) m rest h.evidence) in
      record {
        before = later.before;
        last = later.last;
        leads = leads_append v a _ _ (evidence_rows rate (m.pdo + 1) (long_word side) (late_word side) m.evidence) (flat_map (member_rows side rate) rest) first later.leads;
        complete = later.complete;
        all_are = later.all_are;
      }

-- ---- a refusal

-- records lead to the draft of this refusal after those, and none of it is missing
pub record Ends (v : Version) (a : Option Draft) (rows : List Fields) (done : List Refusal) (rate : Rate) (cause : Cause) : Type 0 where
  pub members : List Member
  pub part : Part
  pub leads : Leads v a rows (Some (begun done rate members part))
  pub whole : cause_of members part ≡ Some cause

sdo_is : (id : ℕ) → IsSdo id → is_sdo id ≡ true
sdo_is id (inl h) = rw (le-leb 0x581 id h.0, le-leb id 0x5FF h.1) refl
sdo_is id (inr h) = let low : nat_le id 0x5FF ≡ false = lt-leb id 0x5FF (omega (arith, h.0)) in
    rw (low, le-leb 0x601 id h.0, le-leb id 0x67F h.1) (go (nat_le 0x581 id))
  where
    go : (b : Bool) → ((b && false) || true) ≡ true
    go true = refl
    go false = refl

sdo_small : (id : ℕ) → IsSdo id → id < 65536
sdo_small id (inl h) = omega (arith, h.1)
sdo_small id (inr h) = omega (arith, h.1)

-- the versions that have words for a cause
Knows : Version → Cause → Type 0
Knows v (Places members) = Unit {0}
Knows v (Sync busy) = KnowsFrames v
Knows v (Sdo up id evidence) = KnowsFrames v

module _ (v : Version) (frames : KnowsFrames v) (a : Option Draft) (done : List Refusal) (rate : Rate) (begins : (part : Part) → begin a rate part ≡ Ok (begun done rate [] part)) where
  least_is : least_number v ≤ 0
  least_is = omega (arith, frames.none)

  sync_begins : (place : ℕ) → taken v place a (fields_of rate 0 (codes "sync") 0) ≡ Ok (Some (begun done rate [] (parts.Sync [])))
  unfolding next
  sync_begins place = rw (entry_is v rate 0 0 (codes "sync") words.Sync least_is (omega arith) (omega arith) frames.sync refl refl, begins (parts.Sync [])) refl

  pub sync_ends : (busy : List ℕ) → IsWritableList busy → Ends v a (cause_rows rate (Sync busy)) done rate (Sync busy)
  sync_ends busy h = record {
    members = [];
    part = parts.Sync busy;
    leads = leads_cons v a (Some (begun done rate [] (parts.Sync []))) _ _ _ sync_begins
        (all_numbers v done rate [] 0 least_is (omega arith) lists.Busy (λ xs. parts.Sync xs) (λ xs. refl) (λ xs x. refl) [] busy (omega (arith, h.count)) h.fit);
    whole = rw (not_empty (length busy) h.some) refl;
  }

  -- the frame's record, from where a frame may be named
  module _ (b : Option Draft) (up : List Member) (id : ℕ) (sdo : IsSdo id) (names : begin b rate (parts.Named id) ≡ Ok (begun done rate up (parts.Named id))) where
    frame_named : (place : ℕ) → taken v place b (fields_of rate 0 (codes "sdo") id) ≡ Ok (Some (begun done rate up (parts.Named id)))
    unfolding next
    frame_named place =
        rw (entry_is v rate 0 id (codes "sdo") words.Sdo least_is (omega arith) (let small = sdo_small id sdo in omega (arith, small)) frames.sdo (sdo_is id sdo) refl, lt-ltb id 65536 (sdo_small id sdo), names) refl

    frame_leads : (evidence : Evidence) → IsWritableEvidence evidence → Leads v b (frame_rows rate id evidence) (Some (begun done rate up (parts.Frame id evidence)))
    unfolding next
    frame_leads evidence h =
        let named = Some (begun done rate up (parts.Named id)) in
        let same = eq-eqb (kbits_of rate) (kbits_of rate) refl in
        let known = knows_place v in
        leads_cons v b named (Some (begun done rate up (parts.Frame id evidence))) _ _ frame_named
        (evidence_leads v done rate up 0 least_is (omega arith) named (codes "long") (codes "late") (λ e. parts.Frame id e) (λ e. refl) (λ list e x. refl)
        (λ place. rw (entry_is v rate 0 0 (codes "long") (words.Long sides.Place) least_is (omega arith) (omega arith) known.long refl refl, same) refl)
        (λ q fits place. rw (entry_is v rate 0 q (codes "late") (words.Late sides.Place) least_is (omega arith) fits known.late refl refl, same) refl)
        evidence h)

  named_after : (before : List Member) (last : Member) (id : ℕ) → is_complete last.evidence ≡ true
      → begin (Some (begun done rate before (parts.Member sides.Up last))) rate (parts.Named id) ≡ Ok (begun done rate (before ++ last ∷ []) (parts.Named id))
  named_after before last id complete = rw (le-ltb (kbits_of rate) (kbits_of rate) (omega arith), eq-eqb (kbits_of rate) (kbits_of rate) refl, complete) refl

  pub sdo_alone : (id : ℕ) (evidence : Evidence) → IsSdo id → IsWritableEvidence evidence → Ends v a (frame_rows rate id evidence) done rate (Sdo [] id evidence)
  sdo_alone id evidence sdo fine = record {
    members = [];
    part = parts.Frame id evidence;
    leads = frame_leads a [] id sdo (begins (parts.Named id)) evidence fine;
    whole = rw (complete_is evidence fine) refl;
  }

  -- below members that have to be up, whatever their records
  pub sdo_below : (rows : List Fields) (members : List Member) (id : ℕ) (evidence : Evidence) → MembersEnd v sides.Up a rows done rate members → IsSdo id → IsWritableEvidence evidence
      → Ends v a (rows ++ frame_rows rate id evidence) done rate (Sdo members id evidence)
  sdo_below rows members id evidence up sdo fine =
      let at_last = Some (begun done rate up.before (parts.Member sides.Up up.last)) in
      let names = named_after up.before up.last id up.complete in
      let frame = frame_leads at_last (up.before ++ up.last ∷ []) id sdo names evidence fine in
      record {
        members = members;
        part = parts.Frame id evidence;
        leads = leads_append v a at_last _ rows (frame_rows rate id evidence) up.leads (rw up.all_are at frame);
        whole = rw (complete_is evidence fine) refl;
      }

  sdo_ends : (up : List Member) (id : ℕ) (evidence : Evidence) → AreWritableMembers up → IsSdo id → IsWritableEvidence evidence → Ends v a (cause_rows rate (Sdo up id evidence)) done rate (Sdo up id evidence)
  sdo_ends [] id evidence h sdo fine = sdo_alone id evidence sdo fine
  sdo_ends (m ∷ rest) id evidence h sdo fine =
      sdo_below (flat_map (member_rows sides.Up rate) (m ∷ rest)) (m ∷ rest) id evidence (first_members v sides.Up frames.up done rate a m rest begins h) sdo fine

pub places_are : (v : Version) (a : Option Draft) (done : List Refusal) (rate : Rate) (rows : List Fields) (members : List Member) → MembersEnd v sides.Place a rows done rate members → Ends v a rows done rate (Places members)
places_are v a done rate rows members all =
    record { members = all.before; part = parts.Member sides.Place all.last; leads = all.leads; whole = rw (all.complete, all.all_are) refl }

module _ (a : Option Draft) (done : List Refusal) (rate : Rate) (begins : (part : Part) → begin a rate part ≡ Ok (begun done rate [] part)) where
  places_end : (v : Version) (members : List Member) → 0 < length members → AreWritableMembers members → Ends v a (cause_rows rate (Places members)) done rate (Places members)
  places_end v [] some h = absurd (omega (arith, some))
  places_end v (m ∷ rest) some h = places_are v a done rate (flat_map (member_rows sides.Place rate) (m ∷ rest)) (m ∷ rest) (first_members v sides.Place (knows_place v) done rate a m rest begins h)

  refusal_ends : (v : Version) (cause : Cause) → Knows v cause → IsWritableCause cause → Ends v a (cause_rows rate cause) done rate cause
  unfolding Knows
  refusal_ends v (Places members) known h = places_end v members h.0 h.1
  refusal_ends v (Sync busy) known h = sync_ends v known a done rate begins busy h
  refusal_ends v (Sdo up id evidence) known h = sdo_ends v known a done rate begins up id evidence h.0 h.1 h.2

next_rate_begins : (d : Draft) (rate : Rate) (cause : Cause) → cause_of d.members d.part ≡ Some cause → kbits_of d.rate < kbits_of rate → (part : Part)
    → begin (Some d) rate part ≡ Ok (begun (d.done ++ refused_at d.rate cause ∷ []) rate [] part)
next_rate_begins d rate cause whole rises part =
    rw (le-ltb (kbits_of rate) (kbits_of d.rate) (omega arith), ne_eqb (kbits_of rate) (kbits_of d.rate) (λ e. omega arith), whole) refl

-- ---- the refusals

-- the records lead to these refusals
record Reaches (v : Version) (a : Option Draft) (rows : List Fields) (found : List Refusal) : Type 0 where
  draft : Draft
  leads : Leads v a rows (Some draft)
  closes : closed draft ≡ Ok found

-- records that a version has for refusals of a kind
module _ (v : Version) (Fine : Refusal → Type 0) (rows : Refusal → List Fields)
    (ends : (r : Refusal) → Fine r → (a : Option Draft) (done : List Refusal) → ((part : Part) → begin a r.rate part ≡ Ok (begun done r.rate [] part)) → Ends v a (rows r) done r.rate r.cause) where
  refusals_reach : (d : Draft) (cause : Cause) (rs : List Refusal) → cause_of d.members d.part ≡ Some cause → AllPairs (λ r s. kbits_of r.rate < kbits_of s.rate) (refused_at d.rate cause ∷ rs)
      → All Fine rs → Reaches v (Some d) (flat_map rows rs) (d.done ++ refused_at d.rate cause ∷ rs)
  refusals_reach d cause [] whole rise fine = record { draft = d; leads = leads_none v (Some d); closes = rw whole refl }
  refusals_reach d cause (r ∷ rs) whole rise fine =
      let rises : kbits_of d.rate < kbits_of r.rate = rise 0 1 r (lit< tt) (omega arith) in
      let done = d.done ++ refused_at d.rate cause ∷ [] in
      let first = ends r (All-head Fine r rs fine) (Some d) done (next_rate_begins d r.rate cause whole rises) in
      let on = pairs_on (λ r s. kbits_of r.rate < kbits_of s.rate) (refused_at d.rate cause) (r ∷ rs) rise in
      let next = begun done r.rate first.members first.part in
      let later = refusals_reach next r.cause rs first.whole on (All-tail Fine r rs fine) in
      record {
        draft = later.draft;
        leads = leads_append v (Some d) (Some next) (Some later.draft) (rows r) (flat_map rows rs) first.leads later.leads;
        closes = later.closes ∙ rw (append_assoc d.done (refused_at d.rate cause ∷ []) (r ∷ rs)) refl;
      }

  finish : (found : List Refusal) (all : List Fields) (place last : ℕ) → Reaches v None all found → (rows_from (taken v) place None all >>= ended last) ≡ Ok found
  unfolding finished
  finish found all place last h = rw (h.leads.leads place, h.closes) refl

  pub all_read : (rs : List Refusal) (place last : ℕ) → All Fine rs → AllPairs (λ r s. kbits_of r.rate < kbits_of s.rate) rs → (rows_from (taken v) place None (flat_map rows rs) >>= ended last) ≡ Ok rs
  unfolding rows_from finished
  all_read [] place last fine rise = refl
  all_read (r ∷ rs) place last fine rise =
      let first = ends r (All-head Fine r rs fine) None [] (λ part. refl) in
      let next = begun [] r.rate first.members first.part in
      let later = refusals_reach next r.cause rs first.whole rise (All-tail Fine r rs fine) in
      finish (r ∷ rs) (flat_map rows (r ∷ rs)) place last (record {
        draft = later.draft;
        leads = leads_append v None (Some next) (Some later.draft) (rows r) (flat_map rows rs) first.leads later.leads;
        closes = later.closes;
      })

-- ---- the version

knows_second : (cause : Cause) → Knows Second cause
unfolding Knows
knows_second (Places members) = tt
knows_second (Sync busy) = knows_frames
knows_second (Sdo up id evidence) = knows_frames

knows_first : (cause : Cause) → is_by_places cause ≡ true → Knows First cause
unfolding Knows
knows_first (Places members) e = tt
knows_first (Sync busy) e = cc
knows_first (Sdo up id evidence) e = cc

all_at : {X : Type 0} (p : X → Bool) (xs : List X) → list_all p xs ≡ true → (k : ℕ) (d : X) → k < length xs → p (get_or xs k d) ≡ true
all_at p [] e k d below = absurd (omega (arith, below))
all_at p (x ∷ xs) e zero d below = (and_parts (p x) (list_all p xs) e).0
all_at p (x ∷ xs) e (suc k) d below = all_at p xs (and_parts (p x) (list_all p xs) e).1 k d (omega (arith, below))

all_known : (rs : List Refusal) → All (λ r. Knows (version_of rs) r.cause) rs
all_known rs = go (list_all (λ r. is_by_places r.cause) rs) refl
  where
    go : (b : Bool) → list_all (λ r. is_by_places r.cause) rs ≡ b → All (λ r. Knows (if b then First else Second) r.cause) rs
    go true e = λ k d below. knows_first (get_or rs k d).cause (all_at (λ (r : Refusal). is_by_places r.cause) rs e k d below)
    go false e = λ k d below. knows_second (get_or rs k d).cause

pub version_read : (v : Version) (rows : List Fields) → after_version (version v ∷ rows) ≡ Ok (v, rows)
version_read First rows = refl
version_read Second rows = refl
version_read Third rows = refl

-- a refusal that a version has words for and that a file holds
abbrev IsKnown : Version → Refusal → Type 0
IsKnown v r = Knows v r.cause × IsWritableRefusal r

-- the text of refusals that a file holds reads as these
pub written_is_read : (rs : List Refusal) → AreWritable rs → refusals_of (text_of rs) ≡ Ok rs
unfolding refusals_of
written_is_read rs h =
    let v = version_of rs in
    rw (text_read rs, version_read (version_of rs) (flat_map refusal_rows rs))
    (all_read v (IsKnown v) refusal_rows (λ r fine a done begins. refusal_ends a done r.rate begins v r.cause fine.0 fine.1) rs 2 (1 + length (flat_map refusal_rows rs))
    (λ k d below. (all_known rs k d below, h.each k d below)) h.rise)
