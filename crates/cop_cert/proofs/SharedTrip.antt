-- What is written in the third version is read again.
use Rattle.std.proofs.Common.{◌≡◌, ℕ, ◌+◌, ◌-◌, ◌<◌, ◌≤◌, ◌^◌, ◌==◌, Bool, true, false, bytes_eq, if◌then◌else◌, List, [], ◌∷◌, ◌++◌, length, All, AllPairs, Result, Ok, Err, Option, Some, None, codes, refl, ◌∙◌, arith, append_assoc, lit<}
use Rattle.std.specs.List.{flat_map}
use Rattle.std.proofs.lemmas.Bool.{lt-ltb, le-leb, eq-eqb}
use Rattle.std.proofs.lemmas.List.Elements.{All-head, All-tail}
use Rattle.std.proofs.lemmas.Slice.Eq.{bytes_eq-Decides}
use Rattle.cop_table.specs.Reading.{◌>>=◌}
use Rattle.cop_frame.specs.declared.rates.Rate.{Rate}
use Rattle.cop_frame.specs.Rate.{kbits_of}
use Rattle.cop_cert.specs.Evidence.{busy_list_of}
use Rattle.cop_cert.specs.Format.{Fields, fields_of, numbers_rows, long_word, late_word, member_rows, frame_rows, same_rows, member_rows_after, members_rows_after, shared_cause_rows, shared_refusal_rows, shared_text_of}
use Rattle.cop_cert.specs.declared.faults.Rule.{Rule}
use Rattle.cop_cert.specs.Reading.{taken, next, is_complete, begun, begin, last_busy, with_more, longer, refusals_of}
use Rattle.cop_cert.specs.Writable.{IsWritableEvidence, AreWritableMembers, IsWritableCause, IsWritableRefusal, AreWritable}
use Rattle.cop_cert.specs.declared.drafts.Draft.{Draft}
use Rattle.cop_cert.specs.declared.drafts.Part.{Part}
use Rattle.cop_cert.specs.declared.drafts.Part.TheVariants as parts
use Rattle.cop_cert.specs.declared.entries.Side.{Side}
use Rattle.cop_cert.specs.declared.entries.Side.TheVariants as sides
use Rattle.cop_cert.specs.declared.entries.Version.TheVariants.{Third}
use Rattle.cop_cert.specs.declared.entries.Word.TheVariants as words
use Rattle.cop_cert.specs.declared.entries.Listed.TheVariants as lists
use Rattle.cop_cert.specs.declared.refusals.Cause.{Cause}
use Rattle.cop_cert.specs.declared.refusals.Cause.TheVariants.{Places, Sync, Sdo}
use Rattle.cop_cert.specs.declared.refusals.Evidence.{Evidence}
use Rattle.cop_cert.specs.declared.refusals.Evidence.TheVariants.{Long, Late}
use Rattle.cop_cert.specs.declared.refusals.Member.{Member}
use Rattle.cop_cert.specs.declared.refusals.Refusal.{Refusal}
use Rattle.cop_cert.proofs.RowLemmas.{entry_is, least_small}
use Rattle.cop_cert.proofs.CsvLemmas.{shared_text_read}
use Rattle.cop_cert.proofs.RoundTrip.{Leads, leads_none, leads_cons, leads_append, all_numbers, not_empty, complete_is, KnowsSide, knows_place, KnowsFrames, member_part, long_begins, late_begins, member_leads, MembersEnd, next_member_begins, pairs_on, Ends, sync_ends, sdo_alone, sdo_below, places_are, all_read}

last_pushed : (before : List Member) (m : Member) → last_busy (before ++ m ∷ []) ≡ busy_list_of m.evidence
last_pushed [] m = refl
last_pushed (k ∷ []) m = refl
last_pushed (k ∷ n ∷ more) m = last_pushed (n ∷ more) m

-- a member's busy list is not empty
busy_some : (e : Evidence) → IsWritableEvidence e → 0 < length (busy_list_of e)
busy_some (Long busy) h = h.some
busy_some (Late q busy queue) h = h.1.some

-- a member with the busy list of the member before
module _ (side : Side) (known : KnowsSide Third side) (a : Option Draft) (done : List Refusal) (rate : Rate) (before : List Member) (pdo : ℕ) (small : pdo < 512)
    (begins : (evidence : Evidence) → begin a rate (member_part side pdo evidence) ≡ Ok (begun done rate before (member_part side pdo evidence)))
    (shared : List ℕ) (some : 0 < length shared) (last : last_busy before ≡ shared) where
  abbrev member_at : Evidence → Option Draft
  member_at evidence = Some (begun done rate before (member_part side pdo evidence))

  same_long : (place : ℕ) → taken Third place (member_at (Long [])) (fields_of rate (pdo + 1) (codes "same") 0) ≡ Ok (member_at (Long shared))
  unfolding next
  same_long place =
      let same : pdo + 1 - 1 ≡ pdo = omega arith in
      rw (
        entry_is Third rate (pdo + 1) 0 (codes "same") words.Same (omega arith) (omega arith) (omega arith) refl refl (le-leb 1 (pdo + 1) (omega arith)),
        eq-eqb (kbits_of rate) (kbits_of rate) refl,
        lt-ltb 0 (pdo + 1) (omega arith),
        same,
        eq-eqb pdo pdo refl,
        last,
        not_empty (length shared) some,
      ) refl

  same_late : (q place : ℕ) → taken Third place (member_at (Late q [] [])) (fields_of rate (pdo + 1) (codes "same") 0) ≡ Ok (member_at (Late q shared []))
  unfolding next
  same_late q place =
      let same : pdo + 1 - 1 ≡ pdo = omega arith in
      rw (
        entry_is Third rate (pdo + 1) 0 (codes "same") words.Same (omega arith) (omega arith) (omega arith) refl refl (le-leb 1 (pdo + 1) (omega arith)),
        eq-eqb (kbits_of rate) (kbits_of rate) refl,
        lt-ltb 0 (pdo + 1) (omega arith),
        same,
        eq-eqb pdo pdo refl,
        last,
        not_empty (length shared) some,
      ) refl

  queue_longer : (q : ℕ) (xs : List ℕ) (x : ℕ) → with_more lists.Queue (member_part side pdo (Late q shared xs)) x ≡ (longer xs x >>= λ ys. Ok (member_part side pdo (Late q shared ys)))
  queue_longer q xs x = rw (not_empty (length shared) some) (go (longer xs x))
    where
      go : (r : Result (List ℕ) Rule) → ((r >>= λ ys. Ok (Late q shared ys)) >>= λ e. Ok (member_part side pdo e)) ≡ (r >>= λ ys. Ok (member_part side pdo (Late q shared ys)))
      go (Ok ys) = refl
      go (Err rule) = refl

  -- the queue list of a late member
  queue_leads : (q : ℕ) (queue : List ℕ) → length queue ≤ 200000 → All (λ n. n < 2 ^ 64) queue
      → Leads Third (member_at (Late q shared [])) (numbers_rows rate (pdo + 1) (codes "queue") queue) (member_at (Late q shared queue))
  queue_leads q queue count fit =
      let same : pdo + 1 - 1 ≡ pdo = omega arith in
      all_numbers Third done rate before (pdo + 1) (omega arith) (omega arith) lists.Queue (λ xs. member_part side pdo (Late q shared xs))
      (λ xs. rw (lt-ltb 0 (pdo + 1) (omega arith), same, eq-eqb pdo pdo refl) refl)
      (λ xs x. queue_longer q xs x) [] queue (omega (arith, count)) fit

  same_leads : (evidence : Evidence) → IsWritableEvidence evidence → busy_list_of evidence ≡ shared
      → Leads Third a (same_rows rate (pdo + 1) (long_word side) (late_word side) evidence) (member_at evidence)
  same_leads (Long busy) h e =
      leads_cons Third a (member_at (Long [])) _ _ _ (long_begins Third side known a done rate before pdo small begins)
      (leads_cons Third (member_at (Long [])) (member_at (Long shared)) _ _ _ same_long (rw (← e) (leads_none Third (member_at (Long busy)))))
  same_leads (Late q busy queue) h e =
      leads_cons Third a (member_at (Late q [] [])) _ _ _ (late_begins Third side known a done rate before pdo small begins q h.0)
      (leads_cons Third (member_at (Late q [] [])) (member_at (Late q shared [])) _ _ _ (same_late q)
      (rw e (queue_leads q queue h.2.count h.2.fit)))

-- a member, whichever of the two forms its busy list has
after_leads : (side : Side) → KnowsSide Third side → (a : Option Draft) (done : List Refusal) (rate : Rate) (before : List Member) (m : Member) → m.pdo < 512
    → ((evidence : Evidence) → begin a rate (member_part side m.pdo evidence) ≡ Ok (begun done rate before (member_part side m.pdo evidence)))
    → (shared : List ℕ) → last_busy before ≡ shared → IsWritableEvidence m.evidence
    → Leads Third a (member_rows_after side rate shared m) (Some (begun done rate before (member_part side m.pdo m.evidence)))
after_leads side known a done rate before m small begins shared last h = go (bytes_eq (busy_list_of m.evidence) shared) refl
  where
    go : (b : Bool) → bytes_eq (busy_list_of m.evidence) shared ≡ b
        → Leads Third a (if b then same_rows rate (m.pdo + 1) (long_word side) (late_word side) m.evidence else member_rows side rate m) (Some (begun done rate before (member_part side m.pdo m.evidence)))
    go true is =
        let same = (bytes_eq-Decides (busy_list_of m.evidence) shared).0 is in
        let some : 0 < length shared = let low = busy_some m.evidence h in rw same at low in
        same_leads side known a done rate before m.pdo small begins shared some last m.evidence h same
    go false is = member_leads Third side known a done rate before m.pdo small begins m.evidence h

-- ---- members

module _ (side : Side) (known : KnowsSide Third side) (done : List Refusal) (rate : Rate) where
  after_end : (before : List Member) (m : Member) (rest : List Member) → is_complete m.evidence ≡ true → AllPairs (λ m n. m.pdo < n.pdo) (m ∷ rest) → All (λ m. m.pdo < 512) rest
      → All (λ m. IsWritableEvidence m.evidence) rest
      → MembersEnd Third side (Some (begun done rate before (parts.Member side m))) (members_rows_after side rate (busy_list_of m.evidence) rest) done rate (before ++ m ∷ rest)
  after_end before m [] complete rise inside fine = record { before = before; last = m; leads = leads_none Third _; complete = complete; all_are = refl }
  after_end before m (n ∷ rest) complete rise inside fine =
      let here = Some (begun done rate before (parts.Member side m)) in
      let rises : m.pdo < n.pdo = rise 0 1 n (lit< tt) (omega arith) in
      let whole = All-head (λ m. IsWritableEvidence m.evidence) n rest fine in
      let first = after_leads side known here done rate (before ++ m ∷ []) n (All-head (λ m. m.pdo < 512) n rest inside) (next_member_begins side done rate before m n.pdo complete rises)
      (busy_list_of m.evidence) (last_pushed before m) whole in
      let later = after_end (before ++ m ∷ []) n rest (complete_is n.evidence whole) (pairs_on (λ m n. m.pdo < n.pdo) m (n ∷ rest) rise)
      (All-tail (λ m. m.pdo < 512) n rest inside) (All-tail (λ m. IsWritableEvidence m.evidence) n rest fine) in
      record {
        before = later.before;
        last = later.last;
        leads = leads_append Third here _ _ (member_rows_after side rate (busy_list_of m.evidence) n) (members_rows_after side rate (busy_list_of n.evidence) rest) first later.leads;
        complete = later.complete;
        all_are = later.all_are ∙ append_assoc before (m ∷ []) (n ∷ rest);
      }

  -- from where any part begins a refusal of the rate
  after_none : (a : Option Draft) (m : Member) (rest : List Member) → ((part : Part) → begin a rate part ≡ Ok (begun done rate [] part)) → AreWritableMembers (m ∷ rest)
      → MembersEnd Third side a (members_rows_after side rate [] (m ∷ rest)) done rate (m ∷ rest)
  after_none a m rest begins h =
      let whole = All-head (λ m. IsWritableEvidence m.evidence) m rest h.evidence in
      let first = after_leads side known a done rate [] m (All-head (λ m. m.pdo < 512) m rest h.inside) (λ e. begins (member_part side m.pdo e)) [] refl whole in
      let later = after_end [] m rest (complete_is m.evidence whole) h.rise (All-tail (λ m. m.pdo < 512) m rest h.inside) (All-tail (λ m. IsWritableEvidence m.evidence) m rest h.evidence) in
      record {
        before = later.before;
        last = later.last;
        leads = leads_append Third a _ _ (member_rows_after side rate [] m) (members_rows_after side rate (busy_list_of m.evidence) rest) first later.leads;
        complete = later.complete;
        all_are = later.all_are;
      }

-- ---- refusals

frames : KnowsFrames Third
frames = record { none = refl; sync = refl; sdo = refl; up = record { long = refl; late = refl } }

module _ (a : Option Draft) (done : List Refusal) (rate : Rate) (begins : (part : Part) → begin a rate part ≡ Ok (begun done rate [] part)) where
  cause_ends : (cause : Cause) → IsWritableCause cause → Ends Third a (shared_cause_rows rate cause) done rate cause
  cause_ends (Places []) h = absurd (let some = h.0 in omega (arith, some))
  cause_ends (Places (m ∷ rest)) h =
      places_are Third a done rate (members_rows_after sides.Place rate [] (m ∷ rest)) (m ∷ rest) (after_none sides.Place (knows_place Third) done rate a m rest begins h.1)
  cause_ends (Sync busy) h = sync_ends Third frames a done rate begins busy h
  cause_ends (Sdo [] id evidence) h = sdo_alone Third frames a done rate begins id evidence h.1 h.2
  cause_ends (Sdo (m ∷ rest) id evidence) h =
      sdo_below Third frames a done rate begins (members_rows_after sides.Up rate [] (m ∷ rest)) (m ∷ rest) id evidence (after_none sides.Up frames.up done rate a m rest begins h.0) h.1 h.2

-- the text of the third version reads as the refusals that it is written of
pub shared_is_read : (rs : List Refusal) → AreWritable rs → refusals_of (shared_text_of rs) ≡ Ok rs
unfolding refusals_of
shared_is_read rs h =
    rw (shared_text_read rs)
    (all_read Third IsWritableRefusal shared_refusal_rows (λ r fine a done begins. cause_ends a done r.rate begins r.cause fine) rs 2 (1 + length (flat_map shared_refusal_rows rs)) h.each h.rise)
