-- What passes with deadlines lowered passes with them as they are.
use Rattle.std.proofs.Common.{◌≡◌, ℕ, zero, suc, add-one, ◌+◌, ◌-◌, ◌*◌, ◌<◌, ◌≤◌, ◌⊎◌, inl, inr, Bool, nat_lt, List, [], ◌∷◌, ◌++◌, length, map, take, get_or, slice_get, Option, Some, None, option_map, refl, sym, ap, ◌∙◌, subst, arith}
use Rattle.std.specs.Option.{option_map_or, option_and_then, ForSome}
use Rattle.std.proofs.lemmas.Bool.{cases_lt}
use Rattle.std.proofs.lemmas.List.{get_or-map, map-append}
use Rattle.std.proofs.lemmas.Option.{slice_get-map, slice_get-get_or}
use Rattle.cop_frame.specs.declared.rates.Rate.{Rate}
use Rattle.cop_rta.specs.declared.ranges.IdRange.{IdRange}
use Rattle.cop_rta.specs.declared.streams.Stream.{Stream}
use Rattle.cop_rta.specs.Entries.{Entry, entry_of}
use Rattle.cop_rta.specs.Greatest.{AreSynced}
use Rattle.cop_rta.specs.Ranges.{first_range, second_range, IsOutside}
use Rattle.cop_rta.specs.Streams.{place_of_id}
use Rattle.cop_rta.specs.Test.{Passes, of_stream, place_among, ahead_of, sync_id}
use Rattle.cop_rta.proofs.StreamLemmas.{streams_same}
use Rattle.cop_cert.specs.Assignments.{IsSdo, IsTested, IsPassing, NoAssignmentPasses, AreOutside, id_under, place_under}
use Rattle.cop_plan.specs.Caps.{deadline_of}
use Rattle.cop_plan.specs.Margins.{lower, lowered_entries, AreLoweredBy}
use Rattle.cop_plan.specs.Plans.{CanAssign}
use Rattle.cop_plan.specs.Values.{HaveDeadlines, ArePdosHigh}
use Rattle.cop_plan.proofs.RenameLemmas.{id_of_pdo, id_of_fixed}
use Rattle.cop_plan.proofs.SameAsking.{Asking, asking_of, place_at, same_length, same_number, passes_same}
use Rattle.cop_plan.proofs.SameSync.{AreAlike, ahead_same, one_sync}

abbrev asked_by : Entry → Asking
asked_by e = record { bytes = e.bytes; period = e.period; jitter = e.jitter; every = e.every }

asked_of : (streams : List Stream) → map asked_by (map entry_of streams) ≡ map asking_of streams
asked_of [] = refl
asked_of (s ∷ ss) = ap (λ (asks : List Asking). asking_of s ∷ asks) (asked_of ss)

asked_lowered : (amount : ℕ → ℕ) (streams : List Stream) → map asked_by (lowered_entries amount streams) ≡ map asking_of streams
asked_lowered amount [] = refl
asked_lowered amount (s ∷ ss) = ap (λ (asks : List Asking). asking_of s ∷ asks) (asked_lowered (λ k. amount (suc k)) ss)

entries_at : (amount : ℕ → ℕ) (streams : List Stream) (k : ℕ) → slice_get (lowered_entries amount streams) k ≡ option_map (λ s. lower (amount k) (entry_of s)) (slice_get streams k)
entries_at amount [] k = refl
entries_at amount (s ∷ ss) zero = refl
entries_at amount (s ∷ ss) (suc k) = entries_at (λ j. amount (suc j)) ss k

-- ---- one lowering

id_in : (o : Option Stream) → option_map_or (λ (s : Stream). s.id) o 0 ≡ option_map_or (λ (e : Entry). e.id) (option_map entry_of o) 0
id_in None = refl
id_in (Some s) = refl

id_lowered : (margin : ℕ) (o : Option Stream) → option_map_or (λ (s : Stream). s.id) o 0 ≡ option_map_or (λ (e : Entry). e.id) (option_map (λ s. lower margin (entry_of s)) o) 0
id_lowered margin None = refl
id_lowered margin (Some s) = refl

deadline_in : (o : Option Stream) → option_and_then (λ (s : Stream). s.deadline) o ≡ option_and_then (λ (e : Entry). e.deadline) (option_map entry_of o)
deadline_in None = refl
deadline_in (Some s) = refl

deadline_less : (margin : ℕ) (o : Option Stream) → option_map (λ d. d - margin) (option_and_then (λ (s : Stream). s.deadline) o) ≡ option_and_then (λ (e : Entry). e.deadline) (option_map (λ s. lower margin (entry_of s)) o)
deadline_less margin None = refl
deadline_less margin (Some s) = refl

in_time : (margin r : ℕ) (o : Option ℕ) → ForSome (option_map (λ d. d - margin) o) (λ d. r ≤ d) → ForSome o (λ d. r ≤ d)
in_time margin r o h d there = omega (arith, h (d - margin) (ap (option_map (λ d. d - margin)) there))

dated_after : (margin : ℕ) (o : Option ℕ) → (d : ℕ) × (o ≡ Some d) → (d : ℕ) × (option_map (λ d. d - margin) o ≡ Some d)
dated_after margin o h = (h.0 - margin, ap (option_map (λ d. d - margin)) h.1)

dated_before : (margin : ℕ) (o : Option ℕ) → (d : ℕ) × (option_map (λ d. d - margin) o ≡ Some d) → (d : ℕ) × (o ≡ Some d)
dated_before margin None h = absurd (cc)
dated_before margin (Some d) h = (d, refl)

module _ (amount : ℕ → ℕ) (streams lowered : List Stream) (is : AreLoweredBy amount streams lowered) where
  pub entry_at : (k : ℕ) → option_map entry_of (slice_get lowered k) ≡ option_map (λ s. lower (amount k) (entry_of s)) (slice_get streams k)
  entry_at k = sym (slice_get-map entry_of lowered k) ∙ ap (λ (es : List Entry). slice_get es k) is ∙ entries_at amount streams k

  pub lowered_entry : (k : ℕ) (d : Stream) → k < length lowered → k < length streams → entry_of (get_or lowered k d) ≡ lower (amount k) (entry_of (get_or streams k d))
  lowered_entry k d low inside = some_entry (ap (option_map entry_of) (sym (slice_get-get_or lowered k d low)) ∙ entry_at k ∙ ap (option_map (λ s. lower (amount k) (entry_of s))) (slice_get-get_or streams k d inside))
    where
      some_entry : {a b : Entry} → Some a ≡ Some b → a ≡ b
      some_entry e = cc

  pub askings_lowered : map asking_of lowered ≡ map asking_of streams
  askings_lowered = sym (asked_of lowered) ∙ ap (λ (es : List Entry). map asked_by es) is ∙ asked_lowered amount streams

  pub lowered_length : length lowered ≡ length streams
  lowered_length = same_length lowered streams askings_lowered

  pub same_id : (k : ℕ) → of_stream (λ s. s.id) lowered k ≡ of_stream (λ s. s.id) streams k
  same_id k = id_in (slice_get lowered k) ∙ ap (λ (o : Option Entry). option_map_or (λ (e : Entry). e.id) o 0) (entry_at k) ∙ sym (id_lowered (amount k) (slice_get streams k))

  pub lowered_deadline : (k : ℕ) → option_and_then (λ (s : Stream). s.deadline) (slice_get lowered k) ≡ option_map (λ d. d - amount k) (option_and_then (λ (s : Stream). s.deadline) (slice_get streams k))
  lowered_deadline k = deadline_in (slice_get lowered k) ∙ ap (λ (o : Option Entry). option_and_then (λ (e : Entry). e.deadline) o) (entry_at k) ∙ sym (deadline_less (amount k) (slice_get streams k))

  pub alike : AreAlike lowered streams
  alike k inside = inl (same_id k)

  module _ (rate : Rate) where
    pub passes_before : (above : ℕ → Bool) (index : ℕ) → Passes (place_among lowered above index rate) → Passes (place_among streams above index rate)
    passes_before above index passes =
        subst (λ (ahead : ℕ). Passes (place_at streams above index rate ahead)) (ahead_same lowered streams askings_lowered alike rate)
        (passes_same lowered streams askings_lowered above index rate (ahead_of lowered rate)
        (λ r h. in_time (amount index) r (option_and_then (λ (s : Stream). s.deadline) (slice_get streams index)) (subst (λ (o : Option ℕ). ForSome o (λ d. r ≤ d)) (lowered_deadline index) h)) passes)

    module _ (pdos : ℕ) where
      pub under_lowered : (ids : ℕ → ℕ) → id_under lowered pdos ids ≡ id_under streams pdos ids
      under_lowered ids = λ i k. go k (cases_lt k pdos) i
        where
          go : (k : ℕ) → (k < pdos) ⊎ (pdos ≤ k) → id_under lowered pdos ids k ≡ id_under streams pdos ids k
          go k (inl h) = id_of_pdo lowered pdos ids k h ∙ sym (id_of_pdo streams pdos ids k h)
          go k (inr h) = id_of_fixed lowered pdos ids k h ∙ same_id k ∙ sym (id_of_fixed streams pdos ids k h)

      place_before : (ids : ℕ → ℕ) (k : ℕ) → Passes (place_under rate lowered pdos ids k) → Passes (place_under rate streams pdos ids k)
      place_before ids k passes =
          subst (λ (under : ℕ → ℕ). Passes (place_among streams (λ j. nat_lt (under j) (under k)) k rate)) (under_lowered ids)
          (passes_before (λ j. nat_lt (id_under lowered pdos ids j) (id_under lowered pdos ids k)) k passes)

      pub tested_after : (f : ℕ) → IsTested streams pdos f → IsTested lowered pdos f
      tested_after f t = record {
        fixed = t.fixed;
        inside = omega (arith, t.inside, lowered_length);
        sdo = subst (λ (id : ℕ). IsSdo id) (sym (same_id f)) t.sdo;
        deadline = let d = dated_after (amount f) (option_and_then (λ (s : Stream). s.deadline) (slice_get streams f)) t.deadline in (d.0, lowered_deadline f ∙ d.1);
      }

      pub tested_before : (f : ℕ) → IsTested lowered pdos f → IsTested streams pdos f
      tested_before f t = record {
        fixed = t.fixed;
        inside = omega (arith, t.inside, lowered_length);
        sdo = subst (λ (id : ℕ). IsSdo id) (same_id f) t.sdo;
        deadline = dated_before (amount f) (option_and_then (λ (s : Stream). s.deadline) (slice_get streams f)) (t.deadline.0, sym (lowered_deadline f) ∙ t.deadline.1);
      }

      pub passing_before : (ids : ℕ → ℕ) → IsPassing rate lowered pdos ids → IsPassing rate streams pdos ids
      passing_before ids passing = (
        passing.0,
        record {
          each = λ p h. place_before ids p (passing.1.each p h);
          frames = λ f t. place_before ids f (passing.1.frames f (tested_after f t));
        },
      )

      pub none_after : NoAssignmentPasses rate streams pdos → NoAssignmentPasses rate lowered pdos
      none_after none ids passing = none ids (passing_before ids passing)

  outside_lowered : (range : IdRange) (pdos : ℕ) → AreOutside range streams pdos → AreOutside range lowered pdos
  outside_lowered range pdos outside k fixed h = subst (λ (id : ℕ). IsOutside range id) (sym (same_id k)) (outside k fixed (omega (arith, h, lowered_length)))

  asking_at : (k : ℕ) (d : Stream) → k < length lowered → asking_of (get_or lowered k d) ≡ asking_of (get_or streams k d)
  asking_at k d h =
      sym (get_or-map asking_of lowered k d (asking_of d) h)
      ∙ ap (λ (asks : List Asking). get_or asks k (asking_of d)) askings_lowered
      ∙ get_or-map asking_of streams k d (asking_of d) (omega (arith, h, lowered_length))

  pub synced_lowered : AreSynced streams → AreSynced lowered
  synced_lowered synced = record { each = λ k d h every. each k d h every }
    where
      each : (k : ℕ) (d : Stream) → k < length lowered → 1 ≤ (get_or lowered k d).every
          → (i : ℕ) × (place_of_id lowered sync_id ≡ Some i) × ((get_or lowered k d).period ≡ (get_or lowered k d).every * of_stream (λ t. t.period) lowered i)
      each k d h every =
          let same : (get_or lowered k d).every ≡ (get_or streams k d).every = ap (λ (a : Asking). a.every) (asking_at k d h) in
          let period : (get_or lowered k d).period ≡ (get_or streams k d).period = ap (λ (a : Asking). a.period) (asking_at k d h) in
          let found = synced.each k d (omega (arith, h, lowered_length)) (omega (arith, every, same)) in
          let sync : of_stream (λ t. t.period) streams found.0 ≡ of_stream (λ t. t.period) lowered found.0 = sym (same_number lowered streams askings_lowered (λ (a : Asking). a.period) found.0) in (
            found.0,
            one_sync lowered streams askings_lowered alike ∙ found.1,
            period ∙ found.2 ∙ ap (λ (n : ℕ). n * of_stream (λ t. t.period) streams found.0) (sym same) ∙ ap (λ (n : ℕ). (get_or lowered k d).every * n) sync,
          )

  pub deadlines_lowered : (pdos : ℕ) → HaveDeadlines streams pdos → HaveDeadlines lowered pdos
  deadlines_lowered pdos deadlines p h = let d = dated_after (amount p) (option_and_then (λ (s : Stream). s.deadline) (slice_get streams p)) (deadlines p h) in (d.0, lowered_deadline p ∙ d.1)

  pub high_lowered : (pdos : ℕ) → ArePdosHigh streams pdos → ArePdosHigh lowered pdos
  high_lowered pdos high p h = omega (arith, high p h, same_id p)

  pub can_lowered : (pdos : ℕ) → CanAssign streams pdos → CanAssign lowered pdos
  can_lowered pdos can = record {
    count = omega (arith, can.count, lowered_length);
    few = can.few;
    deadlines = deadlines_lowered pdos can.deadlines;
    provisional = high_lowered pdos can.provisional;
    outside_first = outside_lowered first_range pdos can.outside_first;
    outside_second = outside_lowered second_range pdos can.outside_second;
    synced = synced_lowered can.synced;
  }

-- ---- two lowerings

pub lowered_once : (amount : ℕ → ℕ) (streams one other : List Stream) → AreLoweredBy amount streams one → AreLoweredBy amount streams other → one ≡ other
lowered_once amount streams one other x y = streams_same one other (x ∙ sym y)

same_deadline : (a b : ℕ) (o : Option ℕ) → ((d : ℕ) → o ≡ Some d → a ≡ b) → option_map (λ d. d - a) o ≡ option_map (λ d. d - b) o
same_deadline a b None same = refl
same_deadline a b (Some d) same = ap (λ (n : ℕ). Some (d - n)) (same d refl)

with_deadline : Stream → Option ℕ → Entry
with_deadline s o = record { id = s.id; bytes = s.bytes; period = s.period; jitter = s.jitter; deadline = o; every = s.every }

-- amounts that are the same where there is a deadline
pub lowered_alike : (a b : ℕ → ℕ) (streams : List Stream) → ((k d : ℕ) → deadline_of streams k ≡ Some d → a k ≡ b k) → lowered_entries a streams ≡ lowered_entries b streams
unfolding with_deadline
lowered_alike a b [] same = refl
lowered_alike a b (s ∷ ss) same =
    let head : lower (a 0) (entry_of s) ≡ lower (b 0) (entry_of s) = ap (with_deadline s) (same_deadline (a 0) (b 0) s.deadline (λ d e. same 0 d e)) in
    rw (head, lowered_alike (λ k. a (suc k)) (λ k. b (suc k)) ss (λ k d e. same (suc k) d e)) refl

-- the same of entries
lowered_of : (ℕ → ℕ) → List Entry → List Entry
lowered_of amount [] = []
lowered_of amount (e ∷ es) = lower (amount 0) e ∷ lowered_of (λ k. amount (suc k)) es

of_entries : (amount : ℕ → ℕ) (streams : List Stream) → lowered_of amount (map entry_of streams) ≡ lowered_entries amount streams
unfolding lowered_of
of_entries amount [] = refl
of_entries amount (s ∷ ss) = ap (λ (es : List Entry). lower (amount 0) (entry_of s) ∷ es) (of_entries (λ k. amount (suc k)) ss)

lower_again : (less more : ℕ) (o : Option ℕ) → ((d : ℕ) → o ≡ Some d → less ≤ more) → option_map (λ d. d - (more - less)) (option_map (λ d. d - less) o) ≡ option_map (λ d. d - more) o
lower_again less more None le = refl
lower_again less more (Some d) le = let most = le d refl in ap (λ (n : ℕ). Some n) (omega (arith, most))

again : (less more : ℕ → ℕ) (streams : List Stream) → ((k d : ℕ) → deadline_of streams k ≡ Some d → less k ≤ more k) → lowered_of (λ k. more k - less k) (lowered_entries less streams) ≡ lowered_entries more streams
unfolding lowered_of with_deadline
again less more [] le = refl
again less more (s ∷ ss) le =
    let head : lower (more 0 - less 0) (lower (less 0) (entry_of s)) ≡ lower (more 0) (entry_of s) = ap (with_deadline s) (lower_again (less 0) (more 0) s.deadline (λ d e. le 0 d e)) in
    rw (head, again (λ k. less (suc k)) (λ k. more (suc k)) ss (λ k d e. le (suc k) d e)) refl

-- of two lowerings the greater is one of the other
pub lowered_further : (less more : ℕ → ℕ) (streams one other : List Stream) → ((k d : ℕ) → deadline_of streams k ≡ Some d → less k ≤ more k)
    → AreLoweredBy less streams one → AreLoweredBy more streams other → AreLoweredBy (λ k. more k - less k) one other
lowered_further less more streams one other le x y =
    y ∙ sym (again less more streams le) ∙ sym (ap (λ (es : List Entry). lowered_of (λ k. more k - less k) es) x) ∙ of_entries (λ k. more k - less k) one

kept_deadline : (o : Option ℕ) → option_map (λ d. d - 0) o ≡ o
kept_deadline None = refl
kept_deadline (Some d) = ap (λ (n : ℕ). Some n) (omega arith)

pub lowered_by_none : (streams : List Stream) → AreLoweredBy (λ _. 0) streams streams
unfolding with_deadline
lowered_by_none [] = refl
lowered_by_none (s ∷ ss) =
    let head : entry_of s ≡ lower 0 (entry_of s) = sym (ap (with_deadline s) (kept_deadline s.deadline)) in
    rw (← head, ← lowered_by_none ss) refl

-- ---- one stream more

entries_more : (amount : ℕ → ℕ) (streams : List Stream) (i : ℕ) (d : Stream) → i < length streams → lowered_entries amount (take (suc i) streams) ≡ lowered_entries amount (take i streams) ++ lower (amount i) (entry_of (get_or streams i d)) ∷ []
entries_more amount [] i d low = absurd (omega arith)
entries_more amount (s ∷ ss) zero d low = refl
entries_more amount (s ∷ ss) (suc i) d low = ap (λ (es : List Entry). lower (amount 0) (entry_of s) ∷ es) (entries_more (λ k. amount (suc k)) ss i d (omega arith))

pub lowered_next : (amount : ℕ → ℕ) (streams lowered : List Stream) (i : ℕ) (d next : Stream) → i < length streams → AreLoweredBy amount (take i streams) lowered
    → entry_of next ≡ lower (amount i) (entry_of (get_or streams i d)) → AreLoweredBy amount (take (i + 1) streams) (lowered ++ next ∷ [])
lowered_next amount streams lowered i d next low is its =
    map-append entry_of lowered (next ∷ []) ∙ ap (λ (es : List Entry). es ++ entry_of next ∷ []) is ∙ ap (λ (e : Entry). lowered_entries amount (take i streams) ++ e ∷ []) its
    ∙ sym (ap (λ (n : ℕ). lowered_entries amount (take n streams)) (add-one i) ∙ entries_more amount streams i d low)
