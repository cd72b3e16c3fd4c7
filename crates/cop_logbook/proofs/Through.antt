-- The log of a run in which transfers are disturbed is one of the run of the whole set.
use Rattle.std.proofs.Common.{◌≡◌, ◌≢◌, ◌∙◌, ℕ, zero, suc, ◌+◌, ◌*◌, ◌≤◌, ◌<◌, ◌==◌, inl, inr, if◌then◌else◌, Bool, true, false, List, [], ◌∷◌, ◌++◌, map, length, refl, sym, ap, subst, arith, Option, Some, None}
use Rattle.std.specs.Prelude.{Any, All}
use Rattle.std.proofs.lemmas.Bool.{eq-eqb, ne_eqb, cases_eq}
use Rattle.std.proofs.lemmas.List.{length-map}
use Rattle.std.proofs.lemmas.List.Elements.{All-contains}
use Rattle.cop_rta.specs.declared.streams.Stream.{Stream}
use Rattle.cop_rta.specs.UpLemmas.{up_id, up_id-zero, up_id-other}
use Rattle.cop_bus.specs.Run.{Instance}
use Rattle.cop_errors.specs.Errors.{Disturbance}
use Rattle.cop_errors.specs.Extended.{up_instance, hit_instance, hit_instances, extended_by, AreAsRare}
use Rattle.cop_errors.proofs.Lists.{any_of, of_any, Contains-left, Contains-right, Contains-mapped}
use Rattle.cop_errors.proofs.Up.{hit_in}
use Rattle.cop_lines.specs.declared.entries.Entry.{Entry}
use Rattle.cop_log.specs.declared.clocks.Clock.{Clock}
use Rattle.cop_log.specs.Log.{IsOf, HasLog, entry_at, stamp, most, least, slack}
use Rattle.cop_logbook.specs.ErrorFrames.{is_error, tested_id, tested_frame, tested_error, tested_entry, EndsAt, HasLogThrough}

-- an identifier of a stream of the bus
same_id : (id : ℕ) → id ≢ 1 → up_id id ≡ tested_id id
unfolding tested_id
same_id id other = elim (cases_eq id 0) [
  | inl z ↦ up_id-zero id z ∙ sym (ap (λ b. if b then 1 else if id == 1 then 2048 else id) (eq-eqb id 0 z))
  | inr n ↦ up_id-other id (omega (arith, n)) ∙ sym (ap (λ b. if b then 1 else if id == 1 then 2048 else id) (ne_eqb id 0 n) ∙ ap (λ b. if b then 2048 else id) (ne_eqb id 1 other))
]

-- an entry's place and stamp
entry_same : (f : Entry → Entry) (log : List Entry) (i : ℕ) → i < length log → entry_at (map f log) i ≡ f (entry_at log i)
entry_same f [] i l = absurd (omega arith)
entry_same f (x ∷ log) zero l = refl
entry_same f (x ∷ log) (suc i) l = entry_same f log i (omega arith)

at_same : (errors : Option Stream) (e : Entry) → (tested_entry errors e).at ≡ e.at
at_same None e = refl
at_same (Some s) e = go (is_error e.id)
  where
    go : (b : Bool) → (if b then tested_error e else tested_frame e).at ≡ e.at
    go true = refl
    go false = refl

stamp_same : (errors : Option Stream) (log : List Entry) (i : ℕ) → stamp (map (tested_entry errors) log) i ≡ stamp log i
stamp_same errors [] i = refl
stamp_same errors (x ∷ log) zero = at_same errors x
stamp_same errors (x ∷ log) (suc i) = stamp_same errors log i

module _ (tau end : ℕ) (e : Entry) (run : List Instance) (hits : List Disturbance) (events : List ℕ) where
  -- a transfer
  in_run : (s : Stream) → All (λ y. y.id ≢ 1) run → Any (IsOf tau e end) run → Any (IsOf tau (tested_frame e) end) (extended_by (Some s) run hits events)
  in_run s free any =
      let found = of_any (IsOf tau e end) run any in
      let y = found.0 in
      let other : y.id ≢ 1 = All-contains (λ y. y.id ≢ 1) run y free found.1 in
      any_of (IsOf tau (tested_frame e) end) (map up_instance run ++ hit_instances hits events) (up_instance y)
      (Contains-left (map up_instance run) (hit_instances hits events) (up_instance y) (Contains-mapped up_instance run y found.1))
      (record { same_id = same_id y.id other ∙ ap tested_id found.2.same_id; same_bytes = found.2.same_bytes; ended = found.2.ended })

  -- a disturbed transfer
  in_hits : (s : Stream) → Any (EndsAt tau end) hits → Any (IsOf tau (tested_error e) end) (extended_by (Some s) run hits events)
  in_hits s any =
      let found = of_any (EndsAt tau end) hits any in
      let h = found.0 in
      let its = hit_in hits events h found.1 in
      any_of (IsOf tau (tested_error e) end) (map up_instance run ++ hit_instances hits events) (hit_instance h its.0)
      (Contains-right (map up_instance run) (hit_instances hits events) (hit_instance h its.0) its.1)
      (record { same_id = refl; same_bytes = refl; ended = (h.start, refl, found.2) })

  none_ends : hits ≡ [] → Any (EndsAt tau end) hits → ⊥
  none_ends none any =
      let found = of_any (EndsAt tau end) [] (subst (λ (hs : List Disturbance). Any (EndsAt tau end) hs) none any) in
      let l = found.1.1 in
      omega (arith, l)

  pub seen_in : (errors : Option Stream) → AreAsRare errors events hits → ((s : Stream) → errors ≡ Some s → All (λ y. y.id ≢ 1) run)
      → (is_error e.id ≡ false → Any (IsOf tau e end) run) → (is_error e.id ≡ true → Any (EndsAt tau end) hits)
      → Any (IsOf tau (tested_entry errors e) end) (extended_by errors run hits events)
  seen_in None rare free frame error = go (is_error e.id) refl
    where
      go : (b : Bool) → is_error e.id ≡ b → Any (IsOf tau e end) run
      go true q = absurd (none_ends rare (error q))
      go false q = frame q
  seen_in (Some s) rare free frame error = go (is_error e.id) refl
    where
      go : (b : Bool) → is_error e.id ≡ b → Any (IsOf tau (if b then tested_error e else tested_frame e) end) (extended_by (Some s) run hits events)
      go true q = in_hits s (error q)
      go false q = in_run s (free s refl) (frame q)

pub has_log : (errors : Option Stream) (tau : ℕ) (clock : Clock) (until : ℕ) (run : List Instance) (hits : List Disturbance) (events : List ℕ) (log : List Entry)
    → AreAsRare errors events hits → ((s : Stream) → errors ≡ Some s → All (λ y. y.id ≢ 1) run) → HasLogThrough tau clock until run hits log
    → HasLog tau clock until (extended_by errors run hits events) (map (tested_entry errors) log)
has_log errors tau clock until run hits events log rare free h = record {
  end = h.end;
  seen = λ i l.
      subst (λ e. Any (IsOf tau e (h.end i)) (extended_by errors run hits events)) (sym (entry_same (tested_entry errors) log i (inside i l)))
      (seen_in tau (h.end i) (entry_at log i) run hits events errors rare free (h.seen i (inside i l)) (h.disturbed i (inside i l)));
  by_end = λ i l. h.by_end i (inside i l);
  in_order = λ i j l m. h.in_order i j l (inside j m);
  not_slow = λ i j l m.
      subst (λ a. 1000000 * h.end j + most clock a ≤ 1000000 * h.end i + most clock (stamp (map (tested_entry errors) log) j) + slack clock) (sym (stamp_same errors log i))
      (subst (λ a. 1000000 * h.end j + most clock (stamp log i) ≤ 1000000 * h.end i + most clock a + slack clock) (sym (stamp_same errors log j)) (h.not_slow i j l (inside j m)));
  not_fast = λ i j l m.
      subst (λ a. 1000000 * h.end i + least clock (stamp (map (tested_entry errors) log) j) ≤ 1000000 * h.end j + least clock a + slack clock) (sym (stamp_same errors log i))
      (subst (λ a. 1000000 * h.end i + least clock a ≤ 1000000 * h.end j + least clock (stamp log i) + slack clock) (sym (stamp_same errors log j)) (h.not_fast i j l (inside j m)));
}
  where
    inside : (i : ℕ) → i < length (map (tested_entry errors) log) → i < length log
    inside i l = let n = length-map log (tested_entry errors) in omega (arith, n, l)
