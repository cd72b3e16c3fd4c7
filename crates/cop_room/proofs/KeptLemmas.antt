-- Changes after which the same streams can be planned.
use Rattle.std.proofs.Common.{◌≡◌, ◌∙◌, ℕ, suc, ◌*◌, ◌<◌, ◌≤◌, ◌==◌, Bool, true, false, if◌then◌else◌, List, [], ◌∷◌, length, slice_get, get_or, Option, Some, None, option_map, ◌⊎◌, inl, inr, refl, sym, ap, subst, arith, ⊎_elim}
use Rattle.std.specs.Option.{ForSome, option_map_or, option_and_then}
use Rattle.std.proofs.lemmas.Bool.{eqb-true}
use Rattle.std.proofs.lemmas.Option.{slice_get_cases, slice_get-get_or}
use Rattle.cop_rta.specs.declared.streams.Stream.{Stream}
use Rattle.cop_rta.specs.Entries.{Entry, entry_of}
use Rattle.cop_rta.specs.Greatest.{AreSynced}
use Rattle.cop_rta.specs.Ranges.{first_range, second_range, IsOutside}
use Rattle.cop_rta.specs.Streams.{place_of_id}
use Rattle.cop_rta.specs.Test.{of_stream, sync_id}
use Rattle.cop_rta.proofs.IdentifierLemmas.{place_has_id}
use Rattle.cop_cert.specs.Assignments.{id_at}
use Rattle.cop_plan.specs.Plans.{CanAssign}
use Rattle.cop_room.specs.Anew.{CanStillAssign}
use Rattle.cop_room.specs.Changes.{AreChanged, at_row, with_period, with_jitter, with_bytes, with_deadline, stretched, with_deadlines}

same_places : (streams changed : List Stream) (id : ℕ) → length streams ≡ length changed → ((k : ℕ) (s t : Stream) → slice_get streams k ≡ Some s → slice_get changed k ≡ Some t → t.id ≡ s.id)
    → place_of_id changed id ≡ place_of_id streams id
same_places [] [] id size each = refl
same_places [] (t ∷ ts) id size each = absurd (omega (arith, size))
same_places (s ∷ ss) [] id size each = absurd (omega (arith, size))
same_places (s ∷ ss) (t ∷ ts) id size each =
    let first : t.id ≡ s.id = each 0 s t refl refl in
    let rest : place_of_id ts id ≡ place_of_id ss id = same_places ss ts id (omega (arith, size)) (λ k a b at there. each (suc k) a b at there) in
    ap (λ n. if n == id then Some 0 else option_map (λ k. suc k) (place_of_id ts id)) first ∙ ap (λ (o : Option ℕ). if s.id == id then Some 0 else option_map (λ k. suc k) o) rest

-- a change that keeps identifiers, what each synchronous stream follows, and its period and SYNC's, and leaves a deadline where one is
record Keeps (change : ℕ → Entry → Entry) (streams : List Stream) : Type 0 where
  id : (k : ℕ) (e : Entry) → (change k e).id ≡ e.id
  every : (k : ℕ) (e : Entry) → (change k e).every ≡ e.every
  dated : (k : ℕ) (e : Entry) → ForSome e.deadline (λ d. (x : ℕ) × ((change k e).deadline ≡ Some x))
  paced : (k : ℕ) (s : Stream) → slice_get streams k ≡ Some s → (1 ≤ s.every) ⊎ (s.id ≡ sync_id) → (change k (entry_of s)).period ≡ s.period

module _ (change : ℕ → Entry → Entry) (streams : List Stream) (keeps : Keeps change streams) (changed : List Stream) (is : AreChanged change streams changed) where
  field_kept : (f : Stream → ℕ) (k : ℕ) → ((s t : Stream) → slice_get streams k ≡ Some s → entry_of t ≡ change k (entry_of s) → f t ≡ f s) → of_stream f changed k ≡ of_stream f streams k
  field_kept f k same = ⊎_elim
      (λ o. ⊎_elim
      (λ p. ap (λ (x : Option Stream). option_map_or f x 0) p.2 ∙ same o.0 p.0 o.2 (is.each k o.0 p.0 o.2 p.2) ∙ sym (ap (λ (x : Option Stream). option_map_or f x 0) o.2))
      (λ past. absurd (let n = past.0 in omega (arith, n, o.1, is.as_many)))
      (slice_get_cases changed k).1)
      (λ past. ⊎_elim
      (λ p. absurd (let n = past.0 in omega (arith, n, p.1, is.as_many)))
      (λ gone. ap (λ (x : Option Stream). option_map_or f x 0) (gone.1 ∙ sym past.1))
      (slice_get_cases changed k).1)
      (slice_get_cases streams k).1

  id_kept : (k : ℕ) → id_at changed k ≡ id_at streams k
  id_kept k = field_kept (λ s. s.id) k (λ s t at e. ap (λ (x : Entry). x.id) e ∙ keeps.id k (entry_of s))

  sync_kept : place_of_id changed sync_id ≡ place_of_id streams sync_id
  sync_kept = same_places streams changed sync_id is.as_many (λ k s t at there. ap (λ (x : Entry). x.id) (is.each k s t at there) ∙ keeps.id k (entry_of s))

  sync_period : (i : ℕ) → place_of_id streams sync_id ≡ Some i → of_stream (λ s. s.period) changed i ≡ of_stream (λ s. s.period) streams i
  sync_period i at = field_kept (λ s. s.period) i (λ s t here e. ap (λ (x : Entry). x.period) e ∙ keeps.paced i s here (inr (its s here)))
    where
      its : (s : Stream) → slice_get streams i ≡ Some s → s.id ≡ sync_id
      its s here = sym (ap (λ (o : Option Stream). option_map_or (λ t. t.id) o 0) here) ∙ place_has_id streams sync_id i at

  deadline_kept : (k : ℕ) → k < length streams → (d : ℕ) × (option_and_then (λ (s : Stream). s.deadline) (slice_get streams k) ≡ Some d) → (d : ℕ) × (option_and_then (λ (s : Stream). s.deadline) (slice_get changed k) ≡ Some d)
  deadline_kept k lt dated = ⊎_elim
      (λ o. ⊎_elim
      (λ p.
      let its : o.0.deadline ≡ Some dated.0 = sym (ap (option_and_then (λ (s : Stream). s.deadline)) o.2) ∙ dated.1 in
      let new = keeps.dated k (entry_of o.0) dated.0 its in
      (new.0, ap (option_and_then (λ (s : Stream). s.deadline)) p.2 ∙ ap (λ (x : Entry). x.deadline) (is.each k o.0 p.0 o.2 p.2) ∙ new.1))
      (λ past. absurd (let n = past.0 in omega (arith, n, lt, is.as_many)))
      (slice_get_cases changed k).1)
      (λ past. absurd (let n = past.0 in omega (arith, n, lt)))
      (slice_get_cases streams k).1

  synced_kept : AreSynced streams → AreSynced changed
  synced_kept synced = record { each = λ k d lt some. go k d lt some (slice_get_cases streams k).1 }
    where
      go : (k : ℕ) (d : Stream) → k < length changed → 1 ≤ (get_or changed k d).every → ((s : Stream) × (k < length streams) × (slice_get streams k ≡ Some s) × (get_or streams k s ≡ s)) ⊎ ((length streams ≤ k) × (slice_get streams k ≡ None))
          → (i : ℕ) × (place_of_id changed sync_id ≡ Some i) × ((get_or changed k d).period ≡ (get_or changed k d).every * of_stream (λ t. t.period) changed i)
      go k d lt some (inr past) = absurd (let n = past.0 in omega (arith, n, lt, is.as_many))
      go k d lt some (inl o) =
          let t = get_or changed k d in
          let e : entry_of t ≡ change k (entry_of o.0) = is.each k o.0 t o.2 (slice_get-get_or changed k d lt) in
          let every : t.every ≡ o.0.every = ap (λ (x : Entry). x.every) e ∙ keeps.every k (entry_of o.0) in
          let follows : 1 ≤ o.0.every = omega (arith, some, every) in
          let its : 1 ≤ (get_or streams k o.0).every = subst (λ (s : Stream). 1 ≤ s.every) (sym o.3) follows in
          let pace = synced.each k o.0 o.1 its in
          let one : o.0.period ≡ o.0.every * of_stream (λ t. t.period) streams pace.0 = subst (λ (s : Stream). s.period ≡ s.every * of_stream (λ t. t.period) streams pace.0) o.3 pace.2 in (
            pace.0,
            sync_kept ∙ pace.1,
            ap (λ (x : Entry). x.period) e ∙ keeps.paced k o.0 o.2 (inl follows) ∙ one ∙ ap (λ n. n * of_stream (λ t. t.period) streams pace.0) (sym every) ∙ ap (λ n. t.every * n) (sym (sync_period pace.0 pace.1)),
          )

  still_assign : (pdos : ℕ) → CanAssign streams pdos → CanAssign changed pdos
  still_assign pdos can = record {
    count = omega (arith, can.count, is.as_many);
    few = can.few;
    deadlines = λ p low. deadline_kept p (omega (arith, low, can.count)) (can.deadlines p low);
    provisional = λ p low. omega (arith, can.provisional p low, id_kept p);
    outside_first = λ k fixed inside. subst (IsOutside first_range) (sym (id_kept k)) (can.outside_first k fixed (omega (arith, inside, is.as_many)));
    outside_second = λ k fixed inside. subst (IsOutside second_range) (sym (id_kept k)) (can.outside_second k fixed (omega (arith, inside, is.as_many)));
    synced = synced_kept can.synced;
  }

-- ---- all deadlines

all_keep : (part : ℕ) (streams : List Stream) → Keeps (with_deadlines part) streams
all_keep part streams = record {
  id = λ k e. refl;
  every = λ k e. refl;
  dated = λ k e d is. (stretched part d, ap (option_map (stretched part)) is);
  paced = λ k s here some. refl;
}

pub can_assign_longer : (part : ℕ) (streams longer : List Stream) → AreChanged (with_deadlines part) streams longer → (pdos : ℕ) → CanAssign streams pdos → CanAssign longer pdos
can_assign_longer part streams longer is pdos can = still_assign (with_deadlines part) streams (all_keep part streams) longer is pdos can

-- ---- a number of a row

row_keeps : {A : Type 0} (f : Entry → A) (change : Entry → Entry) (row k : ℕ) (e : Entry) → f (change e) ≡ f e → f (at_row row change k e) ≡ f e
row_keeps f change row k e same = go (k == row)
  where
    go : (b : Bool) → f (if b then change e else e) ≡ f e
    go true = same
    go false = refl

-- what leaves identifiers, paces, periods and deadlines of a row
one_keeps : (change : Entry → Entry) (row : ℕ) (streams : List Stream) → ((e : Entry) → (change e).id ≡ e.id) → ((e : Entry) → (change e).every ≡ e.every) → ((e : Entry) → (change e).deadline ≡ e.deadline)
    → ((e : Entry) → (change e).period ≡ e.period) → Keeps (at_row row change) streams
one_keeps change row streams id every deadline period = record {
  id = λ k e. row_keeps (λ x. x.id) change row k e (id e);
  every = λ k e. row_keeps (λ x. x.every) change row k e (every e);
  dated = λ k e d is. (d, row_keeps (λ x. x.deadline) change row k e (deadline e) ∙ is);
  paced = λ k s here some. row_keeps (λ x. x.period) change row k (entry_of s) (period (entry_of s));
}

dated_row : (x row k : ℕ) (e : Entry) → ForSome e.deadline (λ d. (y : ℕ) × ((at_row row (with_deadline x) k e).deadline ≡ Some y))
dated_row x row k e d is = go (k == row)
  where
    go : (b : Bool) → (y : ℕ) × ((if b then with_deadline x e else e).deadline ≡ Some y)
    go true = (x, refl)
    go false = (d, is)

deadline_keeps : (x row : ℕ) (streams : List Stream) → Keeps (at_row row (with_deadline x)) streams
deadline_keeps x row streams = record {
  id = λ k e. row_keeps (λ y. y.id) (with_deadline x) row k e refl;
  every = λ k e. row_keeps (λ y. y.every) (with_deadline x) row k e refl;
  dated = dated_row x row;
  paced = λ k s here some. row_keeps (λ y. y.period) (with_deadline x) row k (entry_of s) refl;
}

-- a row that is neither synchronous nor SYNC's may have another period
module _ (x row : ℕ) (streams : List Stream) (alone : of_stream (λ s. s.every) streams row ≡ 0) (high : first_range.least ≤ of_stream (λ s. s.id) streams row) where
  not_paced : (k : ℕ) (s : Stream) → slice_get streams k ≡ Some s → k ≡ row → (1 ≤ s.every) ⊎ (s.id ≡ sync_id) → ⊥
  not_paced k s here same (inl follows) =
      let its : of_stream (λ t. t.every) streams k ≡ s.every = ap (λ (o : Option Stream). option_map_or (λ t. t.every) o 0) here in
      let none : of_stream (λ t. t.every) streams k ≡ 0 = ap (of_stream (λ t. t.every) streams) same ∙ alone in
      omega (arith, its, none, follows)
  not_paced k s here same (inr sync) =
      let its : of_stream (λ t. t.id) streams k ≡ s.id = ap (λ (o : Option Stream). option_map_or (λ t. t.id) o 0) here in
      let row_is : of_stream (λ t. t.id) streams k ≡ of_stream (λ t. t.id) streams row = ap (of_stream (λ t. t.id) streams) same in
      omega (arith, its, row_is, high, sync)

  paced_row : (k : ℕ) (s : Stream) → slice_get streams k ≡ Some s → (1 ≤ s.every) ⊎ (s.id ≡ sync_id) → (at_row row (with_period x) k (entry_of s)).period ≡ s.period
  paced_row k s here some = go (k == row) (λ e. eqb-true k row e)
    where
      go : (b : Bool) → (b ≡ true → k ≡ row) → (if b then with_period x (entry_of s) else entry_of s).period ≡ s.period
      go true e = absurd (not_paced k s here (e refl) some)
      go false e = refl

  period_keeps : Keeps (at_row row (with_period x)) streams
  period_keeps = record {
    id = λ k e. row_keeps (λ y. y.id) (with_period x) row k e refl;
    every = λ k e. row_keeps (λ y. y.every) (with_period x) row k e refl;
    dated = λ k e d is. (d, row_keeps (λ y. y.deadline) (with_period x) row k e refl ∙ is);
    paced = paced_row;
  }

module _ (streams : List Stream) (pdos : ℕ) (can : CanAssign streams pdos) (row x : ℕ) where
  pub period_assigns : row < pdos → of_stream (λ s. s.every) streams row ≡ 0 → CanStillAssign (at_row row (with_period x)) streams pdos
  period_assigns low alone changed is = still_assign (at_row row (with_period x)) streams (period_keeps x row streams alone (can.provisional row low)) changed is pdos can

  pub jitter_assigns : CanStillAssign (at_row row (with_jitter x)) streams pdos
  jitter_assigns changed is =
      still_assign (at_row row (with_jitter x)) streams (one_keeps (with_jitter x) row streams (λ e. refl) (λ e. refl) (λ e. refl) (λ e. refl)) changed is pdos can

  pub bytes_assign : CanStillAssign (at_row row (with_bytes x)) streams pdos
  bytes_assign changed is =
      still_assign (at_row row (with_bytes x)) streams (one_keeps (with_bytes x) row streams (λ e. refl) (λ e. refl) (λ e. refl) (λ e. refl)) changed is pdos can

  pub deadline_assigns : CanStillAssign (at_row row (with_deadline x)) streams pdos
  deadline_assigns changed is = still_assign (at_row row (with_deadline x)) streams (deadline_keeps x row streams) changed is pdos can
