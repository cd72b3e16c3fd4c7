-- How far a number rises, by how far what is left to the most falls; and the streams with one more before them.
use Rattle.std.proofs.Common.{◌≡◌, ◌∙◌, ℕ, zero, suc, ◌+◌, ◌-◌, ◌*◌, ◌<◌, ◌≤◌, ◌==◌, false, List, [], ◌∷◌, ◌++◌, length, take, get_or, slice_get, Option, Some, None, MatchOption, refl, sym, ap, subst, arith, zero-le, ⊎_elim}
use Rattle.std.proofs.lemmas.Bool.{ne_eqb, eq-eqb, true≢false, cases_lt}
use Rattle.std.proofs.lemmas.List.{get_or-take, length-take-le}
use Rattle.std.proofs.lemmas.List.Folds.{list_any_none, list_any_at}
use Rattle.std.proofs.lemmas.Option.{slice_get_within}
use Rattle.cop_frame.specs.declared.rates.Rate.{Rate}
use Rattle.cop_rta.specs.declared.streams.Stream.{Stream}
use Rattle.cop_rta.specs.Entries.{Entry}
use Rattle.cop_rta.specs.Streams.{AreDistinct, has_id}
use Rattle.cop_rta.proofs.IdentifierLemmas.{of_stream_at, two_apart}
use Rattle.cop_room.specs.declared.rows.RowRoom.{RowRoom}
use Rattle.cop_room.specs.Changes.{at_row, with_pace}
use Rattle.cop_room.specs.Keeping.{AllStillPass, Holds, IsLeastLimit}
use Rattle.cop_room.specs.Room.{CanFall, CanRise, IsRowRoom, next_id, HasPlace, IsOneMore, IsMoreRoom, HasNoMore}

pub rises : (P : List Stream → Type 0) (change : ℕ → ℕ → Entry → Entry) (streams : List Stream) (most now left : ℕ) → CanFall P (λ y. change (most - y)) streams 0 (most - now) left
    → CanRise P change streams most now (most - left)
rises P change streams most now left falls within holds =
    let back : (y : ℕ) → y ≤ most → y ≡ most - (most - y) = λ y le. omega (arith, le) in
    let limit = falls zero-le (subst (λ n. Holds P (change n) streams) (back now within) holds) in
    record {
      within = omega arith;
      holds = limit.holds;
      no_further = λ y more high there. limit.no_further (most - y) zero-le (omega (arith, more, high)) (subst (λ n. Holds P (change n) streams) (back y high) there);
    }

not_had : (streams : List Stream) (id k : ℕ) (d : Stream) → has_id streams id ≡ false → k < length streams → (get_or streams k d).id ≡ id → ⊥
not_had streams id k d none inside same =
    true≢false (sym (list_any_at (λ s. s.id == id) streams k d inside (eq-eqb (get_or streams k d).id id same)) ∙ none)

-- the next one has an identifier that none has yet
pub next_is_new : (streams : List Stream) (one d : Stream) (k : ℕ) → AreDistinct streams → k < length streams → has_id streams one.id ≡ false
    → has_id (one ∷ take k streams) (get_or streams k d).id ≡ false
next_is_new streams one d k distinct inside none = list_any_none (λ s. s.id == (get_or streams k d).id) (one ∷ take k streams) each
  where
    apart : (j : ℕ) (e : Stream) → j < length (take k streams) → (get_or (take k streams) j e).id ≡ (get_or streams k d).id → ⊥
    apart j e low same =
        let size : length (take k streams) ≡ k = length-take-le k streams (omega (arith, inside)) in
        let before : j < k = omega (arith, low, size) in
        two_apart streams distinct j k before inside
        (of_stream_at streams j e (omega (arith, before, inside)) ∙ sym (ap (λ (s : Stream). s.id) (get_or-take k streams j e before)) ∙ same ∙ sym (of_stream_at streams k d inside))

    each : (j : ℕ) (e : Stream) → j < length (one ∷ take k streams) → ((get_or (one ∷ take k streams) j e).id == (get_or streams k d).id) ≡ false
    each zero e low = ne_eqb one.id (get_or streams k d).id (λ same. not_had streams one.id k d none inside (sym same))
    each (suc j) e low = ne_eqb (get_or (take k streams) j e).id (get_or streams k d).id (λ same. apart j e (omega (arith, low)) same)

-- ---- one more PDO

pub more_room : (rate : Rate) (streams : List Stream) (pdos : ℕ) (one : Stream) (o : Option ℕ) → HasPlace streams pdos → IsOneMore (next_id streams pdos) one
    → MatchOption o (Holds (AllStillPass rate (pdos + 1)) (at_row 0 (with_pace 240000000)) (one ∷ streams) → ⊥)
    (λ x. IsLeastLimit (AllStillPass rate (pdos + 1)) (λ y. at_row 0 (with_pace (4 * y))) (one ∷ streams) 100 x)
    → MatchOption o (HasNoMore rate streams pdos) (IsMoreRoom rate streams pdos)
more_room rate streams pdos one None place is h = λ _. (one, is, h)
more_room rate streams pdos one (Some x) place is h = record { place = place; one = one; is = is; limit = h }

-- ---- one more row

left_stays : (rows : List RowRoom) (row r : RowRoom) (p : ℕ) → slice_get rows p ≡ Some r → slice_get (rows ++ row ∷ []) p ≡ Some r
left_stays [] row r p e = absurd (let lt = slice_get_within [] p r e in omega (arith, lt))
left_stays (y ∷ ys) row r zero e = e
left_stays (y ∷ ys) row r (suc p) e = left_stays ys row r p e

at_last : (rows : List RowRoom) (row : RowRoom) → slice_get (rows ++ row ∷ []) (length rows) ≡ Some row
at_last [] row = refl
at_last (y ∷ ys) row = at_last ys row

one_longer : (rows : List RowRoom) (row : RowRoom) → length (rows ++ row ∷ []) ≡ length rows + 1
one_longer [] row = refl
one_longer (y ∷ ys) row = let e = one_longer ys row in omega (arith, e)

pub one_more_row : (rate : Rate) (streams : List Stream) (pdos n : ℕ) (rows : List RowRoom) (row : RowRoom) → length rows ≡ n
    → ((p : ℕ) → p < n → (r : RowRoom) × (slice_get rows p ≡ Some r) × IsRowRoom rate streams pdos p r) → IsRowRoom rate streams pdos n row
    → (length (rows ++ row ∷ []) ≡ n + 1) × ((p : ℕ) → p < n + 1 → (r : RowRoom) × (slice_get (rows ++ row ∷ []) p ≡ Some r) × IsRowRoom rate streams pdos p r)
one_more_row rate streams pdos n rows row count each last = (one_longer rows row ∙ ap (λ m. m + 1) count, all)
  where
    all : (p : ℕ) → p < n + 1 → (r : RowRoom) × (slice_get (rows ++ row ∷ []) p ≡ Some r) × IsRowRoom rate streams pdos p r
    all p lt = ⊎_elim
        (λ (before : p < n). let old = each p before in (old.0, left_stays rows row old.0 p old.1, old.2))
        (λ (from : n ≤ p).
        let same : n ≡ p = omega (arith, from, lt) in
        (row, ap (slice_get (rows ++ row ∷ [])) (sym same ∙ sym count) ∙ at_last rows row, subst (λ m. IsRowRoom rate streams pdos m row) same last))
        (cases_lt p n)
