-- A plan in whole microseconds passes with its own numbers.
use Rattle.std.proofs.Common.{◌≡◌, ◌∙◌, ℕ, ◌*◌, ◌/◌, ◌≤◌, ◌==◌, max, min, Bool, true, false, if◌then◌else◌, List, length, slice_get, get_or, set, Option, Some, None, MatchOption, option_map, unwrap_or, Result, Ok, Err, IfOk, refl, sym, ap, subst, arith, ⊎_elim}
use Rattle.std.specs.Int.{div_ceil}
use Rattle.std.specs.Option.{ForSome, option_map_or, option_and_then}
use Rattle.std.proofs.Math.Nat.{mul-div_cancel_left}
use Rattle.std.proofs.lemmas.Bool.{eqb-true, eqb-false}
use Rattle.std.proofs.lemmas.Grind.{get_or-set_at}
use Rattle.std.proofs.lemmas.List.{get_or-set_other, length-set}
use Rattle.std.proofs.lemmas.Option.{slice_get_cases, slice_get_within, get_or_from_slice_get}
use Rattle.cop_frame.specs.declared.rates.Rate.{Rate}
use Rattle.cop_rta.specs.declared.streams.Stream.{Stream}
use Rattle.cop_rta.specs.CeilLemmas.{div_ceil-reaches, div_ceil-least}
use Rattle.cop_rta.specs.Entries.{Entry, entry_of}
use Rattle.cop_rta.specs.Greatest.{AreSynced}
use Rattle.cop_rta.specs.Streams.{AreDistinct, place_of_id}
use Rattle.cop_rta.specs.Test.{of_stream, sync_id}
use Rattle.cop_rta.proofs.IdentifierLemmas.{one_place, place_has_id}
use Rattle.cop_cert.specs.Causes.{HasSynchronous}
use Rattle.cop_plan.specs.Values.{HaveDeadlines, AreOnTime}
use Rattle.cop_room.specs.declared.rows.RowRoom.{RowRoom}
use Rattle.cop_room.specs.declared.rooms.Room.{Room}
use Rattle.cop_room.specs.Changes.{AreChanged, at_row, with_period, with_deadline, with_jitter, with_bytes, with_sync_period, with_periods, with_times, scaled, scaled_period}
use Rattle.cop_room.specs.Keeping.{AllStillPass, Holds, IsLeastLimit}
use Rattle.cop_room.specs.Room.{CanFall, period_now, jitter_now, deadline_now, bytes_now, GoesAlone, IsSyncRoom, IsRoom}
use Rattle.cop_room.specs.Whole.{IsWhole, AreInMicroseconds, AreLimitsAlone, IsSyncLimit, AreLimits}
use Rattle.cop_room.proofs.ChangeLemmas.{bytes_more, changed_harder}
use Rattle.cop_room.proofs.LimitLemmas.{Falls, kept_falls}

-- ---- a whole time in a thousand thousandths is itself

thousand : (n : ℕ) → div_ceil (n * 1000) 1000 ≡ n
thousand n =
    let most : div_ceil (n * 1000) 1000 ≤ n = div_ceil-least (n * 1000) 1000 n (omega arith) (omega arith) in
    let least : n * 1000 ≤ div_ceil (n * 1000) 1000 * 1000 = div_ceil-reaches (n * 1000) 1000 (omega arith) in
    omega (arith, most, least)

as_it_is : (least q time : ℕ) → least ≤ time → 4 * q ≡ time → max least (4 * q) ≡ time
as_it_is least q time enough whole = omega (arith, enough, whole)

whole_scaled : (least time : ℕ) → least ≤ time → IsWhole time → scaled least 1000 time ≡ time
whole_scaled least time enough whole = ap (λ q. max least (4 * q)) (thousand (time / 4)) ∙ as_it_is least (time / 4) time enough whole

-- ---- a row has 8 bytes at most

few : (n : ℕ) → min 8 n ≤ 9
few n = omega arith

-- a stream with its bytes, 8 at most
abbrev with_fewer : Stream → Stream
with_fewer s = record {
  id = s.id;
  bytes = min 8 s.bytes;
  period = s.period;
  jitter = s.jitter;
  deadline = s.deadline;
  every = s.every;
  id_in_range = s.id_in_range;
  bytes_in_range = few s.bytes;
  period_least = s.period_least;
  period_most = s.period_most;
  jitter_in_range = s.jitter_in_range;
  deadline_least = s.deadline_least;
  deadline_most = s.deadline_most;
  every_most = s.every_most;
  synchronous_id = s.synchronous_id;
}

-- ---- what changes nothing

module _ (P : List Stream → Type 0) (streams : List Stream) (all : P streams) (whole : AreInMicroseconds streams) where
  -- what changes no stream leaves what holds
  stays : (change : ℕ → Entry → Entry) → ((k : ℕ) (s : Stream) → slice_get streams k ≡ Some s → change k (entry_of s) ≡ entry_of s) → Holds P change streams
  stays change same = record { changed = streams; are_changed = record { as_many = refl; each = each }; holds = all }
    where
      each : (k : ℕ) (s t : Stream) → slice_get streams k ≡ Some s → slice_get streams k ≡ Some t → entry_of t ≡ change k (entry_of s)
      each k s t at there =
          let two : Some s ≡ Some t = sym at ∙ there in
          let one : s ≡ t = cc in
          sym (same k s at ∙ ap entry_of one)

  row_stays : (change : Entry → Entry) (row : ℕ) (s : Stream) → slice_get streams row ≡ Some s → change (entry_of s) ≡ entry_of s → Holds P (at_row row change) streams
  row_stays change row s here same = stays (at_row row change) each
    where
      each : (k : ℕ) (t : Stream) → slice_get streams k ≡ Some t → at_row row change k (entry_of t) ≡ entry_of t
      each k t at = go (k == row) (λ e. eqb-true k row e)
        where
          go : (b : Bool) → (b ≡ true → k ≡ row) → (if b then change (entry_of t) else entry_of t) ≡ entry_of t
          go false e = refl
          go true e =
              let two : Some s ≡ Some t = sym here ∙ sym (ap (slice_get streams) (e refl)) ∙ at in
              let one : s ≡ t = cc in
              subst (λ (x : Stream). change (entry_of x) ≡ entry_of x) one same

  -- ---- the numbers of a row

  module _ (row : ℕ) (s : Stream) (here : slice_get streams row ≡ Some s) where
    period_is : 4 * period_now streams row ≡ s.period
    period_is = ap (λ (o : Option Stream). 4 * (option_map_or (λ x. x.period) o 0 / 4)) here ∙ (whole row s here).period

    period_stays : Holds P (at_row row (with_period (4 * period_now streams row))) streams
    period_stays = row_stays (with_period (4 * period_now streams row)) row s here (ap (λ x. with_period x (entry_of s)) period_is)

    jitter_is : 4 * jitter_now streams row ≡ s.jitter
    jitter_is = ap (λ (o : Option Stream). 4 * (option_map_or (λ x. x.jitter) o 0 / 4)) here ∙ (whole row s here).jitter

    jitter_stays : Holds P (at_row row (with_jitter (4 * jitter_now streams row))) streams
    jitter_stays = row_stays (with_jitter (4 * jitter_now streams row)) row s here (ap (λ x. with_jitter x (entry_of s)) jitter_is)

    bytes_is : bytes_now streams row ≡ min 8 s.bytes
    bytes_is = ap (λ (o : Option Stream). min 8 (option_map_or (λ x. x.bytes) o 0)) here

    -- the same streams, where a row of more than 8 bytes has 8
    abbrev lighter : List Stream
    lighter = set streams row (with_fewer s)

    lighter_is : (k : ℕ) (a b : Stream) → slice_get streams k ≡ Some a → slice_get lighter k ≡ Some b → entry_of b ≡ at_row row (with_bytes (bytes_now streams row)) k (entry_of a)
    lighter_is k a b at there = go (k == row) (λ e. eqb-true k row e) (λ f. eqb-false k row f)
      where
        is : get_or lighter k a ≡ b
        is = get_or_from_slice_get lighter k b a there

        go : (c : Bool) → (c ≡ true → k ≡ row) → (c ≡ false → k ≡ row → ⊥) → entry_of b ≡ (if c then with_bytes (bytes_now streams row) (entry_of a) else entry_of a)
        go true e f =
            let both : Some s ≡ Some a = sym here ∙ sym (ap (slice_get streams) (e refl)) ∙ at in
            let one : s ≡ a = cc in
            let mine : get_or lighter k a ≡ with_fewer s = get_or-set_at streams row k (with_fewer s) a (e refl) (slice_get_within streams row s here) in
            ap entry_of (sym is ∙ mine) ∙ ap (λ n. with_bytes n (entry_of s)) (sym bytes_is) ∙ ap (λ (x : Stream). with_bytes (bytes_now streams row) (entry_of x)) one
        go false e f = ap entry_of (sym is ∙ get_or-set_other streams row k (with_fewer s) a (f refl) ∙ get_or_from_slice_get streams k a a at)

    are_lighter : AreChanged (at_row row (with_bytes (bytes_now streams row))) streams lighter
    are_lighter = record { as_many = sym (length-set streams row (with_fewer s)); each = lighter_is }

    bytes_stay : Falls P streams → Holds P (at_row row (with_bytes (bytes_now streams row))) streams
    bytes_stay falls =
        let as_it_is = row_stays (with_bytes s.bytes) row s here refl in
        let fewer : bytes_now streams row ≤ s.bytes = omega (arith, bytes_is) in
        let harder = changed_harder (at_row row (with_bytes (bytes_now streams row))) (at_row row (with_bytes s.bytes)) streams lighter as_it_is.changed
        (bytes_more row (bytes_now streams row) s.bytes fewer) are_lighter as_it_is.are_changed in
        record {
          changed = lighter;
          are_changed = are_lighter;
          holds = falls lighter as_it_is.changed harder are_lighter.as_many as_it_is.holds;
        }

    module _ (d : ℕ) (dated : option_and_then (λ (x : Stream). x.deadline) (slice_get streams row) ≡ Some d) where
      own_deadline : s.deadline ≡ Some d
      own_deadline = sym (ap (option_and_then (λ (x : Stream). x.deadline)) here) ∙ dated

      deadline_is : 4 * deadline_now streams row ≡ d
      deadline_is = ap (λ (o : Option ℕ). 4 * (unwrap_or o 0 / 4)) dated ∙ (whole row s here).deadline d own_deadline

      deadline_stays : Holds P (at_row row (with_deadline (4 * deadline_now streams row))) streams
      deadline_stays = row_stays (with_deadline (4 * deadline_now streams row)) row s here
          (ap (λ (o : Option ℕ). record (entry_of s) { deadline = o }) (ap (λ n. Some n) deadline_is ∙ sym own_deadline))

      deadline_counts : 1 ≤ deadline_now streams row
      deadline_counts = omega (arith, deadline_is, s.deadline_least d own_deadline)

    period_counts : 100 ≤ period_now streams row
    period_counts = omega (arith, period_is, s.period_least)

    jitter_counts : jitter_now streams row ≤ 60000000
    jitter_counts = omega (arith, jitter_is, s.jitter_in_range)

    bytes_count : bytes_now streams row ≤ 8
    bytes_count = omega (arith, bytes_is)

  period_limit : (row : ℕ) (s : Stream) → slice_get streams row ≡ Some s → (o : Option ℕ)
      → MatchOption o (1 ≤ of_stream (λ x. x.every) streams row)
      (λ x. (of_stream (λ t. t.every) streams row ≡ 0) × CanFall P (λ y. at_row row (with_period (4 * y))) streams 100 (period_now streams row) x)
      → MatchOption o (1 ≤ of_stream (λ x. x.every) streams row) (λ x. IsLeastLimit P (λ y. at_row row (with_period (4 * y))) streams 100 x)
  period_limit row s here None h = h
  period_limit row s here (Some x) h = h.1 (period_counts row s here) (period_stays row s here)

  pub row_limits : (row : ℕ) (s : Stream) (d : ℕ) (r : RowRoom) → Falls P streams → slice_get streams row ≡ Some s → option_and_then (λ (x : Stream). x.deadline) (slice_get streams row) ≡ Some d
      → GoesAlone P streams row r → AreLimitsAlone P streams row r
  row_limits row s d r falls here dated room = record {
    period = period_limit row s here r.period room.period;
    jitter = room.jitter (jitter_counts row s here) (jitter_stays row s here);
    deadline = room.deadline (deadline_counts row s here d dated) (deadline_stays row s here d dated);
    bytes = room.bytes (bytes_count row s here) (bytes_stay row s here falls);
  }

module _ (rate : Rate) (streams : List Stream) (pdos : ℕ) (all : AllStillPass rate pdos streams) (whole : AreInMicroseconds streams) where
  -- ---- all at once

  module _ (synced : AreSynced streams) where
    -- a synchronous stream has so many times the period of SYNC, which is in the set
    paced : (k : ℕ) (s : Stream) → slice_get streams k ≡ Some s → 1 ≤ s.every → (i : ℕ) × (place_of_id streams sync_id ≡ Some i) × (s.period ≡ s.every * of_stream (λ t. t.period) streams i)
    paced k s here some =
        let same : get_or streams k s ≡ s = get_or_from_slice_get streams k s s here in
        subst (λ (t : Stream). 1 ≤ t.every → (i : ℕ) × (place_of_id streams sync_id ≡ Some i) × (t.period ≡ t.every * of_stream (λ u. u.period) streams i)) same
        (synced.each k s (slice_get_within streams k s here)) some

    found : (k : ℕ) → of_stream (λ t. t.id) streams k ≡ 128 → (s : Stream) × (slice_get streams k ≡ Some s)
    found k its = ⊎_elim
        (λ o. (o.0, o.2))
        (λ past. let none : of_stream (λ t. t.id) streams k ≡ 0 = ap (λ (o : Option Stream). option_map_or (λ t. t.id) o 0) past.1 in absurd (omega (arith, its, none)))
        (slice_get_cases streams k).1

    sync_whole : (i : ℕ) → place_of_id streams sync_id ≡ Some i → (400 ≤ of_stream (λ t. t.period) streams i) × IsWhole (of_stream (λ t. t.period) streams i)
    sync_whole i at =
        let sync = found i (place_has_id streams sync_id i at) in
        let its : of_stream (λ t. t.period) streams i ≡ sync.0.period = ap (λ (o : Option Stream). option_map_or (λ t. t.period) o 0) sync.1 in
        (omega (arith, its, sync.0.period_least), subst IsWhole (sym its) (whole i sync.0 sync.1).period)

    scaled_stays : (every base : ℕ) → 1 ≤ every → 400 ≤ base → IsWhole base → every * scaled 400 1000 (every * base / every) ≡ every * base
    scaled_stays every base some enough is_whole =
        let back : every * base / every ≡ base = mul-div_cancel_left base (omega (arith, some)) in
        ap (λ n. every * n) (ap (scaled 400 1000) back ∙ whole_scaled 400 base enough is_whole)

    period_kept : (k : ℕ) (s : Stream) → slice_get streams k ≡ Some s → scaled_period 1000 (entry_of s) ≡ s.period
    period_kept k s here = go (s.every == 0) (λ f. eqb-false s.every 0 f)
      where
        go : (b : Bool) → (b ≡ false → s.every ≡ 0 → ⊥) → (if b then scaled 400 1000 s.period else s.every * scaled 400 1000 (s.period / s.every)) ≡ s.period
        go true none = whole_scaled 400 s.period s.period_least (whole k s here).period
        go false none =
            let some : 1 ≤ s.every = omega (arith, none refl) in
            let pace = paced k s here some in
            let sync = sync_whole pace.0 pace.1 in
            ap (λ n. s.every * scaled 400 1000 (n / s.every)) pace.2 ∙ scaled_stays s.every (of_stream (λ t. t.period) streams pace.0) some sync.0 sync.1 ∙ sym pace.2

    periods_stay : Holds (AllStillPass rate pdos) (with_periods 1000) streams
    periods_stay = stays (AllStillPass rate pdos) streams all whole (with_periods 1000) (λ k s here. ap (λ x. with_period x (entry_of s)) (period_kept k s here))

    deadline_kept : (o : Option ℕ) → ForSome o IsWhole → ForSome o (λ d. 1 ≤ d) → option_map (scaled 4 1000) o ≡ o
    deadline_kept None is_whole least = refl
    deadline_kept (Some d) is_whole least =
        let w : 4 * (d / 4) ≡ d = is_whole d refl in
        ap (λ n. Some n) (whole_scaled 4 d (omega (arith, w, least d refl)) w)

    times_stay : Holds (AllStillPass rate pdos) (with_times 1000) streams
    times_stay = stays (AllStillPass rate pdos) streams all whole (with_times 1000) (λ k s here.
        ap (λ x. record { id = s.id; bytes = s.bytes; period = x; jitter = s.jitter; deadline = option_map (scaled 4 1000) s.deadline; every = s.every }) (period_kept k s here)
        ∙ ap (λ (o : Option ℕ). record (entry_of s) { deadline = o }) (deadline_kept s.deadline (whole k s here).deadline s.deadline_least))

    module _ (distinct : AreDistinct streams) (i : ℕ) (at : place_of_id streams sync_id ≡ Some i) where
      sync_is : 4 * period_now streams i ≡ of_stream (λ t. t.period) streams i
      sync_is = (sync_whole i at).1

      sync_counts : 100 ≤ period_now streams i
      sync_counts = let is = sync_is in omega (arith, is, (sync_whole i at).0)

      -- SYNC's own stream, and those that keep pace with it
      sync_same : (k : ℕ) (s : Stream) → slice_get streams k ≡ Some s → s.id ≡ 128 → of_stream (λ t. t.period) streams i ≡ s.period
      sync_same k s here its =
          let inside = slice_get_within streams k s here in
          let sync = found i (place_has_id streams sync_id i at) in
          let mine : of_stream (λ t. t.id) streams k ≡ 128 = ap (λ (o : Option Stream). option_map_or (λ t. t.id) o 0) here ∙ its in
          let one : i ≡ k = one_place streams distinct i k (slice_get_within streams i sync.0 sync.1) inside (place_has_id streams sync_id i at ∙ sym mine) in
          ap (of_stream (λ t. t.period) streams) one ∙ ap (λ (o : Option Stream). option_map_or (λ t. t.period) o 0) here

      pace_same : (k : ℕ) (s : Stream) → slice_get streams k ≡ Some s → 1 ≤ s.every → s.every * of_stream (λ t. t.period) streams i ≡ s.period
      pace_same k s here some =
          let pace = paced k s here some in
          let two : Some pace.0 ≡ Some i = sym pace.1 ∙ at in
          let one : pace.0 ≡ i = cc in
          sym (pace.2 ∙ ap (λ n. s.every * of_stream (λ t. t.period) streams n) one)

      sync_stays : Holds (AllStillPass rate pdos) (with_sync_period (4 * period_now streams i)) streams
      sync_stays = stays (AllStillPass rate pdos) streams all whole (with_sync_period (4 * period_now streams i)) each
        where
          each : (k : ℕ) (s : Stream) → slice_get streams k ≡ Some s → with_sync_period (4 * period_now streams i) k (entry_of s) ≡ entry_of s
          each k s here = go (s.id == sync_id) (s.every == 0) (λ e. eqb-true s.id sync_id e) (λ f. eqb-false s.every 0 f)
            where
              go : (a b : Bool) → (a ≡ true → s.id ≡ 128) → (b ≡ false → s.every ≡ 0 → ⊥)
                  → (if a then with_period (4 * period_now streams i) (entry_of s) else if b then entry_of s else with_period (s.every * (4 * period_now streams i)) (entry_of s)) ≡ entry_of s
              go true b its none = ap (λ x. with_period x (entry_of s)) (sync_is ∙ sync_same k s here (its refl))
              go false true its none = refl
              go false false its none =
                  let some : 1 ≤ s.every = omega (arith, none refl) in
                  ap (λ x. with_period x (entry_of s)) (ap (λ n. s.every * n) sync_is ∙ pace_same k s here some)

    sync_limit : AreDistinct streams → (o : Option ℕ) → pdos ≤ length streams
        → MatchOption o (HasSynchronous streams pdos → (i : ℕ) → place_of_id streams sync_id ≡ Some i → ⊥) (IsSyncRoom rate streams pdos)
        → MatchOption o (HasSynchronous streams pdos → ⊥) (IsSyncLimit rate streams pdos)
    sync_limit distinct None count h = λ has. no_sync has (h has)
      where
        no_sync : HasSynchronous streams pdos → ((i : ℕ) → place_of_id streams sync_id ≡ Some i → ⊥) → ⊥
        no_sync has none = ⊎_elim
            (λ o.
            let its : of_stream (λ t. t.every) streams has.0 ≡ o.0.every = ap (λ (x : Option Stream). option_map_or (λ t. t.every) x 0) o.2 in
            let pace = paced has.0 o.0 o.2 (omega (arith, its, has.2)) in
            none pace.0 pace.1)
            (λ past. absurd (let n = past.0 in omega (arith, n, has.1, count)))
            (slice_get_cases streams has.0).1
    sync_limit distinct (Some x) count h = record {
      sync = h.sync;
      place = h.place;
      limit = h.limit (sync_counts distinct h.sync h.place) (sync_stays distinct h.sync h.place);
    }

    pub all_limits : AreDistinct streams → HaveDeadlines streams pdos → pdos ≤ length streams → (r : Room) → IsRoom rate streams pdos r → AreLimits rate streams pdos r
    all_limits distinct dated count r room = record {
      count = room.count;
      rows = λ p low.
          let mine = room.rows p low in
          let d = dated p low in
          ⊎_elim
          (λ o. (mine.0, mine.1, row_limits (AllStillPass rate pdos) streams all whole p o.0 d.0 mine.0 (kept_falls with_periods rate streams pdos count) o.2 d.1 mine.2))
          (λ past. absurd (let n = past.0 in omega (arith, n, low, count)))
          (slice_get_cases streams p).1;
      sync = sync_limit distinct r.sync count room.sync;
      periods = room.periods (omega arith) periods_stay;
      clock = room.clock (omega arith) times_stay;
      more = room.more;
    }

pub limits_if : {E : Type 0} (rate : Rate) (streams : List Stream) (pdos : ℕ) → AreOnTime rate streams pdos → AreInMicroseconds streams → AreSynced streams → AreDistinct streams → pdos ≤ length streams
    → (r : Result Room E) → IfOk r (IsRoom rate streams pdos) → IfOk r (AreLimits rate streams pdos)
limits_if rate streams pdos on_time whole synced distinct count (Ok room) is =
    all_limits rate streams pdos (record { each = on_time.pass; frames = on_time.frames }) whole synced distinct on_time.deadlines count room is
limits_if rate streams pdos on_time whole synced distinct count (Err e) is = tt
