-- Numbers that are tried with identifiers chosen anew.
use Rattle.std.proofs.Common.{ℕ, ◌+◌, ◌<◌, ◌≤◌, List, length, Option, Some, None, MatchOption, Result, Ok, Err, IfOk, arith, le_refl, ⊎_elim}
use Rattle.std.proofs.lemmas.Option.{slice_get_cases}
use Rattle.cop_frame.specs.declared.rates.Rate.{Rate}
use Rattle.cop_rta.specs.declared.streams.Stream.{Stream}
use Rattle.cop_rta.specs.Entries.{Entry}
use Rattle.cop_cert.specs.Assignments.{NoAssignmentPasses}
use Rattle.cop_plan.specs.Plans.{CanAssign}
use Rattle.cop_plan.specs.Values.{PlanValue, id_of}
use Rattle.cop_room.specs.declared.numbers.Number.{Number}
use Rattle.cop_room.specs.declared.rows.RowRoom.{RowRoom}
use Rattle.cop_room.specs.Changes.{AreChanged, with_periods}
use Rattle.cop_room.specs.Keeping.{CanBePlanned, Holds, Fails}
use Rattle.cop_room.specs.Numbers.{change_of}
use Rattle.cop_room.specs.Planning.{IsPlannedAt}
use Rattle.cop_room.specs.Room.{CanFall, GoesAlone}
use Rattle.cop_room.specs.Whole.{AreInMicroseconds, AreLimitsAlone}
use Rattle.cop_room.proofs.LimitLemmas.{no_harder, anew_falls, least_anew}
use Rattle.cop_room.proofs.NumberLemmas.{falls}
use Rattle.cop_room.proofs.TrialLemmas.{IsBetween, go_down, go_up, ends_below, ends_nowhere}
use Rattle.cop_room.proofs.WholeLemmas.{row_limits}

-- what a trial shows
pub anew_shows : (change : ℕ → Entry → Entry) (rate : Rate) (streams other : List Stream) (pdos : ℕ) (o : Option PlanValue) → AreChanged change streams other → CanAssign other pdos
    → MatchOption o (NoAssignmentPasses rate other pdos) (IsPlannedAt rate other pdos)
    → MatchOption o (Fails (CanBePlanned rate pdos) change streams) (λ plan. Holds (CanBePlanned rate pdos) change streams)
anew_shows change rate streams other pdos None changed can none = record { changed = other; are_changed = changed; fails = λ planned. planned.some none }
anew_shows change rate streams other pdos (Some plan) changed can is = record {
  changed = other;
  are_changed = changed;
  holds = record { high = can.provisional; some = λ none. none (id_of plan.ids) is.passing };
}

pub anew_shows_if : {E : Type 0} (change : ℕ → Entry → Entry) (rate : Rate) (streams other : List Stream) (pdos : ℕ) (r : Result (Option PlanValue) E) → AreChanged change streams other → CanAssign other pdos
    → IfOk r (λ o. MatchOption o (NoAssignmentPasses rate other pdos) (IsPlannedAt rate other pdos))
    → IfOk r (λ o. MatchOption o (Fails (CanBePlanned rate pdos) change streams) (λ plan. Holds (CanBePlanned rate pdos) change streams))
anew_shows_if change rate streams other pdos (Ok o) changed can is = anew_shows change rate streams other pdos o changed can is
anew_shows_if change rate streams other pdos (Err e) changed can is = tt

-- the search

module _ (number : Number) (rate : Rate) (streams : List Stream) (pdos first now low high : ℕ) (between : IsBetween (CanBePlanned rate pdos) (change_of number) streams first now low high)
    (place : ℕ) (after : low ≤ place) (before : place < high) where
  pub anew_down : Holds (CanBePlanned rate pdos) (change_of number place) streams → IsBetween (CanBePlanned rate pdos) (change_of number) streams first now low place
  anew_down h = go_down (CanBePlanned rate pdos) (change_of number) streams first now low high between place h.changed after before h.are_changed h.holds

  pub anew_up : Fails (CanBePlanned rate pdos) (change_of number place) streams → IsBetween (CanBePlanned rate pdos) (change_of number) streams first now (place + 1) high
  anew_up f = go_up (CanBePlanned rate pdos) (change_of number) streams first now low high between place f.changed after before f.are_changed f.fails

module _ (number : Number) (rate : Rate) (streams : List Stream) (pdos first now low high : ℕ) (count : pdos ≤ length streams)
    (between : IsBetween (CanBePlanned rate pdos) (change_of number) streams first now low high) (stop : high ≤ low) where
  pub anew_ends : high ≤ now → CanFall (CanBePlanned rate pdos) (change_of number) streams first now high
  anew_ends within order holds =
      least_anew (change_of number) rate streams pdos first high (falls number) count (ends_below (CanBePlanned rate pdos) (change_of number) streams first now low high between stop within)

  pub anew_fails : now < high → CanFall (CanBePlanned rate pdos) (change_of number) streams first now now
  anew_fails beyond order holds =
      absurd (no_harder (CanBePlanned rate pdos) (change_of number) streams (anew_falls (change_of number) rate streams pdos count) now now (falls number now now (le_refl now))
      (ends_nowhere (CanBePlanned rate pdos) (change_of number) streams first now low high between order stop beyond) holds)

-- where some assignment passes and times are whole, each number is a limit
pub anew_limits : (rate : Rate) (streams : List Stream) (pdos row : ℕ) → CanAssign streams pdos → row < pdos → AreInMicroseconds streams → CanBePlanned rate pdos streams → (r : RowRoom)
    → GoesAlone (CanBePlanned rate pdos) streams row r → AreLimitsAlone (CanBePlanned rate pdos) streams row r
anew_limits rate streams pdos row can low whole planned r is = ⊎_elim
    (λ o. let d = can.deadlines row low in row_limits (CanBePlanned rate pdos) streams planned whole row o.0 d.0 r (anew_falls with_periods rate streams pdos can.count) o.2 d.1 is)
    (λ past. absurd (let n = past.0 in omega (arith, n, low, can.count)))
    (slice_get_cases streams row).1
