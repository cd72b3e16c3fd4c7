-- What the changes of the numbers that are tried have in common.
use Rattle.std.proofs.Common.{◌≡◌, ℕ, ◌-◌, ◌*◌, ◌≤◌, ◌==◌, Bool, true, false, if◌then◌else◌, refl, arith}
use Rattle.cop_rta.specs.Entries.{Entry}
use Rattle.cop_room.specs.declared.numbers.Number.{Number}
use Rattle.cop_room.specs.declared.numbers.Number.TheVariants.{Period, Deadline, Pace, Jitter, Bytes, SyncPeriod, Periods, Times, Deadlines}
use Rattle.cop_room.specs.Changes.{at_row, with_period, with_deadline, with_pace, with_jitter, with_bytes}
use Rattle.cop_room.specs.Keeping.{GetHarderDown}
use Rattle.cop_room.specs.Numbers.{change_of, longest_jitter, most_bytes}
use Rattle.cop_room.proofs.ChangeLemmas.{period_harder, deadline_sooner, pace_faster, jitter_longer, bytes_more, sync_faster, periods_harder, times_harder, deadlines_harder}

-- ---- the first place asks the most

four_times : (x y : ℕ) → x ≤ y → 4 * x ≤ 4 * y
four_times x y le = omega arith

less_off : (most x y : ℕ) → x ≤ y → most - y ≤ most - x
less_off most x y le = omega arith

pub falls : (n : Number) → GetHarderDown (change_of n)
falls (Period row) x y le = period_harder row (4 * x) (4 * y) (four_times x y le)
falls (Deadline row) x y le = deadline_sooner row (4 * x) (4 * y) (four_times x y le)
falls (Pace row) x y le = pace_faster row (4 * x) (4 * y) (four_times x y le)
falls (Jitter row) x y le = jitter_longer row (4 * (longest_jitter - y)) (4 * (longest_jitter - x)) (four_times _ _ (less_off longest_jitter x y le))
falls (Bytes row) x y le = bytes_more row (most_bytes - y) (most_bytes - x) (less_off most_bytes x y le)
falls SyncPeriod x y le = sync_faster (4 * x) (4 * y) (four_times x y le)
falls Periods x y le = periods_harder x y le
falls Times x y le = times_harder x y le
falls Deadlines x y le = deadlines_harder x y le

-- ---- identifiers stay

row_id : (change : Entry → Entry) (row k : ℕ) (e : Entry) → (change e).id ≡ e.id → (at_row row change k e).id ≡ e.id
row_id change row k e same = go (k == row)
  where
    go : (b : Bool) → (if b then change e else e).id ≡ e.id
    go true = same
    go false = refl

sync_id_stays : (x : ℕ) (e : Entry) (a b : Bool) → (if a then with_period x e else if b then e else with_period (e.every * x) e).id ≡ e.id
sync_id_stays x e true b = refl
sync_id_stays x e false true = refl
sync_id_stays x e false false = refl

pub same_id : (n : Number) (x k : ℕ) (e : Entry) → (change_of n x k e).id ≡ e.id
same_id (Period row) x k e = row_id (with_period (4 * x)) row k e refl
same_id (Deadline row) x k e = row_id (with_deadline (4 * x)) row k e refl
same_id (Pace row) x k e = row_id (with_pace (4 * x)) row k e refl
same_id (Jitter row) x k e = row_id (with_jitter (4 * (longest_jitter - x))) row k e refl
same_id (Bytes row) x k e = row_id (with_bytes (most_bytes - x)) row k e refl
same_id SyncPeriod x k e = sync_id_stays (4 * x) e _ _
same_id Periods x k e = refl
same_id Times x k e = refl
same_id Deadlines x k e = refl
