-- The rows of frames are those that a table takes.
use Rattle.std.proofs.Common.{◌≡◌, ℕ, ◌+◌, ◌*◌, ◌≤◌, Bool, true, false, if◌then◌else◌, List, [], ◌∷◌, ◌++◌, refl, arith, nat_le, Option, Some, None, IfSome, append_assoc}
use Rattle.std.specs.List.{AllByRecursion}
use Rattle.std.proofs.lemmas.Bool.{leb-true, and_parts}
use native.Mathlib.Nat.{mul-mod_left}
use Rattle.cop_dict.specs.Find.{Entry}
use Rattle.cop_dict.specs.Pdo.{exists_by}
use Rattle.cop_warn.specs.Warnings.{natural_at, word_at}
use Rattle.cop_rows.specs.Fields.{is_within}
use Rattle.cop_rows.specs.NodeReading.{number_of_kind}
use Rattle.cop_rows.specs.declared.node_table.FrameKind.TheVariants.{Sync, Emcy, SdoResponse, SdoRequest}
use Rattle.cop_written.specs.declared.nodes.Device as written
use Rattle.cop_written.specs.declared.nodes.Frame.{Frame}
use Rattle.cop_written.specs.Sound.{HasNode, AreFrames}
use Rattle.cop_start.specs.Start.{Device, Rise, AreSources}
use Rattle.cop_start.specs.Devices.{devices_of}
use Rattle.cop_start.specs.Senders.{senders_of}
use Rattle.cop_start.specs.Frames.{may_beat, second_if, heartbeat_by, heartbeat_of, period_or, sync_period_of, is_by_sync, emcy_frames, heartbeat_frames, device_frames, frames_behind, frames_of}
use Rattle.cop_start.proofs.DeviceLemmas.{have_nodes}

bounds : (least most n : ℕ) → is_within least most n ≡ true → (least ≤ n) × (n ≤ most)
bounds least most n h = let parts = and_parts (nat_le least n) (nat_le n most) h in (leb-true least n parts.0, leb-true n most parts.1)

-- ---- times

IsBeat : ℕ → Type 0
IsBeat millis = (1 ≤ millis) × (millis ≤ 60000)

second_good : (may : Bool) → IfSome (second_if may) IsBeat
unfolding IsBeat
second_good true = (omega arith, omega arith)
second_good false = tt

own_good : (may b : Bool) (millis : ℕ) → is_within 1 60000 millis ≡ b → IfSome (if b then Some millis else second_if may) IsBeat
unfolding IsBeat
own_good may true millis e = bounds 1 60000 millis e
own_good may false millis e = second_good may

beat_good : (may : Bool) (o : Option ℕ) → IfSome (heartbeat_by may o) IsBeat
beat_good may None = second_good may
beat_good may (Some millis) = own_good may (is_within 1 60000 millis) millis refl

period_good : (o : Option ℕ) (other : ℕ) → (100 ≤ other) × (other ≤ 60000000) → (100 ≤ period_or o other) × (period_or o other ≤ 60000000)
period_good None other h = h
period_good (Some period) other h = by (is_within 100 60000000 period) refl
  where
    by : (b : Bool) → is_within 100 60000000 period ≡ b → (100 ≤ (if b then period else other)) × ((if b then period else other) ≤ 60000000)
    by true e = bounds 100 60000000 period e
    by false e = h

pub sync_good : (devices : List Device) → (100 ≤ sync_period_of devices) × (sync_period_of devices ≤ 60000000)
sync_good [] = (omega arith, omega arith)
sync_good (d ∷ devices) = period_good (natural_at d.dict 0x1006 0) (sync_period_of devices) (sync_good devices)

-- ---- rows

weaker : (all : List written.Device) (less behind : ℕ) (frames : List Frame) → less ≤ behind → AreFrames all behind frames → AreFrames all less frames
weaker all less behind [] le h = tt
weaker all less behind (f ∷ frames) le h =
    (record { rises = omega (arith, le, h.0.rises); node = h.0.node; least = h.0.least; most = h.0.most; milliseconds = h.0.milliseconds }, h.1)

module _ (all : List written.Device) (node : ℕ) (has : HasNode all node) where
  beats : (behind : ℕ) (o : Option ℕ) (rest : List Frame) → behind ≤ 8 * node + 5 → IfSome o IsBeat → AreFrames all (8 * node + 6) rest → AreFrames all behind (heartbeat_frames node o ++ rest)
  unfolding IsBeat number_of_kind
  beats behind None rest le good more = weaker all behind (8 * node + 6) rest (omega arith) more
  beats behind (Some millis) rest le good more =
      (record { rises = omega arith; node = has; least = omega (arith, good.0); most = omega (arith, good.1); milliseconds = λ _. mul-mod_left millis 1000 }, more)

  after_emcy : (behind : ℕ) (o : Option ℕ) (rest : List Frame) → behind ≤ 8 * node + 3 → IfSome o IsBeat → AreFrames all (8 * node + 6) rest
      → AreFrames all behind (record { kind = SdoResponse; node = node; period = 100000 } ∷ record { kind = SdoRequest; node = node; period = 100000 } ∷ (heartbeat_frames node o ++ rest))
  unfolding number_of_kind
  after_emcy behind o rest le good more = (
    record { rises = omega arith; node = has; least = omega arith; most = omega arith; milliseconds = λ e. cc e },
    (
      record { rises = omega arith; node = has; least = omega arith; most = omega arith; milliseconds = λ e. cc e },
      beats (8 * node + 5) o rest (omega arith) good more,
    ),
  )

  emcy_by : (behind : ℕ) (b : Bool) (tail : List Frame) → behind ≤ 8 * node + 2 → AreFrames all (8 * node + 3) tail
      → AreFrames all behind ((if b then record { kind = Emcy; node = node; period = 100000 } ∷ [] else []) ++ tail)
  unfolding number_of_kind
  emcy_by behind true tail le more =
      (record { rises = omega arith; node = has; least = omega arith; most = omega arith; milliseconds = λ e. cc e }, more)
  emcy_by behind false tail le more = weaker all behind (8 * node + 3) tail (omega arith) more

  emcy : (behind : ℕ) (o : Option ℕ) (tail : List Frame) → behind ≤ 8 * node + 2 → AreFrames all (8 * node + 3) tail → AreFrames all behind (emcy_frames node o ++ tail)
  emcy behind None tail le more = weaker all behind (8 * node + 3) tail (omega arith) more
  emcy behind (Some cob_id) tail le more = emcy_by behind (exists_by cob_id) tail le more

  one_device : (behind : ℕ) (dict : List Entry) (rest : List Frame) → behind ≤ 8 * node + 2 → AreFrames all (8 * node + 6) rest → AreFrames all behind (device_frames node dict ++ rest)
  one_device behind dict rest le more =
      rw (append_assoc (emcy_frames node (word_at dict 0x1014 0)) (record { kind = SdoResponse; node = node; period = 100000 } ∷ record { kind = SdoRequest; node = node; period = 100000 } ∷ heartbeat_frames node (heartbeat_of dict)) rest)
      (emcy behind (word_at dict 0x1014 0) _ le (after_emcy (8 * node + 3) (heartbeat_of dict) rest (omega arith) (beat_good (may_beat dict) (natural_at dict 0x1017 0)) more))

frames_sound : (all : List written.Device) (devices : List Device) (before behind : ℕ) → AllByRecursion (λ (d : Device). HasNode all d.node) devices → Rise before devices → behind ≤ 8 * before + 6
    → AreFrames all behind (frames_behind devices)
frames_sound all [] before behind has rise le = tt
frames_sound all (d ∷ devices) before behind has rise le =
    one_device all d.node has.0 behind d.dict (frames_behind devices) (omega (arith, le, rise.0))
    (frames_sound all devices d.node (8 * d.node + 6) has.1 rise.2 (omega arith))

sync_row : (all : List written.Device) (b : Bool) (period : ℕ) (rest : List Frame) → (100 ≤ period) × (period ≤ 60000000) → AreFrames all 2 rest
    → AreFrames all 1 ((if b then record { kind = Sync; node = 0; period = period } ∷ [] else []) ++ rest)
unfolding number_of_kind
sync_row all true period rest good more = (record { rises = omega arith; node = refl; least = good.0; most = good.1; milliseconds = λ e. cc e }, more)
sync_row all false period rest good more = weaker all 1 2 rest (omega arith) more

pub sound_frames : (devices : List Device) → AreSources devices → AreFrames (devices_of devices) 0 (frames_of devices)
unfolding number_of_kind
sound_frames devices h = (
  record { rises = omega arith; node = refl; least = omega arith; most = omega arith; milliseconds = λ e. cc e },
  sync_row (devices_of devices) (is_by_sync (senders_of devices)) (sync_period_of devices) (frames_behind devices) (sync_good devices)
      (frames_sound (devices_of devices) devices 0 2 (have_nodes devices) h.nodes (omega arith)),
)
