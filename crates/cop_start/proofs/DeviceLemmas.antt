-- The rows of devices are those that a table takes.
use Rattle.std.proofs.Common.{◌≡◌, ℕ, zero, suc, ◌-◌, ◌<◌, inl, inr, Bool, true, false, ◌&&◌, if◌then◌else◌, List, [], ◌∷◌, length, take, refl, ap, arith, nat_le, nat_lt}
use Rattle.std.specs.List.{list_all, AllByRecursion}
use Rattle.std.proofs.lemmas.List.{length-take-le}
use Rattle.std.proofs.lemmas.List.Elements.{recursion_from_All}
use Rattle.std.proofs.lemmas.Bool.{le-leb, leb-true, ltb-true, and_parts}
use Rattle.cop_rows.specs.Names.{is_name, is_name_code}
use Rattle.cop_written.specs.declared.nodes.Device as written
use Rattle.cop_written.specs.Sound.{AreDevices, HasNode}
use Rattle.cop_start.specs.Start.{Device, Rise, AreSources}
use Rattle.cop_start.specs.Devices.{stem, devices_of}

all_of_taken : (p : ℕ → Bool) (n : ℕ) (xs : List ℕ) → list_all p xs ≡ true → list_all p (take n xs) ≡ true
all_of_taken p zero xs h = refl
all_of_taken p (suc n) [] h = refl
all_of_taken p (suc n) (x ∷ xs) h = let parts = and_parts (p x) (list_all p xs) h in rw (parts.0, all_of_taken p n xs parts.1) refl

stem_by : (b : Bool) (file : List ℕ) → nat_lt 4 (length file) ≡ b → is_name file ≡ true → is_name (if b then take (length file - 4) file else file) ≡ true
stem_by false file e h = h
stem_by true file e h =
    let long : 4 < length file = ltb-true 4 (length file) e in
    let parts = and_parts (nat_le 1 (length file) && nat_le (length file) 40) (list_all is_name_code file) h in
    let most = leb-true (length file) 40 (and_parts (nat_le 1 (length file)) (nat_le (length file) 40) parts.0).1 in
    let count : length (take (length file - 4) file) ≡ length file - 4 = length-take-le (length file - 4) file (omega arith) in
    rw (
      count,
      le-leb 1 (length file - 4) (omega (arith, long)),
      le-leb (length file - 4) 40 (omega (arith, most)),
      all_of_taken is_name_code (length file - 4) file parts.1,
    ) refl

devices_sound : (behind : ℕ) (devices : List Device) → Rise behind devices → AllByRecursion (λ d. is_name d.file ≡ true) devices → AreDevices behind (devices_of devices)
devices_sound behind [] rise h = tt
devices_sound behind (d ∷ devices) rise h = (
  record { rises = rise.0; most = rise.1; name = stem_by (nat_lt 4 (length d.file)) d.file refl h.0; eds = h.0 },
  devices_sound d.node devices rise.2 h.1,
)

pub sound_devices : (devices : List Device) → AreSources devices → AreDevices 0 (devices_of devices)
sound_devices devices h =
    devices_sound 0 devices h.nodes (recursion_from_All (λ (d : Device). is_name d.file ≡ true) devices h.names)

-- each device has its row
more_nodes : (x : written.Device) (all : List written.Device) (devices : List Device) → AllByRecursion (λ (d : Device). HasNode all d.node) devices
    → AllByRecursion (λ (d : Device). HasNode (x ∷ all) d.node) devices
more_nodes x all [] h = tt
more_nodes x all (d ∷ devices) h = (inr h.0, more_nodes x all devices h.1)

pub have_nodes : (devices : List Device) → AllByRecursion (λ (d : Device). HasNode (devices_of devices) d.node) devices
have_nodes [] = tt
have_nodes (d ∷ devices) = (inl refl, more_nodes (record { node = d.node; name = stem d.file; eds = d.file }) (devices_of devices) devices (have_nodes devices))

pub count_devices : (devices : List Device) → length (devices_of devices) ≡ length devices
count_devices [] = refl
count_devices (d ∷ devices) = ap suc (count_devices devices)
