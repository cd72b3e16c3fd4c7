-- A text whose keys are set is accepted, and its dictionary has the values that are set.
use Rattle.std.proofs.Common.{◌≡◌, ◌<◌, ◌≤◌, ℕ, ◌*◌, ◌^◌, true, false, ◌==◌, List, [], ◌∷◌, map, length, Option, Ok, refl, codes, decimal, arith}
use Rattle.std.proofs.lemmas.Bool.Decides.{nat_tests}
use Rattle.cop_frame.specs.declared.rates.Rate.{Rate}
use Rattle.cop_frame.specs.declared.rates.Rate.TheVariants.{Kbit10, Kbit20, Kbit50, Kbit125, Kbit250, Kbit500, Kbit800, Kbit1000}
use Rattle.std.proofs.Common.{nat_lt}
use Rattle.std.specs.Str.Parse.{IsNumeral}
use Rattle.std.proofs.lemmas.Fmt.{decimal_is_IsNumeral}
use Rattle.std.proofs.lemmas.Str.Parse.{digit_from_value}
use Rattle.cop_eds.specs.Names.{same_section}
use Rattle.cop_eds.specs.Rates.{rate_key}
use Rattle.cop_eds.specs.Reading.{reading}
use Rattle.cop_eds.specs.Objects.{objects_of}
use Rattle.cop_dict.specs.Find.{Entry}
use Rattle.cop_dict.specs.Build.{built}
use Rattle.cop_eds.specs.Edits.{Change}
use Rattle.cop_dcf.specs.Planned.{settled}
use Rattle.cop_eds.proofs.ReadingLemmas.{LeavesObjects, LeavesLists, reading_kept, objects_seen}
use Rattle.cop_dcf.proofs.BuildLemmas.{Word, LeavesLimits, AreSet, entry_set, built_kept}
use Rattle.cop_eds.proofs.KeepsLemmas.{is_added, is_set, IsEdit, edit_keeps, edit_lawful}

leaves_objects : LeavesObjects is_set
leaves_objects = record { object_type = refl; compact = refl; data_type = refl; access = refl; count = refl; mapping = refl }

leaves_limits : LeavesLimits is_set
leaves_limits = record { default = refl; low = refl; high = refl }

leaves_rates : (rate : Rate) → is_set (rate_key rate) ≡ false
leaves_rates Kbit10 = refl
leaves_rates Kbit20 = refl
leaves_rates Kbit50 = refl
leaves_rates Kbit125 = refl
leaves_rates Kbit250 = refl
leaves_rates Kbit500 = refl
leaves_rates Kbit800 = refl
leaves_rates Kbit1000 = refl

-- no key that is set begins with a digit
no_digit : (d : ℕ) (ds : List ℕ) → d < 58 → is_set (d ∷ ds) ≡ false
no_digit d ds small =
    let same : nat_lt d 65 ≡ true = grind (arith, nat_tests) in
    let p : (112 == d) ≡ false = grind (arith, nat_tests) in
    let l : (108 == d) ≡ false = grind (arith, nat_tests) in
    let n : (110 == d) ≡ false = grind (arith, nat_tests) in
    let b : (98 == d) ≡ false = grind (arith, nat_tests) in
    rw (same, p, l, n, b) refl

leaves_numbers : (i : ℕ) → i < 2 ^ 64 → is_set (decimal i) ≡ false
leaves_numbers i small = by_digits (decimal i) (decimal_is_IsNumeral i small).0
  where
    by_digits : (ds : List ℕ) → IsNumeral 10 ds → is_set ds ≡ false
    by_digits [] h = absurd (omega (arith, h.0))
    by_digits (d ∷ ds) h = let range = digit_from_value d h.1.0 in no_digit d ds (omega (arith, range.1))

leaves_names : (is_added (codes "DeviceInfo") ≡ false) × (is_added (codes "MandatoryObjects") ≡ false) × (is_added (codes "OptionalObjects") ≡ false) × (is_added (codes "ManufacturerObjects") ≡ false)
unfolding same_section
leaves_names = (refl, refl, refl, refl)

leaves_lists : LeavesLists is_added is_set
leaves_lists = record {
  info = leaves_names.0;
  mandatory = leaves_names.1;
  optional = leaves_names.2;
  manufacturer = leaves_names.3;
  rates = leaves_rates;
  count = refl;
  numbers = leaves_numbers;
}

-- an edit of an accepted text is accepted, if it is no longer than texts may be
pub edit_accepted : (old new : List ℕ) (cs : List Change) → IsEdit old new cs → reading old ≡ Ok old → length new ≤ 4 * 1024 * 1024 → reading new ≡ Ok new
edit_accepted old new cs edit e small =
    reading_kept is_added is_set old new (edit_keeps old new cs edit) leaves_objects leaves_lists e small (edit_lawful old new cs edit e)

-- and its dictionary is the old one with the values that are set, as its initial values
pub edit_built : (old new : List ℕ) (cs : List Change) (node : ℕ) (words : ℕ → ℕ → Option Word) (dict : List Entry) → IsEdit old new cs → reading old ≡ Ok old
    → AreSet words old new (objects_of old) → built old node ≡ Ok dict → built new node ≡ Ok (map (λ e. settled (entry_set words e)) dict)
edit_built old new cs node words dict edit e set h =
    let keeps = edit_keeps old new cs edit in
    built_kept is_added is_set old new node words dict keeps leaves_limits (objects_seen is_added is_set old new keeps leaves_objects leaves_lists e) set h
