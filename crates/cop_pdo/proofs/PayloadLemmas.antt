-- The layout of a mapping record, and what holds of it.
use Rattle.std.proofs.Common.{◌≡◌, ◌<◌, ◌≤◌, ◌+◌, ℕ, zero, suc, Bool, true, false, List, [], ◌∷◌, length, All, nat_lt, Option, Some, None, Result, Ok, Err, refl, ap, sym, subst, arith, ◌∙◌, option_and_then, if◌then◌else◌, true≢false}
use Rattle.std.specs.Option.{option_map_or}
use Rattle.std.proofs.lemmas.Bool.{ltb-true, ltb-false, lt-ltb, and_parts}
use Rattle.std.proofs.lemmas.List.Elements.{All-cons, All-nil}
use Rattle.cop_dict.specs.declared.mapping.Mapped.{Mapped}
use Rattle.cop_dict.specs.declared.mapping.Direction.{Direction}
use Rattle.cop_dict.specs.declared.mapping.Direction.TheVariants as directions
use Rattle.cop_dict.specs.declared.mapping.MappingFault.{MappingFault}
use Rattle.cop_dict.specs.declared.mapping.MappingFault.TheVariants as faults
use Rattle.cop_dict.specs.declared.data_type.DataType.{DataType}
use Rattle.cop_dict.specs.declared.data_type.DataType.TheVariants as types
use Rattle.cop_dict.specs.Types.{bits_of, type_numbered}
use Rattle.cop_dict.specs.Find.{Entry, entry_at, unsigned32_of}
use Rattle.cop_dict.specs.Mapping.{mapped_at, mapped_from, mapped_by, mapped_number, mapped_object, can_map, has_bits, is_dummy, direction_of, fields_of, layout, total_bits, ◌>>=◌}
use Rattle.cop_pdo.specs.Payload.{is_there, mapping_of}

pub too_many : (dict : List Entry) (at count : ℕ) → 64 < count → layout dict at count ≡ Err faults.TooLong
unfolding layout
too_many dict at count many = rw (lt-ltb 64 count many) refl

not_above : (n : ℕ) → n ≤ 64 → nat_lt 64 n ≡ false
not_above n h = by (nat_lt 64 n) refl where
  by : (b : Bool) → nat_lt 64 n ≡ b → nat_lt 64 n ≡ false
  by true e = absurd (omega (arith, ltb-true 64 n e))
  by false e = e

pub stops : (dict : List Entry) (at count : ℕ) (fault : MappingFault) → count ≤ 64 → mapped_from dict at 1 count ≡ Err fault → layout dict at count ≡ Err fault
unfolding layout
stops dict at count fault few h = rw (not_above count few, h) refl

pub too_long : (dict : List Entry) (at count : ℕ) (entries : List Mapped) → count ≤ 64 → mapped_from dict at 1 count ≡ Ok entries → 64 < total_bits entries → layout dict at count ≡ Err faults.TooLong
unfolding layout
too_long dict at count entries few h many = rw (not_above count few, h, lt-ltb 64 (total_bits entries) many) refl

pub fits : (dict : List Entry) (at count : ℕ) (entries : List Mapped) → count ≤ 64 → mapped_from dict at 1 count ≡ Ok entries → total_bits entries ≤ 64 → layout dict at count ≡ Ok entries
unfolding layout
fits dict at count entries few h small = rw (not_above count few, h, not_above (total_bits entries) small) refl

-- a type has no values of no bits
no_bits : (t : DataType) → has_bits 0 (bits_of t) ≡ false
no_bits types.Boolean = refl
no_bits types.Integer8 = refl
no_bits types.Integer16 = refl
no_bits types.Integer32 = refl
no_bits types.Integer64 = refl
no_bits types.Unsigned8 = refl
no_bits types.Unsigned16 = refl
no_bits types.Unsigned32 = refl
no_bits types.Unsigned64 = refl
no_bits types.Real32 = refl
no_bits types.Real64 = refl
no_bits types.VisibleString = refl
no_bits types.OctetString = refl
no_bits types.Domain = refl
no_bits types.Opaque = refl

some_bits : (t : DataType) (bits : ℕ) → has_bits bits (bits_of t) ≡ true → 1 ≤ bits
some_bits t zero h = absurd (true≢false (sym h ∙ no_bits t))
some_bits t (suc n) h = omega arith

-- what a mapping entry that can be used says
abbrev pub IsUsable : List Entry → Direction → Mapped → Type 0
IsUsable dict direction m = (is_there dict direction m ≡ true) × (1 ≤ m.bits)

-- a dummy entry has bits
dummy_bits : (direction : Direction) (m : Mapped) → is_dummy direction m ≡ true → 1 ≤ m.bits
dummy_bits directions.Receive m h = some_bits (type_numbered m.index) m.bits (and_parts _ _ h).1
dummy_bits directions.Transmit m h = absurd (true≢false (sym h))

abbrev has_bits_in : Option Entry → Mapped → Bool
has_bits_in o m = option_map_or (λ entry. has_bits m.bits (bits_of entry.description.data_type)) o false

object_usable : (dict : List Entry) (direction : Direction) (m found : Mapped) (o : Option Entry) → o ≡ entry_at dict m.index m.sub → mapped_object direction m o ≡ Ok found
    → (found ≡ m) × (has_bits_in o m ≡ true)
object_usable dict direction m found None e h = let no : ◌≡◌ {A = Result Mapped MappingFault} (Err faults.NoObject) (Ok found) = h in cc
object_usable dict direction m found (Some entry) e h = by (can_map direction m entry) refl where
  by : (b : Bool) → can_map direction m entry ≡ b → (found ≡ m) × (has_bits m.bits (bits_of entry.description.data_type) ≡ true)
  by true t = (let same : ◌≡◌ {A = Result Mapped MappingFault} (Ok m) (Ok found) = sym (rw t refl) ∙ h in cc, (and_parts _ _ (and_parts _ _ t).0).1)
  by false t = let no : ◌≡◌ {A = Result Mapped MappingFault} (Err faults.NotMappable) (Ok found) = sym (rw t refl) ∙ h in cc

bits_there : (o : Option Entry) (m : Mapped) → has_bits_in o m ≡ true → 1 ≤ m.bits
bits_there None m h = absurd (true≢false (sym h))
bits_there (Some entry) m h = some_bits entry.description.data_type m.bits h

-- an entry that can be used stands for an object that is there, or for bits that go nowhere
by_usable : (dict : List Entry) (direction : Direction) (m found : Mapped) → mapped_by dict direction m ≡ Ok found → IsUsable dict direction found
by_usable dict direction m found h = by (is_dummy direction m) refl where
  by : (b : Bool) → is_dummy direction m ≡ b → IsUsable dict direction found
  by true t =
      let same : m ≡ found = let e : ◌≡◌ {A = Result Mapped MappingFault} (Ok m) (Ok found) = sym (rw t refl) ∙ h in cc in
      rw (← same) (rw t refl, dummy_bits direction m t)
  by false t =
      let u = object_usable dict direction m found (entry_at dict m.index m.sub) refl (sym (rw t refl) ∙ h) in
      rw u.0 (rw (t, u.1) refl, bits_there (entry_at dict m.index m.sub) m u.1)

number_usable : (dict : List Entry) (direction : Direction) (o : Option ℕ) (found : Mapped) → mapped_number dict direction o ≡ Ok found → IsUsable dict direction found
number_usable dict direction None found h = let no : ◌≡◌ {A = Result Mapped MappingFault} (Err faults.Absent) (Ok found) = h in cc
number_usable dict direction (Some n) found h = by_usable dict direction (fields_of n) found h

mapped_usable : (dict : List Entry) (at sub : ℕ) (found : Mapped) → mapped_at dict at sub ≡ Ok found → IsUsable dict (direction_of at) found
unfolding mapped_at
mapped_usable dict at sub found h = number_usable dict (direction_of at) (option_and_then unsigned32_of (entry_at dict at sub)) found h

-- and so does each entry of a record
pub all_usable : (dict : List Entry) (at sub count : ℕ) (entries : List Mapped) → mapped_from dict at sub count ≡ Ok entries → All (IsUsable dict (direction_of at)) entries × (length entries ≡ count)
all_usable dict at sub zero entries h =
    let none : [] ≡ entries = let e : ◌≡◌ {A = Result (List Mapped) MappingFault} (Ok []) (Ok entries) = h in cc in
    rw (← none) (All-nil (IsUsable dict (direction_of at)), refl)
all_usable dict at sub (suc count) entries h =
    split (mapped_at dict at sub) refl (mapped_from dict at (sub + 1) count) (λ rest e. all_usable dict at (sub + 1) count rest e) h
  where
    split : (r : Result Mapped MappingFault) → mapped_at dict at sub ≡ r → (rs : Result (List Mapped) MappingFault)
        → ((rest : List Mapped) → rs ≡ Ok rest → All (IsUsable dict (direction_of at)) rest × (length rest ≡ count))
        → (r >>= λ first. rs >>= λ rest. Ok (first ∷ rest)) ≡ Ok entries → All (IsUsable dict (direction_of at)) entries × (length entries ≡ suc count)
    split (Err e) is rs below h = let no : ◌≡◌ {A = Result (List Mapped) MappingFault} (Err e) (Ok entries) = h in cc
    split (Ok first) is (Err e) below h = let no : ◌≡◌ {A = Result (List Mapped) MappingFault} (Err e) (Ok entries) = h in cc
    split (Ok first) is (Ok rest) below h =
        let same : first ∷ rest ≡ entries = let e : ◌≡◌ {A = Result (List Mapped) MappingFault} (Ok (first ∷ rest)) (Ok entries) = h in cc in
        let b = below rest refl in
        rw (← same) (All-cons (IsUsable dict (direction_of at)) first rest (mapped_usable dict at sub first is) b.0, ap (λ (n : ℕ). suc n) b.1)

few : (count : ℕ) (entries : List Mapped) (r : Result (List Mapped) MappingFault) (b : Bool) → nat_lt 64 count ≡ b
    → (if b then Err faults.TooLong else (r >>= λ mapped. if nat_lt 64 (total_bits mapped) then Err faults.TooLong else Ok mapped)) ≡ Ok entries
    → (count ≤ 64) × (r ≡ Ok entries) × (total_bits entries ≤ 64)
few count entries r true e h = let no : ◌≡◌ {A = Result (List Mapped) MappingFault} (Err faults.TooLong) (Ok entries) = h in cc
few count entries (Err f) false e h = let no : ◌≡◌ {A = Result (List Mapped) MappingFault} (Err f) (Ok entries) = h in cc
few count entries (Ok mapped) false e h = by (nat_lt 64 (total_bits mapped)) refl where
  by : (b : Bool) → nat_lt 64 (total_bits mapped) ≡ b → (count ≤ 64) × (◌≡◌ {A = Result (List Mapped) MappingFault} (Ok mapped) (Ok entries)) × (total_bits entries ≤ 64)
  by true t = let no : ◌≡◌ {A = Result (List Mapped) MappingFault} (Err faults.TooLong) (Ok entries) = sym (rw t refl) ∙ h in cc
  by false t =
      let same : ◌≡◌ {A = Result (List Mapped) MappingFault} (Ok mapped) (Ok entries) = sym (rw t refl) ∙ h in
      let is : mapped ≡ entries = cc in
      (ltb-false 64 count e, same, rw (← is) (ltb-false 64 (total_bits mapped) t))

-- what a layout of a record is
pub record IsLayout (dict : List Entry) (direction : Direction) (entries : List Mapped) : Type 0 where
  pub count : length entries ≤ 64
  pub bits : total_bits entries ≤ 64
  pub usable : All (IsUsable dict direction) entries

pub layout_is : (dict : List Entry) (at count : ℕ) (entries : List Mapped) → layout dict at count ≡ Ok entries → IsLayout dict (direction_of at) entries
unfolding layout
layout_is dict at count entries h =
    let facts = few count entries (mapped_from dict at 1 count) (nat_lt 64 count) refl h in
    let all = all_usable dict at 1 count entries facts.1 in
    record { count = omega (arith, facts.0, all.1); bits = facts.2; usable = all.0 }

not_below : (n m : ℕ) → m ≤ n → nat_lt n m ≡ false
not_below n m h = by (nat_lt n m) refl where
  by : (b : Bool) → nat_lt n m ≡ b → nat_lt n m ≡ false
  by true e = absurd (omega (arith, ltb-true n m e))
  by false e = e

direction_is : (direction : Direction) (number : ℕ) → 1 ≤ number → number ≤ 512 → direction_of (mapping_of direction number) ≡ direction
direction_is directions.Receive number low high = rw (lt-ltb (0x13FF + number + 0x200) 0x1800 (omega arith)) refl
direction_is directions.Transmit number low high = rw (not_below (0x17FF + number + 0x200) 0x1800 (omega arith)) refl

-- the layout of a PDO
pub pdo_layout : (dict : List Entry) (direction : Direction) (number at count : ℕ) (entries : List Mapped) → 1 ≤ number → number ≤ 512 → at ≡ mapping_of direction number → layout dict at count ≡ Ok entries
    → IsLayout dict direction entries
pdo_layout dict direction number at count entries low high is h =
    subst (λ (d : Direction). IsLayout dict d entries) (rw is (direction_is direction number low high)) (layout_is dict at count entries h)
