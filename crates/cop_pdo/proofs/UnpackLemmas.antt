-- Values that a payload gives.
use Rattle.std.proofs.Common.{◌≡◌, ◌<◌, ◌≤◌, ◌+◌, ◌-◌, ◌*◌, ◌/◌, ◌%◌, ◌^◌, ℕ, zero, suc, Bool, true, false, List, [], ◌∷◌, take, drop, length, All, get_or, Option, Some, None, option_map, refl, ap, sym, arith, ◌∙◌, true≢false, if◌then◌else◌, ◌||◌, lit<}
use Rattle.std.specs.Option.{option_map_or}
use Rattle.std.specs.Int.{bytes_low_first, div_ceil}
use Rattle.std.proofs.Math.Nat.{mod-eq_of_lt, pow-le-pow_right, pow-succ', div-eq_of_lt}
use Rattle.std.proofs.Math.Seq.{take-length}
use Rattle.std.proofs.lemmas.Nat.{pow-add}
use Rattle.std.proofs.lemmas.Bool.{eqb-true}
use Rattle.cop_dict.specs.declared.data_type.DataType.{DataType}
use Rattle.cop_dict.specs.declared.data_type.DataType.TheVariants as types
use Rattle.cop_dict.specs.declared.mapping.Direction.{Direction}
use Rattle.cop_dict.specs.declared.mapping.Mapped.{Mapped}
use Rattle.cop_dict.specs.Types.{bits_of, width_of}
use Rattle.cop_dict.specs.Number.{number}
use Rattle.cop_dict.specs.Find.{Entry, entry_at, is_at}
use Rattle.cop_dict.specs.Mapping.{has_bits, is_dummy}
use Rattle.cop_dict.specs.Dict.{with_value, valued, FitsAt}
use Rattle.cop_dict.proofs.Replaced.{found_map}
use Rattle.cop_dict.proofs.DictLemmas.{valued_kept}
use Rattle.cop_pdo.specs.Payload.{is_there}
use Rattle.cop_pdo.specs.Bits.{number_of_bits, bytes_of_bits, bits_of_bytes, bytes_for, received, unpacked}
use Rattle.cop_pdo.proofs.BitLemmas.{low_bytes, bytes_are_low, std_bytes_are_low, number_lowest}
use Rattle.cop_pdo.proofs.MovingLemmas.{none, rest_of}

pub lowered_away : (n b : ℕ) → n < 2 ^ 64 → 64 ≤ b → 0 ≡ n / 2 ^ b
lowered_away n b h le = let wide : 2 ^ 64 ≤ 2 ^ b = pow-le-pow_right (lit< tt) le in sym (div-eq_of_lt (omega (arith, h, wide)))

take_low : (w k n : ℕ) → w ≤ k → take w (low_bytes k n) ≡ low_bytes w n
take_low zero k n h = refl
take_low (suc w) zero n h = absurd (omega (arith, h))
take_low (suc w) (suc k) n h = ap (λ (bytes : List ℕ). n % 256 ∷ bytes) (take_low w k (n / 256) (omega (arith, h)))

pub length_low : (k n : ℕ) → length (low_bytes k n) ≡ k
length_low zero n = refl
length_low (suc k) n = ap (λ (m : ℕ). suc m) (length_low k (n / 256))

-- the first bytes of a word are those of its bits
pub taken_bytes : (w value : ℕ) (bits : List Bool) → w ≤ 8 → number_of_bits bits ≡ value → take w (bytes_low_first 0 8 value) ≡ bytes_of_bits w bits
taken_bytes w value bits h e =
    ap (take w) (std_bytes_are_low 8 0 value ∙ ap (low_bytes 8) (omega arith)) ∙ take_low w 8 value h ∙ sym (rw e at (bytes_are_low w bits))

pub taken_length : (w value : ℕ) → w ≤ 8 → length (take w (bytes_low_first 0 8 value)) ≡ w
taken_length w value h =
    ap length (ap (take w) (std_bytes_are_low 8 0 value) ∙ take_low w 8 (value / 256 ^ 0) h) ∙ length_low w (value / 256 ^ 0)

-- so many bytes hold the bits of a type's values
pub type_width : (t : DataType) (bits : ℕ) → has_bits bits (bits_of t) ≡ true → (width_of t ≡ Some (bytes_for bits)) × (bits ≤ 64)
type_width types.Boolean bits h = let e : 1 ≡ bits = eqb-true 1 bits h in rw (← e) (refl, omega arith)
type_width types.Integer8 bits h = let e : 8 ≡ bits = eqb-true 8 bits h in rw (← e) (refl, omega arith)
type_width types.Integer16 bits h = let e : 16 ≡ bits = eqb-true 16 bits h in rw (← e) (refl, omega arith)
type_width types.Integer32 bits h = let e : 32 ≡ bits = eqb-true 32 bits h in rw (← e) (refl, omega arith)
type_width types.Integer64 bits h = let e : 64 ≡ bits = eqb-true 64 bits h in rw (← e) (refl, omega arith)
type_width types.Unsigned8 bits h = let e : 8 ≡ bits = eqb-true 8 bits h in rw (← e) (refl, omega arith)
type_width types.Unsigned16 bits h = let e : 16 ≡ bits = eqb-true 16 bits h in rw (← e) (refl, omega arith)
type_width types.Unsigned32 bits h = let e : 32 ≡ bits = eqb-true 32 bits h in rw (← e) (refl, omega arith)
type_width types.Unsigned64 bits h = let e : 64 ≡ bits = eqb-true 64 bits h in rw (← e) (refl, omega arith)
type_width types.Real32 bits h = let e : 32 ≡ bits = eqb-true 32 bits h in rw (← e) (refl, omega arith)
type_width types.Real64 bits h = let e : 64 ≡ bits = eqb-true 64 bits h in rw (← e) (refl, omega arith)
type_width types.VisibleString bits h = absurd (true≢false (sym h))
type_width types.OctetString bits h = absurd (true≢false (sym h))
type_width types.Domain bits h = absurd (true≢false (sym h))
type_width types.Opaque bits h = absurd (true≢false (sym h))

entry_width : (o : Option Entry) (bits : ℕ) → option_map_or (λ entry. has_bits bits (bits_of entry.description.data_type)) o false ≡ true
    → (option_map (λ entry. width_of entry.description.data_type) o ≡ Some (Some (bytes_for bits))) × (bits ≤ 64)
entry_width None bits h = absurd (true≢false (sym h))
entry_width (Some entry) bits h = let w = type_width entry.description.data_type bits h in (ap Some w.0, w.1)

pub there_width : (dict : List Entry) (direction : Direction) (m : Mapped) → is_there dict direction m ≡ true → is_dummy direction m ≡ false
    → (option_map (λ entry. width_of entry.description.data_type) (entry_at dict m.index m.sub) ≡ Some (Some (bytes_for m.bits))) × (m.bits ≤ 64)
there_width dict direction m h object = entry_width (entry_at dict m.index m.sub) m.bits (rw object at h)

-- a value that is received leaves every object there
same_width : (o : Option Entry) (f : Entry → Entry) (bits : ℕ) → ((e : Entry) → (f e).description ≡ e.description)
    → option_map_or (λ entry. has_bits bits (bits_of entry.description.data_type)) (option_map f o) false ≡ option_map_or (λ entry. has_bits bits (bits_of entry.description.data_type)) o false
same_width None f bits kept = refl
same_width (Some e) f bits kept = rw (kept e) refl

described : (index sub : ℕ) (bytes : List ℕ) (b : Bool) (e : Entry) → (if b then valued bytes e else e).description ≡ e.description
described index sub bytes true e = refl
described index sub bytes false e = refl

pub value_there : (dict : List Entry) (direction : Direction) (m : Mapped) (index sub : ℕ) (bytes : List ℕ) → is_there (with_value index sub bytes dict) direction m ≡ is_there dict direction m
value_there dict direction m index sub bytes =
    ap (λ (b : Bool). is_dummy direction m || b)
    (rw (found_map (λ entry. if is_at index sub entry then valued bytes entry else entry) (valued_kept index sub bytes) dict m.index m.sub)
    (same_width (entry_at dict m.index m.sub) (λ entry. if is_at index sub entry then valued bytes entry else entry) m.bits (λ e. described index sub bytes (is_at index sub e) e)))

pub received_same : (dict : List Entry) (direction : Direction) (m other : Mapped) (bits : List Bool) (b : Bool)
    → is_there (if b then dict else with_value m.index m.sub (bytes_of_bits (bytes_for m.bits) bits) dict) direction other ≡ is_there dict direction other
received_same dict direction m other bits true = refl
received_same dict direction m other bits false = value_there dict direction other m.index m.sub (bytes_of_bits (bytes_for m.bits) bits)

pub received_there : (dict : List Entry) (direction : Direction) (m : Mapped) (bits : List Bool) (entries : List Mapped)
    → All (λ mapped. is_there dict direction mapped ≡ true) entries → All (λ mapped. is_there (received dict direction m bits) direction mapped ≡ true) entries
received_there dict direction m bits entries all = λ k d inside. received_same dict direction m (get_or entries k d) bits (is_dummy direction m) ∙ all k d inside

pub rest_unpacked : (dict : List Entry) (direction : Direction) (xs : List Mapped) (bits : List Bool) → 1 ≤ length xs
    → unpacked dict direction xs bits ≡ unpacked (received dict direction (get_or xs 0 none) (take (get_or xs 0 none).bits bits)) direction (rest_of xs) (drop (get_or xs 0 none).bits bits)
rest_unpacked dict direction [] bits h = absurd (omega (arith, h))
rest_unpacked dict direction (x ∷ xs) bits h =
    let e : suc (length xs) - 1 ≡ length xs = omega arith in rw (e, take-length xs) refl

more : (n : ℕ) → 8 * suc n ≡ 8 + 8 * n
more n = omega arith

eight : (n : ℕ) → 2 ^ (8 * n) ≡ 256 ^ n
eight zero = refl
eight (suc n) = rw (more n, pow-add 2 8 (8 * n), eight n, pow-succ' 256 n) refl

pub bytes_number : (bytes : List ℕ) → number bytes < 256 ^ length bytes → number_of_bits (bits_of_bytes bytes) ≡ number bytes
bytes_number bytes h = number_lowest (8 * length bytes) (number bytes) ∙ mod-eq_of_lt (rw (eight (length bytes)) h)

-- bits in bytes, rounded up
pub ceil_is : (bits : ℕ) → div_ceil bits 8 ≡ bytes_for bits
ceil_is bits = omega arith

-- the bytes that are stored fit the object
pub stored_fits : (dict : List Entry) (direction : Direction) (m : Mapped) (width value : ℕ) → is_there dict direction m ≡ true → is_dummy direction m ≡ false → width ≡ bytes_for m.bits
    → FitsAt dict m.index m.sub (take width (bytes_low_first 0 8 value))
stored_fits dict direction m width value h object e =
    let w = there_width dict direction m h object in
    let few : width ≤ 8 = omega (arith, e, w.1) in
    rw (taken_length width value few, e) w.0

pub stored_length : (dict : List Entry) (direction : Direction) (m : Mapped) (width value : ℕ) → is_there dict direction m ≡ true → is_dummy direction m ≡ false → width ≡ bytes_for m.bits
    → width ≡ length (take width (bytes_low_first 0 8 value))
stored_length dict direction m width value h object e =
    let w = there_width dict direction m h object in
    let few : width ≤ 8 = omega (arith, e, w.1) in
    sym (taken_length width value few)

-- and are those of the bits
pub stored_is : (dict new : List Entry) (direction : Direction) (m : Mapped) (width value : ℕ) (bits : List Bool) → is_there dict direction m ≡ true → is_dummy direction m ≡ false → width ≡ bytes_for m.bits
    → new ≡ with_value m.index m.sub (take width (bytes_low_first 0 8 value)) dict → number_of_bits bits ≡ value → new ≡ received dict direction m bits
stored_is dict new direction m width value bits h object e is v =
    let w = there_width dict direction m h object in
    let few : width ≤ 8 = omega (arith, e, w.1) in
    is ∙ rw (object, taken_bytes width value bits few v, e) refl
