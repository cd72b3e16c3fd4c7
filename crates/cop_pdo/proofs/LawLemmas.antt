-- Objects of a mapping stay, and unpacking restores what was packed.
use Rattle.std.proofs.Common.{◌≡◌, ◌<◌, ◌+◌, ◌*◌, ◌/◌, ◌%◌, ℕ, Bool, true, false, not, ◌&&◌, ◌||◌, ◌==◌, List, [], ◌∷◌, ◌++◌, take, drop, length, All, get_or, Option, Some, None, IfSome, option_map, Ok, refl, ap, sym, arith, ◌∙◌, subst, true≢false, if◌then◌else◌, cond}
use Rattle.std.proofs.Math.Nat.{mod-eq_of_lt}
use Rattle.std.proofs.lemmas.Bool.{eqb-true, and_parts, or_parts}
use Rattle.std.proofs.Math.Seq.{take-append_seam, drop-append_seam}
use Rattle.std.proofs.lemmas.List.Elements.{All-head, All-tail}
use Rattle.cop_dict.specs.declared.mapping.Direction.{Direction}
use Rattle.cop_dict.specs.declared.mapping.Mapped.{Mapped}
use Rattle.cop_dict.specs.Number.{number}
use Rattle.cop_dict.specs.Find.{Entry, entry_at}
use Rattle.cop_dict.specs.Types.{bits_of}
use Rattle.cop_dict.specs.Mapping.{has_bits, is_dummy, is_between}
use Rattle.std.specs.Option.{option_map_or}
use Rattle.cop_dict.specs.Dict.{written, with_value, valued, as_built, reset_communication, initial, initial_communication}
use Rattle.cop_dict.proofs.Replaced.{accepts, value_replaced, pointwise}
use Rattle.cop_dict.proofs.LawLemmas.{others}
use Rattle.cop_pdo.specs.Payload.{Layout, is_there, HasObjects}
use Rattle.cop_pdo.specs.Bits.{bits_of_number, bytes_of_bits, bytes_for, bits_of_entries, mapped_number, received, unpacked, is_mapped, value_at, IsProper}
use Rattle.cop_pdo.proofs.BitLemmas.{low_bytes, bytes_are_low, number_lowest, length_lowest}
use Rattle.cop_pdo.proofs.UnpackLemmas.{value_there, received_there}

pub stores_leave : (dict : List Entry) (index sub : ℕ) (bytes : List ℕ) (layout : Layout) → HasObjects dict layout → HasObjects (with_value index sub bytes dict) layout
stores_leave dict index sub bytes layout all = λ k d inside. value_there dict layout.direction (get_or layout.entries k d) index sub bytes ∙ all k d inside

pub writes_leave : (dict new : List Entry) (index sub : ℕ) (bytes : List ℕ) (layout : Layout) → written dict index sub bytes ≡ Ok new → HasObjects dict layout → HasObjects new layout
writes_leave dict new index sub bytes layout h all =
    subst (λ (d : List Entry). HasObjects d layout) (sym (accepts dict new index sub bytes h).same) (stores_leave dict index sub bytes layout all)

-- a change that leaves descriptions leaves the objects
width_kept : (o : Option Entry) (f : Entry → Entry) (bits : ℕ) → ((e : Entry) → (f e).description ≡ e.description)
    → option_map_or (λ entry. has_bits bits (bits_of entry.description.data_type)) (option_map f o) false ≡ option_map_or (λ entry. has_bits bits (bits_of entry.description.data_type)) o false
width_kept None f bits kept = refl
width_kept (Some e) f bits kept = rw (kept e) refl

map_leaves : (dict new : List Entry) (f : Entry → Entry) (layout : Layout) → ((e : Entry) → (f e).description ≡ e.description)
    → ((index sub : ℕ) → entry_at new index sub ≡ option_map f (entry_at dict index sub)) → HasObjects dict layout → HasObjects new layout
map_leaves dict new f layout kept at all = λ k d inside.
    let m : Mapped = get_or layout.entries k d in
    ap (λ (b : Bool). is_dummy layout.direction m || b) (rw (at m.index m.sub) (width_kept (entry_at dict m.index m.sub) f m.bits kept)) ∙ all k d inside

built_described : (e : Entry) → (as_built e).description ≡ e.description
built_described e = refl

reset_described : (e : Entry) → (reset_communication e).description ≡ e.description
reset_described e = by (is_between 0x1000 0x1FFF e.index) where
  by : (b : Bool) → (cond b (as_built e) e).description ≡ e.description
  by true = refl
  by false = refl

pub resets_leave : (dict : List Entry) (layout : Layout) → HasObjects dict layout → HasObjects (initial dict) layout × HasObjects (initial_communication dict) layout
resets_leave dict layout all = (
  map_leaves dict (initial dict) as_built layout built_described (λ index sub. (pointwise dict index sub).0) all,
  map_leaves dict (initial_communication dict) reset_communication layout reset_described (λ index sub. (pointwise dict index sub).1) all,
)

-- ---- bytes give their number, and the number's bytes are they

low_is : (value : List ℕ) → All (λ byte. byte < 256) value → low_bytes (length value) (number value) ≡ value
low_is [] all = refl
low_is (b ∷ bs) all =
    let small : b < 256 = All-head (λ byte. byte < 256) b bs all in
    let first : (b + 256 * number bs) % 256 ≡ b = omega (arith, small) in
    let rest : (b + 256 * number bs) / 256 ≡ number bs = omega (arith, small) in
    rw (first, rest, low_is bs (All-tail (λ byte. byte < 256) b bs all)) refl

value_is : (bits : ℕ) (value : List ℕ) → IsProper bits value → bytes_of_bits (bytes_for bits) (bits_of_number bits (number value)) ≡ value
value_is bits value proper =
    bytes_are_low (bytes_for bits) (bits_of_number bits (number value))
    ∙ rw (number_lowest bits (number value), mod-eq_of_lt proper.small, ← proper.width) (low_is value proper.bytes)

-- ---- the bits of a payload, entry by entry

first_bits : (n value : ℕ) (bits : List Bool) → take n (bits_of_number n value ++ bits) ≡ bits_of_number n value
first_bits n value bits = rw (length_lowest n value) at (take-append_seam (bits_of_number n value) bits)

other_bits : (n value : ℕ) (bits : List Bool) → drop n (bits_of_number n value ++ bits) ≡ bits
other_bits n value bits = rw (length_lowest n value) at (drop-append_seam (bits_of_number n value) bits)

one_entry : (dict now : List Entry) (direction : Direction) (m : Mapped) (rest : List Mapped)
    → unpacked now direction (m ∷ rest) (bits_of_entries dict direction (m ∷ rest))
    ≡ unpacked (received now direction m (bits_of_number m.bits (mapped_number dict direction m))) direction rest (bits_of_entries dict direction rest)
one_entry dict now direction m rest =
    rw (first_bits m.bits (mapped_number dict direction m) (bits_of_entries dict direction rest), other_bits m.bits (mapped_number dict direction m) (bits_of_entries dict direction rest)) refl

received_leaves : (now : List Entry) (direction : Direction) (m : Mapped) (bits : List Bool) (index sub : ℕ) (dummy : Bool)
    → (not dummy && ((m.index == index) && (m.sub == sub))) ≡ false
    → entry_at (if dummy then now else with_value m.index m.sub (bytes_of_bits (bytes_for m.bits) bits) now) index sub ≡ entry_at now index sub
received_leaves now direction m bits index sub true h = refl
received_leaves now direction m bits index sub false h = others now m.index m.sub index sub (bytes_of_bits (bytes_for m.bits) bits) h

-- what no entry maps stays as it is, whatever is received
pub leaves_others : (direction : Direction) (entries : List Mapped) (now : List Entry) (bits : List Bool) (index sub : ℕ) → is_mapped direction entries index sub ≡ false
    → entry_at (unpacked now direction entries bits) index sub ≡ entry_at now index sub
leaves_others direction [] now bits index sub h = refl
leaves_others direction (m ∷ rest) now bits index sub h =
    leaves_others direction rest (received now direction m (take m.bits bits)) (drop m.bits bits) index sub (or_parts _ _ h).1
    ∙ received_leaves now direction m (take m.bits bits) index sub (is_dummy direction m) (or_parts _ _ h).0

negated : (a : Bool) → not a ≡ true → a ≡ false
negated true h = absurd (true≢false (sym h))
negated false h = refl

-- the value of an object that is there
holds : (o : Option Entry) (bits : ℕ) → option_map_or (λ entry. has_bits bits (bits_of entry.description.data_type)) o false ≡ true → IfSome (option_map (λ entry. entry.value) o) (IsProper bits)
    → (value : List ℕ) × (option_map (λ entry. entry.value) o ≡ Some value) × IsProper bits value × (option_map_or (λ entry. number entry.value) o 0 ≡ number value)
holds None bits h proper = absurd (true≢false (sym h))
holds (Some e) bits h proper = (e.value, refl, proper, refl)

given : (o : Option Entry) (bits : ℕ) (value : List ℕ) → option_map_or (λ entry. has_bits bits (bits_of entry.description.data_type)) o false ≡ true
    → option_map (λ entry. entry.value) (option_map (valued value) o) ≡ Some value
given None bits value h = absurd (true≢false (sym h))
given (Some e) bits value h = refl

-- an object that an entry maps gets the value that was packed
received_gives : (dict now : List Entry) (direction : Direction) (m : Mapped) (index sub : ℕ) → is_there dict direction m ≡ true → is_there now direction m ≡ true
    → (is_dummy direction m ≡ false → IfSome (value_at dict m.index m.sub) (IsProper m.bits))
    → (not (is_dummy direction m) && ((m.index == index) && (m.sub == sub))) ≡ true
    → value_at (received now direction m (bits_of_number m.bits (mapped_number dict direction m))) index sub ≡ value_at dict index sub
received_gives dict now direction m index sub there here proper h =
    let object : is_dummy direction m ≡ false = negated (is_dummy direction m) (and_parts _ _ h).0 in
    let i : m.index ≡ index = eqb-true m.index index (and_parts _ _ (and_parts _ _ h).1).0 in
    let s : m.sub ≡ sub = eqb-true m.sub sub (and_parts _ _ (and_parts _ _ h).1).1 in
    let v = holds (entry_at dict m.index m.sub) m.bits (rw object at there) (proper object) in
    rw (← i, ← s, object, v.3, value_is m.bits v.0 v.2, value_replaced now m.index m.sub v.0)
    (given (entry_at now m.index m.sub) m.bits v.0 (rw object at here) ∙ sym v.1)

stays_there : (dict now : List Entry) (direction : Direction) (m : Mapped) (bits : List Bool) (rest : List Mapped)
    → All (λ mapped. is_there now direction mapped ≡ true) rest → All (λ mapped. is_there (received now direction m bits) direction mapped ≡ true) rest
stays_there dict now direction m bits rest all = received_there now direction m bits rest all

pub restores : (dict : List Entry) (direction : Direction) (entries : List Mapped) (now : List Entry) (index sub : ℕ)
    → All (λ mapped. is_there dict direction mapped ≡ true) entries → All (λ mapped. is_there now direction mapped ≡ true) entries
    → All (λ mapped. is_dummy direction mapped ≡ false → IfSome (value_at dict mapped.index mapped.sub) (IsProper mapped.bits)) entries
    → is_mapped direction entries index sub ≡ true
    → value_at (unpacked now direction entries (bits_of_entries dict direction entries)) index sub ≡ value_at dict index sub
restores dict direction [] now index sub there here proper h = absurd (true≢false (sym h))
restores dict direction (m ∷ rest) now index sub there here proper h =
    let bits : List Bool = bits_of_number m.bits (mapped_number dict direction m) in
    rw (one_entry dict now direction m rest)
    (by (is_mapped direction rest index sub) refl
    (restores dict direction rest (received now direction m bits) index sub
    (All-tail (λ mapped. is_there dict direction mapped ≡ true) m rest there)
    (stays_there dict now direction m bits rest (All-tail (λ mapped. is_there now direction mapped ≡ true) m rest here))
    (All-tail (λ mapped. is_dummy direction mapped ≡ false → IfSome (value_at dict mapped.index mapped.sub) (IsProper mapped.bits)) m rest proper)))
  where
    last : (a b : Bool) → (a || b) ≡ true → b ≡ false → a ≡ true
    last true b h e = refl
    last false b h e = sym (sym h ∙ e)

    by : (b : Bool) → is_mapped direction rest index sub ≡ b
        → (is_mapped direction rest index sub ≡ true → value_at (unpacked (received now direction m (bits_of_number m.bits (mapped_number dict direction m))) direction rest (bits_of_entries dict direction rest)) index sub ≡ value_at dict index sub)
        → value_at (unpacked (received now direction m (bits_of_number m.bits (mapped_number dict direction m))) direction rest (bits_of_entries dict direction rest)) index sub ≡ value_at dict index sub
    by true e below = below e
    by false e below =
        ap (λ (o : Option Entry). option_map (λ entry. entry.value) o) (leaves_others direction rest (received now direction m (bits_of_number m.bits (mapped_number dict direction m))) (bits_of_entries dict direction rest) index sub e)
        ∙ received_gives dict now direction m index sub
        (All-head (λ mapped. is_there dict direction mapped ≡ true) m rest there)
        (All-head (λ mapped. is_there now direction mapped ≡ true) m rest here)
        (All-head (λ mapped. is_dummy direction mapped ≡ false → IfSome (value_at dict mapped.index mapped.sub) (IsProper mapped.bits)) m rest proper)
        (last _ _ h e)
