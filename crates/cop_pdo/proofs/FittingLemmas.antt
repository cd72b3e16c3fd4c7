-- Values that fit their types, as a payload has and gives them.
use Rattle.std.proofs.Common.{◌≡◌, ◌<◌, ◌≤◌, ◌/◌, ◌%◌, ◌^◌, ℕ, zero, suc, Bool, true, false, List, [], ◌∷◌, take, drop, All, get_or, Option, Some, None, IfSome, option_map, ap, sym, arith, ◌∙◌, true≢false, if◌then◌else◌, ◌||◌}
use Rattle.std.specs.Option.{option_map_or}
use Rattle.std.proofs.Math.Nat.{mod-lt}
use Rattle.std.proofs.lemmas.Nat.{pow_pos}
use Rattle.std.proofs.lemmas.Bool.{eqb-true}
use Rattle.std.proofs.lemmas.List.Elements.{All-head, All-tail, All-cons}
use Rattle.cop_dict.specs.declared.data_type.DataType.{DataType}
use Rattle.cop_dict.specs.declared.mapping.Direction.{Direction}
use Rattle.cop_dict.specs.declared.mapping.Mapped.{Mapped}
use Rattle.cop_dict.specs.Types.{bits_of}
use Rattle.cop_dict.specs.Number.{number}
use Rattle.cop_dict.specs.Find.{Entry, entry_at}
use Rattle.cop_dict.specs.Fitting.{FitsType, IsFitting, HasFittingValues}
use Rattle.cop_dict.specs.Mapping.{has_bits, is_dummy}
use Rattle.cop_dict.specs.Dict.{with_value}
use Rattle.cop_dict.proofs.FittingLemmas.{changes_fit}
use Rattle.cop_pdo.specs.Payload.{Layout, is_there, HasObjects}
use Rattle.cop_pdo.specs.Bits.{number_of_bits, bytes_of_bits, bytes_for, received, unpacked, IsProper, HasProperValues}
use Rattle.cop_pdo.proofs.BitLemmas.{low_bytes, bytes_are_low, number_taken}
use Rattle.cop_pdo.proofs.UnpackLemmas.{length_low, type_width, received_there}

has_some : (o : Option ℕ) (bits : ℕ) → has_bits bits o ≡ true → o ≡ Some bits
has_some None bits h = absurd (true≢false (sym h))
has_some (Some n) bits h = ap Some (eqb-true n bits h)

proper_of : (t : DataType) (bits : ℕ) (value : List ℕ) → has_bits bits (bits_of t) ≡ true → FitsType t value → IsProper bits value
proper_of t bits value h fit =
    let w = type_width t bits h in
    record { width = fit.width (bytes_for bits) w.0; bytes = fit.bytes (bytes_for bits) w.0; small = fit.small bits (has_some (bits_of t) bits h) }

fit_of : (t : DataType) (bits : ℕ) (value : List ℕ) → has_bits bits (bits_of t) ≡ true → IsProper bits value → FitsType t value
fit_of t bits value h proper =
    let w = type_width t bits h in
    record {
      width = λ width e. (let g : Some width ≡ Some (bytes_for bits) = sym e ∙ w.0 in let same : width ≡ bytes_for bits = cc in proper.width ∙ sym same);
      bytes = λ width e. proper.bytes;
      small = λ b e. (let g : Some b ≡ Some bits = sym e ∙ has_some (bits_of t) bits h in let same : bits ≡ b = cc in rw (← same) proper.small);
    }

pub mapped_fit : (dict : List Entry) (layout : Layout) → HasObjects dict layout → HasFittingValues dict → HasProperValues dict layout
mapped_fit dict layout there all = λ k d inside object.
    let m : Mapped = get_or layout.entries k d in
    by_entry m.bits (entry_at dict m.index m.sub) (rw object at (there k d inside)) (all m.index m.sub)
  where
    by_entry : (bits : ℕ) (o : Option Entry) → option_map_or (λ entry. has_bits bits (bits_of entry.description.data_type)) o false ≡ true → IfSome o IsFitting
        → IfSome (option_map (λ entry. entry.value) o) (IsProper bits)
    by_entry bits None h fit = tt
    by_entry bits (Some e) h fit = proper_of e.description.data_type bits e.value h fit.value

-- ---- what bits give

low_small : (k n : ℕ) → All (λ byte. byte < 256) (low_bytes k n)
low_small zero n = λ k d inside. absurd (omega (arith, inside))
low_small (suc k) n = All-cons (λ byte. byte < 256) (n % 256) (low_bytes k (n / 256)) (omega arith) (low_small k (n / 256))

low_number : (k n : ℕ) → number (low_bytes k n) ≤ n
low_number zero n = omega arith
low_number (suc k) n = let rest = low_number k (n / 256) in omega (arith, rest)

below : (a b c : ℕ) → a ≤ b → b < c → a < c
below a b c le less = omega (arith, le, less)

taken_proper : (bits : ℕ) (all : List Bool) → IsProper bits (bytes_of_bits (bytes_for bits) (take bits all))
taken_proper bits all =
    let value = number_of_bits (take bits all) in
    rw (bytes_are_low (bytes_for bits) (take bits all))
    (record {
      width = length_low (bytes_for bits) value;
      bytes = low_small (bytes_for bits) value;
      small = below _ value (2 ^ bits) (low_number (bytes_for bits) value) (rw (number_taken bits all) (mod-lt (number_of_bits all) (pow_pos bits)));
    })

received_fits : (dict : List Entry) (direction : Direction) (m : Mapped) (all : List Bool) → is_there dict direction m ≡ true → HasFittingValues dict
    → HasFittingValues (received dict direction m (take m.bits all))
received_fits dict direction m all there fit = by_dummy (is_dummy direction m) there
  where
    by_entry : (o : Option Entry) → option_map_or (λ entry. has_bits m.bits (bits_of entry.description.data_type)) o false ≡ true
        → IfSome o (λ entry. FitsType entry.description.data_type (bytes_of_bits (bytes_for m.bits) (take m.bits all)))
    by_entry None h = tt
    by_entry (Some e) h = fit_of e.description.data_type m.bits (bytes_of_bits (bytes_for m.bits) (take m.bits all)) h (taken_proper m.bits all)

    by_dummy : (b : Bool) → (b || option_map_or (λ entry. has_bits m.bits (bits_of entry.description.data_type)) (entry_at dict m.index m.sub) false) ≡ true
        → HasFittingValues (if b then dict else with_value m.index m.sub (bytes_of_bits (bytes_for m.bits) (take m.bits all)) dict)
    by_dummy true h = fit
    by_dummy false h = changes_fit dict m.index m.sub (bytes_of_bits (bytes_for m.bits) (take m.bits all)) (by_entry (entry_at dict m.index m.sub) h) fit

pub unpacking_fits : (direction : Direction) (entries : List Mapped) (dict : List Entry) (bits : List Bool) → All (λ mapped. is_there dict direction mapped ≡ true) entries
    → HasFittingValues dict → HasFittingValues (unpacked dict direction entries bits)
unpacking_fits direction [] dict bits there fit = fit
unpacking_fits direction (m ∷ rest) dict bits there fit =
    unpacking_fits direction rest (received dict direction m (take m.bits bits)) (drop m.bits bits)
    (received_there dict direction m (take m.bits bits) rest (All-tail (λ mapped. is_there dict direction mapped ≡ true) m rest there))
    (received_fits dict direction m bits (All-head (λ mapped. is_there dict direction mapped ≡ true) m rest there) fit)
