-- What one node sends, the other has.
use Rattle.std.proofs.Common.{◌≡◌, ◌+◌, ℕ, zero, suc, Bool, true, false, not, ◌&&◌, ◌||◌, ◌==◌, List, [], ◌∷◌, ◌++◌, take, drop, slice_get, All, Option, Some, None, option_map, refl, ap, sym, arith, ◌∙◌, subst, true≢false, if◌then◌else◌}
use Rattle.std.specs.Option.{option_map_or}
use Rattle.std.proofs.Math.Seq.{take-append_seam, drop-append_seam}
use Rattle.std.proofs.lemmas.Bool.{eqb-true, and_parts, or_parts}
use Rattle.std.proofs.lemmas.List.Elements.{All-head, All-tail}
use Rattle.std.proofs.lemmas.List.Sums.{sum_by-cons}
use Rattle.cop_dict.specs.declared.mapping.Direction.{Direction}
use Rattle.cop_dict.specs.declared.mapping.Mapped.{Mapped}
use Rattle.cop_dict.specs.Find.{Entry, entry_at}
use Rattle.cop_dict.specs.Types.{bits_of}
use Rattle.cop_dict.specs.Mapping.{has_bits, is_dummy, total_bits}
use Rattle.cop_dict.specs.Dict.{with_value, valued}
use Rattle.cop_dict.proofs.Replaced.{value_replaced}
use Rattle.cop_dict.proofs.LawLemmas.{others}
use Rattle.cop_pdo.specs.Payload.{Layout, is_there, HasObjects, has_span, spans_match, is_same_layout}
use Rattle.cop_pdo.specs.Bits.{bits_of_number, bytes_of_bits, bytes_for, bits_of_entries, payload_bits, mapped_number, received, unpacked, is_mapped, value_at}
use Rattle.cop_pdo.specs.Sent.{HasEntryAt}
use Rattle.cop_pdo.proofs.BitLemmas.{length_lowest}
use Rattle.cop_pdo.proofs.LawLemmas.{stores_leave}
use Rattle.cop_pdo.proofs.UnpackLemmas.{received_there}

-- ---- whatever is unpacked leaves the objects of each mapping

received_stays : (dict : List Entry) (m : Mapped) (bits : List Bool) (layout : Layout) (dummy : Bool) → HasObjects dict layout
    → HasObjects (if dummy then dict else with_value m.index m.sub (bytes_of_bits (bytes_for m.bits) bits) dict) layout
received_stays dict m bits layout true all = all
received_stays dict m bits layout false all = stores_leave dict m.index m.sub (bytes_of_bits (bytes_for m.bits) bits) layout all

pub unpacking_leaves : (dict : List Entry) (direction : Direction) (entries : List Mapped) (bits : List Bool) (layout : Layout) → HasObjects dict layout
    → HasObjects (unpacked dict direction entries bits) layout
unpacking_leaves dict direction [] bits layout all = all
unpacking_leaves dict direction (m ∷ rest) bits layout all =
    unpacking_leaves (received dict direction m (take m.bits bits)) direction rest (drop m.bits bits) layout
    (received_stays dict m (take m.bits bits) layout (is_dummy direction m) all)

-- ---- parts of conjunctions

unless_first : (a b : Bool) → a ≡ false → (a || b) ≡ true → b ≡ true
unless_first true b e h = absurd (true≢false e)
unless_first false b e h = h

drop_none : {A : Type 0} (xs : List A) → drop 0 xs ≡ xs
drop_none [] = refl
drop_none (x ∷ xs) = refl

drop_empty : {A : Type 0} (n : ℕ) → drop {A = A} n [] ≡ []
drop_empty zero = refl
drop_empty (suc n) = refl

drop_sum : {A : Type 0} (a b : ℕ) (xs : List A) → drop (a + b) xs ≡ drop b (drop a xs)
drop_sum zero b xs = let e : 0 + b ≡ b = omega arith in ap (λ (n : ℕ). drop n xs) e ∙ ap (drop b) (sym (drop_none xs))
drop_sum (suc a) b [] = drop_empty (suc a + b) ∙ sym (ap (drop b) (drop_empty (suc a)) ∙ drop_empty b)
drop_sum (suc a) b (x ∷ xs) = let e : suc a + b ≡ suc (a + b) = omega arith in ap (λ (n : ℕ). drop n (x ∷ xs)) e ∙ drop_sum a b xs

-- ---- a received entry has a sent one that begins at the same bit

abbrev Found : List Mapped → ℕ → ℕ → ℕ → Type 0
Found sent at first bits = (j : ℕ) × (source : Mapped) × (slice_get sent j ≡ Some source) × (at + total_bits (take j sent) ≡ first) × (source.bits ≡ bits)

span_found : (sent : List Mapped) (at first bits : ℕ) → has_span sent at first bits ≡ true → Found sent at first bits
span_found [] at first bits h = absurd (true≢false (sym h))
span_found (m ∷ rest) at first bits h = by ((at == first) && (m.bits == bits)) refl (λ later. span_found rest (at + m.bits) first bits later)
  where
    by : (b : Bool) → ((at == first) && (m.bits == bits)) ≡ b → (has_span rest (at + m.bits) first bits ≡ true → Found rest (at + m.bits) first bits) → Found (m ∷ rest) at first bits
    by true e below = (zero, m, refl, (let same : at ≡ first = eqb-true at first (and_parts _ _ e).0 in omega (arith, same)), eqb-true m.bits bits (and_parts _ _ e).1)
    by false e below =
        let f = below (unless_first ((at == first) && (m.bits == bits)) (has_span rest (at + m.bits) first bits) e h) in
        let total = sum_by-cons (λ (m : Mapped). m.bits) m (take f.0 rest) in
        (suc f.0, f.1, f.2, omega (arith, total, f.3), f.4)

span_at : (sent received : List Mapped) (direction : Direction) (at k : ℕ) (m : Mapped) → spans_match sent direction received at ≡ true
    → slice_get received k ≡ Some m → is_dummy direction m ≡ false → has_span sent 0 (at + total_bits (take k received)) m.bits ≡ true
span_at sent [] direction at k m h there object = absurd (cc)
span_at sent (x ∷ xs) direction at zero m h there object =
    let same : x ≡ m = cc in
    let here : at + total_bits (take zero (x ∷ xs)) ≡ at = omega arith in
    let first = (and_parts (is_dummy direction x || has_span sent 0 at x.bits) (spans_match sent direction xs (at + x.bits)) h).0 in
    rw here (unless_first (is_dummy direction m) (has_span sent 0 at m.bits) object (rw same at first))
span_at sent (x ∷ xs) direction at (suc k) m h there object =
    let total = sum_by-cons (λ (m : Mapped). m.bits) x (take k xs) in
    let here : at + total_bits (take (suc k) (x ∷ xs)) ≡ at + x.bits + total_bits (take k xs) = omega (arith, total) in
    let rest = (and_parts (is_dummy direction x || has_span sent 0 at x.bits) (spans_match sent direction xs (at + x.bits)) h).1 in
    rw here (span_at sent xs direction (at + x.bits) k m rest there object)

-- ---- the bits of a sent entry

first_bits : (n value : ℕ) (bits : List Bool) → take n (bits_of_number n value ++ bits) ≡ bits_of_number n value
first_bits n value bits = rw (length_lowest n value) at (take-append_seam (bits_of_number n value) bits)

other_bits : (n value : ℕ) (bits : List Bool) → drop n (bits_of_number n value ++ bits) ≡ bits
other_bits n value bits = rw (length_lowest n value) at (drop-append_seam (bits_of_number n value) bits)

sent_bits : (dict : List Entry) (direction : Direction) (sent : List Mapped) (j : ℕ) (m : Mapped) → slice_get sent j ≡ Some m
    → take m.bits (drop (total_bits (take j sent)) (bits_of_entries dict direction sent)) ≡ bits_of_number m.bits (mapped_number dict direction m)
sent_bits dict direction [] j m there = absurd (cc)
sent_bits dict direction (x ∷ xs) zero m there =
    let same : x ≡ m = cc in
    subst (λ (y : Mapped). take m.bits (drop 0 (bits_of_entries dict direction (y ∷ xs))) ≡ bits_of_number m.bits (mapped_number dict direction m)) (sym same)
    (ap (take m.bits) (drop_none (bits_of_entries dict direction (m ∷ xs))) ∙ first_bits m.bits (mapped_number dict direction m) (bits_of_entries dict direction xs))
sent_bits dict direction (x ∷ xs) (suc j) m there =
    let total : total_bits (take (suc j) (x ∷ xs)) ≡ x.bits + total_bits (take j xs) = sum_by-cons (λ (m : Mapped). m.bits) x (take j xs) in
    rw (total, drop_sum x.bits (total_bits (take j xs)) (bits_of_entries dict direction (x ∷ xs)), other_bits x.bits (mapped_number dict direction x) (bits_of_entries dict direction xs))
    (sent_bits dict direction xs j m there)

-- ---- the value of a received object

received_others : (now : List Entry) (m : Mapped) (bits : List Bool) (index sub : ℕ) (dummy : Bool) → (not dummy && ((m.index == index) && (m.sub == sub))) ≡ false
    → entry_at (if dummy then now else with_value m.index m.sub (bytes_of_bits (bytes_for m.bits) bits) now) index sub ≡ entry_at now index sub
received_others now m bits index sub true h = refl
received_others now m bits index sub false h = others now m.index m.sub index sub (bytes_of_bits (bytes_for m.bits) bits) h

unmapped_stay : (now : List Entry) (direction : Direction) (entries : List Mapped) (bits : List Bool) (index sub : ℕ) → is_mapped direction entries index sub ≡ false
    → entry_at (unpacked now direction entries bits) index sub ≡ entry_at now index sub
unmapped_stay now direction [] bits index sub h = refl
unmapped_stay now direction (m ∷ rest) bits index sub h =
    unmapped_stay (received now direction m (take m.bits bits)) direction rest (drop m.bits bits) index sub (or_parts _ _ h).1
    ∙ received_others now m (take m.bits bits) index sub (is_dummy direction m) (or_parts _ _ h).0

given : (o : Option Entry) (bits : ℕ) (value : List ℕ) → option_map_or (λ entry. has_bits bits (bits_of entry.description.data_type)) o false ≡ true
    → option_map (λ entry. entry.value) (option_map (valued value) o) ≡ Some value
given None bits value h = absurd (true≢false (sym h))
given (Some e) bits value h = refl

received_value : (now : List Entry) (direction : Direction) (m : Mapped) (bits : List Bool) → is_there now direction m ≡ true → is_dummy direction m ≡ false
    → value_at (received now direction m bits) m.index m.sub ≡ Some (bytes_of_bits (bytes_for m.bits) bits)
received_value now direction m bits here object =
    rw (object, value_replaced now m.index m.sub (bytes_of_bits (bytes_for m.bits) bits))
    (given (entry_at now m.index m.sub) m.bits (bytes_of_bits (bytes_for m.bits) bits) (rw object at here))

last_value : (now : List Entry) (direction : Direction) (entries : List Mapped) (bits : List Bool) (k : ℕ) (m : Mapped)
    → All (λ mapped. is_there now direction mapped ≡ true) entries → slice_get entries k ≡ Some m → is_dummy direction m ≡ false
    → is_mapped direction (drop (suc k) entries) m.index m.sub ≡ false
    → value_at (unpacked now direction entries bits) m.index m.sub ≡ Some (bytes_of_bits (bytes_for m.bits) (take m.bits (drop (total_bits (take k entries)) bits)))
last_value now direction [] bits k m all there object last = absurd (cc)
last_value now direction (x ∷ xs) bits zero m all there object last =
    let same : x ≡ m = cc in
    let here : is_there now direction m ≡ true = rw same at (All-head (λ mapped. is_there now direction mapped ≡ true) x xs all) in
    subst (λ (y : Mapped). value_at (unpacked now direction (y ∷ xs) bits) m.index m.sub ≡ Some (bytes_of_bits (bytes_for m.bits) (take m.bits (drop 0 bits)))) (sym same)
    (ap (λ (o : Option Entry). option_map (λ entry. entry.value) o) (unmapped_stay (received now direction m (take m.bits bits)) direction xs (drop m.bits bits) m.index m.sub (rw (drop_none xs) at last))
    ∙ received_value now direction m (take m.bits bits) here object
    ∙ ap (λ (bs : List Bool). Some (bytes_of_bits (bytes_for m.bits) (take m.bits bs))) (sym (drop_none bits)))
last_value now direction (x ∷ xs) bits (suc k) m all there object last =
    let total : total_bits (take (suc k) (x ∷ xs)) ≡ x.bits + total_bits (take k xs) = sum_by-cons (λ (m : Mapped). m.bits) x (take k xs) in
    rw (total, drop_sum x.bits (total_bits (take k xs)) bits)
    (last_value (received now direction x (take x.bits bits)) direction xs (drop x.bits bits) k m
    (received_there now direction x (take x.bits bits) xs (All-tail (λ mapped. is_there now direction mapped ≡ true) x xs all)) there object last)

-- ---- what one node sends, the other has

pub sent_is_had : (sender receiver : List Entry) (sent layout : Layout) (k : ℕ) (m : Mapped) → is_same_layout sent layout ≡ true → HasObjects receiver layout
    → slice_get layout.entries k ≡ Some m → is_dummy layout.direction m ≡ false → is_mapped layout.direction (drop (k + 1) layout.entries) m.index m.sub ≡ false
    → (source : Mapped) × HasEntryAt sent (total_bits (take k layout.entries)) m.bits source
    × (value_at (unpacked receiver layout.direction layout.entries (payload_bits sender sent)) m.index m.sub ≡ Some (bytes_of_bits (bytes_for m.bits) (bits_of_number m.bits (mapped_number sender sent.direction source))))
sent_is_had sender receiver sent layout k m same all there object last =
    let first : ℕ = total_bits (take k layout.entries) in
    let next : k + 1 ≡ suc k = omega arith in
    let plain : 0 + first ≡ first = omega arith in
    let spans = (and_parts (total_bits sent.entries == total_bits layout.entries) (spans_match sent.entries layout.direction layout.entries 0) same).1 in
    let f = span_found sent.entries 0 first m.bits (rw plain at (span_at sent.entries layout.entries layout.direction 0 k m spans there object)) in
    let begins : total_bits (take f.0 sent.entries) ≡ first = omega (arith, f.3) in
    let its : take m.bits (drop first (payload_bits sender sent)) ≡ bits_of_number m.bits (mapped_number sender sent.direction f.1) =
    rw (begins, f.4) at (sent_bits sender sent.direction sent.entries f.0 f.1 f.2) in (
      f.1,
      record { place = f.0; there = f.2; begins = begins; wide = f.4 },
      last_value receiver layout.direction layout.entries (payload_bits sender sent) k m all there object (rw next at last)
          ∙ ap (λ (bits : List Bool). Some (bytes_of_bits (bytes_for m.bits) bits)) its,
    )
