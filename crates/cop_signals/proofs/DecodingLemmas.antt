-- What is decoded of a signal is what its object has once the PDO is unpacked.
use Rattle.std.proofs.Common.{◌≡◌, ◌+◌, ℕ, zero, suc, Bool, true, false, not, ◌&&◌, ◌==◌, List, [], ◌∷◌, take, drop, slice_get, All, Option, Some, None, option_map, refl, ap, sym, arith, ◌∙◌, true≢false, if◌then◌else◌}
use Rattle.std.specs.Option.{option_map_or}
use Rattle.std.proofs.lemmas.Bool.{or_parts}
use Rattle.std.proofs.lemmas.List.Elements.{All-head, All-tail}
use Rattle.cop_dict.specs.declared.mapping.Direction.{Direction}
use Rattle.cop_dict.specs.declared.mapping.Mapped.{Mapped}
use Rattle.cop_dict.specs.Find.{Entry, entry_at}
use Rattle.cop_dict.specs.Types.{bits_of}
use Rattle.cop_dict.specs.Mapping.{has_bits, is_dummy}
use Rattle.cop_dict.specs.Dict.{with_value, valued}
use Rattle.cop_dict.proofs.Replaced.{value_replaced}
use Rattle.cop_dict.proofs.LawLemmas.{others}
use Rattle.cop_pdo.specs.Payload.{Layout, is_there, HasObjects}
use Rattle.cop_pdo.specs.Bits.{bits_of_bytes, bytes_of_bits, bytes_for, received, unpacked, is_mapped, value_at}
use Rattle.cop_pdo.proofs.UnpackLemmas.{received_there}
use Rattle.cop_signals.specs.declared.places.Signal.{Signal}
use Rattle.cop_signals.specs.Signals.{kind_at, signals_from, signals_of}
use Rattle.cop_signals.specs.Decoding.{decoded, has_object}

-- ---- lists

drop_empty : {A : Type 0} (n : ℕ) → drop {A = A} n [] ≡ []
drop_empty zero = refl
drop_empty (suc n) = refl

drop_none : {A : Type 0} (xs : List A) → drop 0 xs ≡ xs
drop_none [] = refl
drop_none (x ∷ xs) = refl

drop_sum : {A : Type 0} (a b : ℕ) (xs : List A) → drop (a + b) xs ≡ drop b (drop a xs)
drop_sum zero b xs = let e : 0 + b ≡ b = omega arith in ap (λ (n : ℕ). drop n xs) e ∙ ap (drop b) (sym (drop_none xs))
drop_sum (suc a) b [] = drop_empty (suc a + b) ∙ sym (ap (drop b) (drop_empty (suc a)) ∙ drop_empty b)
drop_sum (suc a) b (x ∷ xs) = let e : suc a + b ≡ suc (a + b) = omega arith in ap (λ (n : ℕ). drop n (x ∷ xs)) e ∙ drop_sum a b xs

-- ---- objects that are not mapped stay

received_others : (now : List Entry) (m : Mapped) (bits : List Bool) (index sub : ℕ) (dummy : Bool) → (not dummy && ((m.index == index) && (m.sub == sub))) ≡ false
    → entry_at (if dummy then now else with_value m.index m.sub (bytes_of_bits (bytes_for m.bits) bits) now) index sub ≡ entry_at now index sub
received_others now m bits index sub true h = refl
received_others now m bits index sub false h = others now m.index m.sub index sub (bytes_of_bits (bytes_for m.bits) bits) h

unmapped_stay : (now : List Entry) (direction : Direction) (entries : List Mapped) (bits : List Bool) (index sub : ℕ) → is_mapped direction entries index sub ≡ false
    → entry_at (unpacked now direction entries bits) index sub ≡ entry_at now index sub
unmapped_stay now direction [] bits index sub h = refl
unmapped_stay now direction (m ∷ rest) bits index sub h =
    unmapped_stay (received now direction m (take m.bits bits)) direction rest (drop m.bits bits) index sub (or_parts _ _ h).1
    ∙ received_others now m (take m.bits bits) index sub (is_dummy direction m) (or_parts _ _ h).0

-- ---- an object that is received has its bits

given : (o : Option Entry) (bits : ℕ) (value : List ℕ) → option_map_or (λ entry. has_bits bits (bits_of entry.description.data_type)) o false ≡ true
    → option_map (λ entry. entry.value) (option_map (valued value) o) ≡ Some value
given None bits value h = absurd (true≢false (sym h))
given (Some e) bits value h = refl

received_value : (now : List Entry) (direction : Direction) (m : Mapped) (bits : List Bool) → is_there now direction m ≡ true → is_dummy direction m ≡ false
    → value_at (received now direction m bits) m.index m.sub ≡ Some (bytes_of_bits (bytes_for m.bits) bits)
received_value now direction m bits here object =
    rw (object, value_replaced now m.index m.sub (bytes_of_bits (bytes_for m.bits) bits))
    (given (entry_at now m.index m.sub) m.bits (bytes_of_bits (bytes_for m.bits) bits) (rw object at here))

-- ---- the signals of some entries are of the objects that these map

-- of a dictionary the kinds of its objects alone are looked at
signals_map : (dict : List Entry) (direction : Direction) (start : ℕ) (entries : List Mapped) (index sub : ℕ)
    → has_object (signals_from dict direction start entries) index sub ≡ is_mapped direction entries index sub
signals_map dict direction start [] index sub = refl
signals_map dict direction start (m ∷ rest) index sub = by (is_dummy direction m) refl (signals_map dict direction (start + m.bits) rest index sub)
  where
    by : (dummy : Bool) → is_dummy direction m ≡ dummy
        → has_object (signals_from dict direction (start + m.bits) rest) index sub ≡ is_mapped direction rest index sub
        → has_object (signals_from dict direction start (m ∷ rest)) index sub ≡ is_mapped direction (m ∷ rest) index sub
    by true e below = rw e below
    by false e below = rw (e, below) refl

-- ---- a signal has the bits that its object gets

-- the value of an object after a PDO is unpacked that begins at a bit of a message
abbrev IsDecoded : List Entry → Direction → List Mapped → ℕ → List Bool → Signal → Type 0
IsDecoded now direction entries start whole signal =
    value_at (unpacked now direction entries (drop start whole)) signal.index signal.sub ≡ Some (bytes_of_bits (bytes_for signal.bits) (take signal.bits (drop signal.start whole)))

first_decoded : (now : List Entry) (direction : Direction) (m : Mapped) (rest : List Mapped) (start : ℕ) (whole : List Bool)
    → is_there now direction m ≡ true → is_dummy direction m ≡ false → is_mapped direction rest m.index m.sub ≡ false
    → value_at (unpacked now direction (m ∷ rest) (drop start whole)) m.index m.sub ≡ Some (bytes_of_bits (bytes_for m.bits) (take m.bits (drop start whole)))
first_decoded now direction m rest start whole here object last =
    ap (λ (o : Option Entry). option_map (λ entry. entry.value) o)
    (unmapped_stay (received now direction m (take m.bits (drop start whole))) direction rest (drop m.bits (drop start whole)) m.index m.sub last)
    ∙ received_value now direction m (take m.bits (drop start whole)) here object

-- the same of each of the later signals
abbrev AllDecoded : List Entry → List Entry → Direction → List Mapped → ℕ → List Bool → Signal → Type 0
AllDecoded dict now direction entries start whole signal = (j : ℕ) → slice_get (signals_from dict direction start entries) j ≡ Some signal
    → has_object (drop (suc j) (signals_from dict direction start entries)) signal.index signal.sub ≡ false
    → IsDecoded now direction entries start whole signal

-- the signals that are known of a dictionary, and a dictionary whose objects get the bits
all_decoded : (dict now : List Entry) (direction : Direction) (entries : List Mapped) (start k : ℕ) (whole : List Bool) (signal : Signal)
    → All (λ mapped. is_there now direction mapped ≡ true) entries
    → slice_get (signals_from dict direction start entries) k ≡ Some signal
    → has_object (drop (suc k) (signals_from dict direction start entries)) signal.index signal.sub ≡ false
    → IsDecoded now direction entries start whole signal
all_decoded dict now direction [] start k whole signal all there last = absurd (cc)
all_decoded dict now direction (m ∷ rest) start k whole signal all there last =
    by (is_dummy direction m) refl k there last
    (λ j t l. all_decoded dict (received now direction m (take m.bits (drop start whole))) direction rest (start + m.bits) j whole signal
    (received_there now direction m (take m.bits (drop start whole)) rest (All-tail (λ mapped. is_there now direction mapped ≡ true) m rest all)) t l)
  where
    later : AllDecoded dict (received now direction m (take m.bits (drop start whole))) direction rest (start + m.bits) whole signal → (j : ℕ) → slice_get (signals_from dict direction (start + m.bits) rest) j ≡ Some signal
        → has_object (drop (suc j) (signals_from dict direction (start + m.bits) rest)) signal.index signal.sub ≡ false
        → IsDecoded now direction (m ∷ rest) start whole signal
    later below j t l =
        ap (λ (bits : List Bool). value_at (unpacked (received now direction m (take m.bits (drop start whole))) direction rest bits) signal.index signal.sub) (sym (drop_sum start m.bits whole))
        ∙ below j t l

    by : (dummy : Bool) → is_dummy direction m ≡ dummy → (k : ℕ) → slice_get (signals_from dict direction start (m ∷ rest)) k ≡ Some signal
        → has_object (drop (suc k) (signals_from dict direction start (m ∷ rest))) signal.index signal.sub ≡ false
        → AllDecoded dict (received now direction m (take m.bits (drop start whole))) direction rest (start + m.bits) whole signal → IsDecoded now direction (m ∷ rest) start whole signal
    by true e k t l below = later below k (rw e at t) (rw e at l)
    by false e zero t l below =
        let its : record { index = m.index; sub = m.sub; start = start; bits = m.bits; kind = kind_at dict m } ≡ signal = cc (rw e at t) in
        let behind : has_object (signals_from dict direction (start + m.bits) rest) m.index m.sub ≡ false = rw (← its, e, drop_none (signals_from dict direction (start + m.bits) rest)) at l in
        rw (← its) (first_decoded now direction m rest start whole (All-head (λ mapped. is_there now direction mapped ≡ true) m rest all) e
        (sym (signals_map dict direction (start + m.bits) rest m.index m.sub) ∙ behind))
    by false e (suc j) t l below = later below j (rw e at t) (rw e at l)

pub decoded_value : (dict : List Entry) (layout : Layout) (body : List ℕ) (k : ℕ) (signal : Signal) → HasObjects dict layout → slice_get (signals_of dict layout) k ≡ Some signal
    → has_object (drop (k + 1) (signals_of dict layout)) signal.index signal.sub ≡ false
    → value_at (unpacked dict layout.direction layout.entries (bits_of_bytes body)) signal.index signal.sub ≡ Some (bytes_of_bits (bytes_for signal.bits) (decoded body signal))
decoded_value dict layout body k signal all there last =
    let next : k + 1 ≡ suc k = omega arith in
    ap (λ (bits : List Bool). value_at (unpacked dict layout.direction layout.entries bits) signal.index signal.sub) (sym (drop_none (bits_of_bytes body)))
    ∙ all_decoded dict dict layout.direction layout.entries 0 k (bits_of_bytes body) signal all there (rw next at last)
