-- Which writes of a COB-ID a dictionary accepts.
use Rattle.std.proofs.Common.{◌≡◌, ◌<◌, ◌≤◌, ◌+◌, ◌*◌, ◌/◌, ◌%◌, ◌^◌, ◌==◌, ℕ, zero, suc, Bool, true, false, cond, not, ◌&&◌, ◌||◌, List, [], ◌∷◌, length, Option, Some, None, Result, Ok, Err, refl, sym, ap, subst, ◌∙◌, arith, nat_lt, nat_le, option_map, ℤ, pos, negsuc, lit≤, ◌≢◌, inl, inr, ⊎_elim}
use Rattle.std.specs.Prelude.{int_lt}
use Rattle.std.specs.Ordering.{int_eq}
use Rattle.std.specs.Option.{is_none, option_map_or}
use Rattle.std.specs.Result.{is_ok}
use Rattle.std.specs.Int.{bytes_low_first}
use Rattle.std.proofs.lemmas.Bool.Decides.{nat_tests}
use Rattle.cop_dict.specs.declared.abort.Abort.{Abort}
use Rattle.cop_dict.specs.declared.abort.Abort.TheVariants as aborts
use Rattle.cop_dict.specs.declared.description.Description.{Description}
use Rattle.cop_dict.specs.declared.data_type.DataType.{DataType}
use Rattle.cop_dict.specs.declared.data_type.DataType.TheVariants as types
use Rattle.cop_dict.specs.Types.{is_writable, is_unsigned32}
use Rattle.cop_dict.specs.Number.{number}
use Rattle.cop_dict.specs.Rules.{first_broken, value_rules}
use Rattle.cop_dict.specs.Find.{Entry, unsigned32_of, entry_at, is_at}
use Rattle.cop_dict.specs.Pdo.{is_communication, is_cob_id, is_restricted, names_restricted, cob_id_rules, refused_by_pdos, exists_by, keeps_pdo}
use Rattle.cop_dict.specs.Dict.{written, with_value, valued, unless_broken, ◌>>=◌}
use Rattle.std.proofs.lemmas.Bool.{cases_eq, eqb-true}
use Rattle.cop_dict.proofs.PatternLemmas.{own_number}
use Rattle.cop_dict.proofs.Replaced.{value_replaced}
use Rattle.cop_pdo.specs.CobIds.{off, on}
use Rattle.cop_rta.specs.declared.ranges.IdRange.{IdRange}
use Rattle.cop_rta.specs.Ranges.{first_range, second_range, IsIn}
use Rattle.cop_net.specs.Signals.{ranges_where, IsPdoId}
use Rattle.cop_net.specs.Settings.{word, may_hold, takes, passes_from, takes_each, greatest_of, may_switch_on, may_switch, is_usable, goes_off, goes_off_of, stays_on, is_stuck, is_stuck_by, is_unsigned16, whole_of, has_or_takes, holds_time}

-- what a description lets be written
by_rules : (w h l : Bool) → is_none (first_broken ((not w, aborts.ReadOnly) ∷ (h, aborts.AboveLimit) ∷ (l, aborts.BelowLimit) ∷ [])) ≡ (w && (not h && not l))
by_rules false h l = refl
by_rules true true l = refl
by_rules true false true = refl
by_rules true false false = refl

may_ok : (d : Description) (bytes : List ℕ) (n : ℕ) → d.data_type ≡ types.Unsigned32 → length bytes ≡ 4 → number bytes ≡ n
    → is_none (first_broken (value_rules d bytes)) ≡ may_hold d n
may_ok d bytes n t len num = rw (t, len, num, t)
    (by_rules (is_writable d.access) (option_map_or (λ high. int_lt high (pos n)) d.high false) (option_map_or (λ low. int_lt (pos n) low) d.low false))

none_of : {A : Type 0} (o : Option A) → is_none o ≡ true → o ≡ None
none_of None h = refl
none_of (Some a) h = cc

-- an accepted write of a COB-ID
accepted : (dict : List Entry) (index : ℕ) (e : Entry) (bytes : List ℕ) (n : ℕ) → entry_at dict index 1 ≡ Some e → is_cob_id e ≡ true → e.description.data_type ≡ types.Unsigned32
    → length bytes ≡ 4 → number bytes ≡ n → may_hold e.description n ≡ true → first_broken (cob_id_rules e n) ≡ None
    → written dict index 1 bytes ≡ Ok (with_value index 1 bytes dict)
unfolding written refused_by_pdos
accepted dict index e bytes n at cob t len num may rules =
    let free : first_broken (value_rules e.description bytes) ≡ None = none_of _ (may_ok e.description bytes n t len num ∙ may) in
    rw (at, free, cob, num, rules) refl

not_ok : (o : Option Abort) (e : Entry) (f : Entry → Result (List Entry) Abort) → is_none o ≡ false → is_ok (unless_broken o e >>= f) ≡ false
not_ok None e f h = cc
not_ok (Some a) e f h = refl

-- a write that the description does not allow
refused : (dict : List Entry) (index : ℕ) (e : Entry) (bytes : List ℕ) (n : ℕ) → entry_at dict index 1 ≡ Some e → e.description.data_type ≡ types.Unsigned32
    → length bytes ≡ 4 → number bytes ≡ n → may_hold e.description n ≡ false → is_ok (written dict index 1 bytes) ≡ false
unfolding written
refused dict index e bytes n at t len num may =
    rw at (not_ok (first_broken (value_rules e.description bytes)) e _ (may_ok e.description bytes n t len num ∙ may))

-- switched off, the identifier stays
off_low : (v : ℕ) → (2 ^ 31 + v % 2 ^ 31) % 2 ^ 30 ≡ v % 2 ^ 30
off_low v = omega arith

off_small : (v : ℕ) → 2 ^ 31 + v % 2 ^ 31 < 2 ^ 32
off_small v = omega arith

off_past : (v : ℕ) → nat_lt (2 ^ 31 + v % 2 ^ 31) (2 ^ 31) ≡ false
off_past v = grind (arith, nat_tests)

same_eq : (m n : ℕ) → m ≡ n → (m == n) ≡ true
same_eq m n h = grind (arith, nat_tests)

off_rules : (e : Entry) (v : ℕ) → unsigned32_of e ≡ Some v → first_broken (cob_id_rules e (off v)) ≡ None
off_rules e v h = rw (h, off_past v, same_eq (v % 2 ^ 30) (off v % 2 ^ 30) (sym (off_low v))) (by_test (nat_lt v (2 ^ 31)))
  where
    by_test : (b : Bool) → first_broken ((b && false, aborts.DeviceState) ∷ (false, aborts.InvalidValue) ∷ []) ≡ None
    by_test true = refl
    by_test false = refl

-- on with an identifier that a PDO may get
on_mid : (b id : ℕ) → id < 2048 → (b * 2 ^ 30 + id) % 2 ^ 30 ≡ id
on_mid b id h = omega arith

on_low : (b id : ℕ) → id < 2048 → (b * 2 ^ 30 + id) % 2 ^ 11 ≡ id
on_low b id h = omega arith

on_small : (v id : ℕ) → id < 2048 → on v id < 2 ^ 32
on_small v id h = omega arith

first_free : (id : ℕ) → IsIn first_range id → is_restricted id ≡ false
first_free id (low, high) = grind (arith, nat_tests)

second_free : (id : ℕ) → IsIn second_range id → is_restricted id ≡ false
second_free id (low, high) = grind (arith, nat_tests)

not_restricted : (id : ℕ) → IsPdoId id → is_restricted id ≡ false
not_restricted id h = ⊎_elim (first_free id) (second_free id) h

pub small_id : (id : ℕ) → IsPdoId id → id < 2048
small_id id h = ⊎_elim (λ (one : IsIn first_range id). let high = one.1 in omega arith) (λ (two : IsIn second_range id). let high = two.1 in omega arith) h

below_29 : (id : ℕ) → id < 2048 → nat_le (2 ^ 29) id ≡ false
below_29 id h = grind (arith, nat_tests)

on_names : (v id : ℕ) → IsPdoId id → names_restricted (on v id) ≡ false
on_names v id h =
    rw (on_mid (v / 2 ^ 30 % 2) id (small_id id h), on_low (v / 2 ^ 30 % 2) id (small_id id h), not_restricted id h, below_29 id (small_id id h)) (by_test (nat_lt (on v id) (2 ^ 31)))
  where
    by_test : (b : Bool) → (b && false) ≡ false
    by_test true = refl
    by_test false = refl

-- a PDO that is off takes an identifier
on_rules : (e : Entry) (v id : ℕ) → unsigned32_of e ≡ Some (off v) → IsPdoId id → first_broken (cob_id_rules e (on v id)) ≡ None
on_rules e v id h given = rw (h, off_past v, on_names v id given) refl

is_word : (e : Entry) (v : ℕ) → unsigned32_of e ≡ Some v → e.description.data_type ≡ types.Unsigned32
is_word e v h = by_type e.description.data_type h
  where
    by_type : (t : DataType) → (cond (is_unsigned32 t) (Some (number e.value)) None) ≡ Some v → t ≡ types.Unsigned32
    by_type types.Unsigned32 g = refl
    by_type types.Boolean g = cc
    by_type types.Integer8 g = cc
    by_type types.Integer16 g = cc
    by_type types.Integer32 g = cc
    by_type types.Integer64 g = cc
    by_type types.Unsigned8 g = cc
    by_type types.Unsigned16 g = cc
    by_type types.Unsigned64 g = cc
    by_type types.Real32 g = cc
    by_type types.Real64 g = cc
    by_type types.VisibleString g = cc
    by_type types.OctetString g = cc
    by_type types.Domain g = cc
    by_type types.Opaque g = cc

no_step : (r : Result (List Entry) Abort) (f : List Entry → Result (List Entry) Abort) → is_ok r ≡ false → is_ok (r >>= f) ≡ false
no_step (Ok x) f h = cc
no_step (Err a) f h = refl

-- the two writes are accepted where the description allows both values
pub takes_by_limits : (dict : List Entry) (index : ℕ) (e : Entry) (v id : ℕ) → entry_at dict index 1 ≡ Some e → is_cob_id e ≡ true → unsigned32_of e ≡ Some v
    → IsPdoId id → takes dict index v id ≡ (may_hold e.description (off v) && may_hold e.description (on v id))
takes_by_limits dict index e v id at cob own given = by_off (may_hold e.description (off v)) refl
  where
    t : e.description.data_type ≡ types.Unsigned32
    t = is_word e v own

    value_off : number (word (off v)) ≡ off v
    value_off = own_number 4 (off v) (off_small v)

    value_on : number (word (on v id)) ≡ on v id
    value_on = own_number 4 (on v id) (on_small v id (small_id id given))

    now : Entry
    now = valued (word (off v)) e

    by_on : (b : Bool) → may_hold e.description (on v id) ≡ b → is_ok (written (with_value index 1 (word (off v)) dict) index 1 (word (on v id))) ≡ b
    by_on true m =
        let there : entry_at (with_value index 1 (word (off v)) dict) index 1 ≡ Some (valued (word (off v)) e) = value_replaced dict index 1 (word (off v)) ∙ ap (option_map (valued (word (off v)))) at in
        let here : unsigned32_of (valued (word (off v)) e) ≡ Some (off v) = rw (t, value_off) refl in
        rw (accepted (with_value index 1 (word (off v)) dict) index (valued (word (off v)) e) (word (on v id)) (on v id) there cob t refl value_on m (on_rules (valued (word (off v)) e) v id here given)) refl
    by_on false m =
        let there : entry_at (with_value index 1 (word (off v)) dict) index 1 ≡ Some (valued (word (off v)) e) = value_replaced dict index 1 (word (off v)) ∙ ap (option_map (valued (word (off v)))) at in
        refused (with_value index 1 (word (off v)) dict) index (valued (word (off v)) e) (word (on v id)) (on v id) there t refl value_on m

    by_off : (b : Bool) → may_hold e.description (off v) ≡ b → takes dict index v id ≡ (b && may_hold e.description (on v id))
    by_off true m =
        rw (accepted dict index e (word (off v)) (off v) at cob t refl value_off m (off_rules e v own)) (by_on (may_hold e.description (on v id)) refl)
    by_off false m = no_step (written dict index 1 (word (off v))) _ (refused dict index e (word (off v)) (off v) at t refl value_off m)

-- a test that passes at each of so many numbers
pub all_pass : (test : ℕ → Bool) (first count : ℕ) → ((k : ℕ) → first ≤ k → k < first + count → test k ≡ true) → passes_from test first count ≡ true
unfolding passes_from
all_pass test first zero h = refl
all_pass test first (suc count) h =
    rw (h first (omega arith) (omega arith)) (all_pass test (first + 1) count (λ k low high. h k (omega arith) (omega arith)))

both_true : (a b : Bool) → (a && b) ≡ true → (a ≡ true) × (b ≡ true)
both_true true true h = (refl, refl)
both_true true false h = absurd (cc)
both_true false b h = absurd (cc)

pub each_passes : (test : ℕ → Bool) (first count k : ℕ) → passes_from test first count ≡ true → first ≤ k → k < first + count → test k ≡ true
unfolding passes_from
each_passes test first zero k h low high = absurd (omega arith)
each_passes test first (suc count) k h low high =
    let p = both_true (test first) (passes_from test (first + 1) count) h in
    ⊎_elim (λ (e : first ≡ k). rw (← e) p.0) (λ (other : first ≢ k). each_passes test (first + 1) count k p.1 (omega arith) (omega arith)) (cases_eq first k)

same_truth : (a b : Bool) → (a ≡ true → b ≡ true) → (b ≡ true → a ≡ true) → a ≡ b
same_truth true b f g = sym (f refl)
same_truth false true f g = g refl
same_truth false false f g = refl

-- limits are an interval
below_high : (h : ℤ) (m n : ℕ) → m ≤ n → int_lt h (pos n) ≡ false → int_lt h (pos m) ≡ false
below_high (pos k) m n le f = grind (arith, nat_tests)
below_high (negsuc k) m n le f = cc

above_low : (l : ℤ) (m n : ℕ) → m ≤ n → int_lt (pos m) l ≡ false → int_lt (pos n) l ≡ false
above_low (pos k) m n le f = grind (arith, nat_tests)
above_low (negsuc k) m n le f = refl

high_kept : (high : Option ℤ) (m n : ℕ) → m ≤ n → option_map_or (λ h. int_lt h (pos n)) high false ≡ false → option_map_or (λ h. int_lt h (pos m)) high false ≡ false
high_kept None m n le f = refl
high_kept (Some h) m n le f = below_high h m n le f

low_kept : (low : Option ℤ) (m n : ℕ) → m ≤ n → option_map_or (λ l. int_lt (pos m) l) low false ≡ false → option_map_or (λ l. int_lt (pos n) l) low false ≡ false
low_kept None m n le f = refl
low_kept (Some l) m n le f = above_low l m n le f

not_true : (b : Bool) → not b ≡ true → b ≡ false
not_true true h = cc
not_true false h = refl

between : (d : Description) (a n b : ℕ) → a ≤ n → n ≤ b → may_hold d a ≡ true → may_hold d b ≡ true → may_hold d n ≡ true
between d a n b low high first last =
    let f = both_true (is_writable d.access) _ first in
    let g = both_true (not (option_map_or (λ h. int_lt h (pos a)) d.high false)) _ f.1 in
    let l = both_true (is_writable d.access) _ last in
    let m = both_true (not (option_map_or (λ h. int_lt h (pos b)) d.high false)) _ l.1 in
    rw (f.0, high_kept d.high n b high (not_true _ m.0), low_kept d.low a n low (not_true _ g.1)) refl

-- each identifier of a range is taken where the least and the greatest are
range_usable : (dict : List Entry) (index : ℕ) (e : Entry) (v : ℕ) (range : IdRange) → 1 ≤ range.count → ((id : ℕ) → IsIn range id → IsPdoId id) → entry_at dict index 1 ≡ Some e → is_cob_id e ≡ true
    → unsigned32_of e ≡ Some v → takes_each dict index v range ≡ (may_hold e.description (off v) && may_switch_on e.description v range)
unfolding takes_each
range_usable dict index e v range some ids at cob own =
    same_truth (passes_from (takes dict index v) range.least range.count) _
    (λ all.
    let one = both_true (may_hold e.description (off v)) (may_hold e.description (on v range.least))
    (sym (takes_by_limits dict index e v range.least at cob own (ids range.least (omega arith, omega arith)))
    ∙ each_passes (takes dict index v) range.least range.count range.least all (omega arith) (omega arith)) in
    let two = both_true (may_hold e.description (off v)) (may_hold e.description (on v (greatest_of range)))
    (sym (takes_by_limits dict index e v (greatest_of range) at cob own (ids (greatest_of range) (omega arith, omega arith)))
    ∙ each_passes (takes dict index v) range.least range.count (greatest_of range) all (omega arith) (omega arith)) in
    rw (one.0, one.1, two.1) refl)
    (λ ends.
    let p = both_true (may_hold e.description (off v)) _ ends in
    let q = both_true (may_hold e.description (on v range.least)) (may_hold e.description (on v (greatest_of range))) p.1 in
    all_pass (takes dict index v) range.least range.count
    (λ id low high.
    takes_by_limits dict index e v id at cob own (ids id (low, high))
    ∙ rw (p.0, between e.description (on v range.least) (on v id) (on v (greatest_of range)) (omega arith) (omega arith) q.0 q.1) refl))

one_range : (a b : Bool) → ((a && b) && true) ≡ (a && (b && true))
one_range true b = refl
one_range false b = refl

two_ranges : (a b c : Bool) → ((a && b) && ((a && c) && true)) ≡ (a && (b && (c && true)))
two_ranges true b c = refl
two_ranges false b c = refl

-- a record takes each identifier of the ranges where it takes the least and the greatest of each
pub usable : (dict : List Entry) (index : ℕ) (e : Entry) (v : ℕ) (second : Bool) → entry_at dict index 1 ≡ Some e → is_cob_id e ≡ true → unsigned32_of e ≡ Some v
    → is_usable dict index (ranges_where second) ≡ may_switch e.description v (ranges_where second)
usable dict index e v false at cob own =
    rw (at, own, range_usable dict index e v first_range (lit≤ tt) (λ id given. inl given) at cob own)
    (one_range (may_hold e.description (off v)) (may_switch_on e.description v first_range))
usable dict index e v true at cob own =
    rw (at, own, range_usable dict index e v first_range (lit≤ tt) (λ id given. inl given) at cob own, range_usable dict index e v second_range (lit≤ tt) (λ id given. inr given) at cob own)
    (two_ranges (may_hold e.description (off v)) (may_switch_on e.description v first_range) (may_switch_on e.description v second_range))

-- switched off, a COB-ID is above all that it is switched on with
on_below : (v id : ℕ) → id < 2048 → on v id ≤ off v
on_below v id h = omega arith

may_hold_ends : (d : Description) (v : ℕ) (second : Bool) → may_switch d v (ranges_where second) ≡ true → (may_hold d (off v) ≡ true) × (may_hold d (on v first_range.least) ≡ true)
may_hold_ends d v false h =
    let p = both_true (may_hold d (off v)) (may_switch_on d v first_range && true) h in
    let q = both_true (may_switch_on d v first_range) true p.1 in
    (p.0, (both_true (may_hold d (on v first_range.least)) (may_hold d (on v (greatest_of first_range))) q.0).0)
may_hold_ends d v true h =
    let p = both_true (may_hold d (off v)) (may_switch_on d v first_range && (may_switch_on d v second_range && true)) h in
    let q = both_true (may_switch_on d v first_range) (may_switch_on d v second_range && true) p.1 in
    (p.0, (both_true (may_hold d (on v first_range.least)) (may_hold d (on v (greatest_of first_range))) q.0).0)

-- Each identifier of both ranges lies between the least one and the COB-ID that is switched off. So a record that takes those of
-- the first range takes them all.
pub usable_takes : (dict : List Entry) (index : ℕ) (e : Entry) (v id : ℕ) (second : Bool) → entry_at dict index 1 ≡ Some e → is_cob_id e ≡ true → unsigned32_of e ≡ Some v
    → is_usable dict index (ranges_where second) ≡ true → IsPdoId id → takes dict index v id ≡ true
usable_takes dict index e v id second at cob own h given =
    let m = may_hold_ends e.description v second (sym (usable dict index e v second at cob own) ∙ h) in
    let low : first_range.least ≤ id = ⊎_elim (λ (one : IsIn first_range id). one.0) (λ (two : IsIn second_range id). let least = two.0 in omega arith) given in
    takes_by_limits dict index e v id at cob own given
    ∙ rw (m.0, between e.description (on v first_range.least) (on v id) (off v) (omega arith) (on_below v id (small_id id given)) m.1 m.0) refl

at_place : (index sub : ℕ) (x : Entry) → is_at index sub x ≡ true → (x.index ≡ index) × (x.sub ≡ sub)
at_place index sub x t =
    let p = both_true (x.index == index) (x.sub == sub) t in
    (eqb-true x.index index p.0, eqb-true x.sub sub p.1)

-- what stands at an index and a sub has them
pub found_there : (dict : List Entry) (index sub : ℕ) (e : Entry) → entry_at dict index sub ≡ Some e → (e.index ≡ index) × (e.sub ≡ sub)
found_there [] index sub e at = absurd (cc)
found_there (x ∷ dict) index sub e at = by_test (is_at index sub x) refl (found_there dict index sub e) at
  where
    by_test : (b : Bool) → is_at index sub x ≡ b → (entry_at dict index sub ≡ Some e → (e.index ≡ index) × (e.sub ≡ sub))
        → (cond b (Some x) (entry_at dict index sub)) ≡ Some e → (e.index ≡ index) × (e.sub ≡ sub)
    by_test false t rest g = rest g
    by_test true t rest g = let same : x ≡ e = cc in rw (← same) (at_place index sub x t)

-- what stands at sub 1 of a communication record is a COB-ID
pub at_cob_id : (dict : List Entry) (index : ℕ) (e : Entry) → is_communication index ≡ true → entry_at dict index 1 ≡ Some e → is_cob_id e ≡ true
at_cob_id dict index e h at = let p = found_there dict index 1 e at in rw (p.0, p.1, h) refl

-- a PDO can be switched off where the description allows it
goes_off_by_limits : (dict : List Entry) (index : ℕ) (e : Entry) (v : ℕ) → entry_at dict index 1 ≡ Some e → is_cob_id e ≡ true → unsigned32_of e ≡ Some v
    → goes_off dict index v ≡ may_hold e.description (off v)
goes_off_by_limits dict index e v at cob own = by_off (may_hold e.description (off v)) refl
  where
    t : e.description.data_type ≡ types.Unsigned32
    t = is_word e v own

    by_off : (b : Bool) → may_hold e.description (off v) ≡ b → goes_off dict index v ≡ b
    by_off true m = rw (accepted dict index e (word (off v)) (off v) at cob t refl (own_number 4 (off v) (off_small v)) m (off_rules e v own)) refl
    by_off false m = refused dict index e (word (off v)) (off v) at t refl (own_number 4 (off v) (off_small v)) m

-- what keeps a PDO on is seen of its COB-ID alone
pub stuck_alone : (dict : List Entry) (e : Entry) → entry_at dict e.index e.sub ≡ Some e → stays_on dict e ≡ is_stuck e
stuck_alone dict e at = by_cob (is_cob_id e) refl
  where
    known : (v : ℕ) → entry_at dict e.index 1 ≡ Some e → is_cob_id e ≡ true → unsigned32_of e ≡ Some v
        → (exists_by v && not (goes_off dict e.index v)) ≡ (exists_by v && not (may_hold e.description (off v)))
    known v there cob own = rw (goes_off_by_limits dict e.index e v there cob own) refl

    by_word : (o : Option ℕ) → unsigned32_of e ≡ o → entry_at dict e.index 1 ≡ Some e → is_cob_id e ≡ true
        → (option_map_or exists_by o true && not (goes_off_of dict e.index o)) ≡ is_stuck_by e.description o
    by_word None own there cob = refl
    by_word (Some v) own there cob = known v there cob own

    by_cob : (b : Bool) → is_cob_id e ≡ b
        → (b && (keeps_pdo e && not (goes_off_of dict e.index (unsigned32_of e)))) ≡ (b && is_stuck_by e.description (unsigned32_of e))
    by_cob false cob = refl
    by_cob true cob =
        let p = both_true (is_communication e.index) (e.sub == 1) cob in
        let one : e.sub ≡ 1 = eqb-true e.sub 1 p.1 in
        by_word (unsigned32_of e) refl (subst (λ (sub : ℕ). entry_at dict e.index sub ≡ Some e) one at) cob

-- a heartbeat's time
half_word : (d : Description) (bytes : List ℕ) (n : ℕ) → d.data_type ≡ types.Unsigned16 → length bytes ≡ 2 → number bytes ≡ n
    → is_none (first_broken (value_rules d bytes)) ≡ may_hold d n
half_word d bytes n t len num = rw (t, len, num, t)
    (by_rules (is_writable d.access) (option_map_or (λ high. int_lt high (pos n)) d.high false) (option_map_or (λ low. int_lt (pos n) low) d.low false))

time_written : (dict : List Entry) (e : Entry) (n : ℕ) → entry_at dict 0x1017 0 ≡ Some e → e.description.data_type ≡ types.Unsigned16 → n < 2 ^ 16
    → (b : Bool) → may_hold e.description n ≡ b → is_ok (written dict 0x1017 0 (bytes_low_first 0 2 n)) ≡ b
unfolding written refused_by_pdos
time_written dict e n at t small true m =
    let num : number (bytes_low_first 0 2 n) ≡ n = own_number 2 n small in
    let free : first_broken (value_rules e.description (bytes_low_first 0 2 n)) ≡ None = none_of _ (half_word e.description (bytes_low_first 0 2 n) n t refl num ∙ m) in
    let p = found_there dict 0x1017 0 e at in
    rw (at, free, p.0) refl
time_written dict e n at t small false m =
    let num : number (bytes_low_first 0 2 n) ≡ n = own_number 2 n small in
    rw at (not_ok (first_broken (value_rules e.description (bytes_low_first 0 2 n))) e _ (half_word e.description (bytes_low_first 0 2 n) n t refl num ∙ m))

is_half : (t : DataType) → is_unsigned16 t ≡ true → t ≡ types.Unsigned16
is_half types.Unsigned16 h = refl
is_half types.Boolean h = cc
is_half types.Integer8 h = cc
is_half types.Integer16 h = cc
is_half types.Integer32 h = cc
is_half types.Integer64 h = cc
is_half types.Unsigned8 h = cc
is_half types.Unsigned32 h = cc
is_half types.Unsigned64 h = cc
is_half types.Real32 h = cc
is_half types.Real64 h = cc
is_half types.VisibleString h = cc
is_half types.OctetString h = cc
is_half types.Domain h = cc
is_half types.Opaque h = cc

-- whether an object has or takes a time is seen of it alone
pub time_alone : (dict : List Entry) (e : Entry) (n : ℕ) → entry_at dict 0x1017 0 ≡ Some e → n < 2 ^ 16 → has_or_takes dict n e (whole_of e) ≡ holds_time n e (whole_of e)
time_alone dict e n at small = by_time (whole_of e)
  where
    by_type : (b : Bool) → is_unsigned16 e.description.data_type ≡ b → (b && is_ok (written dict 0x1017 0 (bytes_low_first 0 2 n))) ≡ (b && may_hold e.description n)
    by_type true h = time_written dict e n at (is_half e.description.data_type h) small (may_hold e.description n) refl
    by_type false h = refl

    by_time : (o : Option ℤ) → has_or_takes dict n e o ≡ holds_time n e o
    by_time None = refl
    by_time (Some now) = ap (λ b. int_eq now (pos n) || b) (by_type (is_unsigned16 e.description.data_type) refl)
