-- Values fit their types from the building on.
use Rattle.std.proofs.Common.{◌≡◌, ◌≤◌, ◌<◌, ◌+◌, ◌*◌, ◌/◌, ◌%◌, ◌^◌, ◌==◌, ℕ, zero, suc, ℤ, Bool, true, false, not, ◌&&◌, cond, nat_lt, nat_le, int_lt, List, [], ◌∷◌, length, replicate, codes, All, IfSome, Option, Some, None, Result, Ok, Err, option_map, refl, ap, sym, ◌∙◌, subst, arith, lit<}
use Rattle.std.specs.Int.{bytes_low_first, byte_at}
use Rattle.std.specs.Option.{ForSome, option_map_or}
use Rattle.std.proofs.Math.Nat.{pow-succ'}
use Rattle.std.proofs.lemmas.Bool.{eqb-true, and_parts}
use Rattle.std.proofs.lemmas.Bool.Decides.{nat_tests}
use Rattle.std.proofs.lemmas.List.{length-replicate}
use Rattle.std.proofs.lemmas.List.Elements.{All-head, All-tail, All-cons, All-replicate}
use Rattle.std.proofs.lemmas.Option.{cond_some}
use Rattle.cop_eds.specs.declared.fault.Refusal.{Refusal}
use Rattle.cop_eds.specs.declared.fault.Rule.{Rule}
use Rattle.cop_eds.specs.declared.description.Object.{Object}
use Rattle.cop_eds.specs.declared.amount.Amount.{Amount}
use Rattle.cop_eds.specs.declared.amount.Amount.TheVariants.{Decimal, Negative, Hexadecimal, PlusNode}
use Rattle.cop_eds.specs.Amount.{amount_of}
use Rattle.cop_eds.specs.Number.{some_number}
use Rattle.cop_eds.specs.Steps.{◌>>=◌, standing_at}
use Rattle.cop_eds.specs.Sections.{entry_of}
use Rattle.cop_eds.specs.Objects.{objects_of}
use Rattle.cop_dict.specs.declared.abort.Abort.{Abort}
use Rattle.cop_dict.specs.declared.abort.Abort.TheVariants as aborts
use Rattle.cop_dict.specs.declared.data_type.DataType.{DataType}
use Rattle.cop_dict.specs.declared.data_type.DataType.TheVariants as types
use Rattle.cop_dict.specs.declared.description.Description.{Description}
use Rattle.cop_dict.specs.Types.{width_of, bits_of, greatest_of, is_boolean, is_text, is_opaque, is_writable, type_numbered}
use Rattle.cop_dict.specs.Number.{number, value_of}
use Rattle.cop_dict.specs.Patterns.{pattern_of, pattern_by, pattern_at}
use Rattle.cop_dict.specs.Rules.{first_broken, value_rules, width_rules, number_rules}
use Rattle.cop_dict.specs.Find.{Entry, is_at, entry_at}
use Rattle.cop_dict.specs.Dict.{written, with_value, valued, as_built, reset_communication, initial, initial_communication}
use Rattle.cop_dict.specs.Mapping.{is_between}
use Rattle.cop_dict.specs.Build.{least_width, zeros, number_bytes, initial_number, initial_of, limit_of, value_entry, entry_of_type, entry_built, collected, built}
use Rattle.cop_dict.specs.Fitting.{FitsType, IsFitting, HasFittingValues}
use Rattle.cop_dict.proofs.LawLemmas.{others}
use Rattle.cop_dict.proofs.PatternLemmas.{own_number}
use Rattle.cop_dict.proofs.Replaced.{accepts, unbroken, value_replaced, pointwise}
use Rattle.cop_dict.proofs.AgreeLemmas.{entry_made}

-- ---- the numbers of bytes

number_below : (bytes : List ℕ) → All (λ byte. byte < 256) bytes → number bytes < 256 ^ length bytes
number_below [] all = lit< tt
number_below (b ∷ bs) all =
    rw (pow-succ' 256 (length bs)) (step b (number bs) (256 ^ length bs) (All-head (λ byte. byte < 256) b bs all) (number_below bs (All-tail (λ byte. byte < 256) b bs all)))
  where
    step : (b n p : ℕ) → b < 256 → n < p → b + 256 * n < 256 * p
    step b n p small less = omega arith

-- a value that is as wide as its type, and of a BOOLEAN 0 or 1
record IsAsWide (t : DataType) (bytes : List ℕ) : Type 0 where
  width : ForSome (width_of t) (λ width. length bytes ≡ width)
  truth : is_boolean t ≡ true → number bytes < 2

below_width : (w : ℕ) (bytes : List ℕ) → All (λ byte. byte < 256) bytes → length bytes ≡ w → number bytes < 256 ^ w
below_width w bytes all len = rw len at (number_below bytes all)

few_bits : (t : DataType) (bytes : List ℕ) → All (λ byte. byte < 256) bytes → IsAsWide t bytes → ForSome (bits_of t) (λ bits. number bytes < 2 ^ bits)
few_bits types.Boolean bytes all h bits e = let is : 1 ≡ bits = cc in rw (← is) (h.truth refl)
few_bits types.Integer8 bytes all h bits e = let is : 8 ≡ bits = cc in rw (← is) (below_width 1 bytes all (h.width 1 refl))
few_bits types.Integer16 bytes all h bits e = let is : 16 ≡ bits = cc in rw (← is) (below_width 2 bytes all (h.width 2 refl))
few_bits types.Integer32 bytes all h bits e = let is : 32 ≡ bits = cc in rw (← is) (below_width 4 bytes all (h.width 4 refl))
few_bits types.Integer64 bytes all h bits e = let is : 64 ≡ bits = cc in rw (← is) (below_width 8 bytes all (h.width 8 refl))
few_bits types.Unsigned8 bytes all h bits e = let is : 8 ≡ bits = cc in rw (← is) (below_width 1 bytes all (h.width 1 refl))
few_bits types.Unsigned16 bytes all h bits e = let is : 16 ≡ bits = cc in rw (← is) (below_width 2 bytes all (h.width 2 refl))
few_bits types.Unsigned32 bytes all h bits e = let is : 32 ≡ bits = cc in rw (← is) (below_width 4 bytes all (h.width 4 refl))
few_bits types.Unsigned64 bytes all h bits e = let is : 64 ≡ bits = cc in rw (← is) (below_width 8 bytes all (h.width 8 refl))
few_bits types.Real32 bytes all h bits e = let is : 32 ≡ bits = cc in rw (← is) (below_width 4 bytes all (h.width 4 refl))
few_bits types.Real64 bytes all h bits e = let is : 64 ≡ bits = cc in rw (← is) (below_width 8 bytes all (h.width 8 refl))
few_bits types.VisibleString bytes all h bits e = cc
few_bits types.OctetString bytes all h bits e = cc
few_bits types.Domain bytes all h bits e = cc
few_bits types.Opaque bytes all h bits e = cc

fits : (t : DataType) (bytes : List ℕ) → All (λ byte. byte < 256) bytes → IsAsWide t bytes → FitsType t bytes
fits t bytes all h = record { width = h.width; bytes = λ w e. all; small = few_bits t bytes all h }

-- ---- writes

next : (b : Bool) (a : Abort) (rules : List (Bool × Abort)) → first_broken ((b, a) ∷ rules) ≡ None → (b ≡ false) × (first_broken rules ≡ None)
next true a rules h = cc
next false a rules h = (refl, h)

boolean_alone : (t : DataType) → is_boolean t ≡ true → t ≡ types.Boolean
boolean_alone types.Boolean h = refl
boolean_alone types.Integer8 h = cc
boolean_alone types.Integer16 h = cc
boolean_alone types.Integer32 h = cc
boolean_alone types.Integer64 h = cc
boolean_alone types.Unsigned8 h = cc
boolean_alone types.Unsigned16 h = cc
boolean_alone types.Unsigned32 h = cc
boolean_alone types.Unsigned64 h = cc
boolean_alone types.Real32 h = cc
boolean_alone types.Real64 h = cc
boolean_alone types.VisibleString h = cc
boolean_alone types.OctetString h = cc
boolean_alone types.Domain h = cc
boolean_alone types.Opaque h = cc

at_most_one : (b : Bool) (n : ℕ) → (b && nat_lt 1 n) ≡ false → b ≡ true → n < 2
at_most_one true n h e = grind (arith, nat_tests)
at_most_one false n h e = cc

-- what the rules for a width say of a value that breaks none
width_unbroken : (d : Description) (w : ℕ) (bytes : List ℕ) → first_broken (width_rules d (Some w) bytes) ≡ None
    → (length bytes ≡ w) × ((is_boolean d.data_type && nat_lt 1 (number bytes)) ≡ false)
width_unbroken d w bytes h =
    let long = next (nat_lt w (length bytes)) aborts.TooLong ((nat_lt (length bytes) w, aborts.TooShort) ∷ number_rules d (number bytes)) h in
    let short = next (nat_lt (length bytes) w) aborts.TooShort (number_rules d (number bytes)) long.1 in
    let truth = next (is_boolean d.data_type && nat_lt 1 (number bytes)) aborts.InvalidValue
    ((option_map_or (λ high. int_lt high (value_of d.data_type (number bytes))) d.high false, aborts.AboveLimit)
    ∷ (option_map_or (λ low. int_lt (value_of d.data_type (number bytes)) low) d.low false, aborts.BelowLimit) ∷ []) short.1 in
    (grind (arith, nat_tests, long.0, short.0), truth.0)

-- a value that breaks no rule of a write is as wide as its type
unbroken_is_as_wide : (d : Description) (bytes : List ℕ) → first_broken (value_rules d bytes) ≡ None → IsAsWide d.data_type bytes
unbroken_is_as_wide d bytes h =
    let rest = width_rules d (width_of d.data_type) bytes in
    let kept = next (is_opaque d.data_type) aborts.OpaqueType ((not (is_writable d.access), aborts.ReadOnly) ∷ rest) h in
    by_width (width_of d.data_type) refl (next (not (is_writable d.access)) aborts.ReadOnly rest kept.1).1
  where
    by_width : (w : Option ℕ) → width_of d.data_type ≡ w → first_broken (width_rules d w bytes) ≡ None → IsAsWide d.data_type bytes
    by_width None is rules = record {
      width = λ width e. (let g : None ≡ Some width = sym is ∙ e in cc);
      truth = λ b. (let g : None ≡ Some 1 = sym is ∙ ap width_of (boolean_alone d.data_type b) in cc);
    }
    by_width (Some w) is rules =
        let p = width_unbroken d w bytes rules in
        record {
          width = λ width e. (let g : Some w ≡ Some width = sym is ∙ e in let same : w ≡ width = cc in p.0 ∙ same);
          truth = at_most_one (is_boolean d.data_type) (number bytes) p.1;
        }

pub changes_fit : (dict : List Entry) (index sub : ℕ) (bytes : List ℕ) → IfSome (entry_at dict index sub) (λ entry. FitsType entry.description.data_type bytes)
    → HasFittingValues dict → HasFittingValues (with_value index sub bytes dict)
changes_fit dict index sub bytes fit all other part = by_test ((index == other) && (sub == part)) refl
  where
    by_entry : (o : Option Entry) → IfSome o (λ entry. FitsType entry.description.data_type bytes) → IfSome o IsFitting → IfSome (option_map (valued bytes) o) IsFitting
    by_entry None fit here = tt
    by_entry (Some e) fit here = record { value = fit; initial = here.initial }

    by_test : (b : Bool) → ((index == other) && (sub == part)) ≡ b → IfSome (entry_at (with_value index sub bytes dict) other part) IsFitting
    by_test true t =
        let p = and_parts (index == other) (sub == part) t in
        rw (← eqb-true index other p.0, ← eqb-true sub part p.1, value_replaced dict index sub bytes) (by_entry (entry_at dict index sub) fit (all index sub))
    by_test false t = rw (others dict index sub other part bytes t) (all other part)

pub writes_fit : (dict new : List Entry) (index sub : ℕ) (bytes : List ℕ) → written dict index sub bytes ≡ Ok new → All (λ byte. byte < 256) bytes
    → HasFittingValues dict → HasFittingValues new
writes_fit dict new index sub bytes h small all =
    let a = accepts dict new index sub bytes h in
    subst HasFittingValues (sym a.same)
    (changes_fit dict index sub bytes (rw a.at (fits a.entry.description.data_type bytes small (unbroken_is_as_wide a.entry.description bytes (unbroken dict new index sub bytes a.entry a.at h)))) all)

-- ---- resets

reset_fits : (e : Entry) → IsFitting e → IsFitting (reset_communication e)
reset_fits e h = by_range (is_between 0x1000 0x1FFF e.index)
  where
    by_range : (b : Bool) → IsFitting (cond b (as_built e) e)
    by_range true = record { value = h.initial; initial = h.initial }
    by_range false = h

pub resets_fit : (dict : List Entry) → HasFittingValues dict → HasFittingValues (initial dict) × HasFittingValues (initial_communication dict)
resets_fit dict all = (
  λ index sub. rw (pointwise dict index sub).0 (of_all (entry_at dict index sub) (all index sub)),
  λ index sub. rw (pointwise dict index sub).1 (of_some (entry_at dict index sub) (all index sub)),
)
  where
    of_all : (o : Option Entry) → IfSome o IsFitting → IfSome (option_map as_built o) IsFitting
    of_all None h = tt
    of_all (Some e) h = record { value = h.initial; initial = h.initial }

    of_some : (o : Option Entry) → IfSome o IsFitting → IfSome (option_map reset_communication o) IsFitting
    of_some None h = tt
    of_some (Some e) h = reset_fits e h

-- ---- the building

truth_below : (node pattern : ℕ) (amount : Amount) → pattern_of types.Boolean 1 node amount ≡ Some pattern → pattern ≤ 1
truth_below node pattern (Decimal n) h = let p = cond_some (nat_le n 1) n pattern h in grind (arith, nat_tests, p.0, p.1)
truth_below node pattern (PlusNode n) h = let p = cond_some (nat_le (n + node) 1) (n + node) pattern h in grind (arith, nat_tests, p.0, p.1)
truth_below node pattern (Hexadecimal n) h = let p = cond_some (nat_le n 1) n pattern h in grind (arith, nat_tests, p.0, p.1)
truth_below node pattern (Negative n) h = let p = cond_some (nat_le n 0) n pattern h in grind (arith, nat_tests, p.0, p.1)

truth_at : (node pattern : ℕ) (entry : ℕ × List ℕ) → pattern_at types.Boolean 1 node entry ≡ Ok pattern → pattern ≤ 1
truth_at node pattern entry h = by_amount (amount_of entry.1) h
  where
    by_some : (amount : Amount) (o : Option ℕ) → pattern_of types.Boolean 1 node amount ≡ o → standing_at entry.0 (some_number o) ≡ Ok pattern → pattern ≤ 1
    by_some amount None is h = cc
    by_some amount (Some q) is h = let same : q ≡ pattern = cc in truth_below node pattern amount (is ∙ ap Some same)

    by_amount : (r : Result Amount Rule) → standing_at entry.0 (pattern_by types.Boolean 1 node r) ≡ Ok pattern → pattern ≤ 1
    by_amount (Err rule) h = cc
    by_amount (Ok amount) h = by_some amount (pattern_of types.Boolean 1 node amount) refl h

bytes_small : (i width n : ℕ) → All (λ byte. byte < 256) (bytes_low_first i width n)
bytes_small i zero n = λ k d inside. absurd (omega (arith, inside))
bytes_small i (suc width) n = All-cons (λ byte. byte < 256) (byte_at i n) (bytes_low_first (suc i) width n) (one i) (bytes_small (suc i) width n)
  where
    one : (i : ℕ) → byte_at i n < 256
    one zero = omega arith
    one (suc i) = rest (n / 256 ^ suc i)
      where
        rest : (m : ℕ) → m % 256 < 256
        rest m = omega arith

bytes_length : (i width n : ℕ) → length (bytes_low_first i width n) ≡ width
bytes_length i zero n = refl
bytes_length i (suc width) n = ap (λ k. suc k) (bytes_length (suc i) width n)

number_fits : (t : DataType) (greatest node pattern : ℕ) (entry : ℕ × List ℕ) → greatest_of t ≡ Some greatest → pattern_at t greatest node entry ≡ Ok pattern
    → FitsType t (bytes_low_first 0 (least_width t) pattern)
number_fits t greatest node pattern entry is h =
    fits t (bytes_low_first 0 (least_width t) pattern) (bytes_small 0 (least_width t) pattern)
    (record { width = λ width e. rw e (bytes_length 0 width pattern); truth = λ b. truth t (boolean_alone t b) is h })
  where
    truth : (t : DataType) → t ≡ types.Boolean → greatest_of t ≡ Some greatest → pattern_at t greatest node entry ≡ Ok pattern
        → number (bytes_low_first 0 (least_width t) pattern) < 2
    truth t same is h =
        let one : Some 1 ≡ Some greatest = rw same at is in
        let greatest_is : greatest ≡ 1 = cc in
        let le = truth_at node pattern entry (rw (same, greatest_is) at h) in
        rw same (rw (own_number 1 pattern (omega (arith, le))) (omega (arith, le)))

zeros_number : (n : ℕ) → number (replicate n 0) ≡ 0
zeros_number zero = refl
zeros_number (suc n) = let rest = zeros_number n in omega (arith, rest)

zeros_fit : (t : DataType) → FitsType t (zeros t)
zeros_fit t =
    fits t (zeros t) (All-replicate (λ byte. byte < 256) (least_width t) 0 (lit< tt))
    (record { width = λ width e. rw e (length-replicate width 0); truth = λ b. (let none = zeros_number (least_width t) in omega (arith, none)) })

text_fits : (t : DataType) (value : List ℕ) → is_text t ≡ true → FitsType t value
text_fits types.Boolean value h = cc
text_fits types.Integer8 value h = cc
text_fits types.Integer16 value h = cc
text_fits types.Integer32 value h = cc
text_fits types.Integer64 value h = cc
text_fits types.Unsigned8 value h = cc
text_fits types.Unsigned16 value h = cc
text_fits types.Unsigned32 value h = cc
text_fits types.Unsigned64 value h = cc
text_fits types.Real32 value h = cc
text_fits types.Real64 value h = cc
text_fits types.VisibleString value h = record { width = λ w e. cc; bytes = λ w e. cc; small = λ b e. cc }
text_fits types.OctetString value h = cc
text_fits types.Domain value h = cc
text_fits types.Opaque value h = cc

initial_fits : (t : DataType) (node : ℕ) (entry : Option (ℕ × List ℕ)) (initial : List ℕ) → initial_of t node entry ≡ Ok initial → FitsType t initial
initial_fits t node None initial h = let same : zeros t ≡ initial = cc in subst (FitsType t) same (zeros_fit t)
initial_fits t node (Some entry) initial h = by_text (is_text t) refl h
  where
    by_pattern : (greatest : ℕ) → greatest_of t ≡ Some greatest → (r : Result ℕ Refusal) → pattern_at t greatest node entry ≡ r → number_bytes t r ≡ Ok initial → FitsType t initial
    by_pattern greatest is (Err refusal) at h = cc
    by_pattern greatest is (Ok pattern) at h =
        let same : bytes_low_first 0 (least_width t) pattern ≡ initial = cc in
        subst (FitsType t) same (number_fits t greatest node pattern entry is at)

    by_numbers : (o : Option ℕ) → greatest_of t ≡ o → initial_number t o node entry ≡ Ok initial → FitsType t initial
    by_numbers None is h = let same : zeros t ≡ initial = cc in subst (FitsType t) same (zeros_fit t)
    by_numbers (Some greatest) is h = by_pattern greatest is (pattern_at t greatest node entry) refl h

    by_text : (b : Bool) → is_text t ≡ b → cond b (Ok entry.1) (initial_number t (greatest_of t) node entry) ≡ Ok initial → FitsType t initial
    by_text true is h = text_fits t initial is
    by_text false is h = by_numbers (greatest_of t) refl h

entry_fits : (text : List ℕ) (node : ℕ) (o : Object) (t : DataType) (e : Entry) → entry_of_type text node o t ≡ Ok e → IsFitting e
unfolding entry_of_type
entry_fits text node o t e h =
    by_initial (initial_of t node (value_entry text o.place.section)) refl (limit_of t node (entry_of text o.place.section (codes "LowLimit")))
    (limit_of t node (entry_of text o.place.section (codes "HighLimit"))) h
  where
    by_initial : (initial : Result (List ℕ) Refusal) → initial_of t node (value_entry text o.place.section) ≡ initial → (low high : Result (Option ℤ) Refusal)
        → (initial >>= λ initial. low >>= λ low. high >>= λ high. Ok (entry_made o t initial low high)) ≡ Ok e → IsFitting e
    by_initial (Err r) is low high h = cc
    by_initial (Ok initial) is (Err r) high h = cc
    by_initial (Ok initial) is (Ok low) (Err r) h = cc
    by_initial (Ok initial) is (Ok low) (Ok high) h =
        let same : entry_made o t initial low high ≡ e = cc in
        let fit = initial_fits t node (value_entry text o.place.section) initial is in
        subst IsFitting same (record { value = fit; initial = fit })

collected_fits : (text : List ℕ) (node : ℕ) (objects : List Object) (entries : List Entry) → collected (entry_built text node) objects ≡ Ok entries → HasFittingValues entries
unfolding collected
collected_fits text node [] entries h index sub = let none : [] ≡ entries = cc in rw (← none) tt
collected_fits text node (o ∷ objects) entries h index sub = by_first (entry_built text node o) refl h (λ es rest. collected_fits text node objects es rest)
  where
    by_place : (e : Entry) (es : List Entry) → IsFitting e → HasFittingValues es → (b : Bool) → IfSome (cond b (Some e) (entry_at es index sub)) IsFitting
    by_place e es here later true = here
    by_place e es here later false = later index sub

    by_rest : (e : Entry) → entry_built text node o ≡ Ok e → (r : Result (List Entry) Refusal) → collected (entry_built text node) objects ≡ r
        → (r >>= λ ys. Ok (e ∷ ys)) ≡ Ok entries
        → ((es : List Entry) → collected (entry_built text node) objects ≡ Ok es → HasFittingValues es) → IfSome (entry_at entries index sub) IsFitting
    by_rest e here (Err r) rest h later = cc
    by_rest e here (Ok es) rest h later =
        let all : e ∷ es ≡ entries = cc in
        rw (← all) (by_place e es (entry_fits text node o (type_numbered o.data_type) e here) (later es rest) (is_at index sub e))

    by_first : (r : Result Entry Refusal) → entry_built text node o ≡ r
        → (r >>= λ y. collected (entry_built text node) objects >>= λ ys. Ok (y ∷ ys)) ≡ Ok entries
        → ((es : List Entry) → collected (entry_built text node) objects ≡ Ok es → HasFittingValues es) → IfSome (entry_at entries index sub) IsFitting
    by_first (Err r) here h later = cc
    by_first (Ok e) here h later = by_rest e here (collected (entry_built text node) objects) refl h later

pub built_fits : (text : List ℕ) (node : ℕ) (dict : List Entry) → built text node ≡ Ok dict → HasFittingValues dict
built_fits text node dict h = collected_fits text node (objects_of text) dict h
