-- Settings that a device takes are numbers that its objects can have.
use Rattle.std.proofs.Common.{◌≡◌, ◌<◌, ℕ, ◌*◌, ◌^◌, Bool, true, false, not, ◌&&◌, ◌==◌, nat_lt, List, [], ◌∷◌, length, Option, Some, None, IfSome, All, refl, sym, ap, subst, ◌∙◌, arith}
use Rattle.std.specs.Option.{option_map_or}
use Rattle.std.specs.Prelude.{option_map, int_lt}
use Rattle.std.proofs.lemmas.List.Elements.{All-nil, All-cons, All-head, All-tail}
use Rattle.std.proofs.lemmas.Bool.{and_parts, eqb-true}
use Rattle.std.proofs.lemmas.Bool.Decides.{nat_tests}
use Rattle.cop_dict.specs.declared.abort.Abort.{Abort}
use Rattle.cop_dict.specs.declared.abort.Abort.TheVariants as aborts
use Rattle.cop_dict.specs.declared.data_type.DataType.{DataType}
use Rattle.cop_dict.specs.declared.data_type.DataType.TheVariants as types
use Rattle.cop_dict.specs.declared.description.Description.{Description}
use Rattle.cop_dict.specs.Types.{width_of, bits_of, is_opaque, is_boolean, is_writable}
use Rattle.cop_dict.specs.Number.{number, value_of}
use Rattle.cop_dict.specs.Rules.{first_broken, number_rules, width_rules, value_rules}
use Rattle.cop_dict.specs.Find.{Entry, entry_at}
use Rattle.cop_dict.specs.Dict.{valued}
use Rattle.cop_dict.proofs.PatternLemmas.{own_number}
use Rattle.cop_dict.proofs.Replaced.{accepts, unbroken, value_replaced}
use Rattle.cop_dict.proofs.LawLemmas.{others}
use Rattle.cop_setup.specs.declared.setting.Setting.{Setting}
use Rattle.cop_setup.specs.declared.setting.Width.{Width}
use Rattle.cop_setup.specs.declared.setting.Width.TheVariants.{One, Two, Four}
use Rattle.cop_setup.specs.Width.{size_of}
use Rattle.cop_setup.specs.Settings.{bytes_of, with_setting, has_numbers, IsFit, IsNumber}
use Rattle.cop_setup.specs.Trying.{Takes, TakesInTurn}

small_bytes : (w : Width) (v : ℕ) → v < 2 ^ (8 * size_of w) → v < 256 ^ size_of w
small_bytes One v h = omega (arith, h)
small_bytes Two v h = omega (arith, h)
small_bytes Four v h = omega (arith, h)

next : (b : Bool) (a : Abort) (rules : List (Bool × Abort)) → first_broken ((b, a) ∷ rules) ≡ None → (b ≡ false) × (first_broken rules ≡ None)
next true a rules h = cc
next false a rules h = (refl, h)

-- a BOOLEAN that breaks no rule is 0 or 1
truth_small : (d : Description) (bytes : List ℕ) → d.data_type ≡ types.Boolean → first_broken (value_rules d bytes) ≡ None → number bytes < 2
truth_small d bytes is h =
    let written = next (is_opaque d.data_type) aborts.OpaqueType ((not (is_writable d.access), aborts.ReadOnly) ∷ width_rules d (width_of d.data_type) bytes) h in
    let wide = next (not (is_writable d.access)) aborts.ReadOnly (width_rules d (width_of d.data_type) bytes) written.1 in
    let rules : first_broken (width_rules d (Some 1) bytes) ≡ None = subst (λ t. first_broken (width_rules d (width_of t) bytes) ≡ None) is wide.1 in
    let long = next (nat_lt 1 (length bytes)) aborts.TooLong ((nat_lt (length bytes) 1, aborts.TooShort) ∷ number_rules d (number bytes)) rules in
    let short = next (nat_lt (length bytes) 1) aborts.TooShort (number_rules d (number bytes)) long.1 in
    let truth = next (is_boolean d.data_type && nat_lt 1 (number bytes)) aborts.InvalidValue
    ((option_map_or (λ high. int_lt high (value_of d.data_type (number bytes))) d.high false, aborts.AboveLimit)
    ∷ (option_map_or (λ low. int_lt (value_of d.data_type (number bytes)) low) d.low false, aborts.BelowLimit) ∷ []) short.1 in
    at_most (number bytes) (subst (λ t. (is_boolean t && nat_lt 1 (number bytes)) ≡ false) is truth.0)
  where
    at_most : (n : ℕ) → nat_lt 1 n ≡ false → n < 2
    at_most n h = grind (arith, nat_tests)

-- as many bits as a width has
wide_fits : (n v : ℕ) (w : Width) → (n == size_of w) ≡ true → v < 2 ^ (8 * size_of w) → v < 2 ^ (8 * n)
wide_fits n v w same small = subst (λ size. v < 2 ^ (8 * size)) (sym (eqb-true n (size_of w) same)) small

number_fits : (d : Description) (s : Setting) → IsFit s → has_numbers d.data_type s.width ≡ true → first_broken (value_rules d (bytes_of s)) ≡ None
    → IfSome (bits_of d.data_type) (λ bits. s.value < 2 ^ bits)
number_fits d s fit numbers h = by_type d.data_type refl numbers
  where
    by_type : (t : DataType) → d.data_type ≡ t → has_numbers t s.width ≡ true → IfSome (bits_of t) (λ bits. s.value < 2 ^ bits)
    by_type types.Boolean is n =
        let own : number (bytes_of s) ≡ s.value = own_number (size_of s.width) s.value (small_bytes s.width s.value fit.value) in
        subst (λ v. v < 2) own (truth_small d (bytes_of s) is h)
    by_type types.Integer8 is n = wide_fits 1 s.value s.width n fit.value
    by_type types.Integer16 is n = wide_fits 2 s.value s.width n fit.value
    by_type types.Integer32 is n = wide_fits 4 s.value s.width n fit.value
    by_type types.Integer64 is n = wide_fits 8 s.value s.width n fit.value
    by_type types.Unsigned8 is n = wide_fits 1 s.value s.width n fit.value
    by_type types.Unsigned16 is n = wide_fits 2 s.value s.width n fit.value
    by_type types.Unsigned32 is n = wide_fits 4 s.value s.width n fit.value
    by_type types.Unsigned64 is n = wide_fits 8 s.value s.width n fit.value
    by_type types.Real32 is n = cc
    by_type types.Real64 is n = cc
    by_type types.VisibleString is n = tt
    by_type types.OctetString is n = tt
    by_type types.Domain is n = tt
    by_type types.Opaque is n = tt

is_number : (dict : List Entry) (s : Setting) → IsFit s → Takes dict s → IsNumber dict s
is_number dict s fit h =
    let a = accepts dict (with_setting dict s) s.index s.sub (bytes_of s) h.accepted in
    let numbers : has_numbers a.entry.description.data_type s.width ≡ true =
    alike (has_numbers a.entry.description.data_type s.width)
    (sym (ap (λ (o : Option Entry). option_map_or (λ entry. not (has_numbers entry.description.data_type s.width)) o false) a.at) ∙ h.alike) in
    record {
      entry = a.entry;
      here = a.at;
      numbers = numbers;
      fits = number_fits a.entry.description s fit numbers (unbroken dict (with_setting dict s) s.index s.sub (bytes_of s) a.entry a.at h.accepted);
    }
  where
    alike : (b : Bool) → not b ≡ false → b ≡ true
    alike true h = refl
    alike false h = cc

-- a number of an object before another setting
number_before : (dict : List Entry) (s x : Setting) → IsNumber (with_setting dict s) x → IsNumber dict x
number_before dict s x h = by_test ((s.index == x.index) && (s.sub == x.sub)) refl
  where
    by_entry : (o : Option Entry) → entry_at dict x.index x.sub ≡ o → option_map (valued (bytes_of s)) o ≡ Some h.entry → IsNumber dict x
    by_entry None at e = cc
    by_entry (Some entry) at e =
        let same : entry.description ≡ h.entry.description = cc in
        record {
          entry = entry;
          here = at;
          numbers = ap (λ d. has_numbers d.data_type x.width) same ∙ h.numbers;
          fits = subst (λ d. IfSome (bits_of d.data_type) (λ bits. x.value < 2 ^ bits)) (sym same) h.fits;
        }

    by_test : (b : Bool) → ((s.index == x.index) && (s.sub == x.sub)) ≡ b → IsNumber dict x
    by_test false t = record { entry = h.entry; here = sym (others dict s.index s.sub x.index x.sub (bytes_of s) t) ∙ h.here; numbers = h.numbers; fits = h.fits }
    by_test true t =
        let p = and_parts (s.index == x.index) (s.sub == x.sub) t in
        let i : s.index ≡ x.index = eqb-true s.index x.index p.0 in
        let u : s.sub ≡ x.sub = eqb-true s.sub x.sub p.1 in
        let now : entry_at (with_setting dict s) x.index x.sub ≡ option_map (valued (bytes_of s)) (entry_at dict x.index x.sub) =
        subst (λ n. entry_at (with_setting dict s) n x.sub ≡ option_map (valued (bytes_of s)) (entry_at dict n x.sub)) i
        (subst (λ n. entry_at (with_setting dict s) s.index n ≡ option_map (valued (bytes_of s)) (entry_at dict s.index n)) u (value_replaced dict s.index s.sub (bytes_of s))) in
        by_entry (entry_at dict x.index x.sub) refl (sym now ∙ h.here)

all_before : (dict : List Entry) (s : Setting) (xs : List Setting) → All (IsNumber (with_setting dict s)) xs → All (IsNumber dict) xs
all_before dict s [] h = All-nil (IsNumber dict)
all_before dict s (x ∷ xs) h =
    All-cons (IsNumber dict) x xs (number_before dict s x (All-head (IsNumber (with_setting dict s)) x xs h)) (all_before dict s xs (All-tail (IsNumber (with_setting dict s)) x xs h))

pub all_numbers : (settings : List Setting) (dict : List Entry) → All IsFit settings → TakesInTurn dict settings → All (IsNumber dict) settings
all_numbers [] dict fit h = All-nil (IsNumber dict)
all_numbers (s ∷ rest) dict fit h =
    All-cons (IsNumber dict) s rest (is_number dict s (All-head IsFit s rest fit) h.0)
    (all_before dict s rest (all_numbers rest (with_setting dict s) (All-tail IsFit s rest fit) h.1))
