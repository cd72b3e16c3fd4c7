-- Settings of entries that are COB-IDs, one for each at most.
use Rattle.std.proofs.Common.{◌≡◌, ℕ, suc, zero, ◌<◌, true, false, cond, ◌&&◌, ◌||◌, ◌==◌, nat_lt, List, [], ◌∷◌, length, get_or, All, refl, arith, Option, Some, None, IfSome, IsSome}
use Rattle.std.proofs.lemmas.List.Elements.{All-head, All-tail}
use Rattle.std.proofs.lemmas.Bool.{and_parts}
use Rattle.std.proofs.lemmas.Bool.Decides.{nat_tests}
use Rattle.std.specs.Prelude.{option_map}
use Rattle.std.specs.List.{filter_map, cons_option}
use Rattle.cop_dict.specs.declared.data_type.DataType.{DataType}
use Rattle.cop_dict.specs.declared.data_type.DataType.TheVariants as types
use Rattle.cop_dict.specs.Types.{width_of, is_unsigned32}
use Rattle.cop_dict.specs.Number.{number}
use Rattle.cop_dict.specs.Find.{Entry, entry_at, is_before, unsigned32_of, IsSorted}
use Rattle.cop_dict.specs.Pdo.{is_cob_id, is_communication, is_mapping}
use Rattle.cop_dict.specs.Dict.{valued}
use Rattle.cop_setup.specs.declared.setting.Setting.{Setting}
use Rattle.cop_setup.specs.Settings.{bytes_of}
use Rattle.cop_setup.specs.InTurn.{IsElsewhere, AreApart, TakesAlone, TakesEach, HaveValues}

-- what is set of an entry is at its COB-ID
abbrev pub AtCobId : Entry → Setting → Type 0
AtCobId e s = (is_cob_id e ≡ true) × ((s.index ≡ e.index) × (s.sub ≡ 1))

abbrev pub Own : (Entry → Option Setting) → Type 0
Own f = (e : Entry) → IfSome (f e) (AtCobId e)

pub sub_of : (e : Entry) → is_cob_id e ≡ true → e.sub ≡ 1
sub_of e h = let t = (and_parts (is_communication e.index) (e.sub == 1) h).1 in grind (arith, nat_tests)

pub free_of : (e : Entry) → is_cob_id e ≡ true → is_mapping e.index ≡ false
free_of e h = grind (arith, nat_tests)

-- an UNSIGNED32 has one width
pub wide : (e : Entry) (v : ℕ) → unsigned32_of e ≡ Some v → IsSome (width_of e.description.data_type)
wide e v h = by_type e.description.data_type h
  where
    by_type : (t : DataType) → cond (is_unsigned32 t) (Some (number e.value)) None ≡ Some v → IsSome (width_of t)
    by_type types.Unsigned32 h = refl
    by_type _ h = cc

-- ---- settings of entries that stand in order are apart
abbrev IsBehind : Entry → Entry → Type 0
IsBehind x y = is_before y.index y.sub x ≡ true

sorted_rest : (x : Entry) (xs : List Entry) → IsSorted (x ∷ xs) → IsSorted xs
sorted_rest x xs h = λ i j d lt inside. h (suc i) (suc j) d (omega arith) (omega arith)

sorted_head : (x : Entry) (xs : List Entry) → IsSorted (x ∷ xs) → All (IsBehind x) xs
sorted_head x xs h = λ k d lt. h 0 (suc k) d (omega arith) (omega arith)

module _ (f : Entry → Option Setting) (own : Own f) where
  elsewhere : (x : Entry) (xs : List Entry) → is_cob_id x ≡ true → All (IsBehind x) xs → IsElsewhere x.index 1 (filter_map f xs)
  elsewhere x [] cob h = tt
  elsewhere x (y ∷ ys) cob h = by_first (f y) (own y) (elsewhere x ys cob (All-tail (IsBehind x) y ys h))
    where
      other : (s : Setting) → AtCobId y s → (s.index == x.index) && (s.sub == 1) ≡ false
      other s at =
          let behind : is_before y.index y.sub x ≡ true = All-head (IsBehind x) y ys h in
          let sx : x.sub ≡ 1 = sub_of x cob in
          let sy : y.sub ≡ 1 = sub_of y at.0 in
          let i : s.index ≡ y.index = at.1.0 in
          apart s.index y.index y.sub x.index x.sub s.sub i sx sy behind
        where
          apart : (a b c d e g : ℕ) → a ≡ b → e ≡ 1 → c ≡ 1 → (nat_lt d b || ((d == b) && nat_lt e c)) ≡ true → (a == d) && (g == 1) ≡ false
          apart a b c d e g ab e1 c1 t = grind (arith, nat_tests)

      by_first : (o : Option Setting) → IfSome o (AtCobId y) → IsElsewhere x.index 1 (filter_map f ys) → IsElsewhere x.index 1 (cons_option o (filter_map f ys))
      by_first None at rest = rest
      by_first (Some s) at rest = (other s at, rest)

  pub apart_of : (xs : List Entry) → IsSorted xs → AreApart (filter_map f xs)
  apart_of [] h = tt
  apart_of (x ∷ xs) h = by_first (f x) (own x) (apart_of xs (sorted_rest x xs h))
    where
      by_first : (o : Option Setting) → IfSome o (AtCobId x) → AreApart (filter_map f xs) → AreApart (cons_option o (filter_map f xs))
      by_first None at rest = rest
      by_first (Some s) at rest = (rw (at.1.0, at.1.1) (elsewhere x xs at.0 (sorted_head x xs h)), rest)

  pub takes_of : (dict xs : List Entry) → All (λ e. IfSome (f e) (TakesAlone dict)) xs → TakesEach dict (filter_map f xs)
  takes_of dict [] h = tt
  takes_of dict (x ∷ xs) h = by_first (f x) (All-head (λ e. IfSome (f e) (TakesAlone dict)) x xs h) (takes_of dict xs (All-tail (λ e. IfSome (f e) (TakesAlone dict)) x xs h))
    where
      by_first : (o : Option Setting) → IfSome o (TakesAlone dict) → TakesEach dict (filter_map f xs) → TakesEach dict (cons_option o (filter_map f xs))
      by_first None at rest = rest
      by_first (Some s) at rest = (at, rest)

  abbrev pub HasValue : List Entry → List Entry → Setting → Type 0
  HasValue dict new s = entry_at new s.index s.sub ≡ option_map (valued (bytes_of s)) (entry_at dict s.index s.sub)

  pub values_of : (dict new xs : List Entry) → HaveValues dict new (filter_map f xs) → (k : ℕ) (d : Entry) → k < length xs → IfSome (f (get_or xs k d)) (HasValue dict new)
  values_of dict new [] h k d lt = absurd (omega arith)
  values_of dict new (x ∷ xs) h zero d lt = by_first (f x) h
    where
      by_first : (o : Option Setting) → HaveValues dict new (cons_option o (filter_map f xs)) → IfSome o (HasValue dict new)
      by_first None h = tt
      by_first (Some s) h = h.0
  values_of dict new (x ∷ xs) h (suc k) d lt = values_of dict new xs (by_first (f x) h) k d (omega arith)
    where
      by_first : (o : Option Setting) → HaveValues dict new (cons_option o (filter_map f xs)) → HaveValues dict new (filter_map f xs)
      by_first None h = h
      by_first (Some s) h = h.1

  -- none of them is the heartbeat's
  pub no_beat : (xs : List Entry) → IsElsewhere 0x1017 0 (filter_map f xs)
  no_beat [] = tt
  no_beat (x ∷ xs) = by_first (f x) (own x) (no_beat xs)
    where
      other : (s : Setting) → s.sub ≡ 1 → (s.index == 0x1017) && (s.sub == 0) ≡ false
      other s sub = grind (arith, nat_tests)

      by_first : (o : Option Setting) → IfSome o (AtCobId x) → IsElsewhere 0x1017 0 (filter_map f xs) → IsElsewhere 0x1017 0 (cons_option o (filter_map f xs))
      by_first None at rest = rest
      by_first (Some s) at rest = (other s at.1.1, rest)
