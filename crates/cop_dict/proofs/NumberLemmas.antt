-- Numbers of few bytes.
use Rattle.std.proofs.Common.{◌≡◌, ◌≤◌, ◌<◌, ◌^◌, ℕ, true, false, List, [], ◌∷◌, length, take, drop, ◌-◌, slice_index_or, refl, sym, arith, length-drop, Some}
use Rattle.std.specs.Option.{ForSome}
use Rattle.cop_dict.specs.declared.data_type.DataType.{DataType}
use Rattle.cop_dict.specs.declared.data_type.DataType.TheVariants as types
use Rattle.cop_dict.specs.Types.{width_of, greatest_of}
use Rattle.std.proofs.Math.Seq.{take-length}
use Rattle.std.proofs.Math.Nat.{pow-le-pow_right}
use Rattle.std.proofs.lemmas.Bool.Decides.{nat_tests}
use Rattle.cop_dict.specs.Number.{number, is_zero}

pub at_most_seven : (n len : ℕ) → n < 256 ^ len → len ≤ 7 → n < 256 ^ 7
at_most_seven n len h le = omega (arith, pow-le-pow_right {n = 256} (omega arith) {i = len} {j = 7} le)

-- bytes that are all 0 are 0
zeros : (bytes : List ℕ) → is_zero bytes ≡ true → number bytes ≡ 0
zeros [] h = refl
zeros (b ∷ bs) h = grind (arith, nat_tests, zeros bs)

-- others aren't
not_zeros : (bytes : List ℕ) → is_zero bytes ≡ false → 1 ≤ number bytes
not_zeros [] h = cc
not_zeros (b ∷ bs) h = grind (arith, nat_tests, not_zeros bs)

rest_of : (bytes : List ℕ) → take (length bytes - 1) (drop 1 bytes) ≡ drop 1 bytes
rest_of bytes = let all : length bytes - 1 ≡ length (drop 1 bytes) = sym (length-drop 1 bytes) in rw all (take-length (drop 1 bytes))

-- one byte with zeros behind it
pub first_alone : (bytes : List ℕ) → 1 ≤ length bytes → is_zero (take (length bytes - 1) (drop 1 bytes)) ≡ true → number bytes ≡ slice_index_or bytes 0 0
first_alone [] le h = absurd (omega arith)
first_alone (b ∷ bs) le h = let none : number bs ≡ 0 = zeros bs (rw (rest_of (b ∷ bs)) at h) in omega arith

pub first_not_alone : (bytes : List ℕ) → 1 ≤ length bytes → is_zero (take (length bytes - 1) (drop 1 bytes)) ≡ false → 256 ≤ number bytes
first_not_alone [] le h = absurd (omega arith)
first_not_alone (b ∷ bs) le h = let some : 1 ≤ number bs = not_zeros bs (rw (rest_of (b ∷ bs)) at h) in omega arith

-- a value of a type that has numbers has at most 8 bytes
pub short : (t : DataType) (greatest m n : ℕ) → greatest_of t ≡ Some greatest → ForSome (width_of t) (λ width. (m ≡ width) × (n ≡ width)) → n ≤ 8
short types.Boolean greatest m n h fits = let width : n ≡ 1 = (fits 1 refl).1 in omega arith
short types.Integer8 greatest m n h fits = let width : n ≡ 1 = (fits 1 refl).1 in omega arith
short types.Integer16 greatest m n h fits = let width : n ≡ 2 = (fits 2 refl).1 in omega arith
short types.Integer32 greatest m n h fits = let width : n ≡ 4 = (fits 4 refl).1 in omega arith
short types.Integer64 greatest m n h fits = let width : n ≡ 8 = (fits 8 refl).1 in omega arith
short types.Unsigned8 greatest m n h fits = let width : n ≡ 1 = (fits 1 refl).1 in omega arith
short types.Unsigned16 greatest m n h fits = let width : n ≡ 2 = (fits 2 refl).1 in omega arith
short types.Unsigned32 greatest m n h fits = let width : n ≡ 4 = (fits 4 refl).1 in omega arith
short types.Unsigned64 greatest m n h fits = let width : n ≡ 8 = (fits 8 refl).1 in omega arith
short types.Real32 greatest m n h fits = cc
short types.Real64 greatest m n h fits = cc
short types.VisibleString greatest m n h fits = cc
short types.OctetString greatest m n h fits = cc
short types.Domain greatest m n h fits = cc
short types.Opaque greatest m n h fits = cc
