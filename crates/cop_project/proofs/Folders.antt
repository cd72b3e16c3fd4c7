-- The folder of a text that grows at its end.
use Rattle.std.proofs.Common.{◌≡◌, ℕ, ◌==◌, ◌+◌, ◌-◌, ◌<◌, ◌≤◌, Bool, true, false, ◌||◌, List, [], ◌∷◌, ◌++◌, length, take, get_or, refl, sym, subst, arith}
use Rattle.std.proofs.lemmas.Bool.Decides.{nat_tests}
use Rattle.std.proofs.lemmas.List.{take_more}
use Rattle.std.proofs.lemmas.Str.{IsCharBoundary-after_ascii}
use Rattle.std.specs.Str.{IsUtf8, IsCharBoundary}
use Rattle.cop_project.specs.Words.{has_slash, folder_of}

or_more : (a b c : Bool) → (a || b) || c ≡ (a || (b || c))
or_more true b c = refl
or_more false b c = refl

or_false : (a : Bool) → (a || false) ≡ a
or_false true = refl
or_false false = refl

or_true : (a : Bool) → (a || true) ≡ true
or_true true = refl
or_true false = refl

has_more : (xs : List ℕ) (b : ℕ) → has_slash (xs ++ b ∷ []) ≡ (has_slash xs || (b == 47))
has_more [] b = or_false (b == 47)
has_more (x ∷ xs) b = rw (has_more xs b, or_more (x == 47) (has_slash xs) (b == 47))

-- one more byte that is a slash
pub folder_slash : (xs : List ℕ) (b : ℕ) → (b == 47) ≡ true → folder_of (xs ++ b ∷ []) ≡ xs ++ b ∷ []
folder_slash [] b e = rw e
folder_slash (x ∷ xs) b e = rw (has_more xs b, e, or_true (has_slash xs), or_true (x == 47), folder_slash xs b e)

-- one more byte that is none
pub folder_other : (xs : List ℕ) (b : ℕ) → (b == 47) ≡ false → folder_of (xs ++ b ∷ []) ≡ folder_of xs
folder_other [] b e = rw e
folder_other (x ∷ xs) b e = rw (has_more xs b, e, or_false (has_slash xs), folder_other xs b e)

-- the folder of what was read, once a slash is read, and once another byte is
pub grown_slash : (xs : List ℕ) (i len : ℕ) → i < length xs → len ≡ i + 1 → get_or xs i 0 ≡ 47 → take len xs ≡ folder_of (take (i + 1) xs)
grown_slash xs i len h e s =
    let is : (get_or xs i 0 == 47) ≡ true = rw s in
    rw (e, take_more xs i 0 h) (sym (folder_slash (take i xs) (get_or xs i 0) is))

pub grown_other : (xs : List ℕ) (i before len : ℕ) → i < length xs → len ≡ before → ¬ (get_or xs i 0 ≡ 47) → take before xs ≡ folder_of (take i xs) → take len xs ≡ folder_of (take (i + 1) xs)
grown_other xs i before len h e s f =
    let isnt : (get_or xs i 0 == 47) ≡ false = grind (arith, nat_tests) in
    rw (e, take_more xs i 0 h, f) (sym (folder_other (take i xs) (get_or xs i 0) isnt))

pub slash_at : (xs : List ℕ) (i len : ℕ) → len ≡ i + 1 → get_or xs i 0 ≡ 47 → get_or xs (len - 1) 0 ≡ 47
slash_at xs i len e s = let k : len - 1 ≡ i = omega arith in rw k s

-- a text may be cut behind a slash
pub cut_behind : (text bytes : List ℕ) (len : ℕ) → bytes ≡ text → IsUtf8 text → ¬ (len ≡ 0) → len ≤ length bytes → (0 < len → get_or bytes (len - 1) 0 ≡ 47) → IsCharBoundary text len
cut_behind text bytes len e u some h slash =
    let short : len ≤ length text = rw e at h in
    let at : get_or text (len - 1) 0 ≡ 47 = rw (← e) (slash (omega arith)) in
    let k : (len - 1) + 1 ≡ len = omega arith in
    subst (λ (n : ℕ). IsCharBoundary text n) k (IsCharBoundary-after_ascii text (len - 1) u (omega arith) (omega arith))
