-- Lists of members: that they rise, one of them, and which are marked.
use Rattle.std.proofs.Common.{◌≡◌, ◌≢◌, ◌⊎◌, inl, inr, ℕ, zero, suc, ◌+◌, ◌<◌, ◌≤◌, Bool, true, false, ◌||◌, ◌==◌, List, [], ◌∷◌, length, map, not, get_or, slice_get, Some, None, sym, true≢false, drop, All, refl, ap, arith, ne_eqb, set, ◌∙◌, eq-eqb}
use Rattle.cop_rta.specs.Test.{is_flagged}
use Rattle.cop_rta.specs.Placing.{HasOneAbove}
use Rattle.std.proofs.lemmas.Option.{slice_get_cases}
use Rattle.std.proofs.lemmas.Bool.{cases_lt, or_left, or_right}
use Rattle.cop_rta.specs.declared.streams.Stream.{Stream}
use Rattle.cop_rta.proofs.FlagLemmas.{flag_set}
use Rattle.std.proofs.lemmas.List.{length-map, drop_more}
use Rattle.std.proofs.lemmas.List.Elements.{All-head, All-tail}
use Rattle.cop_cert.specs.declared.refusals.Member.{Member}
use Rattle.cop_cert.specs.Sets.{is_in_trial}
use Rattle.cop_cert.specs.Evidence.{is_member, is_listed, pdos_of}
use Rattle.cop_cert.proofs.AboveLemmas.{trial_of_pdo, trial_of_fixed}
use Rattle.cop_cert.proofs.RisingLemmas.{at_member}

swap_or : (a b c : Bool) → ((a || b) || c) ≡ (b || (a || c))
swap_or true true c = refl
swap_or true false c = refl
swap_or false b c = refl

pub flag_one : (out : List Bool) (ms : List Member) (i k : ℕ) (m : Member) → i < length ms → m ≡ get_or ms i m → m.pdo < length out
    → (is_flagged (set out m.pdo true) k || is_member (drop (i + 1) ms) k) ≡ (is_flagged out k || is_member (drop i ms) k)
flag_one out ms i k m below is inside =
    let next : is_member (drop i ms) k ≡ ((m.pdo == k) || is_member (drop (i + 1) ms) k) = ap (λ l. is_member l k) (drop_more ms i m below) ∙ rw (← is) refl in
    rw (flag_set out m.pdo k inside, next) (swap_or (m.pdo == k) (is_flagged out k) (is_member (drop (i + 1) ms) k))

-- a number that is not listed
none_listed : (k : ℕ) (ps : List ℕ) → All (λ p. p ≢ k) ps → is_listed ps k ≡ false
none_listed k [] a = refl
none_listed k (p ∷ ps) a = rw (ne_eqb p k (All-head (λ p. p ≢ k) p ps a)) (none_listed k ps (All-tail (λ p. p ≢ k) p ps a))

-- what is flagged for the fixed frames and for the members is what is above in the trial
pub flags_listed : (bound : ℕ) (streams : List Stream) (pdos : ℕ) (ps : List ℕ) (k : ℕ) → All (λ p. p < pdos) ps
    → (is_in_trial bound streams pdos (λ _. false) k || is_listed ps k) ≡ is_in_trial bound streams pdos (is_listed ps) k
flags_listed bound streams pdos ps k inside = go (cases_lt k pdos)
  where
    or_false : (b : Bool) → (b || false) ≡ b
    or_false true = refl
    or_false false = refl

    go : (k < pdos) ⊎ (pdos ≤ k) → (is_in_trial bound streams pdos (λ _. false) k || is_listed ps k) ≡ is_in_trial bound streams pdos (is_listed ps) k
    go (inl pdo) = rw (trial_of_pdo streams pdos bound (λ _. false) k pdo, trial_of_pdo streams pdos bound (is_listed ps) k pdo) refl
    go (inr fixed) = rw (trial_of_fixed streams pdos bound (λ _. false) k fixed, trial_of_fixed streams pdos bound (is_listed ps) k fixed, none_listed k ps (λ i d h e. omega (arith, inside i d h, e))) (or_false _)

pub flag_number : (out : List Bool) (ps : List ℕ) (i k : ℕ) → i < length ps → get_or ps i 0 < length out
    → (is_flagged (set out (get_or ps i 0) true) k || is_listed (drop (i + 1) ps) k) ≡ (is_flagged out k || is_listed (drop i ps) k)
flag_number out ps i k below inside =
    let next : is_listed (drop i ps) k ≡ ((get_or ps i 0 == k) || is_listed (drop (i + 1) ps) k) = ap (λ l. is_listed l k) (drop_more ps i 0 below) in
    rw (flag_set out (get_or ps i 0) k inside, next) (swap_or (get_or ps i 0 == k) (is_flagged out k) (is_listed (drop (i + 1) ps) k))

-- those that are listed are above in their trial
listed_at : (ps : List ℕ) (i d : ℕ) → i < length ps → is_listed ps (get_or ps i d) ≡ true
listed_at [] i d h = absurd (omega arith)
listed_at (p ∷ ps) zero d h = or_left (p == p) (is_listed ps p) (eq-eqb p p refl)
listed_at (p ∷ ps) (suc i) d h = or_right (p == get_or ps i d) (is_listed ps (get_or ps i d)) (listed_at ps i d (omega arith))

pub listed_flagged : (bound : ℕ) (streams : List Stream) (pdos : ℕ) (ps : List ℕ) (flags : List Bool)
    → ((k : ℕ) → is_flagged flags k ≡ is_in_trial bound streams pdos (is_listed ps) k) → All (λ p. p < pdos) ps → All (λ p. is_flagged flags p ≡ true) ps
listed_flagged bound streams pdos ps flags same inside i d below =
    same (get_or ps i d) ∙ trial_of_pdo streams pdos bound (is_listed ps) (get_or ps i d) (inside i d below) ∙ listed_at ps i d below

pub members_flagged : (bound : ℕ) (streams : List Stream) (pdos : ℕ) (ms : List Member) (flags : List Bool)
    → ((k : ℕ) → is_flagged flags k ≡ is_in_trial bound streams pdos (is_member ms) k) → All (λ p. p < pdos) (pdos_of ms) → All (λ m. is_flagged flags m.pdo ≡ true) ms
members_flagged bound streams pdos ms flags same inside i d below =
    let count : length (pdos_of ms) ≡ length ms = length-map ms (λ m. m.pdo) in
    rw (at_member ms i d below) (listed_flagged bound streams pdos (pdos_of ms) flags same inside i d.pdo (omega (arith, count, below)))

-- flags that are turned twice are what they were
pub turned_twice : (flags : List Bool) → map not (map not flags) ≡ flags
turned_twice [] = refl
turned_twice (true ∷ rest) = ap (λ xs. true ∷ xs) (turned_twice rest)
turned_twice (false ∷ rest) = ap (λ xs. false ∷ xs) (turned_twice rest)

-- a flag that is set is one of a list
pub has_one : (flags : List Bool) (k : ℕ) → is_flagged flags k ≡ true → HasOneAbove flags
has_one flags k on = (k, inside (slice_get_cases flags k).1, on)
  where
    inside : ((b : Bool) × (k < length flags) × (slice_get flags k ≡ Some b) × (get_or flags k b ≡ b)) ⊎ ((length flags ≤ k) × (slice_get flags k ≡ None)) → k < length flags
    inside (inl b) = b.1
    inside (inr past) = let off : false ≡ true = rw past.1 at on in absurd (true≢false (sym off))
