-- Numbers that rise, and members whose numbers rise.
use Rattle.std.proofs.Common.{◌≡◌, ◌↔◌, ℕ, zero, suc, ◌<◌, ◌≤◌, List, [], ◌∷◌, length, get_or, All, AllPairs, refl, arith}
use Rattle.std.proofs.lemmas.List.Elements.{All-nil, All-cons, All-head, All-tail}
use Rattle.std.proofs.lemmas.List.Kept.{AllPairs-cons}
use Rattle.std.proofs.lemmas.List.{length-map}
use Rattle.cop_cert.specs.declared.refusals.Member.{Member}
use Rattle.cop_cert.specs.Evidence.{pdos_of}
use Rattle.cop_cert.specs.Rising.{RiseFrom}

module _ (pdos : ℕ) where
  rise_all : (low : ℕ) (ps : List ℕ) → RiseFrom low pdos ps → All (λ p. p < pdos) ps
  rise_all low [] r = All-nil (λ p. p < pdos)
  rise_all low (p ∷ ps) r = All-cons (λ p. p < pdos) p ps r.1 (rise_all (suc p) ps r.2)

  rise_low : (low : ℕ) (ps : List ℕ) → RiseFrom low pdos ps → All (λ p. low ≤ p) ps
  rise_low low [] r = All-nil (λ p. low ≤ p)
  rise_low low (p ∷ ps) r = All-cons (λ p. low ≤ p) p ps r.0 (λ k d h. omega (arith, rise_low (suc p) ps r.2 k d h, r.0))

  rise_pairs : (low : ℕ) (ps : List ℕ) → RiseFrom low pdos ps → AllPairs (λ a b. a < b) ps
  rise_pairs low [] r = λ i j d lt h. absurd (omega arith)
  rise_pairs low (p ∷ ps) r = AllPairs-cons (λ a b. a < b) p ps (rise_low (suc p) ps r.2) (rise_pairs (suc p) ps r.2)

  rise_from : (low : ℕ) (ps : List ℕ) → All (λ p. low ≤ p) ps → All (λ p. p < pdos) ps → AllPairs (λ a b. a < b) ps → RiseFrom low pdos ps
  rise_from low [] above inside pairs = tt
  rise_from low (p ∷ ps) above inside pairs = (
    All-head (λ p. low ≤ p) p ps above,
    All-head (λ p. p < pdos) p ps inside,
    rise_from (suc p) ps (λ k d h. pairs 0 (suc k) d (omega arith) (omega arith)) (All-tail (λ p. p < pdos) p ps inside)
        (λ i j d lt h. pairs (suc i) (suc j) d (omega arith) (omega arith)),
  )

  pub rises : (ps : List ℕ) → RiseFrom 0 pdos ps ↔ (AllPairs (λ a b. a < b) ps × All (λ p. p < pdos) ps)
  rises ps = (λ r. (rise_pairs 0 ps r, rise_all 0 ps r), λ h. rise_from 0 ps (λ k d l. omega arith) h.1 h.0)

-- a number of a member is that of the list
pub at_member : (ms : List Member) (k : ℕ) (d : Member) → k < length ms → (get_or ms k d).pdo ≡ get_or (pdos_of ms) k d.pdo
at_member [] k d h = absurd (omega arith)
at_member (m ∷ ms) zero d h = refl
at_member (m ∷ ms) (suc k) d h = at_member ms k d (omega arith)

pub all_of : (pdos : ℕ) (ms : List Member) → All (λ p. p < pdos) (pdos_of ms) → All (λ m. m.pdo < pdos) ms
all_of pdos ms h = λ k d below.
    let count : length (pdos_of ms) ≡ length ms = length-map ms (λ m. m.pdo) in
    rw (at_member ms k d below) (h k d.pdo (omega arith))

-- members rise where their numbers do
pub rising_members : (ms : List Member) → AllPairs (λ a b. a < b) (pdos_of ms) → AllPairs (λ m n. m.pdo < n.pdo) ms
rising_members ms h = λ i j d lt below.
    let count : length (pdos_of ms) ≡ length ms = length-map ms (λ m. m.pdo) in
    rw (at_member ms i d (omega arith), at_member ms j d below) (h i j d.pdo lt (omega arith))
