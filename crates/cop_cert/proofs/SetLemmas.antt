-- In any assignment the member of a refusal set with the greatest identifier has the rest of the set above it,
-- so it fails.
use Rattle.std.proofs.Common.{◌≡◌, ◌≢◌, ℕ, zero, suc, ◌<◌, ◌≤◌, ◌⊎◌, inl, inr, [], ◌∷◌, Bool, true, false, ◌==◌, List, All, length, refl, arith}
use Rattle.std.specs.List.{AllByRecursion}
use Rattle.std.proofs.lemmas.Bool.{cases_lt, cases_Bool, or_cases, or_left, eqb-true, eq-eqb, both_ways}
use Rattle.std.proofs.lemmas.List.Elements.{recursion_from_All}
use borrow.Author.Count.{below_more}
use Rattle.cop_frame.specs.declared.rates.Rate.{Rate}
use Rattle.cop_rta.specs.declared.streams.Stream.{Stream}
use Rattle.cop_rta.proofs.MoreAbove.{passes_under_fewer}
use Rattle.cop_cert.specs.Assignments.{is_lower, AllPass}
use Rattle.cop_cert.specs.Sets.{trial, IsStuckSet}
use Rattle.cop_cert.specs.Evidence.{is_member, pdos_of, IsEvidence, AreFailing}
use Rattle.cop_cert.specs.declared.refusals.Member.{Member}
use Rattle.cop_cert.proofs.AboveLemmas.{set_within_ids}
use Rattle.cop_cert.proofs.RisingLemmas.{all_of}
use Rattle.cop_cert.proofs.EvidenceLemmas.{evidence_fails}

-- p is the member below n with the greatest identifier
abbrev pub IsLowest : (ℕ → Bool) → (ℕ → ℕ) → ℕ → ℕ → Type 0
IsLowest members ids n p = (p < n) × (members p ≡ true) × ((k : ℕ) → k < n → members k ≡ true → ids k ≤ ids p)

lowest : (members : ℕ → Bool) (ids : ℕ → ℕ) (n : ℕ) → ((k : ℕ) → k < n → members k ≡ false) ⊎ ((p : ℕ) × IsLowest members ids n p)
lowest members ids zero = inl (λ k h. absurd (omega arith))
lowest members ids (suc n) = go (lowest members ids n) (cases_Bool (members n))
  where
    with_new : (p : ℕ) → IsLowest members ids n p → members n ≡ true → (ids p < ids n) ⊎ (ids n ≤ ids p) → (r : ℕ) × IsLowest members ids (suc n) r
    with_new p l e (inl lt) = (n, (omega arith, e, λ k h m. below_more (λ i. members i ≡ true → ids i ≤ ids n) n (λ i b mi. omega (arith, l.2 i b mi)) (λ _. omega arith) k (omega arith) m))
    with_new p l e (inr ge) = (p, (omega (arith, l.0), l.1, λ k h m. below_more (λ i. members i ≡ true → ids i ≤ ids p) n l.2 (λ _. ge) k (omega arith) m))

    go : ((k : ℕ) → k < n → members k ≡ false) ⊎ ((p : ℕ) × IsLowest members ids n p) → (members n ≡ true) ⊎ (members n ≡ false)
        → ((k : ℕ) → k < suc n → members k ≡ false) ⊎ ((p : ℕ) × IsLowest members ids (suc n) p)
    go (inl none) (inr f) = inl (λ k h. below_more (λ i. members i ≡ false) n none f k (omega arith))
    go (inl none) (inl e) = inr (n, (omega arith, e, λ k h m. below_more (λ i. members i ≡ true → ids i ≤ ids n) n (λ i b mi. absurd (both_ways (members i) (none i b) mi)) (λ _. omega arith) k (omega arith) m))
    go (inr (p, l)) (inl e) = inr (with_new p l e (cases_lt (ids p) (ids n)))
    go (inr (p, l)) (inr f) = inr (p, (omega (arith, l.0), l.1, λ k h m. below_more (λ i. members i ≡ true → ids i ≤ ids p) n l.2 (λ t. absurd (both_ways (members n) f t)) k (omega arith) m))

-- Where identifiers pass, each member of a stuck set has one below its bound: the member with the greatest would fail otherwise.
pub set_stays_below : (bound : ℕ) (rate : Rate) (streams : List Stream) (pdos : ℕ) (members : ℕ → Bool) (ids : ℕ → ℕ) → pdos ≤ length streams
    → IsStuckSet bound rate streams pdos members → ((p r : ℕ) → p < pdos → r < pdos → ids p ≡ ids r → p ≡ r) → AllPass rate streams pdos ids
    → (k : ℕ) → k < pdos → members k ≡ true → ids k < bound
set_stays_below bound rate streams pdos members ids count stuck distinct passes k below member = go (lowest members ids pdos)
  where
    lower : (p : ℕ) → IsLowest members ids pdos p → (ids p < bound) ⊎ (bound ≤ ids p) → ids k < bound
    lower p l (inl lt) = omega (arith, l.2 k below member, lt)
    lower p l (inr ge) =
        absurd (stuck p l.0 l.1
        (passes_under_fewer (trial bound rate streams pdos members p) (is_lower streams pdos ids p) (omega (arith, l.0, count))
        (set_within_ids rate streams pdos bound members ids p l.0 ge
        (λ i h other m. let apart : ids i ≢ ids p = λ e. other (distinct i p h l.0 e) in omega (arith, l.2 i h m)))
        (passes p l.0)))

    go : ((k : ℕ) → k < pdos → members k ≡ false) ⊎ ((p : ℕ) × IsLowest members ids pdos p) → ids k < bound
    go (inl none) = absurd (both_ways (members k) (none k below) member)
    go (inr (p, l)) = lower p l (cases_lt (ids p) bound)

-- what holds of each member holds of the PDOs that are members
pub of_member : (P : Member → Type 0) (members : List Member) → AllByRecursion P members → (p : ℕ) → is_member members p ≡ true → (m : Member) × (m.pdo ≡ p) × P m
of_member P [] all p e = absurd (both_ways false refl e)
of_member P (m ∷ ms) all p e = go (of_member P ms all.1 p) (or_cases (m.pdo == p) (is_member ms p) e)
  where
    go : (is_member ms p ≡ true → (m : Member) × (m.pdo ≡ p) × P m) → ((m.pdo == p) ≡ true) ⊎ (is_member ms p ≡ true) → (m : Member) × (m.pdo ≡ p) × P m
    go rest (inl here) = (m, eqb-true m.pdo p here, all.0)
    go rest (inr later) = rest later

pub some_member : (members : List Member) → 0 < length members → (p : ℕ) × (is_member members p ≡ true)
some_member [] h = absurd (omega arith)
some_member (m ∷ ms) h = (m.pdo, or_left (m.pdo == m.pdo) (is_member ms m.pdo) (eq-eqb m.pdo m.pdo refl))

-- members that are shown to fail are a stuck set
pub failing_are_stuck : (bound : ℕ) (rate : Rate) (streams : List Stream) (pdos : ℕ) (members : List Member) → AreFailing bound rate streams pdos members
    → IsStuckSet bound rate streams pdos (is_member members)
failing_are_stuck bound rate streams pdos members failing p below e passes =
    let found = of_member (λ (m : Member). IsEvidence (trial bound rate streams pdos (is_member members) m.pdo) m.evidence) members
    (recursion_from_All (λ m. IsEvidence (trial bound rate streams pdos (is_member members) m.pdo) m.evidence) members failing.evidence) p e in
    let same : found.0.pdo ≡ p = found.1 in
    evidence_fails (trial bound rate streams pdos (is_member members) p) found.0.evidence (rw same at found.2) passes

-- members are PDOs
pub member_inside : (pdos : ℕ) (members : List Member) → All (λ m. m < pdos) (pdos_of members) → (p : ℕ) → is_member members p ≡ true → p < pdos
member_inside pdos members inside p e =
    let found = of_member (λ (m : Member). m.pdo < pdos) members (recursion_from_All (λ m. m.pdo < pdos) members (all_of pdos members inside)) p e in
    omega (arith, found.1, found.2)
