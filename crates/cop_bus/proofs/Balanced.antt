-- Of a stream as many transfers have started as have ended, and one more while one runs.
use Rattle.std.proofs.Common.{◌≡◌, ℕ, zero, suc, ◌+◌, ◌≤◌, ◌<◌, List, length, Some, None, refl, ap, arith, true, cond}
use Rattle.std.specs.Prelude.{◌==◌}
use Rattle.cop_bus.specs.declared.steps.Step.{Step}
use Rattle.cop_bus.specs.declared.steps.Step.TheVariants.{Queue, Start, End}
use Rattle.cop_bus.specs.Trace.{is_start, count_to, step_at, after, running}
use Rattle.cop_bus.specs.Ends.{is_end, runs_of}
use Rattle.cop_bus.proofs.Work.{true-eq}
use Rattle.cop_bus.proofs.StepLemmas.{count_to-suc, count_to-zero}

pub end_shape : (k : ℕ) (x : Step) → is_end k x ≡ true → (at : ℕ) × (x ≡ End k at)
end_shape k (End id at) e = (at, ap (λ i. End i at) (true-eq id k e))
end_shape k (Queue id at event frame) e = absurd (cc)
end_shape k (Start id at) e = absurd (cc)

abbrev pub Balance : ℕ → List Step → ℕ → ℕ → Type 0
Balance tau steps id i = count_to (is_start id) steps i ≡ count_to (is_end id) steps i + runs_of id (running tau steps i)

pub balance_none : (tau : ℕ) (steps : List Step) (id : ℕ) → Balance tau steps id 0
balance_none tau steps id = let a = count_to-zero (is_start id) steps in let b = count_to-zero (is_end id) steps in omega (arith, a, b)

-- a start comes where no transfer runs, and an end is of the one that runs
pub balance_step : (tau : ℕ) (steps : List Step) (id i : ℕ) → i < length steps → ((at k : ℕ) → step_at steps i ≡ Start k at → running tau steps i ≡ None) → ((at k : ℕ) → step_at steps i ≡ End k at → running tau steps i ≡ Some (k, at)) →
    Balance tau steps id i → Balance tau steps id (suc i)
balance_step tau steps id i l free due h = go (step_at steps i) refl h (count_to-suc (is_start id) steps i l) (count_to-suc (is_end id) steps i l)
  where
    go : (x : Step) → step_at steps i ≡ x → count_to (is_start id) steps i ≡ count_to (is_end id) steps i + runs_of id (running tau steps i) →
        count_to (is_start id) steps (suc i) ≡ count_to (is_start id) steps i + cond (is_start id (step_at steps i)) 1 0 →
        count_to (is_end id) steps (suc i) ≡ count_to (is_end id) steps i + cond (is_end id (step_at steps i)) 1 0 →
        count_to (is_start id) steps (suc i) ≡ count_to (is_end id) steps (suc i) + runs_of id (after tau steps i (step_at steps i) (running tau steps i))
    go (Queue k at event frame) q r s e =
        let a : cond {A = ℕ} (is_start id (step_at steps i)) 1 0 ≡ 0 = ap (λ x. cond {A = ℕ} (is_start id x) 1 0) q in
        let b : cond {A = ℕ} (is_end id (step_at steps i)) 1 0 ≡ 0 = ap (λ x. cond {A = ℕ} (is_end id x) 1 0) q in
        let c : runs_of id (after tau steps i (step_at steps i) (running tau steps i)) ≡ runs_of id (running tau steps i) = ap (λ x. runs_of id (after tau steps i x (running tau steps i))) q in
        omega (arith, r, s, e, a, b, c)
    go (Start k at) q r s e =
        let a : cond {A = ℕ} (is_start id (step_at steps i)) 1 0 ≡ cond {A = ℕ} (k == id) 1 0 = ap (λ x. cond {A = ℕ} (is_start id x) 1 0) q in
        let b : cond {A = ℕ} (is_end id (step_at steps i)) 1 0 ≡ 0 = ap (λ x. cond {A = ℕ} (is_end id x) 1 0) q in
        let c : runs_of id (after tau steps i (step_at steps i) (running tau steps i)) ≡ cond {A = ℕ} (k == id) 1 0 = ap (λ x. runs_of id (after tau steps i x (running tau steps i))) q in
        let n : runs_of id (running tau steps i) ≡ 0 = ap (runs_of id) (free at k q) in
        omega (arith, r, s, e, a, b, c, n)
    go (End k at) q r s e =
        let a : cond {A = ℕ} (is_start id (step_at steps i)) 1 0 ≡ 0 = ap (λ x. cond {A = ℕ} (is_start id x) 1 0) q in
        let b : cond {A = ℕ} (is_end id (step_at steps i)) 1 0 ≡ cond {A = ℕ} (k == id) 1 0 = ap (λ x. cond {A = ℕ} (is_end id x) 1 0) q in
        let c : runs_of id (after tau steps i (step_at steps i) (running tau steps i)) ≡ 0 = ap (λ x. runs_of id (after tau steps i x (running tau steps i))) q in
        let n : runs_of id (running tau steps i) ≡ cond {A = ℕ} (k == id) 1 0 = ap (runs_of id) (due at k q) in
        omega (arith, r, s, e, a, b, c, n)

pub balance_all : (tau : ℕ) (steps : List Step) (n : ℕ) → n ≤ length steps → ((i at k : ℕ) → i < n → step_at steps i ≡ Start k at → running tau steps i ≡ None) →
    ((i at k : ℕ) → i < n → step_at steps i ≡ End k at → running tau steps i ≡ Some (k, at)) → (id i : ℕ) → i ≤ n → Balance tau steps id i
balance_all tau steps n inside free due id zero l = balance_none tau steps id
balance_all tau steps n inside free due id (suc i) l =
    balance_step tau steps id i (omega arith) (λ at k e. free i at k (omega arith) e) (λ at k e. due i at k (omega arith) e) (balance_all tau steps n inside free due id i (omega arith))
