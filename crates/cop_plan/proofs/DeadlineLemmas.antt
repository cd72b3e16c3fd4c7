-- Deadlines of streams.
use Rattle.std.proofs.Common.{◌≡◌, ℕ, zero, suc, ◌+◌, ◌<◌, ◌⊎◌, inl, inr, true, false, List, [], ◌∷◌, length, get_or, slice_get, Option, Some, None, is_some, refl, sym, ap, ◌∙◌, arith}
use Rattle.std.specs.Option.{option_and_then}
use Rattle.std.proofs.lemmas.Bool.{cases_eq}
use Rattle.cop_rta.specs.declared.streams.Stream.{Stream}
use Rattle.cop_plan.specs.Values.{HaveDeadlines}
use Rattle.cop_plan.proofs.FillingLemmas.{no_bit}

deadline_at : (streams : List Stream) (p : ℕ) (d : Stream) → p < length streams → option_and_then (λ (s : Stream). s.deadline) (slice_get streams p) ≡ (get_or streams p d).deadline
deadline_at [] p d h = absurd (omega arith)
deadline_at (s ∷ ss) zero d h = refl
deadline_at (s ∷ ss) (suc p) d h = deadline_at ss p d (omega arith)

-- by the stream that was read
pub deadline_read : (streams own : List Stream) (k : ℕ) (s : Stream) → own ≡ streams → k < length streams → s ≡ get_or own k s → option_and_then (λ (s : Stream). s.deadline) (slice_get streams k) ≡ s.deadline
deadline_read streams own k s same h is = deadline_at streams k s h ∙ sym (ap (λ (s : Stream). s.deadline) (is ∙ ap (λ (ss : List Stream). get_or ss k s) same))

some : (o : Option ℕ) → is_some o ≡ true → (x : ℕ) × (o ≡ Some x)
some None h = absurd (no_bit false h refl)
some (Some x) h = (x, refl)

pub some_or_none : (o : Option ℕ) → is_some o ≡ false → o ≡ None
some_or_none None h = refl
some_or_none (Some x) h = absurd (no_bit true refl h)

-- one deadline more
pub deadline_more : (streams : List Stream) (p : ℕ) (d : Stream) → p < length streams → is_some (get_or streams p d).deadline ≡ true → HaveDeadlines streams p → HaveDeadlines streams (p + 1)
deadline_more streams p d h there before k low = go (cases_eq k p)
  where
    go : (k ≡ p) ⊎ (k ≡ p → ⊥) → (x : ℕ) × (option_and_then (λ (s : Stream). s.deadline) (slice_get streams k) ≡ Some x)
    go (inl same) =
        let found = some (get_or streams p d).deadline there in
        (found.0, rw same (deadline_at streams p d h ∙ found.1))
    go (inr apart) = before k (omega (arith, low))

-- a stream that has none
pub deadline_missing : (streams : List Stream) (p pdos : ℕ) (d : Stream) → p < length streams → p < pdos → is_some (get_or streams p d).deadline ≡ false → HaveDeadlines streams pdos → ⊥
deadline_missing streams p pdos d h low none all =
    let found = all p low in
    let same : (get_or streams p d).deadline ≡ Some found.0 = sym (deadline_at streams p d h) ∙ found.1 in
    no_bit (is_some (get_or streams p d).deadline) (rw same refl) none
