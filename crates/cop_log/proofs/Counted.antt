-- Counts and sums of the first entries of a log.
use Rattle.std.proofs.Common.{◌≡◌, ◌∙◌, ℕ, ◌+◌, ◌*◌, ◌<◌, List, ◌∷◌, [], zero, suc, length, refl, ap, arith, true, false, cond}
use Rattle.std.specs.Prelude.{◌==◌, ◌≢◌}
use Rattle.std.proofs.lemmas.Bool.Decides.{nat_tests}
use Rattle.cop_bus.specs.Run.{least_bits}
use Rattle.cop_lines.specs.declared.entries.Entry.{Entry}
use Rattle.cop_log.specs.Log.{entry_at, count_of, least_of}

-- after one entry more
pub count-next : (id : ℕ) (log : List Entry) (i : ℕ) → i < length log → count_of id log (suc i) ≡ cond ((entry_at log i).id == id) 1 0 + count_of id log i
count-next id [] i l = absurd (omega arith)
count-next id (e ∷ es) zero l = none es
  where
    none : (es : List Entry) → cond (e.id == id) 1 0 + count_of id es 0 ≡ cond (e.id == id) 1 0 + 0
    none [] = refl
    none (f ∷ fs) = refl
count-next id (e ∷ es) (suc i) l = let r = count-next id es i (omega arith) in omega arith

pub least-next : (tau : ℕ) (log : List Entry) (i : ℕ) → i < length log → least_of tau log (suc i) ≡ least_bits (entry_at log i).len * tau + least_of tau log i
least-next tau [] i l = absurd (omega arith)
least-next tau (e ∷ es) zero l = none es
  where
    none : (es : List Entry) → least_bits e.len * tau + least_of tau es 0 ≡ least_bits e.len * tau + 0
    none [] = refl
    none (f ∷ fs) = refl
least-next tau (e ∷ es) (suc i) l = let r = least-next tau es i (omega arith) in omega arith

pub count-own : (id : ℕ) (log : List Entry) (i : ℕ) → i < length log → (entry_at log i).id ≡ id → count_of id log (suc i) ≡ suc (count_of id log i)
count-own id log i l e =
    let t : ((entry_at log i).id == id) ≡ true = grind (arith, nat_tests) in
    let r : count_of id log (suc i) ≡ 1 + count_of id log i = count-next id log i l ∙ ap (λ b. cond b 1 0 + count_of id log i) t in
    omega arith

pub count-other : (id : ℕ) (log : List Entry) (i : ℕ) → i < length log → (entry_at log i).id ≢ id → count_of id log (suc i) ≡ count_of id log i
count-other id log i l e =
    let t : ((entry_at log i).id == id) ≡ false = grind (arith, nat_tests) in
    let r : count_of id log (suc i) ≡ 0 + count_of id log i = count-next id log i l ∙ ap (λ b. cond b 1 0 + count_of id log i) t in
    omega arith
