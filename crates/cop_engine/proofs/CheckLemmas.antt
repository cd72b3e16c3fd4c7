-- The checks of refusals, one more.
use Rattle.std.proofs.Common.{◌≡◌, ℕ, zero, suc, ◌+◌, ◌<◌, Bool, false, List, [], ◌∷◌, ◌++◌, length, get_or, slice_get, Some, refl, sym, ap, ◌∙◌, arith}
use Rattle.cop_cert.specs.declared.refusals.Refusal.{Refusal}
use Rattle.cop_engine.specs.Reports.{lines_below}
use Rattle.cop_engine.specs.Checks.{check_line, check_line_at}
use Rattle.cop_engine.proofs.ReportsLemmas.{lines_more}

refusal_at : (refusals : List Refusal) (k : ℕ) (d : Refusal) → k < length refusals → slice_get refusals k ≡ Some (get_or refusals k d)
refusal_at [] k d h = absurd (omega arith)
refusal_at (r ∷ rs) zero d h = refl
refusal_at (r ∷ rs) (suc k) d h = refusal_at rs k d (omega arith)

last : (answers : List Bool) (answer : Bool) → get_or (answers ++ answer ∷ []) (length answers) false ≡ answer
last [] answer = refl
last (a ∷ answers) answer = last answers answer

pub check_found : (refusals : List Refusal) (answers : List Bool) (k : ℕ) (r : Refusal) (answer : Bool)
    → k < length refusals → r ≡ get_or refusals k r → answer ≡ get_or answers k false → check_line_at refusals answers k ≡ check_line r answer
check_found refusals answers k r answer low here e =
    let found : slice_get refusals k ≡ Some r = refusal_at refusals k r low ∙ ap (λ (x : Refusal). Some x) (sym here) in
    rw (found, e) refl

pub checks_more : (text : List ℕ) (refusals : List Refusal) (answers : List Bool) (k : ℕ) (line : List ℕ)
    → text ≡ lines_below (check_line_at refusals answers) k → check_line_at refusals answers k ≡ line → text ++ line ≡ lines_below (check_line_at refusals answers) (k + 1)
checks_more text refusals answers k line e here =
    ap (λ (t : List ℕ). t ++ line) e
    ∙ ap (λ (l : List ℕ). lines_below (check_line_at refusals answers) k ++ l) (sym here)
    ∙ sym (lines_more (check_line_at refusals answers) k)
