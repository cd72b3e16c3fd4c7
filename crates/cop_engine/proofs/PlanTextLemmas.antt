-- The lines of a plan, one more.
use Rattle.std.proofs.Common.{◌≡◌, ℕ, zero, suc, List, [], ◌∷◌, ◌++◌, get_or, slice_get, Some, refl, sym, ◌∙◌, ap, take, length, ◌<◌, ◌+◌, arith}
use Rattle.std.specs.List.{flat_map}
use Rattle.std.proofs.lemmas.List.{take_more, append-nil, append_assoc}
use Rattle.cop_engine.specs.Reports.{lines_below}
use Rattle.cop_engine.proofs.ReportsLemmas.{lines_more}
use Rattle.std.proofs.lemmas.Grind.{flat_map-append}
use Rattle.cop_cert.specs.declared.refusals.Refusal.{Refusal}
use Rattle.cop_rta.specs.declared.verdicts.Verdict.{Verdict}
use Rattle.cop_rta.specs.declared.verdicts.Verdict.TheVariants.{Long}
use Rattle.cop_rows.specs.declared.pdo_table.PdoRow.{PdoRow}
use Rattle.cop_engine.specs.PlanTexts.{pdo_line, pdo_line_at, refused_line}
use Rattle.cop_rta.specs.Verdict.{response_of}

row_at : (rows : List PdoRow) (k : ℕ) (d : PdoRow) → k < length rows → slice_get rows k ≡ Some (get_or rows k d)
row_at [] k d h = absurd (omega arith)
row_at (r ∷ rs) zero d h = refl
row_at (r ∷ rs) (suc k) d h = row_at rs k d (omega arith)

pub pdo_found : (rows : List PdoRow) (ids : List ℕ) (verdicts : List Verdict) (k id : ℕ) (row : PdoRow) (response : ℕ)
    → k < length rows → row ≡ get_or rows k row → id ≡ get_or ids k 0 → response ≡ response_of (get_or verdicts k Long) → pdo_line_at rows ids verdicts k ≡ pdo_line row id response
pdo_found rows ids verdicts k id row response low here i j =
    let found : slice_get rows k ≡ Some row = row_at rows k row low ∙ ap (λ (r : PdoRow). Some r) (sym here) in
    rw (found, i, j) refl

-- an element is the same whatever stands for a missing one
pub same_verdict : (verdicts : List Verdict) (k : ℕ) (a b : Verdict) → k < length verdicts → get_or verdicts k a ≡ get_or verdicts k b
same_verdict [] k a b h = absurd (omega arith)
same_verdict (v ∷ vs) zero a b h = refl
same_verdict (v ∷ vs) (suc k) a b h = same_verdict vs k a b (omega arith)

pub pdos_more : (old text : List ℕ) (rows : List PdoRow) (ids : List ℕ) (verdicts : List Verdict) (k : ℕ) (line : List ℕ)
    → text ≡ old ++ lines_below (pdo_line_at rows ids verdicts) k → pdo_line_at rows ids verdicts k ≡ line
    → text ++ line ≡ old ++ lines_below (pdo_line_at rows ids verdicts) (k + 1)
pdos_more old text rows ids verdicts k line e here =
    ap (λ (t : List ℕ). t ++ line) e
    ∙ append_assoc old (lines_below (pdo_line_at rows ids verdicts) k) line
    ∙ ap (λ (l : List ℕ). old ++ (lines_below (pdo_line_at rows ids verdicts) k ++ l)) (sym here)
    ∙ ap (λ (t : List ℕ). old ++ t) (sym (lines_more (pdo_line_at rows ids verdicts) k))

pub refused_more : (refusals : List Refusal) (k : ℕ) (r : Refusal) → k < length refusals → r ≡ get_or refusals k r
    → flat_map refused_line (take (k + 1) refusals) ≡ flat_map refused_line (take k refusals) ++ refused_line r
refused_more refusals k r h here =
    ap (λ (rs : List Refusal). flat_map refused_line rs) (take_more refusals k r h)
    ∙ flat_map-append refused_line (take k refusals) (get_or refusals k r ∷ [])
    ∙ ap (λ (x : Refusal). flat_map refused_line (take k refusals) ++ flat_map refused_line (x ∷ [])) (sym here)
    ∙ ap (λ (line : List ℕ). flat_map refused_line (take k refusals) ++ line) (append-nil (refused_line r))
