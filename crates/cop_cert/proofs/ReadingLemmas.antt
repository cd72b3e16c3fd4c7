-- A loop over the records of a refusal file.
use Rattle.std.proofs.Common.{◌≡◌, ℕ, ◌+◌, List, ◌∷◌, length, Result, Ok, Err, Option, Some, None, IfSome, refl, sym, ◌∙◌, arith}
use Rattle.cop_table.specs.Reading.{◌>>=◌}
use Rattle.cop_table.specs.Rows.{rows_from}
use Rattle.cop_cert.specs.Format.{Fields}
use Rattle.cop_cert.specs.Reading.{taken, ended}
use Rattle.cop_cert.specs.declared.drafts.Draft.{Draft}
use Rattle.cop_cert.specs.declared.entries.Version.{Version}
use Rattle.cop_cert.specs.declared.faults.Breach.{Breach}
use Rattle.cop_cert.specs.declared.refusals.Refusal.{Refusal}

-- where the records that are left lead
abbrev pub leads : Version → ℕ → Option Draft → List Fields → Result (List Refusal) Breach
leads version place draft rows = rows_from (taken version) (place + 1) draft rows >>= ended (place + length rows)

pub goes_on : (version : Version) (place : ℕ) (draft more : Option Draft) (row : Fields) (rows left : List Fields) (total : Result (List Refusal) Breach)
    → left ≡ row ∷ rows → taken version (place + 1) draft row ≡ Ok more → leads version place draft left ≡ total → leads version (place + 1) more rows ≡ total
unfolding rows_from
goes_on version place draft more row rows left total e h t =
    let place_is : place + 1 + length rows ≡ place + length (row ∷ rows) = omega arith in
    rw place_is (sym (rw (e, h) refl) ∙ t)

pub fails : (version : Version) (place : ℕ) (draft : Option Draft) (row : Fields) (rows left : List Fields) (fault : Option Breach) (total : Result (List Refusal) Breach)
    → left ≡ row ∷ rows → IfSome fault (λ f. taken version (place + 1) draft row ≡ Err f) → leads version place draft left ≡ total → IfSome fault (λ f. total ≡ Err f)
unfolding rows_from
fails version place draft row rows left None total e h t = tt
fails version place draft row rows left (Some f) total e h t = sym t ∙ rw (e, h) refl
