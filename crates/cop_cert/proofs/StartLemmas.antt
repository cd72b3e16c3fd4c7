-- Texts that begin as they are written: the header, and the record of the version.
use Rattle.std.proofs.Common.{◌≡◌, ℕ, false, List, ◌∷◌, ◌++◌, All, codes, refl, ◌∙◌}
use Rattle.csv.specs.Reading.{strip_bom}
use Rattle.cop_table.specs.Plain.{is_quote, plain_records}
use Rattle.cop_table.specs.Records.{records_of}
use Rattle.cop_table.proofs.PlainLemmas.{plain_lines}
use Rattle.cop_cert.specs.Format.{header, version}
use Rattle.cop_cert.specs.Reading.{refusals_in, refusals_of}
use Rattle.cop_cert.specs.Plain.{rows_of_text}
use Rattle.cop_cert.specs.declared.entries.Version.TheVariants.{First, Second, Third}

start_first : (rest : List ℕ) → plain_records (codes "rate,pdo,what,value\n0,0,version,1\n" ++ rest) ≡ header ∷ version First ∷ rows_of_text rest
unfolding strip_bom
start_first rest = refl

start_second : (rest : List ℕ) → plain_records (codes "rate,pdo,what,value\n0,0,version,2\n" ++ rest) ≡ header ∷ version Second ∷ rows_of_text rest
unfolding strip_bom
start_second rest = refl

start_third : (rest : List ℕ) → plain_records (codes "rate,pdo,what,value\n0,0,version,3\n" ++ rest) ≡ header ∷ version Third ∷ rows_of_text rest
unfolding strip_bom
start_third rest = refl

pub starts_first : (text left : List ℕ) → All (λ c. is_quote c ≡ false) text → text ≡ codes "rate,pdo,what,value\n0,0,version,1\n" ++ left → refusals_of text ≡ refusals_in First (rows_of_text left)
unfolding refusals_of
starts_first text left plain e =
    let rows : records_of text ≡ header ∷ version First ∷ rows_of_text left = plain_lines text plain ∙ rw e (start_first left) in
    rw rows refl

pub starts_second : (text left : List ℕ) → All (λ c. is_quote c ≡ false) text → text ≡ codes "rate,pdo,what,value\n0,0,version,2\n" ++ left → refusals_of text ≡ refusals_in Second (rows_of_text left)
unfolding refusals_of
starts_second text left plain e =
    let rows : records_of text ≡ header ∷ version Second ∷ rows_of_text left = plain_lines text plain ∙ rw e (start_second left) in
    rw rows refl

pub starts_third : (text left : List ℕ) → All (λ c. is_quote c ≡ false) text → text ≡ codes "rate,pdo,what,value\n0,0,version,3\n" ++ left → refusals_of text ≡ refusals_in Third (rows_of_text left)
unfolding refusals_of
starts_third text left plain e =
    let rows : records_of text ≡ header ∷ version Third ∷ rows_of_text left = plain_lines text plain ∙ rw e (start_third left) in
    rw rows refl
