-- Readings that the first broken rule ends.
use Rattle.std.specs.Prelude.{ℕ, zero, suc, List, [], ◌∷◌, ◌++◌, Option, Some, None, Result, Ok, Err}
use Rattle.cop_eds.specs.declared.fault.Rule.{Rule}
use Rattle.cop_eds.specs.declared.fault.Rule.TheVariants as rules
use Rattle.cop_eds.specs.declared.fault.Refusal.{Refusal}
use Rattle.cop_eds.specs.declared.amount.Amount.{Amount}
use Rattle.cop_eds.specs.Number.{number_of}
use Rattle.cop_eds.specs.Amount.{amount_of}

infixl 10 ◌>>=◌
abbrev pub ◌>>=◌ : {A B : Type 0} → Result A Refusal → (A → Result B Refusal) → Result B Refusal
(Ok x) >>= f = f x
(Err e) >>= f = Err e

abbrev pub refuse : {A : Type 0} → Rule → ℕ → Result A Refusal
refuse rule line = Err (record { rule = rule; line = line })

abbrev pub standing_at : {A : Type 0} → ℕ → Result A Rule → Result A Refusal
standing_at line (Ok x) = Ok x
standing_at line (Err rule) = refuse rule line

-- the number of an entry, which stands at its line
abbrev pub number_at : ℕ × List ℕ → Result ℕ Refusal
number_at entry = standing_at entry.0 (number_of entry.1)

-- the number of an entry, where there is one
abbrev pub number_or : ℕ → Option (ℕ × List ℕ) → Result ℕ Refusal
number_or default None = Ok default
number_or default (Some entry) = number_at entry

-- the amount of an entry, where there is one, beside its line
abbrev pub with_line : ℕ → Result Amount Refusal → Result (Option (ℕ × Amount)) Refusal
with_line line (Ok amount) = Ok (Some (line, amount))
with_line line (Err refusal) = Err refusal

abbrev pub amount_at : Option (ℕ × List ℕ) → Result (Option (ℕ × Amount)) Refusal
amount_at None = Ok None
amount_at (Some entry) = with_line entry.0 (standing_at entry.0 (amount_of entry.1))

-- what must be there, or a missing object at this line
abbrev pub needed : {A : Type 0} → ℕ → Option A → Result A Refusal
needed line None = refuse rules.ObjectMissing line
needed line (Some x) = Ok x

-- all of them pass the check, or the first that does not refuses
unfoldable pub each : {A B : Type 0} → (A → Result B Refusal) → List A → Result (Unit {0}) Refusal
each check [] = Ok tt
each check (x ∷ xs) = do
  _ ← check x
  each check xs

-- the items found before, and so many more: each comes from those before it, up to the first refusal
unfoldable pub items_from : {A : Type 0} → (List A → Result A Refusal) → List A → ℕ → Result (List A) Refusal
items_from next found zero = Ok found
items_from next found (suc count) = do
  item ← next found
  items_from next (found ++ item ∷ []) count
