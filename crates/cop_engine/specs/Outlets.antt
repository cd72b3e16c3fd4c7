-- Where the files of a plan are put.
use Rattle.std.specs.Prelude.{◌≡◌, ℕ, List, [], ◌∷◌, Bool, false, codes, Some, slice_get, take}
use Rattle.cop_net.specs.Devices.{File}
use Rattle.cop_engine.specs.declared.plans.Files.{Files}

-- the refusals, and the DCF files by rising node
abbrev pub with_refusals : List ℕ → List File → List File
with_refusals refusals dcf = record { name = codes "refusals.csv"; text = refusals } ∷ dcf

-- the files of a plan in their order: the plan first
abbrev pub files_in : Files → List File
files_in files = record { name = codes "plan.txt"; text = files.plan.items } ∷ with_refusals files.refusals.items files.dcf

-- puts of these files, in order, lead from one state of an outlet to another
abbrev pub WerePut : {O : Type 0} → (O → File → O → Type 0) → O → List File → O → Type 0
WerePut puts o [] p = o ≡ p
WerePut {O} puts o (file ∷ files) p = (m : O) × puts o file m × WerePut puts m files p

-- puts of the first so many files, in order, lead to the outlet as the put of the next one met it, and that put failed
abbrev pub WereCut : {O : Type 0} → (O → File → O → Type 0) → (O → File → O → Type 0) → (O → Bool) → O → List File → ℕ → O → Type 0
WereCut {O} puts cuts has_failed o files k p =
    (file : File) × (slice_get files k ≡ Some file) × ((m : O) × WerePut puts o (take k files) m × (has_failed m ≡ false) × cuts m file p)
