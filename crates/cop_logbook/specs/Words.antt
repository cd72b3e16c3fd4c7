-- What is said of a log's breaches.
use Rattle.std.specs.Prelude.{◌≡◌, ℕ, ◌==◌, if◌then◌else◌, List, [], ◌∷◌, ◌++◌, codes, decimal, Bool}
use Rattle.cop_logbook.specs.declared.breaches.Broken.{Broken}
use Rattle.cop_logbook.specs.declared.breaches.Broken.TheVariants.{Unknown, Length, Soon, Crowded, Fallen}
use Rattle.cop_logbook.specs.declared.breaches.Breach.{Breach}
use Rattle.cop_logbook.specs.ErrorFrames.{is_error}

abbrev pub has_error : Breach → Bool
has_error b = is_error b.entry.id

-- what does not hold
abbrev pub premise_of : Bool → Broken → List ℕ
premise_of is_error Unknown = if is_error then codes "no frame is disturbed" else codes "nothing else sends"
premise_of is_error (Length planned) = codes "each frame is as long as its mapping"
premise_of is_error (Soon from since nearest) = if is_error then codes "disturbed transfers are as rare as the row errors says" else codes "events are as far apart as the periods say"
premise_of is_error (Crowded from since ticks) = codes "the bus has the planned rate"
premise_of is_error (Fallen from by) = codes "the clock of the log does not fall"

-- a breach's line: the line of the log, what stands there, and what that breaks
abbrev pub IsLine : Breach → List ℕ → Type 0
IsLine b text = (shown : List ℕ) × (text ≡ codes "line " ++ (decimal b.line ++ (codes ": " ++ (shown ++ (codes "; breaks: " ++ (premise_of (has_error b) b.broken ++ codes "\n"))))))

-- the lines of some breaches, in their order
abbrev pub AreLines : List Breach → List ℕ → Type 0
AreLines [] text = text ≡ []
AreLines (b ∷ bs) text = (one rest : List ℕ) × (text ≡ one ++ rest) × IsLine b one × AreLines bs rest

-- how what is said of a log ends: it keeps to the tables exactly if no breach is counted
abbrev pub verdict : ℕ → List ℕ
verdict count = if count == 0 then codes "keeps to the tables\n" else codes "breaches " ++ (decimal count ++ codes "\n")
