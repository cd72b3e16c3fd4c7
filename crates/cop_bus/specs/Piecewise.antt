-- A trace that is written step by step.
use Rattle.std.specs.Prelude.{ℕ, Bool, List, [], ◌∷◌, ◌++◌, Option, codes}
use Rattle.std.specs.Io.KnownBytes.{Appends, Keeps, append_known}
use Rattle.cop_bus.specs.declared.steps.Step.{Step}
use Rattle.cop_bus.specs.declared.piecewise.TraceWriter.{TraceWriter}
use Rattle.cop_bus.specs.LastLine.{text_of}
use Rattle.cop_bus.specs.Format.{header, fields_of, short, lines}

-- what has been written, where the writer underneath tells the bytes that it holds: those, and what is to be handed to it
abbrev pub told : {W : Type 0} → (W → Option (List ℕ)) → TraceWriter W → Option (List ℕ)
told contents t = append_known (contents t.writer) (t.pending.items ++ text_of t.last)

abbrev pub has_failed : {W : Type 0} → TraceWriter W → Bool
has_failed t = t.failed

-- a new one has written the names of the fields
abbrev pub Begins : {W : Type 0} → (W → Option (List ℕ)) → W → TraceWriter W → Type 0
Begins contents w t = Appends (contents w) (told contents t) (lines (header ∷ []))

-- it has written a step's record
abbrev pub Writes : {W : Type 0} → (W → Option (List ℕ)) → TraceWriter W → Step → TraceWriter W → Type 0
Writes contents s x t = Appends (told contents s) (told contents t) (lines (fields_of x ∷ []))

-- it has written the last record, which tells the end, and gives the writer back
abbrev pub Finishes : {W : Type 0} → (W → Option (List ℕ)) → TraceWriter W → ℕ → W → Type 0
Finishes contents s until w = Appends (told contents s) (contents w) (lines (short (codes "until") until 0 ∷ []))

-- it has handed all that it has written to the writer underneath
abbrev pub HandsOver : {W : Type 0} → (W → Option (List ℕ)) → TraceWriter W → TraceWriter W → Type 0
HandsOver contents s t = Keeps (told contents s) (contents t.writer)
