-- A loop over the records of a trace.
use Rattle.std.proofs.Common.{◌≡◌, ℕ, ◌+◌, List, [], ◌∷◌, ◌++◌, Result, Ok, Err, refl, sym, ◌∙◌}
use Rattle.cop_bus.specs.Format.{Fields}
use Rattle.cop_bus.specs.Entries.{entry_in}
use Rattle.cop_bus.specs.Reading.{Told, trace_from, ended, refuse}
use Rattle.cop_bus.specs.declared.steps.Step.{Step}
use Rattle.cop_bus.specs.declared.entries.Entry.TheVariants.{Taken, Until}
use Rattle.cop_bus.specs.declared.entries.EntryFault.{EntryFault}

module _ (place : ℕ) (steps : List Step) (row : Fields) (rows left : List Fields) (total : Result Told (ℕ × ℕ)) where
  pub goes_on : (step : Step) → left ≡ row ∷ rows → entry_in row ≡ Ok (Taken step) → trace_from place steps left ≡ total → trace_from (place + 1) (steps ++ step ∷ []) rows ≡ total
  unfolding trace_from
  goes_on step e h t = sym (rw (e, h) refl) ∙ t

  pub stops : (until : ℕ) → left ≡ row ∷ rows → entry_in row ≡ Ok (Until until) → trace_from place steps left ≡ total → ended (place + 1) until steps rows ≡ total
  unfolding trace_from
  stops until e h t = sym (rw (e, h) refl) ∙ t

  pub fails : (fault : EntryFault) → left ≡ row ∷ rows → entry_in row ≡ Err fault → trace_from place steps left ≡ total → total ≡ refuse (place + 1)
  unfolding trace_from
  fails fault e h t = sym t ∙ rw (e, h) refl

pub nothing_left : (place : ℕ) (steps : List Step) (left : List Fields) (total : Result Told (ℕ × ℕ)) → left ≡ [] → trace_from place steps left ≡ total → total ≡ refuse (place + 1)
unfolding trace_from
nothing_left place steps left total e t = sym t ∙ rw e refl
