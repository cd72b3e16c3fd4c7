-- A trace that is written step by step.
use Rattle.std.proofs.Common.{ℕ, List, [], ◌∷◌, ◌++◌, Option, map, sym, ap, ◌∙◌}
use Rattle.std.specs.Io.KnownBytes.{Appends}
use Rattle.std.proofs.lemmas.Grind.{flat_map-append}
use Rattle.cop_bus.specs.declared.steps.Step.{Step}
use Rattle.cop_bus.specs.Format.{Fields, header, fields_of, line, lines}
use Rattle.cop_bus.proofs.WriterLemmas.{appends_none, appends_more, appends_as}
use Rattle.cop_sim.specs.Sinks.{Took}

-- what is known of a sink grows by the line of each step that it takes
module _ {S : Type 0} (known : S → Option (List ℕ)) (takes : S → Step → S → Type 0) (writes : (s : S) (x : Step) (t : S) → takes s x t → Appends (known s) (known t) (lines (fields_of x ∷ []))) where
  pub grows : (s : S) (steps : List Step) (t : S) → Took takes s steps t → Appends (known s) (known t) (lines (map fields_of steps))
  grows s [] t e = rw e (appends_none (known t))
  grows s (x ∷ steps) t h =
      appends_as (known s) (known t) (lines (fields_of x ∷ []) ++ lines (map fields_of steps)) (lines (map fields_of (x ∷ steps))) (sym (flat_map-append line (fields_of x ∷ []) (map fields_of steps)))
      (appends_more (known s) (known h.0) (known t) (lines (fields_of x ∷ [])) (lines (map fields_of steps)) (writes s x h.0 h.1) (grows h.0 steps t h.2))

  -- with the header before them and the end behind, it is the text of a trace
  pub whole : (before after : Option (List ℕ)) (s : S) (steps : List Step) (t : S) (last : Fields) → Appends before (known s) (lines (header ∷ [])) → Took takes s steps t → Appends (known t) after (lines (last ∷ []))
      → Appends before after (lines (header ∷ (map fields_of steps ++ last ∷ [])))
  whole before after s steps t last b h f =
      appends_as before after ((lines (header ∷ []) ++ lines (map fields_of steps)) ++ lines (last ∷ [])) (lines (header ∷ (map fields_of steps ++ last ∷ [])))
      (sym (flat_map-append line (header ∷ (map fields_of steps)) (last ∷ []) ∙ ap (λ (xs : List ℕ). xs ++ lines (last ∷ [])) (flat_map-append line (header ∷ []) (map fields_of steps))))
      (appends_more before (known t) after (lines (header ∷ []) ++ lines (map fields_of steps)) (lines (last ∷ []))
      (appends_more before (known s) (known t) (lines (header ∷ [])) (lines (map fields_of steps)) b (grows s steps t h)) f)
