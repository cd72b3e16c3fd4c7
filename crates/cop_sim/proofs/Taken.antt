-- What a list of steps has taken.
use Rattle.std.proofs.Common.{◌≡◌, List, [], ◌∷◌, ◌++◌, sym, ◌∙◌, ap, append_assoc}
use Rattle.cop_bus.specs.declared.steps.Step.{Step}
use Rattle.cop_sim.specs.Sinks.{Took}
use Rattle.cop_bus.proofs.Grows.{no-more}

pub took-list : {S : Type 0} (items : S → List Step) (takes : S → Step → S → Type 0) → ((s : S) (x : Step) (t : S) → takes s x t → items t ≡ items s ++ x ∷ []) →
    (steps : List Step) (s t : S) → Took takes s steps t → items t ≡ items s ++ steps
took-list items takes h [] s t e = sym (ap items e) ∙ sym (no-more (items s))
took-list items takes h (x ∷ steps) s t w = took-list items takes h steps w.0 t w.2 ∙ ap (λ v. v ++ steps) (h s x w.0 w.1) ∙ append_assoc (items s) (x ∷ []) steps
