use Rattle.std.proofs.Common.{◌≡◌, false, map, drop, Ok}
use Rattle.cop_tidy_lines.specs.Amounts.{sum_from}
use Rattle.cop_tidy_lines.proofs.amounts.sum_of.Given as goal

abbrev pub invariant-loop-term : goal.invariant-loop-term
invariant-loop-term l =
    sum_from l.choice (Ok l.sum) (map (λ term. term.now) (drop l.term-index l.terms))
    ≡ sum_from l.choice (Ok (record { has_node = false; total = 0 })) (map (λ term. term.now) l.terms)
