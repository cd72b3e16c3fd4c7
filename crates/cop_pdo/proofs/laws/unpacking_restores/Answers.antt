use Rattle.cop_pdo.proofs.LawLemmas.{restores, leaves_others}
use Rattle.cop_pdo.proofs.laws.unpacking_restores.Goals as goal

pub returns-clause-mapped : goal.returns-clause-mapped
returns-clause-mapped c = λ dict now layout index sub there here proper h.
    restores dict layout.direction layout.entries now index sub there here proper h

pub returns-clause-others : goal.returns-clause-others
returns-clause-others c = λ now layout bits index sub h. leaves_others layout.direction layout.entries now bits index sub h
