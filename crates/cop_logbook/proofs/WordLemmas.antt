-- The lines of breaches, one behind the other.
use Rattle.std.proofs.Common.{◌∙◌, ℕ, List, [], ◌∷◌, ◌++◌, refl, sym, ap, append_assoc, append-nil}
use Rattle.cop_logbook.specs.declared.breaches.Breach.{Breach}
use Rattle.cop_logbook.specs.Words.{IsLine, AreLines}

pub one_more_line : (bs : List Breach) (b : Breach) (text one : List ℕ) → AreLines bs text → IsLine b one → AreLines (bs ++ b ∷ []) (text ++ one)
one_more_line [] b text one none line = (one, [], ap (λ xs. xs ++ one) none ∙ sym (append-nil one), line, refl)
one_more_line (x ∷ bs) b text one (first, rest, is, h, more) line = (first, rest ++ one, ap (λ xs. xs ++ one) is ∙ append_assoc first rest one, h, one_more_line bs b rest one more line)
