-- Counting that begins anew.
use Rattle.std.proofs.Common.{◌≡◌, ◌∙◌, ℕ, ◌<◌, inl, inr, List, length, refl, sym, ap, subst, arith, get_or-set_same, get_or-set_other, Bool, false, Option, Some, None}
use Rattle.std.specs.Prelude.{set, slice_index_or}
use Rattle.std.proofs.lemmas.Bool.{cases_lt}
use Rattle.cop_lines.specs.declared.entries.Entry.{Entry}
use Rattle.cop_log.specs.declared.anchors.Anchor.{Anchor}
use Rattle.cop_log.specs.declared.anchors.Pile.{Pile}
use Rattle.cop_log.specs.Log.{Terms, Lane}
use Rattle.cop_log.specs.Watching.{IsAnchored, IsWatched, Stands}
use Rattle.cop_log.specs.Watchers.{AreOf}
use Rattle.cop_log.proofs.Named as Named

-- one more is let go
pub one_less : (before xs : List (Option Anchor)) (n : ℕ) → n < length xs → AreOf xs before → AreOf (set xs n None) before
one_less before xs n l h p a e = elim (cases_lt p n) [
  | inl s ↦ other (λ q. omega arith)
  | inr s ↦ elim (cases_lt n p) [
    | inl g ↦ other (λ q. omega arith)
    | inr g ↦ (let q : p ≡ n = omega arith in
        let none : slice_index_or (set xs n None) p None ≡ None = ap (λ p. slice_index_or (set xs n None) p None) q ∙ get_or-set_same xs n None None l in
        let never : None ≡ Some a = sym none ∙ e in absurd (cc))
  ]
]
  where
    other : (p ≡ n → ⊥) → slice_index_or before p None ≡ Some a
    other apart = h p a (sym (get_or-set_other xs n p None None apart) ∙ e)

pub restarted : (t : Terms) (log : List Entry) (i : ℕ) (before after : List (Option Anchor)) (pile : Option Pile) (clean : Bool) → length after ≡ length before → AreOf after before
    → Stands t log i before pile clean → Stands t log i after None false
restarted t log i before after pile clean count few w = record {
  watched = record { count = count ∙ w.watched.count; lanes = λ p k o. lane p k (slice_index_or after p None) (few p) (w.watched.lanes p k o) };
  held = record { piled = λ e. absurd (cc); fullest = λ e. absurd (cc); none_crowded = λ e. absurd (cc) };
  named = Named.weaken t.streams log i clean false (λ e. absurd (cc)) w.named;
}
  where
    anchored : (k : Lane) (p : ℕ) (o : Option Anchor) → ((a : Anchor) → o ≡ Some a → slice_index_or before p None ≡ Some a) → IsWatched k log i (slice_index_or before p None) clean → IsAnchored k log i o false
    anchored k p None h v = λ e. absurd (cc)
    anchored k p (Some a) h v = let w = subst (λ x. IsWatched k log i x clean) (h a refl) v in w.anchored

    lane : (p : ℕ) (k : Lane) (o : Option Anchor) → ((a : Anchor) → o ≡ Some a → slice_index_or before p None ≡ Some a) → IsWatched k log i (slice_index_or before p None) clean → IsWatched k log i o false
    lane p k o h v = record { anchored = anchored k p o h v; strictest = λ e. absurd (cc); none_soon = λ e. absurd (cc) }
