-- What the definitions say of whole texts.
use Rattle.std.specs.Prelude.{ℕ, ◌+◌, ◌≡◌, false, List, [], ◌∷◌, ◌++◌, length, Some, None}
use Rattle.cop_eds.specs.declared.fault.Refusal.{Refusal}
use Rattle.cop_eds.specs.declared.line.Kind.TheVariants.{Header, Pair}
use Rattle.cop_eds.specs.declared.line.Line.{Line}
use Rattle.cop_eds.specs.Text.{name_of, key_of}
use Rattle.cop_eds.specs.Lines.{lines_of, text_of, is_named, is_keyed, broken, first_refusal}

-- the refusal stands at a line that breaks its rule, and no line before that one breaks any
pub record IsFirstBroken (text : List ℕ) (refusal : Refusal) : Type 0 where
  pub before : List Line
  pub line : Line
  pub after : List Line
  pub lines : lines_of text ≡ before ++ line ∷ after
  pub number : refusal.line ≡ length before + 1
  pub breaks : broken text before line ≡ Some refusal.rule
  pub none_before : first_refusal text [] before ≡ None

-- no two headers have one name
abbrev pub DistinctSections : List ℕ → Type 0
DistinctSections text =
    (before between after : List Line) (first second : Line) → lines_of text ≡ (before ++ first ∷ between) ++ second ∷ after
    → second.kind ≡ Header → is_named text (name_of (text_of text second)) first ≡ false

-- no two pairs of one section have one key
abbrev pub DistinctKeys : List ℕ → Type 0
DistinctKeys text =
    (before between after : List Line) (first second : Line) → lines_of text ≡ (before ++ first ∷ between) ++ second ∷ after
    → second.kind ≡ Pair → is_keyed text second.section (key_of (text_of text second)) first ≡ false
