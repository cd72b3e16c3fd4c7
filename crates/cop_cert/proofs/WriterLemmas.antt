-- Records added to a text, one after another.
use Rattle.std.proofs.Common.{◌≡◌, ℕ, ◌+◌, ◌<◌, ◌≤◌, List, [], ◌∷◌, ◌++◌, length, take, get_or, sym, ap, ◌∙◌, append_assoc, append-nil}
use Rattle.std.specs.List.{flat_map}
use Rattle.std.proofs.lemmas.Grind.{flat_map-append}
use Rattle.std.proofs.lemmas.List.{take_more, take_all}
use Rattle.cop_cert.specs.Format.{Fields, line, lines}
use Rattle.cop_cert.specs.Writer.{Adds}

pub adds_none : (a : List ℕ) → Adds a a []
adds_none a = record { text = sym (append-nil a) }

pub adds_more : (a b c : List ℕ) (rows more : List Fields) → Adds a b rows → Adds b c more → Adds a c (rows ++ more)
adds_more a b c rows more h k = record {
  text = k.text ∙ rw (h.text, flat_map-append line rows more) (append_assoc a (lines rows) (lines more));
}

module _ {X : Type 0} (a b c : List ℕ) (xs : List X) (i : ℕ) (x : X) where
  -- one value more, of values with some records each
  pub adds_each : (f : X → List Fields) → i < length xs → x ≡ get_or xs i x → Adds a b (flat_map f (take i xs)) → Adds b c (f x) → Adds a c (flat_map f (take (i + 1) xs))
  adds_each f lt e h k =
      let more : Adds b c (f (get_or xs i x) ++ []) = rw (append-nil (f (get_or xs i x)), ← e) k in
      rw (take_more xs i x lt, flat_map-append f (take i xs) (get_or xs i x ∷ []))
      (adds_more a b c (flat_map f (take i xs)) (f (get_or xs i x) ++ []) h more)

pub all_each : {X : Type 0} (a b : List ℕ) (xs : List X) (i : ℕ) (f : X → List Fields) → length xs ≤ i → Adds a b (flat_map f (take i xs)) → Adds a b (flat_map f xs)
all_each a b xs i f le h = rw (take_all i xs le) at h

-- ---- records that are taken from the front of those that are left

pub adds_front : (now next whole : List ℕ) (rows more : List Fields) → now ++ lines (rows ++ more) ≡ whole → Adds now next rows → next ++ lines more ≡ whole
adds_front now next whole rows more h k =
    let apart : lines (rows ++ more) ≡ lines rows ++ lines more = flat_map-append line rows more in
    let first : next ++ lines more ≡ now ++ (lines rows ++ lines more) = ap (λ t. t ++ lines more) k.text ∙ append_assoc now (lines rows) (lines more) in
    let all : now ++ (lines rows ++ lines more) ≡ whole = ap (λ t. now ++ t) (sym apart) ∙ h in
    first ∙ all

pub adds_whole : (old now : List ℕ) (rows : List Fields) → now ++ [] ≡ old ++ lines rows → Adds old now rows
adds_whole old now rows h = record { text = sym (append-nil now) ∙ h }
