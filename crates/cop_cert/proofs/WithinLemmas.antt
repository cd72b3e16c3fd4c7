-- Records added to a text while it is within a limit.
use Rattle.std.proofs.Common.{◌≡◌, ℕ, ◌+◌, ◌<◌, ◌≤◌, Bool, true, false, List, [], ◌∷◌, ◌++◌, length, length-append, take, drop, get_or, refl, sym, ap, ◌∙◌, arith, append_assoc, take-append-drop}
use Rattle.std.specs.List.{flat_map}
use Rattle.std.proofs.lemmas.Grind.{flat_map-append}
use Rattle.cop_cert.specs.Format.{Fields, header, version, version_of, refusal_rows, text_of, line, lines}
use Rattle.cop_cert.specs.declared.refusals.Refusal.{Refusal}
use Rattle.cop_cert.proofs.LineLemmas.{text_is_lines}
use Rattle.cop_cert.specs.Writer.{Adds, WritesWithin}
use Rattle.cop_cert.proofs.WriterLemmas.{adds_more, adds_each, all_each}

-- more records make no shorter text
no_shorter : (old : List ℕ) (rows more : List Fields) → length (old ++ lines rows) ≤ length (old ++ lines (rows ++ more))
no_shorter old rows more =
    let e : lines (rows ++ more) ≡ lines rows ++ lines more = flat_map-append line rows more in
    rw e (omega (arith, length-append old (lines rows), length-append old (lines rows ++ lines more), length-append (lines rows) (lines more)))

pub first_full : (old now : List ℕ) (rows more : List Fields) → 67108864 < length (old ++ lines rows) → 67108864 < length (old ++ lines (rows ++ more))
first_full old now rows more h = let less = no_shorter old rows more in omega (arith, h, less)

pub both : (a b c : List ℕ) (rows more : List Fields) → WritesWithin a b rows true → Adds b c more → WritesWithin a c (rows ++ more) true
both a b c rows more h k = adds_more a b c rows more h k

module _ {X : Type 0} (a b c : List ℕ) (xs : List X) (i : ℕ) (f : X → List Fields) where
  -- the records of the values so far are too many, so all are
  part_full : 67108864 < length (a ++ lines (flat_map f (take i xs))) → 67108864 < length (a ++ lines (flat_map f xs))
  part_full h =
      let all : flat_map f (take i xs) ++ flat_map f (drop i xs) ≡ flat_map f xs = sym (flat_map-append f (take i xs) (drop i xs)) ∙ ap (λ ys. flat_map f ys) (take-append-drop i xs) in
      let less = no_shorter a (flat_map f (take i xs)) (flat_map f (drop i xs)) in
      rw all at (first_full a a (flat_map f (take i xs)) (flat_map f (drop i xs)) h)

pub each_more : {X : Type 0} (a b c : List ℕ) (xs : List X) (i : ℕ) (x : X) (f : X → List Fields) → i < length xs → x ≡ get_or xs i x → Adds a b (flat_map f (take i xs)) → Adds b c (f x) → Adds a c (flat_map f (take (i + 1) xs))
each_more a b c xs i x f lt e h k = adds_each a b c xs i x f lt e h k

-- one value more, and the text is too long
pub each_full : {X : Type 0} (a b c : List ℕ) (xs : List X) (i : ℕ) (x : X) (f : X → List Fields) → i < length xs → x ≡ get_or xs i x → Adds a b (flat_map f (take i xs)) → Adds b c (f x) → 67108864 < length c
    → 67108864 < length (a ++ lines (flat_map f xs))
each_full a b c xs i x f lt e h k long =
    let all = adds_each a b c xs i x f lt e h k in
    part_full a b c xs (i + 1) f (rw all.text at long)

-- one value more, whose records are too many
pub each_stopped : {X : Type 0} (a b : List ℕ) (xs : List X) (i : ℕ) (x : X) (f : X → List Fields) → i < length xs → x ≡ get_or xs i x → Adds a b (flat_map f (take i xs)) → 67108864 < length (b ++ lines (f x))
    → 67108864 < length (a ++ lines (flat_map f xs))
each_stopped a b xs i x f lt e h long =
    let all = adds_each a b (b ++ lines (f x)) xs i x f lt e h (record { text = refl }) in
    part_full a b b xs (i + 1) f (rw all.text at long)

pub each_all : {X : Type 0} (a b : List ℕ) (xs : List X) (i : ℕ) (f : X → List Fields) → length xs ≤ i → Adds a b (flat_map f (take i xs)) → Adds a b (flat_map f xs)
each_all a b xs i f le h = all_each a b xs i f le h

pub was_whole : (old new : List ℕ) (rows : List Fields) (b : Bool) → b ≡ true → WritesWithin old new rows b → Adds old new rows
was_whole old new rows true e h = h
was_whole old new rows false e h = cc

pub was_stopped : (old new : List ℕ) (rows : List Fields) (b : Bool) → b ≡ false → WritesWithin old new rows b → 67108864 < length (old ++ lines rows)
was_stopped old new rows true e h = cc
was_stopped old new rows false e h = h

-- the text is the whole file's, however far it was written
module _ (refusals : List Refusal) (before after : List ℕ) (first : before ≡ lines (header ∷ version (version_of refusals) ∷ [])) where
  pub whole_text : Adds before after (flat_map refusal_rows refusals) → after ≡ text_of refusals
  whole_text added = text_is_lines refusals before after first added

  pub too_long : 67108864 < length (before ++ lines (flat_map refusal_rows refusals)) → 67108864 < length (text_of refusals)
  too_long h = let e = text_is_lines refusals before (before ++ lines (flat_map refusal_rows refusals)) first (record { text = refl }) in rw e at h
