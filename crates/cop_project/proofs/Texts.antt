-- The bytes of words.
use Rattle.std.proofs.Common.{◌≡◌, ℕ, ◌+◌, ◌-◌, ◌<◌, Bool, List, [], ◌∷◌, ◌++◌, length, take, drop, get_or, String, Global, string_bytes, refl, ap, ◌∙◌, append_assoc, zero, suc, arith, length-drop}
use Rattle.std.proofs.lemmas.List.{get_or-map, take_all}
use Rattle.std.specs.List.{list_any}
use Rattle.cop_project.specs.Project.{Says}
use Rattle.cop_project.specs.Words.{texts, word_at, is_format, project_words, with_project}

pub text_at : (words : List (String Global)) (i : ℕ) (d : String Global) → i < length words → word_at (texts words) i ≡ string_bytes (get_or words i d)
text_at words i d h = get_or-map string_bytes words i d [] h

pub any_text : (p : List ℕ → Bool) (words : List (String Global)) → list_any p (texts words) ≡ list_any (λ w. p (string_bytes w)) words
any_text p [] = refl
any_text p (w ∷ words) = rw (any_text p words)

pub any_format : (words : List (String Global)) → list_any is_format (texts words) ≡ list_any (λ w. is_format (string_bytes w)) words
any_format words = any_text is_format words

pub texts_take : (i : ℕ) (words : List (String Global)) → texts (take i words) ≡ take i (texts words)
texts_take zero words = refl
texts_take (suc i) [] = refl
texts_take (suc i) (w ∷ words) = ap (λ l. string_bytes w ∷ l) (texts_take i words)

pub texts_drop : (i : ℕ) (words : List (String Global)) → texts (drop i words) ≡ drop i (texts words)
texts_drop zero words = refl
texts_drop (suc i) [] = refl
texts_drop (suc i) (w ∷ words) = texts_drop i words

-- the range from a place to the end
pub rest_is : (words : List (String Global)) (i : ℕ) → take (length words - i) (drop i words) ≡ drop i words
rest_is words i = take_all (length words - i) (drop i words) (omega (arith, length-drop i words))

-- the words before a place, those that stand there now, and the others
pub joined : (words : List (String Global)) (place : ℕ) (said : Says) (none first second all : List (String Global))
    → none ≡ []
    → texts first ≡ texts none ++ texts (take place words)
    → texts second ≡ texts first ++ project_words (word_at (texts words) place) said
    → texts all ≡ texts second ++ texts (drop (place + 1) words)
    → texts all ≡ with_project (texts words) place said
joined words place said none first second all n a b c =
    c ∙ rw (b, a, n, texts_take place words, texts_drop (place + 1) words) (append_assoc {A = List ℕ} (take place (texts words)) _ _)
