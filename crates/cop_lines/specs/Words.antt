-- Parts of a line: what stands before and behind a byte, and words between blanks.
use Rattle.std.specs.Prelude.{ℕ, ◌+◌, Bool, ◌&&◌, ◌||◌, List, [], ◌∷◌, suc, zero, length, take, drop, nat_le, ◌==◌, if◌then◌else◌}
use Rattle.std.specs.Str.{bytes_eq}

-- where a byte stands first, or the length
abbrev pub place_in : ℕ → List ℕ → ℕ
place_in b [] = 0
place_in b (x ∷ xs) = if x == b then 0 else suc (place_in b xs)

-- what stands before it and after it
abbrev pub front : ℕ → List ℕ → List ℕ
front b text = take (place_in b text) text

abbrev pub back : ℕ → List ℕ → List ℕ
back b text = drop (place_in b text + 1) text

-- a space, a tab, or the CR of a line that ends by CR and LF
abbrev pub is_blank : ℕ → Bool
is_blank b = (b == 32) || ((b == 9) || (b == 13))

-- how many blanks stand in front
abbrev pub blanks_in : List ℕ → ℕ
blanks_in [] = 0
blanks_in (b ∷ bs) = if is_blank b then suc (blanks_in bs) else 0

-- how many bytes stand before the first blank
abbrev pub letters_in : List ℕ → ℕ
letters_in [] = 0
letters_in (b ∷ bs) = if is_blank b then 0 else suc (letters_in bs)

-- without the blanks in front
unfoldable pub trimmed : List ℕ → List ℕ
trimmed text = drop (blanks_in text) text

-- the first word, which is empty where there is none
unfoldable pub word : List ℕ → List ℕ
word text = take (letters_in (trimmed text)) (trimmed text)

-- what stands behind it
unfoldable pub after_word : List ℕ → List ℕ
after_word text = drop (letters_in (trimmed text)) (trimmed text)

-- what stands behind so many words
unfoldable pub after : ℕ → List ℕ → List ℕ
after zero text = text
after (suc n) text = after n (after_word text)

-- the word behind so many others
unfoldable pub field : ℕ → List ℕ → List ℕ
field n text = word (after n text)

-- a text begins with another one
unfoldable pub begins : List ℕ → List ℕ → Bool
begins start text = nat_le (length start) (length text) && bytes_eq (take (length start) text) start
