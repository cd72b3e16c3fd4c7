-- Blanks, quotes and comments round a value, as makers write them.
use Rattle.std.specs.Prelude.{ℕ, Bool, false, not, ◌||◌, ◌&&◌, ◌==◌, List, [], ◌∷◌, length, reverse, filter, slice_index, codes, if◌then◌else◌}
use Rattle.std.specs.List.{before_first, after_first}
use Rattle.std.specs.Char.{is_digit}
use Rattle.std.specs.Str.{bytes_eq}
use Rattle.cop_eds.specs.Text.{is_blank, trim}

-- a blank of CiA 306, or one that makers write besides: a vertical tab, a form feed, each byte of a no-break space (A0h, or C2h and A0h)
abbrev pub is_any_blank : ℕ → Bool
is_any_blank b = (is_blank b || (b == 11)) || ((b == 12) || ((b == 160) || (b == 194)))

-- without such blanks at the front
abbrev pub loose_start : List ℕ → List ℕ
loose_start [] = []
loose_start (b ∷ bs) = if is_any_blank b then loose_start bs else b ∷ bs

-- a blank or a comma
abbrev pub is_margin : ℕ → Bool
is_margin b = is_any_blank b || (b == 44)

-- without blanks and commas at the front
abbrev pub margin_start : List ℕ → List ℕ
margin_start [] = []
margin_start (b ∷ bs) = if is_margin b then margin_start bs else b ∷ bs

-- without blanks and commas at both ends
abbrev pub without_margins : List ℕ → List ℕ
without_margins bs = reverse (margin_start (reverse (margin_start bs)))

-- a comment behind a value begins with ; or // or /*, and behind a blank with # too
abbrev pub begins_comment : Bool → List ℕ → Bool
begins_comment after_blank bs =
    ((slice_index bs 0 == 59) || (after_blank && (slice_index bs 0 == 35)))
    || ((slice_index bs 0 == 47) && ((slice_index bs 1 == 47) || (slice_index bs 1 == 42)))

-- what stands before a comment; whether a blank stands before it all
abbrev pub before_comment : Bool → List ℕ → List ℕ
before_comment after_blank [] = []
before_comment after_blank (b ∷ bs) = if begins_comment after_blank (b ∷ bs) then [] else b ∷ before_comment (is_any_blank b) bs

-- the base of a number as makers write it before #
abbrev pub is_base : List ℕ → Bool
is_base text = bytes_eq text (codes "2") || (bytes_eq text (codes "8") || bytes_eq text (codes "16"))

-- what stands before the first #
abbrev pub before_hash : List ℕ → List ℕ
before_hash value = before_first (λ b. b == 35) value

-- a base, a blank, # and a digit: nobody knows whether a comment begins there
abbrev pub is_torn : List ℕ → Bool
is_torn value =
    (not (length (trim (before_hash value)) == length (before_hash value)) && is_base (trim (before_hash value)))
    && is_digit (slice_index (after_first (λ b. b == 35) value) 0) 16

-- a quote, double or single
abbrev pub is_quote : ℕ → Bool
is_quote b = (b == 34) || (b == 39)

-- a value without a comment behind it, quotes, and blanks and commas at its ends
unfoldable pub bare : List ℕ → List ℕ
bare value = if is_torn value then value else without_margins (filter (λ b. not (is_quote b)) (before_comment false value))
