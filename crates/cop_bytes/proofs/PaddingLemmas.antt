-- A text without its tail, a byte more at its front.
use Rattle.std.proofs.Common.{◌≡◌, ℕ, suc, ◌+◌, ◌-◌, ◌≤◌, Bool, true, false, ◌&&◌, List, [], ◌∷◌, length, take, drop, slice_index, get_or, refl, ap, subst, arith}
use Rattle.std.specs.List.{list_all}
use Rattle.std.proofs.lemmas.List.{drop_more}
use Rattle.cop_bytes.specs.Bytes.{is_padding, is_tail, uncut}

all_more : (b : ℕ) (rest : List ℕ) (p : Bool) → p ≡ list_all is_padding rest → is_padding b && p ≡ list_all is_padding (b ∷ rest)
all_more b rest p e = rw e refl

kept_more : (b m : ℕ) (rest : List ℕ) → is_tail b rest ≡ false → take m rest ≡ uncut rest → take (suc m) (b ∷ rest) ≡ uncut (b ∷ rest)
kept_more b m rest h e = rw h (ap (λ (a : List ℕ). b ∷ a) e)

none_kept : (b : ℕ) (rest : List ℕ) → is_tail b rest ≡ true → [] ≡ uncut (b ∷ rest)
none_kept b rest h = rw h refl

padded_at : (text : List ℕ) (n : ℕ) (p : Bool) → n + 1 ≤ length text → p ≡ list_all is_padding (drop (n + 1) text)
    → is_padding (slice_index text n) && p ≡ list_all is_padding (drop n text)
padded_at text n p within e = rw (drop_more text n 0 (omega (arith, within))) (all_more (get_or text n 0) (drop (n + 1) text) p e)

kept_at : (text : List ℕ) (n kept : ℕ) → n + 1 ≤ length text → n + 1 ≤ kept → is_tail (slice_index text n) (drop (n + 1) text) ≡ false
    → take (kept - (n + 1)) (drop (n + 1) text) ≡ uncut (drop (n + 1) text) → take (kept - n) (drop n text) ≡ uncut (drop n text)
kept_at text n kept within le h e =
    let f : kept - n ≡ suc (kept - (n + 1)) = omega (arith, le) in
    rw f (rw (drop_more text n 0 (omega (arith, within))) (kept_more (get_or text n 0) (kept - (n + 1)) (drop (n + 1) text) h e))

none_at : (text : List ℕ) (n : ℕ) → n + 1 ≤ length text → is_tail (slice_index text n) (drop (n + 1) text) ≡ true → [] ≡ uncut (drop n text)
none_at text n within h = rw (drop_more text n 0 (omega (arith, within))) (none_kept (get_or text n 0) (drop (n + 1) text) h)

-- what is padding from this place on is so from the place before, where its byte is
pub padded_before : (text : List ℕ) (at n : ℕ) (p : Bool) → n + 1 ≡ at → at ≤ length text → p ≡ list_all is_padding (drop at text)
    → is_padding (slice_index text n) && p ≡ list_all is_padding (drop n text)
padded_before text at n p same =
    let P : ℕ → Type 0 = λ place. place ≤ length text → p ≡ list_all is_padding (drop place text) → is_padding (slice_index text n) && p ≡ list_all is_padding (drop n text) in
    subst P same (padded_at text n p)

-- what is kept from this place on is so from the place before, where no tail begins
pub kept_before : (text : List ℕ) (at n kept : ℕ) → n + 1 ≡ at → at ≤ length text → at ≤ kept → is_tail (slice_index text n) (drop at text) ≡ false
    → take (kept - at) (drop at text) ≡ uncut (drop at text) → take (kept - n) (drop n text) ≡ uncut (drop n text)
kept_before text at n kept same =
    let P : ℕ → Type 0 = λ place. place ≤ length text → place ≤ kept → is_tail (slice_index text n) (drop place text) ≡ false
    → take (kept - place) (drop place text) ≡ uncut (drop place text) → take (kept - n) (drop n text) ≡ uncut (drop n text) in
    subst P same (kept_at text n kept)

-- nothing is kept from a place at which a tail begins
pub none_before : (text : List ℕ) (at n : ℕ) → n + 1 ≡ at → at ≤ length text → is_tail (slice_index text n) (drop at text) ≡ true → [] ≡ uncut (drop n text)
none_before text at n same =
    let P : ℕ → Type 0 = λ place. place ≤ length text → is_tail (slice_index text n) (drop place text) ≡ true → [] ≡ uncut (drop n text) in
    subst P same (none_at text n)
