-- The frame of a text that decodes.
use Rattle.std.proofs.Common.{◌≡◌, ℕ, ◌-◌, ◌*◌, ◌≤◌, List, [], ◌∷◌, ◌++◌, length, take, drop, true, false, refl, sym, ◌∙◌, ap, arith, Bool, Some, length-drop}
use Rattle.std.specs.Prelude.{nat_lt, MatchResult, Result, Ok, Err, replicate}
use Rattle.std.proofs.lemmas.List.{length-take-le, take_all, drop-replicate}
use Rattle.hex.specs.Hex.{decode_of, decode_sized}
use Rattle.hex.specs.declared.error.FromHexError.{FromHexError}
use Rattle.hex.proofs.HexLemmas.{decode_sized-twice, decode_of-ok}
use Rattle.cop_slcan.specs.Meaning.{framed, is_stamp}

-- what a slice was decoded to is what its text decodes to
pub written_ok : (d : Result (List ℕ) FromHexError) (r : Result (Unit {0}) FromHexError) (out : List ℕ) → MatchResult d (λ bytes. (r ≡ Ok tt) × (out ≡ bytes)) (λ e. r ≡ Err e) → r ≡ Ok tt → d ≡ Ok out
written_ok (Ok bytes) r out h ok = ap Ok (sym h.1)
written_ok (Err e) r out h ok = cc (sym h ∙ ok)

pub framed_reads : (id len : ℕ) (text out : List ℕ) → len * 2 ≤ length text → is_stamp (drop (len * 2) text) ≡ true
    → decode_sized (take (len * 2) text) len ≡ Ok out → framed id len text ≡ Some (record { id = id; body = out ++ replicate (8 - len) 0; len = len })
framed_reads id len text out long stamp h =
    let size : length (take (len * 2) text) ≡ len * 2 = length-take-le _ _ long in
    let twice : length (take (len * 2) text) ≡ 2 * len = omega (arith, size) in
    let same : decode_of (take (len * 2) text) ≡ Ok out = sym (decode_sized-twice (take (len * 2) text) len twice) ∙ h in
    let two = (decode_of-ok (take (len * 2) text) out same).2 in
    let count : length out ≡ len = omega (arith, two, twice) in
    let far : nat_lt (length text) (len * 2) ≡ false = grind (arith) in
    rw (far, stamp, same, count) refl

abbrev pub zeros : List ℕ
zeros = 0 ∷ 0 ∷ 0 ∷ 0 ∷ 0 ∷ 0 ∷ 0 ∷ 0 ∷ []

-- the same as the code has it
pub framed_of : (id len : ℕ) (text out : List ℕ) (b : Bool) → len ≤ 8 → len * 2 ≤ length text
    → b ≡ true → b ≡ is_stamp (take (length text - len * 2) (drop (len * 2) text)) → decode_sized (take (len * 2) text) (length (take len zeros)) ≡ Ok out
    → Some (record { id = id; body = out ++ drop len zeros; len = len }) ≡ framed id len text
framed_of id len text out b small long holds stamp h =
    let behind : take (length text - len * 2) (drop (len * 2) text) ≡ drop (len * 2) text = take_all _ _ (let l = length-drop (len * 2) text in omega (arith, l)) in
    let stamped : is_stamp (drop (len * 2) text) ≡ true = ap is_stamp (sym behind) ∙ sym stamp ∙ holds in
    let room : length (take len zeros) ≡ len = length-take-le len zeros small in
    let decoded : decode_sized (take (len * 2) text) len ≡ Ok out = ap (λ n. decode_sized (take (len * 2) text) n) (sym room) ∙ h in
    ap (λ z. Some (record { id = id; body = out ++ z; len = len })) (drop-replicate len 8 0) ∙ sym (framed_reads id len text out long stamped decoded)

pub framed_by : (id len fr fd : ℕ) (text out : List ℕ) (b : Bool) → fr ≡ len → fd ≡ len → len ≤ 8 → fd * 2 ≤ length text
    → b ≡ true → b ≡ is_stamp (take (length text - fd * 2) (drop (fd * 2) text)) → decode_sized (take (fd * 2) text) (length (take fr zeros)) ≡ Ok out
    → Some (record { id = id; body = out ++ drop fr zeros; len = len }) ≡ framed id len text
framed_by id len fr fd text out b er ed small long holds stamp h =
    let l : len * 2 ≤ length text = rw ed at long in
    let s : b ≡ is_stamp (take (length text - len * 2) (drop (len * 2) text)) = rw ed at stamp in
    let g : decode_sized (take (len * 2) text) (length (take len zeros)) ≡ Ok out = rw (er, ed) at h in
    rw er (framed_of id len text out b small l holds s g)
