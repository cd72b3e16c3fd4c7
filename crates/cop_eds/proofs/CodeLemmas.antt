-- The numbers of objects' sections are small, and no other name's number is.
use Rattle.std.proofs.Common.{◌≡◌, ℕ, ◌+◌, ◌*◌, ◌%◌, ◌^◌, ◌<◌, ◌≤◌, ◌==◌, Bool, true, false, ◌&&◌, cond, nat_le, List, [], ◌∷◌, length, take, drop, codes, Option, Some, None, refl, ap, ◌∙◌, arith}
use Rattle.std.specs.Option.{option_map}
use Rattle.std.specs.Str.{str_to_ascii_lowercase}
use Rattle.std.proofs.lemmas.List.{length-take-le}
use Rattle.std.proofs.lemmas.Bool.Decides.{nat_tests}
use Rattle.cop_eds.specs.declared.line.Kind.{Kind}
use Rattle.cop_eds.specs.declared.line.Kind.TheVariants.{Other, Header, Pair}
use Rattle.cop_eds.specs.declared.line.Line.{Line}
use Rattle.cop_eds.specs.Text.{same_name, name_of, key_of}
use Rattle.cop_eds.specs.Number.{number_in}
use Rattle.cop_eds.specs.Names.{object_code, both_codes, sub_of, code_of}
use Rattle.cop_eds.specs.Lines.{text_of}
use Rattle.cop_eds.specs.Index.{line_key, named_key, pair_key, of_kind}
use Rattle.cop_eds.specs.Tickets.{ranged, word_of}
use Rattle.cop_eds.proofs.ListLemmas.{some_is}
use Rattle.cop_eds.proofs.NumberLemmas.{index_fits, sub_fits}

own_small : (digits : List ℕ) (o : Option ℕ) (c : ℕ) → length digits ≤ 4 → number_in 16 digits ≡ o → option_map object_code o ≡ Some c → c < 2 ^ 63
own_small digits None c le e s = cc
own_small digits (Some n) c le e s =
    let small : n < 65536 = index_fits digits n e le in
    let same : n * 257 ≡ c = some_is s in
    omega arith

sub_small : (name : List ℕ) (n : ℕ) → sub_of name ≡ Some n → n < 256
unfolding sub_of
sub_small name n e = by_test (same_name (take 3 name) (codes "sub")) (nat_le (length name) 5) refl e
  where
    by_test : (a b : Bool) → nat_le (length name) 5 ≡ b → cond (a && b) (number_in 16 (drop 3 name)) None ≡ Some n → n < 256
    by_test false b p s = cc
    by_test true false p s = cc
    by_test true true p s = sub_fits (drop 3 name) n s (grind (arith, nat_tests))

both_small : (name : List ℕ) (o p : Option ℕ) (c : ℕ) → number_in 16 (take 4 name) ≡ o → 4 ≤ length name → sub_of (drop 4 name) ≡ p → both_codes o p ≡ Some c → c < 2 ^ 63
both_small name None p c e le f s = cc
both_small name (Some m) None c e le f s = cc
both_small name (Some m) (Some n) c e le f s =
    let index : m < 65536 = index_fits (take 4 name) m e (omega (arith, length-take-le 4 name le)) in
    let sub : n < 256 = sub_small (drop 4 name) n f in
    let same : m * 257 + (n + 1) ≡ c = some_is s in
    omega arith

code_small : (name : List ℕ) (c : ℕ) → code_of name ≡ Some c → c < 2 ^ 63
code_small name c e = by_length (nat_le (length name) 4) refl (length name == 4) refl e
  where
    by_length : (a : Bool) → nat_le (length name) 4 ≡ a → (b : Bool) → (length name == 4) ≡ b
        → cond a (cond b (option_map object_code (number_in 16 name)) None) (both_codes (number_in 16 (take 4 name)) (sub_of (drop 4 name))) ≡ Some c → c < 2 ^ 63
    by_length true p true q s = own_small name (number_in 16 name) c (grind (arith, nat_tests)) refl s
    by_length true p false q s = cc
    by_length false p b q s = both_small name (number_in 16 (take 4 name)) (sub_of (drop 4 name)) c refl (grind (arith, nat_tests)) refl s

-- a line that is found as an object's section has a small number
pub found_small : (text : List ℕ) (line : Line) (c : ℕ) → line_key text line ≡ Some (0 ∷ c ∷ []) → c < 2 ^ 63
found_small text line c e = by_kind line.kind (code_of (name_of (text_of text line))) refl e
  where
    by_kind : (kind : Kind) (m : Option ℕ) → code_of (name_of (text_of text line)) ≡ m
        → of_kind kind (named_key m (name_of (text_of text line))) (pair_key line.section (key_of (text_of text line))) ≡ Some (0 ∷ c ∷ []) → c < 2 ^ 63
    by_kind Other m p s = cc
    by_kind Header (Some n) p s =
        let same : n ≡ c = cc in
        code_small (name_of (text_of text line)) c (p ∙ ap (λ x. Some x) same)
    by_kind Header None p s = cc
    by_kind Pair m p s = cc

upper : (x : ℕ) → 2 ^ 63 ≤ 2 ^ 63 + x
upper x = omega arith

named_large : (bits : ℕ) (name : List ℕ) → 2 ^ 63 ≤ word_of bits (1 ∷ 0 ∷ name)
unfolding word_of
named_large bits name = upper (ranged bits ((0 + 1) % 2 ^ 64) name)

keyed_large : (bits section : ℕ) (name : List ℕ) → 2 ^ 63 ≤ word_of bits (2 ∷ section ∷ name)
unfolding word_of
keyed_large bits section name = upper (ranged bits ((section + 2) % 2 ^ 64) name)

own_word : (bits code w : ℕ) → Some (word_of bits (0 ∷ code ∷ [])) ≡ Some w → code ≡ w
unfolding word_of
own_word bits code w e = some_is e

-- and a line whose number is small is found as an object's section
pub small_found : (text : List ℕ) (line : Line) (bits w : ℕ) → option_map (word_of bits) (line_key text line) ≡ Some w → w < 2 ^ 63
    → line_key text line ≡ Some (0 ∷ w ∷ [])
small_found text line bits w e small = by_kind line.kind (code_of (name_of (text_of text line))) (name_of (text_of text line)) (key_of (text_of text line)) line.section e
  where
    by_kind : (kind : Kind) (m : Option ℕ) (a k : List ℕ) (s : ℕ) → option_map (word_of bits) (of_kind kind (named_key m a) (pair_key s k)) ≡ Some w
        → of_kind kind (named_key m a) (pair_key s k) ≡ Some (0 ∷ w ∷ [])
    by_kind Other m a k s f = cc
    by_kind Header (Some n) a k s f = ap (λ c. Some (0 ∷ c ∷ [])) (own_word bits n w f)
    by_kind Header None a k s f = absurd (omega (arith, some_is f, named_large bits (str_to_ascii_lowercase a)))
    by_kind Pair m a k s f = absurd (omega (arith, some_is f, keyed_large bits s (str_to_ascii_lowercase k)))
