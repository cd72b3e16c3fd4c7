-- A concise form is read again.
use Rattle.std.proofs.Common.{◌≡◌, ℕ, zero, suc, ◌-◌, ◌*◌, ◌/◌, ◌%◌, ◌^◌, ◌<◌, List, [], ◌∷◌, ◌++◌, length, drop, Some, option_and_then, option_map, refl, sym, ◌∙◌, ap, arith, append_assoc, append-nil, pow-suc}
use Rattle.std.specs.List.{All, flat_map}
use Rattle.std.proofs.lemmas.List.Elements.{All-head, All-tail}
use Rattle.cop_setup.specs.declared.setting.Setting.{Setting}
use Rattle.cop_setup.specs.declared.setting.Width.{Width}
use Rattle.cop_setup.specs.declared.setting.Width.TheVariants.{One, Two, Four}
use Rattle.cop_setup.specs.Width.{size_of}
use Rattle.cop_cdcf.specs.Concise.{number_bytes, entry_of, concise_of}
use Rattle.cop_cdcf.specs.Reading.{number_in, width_of, setting_from, settings_from, settings_in, IsWritable}

-- the number that its bytes are, where it has room in them
number_read : (n x : ℕ) (rest : List ℕ) → x < 256 ^ n → number_in n (number_bytes n x ++ rest) ≡ x
number_read zero x rest h = omega (arith, h)
number_read (suc n) x rest h =
    let more : 256 ^ suc n ≡ 256 * 256 ^ n = omega (arith, pow-suc 256 n) in
    let small : x / 256 < 256 ^ n = omega (arith, more, h) in
    let e = number_read n (x / 256) rest small in
    rw e (omega arith)

-- what stands behind the bytes of a number
behind : (n x : ℕ) (rest : List ℕ) → drop n (number_bytes n x ++ rest) ≡ rest
behind zero x rest = refl
behind (suc n) x rest = behind n (x / 256) rest

-- the fields of a setting at the front
abbrev pub entry_text : Setting → List ℕ → List ℕ
entry_text s rest = number_bytes 2 s.index ++ (number_bytes 1 s.sub ++ (number_bytes 4 (size_of s.width) ++ (number_bytes (size_of s.width) s.value ++ rest)))

entry_split : (s : Setting) (rest : List ℕ) → entry_of s ++ rest ≡ entry_text s rest
entry_split s rest =
    append_assoc (number_bytes 2 s.index) (number_bytes 1 s.sub ++ (number_bytes 4 (size_of s.width) ++ number_bytes (size_of s.width) s.value)) rest
    ∙ ap (λ t. number_bytes 2 s.index ++ t)
    (append_assoc (number_bytes 1 s.sub) (number_bytes 4 (size_of s.width) ++ number_bytes (size_of s.width) s.value) rest
    ∙ ap (λ t. number_bytes 1 s.sub ++ t) (append_assoc (number_bytes 4 (size_of s.width)) (number_bytes (size_of s.width) s.value) rest))

-- how many bytes the value has, as it is read
size_read : (w : Width) (rest : List ℕ) → width_of (number_in 4 (number_bytes 4 (size_of w) ++ rest)) ≡ Some w
size_read w rest = ap width_of (number_read 4 (size_of w) rest (small w)) ∙ again w
  where
    small : (w : Width) → size_of w < 256 ^ 4
    small One = omega arith
    small Two = omega arith
    small Four = omega arith

    again : (w : Width) → width_of (size_of w) ≡ Some w
    again One = refl
    again Two = refl
    again Four = refl

-- what is read of a setting, where its width is read
front_read : (n : ℕ) (width : Width) (bytes : List ℕ) → width_of (number_in 4 (drop 3 bytes)) ≡ Some width
    → settings_from (suc n) bytes ≡ option_map (λ rest. setting_from bytes width ∷ rest) (settings_from n (drop (size_of width) (drop 7 bytes)))
front_read n width bytes h = ap (option_and_then (λ width. option_map (λ rest. setting_from bytes width ∷ rest) (settings_from n (drop (size_of width) (drop 7 bytes))))) h

setting_read : (s : Setting) (rest : List ℕ) → IsWritable s → setting_from (entry_text s rest) s.width ≡ s
setting_read s rest w =
    let i : number_in 2 (entry_text s rest) ≡ s.index = number_read 2 s.index (number_bytes 1 s.sub ++ (number_bytes 4 (size_of s.width) ++ (number_bytes (size_of s.width) s.value ++ rest))) w.index in
    let u : number_in 1 (drop 2 (entry_text s rest)) ≡ s.sub = number_read 1 s.sub (number_bytes 4 (size_of s.width) ++ (number_bytes (size_of s.width) s.value ++ rest)) w.sub in
    let v : number_in (size_of s.width) (drop 7 (entry_text s rest)) ≡ s.value = number_read (size_of s.width) s.value rest w.value in
    ap (λ i. let read : Setting = record { index = i; sub = number_in 1 (drop 2 (entry_text s rest)); value = number_in (size_of s.width) (drop 7 (entry_text s rest)); width = s.width } in read) i
    ∙ ap (λ u. let read : Setting = record { index = s.index; sub = u; value = number_in (size_of s.width) (drop 7 (entry_text s rest)); width = s.width } in read) u
    ∙ ap (λ v. let read : Setting = record { index = s.index; sub = s.sub; value = v; width = s.width } in read) v

one_read : (n : ℕ) (s : Setting) (rest : List ℕ) → IsWritable s → settings_from (suc n) (entry_text s rest) ≡ option_map (λ rest. s ∷ rest) (settings_from n rest)
one_read n s rest w =
    front_read n s.width (entry_text s rest) (size_read s.width (number_bytes (size_of s.width) s.value ++ rest))
    ∙ ap (λ read. option_map (λ rest. read ∷ rest) (settings_from n (drop (size_of s.width) (drop 7 (entry_text s rest))))) (setting_read s rest w)
    ∙ ap (λ rest. option_map (λ rest. s ∷ rest) (settings_from n rest)) (behind (size_of s.width) s.value rest)

all_read : (settings : List Setting) → All IsWritable settings → settings_from (length settings) (flat_map entry_of settings) ≡ Some settings
all_read [] w = refl
all_read (s ∷ settings) w =
    ap (settings_from (suc (length settings))) (entry_split s (flat_map entry_of settings))
    ∙ one_read (length settings) s (flat_map entry_of settings) (All-head IsWritable s settings w)
    ∙ ap (option_map (λ rest. s ∷ rest)) (all_read settings (All-tail IsWritable s settings w))

pub read_again : (settings : List Setting) → All IsWritable settings → length settings < 4294967296 → settings_in (concise_of settings) ≡ Some settings
read_again settings w few =
    ap (λ n. settings_from n (drop 4 (concise_of settings))) (number_read 4 (length settings) (flat_map entry_of settings) few)
    ∙ ap (settings_from (length settings)) (behind 4 (length settings) (flat_map entry_of settings))
    ∙ all_read settings w

-- a byte before the bytes of what is left of a number
pub byte_more : (before first last : List ℕ) (n count : ℕ) → 0 < count → first ≡ before ++ n % 256 ∷ [] → last ≡ first ++ number_bytes (count - 1) (n / 256) → last ≡ before ++ number_bytes count n
byte_more before first last n zero some a b = absurd (omega arith)
byte_more before first last n (suc count) some a b =
    b ∙ ap (λ xs. xs ++ number_bytes (suc count - 1) (n / 256)) a ∙ append_assoc before (n % 256 ∷ []) (number_bytes (suc count - 1) (n / 256))
    ∙ ap (λ k. before ++ n % 256 ∷ number_bytes k (n / 256)) less
  where
    less : suc count - 1 ≡ count
    less = omega arith

pub none_more : (before : List ℕ) (n count : ℕ) → count ≡ 0 → before ≡ before ++ number_bytes count n
none_more before n count none = rw none (sym (append-nil before))
