-- What a name, an object or a key finds is what its index key finds.
use Rattle.std.proofs.Common.{◌≡◌, ℕ, suc, ◌+◌, ◌<◌, Bool, true, false, IfSome, ◌≤◌, arith, ◌&&◌, List, [], ◌∷◌, Option, Some, None, refl, sym, ap, ◌∙◌, ◌==◌}
use Rattle.std.specs.List.{All, list_any}
use Rattle.std.proofs.Math.Bool.{and-true}
use Rattle.cop_eds.specs.declared.line.Kind.{Kind}
use Rattle.cop_eds.specs.declared.line.Kind.TheVariants.{Other, Header, Pair}
use Rattle.cop_eds.specs.declared.line.Line.{Line}
use Rattle.cop_eds.specs.Text.{same_name, name_of, key_of}
use Rattle.cop_eds.specs.Names.{code_of, same_names, same_section, has_code}
use Rattle.cop_eds.specs.Lines.{is_kind, text_of, lines_of, is_named, is_keyed, first_from, IsWithin}
use Rattle.std.specs.Option.{option_map}
use Rattle.cop_eds.specs.Sections.{is_coded, place_at, coded_place}
use Rattle.std.proofs.lemmas.Slice.Eq.{bytes_eq-Decides}
use Rattle.cop_eds.specs.Index.{line_key, named_key, header_key, pair_key, of_kind, has_key, is_found_by, IsNext}

flipped : (m n : ℕ) → (m == n) ≡ ((m == n) && true)
flipped m n = sym (and-true (m == n))

named_by : (kind : Kind) (m n : Option ℕ) (a b k : List ℕ) (s : ℕ)
    → (is_kind kind Header && same_names m n a b) ≡ has_key (of_kind kind (named_key m a) (pair_key s k)) (named_key n b)
named_by Other m n a b k s = refl
named_by Header (Some m) (Some n) a b k s = flipped m n
named_by Header (Some m) None a b k s = refl
named_by Header None (Some n) a b k s = refl
named_by Header None None a b k s = refl
named_by Pair m (Some n) a b k s = refl
named_by Pair m None a b k s = refl

coded_by : (kind : Kind) (m : Option ℕ) (code s : ℕ) (a k : List ℕ)
    → (is_kind kind Header && has_code m code) ≡ has_key (of_kind kind (named_key m a) (pair_key s k)) (0 ∷ code ∷ [])
coded_by Other m code s a k = refl
coded_by Header (Some m) code s a k = flipped m code
coded_by Header None code s a k = refl
coded_by Pair m code s a k = refl

keyed_by : (kind : Kind) (m : Option ℕ) (s t : ℕ) (a k key : List ℕ)
    → (is_kind kind Pair && (s == t) && same_name k key) ≡ has_key (of_kind kind (named_key m a) (pair_key s k)) (pair_key t key)
keyed_by Other m s t a k key = refl
keyed_by Header (Some m) s t a k key = refl
keyed_by Header None s t a k key = refl
keyed_by Pair m s t a k key = refl

pub first_named : (text name : List ℕ) (lines : List Line)
    → first_from 1 (is_found_by text (header_key name)) lines ≡ first_from 1 (is_named text name) lines
unfolding same_section
first_named text name lines = ap (λ test. first_from 1 test lines)
    (λ i line. sym (named_by line.kind (code_of (name_of (text_of text line))) (code_of name) (name_of (text_of text line)) name (key_of (text_of text line)) line.section) i)

pub first_coded : (text : List ℕ) (code : ℕ) (lines : List Line)
    → first_from 1 (is_found_by text (0 ∷ code ∷ [])) lines ≡ first_from 1 (is_coded text code) lines
first_coded text code lines = ap (λ test. first_from 1 test lines)
    (λ i line. sym (coded_by line.kind (code_of (name_of (text_of text line))) code line.section (name_of (text_of text line)) (key_of (text_of text line))) i)

pub first_keyed : (text : List ℕ) (section : ℕ) (key : List ℕ) (lines : List Line)
    → first_from 1 (is_found_by text (pair_key section key)) lines ≡ first_from 1 (is_keyed text section key) lines
first_keyed text section key lines = ap (λ test. first_from 1 test lines)
    (λ i line. sym (keyed_by line.kind (code_of (name_of (text_of text line))) line.section section (name_of (text_of text line)) (key_of (text_of text line)) key) i)

within_by : (b : Bool) (size n : ℕ) (test : Line → Bool) (x : Line) (xs : List Line) → test x ≡ b → IsWithin size x
    → IfSome (first_from (n + 1) test xs) (λ found. IsWithin size found.1) → IfSome (first_from n test (x ∷ xs)) (λ found. IsWithin size found.1)
within_by true size n test x xs e here later = rw e here
within_by false size n test x xs e here later = rw e later

-- the line that is found is one of the lines
pub first_within : (size n : ℕ) (test : Line → Bool) (xs : List Line) → All (IsWithin size) xs → IfSome (first_from n test xs) (λ found. IsWithin size found.1)
first_within size n test [] all = tt
first_within size n test (x ∷ xs) all =
    within_by (test x) size n test x xs refl (all 0 x (omega arith))
    (first_within size (n + 1) test xs (λ k d lt. all (suc k) d (omega arith)))

pub any_named : (text name : List ℕ) (lines : List Line) → list_any (is_named text name) lines ≡ list_any (is_found_by text (header_key name)) lines
unfolding same_section
any_named text name lines = ap (λ test. list_any test lines)
    (λ i line. named_by line.kind (code_of (name_of (text_of text line))) (code_of name) (name_of (text_of text line)) name (key_of (text_of text line)) line.section i)

pub any_keyed : (text : List ℕ) (section : ℕ) (key : List ℕ) (lines : List Line)
    → list_any (is_keyed text section key) lines ≡ list_any (is_found_by text (pair_key section key)) lines
any_keyed text section key lines = ap (λ test. list_any test lines)
    (λ i line. keyed_by line.kind (code_of (name_of (text_of text line))) line.section section (name_of (text_of text line)) (key_of (text_of text line)) key i)

coded_none : (text : List ℕ) (c : ℕ) → first_from 1 (is_found_by text (0 ∷ c ∷ [])) (lines_of text) ≡ None → coded_place text c ≡ None
coded_none text c e = ap (option_map place_at) (sym (first_coded text c (lines_of text)) ∙ e)

coded_some : (text : List ℕ) (c : ℕ) (found : ℕ × Line) → first_from 1 (is_found_by text (0 ∷ c ∷ [])) (lines_of text) ≡ Some found → coded_place text c ≡ Some (place_at found)
coded_some text c found e = ap (option_map place_at) (sym (first_coded text c (lines_of text)) ∙ e)

-- the next number of an object's section, among the lines and as a place
pub no_next : (text : List ℕ) (code : ℕ) → IsNext text (lines_of text) code None → (c : ℕ) → code ≤ c → coded_place text c ≡ None
no_next text code h c le = coded_none text c (h c le)

pub next_coded : (text : List ℕ) (code : ℕ) (next : ℕ × (ℕ × Line)) → IsNext text (lines_of text) code (Some next)
    → (code ≤ next.0) × (coded_place text next.0 ≡ Some (place_at next.1)) × ((c : ℕ) → code ≤ c → c < next.0 → coded_place text c ≡ None)
next_coded text code next h = (h.0, coded_some text next.0 next.1 h.1, λ c le lt. coded_none text c (h.2 c le lt))

-- a pair of this section and key is found by these
pub passes_here : (text : List ℕ) (line : Line) (section : ℕ) (key : List ℕ) → line.kind ≡ Pair → line.section ≡ section → key_of (text_of text line) ≡ key
    → is_found_by text (pair_key section key) line ≡ true
passes_here text line section key kind its_section its_key =
    let name = name_of (text_of text line) in
    let own : line_key text line ≡ Some (pair_key section key) =
    ap (λ k. of_kind k (header_key name) (pair_key line.section (key_of (text_of text line)))) kind
    ∙ ap (λ s. Some (pair_key s (key_of (text_of text line)))) its_section
    ∙ ap (λ k. Some (pair_key section k)) its_key in
    ap (λ o. has_key o (pair_key section key)) own ∙ (bytes_eq-Decides (pair_key section key) (pair_key section key)).1 refl

-- where an object's section begins, by the next that there is
pub is_next : (text : List ℕ) (code : ℕ) (next : ℕ × (ℕ × Line)) → IsNext text (lines_of text) code (Some next) → next.0 ≡ code
    → coded_place text code ≡ Some (place_at next.1)
is_next text code next h same = ap (coded_place text) (sym same) ∙ (next_coded text code next h).1

pub is_past : (text : List ℕ) (code : ℕ) (next : ℕ × (ℕ × Line)) → IsNext text (lines_of text) code (Some next) → (next.0 ≡ code → ⊥) → coded_place text code ≡ None
is_past text code next h other =
    let le : code ≤ next.0 = h.0 in
    (next_coded text code next h).2 code (omega arith) (omega (arith, le, other))
