-- Lines that are found by an index are the first that a walk over all lines finds.
use Rattle.std.proofs.Common.{◌≡◌, ℕ, zero, suc, ◌+◌, ◌-◌, ◌<◌, ◌≤◌, Bool, true, false, cond, ◌&&◌, List, [], ◌∷◌, length, take, get_or, slice_get, slice_index, Contains, Option, Some, None, IsSome, refl, sym, ap, subst, ◌∙◌, arith, ◌==◌, nat_lt, nat_le, ◌++◌, ◌⊎◌, inl, inr, ⊎_elim, is_some}
use Rattle.std.specs.List.{All, AllAdjacentBelow, list_any}
use Rattle.std.specs.List.Sorted.{IsSorted, IsNonDecreasingBy, IsPartitionedBy, IsPartitionPoint}
use Rattle.std.specs.Ordering.{MatchOrdering, nat_cmp, is_lt, is_eq, ordering_index, ordering_then}
use Rattle.std.specs.declared.cmp.Ordering.{Ordering}
use Rattle.std.specs.declared.cmp.Ordering.TheVariants.{Less, Equal, Greater}
use Rattle.std.specs.Cmp.{ranks, nat_cmp_total, then_total, on_total, IsTotalOrder}
use Rattle.std.specs.Cmp.Lexicographic.{slice_cmp, lists_total}
use Rattle.std.specs.Str.{str_to_ascii_lowercase, bytes_eq}
use Rattle.std.proofs.lemmas.Map.Text.{is_eq-slice_cmp}
use Rattle.std.proofs.lemmas.Slice.Eq.{bytes_eq-Decides}
use Rattle.std.proofs.lemmas.Cmp.{tied_itself}
use Rattle.std.proofs.lemmas.Option.{slice_get-get_or}
use Rattle.std.proofs.lemmas.List.Sorted.{sorted_far, searchable_from_sorted, ranks_by}
use Rattle.std.proofs.lemmas.List.Elements.{All-append, Contains-append_left, Contains-append_right}
use Rattle.std.proofs.lemmas.Bool.Decides.{nat_tests}
use Rattle.cop_eds.specs.declared.fault.Rule.{Rule}
use Rattle.cop_eds.specs.declared.fault.Rule.TheVariants as rules
use Rattle.cop_eds.specs.declared.line.Kind.{Kind}
use Rattle.cop_eds.specs.declared.line.Kind.TheVariants.{Other, Header, Pair}
use Rattle.cop_eds.specs.declared.line.Line.{Line}
use Rattle.cop_eds.specs.declared.entry.Entry.{Entry}
use Rattle.cop_eds.specs.Text.{name_of, key_of}
use Rattle.cop_eds.specs.Names.{code_of}
use Rattle.cop_eds.specs.Lines.{first_from, text_of, is_kind, is_named, is_keyed, broken, broken_by_kind}
use Rattle.cop_eds.proofs.KeyLemmas.{any_named, any_keyed}
use Rattle.cop_eds.proofs.ListLemmas.{get_or_same, all_one_by, some_is}
use Rattle.cop_eds.specs.Index.{line_key, named_key, header_key, pair_key, of_kind, has_key, is_found_by, sort_key, is_below, entry_cmp, IsEntry, IsIndex}

-- a walk over the lines

pub first_none : (n : ℕ) (test : Line → Bool) (xs : List Line) → ((p : ℕ) (x : Line) → slice_get xs p ≡ Some x → test x ≡ false) → first_from n test xs ≡ None
first_none n test [] h = refl
first_none n test (x ∷ xs) h =
    let here : test x ≡ false = h 0 x refl in
    rw here (first_none (n + 1) test xs (λ p y e. h (suc p) y e))

pub first_some : (n : ℕ) (test : Line → Bool) (xs : List Line) (p : ℕ) (x : Line) → slice_get xs p ≡ Some x → test x ≡ true
    → ((q : ℕ) (y : Line) → q < p → slice_get xs q ≡ Some y → test y ≡ false) → first_from n test xs ≡ Some (n + p, x)
first_some n test [] p x e t h = cc
first_some n test (y ∷ ys) zero x e t h =
    let same : y ≡ x = cc in
    let here : test y ≡ true = ap test same ∙ t in
    let number : n ≡ n + 0 = omega arith in
    rw here (ap (λ m. Some (m, y)) number ∙ ap (λ z. Some (n + 0, z)) same)
first_some n test (y ∷ ys) (suc p) x e t h =
    let here : test y ≡ false = h 0 y (omega arith) refl in
    let number : n + 1 + p ≡ n + suc p = omega arith in
    rw here (first_some (n + 1) test ys p x e t (λ q z lt k. h (suc q) z (omega arith) k) ∙ ap (λ m. Some (m, x)) number)

abbrev first_number : Option (ℕ × Line) → ℕ
first_number None = 0
first_number (Some found) = found.0

first_ge_by : (b : Bool) (n m : ℕ) (test : Line → Bool) (y : Line) (ys : List Line) (l : Line) → test y ≡ b → first_from n test (y ∷ ys) ≡ Some (m, l)
    → (first_from (n + 1) test ys ≡ Some (m, l) → n + 1 ≤ m) → n ≤ m
first_ge_by true n m test y ys l here e later =
    let number : first_number (first_from n test (y ∷ ys)) ≡ m = ap first_number e in
    let same : n ≡ m = rw here at number in
    omega arith
first_ge_by false n m test y ys l here e later =
    let rest : first_from (n + 1) test ys ≡ Some (m, l) = rw here at e in
    let le : n + 1 ≤ m = later rest in
    omega arith

first_ge : (n m : ℕ) (test : Line → Bool) (xs : List Line) (l : Line) → first_from n test xs ≡ Some (m, l) → n ≤ m
first_ge n m test [] l e = cc
first_ge n m test (y ∷ ys) l e = first_ge_by (test y) n m test y ys l refl e (λ h. first_ge (n + 1) m test ys l h)

-- an earlier line passes exactly where the first that passes is earlier
earlier_by : (b : Bool) (n p m : ℕ) (test : Line → Bool) (y : Line) (ys : List Line) (l : Line) → test y ≡ b
    → first_from n test (y ∷ ys) ≡ Some (m, l)
    → (first_from (n + 1) test ys ≡ Some (m, l) → list_any test (take p ys) ≡ nat_lt m (n + 1 + p))
    → list_any test (take (suc p) (y ∷ ys)) ≡ nat_lt m (n + suc p)
earlier_by true n p m test y ys l here e later =
    let number : first_number (first_from n test (y ∷ ys)) ≡ m = ap first_number e in
    let same : n ≡ m = rw here at number in
    let lt : nat_lt m (n + suc p) ≡ true = grind (arith, nat_tests) in
    rw here (sym lt)
earlier_by false n p m test y ys l here e later =
    let rest : first_from (n + 1) test ys ≡ Some (m, l) = rw here at e in
    let number : n + 1 + p ≡ n + suc p = omega arith in
    rw here (later rest ∙ ap (nat_lt m) number)

pub first_earlier : (n p m : ℕ) (test : Line → Bool) (xs : List Line) (l : Line) → first_from n test xs ≡ Some (m, l)
    → list_any test (take p xs) ≡ nat_lt m (n + p)
first_earlier n p m test [] l f = cc
first_earlier n zero m test (y ∷ ys) l f =
    let ge : n ≤ m = first_ge n m test (y ∷ ys) l f in
    let lt : nat_lt m (n + 0) ≡ false = grind (arith, nat_tests) in
    sym lt
first_earlier n (suc p) m test (y ∷ ys) l f =
    earlier_by (test y) n p m test y ys l refl f (λ k. first_earlier (n + 1) p m test ys l k)

pub earlier_found : (p m : ℕ) (test : Line → Bool) (xs : List Line) (l : Line) → Some (m, l) ≡ first_from 1 test xs
    → list_any test (take p xs) ≡ nat_le m p
earlier_found p m test xs l e =
    let same : nat_lt m (1 + p) ≡ nat_le m p = grind (arith, nat_tests) in
    first_earlier 1 p m test xs l (sym e) ∙ same

none_by : (b : Bool) (n p : ℕ) (test : Line → Bool) (y : Line) (ys : List Line) → test y ≡ b → first_from n test (y ∷ ys) ≡ None
    → (first_from (n + 1) test ys ≡ None → list_any test (take p ys) ≡ false) → list_any test (take (suc p) (y ∷ ys)) ≡ false
none_by true n p test y ys here e later = let f : (let found : Option (ℕ × Line) = Some (n, y) in found) ≡ None = rw here at e in cc
none_by false n p test y ys here e later = let rest : first_from (n + 1) test ys ≡ None = rw here at e in rw here (later rest)

none_earlier : (n p : ℕ) (test : Line → Bool) (xs : List Line) → first_from n test xs ≡ None → list_any test (take p xs) ≡ false
none_earlier n zero test xs e = refl
none_earlier n (suc p) test [] e = refl
none_earlier n (suc p) test (y ∷ ys) e = none_by (test y) n p test y ys refl e (λ k. none_earlier (n + 1) p test ys k)

pub none_found : (p : ℕ) (test : Line → Bool) (xs : List Line) → None ≡ first_from 1 test xs → list_any test (take p xs) ≡ false
none_found p test xs e = none_earlier 1 p test xs (sym e)

some_by : (b : Bool) (n : ℕ) (test : Line → Bool) (y : Line) (ys : List Line) → test y ≡ b
    → (b ≡ false → is_some (first_from (n + 1) test ys) ≡ true) → is_some (first_from n test (y ∷ ys)) ≡ true
some_by true n test y ys here later = rw here refl
some_by false n test y ys here later = rw here (later refl)

-- where a line passes there is a first
pub some_first : (n : ℕ) (test : Line → Bool) (xs : List Line) (p : ℕ) (x : Line) → slice_get xs p ≡ Some x → test x ≡ true → is_some (first_from n test xs) ≡ true
some_first n test [] p x e t = cc
some_first n test (y ∷ ys) zero x e t =
    let same : y ≡ x = cc in
    let here : test y ≡ true = ap test same ∙ t in
    rw here refl
some_first n test (y ∷ ys) (suc p) x e t = some_by (test y) n test y ys refl (λ h. some_first (n + 1) test ys p x e t)

-- the order of the entries

lt_then : (a b : Ordering) → is_lt (ordering_then a b) ≡ false → is_lt a ≡ false
lt_then Less b e = e
lt_then Equal b e = refl
lt_then Greater b e = refl

abbrev rank : List ℕ → Entry → ℕ
rank key entry = ordering_index (slice_cmp nat_cmp (sort_key entry) key)

rank_below : (o : Ordering) → is_lt o ≡ true → ordering_index o ≡ 0
rank_below Less e = refl
rank_below Equal e = cc
rank_below Greater e = cc

below_rank : (o : Ordering) → ordering_index o ≤ 0 → is_lt o ≡ true
below_rank Less h = refl
below_rank Equal h = absurd (omega arith)
below_rank Greater h = absurd (omega arith)

rank_above : (o : Ordering) → is_lt o ≡ false → 1 ≤ ordering_index o
rank_above Less e = cc
rank_above Equal e = omega arith
rank_above Greater e = omega arith

rank_same : (o : Ordering) → ordering_index o ≡ 1 → is_eq o ≡ true
rank_same Less e = absurd (omega arith)
rank_same Equal e = refl
rank_same Greater e = absurd (omega arith)

rises : (key : List ℕ) (xs : List Entry) → IsSorted entry_cmp xs → IsNonDecreasingBy (rank key) xs
rises key xs h =
    searchable_from_sorted {R = slice_cmp nat_cmp} (lists_total nat_cmp_total) sort_key xs key (λ k d low high. lt_then _ _ (h k d low high))

pub partitioned : (key : List ℕ) (xs : List Entry) → IsSorted entry_cmp xs → IsPartitionedBy (is_below key) xs
partitioned key xs h i j d le lt e =
    let up : rank key (get_or xs i d) ≤ rank key (get_or xs j d) = rises key xs h i j d le lt in
    let low : rank key (get_or xs j d) ≡ 0 = rank_below (slice_cmp nat_cmp (sort_key (get_or xs j d)) key) e in
    below_rank (slice_cmp nat_cmp (sort_key (get_or xs i d)) key) (omega arith)

-- what an index says of its lines

entry_total : IsTotalOrder entry_cmp
entry_total = then_total (on_total sort_key (lists_total nat_cmp_total)) (on_total (λ entry. entry.line) nat_cmp_total)

not_lt : (x y : ℕ) → is_lt (nat_cmp x y) ≡ false → y ≤ x
not_lt x y e = grind (arith, nat_tests)

same_key : (xs ys : List ℕ) → is_eq (slice_cmp nat_cmp xs ys) ≡ true → xs ≡ ys
same_key xs ys e = (bytes_eq-Decides xs ys).0 (sym (is_eq-slice_cmp xs ys) ∙ e)

pub some_key : (o : Option (List ℕ)) (key : List ℕ) → has_key o key ≡ true → IsSome o
some_key None key e = cc
some_key (Some found) key e = refl

-- an entry of this key and line
record Match (entries : List Entry) (key : List ℕ) (number : ℕ) : Type 0 where
  entry : Entry
  at : ℕ
  below : at < length entries
  stands : get_or entries at entry ≡ entry
  line : entry.line ≡ number
  same : sort_key entry ≡ key

entry_match : (text : List ℕ) (lines : List Line) (entries : List Entry) (key : List ℕ) → IsIndex text lines entries
    → (p : ℕ) (line : Line) → slice_get lines p ≡ Some line → is_found_by text key line ≡ true → Match entries key (p + 1)
entry_match text lines entries key index p line at_p found =
    let some = index.complete p line at_p (some_key (line_key text line) key found) in
    let entry = some.0 in
    let at = some.1.0 in
    let stands : get_or entries at entry ≡ entry = some.1.2 in
    let sound : IsEntry text lines (get_or entries at entry) = index.sound at entry some.1.1 in
    let own : IsEntry text lines entry = subst (IsEntry text lines) stands sound in
    let place : entry.line - 1 ≡ p = omega (arith, some.2) in
    let same : own.1.0 ≡ line = some_is (sym own.1.1 ∙ ap (slice_get lines) place ∙ at_p) in
    let its_key : line_key text line ≡ Some (sort_key entry) = ap (line_key text) (sym same) ∙ own.1.2 in
    let equal : bytes_eq (sort_key entry) key ≡ true = sym (ap (λ o. has_key o key) its_key) ∙ found in
    record { entry = entry; at = at; below = some.1.1; stands = stands; line = some.2; same = (bytes_eq-Decides (sort_key entry) key).0 equal }

rank_key : (key : List ℕ) (entry : Entry) → sort_key entry ≡ key → rank key entry ≡ 1
rank_key key entry e = ap (λ k. ordering_index (slice_cmp nat_cmp k key)) e ∙ ap ordering_index (tied_itself (lists_total nat_cmp_total) key)

abbrev pub Parts : List ℕ → List Entry → ℕ → Type 0
Parts key entries i = IsPartitionPoint (λ e. is_below key e ≡ true) (λ e. is_below key e ≡ false) entries i

-- a match stands at the partition's place or after it
not_before : (entries : List Entry) (key : List ℕ) (i number : ℕ) → Parts key entries i → (m : Match entries key number) → m.at < i → ⊥
not_before entries key i number parts m lt =
    let below : is_below key (get_or entries m.at m.entry) ≡ true = parts.0 m.at m.entry (omega arith) lt in
    let low : rank key (get_or entries m.at m.entry) ≡ 0 = rank_below (slice_cmp nat_cmp (sort_key (get_or entries m.at m.entry)) key) below in
    let one : rank key m.entry ≡ 1 = rank_key key m.entry m.same in
    let here : rank key (get_or entries m.at m.entry) ≡ rank key m.entry = ap (rank key) m.stands in
    omega arith

-- with a match there is an entry of the key at the partition's place
key_at : (entries : List Entry) (key : List ℕ) (i number : ℕ) → IsSorted entry_cmp entries → Parts key entries i → (m : Match entries key number)
    → i ≤ m.at → (d : Entry) → sort_key (get_or entries i d) ≡ key
key_at entries key i number sorted parts m le d =
    let up : rank key (get_or entries i d) ≤ rank key (get_or entries m.at d) = rises key entries sorted i m.at d le m.below in
    let same : get_or entries m.at d ≡ m.entry = get_or_same entries m.at m.entry d m.below ∙ m.stands in
    let one : rank key m.entry ≡ 1 = rank_key key m.entry m.same in
    let there : rank key (get_or entries m.at d) ≡ rank key m.entry = ap (rank key) same in
    let above : 1 ≤ rank key (get_or entries i d) = rank_above (slice_cmp nat_cmp (sort_key (get_or entries i d)) key) (parts.1 i d (omega arith) (omega (arith, m.below))) in
    same_key (sort_key (get_or entries i d)) key (rank_same (slice_cmp nat_cmp (sort_key (get_or entries i d)) key) (omega arith))

-- two entries of one key stand in the order of their lines
lines_rise : (entries : List Entry) (key : List ℕ) (i j : ℕ) (d : Entry) → IsSorted entry_cmp entries → i ≤ j → j < length entries
    → sort_key (get_or entries i d) ≡ key → sort_key (get_or entries j d) ≡ key → (get_or entries i d).line ≤ (get_or entries j d).line
lines_rise entries key i j d sorted le lt one two =
    let far : is_lt (entry_cmp (get_or entries j d) (get_or entries i d)) ≡ false = sorted_far (λ x y. is_lt (entry_cmp x y)) (ranks_by entry_total (λ x. x)) entries sorted i j d le lt in
    let equal : slice_cmp nat_cmp (sort_key (get_or entries j d)) (sort_key (get_or entries i d)) ≡ Equal =
    ap (λ k. slice_cmp nat_cmp k (sort_key (get_or entries i d))) two ∙ ap (slice_cmp nat_cmp key) one ∙ tied_itself (lists_total nat_cmp_total) key in
    let lines : is_lt (nat_cmp (get_or entries j d).line (get_or entries i d).line) ≡ false = rw equal at far in
    not_lt (get_or entries j d).line (get_or entries i d).line lines

not_less : (a b : ℕ) → (a < b → ⊥) → b ≤ a
not_less a b h = omega arith

pub by_test : (b : Bool) → (b ≡ true → ⊥) → b ≡ false
by_test true h = absurd (h refl)
by_test false h = refl

-- where the entry at the partition's place has the key, its line is the first that the key finds
pub found : (text : List ℕ) (lines : List Line) (entries : List Entry) (key : List ℕ) (i : ℕ) (d : Entry) (line : Line)
    → IsIndex text lines entries → Parts key entries i → i < length entries → sort_key (get_or entries i d) ≡ key
    → slice_get lines ((get_or entries i d).line - 1) ≡ Some line
    → first_from 1 (is_found_by text key) lines ≡ Some ((get_or entries i d).line, line)
found text lines entries key i d line index parts lt one at_line =
    let e = get_or entries i d in
    let own : IsEntry text lines e = index.sound i d lt in
    let same : own.1.0 ≡ line = some_is (sym own.1.1 ∙ at_line) in
    let its_key : line_key text line ≡ Some (sort_key e) = ap (line_key text) (sym same) ∙ own.1.2 in
    let passes : is_found_by text key line ≡ true = ap (λ o. has_key o key) its_key ∙ (bytes_eq-Decides (sort_key e) key).1 one in
    let number : 1 + (e.line - 1) ≡ e.line = omega arith in
    let earlier : (q : ℕ) (y : Line) → q < e.line - 1 → slice_get lines q ≡ Some y → is_found_by text key y ≡ false =
    λ q y less at_q. by_test (is_found_by text key y) (λ h.
    let m = entry_match text lines entries key index q y at_q h in
    let le : i ≤ m.at = not_less m.at i (not_before entries key i (q + 1) parts m) in
    let other : get_or entries m.at d ≡ m.entry = get_or_same entries m.at m.entry d m.below ∙ m.stands in
    let rise : e.line ≤ (get_or entries m.at d).line = lines_rise entries key i m.at d index.sorted le m.below one (ap sort_key other ∙ m.same) in
    let its_line : (get_or entries m.at d).line ≡ q + 1 = ap (λ (x : Entry). x.line) other ∙ m.line in
    absurd (omega arith)) in
    first_some 1 (is_found_by text key) lines (e.line - 1) line at_line passes earlier ∙ ap (λ n. Some (n, line)) number

-- where it has another key, or there is none, no line is found by the key
pub not_found : (text : List ℕ) (lines : List Line) (entries : List Entry) (key : List ℕ) (i : ℕ)
    → IsIndex text lines entries → Parts key entries i → ((d : Entry) → i < length entries → sort_key (get_or entries i d) ≡ key → ⊥)
    → first_from 1 (is_found_by text key) lines ≡ None
not_found text lines entries key i index parts other =
    first_none 1 (is_found_by text key) lines (λ q y at_q. by_test (is_found_by text key y) (λ h.
    let m = entry_match text lines entries key index q y at_q h in
    let le : i ≤ m.at = not_less m.at i (not_before entries key i (q + 1) parts m) in
    other m.entry (omega (arith, m.below)) (key_at entries key i (q + 1) index.sorted parts m le m.entry)))

pub slice_get_below : {X : Type 0} (xs : List X) (i : ℕ) (x : X) → slice_get xs i ≡ Some x → i < length xs
slice_get_below [] i x e = cc
slice_get_below (y ∷ ys) zero x e = omega arith
slice_get_below (y ∷ ys) (suc i) x e = omega (arith, slice_get_below ys i x e)

-- an entry's line is one of the lines
pub line_within : (text : List ℕ) (lines : List Line) (entries : List Entry) (i : ℕ) (d : Entry) → IsIndex text lines entries → i < length entries
    → (1 ≤ (get_or entries i d).line) × ((get_or entries i d).line ≤ length lines)
line_within text lines entries i d index lt =
    let own : IsEntry text lines (get_or entries i d) = index.sound i d lt in
    (own.0, omega (arith, slice_get_below lines ((get_or entries i d).line - 1) own.1.0 own.1.1))

-- the entries of the lines so far

-- the lines of a kind that are found by a name
abbrev is_wanted : List ℕ → Kind → Line → Bool
is_wanted text kind line = is_kind line.kind kind && is_some (line_key text line)

abbrev AreComplete : {X : Type 0} → (X → ℕ) → List ℕ → Kind → List Line → List X → ℕ → Type 0
AreComplete {X} line_of text kind lines xs n =
    (place : ℕ) (line : Line) → place < n → slice_get lines place ≡ Some line → is_wanted text kind line ≡ true
    → (x : X) × Contains xs x × (line_of x ≡ place + 1)

false_true : false ≡ true → ⊥
false_true e = cc

no_key : (o : Option (List ℕ)) → o ≡ None → IsSome o → ⊥
no_key o e some = false_true (sym (ap is_some e) ∙ some)

by_last : (b : Bool) (place i : ℕ) → nat_lt place i ≡ b → place < i + 1 → (place < i) ⊎ (place ≡ i)
by_last true place i e lt = inl (grind (arith, nat_tests))
by_last false place i e lt = let le : i ≤ place = grind (arith, nat_tests) in inr (omega arith)

pub at_last : (place i : ℕ) → place < i + 1 → (place < i) ⊎ (place ≡ i)
at_last place i lt = by_last (nat_lt place i) place i refl lt

pub complete_push : {X : Type 0} (line_of : X → ℕ) (text : List ℕ) (kind : Kind) (lines : List Line) (xs : List X) (i : ℕ) (x : X) → line_of x ≡ i + 1
    → AreComplete line_of text kind lines xs i → AreComplete line_of text kind lines (xs ++ x ∷ []) (i + 1)
complete_push line_of text kind lines xs i x number so_far place line lt at some =
    ⊎_elim (λ before. let y = so_far place line before at some in (y.0, Contains-append_left xs (x ∷ []) y.0 y.1, y.2))
    (λ same. (x, Contains-append_right xs (x ∷ []) x (0, omega arith, refl), number ∙ ap (λ n. n + 1) (sym same))) (at_last place i lt)

pub kept_push : {X : Type 0} (old xs : List X) (x : X) → ((y : X) → Contains old y → Contains xs y)
    → (y : X) → Contains old y → Contains (xs ++ x ∷ []) y
kept_push old xs x so_far y c = Contains-append_left xs (x ∷ []) y (so_far y c)

wanted_by : (kind : Kind) (b : Bool) → b ≡ true → ((is_kind kind Header && b) ≡ true) ⊎ (((is_kind kind Pair && b) ≡ true) ⊎ (kind ≡ Other))
wanted_by Other b e = inr (inr refl)
wanted_by Header b e = inl e
wanted_by Pair b e = inr (inl e)

-- headers and pairs are all that is found by a name
pub complete_both : {X : Type 0} (line_of : X → ℕ) (text : List ℕ) (lines : List Line) (xs : List X)
    → AreComplete line_of text Header lines xs (length lines) → AreComplete line_of text Pair lines xs (length lines)
    → (place : ℕ) (line : Line) → slice_get lines place ≡ Some line → IsSome (line_key text line)
    → (x : X) × Contains xs x × (line_of x ≡ place + 1)
complete_both line_of text lines xs headers pairs place line at some =
    let lt : place < length lines = slice_get_below lines place line at in
    ⊎_elim (λ h. headers place line lt at h)
    (λ rest. ⊎_elim (λ p. pairs place line lt at p)
    (λ other.
    let none : line_key text line ≡ None = ap (λ k. of_kind k (header_key (name_of (text_of text line))) (pair_key line.section (key_of (text_of text line)))) other in
    absurd (no_key (line_key text line) none some)) rest)
    (wanted_by line.kind (is_some (line_key text line)) some)

pub complete_kept : {X : Type 0} (line_of : X → ℕ) (text : List ℕ) (kind : Kind) (lines : List Line) (old xs : List X) (n : ℕ)
    → ((x : X) → Contains old x → Contains xs x) → AreComplete line_of text kind lines old n → AreComplete line_of text kind lines xs n
complete_kept line_of text kind lines old xs n kept complete place line lt at some =
    let x = complete place line lt at some in
    (x.0, kept x.0 x.1, x.2)

pub sound_push : (text : List ℕ) (lines : List Line) (entries : List Entry) (i : ℕ) (d : Line) (e : Entry) → i < length lines → e.line ≡ i + 1
    → line_key text (get_or lines i d) ≡ Some (sort_key e) → All (IsEntry text lines) entries → All (IsEntry text lines) (entries ++ e ∷ [])
sound_push text lines entries i d e lt number key so_far =
    let place : i ≡ e.line - 1 = omega arith in
    let at : slice_get lines (e.line - 1) ≡ Some (get_or lines i d) = ap (slice_get lines) (sym place) ∙ slice_get-get_or lines i d lt in
    let own : IsEntry text lines e = (omega arith, (get_or lines i d, at, key)) in
    All-append (IsEntry text lines) entries (e ∷ []) so_far (all_one_by (IsEntry text lines) e own)

pub key_differs : (entries : List Entry) (i : ℕ) (e : Entry) (key : List ℕ) → bytes_eq (sort_key (get_or entries i e)) key ≡ false
    → (d : Entry) → i < length entries → sort_key (get_or entries i d) ≡ key → ⊥
key_differs entries i e key differs d lt same =
    let equal : bytes_eq (sort_key (get_or entries i e)) key ≡ true =
    (bytes_eq-Decides (sort_key (get_or entries i e)) key).1 (ap sort_key (get_or_same entries i d e lt) ∙ same) in
    let none : false ≡ true = sym differs ∙ equal in
    cc

pub found_at : (text : List ℕ) (lines : List Line) (entries : List Entry) (key : List ℕ) (i : ℕ) (e : Entry) (d : Line)
    → IsIndex text lines entries → Parts key entries i → i < length entries → bytes_eq (sort_key (get_or entries i e)) key ≡ true
    → first_from 1 (is_found_by text key) lines ≡ Some ((get_or entries i e).line, get_or lines ((get_or entries i e).line - 1) d)
found_at text lines entries key i e d index parts lt same =
    let within = line_within text lines entries i e index lt in
    let number : (get_or entries i e).line - 1 < length lines = omega (arith, within.0, within.1) in
    found text lines entries key i e (get_or lines ((get_or entries i e).line - 1) d) index parts lt
    ((bytes_eq-Decides (sort_key (get_or entries i e)) key).0 same) (slice_get-get_or lines ((get_or entries i e).line - 1) d number)

-- an index without neighbours of one key

abbrev pub Apart : List Entry → Type 0
Apart entries = AllAdjacentBelow (λ x y. bytes_eq (sort_key x) (sort_key y) ≡ false) entries (length entries)

-- then no two entries have one key
never_both : (entries : List Entry) (key : List ℕ) (m n : ℕ) → IsSorted entry_cmp entries → Apart entries
    → (a : Match entries key m) → (b : Match entries key n) → a.at < b.at → ⊥
never_both entries key m n sorted apart a b lt =
    let d = a.entry in
    let here : get_or entries a.at d ≡ a.entry = a.stands in
    let there : get_or entries b.at d ≡ b.entry = get_or_same entries b.at b.entry d b.below ∙ b.stands in
    let first : rank key (get_or entries a.at d) ≡ 1 = ap (rank key) here ∙ rank_key key a.entry a.same in
    let last : rank key (get_or entries b.at d) ≡ 1 = ap (rank key) there ∙ rank_key key b.entry b.same in
    let up : rank key (get_or entries a.at d) ≤ rank key (get_or entries (a.at + 1) d) = rises key entries sorted a.at (a.at + 1) d (omega arith) (omega (arith, b.below)) in
    let down : rank key (get_or entries (a.at + 1) d) ≤ rank key (get_or entries b.at d) = rises key entries sorted (a.at + 1) b.at d (omega arith) b.below in
    let next : sort_key (get_or entries (a.at + 1) d) ≡ key = same_key (sort_key (get_or entries (a.at + 1) d)) key (rank_same (slice_cmp nat_cmp (sort_key (get_or entries (a.at + 1) d)) key) (omega arith)) in
    let own : sort_key (get_or entries a.at d) ≡ key = ap sort_key here ∙ a.same in
    let differ : bytes_eq (sort_key (get_or entries a.at d)) (sort_key (get_or entries (a.at + 1) d)) ≡ false = apart a.at d (omega (arith, b.below)) in
    let equal : bytes_eq (sort_key (get_or entries a.at d)) (sort_key (get_or entries (a.at + 1) d)) ≡ true = (bytes_eq-Decides _ _).1 (own ∙ sym next) in
    let none : false ≡ true = sym differ ∙ equal in
    cc

one_place : (entries : List Entry) (key : List ℕ) (m n : ℕ) → IsSorted entry_cmp entries → Apart entries
    → (a : Match entries key m) → (b : Match entries key n) → m ≡ n
one_place entries key m n sorted apart a b =
    let le : b.at ≤ a.at = not_less a.at b.at (never_both entries key m n sorted apart a b) in
    let ge : a.at ≤ b.at = not_less b.at a.at (never_both entries key n m sorted apart b a) in
    let same : a.at ≡ b.at = omega arith in
    let entry : a.entry ≡ b.entry = sym a.stands ∙ ap (λ i. get_or entries i a.entry) same ∙ get_or_same entries b.at b.entry a.entry b.below ∙ b.stands in
    sym a.line ∙ ap (λ (x : Entry). x.line) entry ∙ b.line

-- where no earlier line passes, none of those before the place does
pub none_so_far : (test : Line → Bool) (lines : List Line) (p : ℕ) (x : Line) → slice_get lines p ≡ Some x → test x ≡ true
    → ((q : ℕ) (y : Line) → q < p → slice_get lines q ≡ Some y → test y ≡ false) → list_any test (take p lines) ≡ false
none_so_far test lines p x at passes earlier =
    let first : first_from 1 test lines ≡ Some (1 + p, x) = first_some 1 test lines p x at passes earlier in
    let late : nat_lt (1 + p) (1 + p) ≡ false = grind (arith, nat_tests) in
    first_earlier 1 p (1 + p) test lines x first ∙ late

none_before : (text : List ℕ) (lines : List Line) (entries : List Entry) (key : List ℕ) (p : ℕ) (x : Line) → IsIndex text lines entries → Apart entries
    → slice_get lines p ≡ Some x → is_found_by text key x ≡ true → list_any (is_found_by text key) (take p lines) ≡ false
none_before text lines entries key p x index apart at passes =
    let b = entry_match text lines entries key index p x at passes in
    none_so_far (is_found_by text key) lines p x at passes (λ q y less at_q. by_test (is_found_by text key y) (λ h.
    let a = entry_match text lines entries key index q y at_q h in
    let same : q + 1 ≡ p + 1 = one_place entries key (q + 1) (p + 1) index.sorted apart a b in
    absurd (omega arith)))

if_false : {A : Type 0} (b : Bool) (x y : A) → b ≡ false → cond b x y ≡ y
if_false true x y e = cc
if_false false x y e = refl

-- no earlier line is found by what finds this one
abbrev pub IsFirst : List ℕ → List Line → ℕ → Line → Type 0
IsFirst text lines p x = (key : List ℕ) → is_found_by text key x ≡ true → list_any (is_found_by text key) (take p lines) ≡ false

alone_by : (kind : Kind) (text : List ℕ) (lines : List Line) (p : ℕ) (x : Line) → IsFirst text lines p x
    → x.kind ≡ kind → broken_by_kind kind text (take p lines) x ≡ broken_by_kind kind text [] x
alone_by Other text lines p x first kind = refl
alone_by Header text lines p x first kind =
    let name = name_of (text_of text x) in
    let key : line_key text x ≡ Some (header_key name) = ap (λ k. of_kind k (header_key name) (pair_key x.section (key_of (text_of text x)))) kind in
    let passes : is_found_by text (header_key name) x ≡ true = ap (λ o. has_key o (header_key name)) key ∙ (bytes_eq-Decides (header_key name) (header_key name)).1 refl in
    let none : list_any (is_named text name) (take p lines) ≡ false = any_named text name (take p lines) ∙ first (header_key name) passes in
    if_false (list_any (is_named text name) (take p lines)) _ _ none
alone_by Pair text lines p x first kind =
    let name = key_of (text_of text x) in
    let key : line_key text x ≡ Some (pair_key x.section name) = ap (λ k. of_kind k (header_key (name_of (text_of text x))) (pair_key x.section name)) kind in
    let passes : is_found_by text (pair_key x.section name) x ≡ true = ap (λ o. has_key o (pair_key x.section name)) key ∙ (bytes_eq-Decides (pair_key x.section name) (pair_key x.section name)).1 refl in
    let none : list_any (is_keyed text x.section name) (take p lines) ≡ false = any_keyed text x.section name (take p lines) ∙ first (pair_key x.section name) passes in
    ap (λ (o : Option Rule). cond (x.section == 0) (Some rules.Line) o) (if_false (list_any (is_keyed text x.section name) (take p lines)) _ _ none)

-- then the line breaks a rule after the earlier ones exactly where it does alone
pub alone_first : (text : List ℕ) (lines : List Line) (p : ℕ) (x : Line) → IsFirst text lines p x → broken text (take p lines) x ≡ broken text [] x
alone_first text lines p x first = alone_by x.kind text lines p x first refl

-- so do all lines where no two neighbours of the index have one key
pub alone : (text : List ℕ) (lines : List Line) (entries : List Entry) (p : ℕ) (x : Line) → IsIndex text lines entries → Apart entries
    → slice_get lines p ≡ Some x → broken text (take p lines) x ≡ broken text [] x
alone text lines entries p x index apart at = alone_first text lines p x (λ key passes. none_before text lines entries key p x index apart at passes)

-- the objects' sections, by rising numbers

abbrev pub coded_key : ℕ → List ℕ
coded_key code = 0 ∷ code ∷ []

not_lt_empty : (xs : List ℕ) → is_lt (slice_cmp nat_cmp xs []) ≡ false
not_lt_empty [] = refl
not_lt_empty (x ∷ xs) = refl

-- numbers that lead in an order
leads_by : (r : Ordering) (g : ℕ) (rest : Ordering) → MatchOrdering r (g < 0) (g ≡ 0) (0 < g) → ordering_index (ordering_then r rest) ≤ 1
    → (g ≡ 0) × (ordering_index rest ≤ 1)
leads_by Less g rest m h = absurd (omega arith)
leads_by Equal g rest m h = (m, h)
leads_by Greater g rest m h = absurd (omega arith)

leads_next : (r : Ordering) (e c : ℕ) (rest : Ordering) → MatchOrdering r (e < c) (e ≡ c) (c < e) → ordering_index (ordering_then r rest) ≤ 1 → e ≤ c
leads_next Less e c rest m h = omega arith
leads_next Equal e c rest m h = omega arith
leads_next Greater e c rest m h = absurd (omega arith)

low_rank : (code : ℕ) (entry : Entry) → rank (coded_key code) entry ≤ 1 → (entry.group ≡ 0) × (entry.code ≤ code)
low_rank code entry h =
    let first = leads_by (nat_cmp entry.group 0) entry.group _ (ranks entry.group 0) h in
    (first.0, leads_next (nat_cmp entry.code code) entry.code code _ (ranks entry.code code) first.1)

below_by : (r : Ordering) (g : ℕ) (rest : Ordering) → MatchOrdering r (g < 0) (g ≡ 0) (0 < g) → is_lt (ordering_then r rest) ≡ true → is_lt rest ≡ true
below_by Less g rest m h = absurd (omega arith)
below_by Equal g rest m h = h
below_by Greater g rest m h = cc

below_next : (r : Ordering) (e c : ℕ) (rest : Ordering) → MatchOrdering r (e < c) (e ≡ c) (c < e) → is_lt rest ≡ false → is_lt (ordering_then r rest) ≡ true → e < c
below_next Less e c rest m none h = m
below_next Equal e c rest m none h = absurd (false_true (sym none ∙ h))
below_next Greater e c rest m none h = cc

below_code : (code : ℕ) (entry : Entry) → is_below (coded_key code) entry ≡ true → entry.code < code
below_code code entry h =
    let rest : is_lt (ordering_then (nat_cmp entry.code code) (slice_cmp nat_cmp (str_to_ascii_lowercase entry.name.now) [])) ≡ true =
    below_by (nat_cmp entry.group 0) entry.group _ (ranks entry.group 0) h in
    below_next (nat_cmp entry.code code) entry.code code _ (ranks entry.code code) (not_lt_empty (str_to_ascii_lowercase entry.name.now)) rest

above_by : (r : Ordering) (e c : ℕ) (rest : Ordering) → MatchOrdering r (e < c) (e ≡ c) (c < e) → is_lt (ordering_then r rest) ≡ false → c ≤ e
above_by Less e c rest m h = cc
above_by Equal e c rest m h = omega arith
above_by Greater e c rest m h = omega arith

not_below_code : (code : ℕ) (entry : Entry) → entry.group ≡ 0 → is_below (coded_key code) entry ≡ false → code ≤ entry.code
not_below_code code entry own h =
    let first : nat_cmp entry.group 0 ≡ Equal = ap (λ g. nat_cmp g 0) own in
    let rest : is_lt (ordering_then (nat_cmp entry.code code) (slice_cmp nat_cmp (str_to_ascii_lowercase entry.name.now) [])) ≡ false = rw first at h in
    above_by (nat_cmp entry.code code) entry.code code _ (ranks entry.code code) rest

-- between the partition's place and the code of the entry that stands there no object has a section
pub gap : (text : List ℕ) (lines : List Line) (entries : List Entry) (code c i : ℕ) → IsIndex text lines entries → Parts (coded_key code) entries i
    → code ≤ c → ((d : Entry) → i < length entries → (get_or entries i d).group ≡ 0 → c < (get_or entries i d).code)
    → first_from 1 (is_found_by text (coded_key c)) lines ≡ None
gap text lines entries code c i index parts le beyond =
    first_none 1 (is_found_by text (coded_key c)) lines (λ q y at_q. by_test (is_found_by text (coded_key c) y) (λ h.
    let m = entry_match text lines entries (coded_key c) index q y at_q h in
    let its_code : m.entry.code ≡ c = ap (λ xs. slice_index xs 1) m.same in
    let after : i ≤ m.at = not_less m.at i (λ before.
    let low : is_below (coded_key code) (get_or entries m.at m.entry) ≡ true = parts.0 m.at m.entry (omega arith) before in
    let less : (get_or entries m.at m.entry).code < code = below_code code (get_or entries m.at m.entry) low in
    let same : (get_or entries m.at m.entry).code ≡ m.entry.code = ap (λ (x : Entry). x.code) m.stands in
    absurd (omega arith)) in
    let here : i < length entries = omega (arith, m.below) in
    let up : rank (coded_key c) (get_or entries i m.entry) ≤ rank (coded_key c) (get_or entries m.at m.entry) = rises (coded_key c) entries index.sorted i m.at m.entry after m.below in
    let one : rank (coded_key c) (get_or entries m.at m.entry) ≡ 1 = ap (rank (coded_key c)) m.stands ∙ rank_key (coded_key c) m.entry m.same in
    let low = low_rank c (get_or entries i m.entry) (omega arith) in
    let less : c < (get_or entries i m.entry).code = beyond m.entry here low.0 in
    absurd (omega (arith, low.1))))

zero_key : (kind : Kind) (m : Option ℕ) (a k : List ℕ) (s e : ℕ) (n : List ℕ) → of_kind kind (named_key m a) (pair_key s k) ≡ Some (0 ∷ e ∷ n) → n ≡ []
zero_key Other m a k s e n h = cc
zero_key Header (Some c) a k s e n h = cc
zero_key Header None a k s e n h = cc
zero_key Pair m a k s e n h = cc

-- an entry of an object's section is found by its code
pub found_code : (text : List ℕ) (lines : List Line) (entries : List Entry) (code i : ℕ) (d : Entry) → IsIndex text lines entries → Parts (coded_key code) entries i
    → i < length entries → (get_or entries i d).group ≡ 0
    → (code ≤ (get_or entries i d).code) × (is_some (first_from 1 (is_found_by text (coded_key (get_or entries i d).code)) lines) ≡ true)
found_code text lines entries code i d index parts lt own_group =
    let e = get_or entries i d in
    let not_below : is_below (coded_key code) e ≡ false = parts.1 i d (omega arith) lt in
    let le : code ≤ e.code = not_below_code code e own_group not_below in
    let own : IsEntry text lines e = index.sound i d lt in
    let line = own.1.0 in
    let name = str_to_ascii_lowercase e.name.now in
    let key : line_key text line ≡ Some (0 ∷ e.code ∷ name) = own.1.2 ∙ ap (λ g. Some (g ∷ e.code ∷ name)) own_group in
    let none : name ≡ [] = zero_key line.kind (code_of (name_of (text_of text line))) (name_of (text_of text line)) (key_of (text_of text line)) line.section e.code name key in
    let passes : is_found_by text (coded_key e.code) line ≡ true =
    ap (λ o. has_key o (coded_key e.code)) (key ∙ ap (λ n. Some (0 ∷ e.code ∷ n)) none) ∙ (bytes_eq-Decides (coded_key e.code) (coded_key e.code)).1 refl in
    (le, some_first 1 (is_found_by text (coded_key e.code)) lines (e.line - 1) line own.1.1 passes)

pub none_some : {A : Type 0} (o : Option A) → o ≡ None → is_some o ≡ true → ⊥
none_some None e s = cc
none_some (Some x) e s = cc

pub gap_at : (text : List ℕ) (lines : List Line) (entries : List Entry) (code c i : ℕ) (e : Entry) → IsIndex text lines entries → Parts (coded_key code) entries i
    → code ≤ c → ((get_or entries i e).group ≡ 0 → c < (get_or entries i e).code)
    → first_from 1 (is_found_by text (coded_key c)) lines ≡ None
gap_at text lines entries code c i e index parts le beyond =
    gap text lines entries code c i index parts le (λ d lt own.
    let same : get_or entries i d ≡ get_or entries i e = get_or_same entries i e d lt in
    let less : c < (get_or entries i e).code = beyond (sym (ap (λ (x : Entry). x.group) same) ∙ own) in
    let code : (get_or entries i d).code ≡ (get_or entries i e).code = ap (λ (x : Entry). x.code) same in
    omega arith)
