-- Indexes in the order in which they were met, and by rising index.
use Rattle.std.proofs.Common.{◌≡◌, ℕ, zero, suc, ◌<◌, ◌≤◌, ◌+◌, ◌==◌, ◌||◌, Bool, true, false, cond, nat_lt, List, [], ◌∷◌, ◌++◌, length, get_or, fold, Contains, Option, Some, None, refl, sym, ap, subst, ◌∙◌, arith, eqb-true}
use Rattle.std.specs.List.{AllByRecursion}
use Rattle.std.specs.List.Sorted.{IsStrictlySortedBy}
use Rattle.std.specs.Ordering.{nat_cmp, eq_by_cmp, is_eq, match_ordering}
use Rattle.std.specs.declared.cmp.Ordering.{Ordering}
use Rattle.std.specs.declared.cmp.Ordering.TheVariants.{Less, Equal, Greater}
use Rattle.std.specs.Option.{is_some, IfSome}
use Rattle.std.specs.Map.{keys_of, lookup, update_all}
use Rattle.std.specs.Set.{is_member}
use Rattle.std.specs.BTreeMap.{BTreeMap, IsFromIterResult, is_at}
use Rattle.std.specs.BTreeSet.{insert_key}
use Rattle.std.proofs.lemmas.Bool.Decides.{nat_tests}
use Rattle.std.proofs.lemmas.Cmp.{tied_itself, nat_cmp_total, eq_by_cmp_equiv}
use Rattle.std.proofs.lemmas.Map.Keys.{below_from_sorted, sorted_tail}
use Rattle.std.proofs.lemmas.Map.Made.{is_some-lookup, is_some-update_all, IfSome-update_all_from_list}
use Rattle.cop_eds.specs.declared.found.Span.{Span}
use Rattle.cop_eds.specs.Objects.{rising}
use Rattle.cop_eds.proofs.OrderLemmas.{Increases, fold_increases}

-- a number is one of a list's
abbrev among : List ℕ → ℕ → Bool
among ks k = is_member (eq_by_cmp nat_cmp) ks k

itself : (k : ℕ) → eq_by_cmp nat_cmp k k ≡ true
itself k = ap is_eq (tied_itself nat_cmp_total k)

same_number : (a b : ℕ) → eq_by_cmp nat_cmp a b ≡ true → a ≡ b
same_number a b e = by_test (nat_lt a b) (a == b) refl e
  where
    by_test : (less same : Bool) → (a == b) ≡ same → is_eq (cond less Less (cond same Equal Greater)) ≡ true → a ≡ b
    by_test true same s h = cc
    by_test false true s h = eqb-true a b s
    by_test false false s h = cc

head_among : (k : ℕ) (ks : List ℕ) → among (k ∷ ks) k ≡ true
head_among k ks = ap (λ b. b || among ks k) (itself k)

or_true : (a b : Bool) → b ≡ true → (a || b) ≡ true
or_true true b h = refl
or_true false b h = h

or_false : (a : Bool) → (a || false) ≡ a
or_false true = refl
or_false false = refl

twice : (a b : Bool) → (a || b) ≡ (a || (a || b))
twice true b = refl
twice false b = refl

swapped : (a b c : Bool) → (a || (b || c)) ≡ (b || (a || c))
swapped true true c = refl
swapped true false c = refl
swapped false true c = refl
swapped false false c = refl

shuffled : (a b c : Bool) → (a || (b || c)) ≡ ((b || a) || c)
shuffled true true c = refl
shuffled true false c = refl
shuffled false true c = refl
shuffled false false c = refl

contains_among : (ks : List ℕ) (k i : ℕ) → i < length ks → get_or ks i k ≡ k → among ks k ≡ true
contains_among [] k i lt e = absurd (omega arith)
contains_among (x ∷ ks) k zero lt e =
    let here : eq_by_cmp nat_cmp k x ≡ true = subst (λ n. eq_by_cmp nat_cmp k n ≡ true) (sym e) (itself k) in
    ap (λ b. b || among ks k) here
contains_among (x ∷ ks) k (suc i) lt e = or_true (eq_by_cmp nat_cmp k x) (among ks k) (contains_among ks k i (omega arith) e)

-- what rises from a number on has none below it
member_from : (low : ℕ) (xs : List ℕ) (q : ℕ) → Increases low xs → among xs q ≡ true → low ≤ q
unfolding Increases
member_from low [] q h e = absurd cc
member_from low (x ∷ xs) q h e = by_test (eq_by_cmp nat_cmp q x) refl e (λ t. member_from (x + 1) xs q h.1 t)
  where
    by_test : (b : Bool) → eq_by_cmp nat_cmp q x ≡ b → (b || among xs q) ≡ true → (among xs q ≡ true → x + 1 ≤ q) → low ≤ q
    by_test true s t later = let same : q ≡ x = same_number q x s in omega (arith, same, h.0)
    by_test false s t later = let past : x + 1 ≤ q = later t in omega (arith, past, h.0)

member_below : (low : ℕ) (xs : List ℕ) (q : ℕ) → Increases low xs → q < low → among xs q ≡ false
member_below low xs q h lt = by_test (among xs q) refl
  where
    by_test : (b : Bool) → among xs q ≡ b → among xs q ≡ false
    by_test true s = let from : low ≤ q = member_from low xs q h s in absurd (omega (arith, from, lt))
    by_test false s = s

tails_same : (x : ℕ) (xs ys : List ℕ) (q : ℕ) → Increases (x + 1) xs → Increases (x + 1) ys
    → (eq_by_cmp nat_cmp q x || among xs q) ≡ (eq_by_cmp nat_cmp q x || among ys q) → among xs q ≡ among ys q
tails_same x xs ys q h g e = by_test (eq_by_cmp nat_cmp q x) refl e
  where
    by_test : (b : Bool) → eq_by_cmp nat_cmp q x ≡ b → (b || among xs q) ≡ (b || among ys q) → among xs q ≡ among ys q
    by_test true s t =
        let same : q ≡ x = same_number q x s in
        member_below (x + 1) xs q h (omega (arith, same)) ∙ sym (member_below (x + 1) ys q g (omega (arith, same)))
    by_test false s t = t

-- rising lists of the same numbers are the same
same_increasing : (low other : ℕ) (xs ys : List ℕ) → Increases low xs → Increases other ys → ((q : ℕ) → among xs q ≡ among ys q) → xs ≡ ys
unfolding Increases
same_increasing low other [] [] h g e = refl
same_increasing low other [] (y ∷ ys) h g e = let bad : false ≡ true = e y ∙ head_among y ys in cc
same_increasing low other (x ∷ xs) [] h g e = let bad : true ≡ false = sym (head_among x xs) ∙ e x in cc
same_increasing low other (x ∷ xs) (y ∷ ys) h g e =
    let le : y ≤ x = member_from y (y ∷ ys) x (omega arith, g.1) (sym (e x) ∙ head_among x xs) in
    let ge : x ≤ y = member_from x (x ∷ xs) y (omega arith, h.1) (e y ∙ head_among y ys) in
    let same : x ≡ y = omega (arith, le, ge) in
    let above : Increases (x + 1) ys = subst (λ n. Increases (n + 1) ys) (sym same) g.1 in
    let rest : xs ≡ ys = same_increasing (x + 1) (x + 1) xs ys h.1 above (λ q.
    tails_same x xs ys q h.1 above (subst (λ n. (eq_by_cmp nat_cmp q x || among xs q) ≡ (eq_by_cmp nat_cmp q n || among ys q)) (sym same) (e q))) in
    ap (λ n. n ∷ xs) same ∙ ap (λ ns. y ∷ ns) rest

insert_among : (ks : List ℕ) (k q : ℕ) → among (insert_key nat_cmp ks k) q ≡ (eq_by_cmp nat_cmp q k || among ks q)
insert_among [] k q = refl
insert_among (x ∷ ks) k q = by_test (nat_lt k x) (k == x) refl (insert_among ks k q)
  where
    by_test : (less same : Bool) → (k == x) ≡ same → among (insert_key nat_cmp ks k) q ≡ (eq_by_cmp nat_cmp q k || among ks q)
        → among (match_ordering (cond less Less (cond same Equal Greater)) (k ∷ x ∷ ks) (x ∷ ks) (x ∷ insert_key nat_cmp ks k)) q
        ≡ (eq_by_cmp nat_cmp q k || (eq_by_cmp nat_cmp q x || among ks q))
    by_test true same s later = refl
    by_test false true s later =
        subst (λ n. (eq_by_cmp nat_cmp q x || among ks q) ≡ (eq_by_cmp nat_cmp q n || (eq_by_cmp nat_cmp q x || among ks q))) (sym (eqb-true k x s))
        (twice (eq_by_cmp nat_cmp q x) (among ks q))
    by_test false false s later =
        ap (λ b. eq_by_cmp nat_cmp q x || b) later ∙ swapped (eq_by_cmp nat_cmp q x) (eq_by_cmp nat_cmp q k) (among ks q)

fold_among : (found xs : List ℕ) (q : ℕ) → among (fold (insert_key nat_cmp) found xs) q ≡ (among xs q || among found q)
fold_among found [] q = refl
fold_among found (x ∷ xs) q =
    fold_among (insert_key nat_cmp found x) xs q ∙ ap (λ b. among xs q || b) (insert_among found x q)
    ∙ shuffled (among xs q) (eq_by_cmp nat_cmp q x) (among found q)

rising_among : (ks : List ℕ) (q : ℕ) → among (rising ks) q ≡ among ks q
unfolding rising
rising_among ks q = fold_among [] ks q ∙ or_false (among ks q)

rising_increases : (ks : List ℕ) → Increases 0 (rising ks)
unfolding rising Increases
rising_increases ks = fold_increases [] ks tt

insert_same : (low : ℕ) (ks : List ℕ) (k : ℕ) → Increases low ks → among ks k ≡ true → insert_key nat_cmp ks k ≡ ks
unfolding Increases
insert_same low [] k h e = let bad : false ≡ true = e in cc
insert_same low (x ∷ ks) k h e = by_test (nat_lt k x) refl (k == x) e (λ t. insert_same (x + 1) ks k h.1 t)
  where
    at_least : x ≤ k
    at_least = member_from x (x ∷ ks) k (omega arith, h.1) e

    by_test : (less : Bool) → nat_lt k x ≡ less → (same : Bool) → (is_eq (cond less Less (cond same Equal Greater)) || among ks k) ≡ true
        → (among ks k ≡ true → insert_key nat_cmp ks k ≡ ks)
        → match_ordering (cond less Less (cond same Equal Greater)) (k ∷ x ∷ ks) (x ∷ ks) (x ∷ insert_key nat_cmp ks k) ≡ x ∷ ks
    by_test true less same t later = let lt : k < x = grind (arith, nat_tests) in absurd (omega (arith, lt, at_least))
    by_test false less true t later = refl
    by_test false less false t later = ap (λ ns. x ∷ ns) (later t)

-- an index that was met is not added again
pub met_again : (ks : List ℕ) (k : ℕ) → Contains ks k → insert_key nat_cmp (rising ks) k ≡ rising ks
met_again ks k c = insert_same 0 (rising ks) k (rising_increases ks) (rising_among ks k ∙ contains_among ks k c.0 c.1 c.2)

-- the parts by rising index

sorted_increases : (x : ℕ) (xs : List ℕ) → IsStrictlySortedBy nat_cmp (x ∷ xs) → Increases x (x ∷ xs)
unfolding Increases
sorted_increases x [] h = (omega arith, tt)
sorted_increases x (y ∷ ys) h =
    let later = sorted_increases y ys (sorted_tail nat_cmp x (y ∷ ys) h) in
    let less : x < y = below_from_sorted (x ∷ y ∷ ys) 0 1 x h (omega arith) (omega arith) in
    (omega arith, (omega (arith, less), later.1))

all_sorted : (ks : List ℕ) → IsStrictlySortedBy nat_cmp ks → Increases 0 ks
unfolding Increases
all_sorted [] h = tt
all_sorted (x ∷ xs) h = let from = sorted_increases x xs h in (omega arith, from.1)

pub spans_keys : (parts : List (ℕ × Span)) (spans : BTreeMap ℕ Span) → IsFromIterResult nat_cmp parts spans → keys_of spans.entries ≡ rising (keys_of parts)
spans_keys parts spans r =
    same_increasing 0 0 (keys_of spans.entries) (rising (keys_of parts)) (all_sorted (keys_of spans.entries) r.1) (rising_increases (keys_of parts)) (λ q.
    sym (is_some-lookup (is_at (nat_cmp q)) spans.entries) ∙ ap is_some (r.0 q)
    ∙ is_some-update_all (eq_by_cmp_equiv nat_cmp_total) q (λ _. None) parts ∙ sym (rising_among (keys_of parts) q))

all_looked_up : (P : ℕ × Span → Type 0) (low : ℕ) (es : List (ℕ × Span)) → Increases low (keys_of es)
    → ((q : ℕ) (v : Span) → lookup (is_at (nat_cmp q)) es ≡ Some v → P (q, v)) → AllByRecursion P es
unfolding Increases
all_looked_up P low [] h each = tt
all_looked_up P low ((k, w) ∷ es) h each =
    (each k w (ap (λ b. cond b (Some w) (lookup (is_at (nat_cmp k)) es)) (itself k)), all_looked_up P (k + 1) es h.1 (λ q v s. each q v (behind q v s)))
  where
    behind : (q : ℕ) (v : Span) → lookup (is_at (nat_cmp q)) es ≡ Some v → cond (eq_by_cmp nat_cmp q k) (Some w) (lookup (is_at (nat_cmp q)) es) ≡ Some v
    behind q v s =
        let there : among (keys_of es) q ≡ true = sym (is_some-lookup (is_at (nat_cmp q)) es) ∙ ap is_some s in
        let past : k + 1 ≤ q = member_from (k + 1) (keys_of es) q h.1 there in
        by_test (eq_by_cmp nat_cmp q k) refl past
      where
        by_test : (b : Bool) → eq_by_cmp nat_cmp q k ≡ b → k + 1 ≤ q → cond b (Some w) (lookup (is_at (nat_cmp q)) es) ≡ Some v
        by_test true t past = let same : q ≡ k = same_number q k t in absurd (omega (arith, same, past))
        by_test false t past = s

all_get : (P : ℕ × Span → Type 0) (parts : List (ℕ × Span)) (i : ℕ) (d : ℕ × Span) → AllByRecursion P parts → i < length parts → P (get_or parts i d)
all_get P [] i d all lt = absurd (omega arith)
all_get P (part ∷ parts) zero d all lt = all.0
all_get P (part ∷ parts) (suc i) d all lt = all_get P parts i d all.1 (omega arith)

pub spans_all : (P : ℕ × Span → Type 0) (parts : List (ℕ × Span)) (spans : BTreeMap ℕ Span) → IsFromIterResult nat_cmp parts spans → AllByRecursion P parts
    → AllByRecursion P spans.entries
spans_all P parts spans r all =
    all_looked_up P 0 spans.entries (all_sorted (keys_of spans.entries) r.1) (λ q v s.
    let met : IfSome (update_all (eq_by_cmp nat_cmp) (λ _. None) parts q) (λ w. Contains parts (q, w)) =
    IfSome-update_all_from_list (λ a b. (same_number a b, λ e. subst (λ n. eq_by_cmp nat_cmp a n ≡ true) e (itself a))) parts q in
    let here : Contains parts (q, v) = subst (λ o. IfSome o (λ w. Contains parts (q, w))) (sym (r.0 q) ∙ s) met in
    subst P here.2 (all_get P parts here.0 (q, v) all here.1))

-- one more part

keys_last : (parts : List (ℕ × Span)) (part : ℕ × Span) → keys_of (parts ++ part ∷ []) ≡ keys_of parts ++ part.0 ∷ []
keys_last [] part = refl
keys_last (p ∷ parts) part = ap (λ ks. p.0 ∷ ks) (keys_last parts part)

fold_last : (f : List ℕ → ℕ → List ℕ) (start ks : List ℕ) (k : ℕ) → fold f start (ks ++ k ∷ []) ≡ f (fold f start ks) k
fold_last f start [] k = refl
fold_last f start (x ∷ ks) k = fold_last f (f start x) ks k

pub rising_last : (parts : List (ℕ × Span)) (part : ℕ × Span) → rising (keys_of (parts ++ part ∷ [])) ≡ insert_key nat_cmp (rising (keys_of parts)) part.0
unfolding rising
rising_last parts part = ap (fold (insert_key nat_cmp) []) (keys_last parts part) ∙ fold_last (insert_key nat_cmp) [] (keys_of parts) part.0

last_there : (parts : List (ℕ × Span)) (part : ℕ × Span) → Contains (keys_of (parts ++ part ∷ [])) part.0
last_there [] part = (0, omega arith, refl)
last_there (p ∷ parts) part = let later = last_there parts part in (suc later.0, omega (arith, later.1), later.2)

more_there : (parts : List (ℕ × Span)) (part : ℕ × Span) (q i : ℕ) → i < length (keys_of parts) → get_or (keys_of parts) i q ≡ q → Contains (keys_of (parts ++ part ∷ [])) q
more_there [] part q i lt e = absurd (omega arith)
more_there (p ∷ parts) part q zero lt e = (0, omega arith, e)
more_there (p ∷ parts) part q (suc i) lt e = let later = more_there parts part q i (omega arith) e in (suc later.0, omega (arith, later.1), later.2)

-- what is seen was met
pub seen_met : (parts : List (ℕ × Span)) (part : ℕ × Span) (q : ℕ) (was : Bool) → (was ≡ true → Contains (keys_of parts) q) → ((q == part.0) || was) ≡ true
    → Contains (keys_of (parts ++ part ∷ [])) q
seen_met parts part q was there e = by_test (q == part.0) refl e
  where
    by_test : (b : Bool) → (q == part.0) ≡ b → (b || was) ≡ true → Contains (keys_of (parts ++ part ∷ [])) q
    by_test true s t = subst (λ k. Contains (keys_of (parts ++ part ∷ [])) k) (sym (eqb-true q part.0 s)) (last_there parts part)
    by_test false s t = let before = there t in more_there parts part q before.0 before.1 before.2

pub none_rise : (parts : List (ℕ × Span)) → parts ≡ [] → rising (keys_of parts) ≡ []
unfolding rising
none_rise parts e = ap (λ ps. rising (keys_of ps)) e
