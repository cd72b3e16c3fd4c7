-- The keys of a section stand together.
use Rattle.std.proofs.Common.{◌≡◌, ℕ, zero, suc, ◌+◌, ◌-◌, ◌<◌, ◌≤◌, Bool, true, false, cond, List, [], ◌∷◌, length, take, drop, map, filter, slice_index_or, Option, None, Some, find, refl, sym, ap, ◌∙◌, arith, nat_lt, nat_le, ◌==◌, ◌&&◌}
use Rattle.std.specs.List.Sorted.{IsPartitionPoint}
use Rattle.std.proofs.lemmas.Bool.Decides.{nat_tests}
use Rattle.cop_tidy_lines.specs.declared.keys.Key.{Key}
use Rattle.cop_tidy_lines.specs.declared.kinds.LineKind.{LineKind}
use Rattle.cop_tidy_lines.specs.declared.kinds.LineKind.TheVariants.{Silent, Header, Pair, Unknown}
use Rattle.cop_tidy_reading.specs.declared.items.Item.{Item}
use Rattle.cop_tidy_reading.specs.Items.{Said}
use Rattle.cop_tidy_reading.specs.Seen.{said_of}
use Rattle.cop_tidy_reading.specs.Sections.{is_pair, states, pairs_of, pair_of}
use Rattle.cop_tidy_reading.specs.Index.{section_of}

-- the keys among some items
abbrev keys_among : List Item → List Said
keys_among items = filter (λ said. is_pair said.kind) (map said_of items)

left_out : (t pair : Bool) (x : Said) (xs : List Said) → t ≡ false → cond (t && pair) (x ∷ xs) xs ≡ xs
left_out t pair x xs e = rw e refl

taken : (t pair : Bool) (x : Said) (xs : List Said) → t ≡ true → cond (t && pair) (x ∷ xs) xs ≡ cond pair (x ∷ xs) xs
taken t pair x xs e = rw e refl

-- the section of an item is not this one
apart : (m n : ℕ) → m < n → (m == n) ≡ false
apart m n lt = grind (arith, nat_tests)

above : (m n : ℕ) → n < m → (m == n) ≡ false
above m n lt = grind (arith, nat_tests)

same : (m n : ℕ) → m ≡ n → (m == n) ≡ true
same m n e = grind (arith, nat_tests)

-- those before, those in it, and those behind
middle : (number : ℕ) (items : List Item) (b m : ℕ) → ((k : ℕ) (d : Item) → k < b → k < length items → section_of (slice_index_or items k d) < number)
    → ((k : ℕ) (d : Item) → b ≤ k → k < b + m → k < length items → section_of (slice_index_or items k d) ≡ number)
    → ((k : ℕ) (d : Item) → b + m ≤ k → k < length items → number < section_of (slice_index_or items k d))
    → keys_among (take m (drop b items)) ≡ pairs_of (map said_of items) number
middle number [] zero zero before inside behind = refl
middle number [] zero (suc m) before inside behind = refl
middle number [] (suc b) zero before inside behind = refl
middle number [] (suc b) (suc m) before inside behind = refl
middle number (x ∷ xs) (suc b) m before inside behind =
    let e = apart x.section number (before 0 x (omega arith) (omega arith)) in
    middle number xs b m (λ k d lt in_it. before (suc k) d (omega arith) (omega arith)) (λ k d le lt in_it. inside (suc k) d (omega arith) (omega arith) (omega arith))
    (λ k d le in_it. behind (suc k) d (omega arith) (omega arith))
    ∙ sym (left_out (x.section == number) (is_pair x.kind) (said_of x) (pairs_of (map said_of xs) number) e)
middle number (x ∷ xs) zero (suc m) before inside behind =
    let e = same x.section number (inside 0 x (omega arith) (omega arith) (omega arith)) in
    let later : keys_among (take m xs) ≡ pairs_of (map said_of xs) number =
    middle number xs zero m (λ k d lt in_it. absurd (omega (arith, lt))) (λ k d le lt in_it. inside (suc k) d (omega arith) (omega arith) (omega arith))
    (λ k d le in_it. behind (suc k) d (omega arith) (omega arith)) in
    ap (λ rest. cond (is_pair x.kind) (said_of x ∷ rest) rest) later
    ∙ sym (taken (x.section == number) (is_pair x.kind) (said_of x) (pairs_of (map said_of xs) number) e)
middle number (x ∷ xs) zero zero before inside behind =
    let e = above x.section number (behind 0 x (omega arith) (omega arith)) in
    middle number xs zero zero (λ k d lt in_it. absurd (omega (arith, lt))) (λ k d le lt in_it. absurd (omega (arith, lt)))
    (λ k d le in_it. behind (suc k) d (omega arith) (omega arith))
    ∙ sym (left_out (x.section == number) (is_pair x.kind) (said_of x) (pairs_of (map said_of xs) number) e)

abbrev pub IsBefore : ℕ → List Item → ℕ → Type 0
IsBefore number items b = IsPartitionPoint (λ item. nat_lt (section_of item) number ≡ true) (λ item. nat_lt (section_of item) number ≡ false) items b

abbrev pub IsUpto : ℕ → List Item → ℕ → Type 0
IsUpto number items u = IsPartitionPoint (λ item. nat_le (section_of item) number ≡ true) (λ item. nat_le (section_of item) number ≡ false) items u

below : (m n : ℕ) → nat_lt m n ≡ true → m < n
below m n e = grind (arith, nat_tests)

equal_by : (m n : ℕ) → nat_lt m n ≡ false → nat_le m n ≡ true → m ≡ n
equal_by m n e f = grind (arith, nat_tests)

beyond : (m n : ℕ) → nat_le m n ≡ false → n < m
beyond m n e = grind (arith, nat_tests)

-- a section does not end before it begins
pub in_order : (items : List Item) (number b u : ℕ) → b ≤ length items → IsBefore number items b → IsUpto number items u → b ≤ u
in_order [] number b u le first last = omega (arith, le)
in_order (x ∷ xs) number b u le first last = by_test (nat_le b u) refl
  where
    by_test : (t : Bool) → nat_le b u ≡ t → b ≤ u
    by_test true e = grind (arith, nat_tests)
    by_test false e =
        let lt : u < b = beyond b u e in
        let p = below (section_of (slice_index_or (x ∷ xs) u x)) number (first.0 u x (omega arith) lt) in
        let q = beyond (section_of (slice_index_or (x ∷ xs) u x)) number (last.1 u x (omega arith) (omega (arith, lt, le))) in
        absurd (omega (arith, p, q))

-- the keys between the two places are those of the section
pub part_is : (items : List Item) (number b u : ℕ) → b ≤ u → IsBefore number items b → IsUpto number items u →
    filter (λ said. is_pair said.kind) (map said_of (take (u - b) (drop b items))) ≡ pairs_of (map said_of items) number
part_is items number b u le first last =
    middle number items b (u - b) (λ k d lt in_it. below _ _ (first.0 k d (omega arith) lt))
    (λ k d from lt in_it. equal_by _ _ (first.1 k d from in_it) (last.0 k d (omega arith) (omega (arith, lt, le))))
    (λ k d from in_it. beyond _ _ (last.1 k d (omega (arith, from, le)) in_it))

by_kind : (key : Key) (kind : LineKind) (x : Said) (rest : Option Said) → cond (is_pair kind) (cond (states key kind) (Some x) rest) rest ≡ cond (states key kind) (Some x) rest
by_kind key (Pair other) x rest = refl
by_kind key Silent x rest = refl
by_kind key (Header name) x rest = refl
by_kind key Unknown x rest = refl

find_cond : (p : Said → Bool) (t : Bool) (x : Said) (xs : List Said) → find p (cond t (x ∷ xs) xs) ≡ cond t (cond (p x) (Some x) (find p xs)) (find p xs)
find_cond p true x xs = refl
find_cond p false x xs = refl

-- the first key of a name is the first among all items
among_all : (key : Key) (xs : List Said) → find (λ said. states key said.kind) (filter (λ said. is_pair said.kind) xs) ≡ find (λ said. states key said.kind) xs
among_all key [] = refl
among_all key (x ∷ xs) =
    find_cond (λ said. states key said.kind) (is_pair x.kind) x (filter (λ said. is_pair said.kind) xs)
    ∙ ap (λ rest. cond (is_pair x.kind) (cond (states key x.kind) (Some x) rest) rest) (among_all key xs)
    ∙ by_kind key x.kind x (find (λ said. states key said.kind) xs)

pub first_pair : (key : Key) (number : ℕ) (part items : List Said) → filter (λ said. is_pair said.kind) part ≡ pairs_of items number →
    pair_of items number key ≡ find (λ said. states key said.kind) part
first_pair key number part items e = ap (λ xs. find (λ said. states key said.kind) xs) (sym e) ∙ among_all key part
