-- Lists, counts and flags of PDOs while places are filled.
use Rattle.std.proofs.Common.{◌≡◌, ◌≢◌, ℕ, zero, suc, ◌+◌, ◌-◌, ◌*◌, ◌<◌, ◌≤◌, ◌⊎◌, inl, inr, Bool, true, false, ◌==◌, ◌||◌, ◌&&◌, nat_lt, if◌then◌else◌, List, [], ◌∷◌, ◌++◌, length, set, refl, sym, ◌∙◌, arith, true≢false, length-append}
use Rattle.std.proofs.lemmas.Bool.{cases_eq, cases_lt, cases_Bool, eq-eqb, ne_eqb, lt-ltb, le-ltb}
use Rattle.std.proofs.lemmas.List.{get_or-set_same, get_or-set_other}
use Rattle.std.proofs.lemmas.Option.{unwrap_or-slice_get}
use Rattle.cop_rta.specs.Test.{is_flagged}
use Rattle.cop_rta.specs.Sums.{sum_where}
use Rattle.cop_cert.specs.Evidence.{is_listed}
use Rattle.cop_plan.specs.Fillings.{is_flagged_pdo}

-- ---- a list with one more at its end

pub among_push : (xs : List ℕ) (p k : ℕ) → is_listed (xs ++ p ∷ []) k ≡ (is_listed xs k || (p == k))
among_push [] p k = by (p == k) where
  by : (b : Bool) → (b || false) ≡ (false || b)
  by true = refl
  by false = refl
among_push (x ∷ xs) p k = rw (among_push xs p k) (by (x == k) (is_listed xs k) (p == k)) where
  by : (a b c : Bool) → (a || (b || c)) ≡ ((a || b) || c)
  by true b c = refl
  by false b c = refl

below_next : (k n : ℕ) → (nat_lt k n || (n == k)) ≡ nat_lt k (n + 1)
below_next k n = go (cases_lt k n) (cases_eq n k) where
  go : (k < n) ⊎ (n ≤ k) → (n ≡ k) ⊎ (n ≡ k → ⊥) → (nat_lt k n || (n == k)) ≡ nat_lt k (n + 1)
  go (inl lt) _ = rw (lt-ltb k n lt, lt-ltb k (n + 1) (omega arith)) refl
  go (inr le) (inl e) = rw (le-ltb k n le, eq-eqb n k e, lt-ltb k (n + 1) (omega arith)) refl
  go (inr le) (inr apart) = rw (le-ltb k n le, ne_eqb n k apart, le-ltb k (n + 1) (omega arith)) refl

pub found_more : (found : List ℕ) (n : ℕ) (flag : ℕ → Bool) → ((k : ℕ) → is_listed found k ≡ (nat_lt k n && flag k)) → flag n ≡ true
    → (k : ℕ) → is_listed (found ++ n ∷ []) k ≡ (nat_lt k (n + 1) && flag k)
found_more found n flag h f k = among_push found n k ∙ rw (h k, ← below_next k n) (go (cases_eq n k)) where
  by : (a b : Bool) → ((a && b) || false) ≡ ((a || false) && b)
  by true true = refl
  by true false = refl
  by false b = refl

  go : (n ≡ k) ⊎ (n ≡ k → ⊥) → ((nat_lt k n && flag k) || (n == k)) ≡ ((nat_lt k n || (n == k)) && flag k)
  go (inl e) = rw (eq-eqb n k e, ← e, f) (all (nat_lt n n)) where
    all : (a : Bool) → ((a && true) || true) ≡ ((a || true) && true)
    all true = refl
    all false = refl
  go (inr apart) = rw (ne_eqb n k apart) (by (nat_lt k n) (flag k))

pub found_same : (found : List ℕ) (n : ℕ) (flag : ℕ → Bool) → ((k : ℕ) → is_listed found k ≡ (nat_lt k n && flag k)) → flag n ≡ false
    → (k : ℕ) → is_listed found k ≡ (nat_lt k (n + 1) && flag k)
found_same found n flag h f k = h k ∙ rw (← below_next k n) (go (cases_eq n k)) where
  by : (a b : Bool) → (a && b) ≡ ((a || false) && b)
  by true b = refl
  by false b = refl

  go : (n ≡ k) ⊎ (n ≡ k → ⊥) → (nat_lt k n && flag k) ≡ ((nat_lt k n || (n == k)) && flag k)
  go (inl e) = rw (← e, f) (none (nat_lt n n) (n == n)) where
    none : (a b : Bool) → (a && false) ≡ ((a || b) && false)
    none true b = refl
    none false true = refl
    none false false = refl
  go (inr apart) = rw (ne_eqb n k apart) (by (nat_lt k n) (flag k))

-- ---- how many are left

abbrev pub count : ℕ → (ℕ → Bool) → ℕ
count n left = sum_where left (λ _. 1) n

pub count_some : (n : ℕ) (left : ℕ → Bool) → 0 < count n left → (p : ℕ) × (p < n) × (left p ≡ true)
unfolding sum_where
count_some zero left h = absurd (omega arith)
count_some (suc n) left h = go (cases_Bool (left n)) (count_some n left) where
  go : (left n ≡ true) ⊎ (left n ≡ false) → (0 < count n left → (p : ℕ) × (p < n) × (left p ≡ true)) → (p : ℕ) × (p < suc n) × (left p ≡ true)
  go (inl e) before = (n, omega arith, e)
  go (inr e) before =
      let less : 0 < count n left = let c : 0 < count n left + (if left n then 1 else 0) = h in omega (arith, rw e at c) in
      let found = before less in (found.0, omega (arith, found.1), found.2)

pub count_none : (n : ℕ) (left : ℕ → Bool) → count n left ≡ 0 → (p : ℕ) → p < n → left p ≡ false
unfolding sum_where
count_none zero left h p below = absurd (omega arith)
count_none (suc n) left h p below = go (count_none n left) (cases_Bool (left n)) (cases_eq p n) where
  go : (count n left ≡ 0 → (p : ℕ) → p < n → left p ≡ false) → (left n ≡ true) ⊎ (left n ≡ false) → (p ≡ n) ⊎ (p ≡ n → ⊥) → left p ≡ false
  go before (inl e) _ = absurd (let c : count n left + (if left n then 1 else 0) ≡ 0 = h in omega (arith, rw e at c))
  go before (inr e) (inl same) = rw same e
  go before (inr e) (inr apart) = before (omega (arith, h)) p (omega arith)

count_same : (n p : ℕ) (left rest : ℕ → Bool) → n ≤ p → ((k : ℕ) → k ≢ p → rest k ≡ left k) → count n rest ≡ count n left
unfolding sum_where
count_same zero p left rest h others = refl
count_same (suc n) p left rest h others =
    rw (others n (λ e. omega arith), count_same n p left rest (omega arith) others) refl

pub count_less : (n p : ℕ) (left rest : ℕ → Bool) → p < n → left p ≡ true → rest p ≡ false → ((k : ℕ) → k ≢ p → rest k ≡ left k) → suc (count n rest) ≡ count n left
unfolding sum_where
count_less zero p left rest h here gone others = absurd (omega arith)
count_less (suc n) p left rest h here gone others = go (λ (lt : p < n). count_less n p left rest lt here gone others) (cases_eq n p) where
  go : (p < n → suc (count n rest) ≡ count n left) → (n ≡ p) ⊎ (n ≡ p → ⊥) → suc (count n rest + (if rest n then 1 else 0)) ≡ count n left + (if left n then 1 else 0)
  go before (inl e) = rw (e, gone, here, count_same p p left rest (omega arith) others) (omega arith)
  go before (inr apart) = rw (others n apart) (omega (arith, before (omega arith)))

pub counts_none : (test : ℕ → Bool) → count 0 test ≡ 0
unfolding sum_where
counts_none test = refl

pub count_more : (n : ℕ) (test : ℕ → Bool) → test n ≡ true → count (n + 1) test ≡ count n test + 1
unfolding sum_where
count_more n test e = let next : n + 1 ≡ suc n = omega arith in rw (next, e) refl

pub count_as_before : (n : ℕ) (test : ℕ → Bool) → test n ≡ false → count (n + 1) test ≡ count n test
unfolding sum_where
count_as_before n test e = let next : n + 1 ≡ suc n = omega arith in rw (next, e) (omega arith)

-- what is left is flagged
pub left_is_flagged : (pdos k : ℕ) (flags : List Bool) → is_flagged_pdo pdos flags k ≡ true → is_flagged flags k ≡ true
left_is_flagged pdos k flags h = second (nat_lt k pdos) (is_flagged flags k) h where
  second : (a b : Bool) → (a && b) ≡ true → b ≡ true
  second true b h = h
  second false b h = absurd (true≢false (sym h))

-- a PDO's flag is taken away
pub flag_gone : (flags : List Bool) (p : ℕ) → p < length flags → is_flagged (set flags p false) p ≡ false
flag_gone flags p h = unwrap_or-slice_get (set flags p false) p false ∙ get_or-set_same flags p false false h

pub flag_kept : (flags : List Bool) (p k : ℕ) → k ≢ p → is_flagged (set flags p false) k ≡ is_flagged flags k
flag_kept flags p k apart =
    unwrap_or-slice_get (set flags p false) k false ∙ get_or-set_other flags p k false false apart ∙ sym (unwrap_or-slice_get flags k false)

-- ---- how many trials there are

pub count_alike : (n : ℕ) (a b : ℕ → Bool) → ((k : ℕ) → k < n → a k ≡ b k) → count n a ≡ count n b
unfolding sum_where
count_alike zero a b h = refl
count_alike (suc n) a b h = rw (h n (omega arith), count_alike n a b (λ k lt. h k (omega (arith, lt)))) refl

-- the flagged PDOs are those that are left
pub flagged_are_left : (pdos : ℕ) (flags : List Bool) → count pdos (is_flagged flags) ≡ count pdos (is_flagged_pdo pdos flags)
flagged_are_left pdos flags = count_alike pdos (is_flagged flags) (is_flagged_pdo pdos flags) (λ k lt. rw (lt-ltb k pdos lt) refl)

-- one that is looked at is counted if it is flagged
pub count_here : (pdos done : ℕ) (flags : ℕ → Bool) → done < pdos → flags (pdos - 1 - done) ≡ true → suc (count (pdos - (done + 1)) flags) ≡ count (pdos - done) flags
unfolding sum_where
count_here pdos done flags h e =
    let there : pdos - 1 - done ≡ pdos - (done + 1) = omega (arith, h) in
    go (pdos - (done + 1)) (pdos - done) (omega (arith, h)) (rw there at e)
  where
    go : (n m : ℕ) → m ≡ suc n → flags n ≡ true → suc (count n flags) ≡ count m flags
    go n m same f = rw (same, f) (omega arith)

pub none_counted : (flag : ℕ → Bool) → length {A = ℕ} [] ≡ count 0 flag
unfolding sum_where
none_counted flag = refl

-- a list that grows with each one that is flagged has as many as there are
pub counted : (found : List ℕ) (n : ℕ) (flag : ℕ → Bool) → flag n ≡ true → length found ≡ count n flag → length (found ++ n ∷ []) ≡ count (n + 1) flag
unfolding sum_where
counted found n flag f e = let next : n + 1 ≡ suc n = omega arith in rw (next, f) (simp length-append (omega (arith, e)))

pub passed_by : (size n : ℕ) (flag : ℕ → Bool) → flag n ≡ false → size ≡ count n flag → size ≡ count (n + 1) flag
unfolding sum_where
passed_by size n flag f e = let next : n + 1 ≡ suc n = omega arith in rw (next, f) (omega (arith, e))

-- one that is not flagged is not counted
pub count_skips : (pdos done : ℕ) (flags : ℕ → Bool) → done < pdos → flags (pdos - 1 - done) ≡ false → count (pdos - (done + 1)) flags ≡ count (pdos - done) flags
unfolding sum_where
count_skips pdos done flags h e =
    let there : pdos - 1 - done ≡ pdos - (done + 1) = omega (arith, h) in
    go (pdos - (done + 1)) (pdos - done) (omega (arith, h)) (rw there at e)
  where
    go : (n m : ℕ) → m ≡ suc n → flags n ≡ false → count n flags ≡ count m flags
    go n m same f = rw (same, f) (omega arith)

-- where all are looked at, none is left to count
pub none_left : (pdos done few many : ℕ) (flags : ℕ → Bool) → pdos ≤ done → few ≤ many + count (pdos - done) flags → few ≤ many
unfolding sum_where
none_left pdos done few many flags past h =
    let none : pdos - done ≡ 0 = omega (arith, past) in
    let low : few ≤ many + 0 = rw none at h in
    omega (arith, low)

pub count_grows : (pdos done : ℕ) (flags : ℕ → Bool) → count (pdos - (done + 1)) flags ≤ count (pdos - done) flags
unfolding sum_where
count_grows pdos done flags = go (cases_lt done pdos)
  where
    one : (n m : ℕ) → m ≡ suc n → count n flags ≤ count m flags
    one n m same = rw same (omega arith)

    go : (done < pdos) ⊎ (pdos ≤ done) → count (pdos - (done + 1)) flags ≤ count (pdos - done) flags
    go (inl lt) = one (pdos - (done + 1)) (pdos - done) (omega (arith, lt))
    go (inr ge) = let same : pdos - (done + 1) ≡ pdos - done = omega (arith, ge) in rw same (omega arith)

-- a place more is filled with as many trials as PDOs were left
pub trials_go_on : (before after total left : ℕ) → 2 * before + suc left * (suc left + 1) ≤ total → after ≤ before + suc left → 2 * after + left * (left + 1) ≤ total
trials_go_on before after total left h more =
    let squares : suc left * (suc left + 1) ≡ left * (left + 1) + 2 * suc left = grind arith in
    omega (arith, h, more, squares)

pub place_trials : (pdos placed before after old flagged : ℕ) → placed < pdos → flagged ≡ pdos - placed → after ≤ before + flagged
    → 2 * before + (pdos - placed) * (pdos - placed + 1) ≤ 2 * old + pdos * (pdos + 1)
    → 2 * after + (pdos - (placed + 1)) * (pdos - (placed + 1) + 1) ≤ 2 * old + pdos * (pdos + 1)
place_trials pdos placed before after old flagged inside same more h =
    let left : pdos - placed ≡ suc (pdos - (placed + 1)) = omega (arith, inside) in
    trials_go_on before after (2 * old + pdos * (pdos + 1)) (pdos - (placed + 1)) (rw left at h) (omega (arith, more, same, left))

pub trials_end : (count left total : ℕ) → 2 * count + left * (left + 1) ≤ total → 2 * count ≤ total
trials_end count left total h = omega (arith, h)
