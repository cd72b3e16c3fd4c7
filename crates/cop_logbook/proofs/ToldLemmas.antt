-- Breaches that are counted and told by their kinds.
use Rattle.std.proofs.Common.{◌≡◌, ◌∙◌, ℕ, ◌+◌, ◌-◌, ◌*◌, ◌≤◌, ◌<◌, inl, inr, List, [], ◌∷◌, ◌++◌, suc, length, get_or-set_same, get_or-set_other, length-set, sym, ap, subst, arith, append_assoc, append-nil, length-append, Bool, true, false, cond}
use Rattle.std.specs.Prelude.{◌==◌, nat_lt, set, slice_index_or, Option}
use Rattle.std.proofs.lemmas.Bool.{cases_lt}
use Rattle.std.proofs.lemmas.Bool.Decides.{nat_tests}
use Rattle.cop_frame.specs.declared.rates.Rate.{Rate}
use Rattle.cop_frame.specs.Rate.{ticks_of}
use Rattle.cop_rta.specs.declared.streams.Stream.{Stream}
use Rattle.cop_bus.specs.Run.{least_bits}
use Rattle.cop_lines.specs.declared.entries.Entry.{Entry}
use Rattle.cop_log.specs.declared.anchors.Anchor.{Anchor}
use Rattle.cop_log.specs.declared.anchors.Pile.{Pile}
use Rattle.cop_log.specs.declared.anchors.Top.{Top}
use Rattle.cop_log.specs.declared.findings.Finding.TheVariants as finding
use Rattle.cop_log.specs.declared.scenes.Scene.{Scene}
use Rattle.cop_log.specs.Log.{Terms, entry_at, stamp, least_of}
use Rattle.cop_log.specs.Watchers.{stream_of}
use Rattle.cop_log.proofs.Counted.{least-next}
use Rattle.cop_logbook.specs.declared.breaches.Broken.TheVariants.{Soon, Crowded, Fallen}
use Rattle.cop_logbook.specs.declared.breaches.Breach.{Breach}
use Rattle.cop_logbook.specs.declared.breaches.Breaches.{Breaches}
use Rattle.cop_logbook.specs.Told.{line_at, nearest_with, broken_by, kind_of, count_in, most_told, told_behind, told_of, kept_of, counted, HasKept, Shows}

-- one more behind others
count_more : (kind : ℕ) (all : List Breach) (b : Breach) → count_in kind (all ++ b ∷ []) ≡ count_in kind all + cond (kind_of b == kind) 1 0
count_more kind [] b = omega arith
count_more kind (x ∷ all) b = let r = count_more kind all b in omega (arith, r)

told_more : (before all : List Breach) (b : Breach) → told_behind before (all ++ b ∷ []) ≡ told_behind before all ++ kept_of b (count_in (kind_of b) (before ++ all))
told_more before [] b = ap (λ (xs : List Breach). kept_of b (count_in (kind_of b) xs)) (sym (append-nil before))
told_more before (x ∷ all) b = go (nat_lt (count_in (kind_of x) before) most_told) (told_more (before ++ x ∷ []) all b)
  where
    same : told_behind (before ++ x ∷ []) all ++ kept_of b (count_in (kind_of b) ((before ++ x ∷ []) ++ all)) ≡ told_behind (before ++ x ∷ []) all ++ kept_of b (count_in (kind_of b) (before ++ x ∷ all))
    same = ap (λ (xs : List Breach). told_behind (before ++ x ∷ []) all ++ kept_of b (count_in (kind_of b) xs)) (append_assoc before (x ∷ []) all)

    go : (t : Bool) → told_behind (before ++ x ∷ []) (all ++ b ∷ []) ≡ told_behind (before ++ x ∷ []) all ++ kept_of b (count_in (kind_of b) ((before ++ x ∷ []) ++ all))
        → cond t (x ∷ told_behind (before ++ x ∷ []) (all ++ b ∷ [])) (told_behind (before ++ x ∷ []) (all ++ b ∷ []))
        ≡ cond t (x ∷ told_behind (before ++ x ∷ []) all) (told_behind (before ++ x ∷ []) all) ++ kept_of b (count_in (kind_of b) (before ++ x ∷ all))
    go true r = ap (λ (xs : List Breach). x ∷ xs) (r ∙ same)
    go false r = r ∙ same

-- a count that stops is as small as one that does not
is_less : (n : ℕ) → n < 20 → nat_lt n 20 ≡ true
is_less n l = grind (arith, nat_tests)

not_less : (n : ℕ) → 20 ≤ n → nat_lt n 20 ≡ false
not_less n l = grind (arith, nat_tests)

same_test : (m n : ℕ) → m ≡ counted n → nat_lt m 20 ≡ nat_lt n 20
same_test m n e = elim (cases_lt n 20) [
  | inl l ↦ is_less m (omega (arith, e, l)) ∙ sym (is_less n l)
  | inr l ↦ not_less m (omega (arith, e, l)) ∙ sym (not_less n l)
]

other_kind : (m n : ℕ) → (m ≡ n → ⊥) → (m == n) ≡ false
other_kind m n apart = grind (arith, nat_tests)

own_kind : (n : ℕ) → (n == n) ≡ true
own_kind n = grind (arith, nat_tests)

pub kept_more : (all : List Breach) (b : Breach) (before count : ℕ) (a c : Breaches) → HasKept all a → before ≡ slice_index_or a.counts.items (kind_of b) 0 → c.count ≡ counted (a.count + 1) → count ≡ counted (before + 1)
    → (kind_of b < length a.counts.items → c.counts.items ≡ set a.counts.items (kind_of b) count) → c.told.items ≡ a.told.items ++ kept_of b before → HasKept (all ++ b ∷ []) c
kept_more all b before count a c h was one more new told = record {
  count = (let n = length-append all (b ∷ []) in let m = h.count in omega (arith, n, m, one));
  kinds = ap length counts ∙ (length-set a.counts.items (kind_of b) count ∙ h.kinds);
  counts = λ kind l. elim (cases_lt kind (kind_of b)) [
    | inl s ↦ other kind l (λ q. omega arith)
    | inr s ↦ elim (cases_lt (kind_of b) kind) [
      | inl g ↦ other kind l (λ q. omega arith)
      | inr g ↦ (let q : kind_of b ≡ kind = omega arith in subst (λ kind. slice_index_or c.counts.items kind 0 ≡ counted (count_in kind (all ++ b ∷ []))) q own)
    ]
  ];
  told = told ∙ (ap (λ (xs : List Breach). xs ++ kept_of b before) h.told
      ∙ (ap (λ t. told_of all ++ cond t (b ∷ []) []) (same_test before (count_in (kind_of b) all) held) ∙ sym (told_more [] all b)));
}
  where
    small : kind_of b < 2049
    small = omega arith

    within : kind_of b < length a.counts.items
    within = let n = h.kinds in let s = small in omega (arith, n, s)

    counts : c.counts.items ≡ set a.counts.items (kind_of b) count
    counts = new within

    held : before ≡ counted (count_in (kind_of b) all)
    held = was ∙ h.counts (kind_of b) small

    other : (kind : ℕ) → kind < 2049 → (kind ≡ kind_of b → ⊥) → slice_index_or c.counts.items kind 0 ≡ counted (count_in kind (all ++ b ∷ []))
    other kind l apart =
        let same : count_in kind (all ++ b ∷ []) ≡ count_in kind all + 0 = count_more kind all b ∙ ap (λ t. count_in kind all + cond t 1 0) (other_kind (kind_of b) kind (λ q. apart (sym q))) in
        let less : count_in kind all ≡ count_in kind (all ++ b ∷ []) = omega (arith, same) in
        ap (λ xs. slice_index_or xs kind 0) counts ∙ (get_or-set_other a.counts.items (kind_of b) kind count 0 apart ∙ (h.counts kind l ∙ ap counted less))

    own : slice_index_or c.counts.items (kind_of b) 0 ≡ counted (count_in (kind_of b) (all ++ b ∷ []))
    own =
        let same : count_in (kind_of b) (all ++ b ∷ []) ≡ count_in (kind_of b) all + 1 = count_more (kind_of b) all b ∙ ap (λ t. count_in (kind_of b) all + cond t 1 0) (own_kind (kind_of b)) in
        let e = held in
        let last : count ≡ counted (count_in (kind_of b) (all ++ b ∷ [])) = omega (arith, same, e, more) in
        ap (λ xs. slice_index_or xs (kind_of b) 0) counts ∙ (get_or-set_same a.counts.items (kind_of b) count 0 within ∙ last)

-- what a finding is made of
pub soon_is : (t : Terms) (log : List Entry) (s : Scene) (i j n : ℕ) (a : Anchor) → a.entry ≡ entry_at log i → Shows t log s (finding.Soon i j n)
    → Soon a.entry.line (s.entry.at - a.entry.at) (nearest_with s.rate s.stream s.bound n) ≡ broken_by t log (finding.Soon i j n)
soon_is t log s i j n a own h =
    ap (λ (e : Entry). Soon e.line (s.entry.at - e.at) (nearest_with s.rate s.stream s.bound n)) own
    ∙ (ap (λ (e : Entry). Soon (line_at log i) (e.at - stamp log i) (nearest_with s.rate s.stream s.bound n)) h.entry
    ∙ (ap (λ (r : Rate). Soon (line_at log i) (stamp log j - stamp log i) (nearest_with r s.stream s.bound n)) h.rate
    ∙ (ap (λ (x : Option Stream). Soon (line_at log i) (stamp log j - stamp log i) (nearest_with t.rate x s.bound n)) h.stream
    ∙ ap (λ (d : Option ℕ). Soon (line_at log i) (stamp log j - stamp log i) (nearest_with t.rate (stream_of t (entry_at log j).id) d n)) h.bound)))

pub crowded_is : (t : Terms) (log : List Entry) (s : Scene) (i j : ℕ) (x : Pile) → x.entry ≡ entry_at log i → j < length log
    → x.ticks + least_of (ticks_of t.rate) log (suc i) ≡ least_of (ticks_of t.rate) log j → Shows t log s (finding.Crowded i j)
    → Crowded x.entry.line (s.entry.at - x.entry.at) (x.ticks + least_bits s.entry.len * ticks_of s.rate) ≡ broken_by t log (finding.Crowded i j)
crowded_is t log s i j x own within counted_so h =
    let next = least-next (ticks_of t.rate) log j within in
    let all : x.ticks + least_bits (entry_at log j).len * ticks_of t.rate ≡ least_of (ticks_of t.rate) log (suc j) - least_of (ticks_of t.rate) log (suc i) = omega (arith, next, counted_so) in
    ap (λ (e : Entry). Crowded e.line (s.entry.at - e.at) (x.ticks + least_bits s.entry.len * ticks_of s.rate)) own
    ∙ (ap (λ (e : Entry). Crowded (line_at log i) (e.at - stamp log i) (x.ticks + least_bits e.len * ticks_of s.rate)) h.entry
    ∙ (ap (λ (r : Rate). Crowded (line_at log i) (stamp log j - stamp log i) (x.ticks + least_bits (entry_at log j).len * ticks_of r)) h.rate
    ∙ ap (λ n. Crowded (line_at log i) (stamp log j - stamp log i) n) all))

pub fallen_is : (t : Terms) (log : List Entry) (s : Scene) (i j : ℕ) (x : Top) → x.entry ≡ entry_at log i → Shows t log s (finding.Fallen i j)
    → Fallen x.entry.line (x.entry.at - s.entry.at) ≡ broken_by t log (finding.Fallen i j)
fallen_is t log s i j x own h =
    ap (λ (e : Entry). Fallen e.line (e.at - s.entry.at)) own ∙ ap (λ (e : Entry). Fallen (line_at log i) (stamp log i - e.at)) h.entry
