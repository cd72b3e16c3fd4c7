-- A step of the walk over two dictionaries leaves what is told of the rest.
use Rattle.std.proofs.Common.{◌≡◌, ◌<◌, inl, inr, ℕ, zero, suc, Bool, true, false, ◌==◌, ◌&&◌, ◌||◌, nat_lt, List, [], ◌∷◌, ◌++◌, length, get_or, drop, find, option_map, Option, Some, None, refl, sym, subst, arith, append_assoc, All}
use Rattle.std.specs.List.{cons_option}
use Rattle.std.proofs.lemmas.List.{append-nil}
use Rattle.std.proofs.lemmas.Bool.{eqb-true, and_parts}
use Rattle.std.proofs.lemmas.Bool.Decides.{nat_tests}
use Rattle.std.proofs.lemmas.List.Kept.{AllPairs-cons}
use Rattle.cop_dict.specs.Find.{Entry, is_at, entry_at, IsSorted}
use Rattle.cop_compare.specs.declared.difference.Change.{Change}
use Rattle.cop_compare.specs.declared.difference.Change.TheVariants.{Gone, New}
use Rattle.cop_compare.specs.declared.difference.Difference.{Difference}
use Rattle.cop_compare.specs.declared.comparing.Step.{Step}
use Rattle.cop_compare.specs.Differences.{IsChangeOf, IsChange, change_at, precedes, AreDifferences}
use Rattle.cop_compare.specs.Steps.{difference_at, over_old, over_new, over_both, IsOverFirst, IsStep}

-- ---- addresses

-- an address is less than another
abbrev pub less : ℕ → ℕ → ℕ → ℕ → Bool
less i s j t = nat_lt i j || ((i == j) && nat_lt s t)

abbrev same : ℕ → ℕ → ℕ → ℕ → Bool
same i s j t = (i == j) && (s == t)

less_trans : (i s j t k u : ℕ) → less i s j t ≡ true → less j t k u ≡ true → less i s k u ≡ true
less_trans i s j t k u a b = grind (arith, nat_tests)

-- where one address is less than another, it isn't the other, nor is the other one that isn't above the first
less_apart : (i s j t k u : ℕ) → less i s j t ≡ true → less i s k u ≡ false → same j t k u ≡ false
less_apart i s j t k u a b = grind (arith, nat_tests)

not_less_itself : (i s : ℕ) → less i s i s ≡ false
not_less_itself i s = grind (arith, nat_tests)

-- ---- entries behind an address

abbrev pub After : ℕ → ℕ → List Entry → Type 0
After i s [] = Unit {0}
After i s (e ∷ es) = (less i s e.index e.sub ≡ true) × After i s es

after_more : (i s j t : ℕ) (es : List Entry) → less i s j t ≡ true → After j t es → After i s es
after_more i s j t [] lt h = tt
after_more i s j t (e ∷ es) lt h = (less_trans i s j t e.index e.sub lt h.0, after_more i s j t es lt h.1)

-- none of them stands at an address that isn't behind it
pub none_until : (i s j t : ℕ) (es : List Entry) → After i s es → less i s j t ≡ false → entry_at es j t ≡ None
none_until i s j t [] h lt = refl
none_until i s j t (e ∷ es) h lt = let apart : is_at j t e ≡ false = less_apart i s e.index e.sub j t h.0 lt in rw apart (none_until i s j t es h.1 lt)

pub sorted_rest : (e : Entry) (es : List Entry) → IsSorted (e ∷ es) → IsSorted es
sorted_rest e es sorted i j d lt inside = sorted (suc i) (suc j) d (omega arith) (omega arith)

after_here : (i s : ℕ) (es : List Entry) → ((k : ℕ) (d : Entry) → k < length es → less i s (get_or es k d).index (get_or es k d).sub ≡ true) → After i s es
after_here i s [] all = tt
after_here i s (e ∷ es) all = (all 0 e (omega arith), after_here i s es (λ k d lt. all (suc k) d (omega arith)))

pub after_first : (e : Entry) (es : List Entry) → IsSorted (e ∷ es) → After e.index e.sub es
after_first e es sorted = after_here e.index e.sub es (λ k d lt. sorted 0 (suc k) d (omega arith) (omega arith))

-- ---- lists that an address begins

-- a list has more than another at one address alone, behind which the other stands
record Begins (i s : ℕ) (rest all : List Entry) : Type 0 where
  others : (j t : ℕ) → same i s j t ≡ false → entry_at all j t ≡ entry_at rest j t
  after : After i s rest

-- the first entry begins a list
first_begins : (e : Entry) (es : List Entry) → IsSorted (e ∷ es) → Begins e.index e.sub es (e ∷ es)
first_begins e es sorted = record { others = λ j t apart. rw apart refl; after = after_first e es sorted }

-- and an address before it
none_begins : (i s : ℕ) (es : List Entry) → After i s es → Begins i s es es
none_begins i s es h = record { others = λ j t apart. refl; after = h }

pub before_begins : (i s : ℕ) (e : Entry) (es : List Entry) → IsSorted (e ∷ es) → less i s e.index e.sub ≡ true → After i s (e ∷ es)
before_begins i s e es sorted lt = (lt, after_more i s e.index e.sub es lt (after_first e es sorted))

-- ---- differences behind an address

found_there : (p : Difference → Bool) (ds : List Difference) (k : ℕ) (d : Difference) → k < length ds → p (get_or ds k d) ≡ true → option_map (λ one. one.change) (find p ds) ≡ None → ⊥
found_there p [] k d lt h e = omega arith
found_there p (x ∷ ds) zero d lt h e = let none = rw h at e in cc
found_there p (x ∷ ds) (suc k) d lt h e = by_test (p x) refl (λ rest. found_there p ds k d (omega arith) h rest)
  where
    by_test : (b : Bool) → p x ≡ b → (option_map (λ one. one.change) (find p ds) ≡ None → ⊥) → ⊥
    by_test true t later = let none = rw t at e in cc
    by_test false f later = later (rw f at e)

neither : (x y : Option Entry) (c : Option Change) → x ≡ None → y ≡ None → IsChange x y c → c ≡ None
neither None None c a b h = h
neither (Some e) y c a b h = cc
neither None (Some e) c a b h = cc

-- all differences of entries behind an address are behind it
all_behind : (i s : ℕ) (o n : List Entry) (ds : List Difference) → After i s o → After i s n → AreDifferences o n ds → All (λ d. less i s d.index d.sub ≡ true) ds
all_behind i s o n ds a b h k d lt = by_order (less i s (get_or ds k d).index (get_or ds k d).sub) refl
  where
    itself : (x : Difference) → same x.index x.sub x.index x.sub ≡ true
    itself x = grind (arith, nat_tests)

    by_order : (t : Bool) → less i s (get_or ds k d).index (get_or ds k d).sub ≡ t → less i s (get_or ds k d).index (get_or ds k d).sub ≡ true
    by_order true t = t
    by_order false f =
        let x = get_or ds k d in
        absurd
        (found_there (λ one. same one.index one.sub x.index x.sub) ds k d lt (itself x)
        (neither (entry_at o x.index x.sub) (entry_at n x.index x.sub) (change_at ds x.index x.sub)
        (none_until i s x.index x.sub o a f) (none_until i s x.index x.sub n b f) (h.each x.index x.sub)))

-- ---- one address more

moved : (x y v w : Option Entry) (c d : Option Change) → v ≡ x → w ≡ y → d ≡ c → IsChange x y c → IsChange v w d
moved x y v w c d a b e h = rw (a, b, e) h

module _ (i s : ℕ) (o n old new : List Entry) (ds : List Difference) (p : Begins i s o old) (q : Begins i s n new) (rest : AreDifferences o n ds) where
  elsewhere : (j t : ℕ) (c : Option Change) → same i s j t ≡ false → c ≡ change_at ds j t → IsChange (entry_at old j t) (entry_at new j t) c
  elsewhere j t c apart e = moved (entry_at o j t) (entry_at n j t) (entry_at old j t) (entry_at new j t) (change_at ds j t) c (p.others j t apart) (q.others j t apart) e (rest.each j t)

  here : (j t : ℕ) (c d : Option Change) → same i s j t ≡ true → d ≡ c → IsChange (entry_at old i s) (entry_at new i s) c → IsChange (entry_at old j t) (entry_at new j t) d
  here j t c d there e h =
      let parts = and_parts (i == j) (s == t) there in
      let a : i ≡ j = eqb-true i j parts.0 in
      let b : s ≡ t = eqb-true s t parts.1 in
      let A : ℕ → Type 0 = λ k. IsChange (entry_at old k s) (entry_at new k s) d in
      let B : ℕ → Type 0 = λ k. IsChange (entry_at old j k) (entry_at new j k) d in
      subst B b (subst A a (rw e h))

  none_here : change_at ds i s ≡ None
  none_here =
      neither (entry_at o i s) (entry_at n i s) (change_at ds i s)
      (none_until i s i s o p.after (not_less_itself i s)) (none_until i s i s n q.after (not_less_itself i s)) (rest.each i s)

  alike_there : IsChange (entry_at old i s) (entry_at new i s) None → AreDifferences old new ds
  alike_there h = record { rise = rest.rise; each = λ j t. by_test j t (same i s j t) refl }
    where
      none_at : (j t : ℕ) → same i s j t ≡ true → change_at ds j t ≡ None
      none_at j t there =
          let parts = and_parts (i == j) (s == t) there in
          let a : i ≡ j = eqb-true i j parts.0 in
          let b : s ≡ t = eqb-true s t parts.1 in
          let A : ℕ → Type 0 = λ k. change_at ds k s ≡ None in
          let B : ℕ → Type 0 = λ k. change_at ds j k ≡ None in
          subst B b (subst A a none_here)

      by_test : (j t : ℕ) (b : Bool) → same i s j t ≡ b → IsChange (entry_at old j t) (entry_at new j t) (change_at ds j t)
      by_test j t true there = here j t None (change_at ds j t) there (none_at j t there) h
      by_test j t false apart = elsewhere j t (change_at ds j t) apart refl

  differ_there : (c : Change) → IsChange (entry_at old i s) (entry_at new i s) (Some c) → AreDifferences old new (record { index = i; sub = s; change = c } ∷ ds)
  differ_there c h =
      record {
        rise = AllPairs-cons (λ one later. precedes one later ≡ true) (record { index = i; sub = s; change = c }) ds (all_behind i s o n ds p.after q.after rest) rest.rise;
        each = λ j t. by_test j t (same i s j t) refl;
      }
    where
      by_test : (j t : ℕ) (b : Bool) → same i s j t ≡ b → IsChange (entry_at old j t) (entry_at new j t) (change_at (record { index = i; sub = s; change = c } ∷ ds) j t)
      by_test j t true there = here j t (Some c) (change_at (record { index = i; sub = s; change = c } ∷ ds) j t) there (rw there refl) h
      by_test j t false apart = elsewhere j t (change_at (record { index = i; sub = s; change = c } ∷ ds) j t) apart (rw apart refl)

  with_change : (e : Entry) (c : Option Change) → e.index ≡ i → e.sub ≡ s → IsChange (entry_at old i s) (entry_at new i s) c → AreDifferences old new (cons_option (option_map (difference_at e) c) [] ++ ds)
  with_change e None a b h = alike_there h
  with_change e (Some c) a b h =
      let D : ℕ → Type 0 = λ k. AreDifferences old new (record { index = k; sub = s; change = c } ∷ ds) in
      let E : ℕ → Type 0 = λ k. AreDifferences old new (record { index = e.index; sub = k; change = c } ∷ ds) in
      subst E (sym b) (subst D (sym a) (differ_there c h))

-- ---- a step

-- what a step leaves is sorted, and its differences complete those that the step tells
record Leads (old new : List Entry) (step : Step) : Type 0 where
  old_sorted : IsSorted (drop step.old_count old)
  new_sorted : IsSorted (drop step.new_count new)
  completes : (rest : List Difference) → AreDifferences (drop step.old_count old) (drop step.new_count new) rest → AreDifferences old new (cons_option step.difference [] ++ rest)

pub at_first : (e : Entry) (es : List Entry) → entry_at (e ∷ es) e.index e.sub ≡ Some e
at_first e es = let itself : is_at e.index e.sub e ≡ true = grind (arith, nat_tests) in rw itself refl

pub none_there : (e : Entry) (es : List Entry) → After e.index e.sub es → entry_at es e.index e.sub ≡ None
none_there e es h = none_until e.index e.sub e.index e.sub es h (not_less_itself e.index e.sub)

leads_over_old : (e : Entry) (o n : List Entry) → IsSorted (e ∷ o) → IsSorted n → After e.index e.sub n → Leads (e ∷ o) n (over_old e)
leads_over_old e o n p q h =
    record {
      old_sorted = sorted_rest e o p;
      new_sorted = q;
      completes =
          λ rest d.
          with_change e.index e.sub o n (e ∷ o) n rest (first_begins e o p) (none_begins e.index e.sub n h) d e (Some Gone) refl refl
          (moved (Some e) None (entry_at (e ∷ o) e.index e.sub) (entry_at n e.index e.sub) (Some Gone) (Some Gone) (at_first e o) (none_there e n h) refl refl);
    }

leads_over_new : (e : Entry) (o n : List Entry) → IsSorted o → IsSorted (e ∷ n) → After e.index e.sub o → Leads o (e ∷ n) (over_new e)
leads_over_new e o n p q h =
    record {
      old_sorted = p;
      new_sorted = sorted_rest e n q;
      completes =
          λ rest d.
          with_change e.index e.sub o n o (e ∷ n) rest (none_begins e.index e.sub o h) (first_begins e n q) d e (Some New) refl refl
          (moved None (Some e) (entry_at o e.index e.sub) (entry_at (e ∷ n) e.index e.sub) (Some New) (Some New) (none_there e o h) (at_first e n) refl refl);
    }

leads_over_both : (e f : Entry) (o n : List Entry) (c : Option Change) → IsSorted (e ∷ o) → IsSorted (f ∷ n) → is_at f.index f.sub e ≡ true → IsChangeOf e f c → Leads (e ∷ o) (f ∷ n) (over_both e c)
leads_over_both e f o n c p q same h =
    record {
      old_sorted = sorted_rest e o p;
      new_sorted = sorted_rest f n q;
      completes = λ rest d. with_change f.index f.sub o n (e ∷ o) (f ∷ n) rest begins (first_begins f n q) d e c a b
          (moved (Some e) (Some f) (entry_at (e ∷ o) f.index f.sub) (entry_at (f ∷ n) f.index f.sub) c c (rw same refl) (at_first f n) refl h);
    }
  where
    a : e.index ≡ f.index
    a = eqb-true e.index f.index (and_parts (e.index == f.index) (e.sub == f.sub) same).0

    b : e.sub ≡ f.sub
    b = eqb-true e.sub f.sub (and_parts (e.index == f.index) (e.sub == f.sub) same).1

    begins : Begins f.index f.sub o (e ∷ o)
    begins =
        let A : ℕ → Type 0 = λ k. Begins k e.sub o (e ∷ o) in
        let B : ℕ → Type 0 = λ k. Begins f.index k o (e ∷ o) in
        subst B b (subst A a (first_begins e o p))

leads_over_first : (e f : Entry) (o n : List Entry) (step : Step) → IsSorted (e ∷ o) → IsSorted (f ∷ n) → IsOverFirst e f step → Leads (e ∷ o) (f ∷ n) step
leads_over_first e f o n step p q (inl h) =
    subst (Leads (e ∷ o) (f ∷ n)) (sym h.1) (leads_over_old e o (f ∷ n) p q (before_begins e.index e.sub f n q h.0))
leads_over_first e f o n step p q (inr (inl h)) =
    subst (Leads (e ∷ o) (f ∷ n)) (sym h.1) (leads_over_new f (e ∷ o) n p q (before_begins f.index f.sub e o p h.0))
leads_over_first e f o n step p q (inr (inr h)) =
    subst (Leads (e ∷ o) (f ∷ n)) (sym h.1.2) (leads_over_both e f o n h.1.0 p q h.0 h.1.1)

leads : (old new : List Entry) (step : Step) → IsSorted old → IsSorted new → IsStep old new (Some step) → Leads old new step
leads [] [] step p q h = cc
leads (e ∷ o) [] step p q h = let is : over_old e ≡ step = cc in subst (Leads (e ∷ o) []) is (leads_over_old e o [] p q tt)
leads [] (f ∷ n) step p q h = let is : over_new f ≡ step = cc in subst (Leads [] (f ∷ n)) is (leads_over_new f [] n p q tt)
leads (e ∷ o) (f ∷ n) step p q h = leads_over_first e f o n step p q h

-- ---- the walk

-- what differs in what is left of two lists completes what is told of the whole
pub record Walked (first second old new : List Entry) (all : List Difference) : Type 0 where
  pub old_sorted : IsSorted old
  pub new_sorted : IsSorted new
  pub completes : (rest : List Difference) → AreDifferences old new rest → AreDifferences first second (all ++ rest)

pub at_start : (first second old new : List Entry) (all : List Difference) → IsSorted first → IsSorted second → old ≡ first → new ≡ second → all ≡ [] → Walked first second old new all
at_start first second old new all p q a b e =
    record { old_sorted = subst IsSorted (sym a) p; new_sorted = subst IsSorted (sym b) q; completes = λ rest h. let P : List Difference → Type 0 = λ ds. AreDifferences first second (ds ++ rest) in subst P (sym e) (rw (a, b) at h) }

pub goes_on : (first second old new old_rest new_rest : List Entry) (all more : List Difference) (step : Step) → Walked first second old new all → IsStep old new (Some step)
    → old_rest ≡ drop step.old_count old → new_rest ≡ drop step.new_count new → more ≡ all ++ cons_option step.difference [] → Walked first second old_rest new_rest more
goes_on first second old new old_rest new_rest all more step w h a b e = by_step (leads old new step w.old_sorted w.new_sorted h)
  where
    longer : (rest : List Difference) → AreDifferences first second (all ++ (cons_option step.difference [] ++ rest)) → AreDifferences first second (more ++ rest)
    longer rest d = rw (e, append_assoc) d

    by_step : Leads old new step → Walked first second old_rest new_rest more
    by_step l =
        record {
          old_sorted = subst IsSorted (sym a) l.old_sorted;
          new_sorted = subst IsSorted (sym b) l.new_sorted;
          completes = λ rest d. longer rest (w.completes (cons_option step.difference [] ++ rest) (l.completes rest (rw (a, b) at d)));
        }

-- ---- the end

nothing_left : AreDifferences [] [] []
nothing_left = record { rise = λ i j x lt inside. absurd (omega arith); each = λ index sub. refl }

pub at_end : (first second old new : List Entry) (all : List Difference) → Walked first second old new all → IsStep old new None → AreDifferences first second all
at_end first second [] [] all w h = rw append-nil at (w.completes [] nothing_left)
at_end first second (e ∷ o) [] all w h = cc
at_end first second [] (f ∷ n) all w h = cc
at_end first second (e ∷ o) (f ∷ n) all w h = absurd h
