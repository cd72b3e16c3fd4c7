-- The subs of an object, one after the other.
use Rattle.std.proofs.Common.{◌≡◌, ℕ, zero, suc, ◌+◌, ◌-◌, ◌<◌, ◌≤◌, Bool, true, false, cond, ◌||◌, ◌&&◌, ◌==◌, nat_lt, nat_le, List, [], ◌∷◌, find, Option, None, Some, is_some, Result, Ok, Err, refl, sym, ap, ◌∙◌, arith}
use Rattle.std.proofs.lemmas.Bool.Decides.{nat_tests}
use Rattle.std.specs.Option.{option_to_list, option_map}
use Rattle.cop_tidy_device.specs.declared.device.DeviceObject.{DeviceObject}
use Rattle.cop_tidy_lines.specs.declared.names.SectionName.{SectionName}
use Rattle.cop_tidy_lines.specs.declared.names.SectionName.TheVariants as names
use Rattle.cop_tidy_lines.specs.declared.kinds.LineKind.{LineKind}
use Rattle.cop_tidy_lines.specs.declared.kinds.LineKind.TheVariants.{Silent, Header, Pair, Unknown}
use Rattle.std.specs.BTreeMap.{BTreeMap, get}
use Rattle.std.specs.Ordering.{nat_cmp, is_eq, is_gt, ordering_then}
use Rattle.std.specs.declared.cmp.Ordering.{Ordering}
use Rattle.std.specs.declared.cmp.Ordering.TheVariants.{Less, Equal, Greater}
use Rattle.cop_tidy_reading.specs.declared.contents.Section.{Section}
use Rattle.cop_tidy_reading.specs.Index.{place_cmp, HasFirsts, IsNext, is_sub_at}
use Rattle.cop_tidy_reading.proofs.IndexLemmas.{both_eq, number_eq}
use Rattle.cop_tidy_reading.specs.declared.question.Question.{Question}
use Rattle.cop_tidy_reading.specs.Questions.{◌>>=◌, both, with_first, all_of, asked_after}
use Rattle.cop_tidy_reading.specs.Gathering.{joined_by, gathered, all_clear}
use Rattle.cop_tidy_reading.specs.Items.{Said}
use Rattle.cop_tidy_reading.specs.Sections.{NamePlace, begins_at, section_at, section_named, is_sub_from, has_subs_from}
use Rattle.cop_tidy_reading.specs.Objects.{Whole, Main, sub_object, subs_from, check_sub_keys, sub_checks, check_subs}

subs_behind : (whole : Whole) (main : Main) (sub count : ℕ) → subs_from whole main sub (suc count) ≡ sub_object whole main sub ∷ subs_from whole main (sub + 1) count
unfolding subs_from
subs_behind whole main sub count = refl

-- the first of the subs that are left
pub next_sub : (whole : Whole) (main : Main) (sub : ℕ) → sub < 256 →
    subs_from whole main sub (256 - sub) ≡ sub_object whole main sub ∷ subs_from whole main (sub + 1) (256 - (sub + 1))
next_sub whole main sub lt =
    let e : 256 - sub ≡ suc (256 - (sub + 1)) = omega (arith, lt) in
    rw e (subs_behind whole main sub (256 - (sub + 1)))

checks_behind : (whole : Whole) (index sub count : ℕ) →
    sub_checks whole index sub (suc count) ≡ check_sub_keys whole (section_named whole.items (names.Sub index sub)) ∷ sub_checks whole index (sub + 1) count
unfolding sub_checks
checks_behind whole index sub count = refl

pub next_check : (whole : Whole) (index sub : ℕ) → sub < 256 →
    sub_checks whole index sub (256 - sub) ≡ check_sub_keys whole (section_named whole.items (names.Sub index sub)) ∷ sub_checks whole index (sub + 1) (256 - (sub + 1))
next_check whole index sub lt =
    let e : 256 - sub ≡ suc (256 - (sub + 1)) = omega (arith, lt) in
    rw e (checks_behind whole index sub (256 - (sub + 1)))

-- no sub is left
no_more : (sub : ℕ) → 256 ≤ sub → 256 - sub ≡ 0
no_more sub late = omega (arith, late)

pub last_sub : (e : Option Question) (found : List DeviceObject) (whole : Whole) (main : Main) (sub : ℕ) → 256 ≤ sub →
    gathered e found (joined_by option_to_list (all_of (subs_from whole main sub (256 - sub)))) ≡ gathered e found (Ok [])
unfolding subs_from all_of
last_sub e found whole main sub late = rw (no_more sub late) refl

pub last_check : (e : Option Question) (whole : Whole) (index sub : ℕ) → 256 ≤ sub → asked_after e (all_of (sub_checks whole index sub (256 - sub))) ≡ e
unfolding sub_checks all_of
last_check e whole index sub late = rw (no_more sub late) refl

-- ---- subs that have no section

abbrev sub_place : ℕ → ℕ → NamePlace
sub_place index sub = (1, index, sub)

apart : (index least other s sub : ℕ) → least ≤ sub → ((other == index) && nat_le least s) ≡ false → ((other == index) && (s == sub)) ≡ false
apart index least other s sub le e = grind (arith, nat_tests)

at_name : (index least sub : ℕ) (name : SectionName) → least ≤ sub → is_sub_from index least (Header name) ≡ false → begins_at (sub_place index sub) (Header name) ≡ false
at_name index least sub (names.Sub other s) le e = apart index least other s sub le e
at_name index least sub (names.Object other) le e = refl
at_name index least sub (names.Values other) le e = refl
at_name index least sub (names.List list) le e = refl
at_name index least sub names.DeviceInfo le e = refl
at_name index least sub (names.Names other) le e = refl
at_name index least sub names.Unread le e = refl

at_line : (index least sub : ℕ) (kind : LineKind) → least ≤ sub → is_sub_from index least kind ≡ false → begins_at (sub_place index sub) kind ≡ false
at_line index least sub (Header name) le e = at_name index least sub name le e
at_line index least sub (Pair key) le e = refl
at_line index least sub Silent le e = refl
at_line index least sub Unknown le e = refl

left_false : (a b : Bool) → (a || b) ≡ false → a ≡ false
left_false false b e = refl
left_false true b e = e

right_false : (a b : Bool) → (a || b) ≡ false → b ≡ false
right_false false b e = e
right_false true b e = cc

-- where no sub from one on has a section this one has none
pub none_there : (index least sub : ℕ) (items : List Said) → least ≤ sub → has_subs_from items index least ≡ false →
    find (λ item. begins_at (sub_place index sub) item.kind) items ≡ None
none_there index least sub [] le e = refl
none_there index least sub (x ∷ xs) le e =
    let first = left_false (is_sub_from index least x.kind) (has_subs_from xs index least) e in
    let rest = right_false (is_sub_from index least x.kind) (has_subs_from xs index least) e in
    rw (at_line index least sub x.kind le first) (none_there index least sub xs le rest)

none_named : (items : List Said) (index sub : ℕ) → has_subs_from items index 0 ≡ false → section_named items (names.Sub index sub) ≡ None
none_named items index sub e = rw (none_there index 0 sub items (omega arith) e) refl

abbrev clear_of : Result (List (Unit {0})) Question → Result (Unit {0}) Question
clear_of read = read >>= λ _. Ok tt

clear_behind : (read : Result (List (Unit {0})) Question) → clear_of read ≡ Ok tt → clear_of (with_first (both (Ok tt) read)) ≡ Ok tt
unfolding both
clear_behind (Ok list) e = refl
clear_behind (Err q) e = cc

none_asked : (whole : Whole) (index sub count : ℕ) → has_subs_from whole.items index 0 ≡ false → clear_of (all_of (sub_checks whole index sub count)) ≡ Ok tt
unfolding sub_checks all_of
none_asked whole index sub zero e = refl
none_asked whole index sub (suc count) e =
    rw (none_named whole.items index sub e) (clear_behind (all_of (sub_checks whole index (sub + 1) count)) (none_asked whole index (sub + 1) count e))

pub none_checked : (whole : Whole) (index : ℕ) → has_subs_from whole.items index 0 ≡ false → Ok tt ≡ check_subs whole index
none_checked whole index e = sym (none_asked whole index 0 256 e)

-- ---- the first sub that has a section

abbrev NoneFrom : List Said → ℕ → ℕ → Type 0
NoneFrom items index least = (sub : ℕ) → least ≤ sub → find (λ item. begins_at (sub_place index sub) item.kind) items ≡ None

same_there : (index other s : ℕ) → (other == index) ≡ true → ((other == index) && (s == s)) ≡ true
same_there index other s e = grind (arith, nat_tests)

by_sub : (index least other s : ℕ) (x : Said) (rest : Option Said) (t : Bool) → ((other == index) && nat_le least s) ≡ t →
    (least ≤ s → cond ((other == index) && (s == s)) (Some x) rest ≡ None) → t ≡ false
by_sub index least other s x rest false e none = refl
by_sub index least other s x rest true e none =
    let le : least ≤ s = grind (arith, nat_tests) in
    let eq : (other == index) ≡ true = grind (arith, nat_tests) in
    some_is (cond ((other == index) && (s == s)) (Some x) rest) x (rw (same_there index other s eq) refl) (none le)
  where
    some_is : (found : Option Said) (x : Said) → found ≡ Some x → found ≡ None → true ≡ false
    some_is None x f g = cc
    some_is (Some y) x f g = cc

not_first : (index least : ℕ) (kind : LineKind) (x : Said) (rest : ℕ → Option Said)
    → ((sub : ℕ) → least ≤ sub → cond (begins_at (sub_place index sub) kind) (Some x) (rest sub) ≡ None) → is_sub_from index least kind ≡ false
not_first index least (Header (names.Sub other s)) x rest none = by_sub index least other s x (rest s) ((other == index) && nat_le least s) refl (none s)
not_first index least (Header (names.Object other)) x rest none = refl
not_first index least (Header (names.Values other)) x rest none = refl
not_first index least (Header (names.List list)) x rest none = refl
not_first index least (Header names.DeviceInfo) x rest none = refl
not_first index least (Header (names.Names other)) x rest none = refl
not_first index least (Header names.Unread) x rest none = refl
not_first index least (Pair key) x rest none = refl
not_first index least Silent x rest none = refl
not_first index least Unknown x rest none = refl

not_behind : (t : Bool) (x : Said) (rest : Option Said) → cond t (Some x) rest ≡ None → rest ≡ None
not_behind true x rest e = cc
not_behind false x rest e = e

pub none_from : (items : List Said) (index least : ℕ) → NoneFrom items index least → has_subs_from items index least ≡ false
none_from [] index least none = refl
none_from (x ∷ xs) index least none =
    rw (not_first index least x.kind x (λ sub. find (λ item. begins_at (sub_place index sub) item.kind) xs) none)
    (none_from xs index least (λ sub le. not_behind (begins_at (sub_place index sub) x.kind) x _ (none sub le)))

-- ---- the order of places

gt_then : (r s : Ordering) → is_gt (ordering_then r s) ≡ (is_gt r || (is_eq r && is_gt s))
gt_then Less s = refl
gt_then Equal s = refl
gt_then Greater s = refl

gt_by : (m n : ℕ) (s t : Bool) → nat_lt m n ≡ s → (m == n) ≡ t → is_gt (cond s Less (cond t Equal Greater)) ≡ nat_lt n m
gt_by m n true t e f = grind (arith, nat_tests)
gt_by m n false true e f = grind (arith, nat_tests)
gt_by m n false false e f = grind (arith, nat_tests)

number_gt : (m n : ℕ) → is_gt (nat_cmp m n) ≡ nat_lt n m
number_gt m n = gt_by m n (nat_lt m n) (m == n) refl refl

-- a lies behind b
abbrev is_after : NamePlace → NamePlace → Bool
is_after a b = (nat_lt b.0 a.0 || ((a.0 == b.0) && nat_lt b.1 a.1)) || (((a.0 == b.0) && (a.1 == b.1)) && nat_lt b.2 a.2)

gt_place : (a b : NamePlace) → is_gt (place_cmp a b) ≡ is_after a b
gt_place a b =
    rw (
      gt_then (ordering_then (nat_cmp a.0 b.0) (nat_cmp a.1 b.1)) (nat_cmp a.2 b.2),
      gt_then (nat_cmp a.0 b.0) (nat_cmp a.1 b.1),
      both_eq (nat_cmp a.0 b.0) (nat_cmp a.1 b.1),
      number_eq a.0 b.0,
      number_eq a.1 b.1,
      number_gt a.0 b.0,
      number_gt a.1 b.1,
      number_gt a.2 b.2,
    ) refl

in_order : (index least sub : ℕ) → least ≤ sub → is_after (sub_place index least) (sub_place index sub) ≡ false
in_order index least sub le = grind (arith, nat_tests)

between : (index least sub : ℕ) (p : NamePlace) → is_after (sub_place index least) p ≡ false → is_after p (sub_place index sub) ≡ false →
    ((p.0 == 1) && (p.1 == index)) ≡ true
between index least sub p e f = grind (arith, nat_tests)

not_below : (index least : ℕ) (p : NamePlace) → is_after (sub_place index least) p ≡ false → ((p.0 == 1) && (p.1 == index)) ≡ true → least ≤ p.2
not_below index least p e f = grind (arith, nat_tests)

is_sub_place : (index : ℕ) (p : NamePlace) → ((p.0 == 1) && (p.1 == index)) ≡ true → p ≡ sub_place index p.2
is_sub_place index p e =
    let first : p.0 ≡ 1 = grind (arith, nat_tests) in
    let second : p.1 ≡ index = grind (arith, nat_tests) in
    ap (λ (x : ℕ). (x, p.1, p.2)) first ∙ ap (λ (x : ℕ). (sub_place x p.2)) second

unmapped : (found : Option Said) → option_map section_at found ≡ None → found ≡ None
unmapped None e = refl
unmapped (Some x) e = cc

none_is : (found : Option Section) → is_some found ≡ false → found ≡ None
none_is None e = refl
none_is (Some x) e = cc

no_some : (found : Option Section) → found ≡ None → is_some found ≡ true → false ≡ true
no_some None e f = f
no_some (Some x) e f = cc

-- whether the first place from a sub on is a sub of the index says whether such a sub has a section
pub decides : (items : List Said) (firsts : BTreeMap NamePlace Section) (index least : ℕ) (found : Option NamePlace) → HasFirsts items firsts →
    IsNext firsts (sub_place index least) found → is_sub_at index found ≡ has_subs_from items index least
decides items firsts index least None has next =
    sym (none_from items index least (λ sub le.
    unmapped _ (sym (has (sub_place index sub)) ∙ next (sub_place index sub) (gt_place (sub_place index least) (sub_place index sub) ∙ in_order index least sub le))))
decides items firsts index least (Some p) has next = by_test ((p.0 == 1) && (p.1 == index)) refl (has_subs_from items index least) refl
  where
    start : is_after (sub_place index least) p ≡ false
    start = sym (gt_place (sub_place index least) p) ∙ next.0

    by_test : (t : Bool) → ((p.0 == 1) && (p.1 == index)) ≡ t → (s : Bool) → has_subs_from items index least ≡ s → t ≡ s
    by_test true e true f = refl
    by_test true e false f =
        let none = none_there index least p.2 items (not_below index least p start e) f in
        let lacks : get place_cmp firsts p ≡ None = ap (λ q. get place_cmp firsts q) (is_sub_place index p e) ∙ has (sub_place index p.2) ∙ ap (λ x. option_map section_at x) none in
        sym (no_some (get place_cmp firsts p) lacks next.1)
    by_test false e s f = sym (sym f ∙ none_from items index least (λ sub le.
        unmapped _ (sym (has (sub_place index sub)) ∙ none_is _ (by_sub_test sub le (is_some (get place_cmp firsts (sub_place index sub))) refl))))
      where
        by_sub_test : (sub : ℕ) → least ≤ sub → (u : Bool) → is_some (get place_cmp firsts (sub_place index sub)) ≡ u → u ≡ false
        by_sub_test sub le false g = refl
        by_sub_test sub le true g =
            let before = gt_place (sub_place index least) (sub_place index sub) ∙ in_order index least sub le in
            let behind = sym (gt_place p (sub_place index sub)) ∙ next.2 (sub_place index sub) before g in
            sym (between index least sub p start behind) ∙ e
