-- Objects have sections of their own.
use Rattle.std.proofs.Common.{◌≡◌, ◌⊎◌, inl, inr, ◌≤◌, ◌<◌, ◌+◌, ◌*◌, ℕ, zero, suc, Bool, true, false, cond, nat_lt, ◌==◌, List, [], ◌∷◌, ◌++◌, find, Option, Some, None, Result, Ok, Err, refl, sym, ap, ◌∙◌, subst, arith}
use Rattle.std.specs.List.{flat_map, list_any}
use Rattle.std.specs.Option.{option_map}
use Rattle.std.proofs.lemmas.Bool.Decides.{nat_tests}
use Rattle.cop_eds.specs.declared.fault.Refusal.{Refusal}
use Rattle.cop_eds.specs.declared.line.Kind.{Kind}
use Rattle.cop_eds.specs.declared.line.Kind.TheVariants.{Other, Header, Pair}
use Rattle.cop_eds.specs.declared.line.Place.{Place}
use Rattle.cop_eds.specs.declared.description.Access.{Access}
use Rattle.cop_eds.specs.declared.description.Description.{Description}
use Rattle.cop_eds.specs.declared.description.Object.{Object}
use Rattle.cop_eds.specs.Text.{name_of}
use Rattle.cop_eds.specs.Names.{object_code, sub_code, code_of, has_code}
use Rattle.cop_eds.specs.Lines.{is_kind, header_count}
use Rattle.cop_eds.specs.Sections.{coded_place}
use Rattle.cop_eds.specs.Description.{described, holds_value, holds_subs}
use Rattle.cop_eds.specs.Lists.{sub_found, subs_from, subs_of, listed}
use Rattle.cop_eds.specs.Objects.{with_access, object_in, sub_object, objects_by, objects_from, objects_at, rising, objects_listed, objects_of}
use Rattle.cop_eds.specs.Rows.{Row, rows_of, has_number}
use Rattle.cop_eds.specs.Edits.{is_entry}
use Rattle.cop_eds.proofs.RowLemmas.{coded_row}
use Rattle.cop_eds.proofs.EditLemmas.{and_left, and_right, any_found, found_test, sections_equal}
use Rattle.cop_eds.proofs.RawLemmas.{rows_are_written}
use Rattle.cop_eds.proofs.SpelledLemmas.{AreSpelled, written_spelled}

-- the object stands in its own section, or in that of its sub
pub record IsHome (text : List ℕ) (o : Object) : Type 0 where
  pub code : ℕ
  pub there : coded_place text code ≡ Some o.place
  pub small : o.sub ≤ 255
  pub own : ((code ≡ o.index * 257) × (o.sub ≡ 0)) ⊎ (code ≡ o.index * 257 + (o.sub + 1))

unfoldable pub AreHome : List ℕ → List Object → Type 0
AreHome text [] = Unit {0}
AreHome text (o ∷ os) = IsHome text o × AreHome text os

none_home : (text : List ℕ) → AreHome text []
unfolding AreHome
none_home text = tt

home_append : (text : List ℕ) (xs ys : List Object) → AreHome text xs → AreHome text ys → AreHome text (xs ++ ys)
unfolding AreHome
home_append text [] ys h k = k
home_append text (x ∷ xs) ys h k = (h.0, home_append text xs ys h.1 k)

object_home : (text : List ℕ) (index sub code : ℕ) (place : Place) (r : Result Description Refusal) → coded_place text code ≡ Some place → sub ≤ 255
    → ((code ≡ index * 257) × (sub ≡ 0)) ⊎ (code ≡ index * 257 + (sub + 1)) → AreHome text (object_in index sub place r)
unfolding AreHome
object_home text index sub code place (Err e) there small own = none_home text
object_home text index sub code place (Ok d) there small own = by_test (holds_value d.object_type)
  where
    by_access : (a : Option Access) → AreHome text (with_access index sub place d a)
    by_access None = tt
    by_access (Some a) = (record { code = code; there = there; small = small; own = own }, tt)

    by_test : (b : Bool) → AreHome text (cond b (with_access index sub place d d.access) [])
    by_test true = by_access d.access
    by_test false = none_home text

subs_home : (text : List ℕ) (index sub count : ℕ) → sub + count ≤ 256 → AreHome text (flat_map (sub_object text index) (subs_from text index sub count))
unfolding subs_from
subs_home text index sub zero le = none_home text
subs_home text index sub (suc count) le = by_place (coded_place text (sub_code index sub)) refl (subs_home text index (sub + 1) count (omega arith))
  where
    by_place : (o : Option Place) → coded_place text (sub_code index sub) ≡ o → AreHome text (flat_map (sub_object text index) (subs_from text index (sub + 1) count))
        → AreHome text (flat_map (sub_object text index) (sub_found sub o ++ subs_from text index (sub + 1) count))
    by_place None is later = later
    by_place (Some place) is later =
        home_append text (object_in index sub place (described text place)) (flat_map (sub_object text index) (subs_from text index (sub + 1) count))
        (object_home text index sub (sub_code index sub) place (described text place) is (omega arith) (inr refl)) later

at_home : (text : List ℕ) (index : ℕ) → AreHome text (objects_at text index)
unfolding objects_at
at_home text index = by_bound (nat_lt 65535 index)
  where
    by_kind : (d : Description) (place : Place) → coded_place text (object_code index) ≡ Some place → (b : Bool)
        → AreHome text (cond b (flat_map (sub_object text index) (subs_of text index)) (object_in index 0 place (Ok d)))
    by_kind d place is true = subs_home text index 0 256 (omega arith)
    by_kind d place is false = object_home text index 0 (object_code index) place (Ok d) is (omega arith) (inl (refl, refl))

    by_described : (place : Place) → coded_place text (object_code index) ≡ Some place → (r : Result Description Refusal) → AreHome text (objects_by text index place r)
    by_described place is (Err e) = none_home text
    by_described place is (Ok d) = by_kind d place is (holds_subs d.object_type)

    by_place : (o : Option Place) → coded_place text (object_code index) ≡ o → AreHome text (objects_from text index o)
    by_place None is = none_home text
    by_place (Some place) is = by_described place is (described text place)

    by_bound : (b : Bool) → AreHome text (objects_from text index (cond b None (coded_place text (object_code index))))
    by_bound true = none_home text
    by_bound false = by_place (coded_place text (object_code index)) refl

listed_home : (text : List ℕ) (xs : List ℕ) → AreHome text (flat_map (objects_at text) xs)
listed_home text [] = none_home text
listed_home text (x ∷ xs) = home_append text (objects_at text x) (flat_map (objects_at text) xs) (at_home text x) (listed_home text xs)

-- the objects of a text
pub objects_home : (text : List ℕ) → AreHome text (objects_of text)
objects_home text = by_listed (listed text)
  where
    by_listed : (r : Result (List ℕ) Refusal) → AreHome text (objects_listed text r)
    by_listed (Err e) = none_home text
    by_listed (Ok indexes) = listed_home text (rising indexes)

pub found_home : (text : List ℕ) (p : Object → Bool) (os : List Object) (o : Object) → AreHome text os → find p os ≡ Some o → IsHome text o
unfolding AreHome
found_home text p [] o h e = cc
found_home text p (x ∷ xs) o h e = by_test (p x) e (found_home text p xs o h.1)
  where
    by_test : (b : Bool) → cond b (Some x) (find p xs) ≡ Some o → (find p xs ≡ Some o → IsHome text o) → IsHome text o
    by_test true k later = let same : x ≡ o = cc in subst (IsHome text) same h.0
    by_test false k later = later k

-- ---- sections rise with their headers

pub header_past : (before : ℕ) (q : Row → Bool) (rows : List Row) (r : Row) → AreSpelled before rows → find q rows ≡ Some r → r.kind ≡ Header → before < r.section
unfolding AreSpelled
header_past before q [] r h e kind = cc
header_past before q (x ∷ xs) r h e kind = by_test (q x) e (λ k. header_past x.section q xs r h.2 k kind)
  where
    place : x.section ≡ before + header_count x.kind
    place = h.0.section

    by_test : (b : Bool) → cond b (Some x) (find q xs) ≡ Some r → (find q xs ≡ Some r → x.section < r.section) → before < r.section
    by_test true k later =
        let same : x ≡ r = cc in
        let head : x.kind ≡ Header = ap (λ (y : Row). y.kind) same ∙ kind in
        let own : x.section ≡ before + 1 = place ∙ ap (λ k. before + header_count k) head in
        let there : r.section ≡ x.section = ap (λ (y : Row). y.section) (sym same) in
        omega (arith, own, there)
    by_test false k later = let l = later k in omega (arith, l, place)

one_header : (before : ℕ) (p q : Row → Bool) (rows : List Row) (r s : Row) → AreSpelled before rows → find p rows ≡ Some r → find q rows ≡ Some s
    → r.kind ≡ Header → s.kind ≡ Header → r.section ≡ s.section → r ≡ s
unfolding AreSpelled
one_header before p q [] r s h e f rk sk same = cc
one_header before p q (x ∷ xs) r s h e f rk sk same = by_tests (p x) (q x) e f (λ k l. one_header x.section p q xs r s h.2 k l rk sk same)
  where
    by_tests : (b c : Bool) → cond b (Some x) (find p xs) ≡ Some r → cond c (Some x) (find q xs) ≡ Some s → (find p xs ≡ Some r → find q xs ≡ Some s → r ≡ s) → r ≡ s
    by_tests true true k l later =
        let a : x ≡ r = cc in
        let b : x ≡ s = cc in
        sym a ∙ b
    by_tests true false k l later =
        let a : x ≡ r = cc in
        let past = header_past x.section q xs s h.2 l sk in
        let there : x.section ≡ r.section = ap (λ (y : Row). y.section) a in
        absurd (omega (arith, past, there, same))
    by_tests false true k l later =
        let a : x ≡ s = cc in
        let past = header_past x.section p xs r h.2 k rk in
        let there : x.section ≡ s.section = ap (λ (y : Row). y.section) a in
        absurd (omega (arith, past, there, same))
    by_tests false false k l later = later k l

pub kind_is_header : (kind : Kind) → is_kind kind Header ≡ true → kind ≡ Header
kind_is_header Other e = cc
kind_is_header Header e = refl
kind_is_header Pair e = cc

code_is : (o : Option ℕ) (code : ℕ) → has_code o code ≡ true → o ≡ Some code
code_is None code h = cc
code_is (Some m) code h = ap Some (sections_equal m code h)

pub spelled_rows : (text : List ℕ) → AreSpelled 0 (rows_of text)
spelled_rows text = written_spelled 0 (rows_of text) (rows_are_written text)

-- the header of an object's section
pub record HomeRow (text : List ℕ) (o : Object) (code : ℕ) : Type 0 where
  pub row : Row
  pub found : find (has_number code) (rows_of text) ≡ Some row
  pub place : row.section ≡ o.place.section
  pub header : row.kind ≡ Header
  pub coded : code_of (name_of row.body) ≡ Some code

pub home_row : (text : List ℕ) (o : Object) (h : IsHome text o) → HomeRow text o h.code
home_row text o h = by_found (find (has_number h.code) (rows_of text)) refl (sym (coded_row text h.code) ∙ ap (option_map (λ place. place.section)) h.there)
  where
    by_found : (x : Option Row) → find (has_number h.code) (rows_of text) ≡ x → option_map (λ row. row.section) x ≡ Some o.place.section → HomeRow text o h.code
    by_found None is e = cc
    by_found (Some row) is e =
        let test : has_number h.code row ≡ true = found_test (has_number h.code) (rows_of text) row is in
        record {
          row = row;
          found = is;
          place = cc;
          header = kind_is_header row.kind (and_left _ _ test);
          coded = code_is (code_of (name_of row.body)) h.code (and_right (is_kind row.kind Header) _ test);
        }

pub home_past : (text : List ℕ) (o : Object) → IsHome text o → 0 < o.place.section
home_past text o h =
    let r = home_row text o h in
    let past : 0 < r.row.section = header_past 0 (has_number h.code) (rows_of text) r.row (spelled_rows text) r.found r.header in
    omega (arith, past, r.place)

-- a section has a header or a key
pub home_entry : (text : List ℕ) (o : Object) → IsHome text o → list_any (is_entry o.place.section) (rows_of text) ≡ true
home_entry text o h =
    let r = home_row text o h in
    let there : (r.row.section == o.place.section) ≡ true = let e = r.place in grind (arith, nat_tests) in
    any_found (has_number h.code) (is_entry o.place.section) (rows_of text) r.row r.found (rw (r.header, there) refl)

some_same : (a b : ℕ) → Some a ≡ Some b → a ≡ b
some_same a b e = cc

-- objects of one section have one index and sub
pub same_home : (text : List ℕ) (o p : Object) → IsHome text o → IsHome text p → o.place.section ≡ p.place.section → (o.index ≡ p.index) × (o.sub ≡ p.sub)
same_home text o p h k e = by_own h.own k.own
  where
    r : HomeRow text o h.code
    r = home_row text o h

    s : HomeRow text p k.code
    s = home_row text p k

    row : r.row ≡ s.row
    row = one_header 0 (has_number h.code) (has_number k.code) (rows_of text) r.row s.row (spelled_rows text) r.found s.found r.header s.header (r.place ∙ e ∙ sym s.place)

    code : h.code ≡ k.code
    code = some_same h.code k.code (sym r.coded ∙ ap (λ (x : Row). code_of (name_of x.body)) row ∙ s.coded)

    first : o.sub ≤ 255
    first = h.small

    second : p.sub ≤ 255
    second = k.small

    by_own : ((h.code ≡ o.index * 257) × (o.sub ≡ 0)) ⊎ (h.code ≡ o.index * 257 + (o.sub + 1)) → ((k.code ≡ p.index * 257) × (p.sub ≡ 0)) ⊎ (k.code ≡ p.index * 257 + (p.sub + 1))
        → (o.index ≡ p.index) × (o.sub ≡ p.sub)
    by_own (inl a) (inl b) = (omega (arith, a.0, b.0, code), omega (arith, a.1, b.1))
    by_own (inl a) (inr b) = absurd (omega (arith, a.0, b, code, second))
    by_own (inr a) (inl b) = absurd (omega (arith, a, b.0, code, first))
    by_own (inr a) (inr b) = (omega (arith, a, b, code, first, second), omega (arith, a, b, code, first, second))
