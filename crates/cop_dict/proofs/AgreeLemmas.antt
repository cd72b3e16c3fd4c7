-- What a text's dictionary is read from: the objects, and the values of four keys in their sections.
use Rattle.std.proofs.Common.{◌≡◌, ℕ, Bool, true, false, cond, List, [], ◌∷◌, map, Option, Some, None, Result, Ok, refl, ap, ◌∙◌, codes, ℤ}
use Rattle.std.specs.Option.{option_map, option_or}
use Rattle.cop_eds.specs.declared.fault.Refusal.{Refusal}
use Rattle.cop_eds.specs.declared.description.Object.{Object}
use Rattle.cop_eds.specs.Steps.{◌>>=◌}
use Rattle.cop_eds.specs.Amount.{amount_of}
use Rattle.cop_eds.specs.Kept.{Seen, seen}
use Rattle.cop_eds.specs.Sections.{entry_of, value_in}
use Rattle.cop_eds.specs.Objects.{objects_of}
use Rattle.cop_eds.proofs.ReadingLemmas.{bind_ok, then_ok, SameValue, standing}
use Rattle.cop_dict.specs.declared.data_type.DataType.{DataType}
use Rattle.cop_dict.specs.Types.{greatest_of, is_text, type_numbered}
use Rattle.cop_dict.specs.Patterns.{pattern_at, pattern_by}
use Rattle.cop_dict.specs.Find.{Entry}
use Rattle.cop_dict.specs.Build.{AgreesWith, initial_number, initial_of, limit_number, limit_of, value_entry, entry_of_type, entry_built, collected, built}

-- ---- what is read does not depend on the line

pattern_kept : (t : DataType) (greatest node : ℕ) (a b : ℕ × List ℕ) (n : ℕ) → b.1 ≡ a.1 → pattern_at t greatest node a ≡ Ok n → pattern_at t greatest node b ≡ Ok n
pattern_kept t greatest node a b n same e = rw same (standing a.0 b.0 (pattern_by t greatest node (amount_of a.1)) n e)

some_same : (a b : ℕ × List ℕ) → SameValue (Some a) (Some b) → b.1 ≡ a.1
some_same a b e = cc

initial_number_kept : (t : DataType) (o : Option ℕ) (node : ℕ) (a b : ℕ × List ℕ) (x : List ℕ) → b.1 ≡ a.1 → initial_number t o node a ≡ Ok x → initial_number t o node b ≡ Ok x
initial_number_kept t None node a b x same e = e
initial_number_kept t (Some greatest) node a b x same e =
    let one = bind_ok (pattern_at t greatest node a) _ x e in
    then_ok (pattern_at t greatest node b) _ one.0 x (pattern_kept t greatest node a b one.0 same one.1) one.2

initial_kept : (t : DataType) (node : ℕ) (o p : Option (ℕ × List ℕ)) (x : List ℕ) → SameValue o p → initial_of t node o ≡ Ok x → initial_of t node p ≡ Ok x
initial_kept t node None None x same e = e
initial_kept t node None (Some b) x same e = cc
initial_kept t node (Some a) None x same e = cc
initial_kept t node (Some a) (Some b) x same e = by_text (is_text t) e
  where
    here : b.1 ≡ a.1
    here = some_same a b same

    by_text : (c : Bool) → cond c (Ok a.1) (initial_number t (greatest_of t) node a) ≡ Ok x → cond c (Ok b.1) (initial_number t (greatest_of t) node b) ≡ Ok x
    by_text true h = rw here h
    by_text false h = initial_number_kept t (greatest_of t) node a b x here h

limit_number_kept : (t : DataType) (o : Option ℕ) (node : ℕ) (a b : ℕ × List ℕ) (x : Option ℤ) → b.1 ≡ a.1 → limit_number t o node a ≡ Ok x → limit_number t o node b ≡ Ok x
limit_number_kept t None node a b x same e = e
limit_number_kept t (Some greatest) node a b x same e =
    let one = bind_ok (pattern_at t greatest node a) _ x e in
    then_ok (pattern_at t greatest node b) _ one.0 x (pattern_kept t greatest node a b one.0 same one.1) one.2

limit_kept : (t : DataType) (node : ℕ) (o p : Option (ℕ × List ℕ)) (x : Option ℤ) → SameValue o p → limit_of t node o ≡ Ok x → limit_of t node p ≡ Ok x
limit_kept t node None None x same e = e
limit_kept t node None (Some b) x same e = cc
limit_kept t node (Some a) None x same e = cc
limit_kept t node (Some a) (Some b) x same e = limit_number_kept t (greatest_of t) node a b x (some_same a b same) e

-- ParameterValue, else DefaultValue
or_kept : (o p q r : Option (ℕ × List ℕ)) → SameValue o p → SameValue q r → SameValue (option_or o q) (option_or p r)
or_kept None None q r first second = second
or_kept None (Some b) q r first second = cc
or_kept (Some a) None q r first second = cc
or_kept (Some a) (Some b) q r first second = first

pub value_kept : (old new : List ℕ) (section node : ℕ) (t : DataType) (x : List ℕ) → value_in new section (codes "ParameterValue") ≡ value_in old section (codes "ParameterValue")
    → value_in new section (codes "DefaultValue") ≡ value_in old section (codes "DefaultValue") → initial_of t node (value_entry old section) ≡ Ok x → initial_of t node (value_entry new section) ≡ Ok x
value_kept old new section node t x value default e =
    initial_kept t node (value_entry old section) (value_entry new section) x
    (or_kept (entry_of old section (codes "ParameterValue")) (entry_of new section (codes "ParameterValue")) (entry_of old section (codes "DefaultValue")) (entry_of new section (codes "DefaultValue")) value default) e

or_some : (p r : Option (ℕ × List ℕ)) (text : List ℕ) → option_map (λ entry. entry.1) p ≡ Some text → (line : ℕ) × (option_or p r ≡ Some (line, text))
or_some None r text e = cc
or_some (Some a) r text e =
    let same : a.1 ≡ text = cc in
    (a.0, ap (λ t. Some (a.0, t)) same)

-- a ParameterValue is the value
pub value_set : (text : List ℕ) (section : ℕ) (value : List ℕ) → value_in text section (codes "ParameterValue") ≡ Some value → (line : ℕ) × (value_entry text section ≡ Some (line, value))
value_set text section value e = or_some (entry_of text section (codes "ParameterValue")) (entry_of text section (codes "DefaultValue")) value e

-- ---- one entry

-- the entry that its parts make
abbrev entry_of_seen : DataType → List ℕ → Option ℤ → Option ℤ → Seen → Entry
entry_of_seen t initial low high s = record {
  index = s.index;
  sub = s.sub;
  description = record { data_type = t; access = s.access; is_mappable = s.is_mappable; low = low; high = high };
  initial = initial;
  value = initial;
}

abbrev pub entry_made : Object → DataType → List ℕ → Option ℤ → Option ℤ → Entry
entry_made object t initial low high = entry_of_seen t initial low high (seen object)

abbrev limits_then : Object → DataType → ℕ → Option (ℕ × List ℕ) → Option (ℕ × List ℕ) → List ℕ → Result Entry Refusal
limits_then object t node low high initial = limit_of t node low >>= λ low. limit_of t node high >>= λ high. Ok (entry_made object t initial low high)

-- what an entry is made of
pub record Parts (t : DataType) (node : ℕ) (o : Object) (value low high : Option (ℕ × List ℕ)) (e : Entry) : Type 0 where
  pub initial : List ℕ
  pub least : Option ℤ
  pub greatest : Option ℤ
  pub has_initial : initial_of t node value ≡ Ok initial
  pub has_least : limit_of t node low ≡ Ok least
  pub has_greatest : limit_of t node high ≡ Ok greatest
  pub whole : entry_made o t initial least greatest ≡ e

pub ok_same : {A : Type 0} (x y : A) → ◌≡◌ {A = Result A Refusal} (Ok x) (Ok y) → x ≡ y
ok_same x y e = cc

parts : (t : DataType) (node : ℕ) (o : Object) (value low high : Option (ℕ × List ℕ)) (e : Entry)
    → (initial_of t node value >>= limits_then o t node low high) ≡ Ok e → Parts t node o value low high e
parts t node o value low high e h =
    let one = bind_ok (initial_of t node value) (limits_then o t node low high) e h in
    let two = bind_ok (limit_of t node low) (λ low. limit_of t node high >>= λ high. Ok (entry_made o t one.0 low high)) e one.2 in
    let three = bind_ok (limit_of t node high) (λ high. Ok (entry_made o t one.0 two.0 high)) e two.2 in
    record { initial = one.0; least = two.0; greatest = three.0; has_initial = one.1; has_least = two.1; has_greatest = three.1; whole = ok_same _ e three.2 }

abbrev pub PartsIn : List ℕ → ℕ → Object → DataType → Entry → Type 0
PartsIn text node o t e =
    Parts t node o (value_entry text o.place.section) (entry_of text o.place.section (codes "LowLimit")) (entry_of text o.place.section (codes "HighLimit")) e

pub parts_of : (text : List ℕ) (node : ℕ) (o : Object) (t : DataType) (e : Entry) → entry_of_type text node o t ≡ Ok e → PartsIn text node o t e
unfolding entry_of_type
parts_of text node o t e h = parts t node o (value_entry text o.place.section) (entry_of text o.place.section (codes "LowLimit")) (entry_of text o.place.section (codes "HighLimit")) e h

put_together : (t : DataType) (node : ℕ) (o p : Object) (value low high : Option (ℕ × List ℕ)) (initial : List ℕ) (least greatest : Option ℤ) → seen p ≡ seen o
    → initial_of t node value ≡ Ok initial → limit_of t node low ≡ Ok least → limit_of t node high ≡ Ok greatest
    → (initial_of t node value >>= limits_then p t node low high) ≡ Ok (entry_made o t initial least greatest)
put_together t node o p value low high initial least greatest same a b c =
    then_ok (initial_of t node value) (limits_then p t node low high) initial (entry_made o t initial least greatest) a
    (then_ok (limit_of t node low) (λ low. limit_of t node high >>= λ high. Ok (entry_made p t initial low high)) least (entry_made o t initial least greatest) b
    (then_ok (limit_of t node high) (λ high. Ok (entry_made p t initial least high)) greatest (entry_made o t initial least greatest) c
    (ap (λ s. Ok (entry_of_seen t initial least greatest s)) same)))

-- the entry of an object in a text with the same limits, and perhaps another value
pub entry_again : (old new : List ℕ) (node : ℕ) (o p : Object) (t : DataType) (e : Entry) (was : PartsIn old node o t e) (initial : List ℕ) → seen p ≡ seen o
    → value_in new o.place.section (codes "LowLimit") ≡ value_in old o.place.section (codes "LowLimit") → value_in new o.place.section (codes "HighLimit") ≡ value_in old o.place.section (codes "HighLimit")
    → initial_of t node (value_entry new o.place.section) ≡ Ok initial → entry_of_type new node p t ≡ Ok (entry_made o t initial was.least was.greatest)
unfolding entry_of_type
entry_again old new node o p t e was initial same low high value =
    put_together t node o p (value_entry new p.place.section) (entry_of new p.place.section (codes "LowLimit")) (entry_of new p.place.section (codes "HighLimit"))
    initial was.least was.greatest same (rw section value) (rw section least) (rw section greatest)
  where
    section : p.place.section ≡ o.place.section
    section = ap (λ s. s.section) same

    least : limit_of t node (entry_of new o.place.section (codes "LowLimit")) ≡ Ok was.least
    least = limit_kept t node (entry_of old o.place.section (codes "LowLimit")) (entry_of new o.place.section (codes "LowLimit")) was.least low was.has_least

    greatest : limit_of t node (entry_of new o.place.section (codes "HighLimit")) ≡ Ok was.greatest
    greatest = limit_kept t node (entry_of old o.place.section (codes "HighLimit")) (entry_of new o.place.section (codes "HighLimit")) was.greatest high was.has_greatest

-- ---- all entries

-- what is said of each object of a list
unfoldable pub EachObject : (Object → Type 0) → List Object → Type 0
EachObject P [] = Unit {0}
EachObject P (o ∷ os) = P o × EachObject P os

pub each_object : (P : Object → Type 0) → ((o : Object) → P o) → (os : List Object) → EachObject P os
unfolding EachObject
each_object P h [] = tt
each_object P h (o ∷ os) = (h o, each_object P h os)

-- an object's entry in a text is that of another text, changed
abbrev pub IsChangedTo : (Entry → Entry) → List ℕ → List ℕ → ℕ → Object → Type 0
IsChangedTo change old new node o = (p : Object) (e : Entry) → seen p ≡ seen o → entry_built old node o ≡ Ok e → entry_built new node p ≡ Ok (change e)

entries_again : (change : Entry → Entry) (old new : List ℕ) (node : ℕ) (os ps : List Object) (es : List Entry) → map seen ps ≡ map seen os → EachObject (IsChangedTo change old new node) os
    → collected (entry_built old node) os ≡ Ok es → collected (entry_built new node) ps ≡ Ok (map change es)
unfolding collected EachObject
entries_again change old new node [] [] es same each h = ap (λ es. Ok (map change es)) (ok_same [] es h)
entries_again change old new node [] (p ∷ ps) es same each h = cc
entries_again change old new node (o ∷ os) [] es same each h = cc
entries_again change old new node (o ∷ os) (p ∷ ps) es same each h =
    let first : seen p ≡ seen o = cc in
    let rest : map seen ps ≡ map seen os = cc in
    let one = bind_ok (entry_built old node o) (λ y. collected (entry_built old node) os >>= λ ys. Ok (y ∷ ys)) es h in
    let two = bind_ok (collected (entry_built old node) os) (λ ys. Ok (one.0 ∷ ys)) es one.2 in
    then_ok (entry_built new node p) (λ y. collected (entry_built new node) ps >>= λ ys. Ok (y ∷ ys)) (change one.0) (map change es) (each.0 p one.0 first one.1)
    (then_ok (collected (entry_built new node) ps) (λ ys. Ok (change one.0 ∷ ys)) (map change two.0) (map change es)
    (entries_again change old new node os ps two.0 rest each.1 two.1)
    (ap (λ es. Ok (map change es)) (ok_same (one.0 ∷ two.0) es two.2)))

-- the dictionary of a text with the same objects, whose entries are changed
pub built_again : (change : Entry → Entry) (old new : List ℕ) (node : ℕ) (dict : List Entry) → map seen (objects_of new) ≡ map seen (objects_of old)
    → EachObject (IsChangedTo change old new node) (objects_of old) → built old node ≡ Ok dict → built new node ≡ Ok (map change dict)
built_again change old new node dict same each h = entries_again change old new node (objects_of old) (objects_of new) dict same each h

same_entries : (dict : List Entry) → map (λ e. e) dict ≡ dict
same_entries [] = refl
same_entries (e ∷ es) = ap (λ rest. e ∷ rest) (same_entries es)

-- the dictionary of a text that agrees
pub agrees_so : (old new : List ℕ) (node : ℕ) (dict : List Entry) → AgreesWith old new → built old node ≡ Ok dict → built new node ≡ Ok dict
agrees_so old new node dict agrees h =
    built_again (λ e. e) old new node dict agrees.objects (each_object (IsChangedTo (λ e. e) old new node) each (objects_of old)) h ∙ ap Ok (same_entries dict)
  where
    each : (o : Object) → IsChangedTo (λ e. e) old new node o
    each o p e same built_so =
        let t = type_numbered o.data_type in
        let section = o.place.section in
        let was = parts_of old node o t e built_so in
        ap (λ (s : Seen). entry_of_type new node p (type_numbered s.data_type)) same
        ∙ entry_again old new node o p t e was was.initial same (agrees.low section) (agrees.high section)
        (value_kept old new section node t was.initial (agrees.value section) (agrees.default section) was.has_initial)
        ∙ ap Ok was.whole
