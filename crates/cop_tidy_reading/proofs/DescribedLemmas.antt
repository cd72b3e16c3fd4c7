-- Each object of a device is described.
use Rattle.std.proofs.Common.{◌≡◌, inl, inr, ℕ, zero, suc, ◌+◌, ◌&&◌, ◌==◌, Bool, true, false, cond, List, [], ◌∷◌, map, Option, None, Some, Result, Ok, Err, is_some, refl, sym, ap, ◌∙◌, subst, unwrap_or, All}
use Rattle.std.proofs.lemmas.Bool.{eqb-true}
use Rattle.std.specs.List.{flat_map}
use Rattle.std.specs.Option.{option_map, option_to_list}
use Rattle.std.proofs.lemmas.List.Elements.{All-nil, All-cons, All-head, All-tail, All-append, All-weaker}
use Rattle.cop_eds.specs.declared.description.ObjectType.TheVariants.{Var}
use Rattle.cop_eds.specs.Description.{holds_subs}
use Rattle.cop_tidy_lines.specs.declared.names.SectionName.TheVariants as names
use Rattle.cop_tidy_device.specs.Device.{Meaning}
use Rattle.cop_tidy_device.specs.declared.device.DeviceObject.{DeviceObject}
use Rattle.cop_tidy_reading.specs.declared.question.Question.{Question}
use Rattle.cop_tidy_reading.specs.declared.words.Words.{Words}
use Rattle.cop_tidy_reading.specs.declared.pdos.Implied.{Implied}
use Rattle.cop_tidy_reading.specs.Questions.{◌>>=◌, both, with_first, all_of}
use Rattle.cop_tidy_reading.specs.Gathering.{joined_by, beside}
use Rattle.cop_tidy_reading.specs.Items.{Said, items_of}
use Rattle.cop_tidy_reading.specs.Sections.{Section, section_named}
use Rattle.cop_tidy_reading.specs.Repeats.{check_repeats}
use Rattle.cop_tidy_reading.specs.Lists.{listed}
use Rattle.cop_tidy_reading.specs.Pdos.{compact_pdo, implied}
use Rattle.cop_tidy_reading.specs.Values.{Source}
use Rattle.cop_tidy_reading.specs.Objects.{Whole, Main, Place, main_at, main_in, described_by, typed_value_in, object_in, own_object, sub_kind, count_object, value_object, in_compact, object_implied, in_pdos, is_compact_sub, without_section, sub_by, sub_object, subs_from, one_value, listed_value, objects_of, check_object, described_at}
use Rattle.cop_tidy_reading.specs.Reading.{text_of, whole_of, rates_of, indexes_of, device_by, device_of, loosely}
use Rattle.cop_tidy_reading.specs.Described.{has_sub_section, is_in_own_section, IsDescribed, IsDescribedBy}

-- ---- readings that found something

-- what is read first, and what is read then
bound : {A B : Type 0} (r : Result A Question) (f : A → Result B Question) (b : B) → (r >>= f) ≡ Ok b → (a : A) × (r ≡ Ok a) × (f a ≡ Ok b)
bound (Ok a) f b h = (a, refl, h)
bound (Err q) f b h = cc

both_read : {A B : Type 0} (r : Result A Question) (s : Result B Question) (c : A × B) → both r s ≡ Ok c → (r ≡ Ok c.0) × (s ≡ Ok c.1)
unfolding both
both_read {A} {B} (Ok a) (Ok b) c h = let e : (a, b) ≡ c = cc in (ap (λ (p : A × B). Ok p.0) e, ap (λ (p : A × B). Ok p.1) e)
both_read (Ok a) (Err q) c h = cc
both_read (Err q) (Ok b) c h = cc
both_read (Err q) (Err r) c h = cc

-- what stands beside is what is read
beside_read : {A B : Type 0} (r : Result A Question) (s : Result B Question) (b : B) → beside r s ≡ Ok b → s ≡ Ok b
unfolding both
beside_read (Ok a) (Ok c) b h = h
beside_read (Ok a) (Err q) b h = cc
beside_read (Err q) (Ok c) b h = cc
beside_read (Err q) (Err r) b h = cc

-- what is read, if it is, has a property
abbrev Reads : {A : Type 0} → (A → Type 0) → Result A Question → Type 0
Reads P (Ok a) = P a
Reads P (Err q) = Unit {0}

-- what is found, if it is, has a property
abbrev Finds : {A : Type 0} → (A → Type 0) → Option A → Type 0
Finds P None = Unit {0}
Finds P (Some a) = P a

reads_by : {A : Type 0} (P : A → Type 0) (r : Result A Question) → ((a : A) → r ≡ Ok a → P a) → Reads P r
reads_by P (Ok a) h = h a refl
reads_by P (Err q) h = tt

found_by : {A : Type 0} (P : A → Type 0) (o : Option A) → ((a : A) → o ≡ Some a → P a) → Finds P o
found_by P None h = tt
found_by P (Some a) h = h a refl

-- where each reading has it, all that is read has it
all_have : {A : Type 0} (P : A → Type 0) (reads : List (Result A Question)) (found : List A) → All (Reads P) reads → all_of reads ≡ Ok found → All P found
unfolding all_of both
all_have {A} P [] found h e = let same : [] ≡ found = cc in subst (λ (l : List A). All P l) same (All-nil P)
all_have {A} P (read ∷ reads) found h e =
    by_both read (all_of reads) (λ more is. all_have P reads more (All-tail (Reads P) read reads h) is) (All-head (Reads P) read reads h) e
  where
    by_both : (first : Result A Question) (rest : Result (List A) Question) → ((more : List A) → rest ≡ Ok more → All P more) → Reads P first → with_first (both first rest) ≡ Ok found → All P found
    by_both (Ok a) (Ok more) is p g =
        let same : (a ∷ more) ≡ found = cc in
        subst (λ (l : List A). All P l) same (All-cons P a more p (is more refl))
    by_both (Ok a) (Err q) is p g = cc
    by_both (Err q) (Ok more) is p g = cc
    by_both (Err q) (Err r) is p g = cc

-- of options, and of lists
all_there : {A : Type 0} (P : A → Type 0) (found : List (Option A)) → All (Finds P) found → All P (flat_map option_to_list found)
all_there P [] h = All-nil P
all_there {A} P (None ∷ found) h = all_there P found (All-tail (Finds P) None found h)
all_there {A} P (Some a ∷ found) h = All-cons P a (flat_map option_to_list found) (All-head (Finds P) (Some a) found h) (all_there P found (All-tail (Finds P) (Some a) found h))

all_joined : {A : Type 0} (P : A → Type 0) (found : List (List A)) → All (All P) found → All P (flat_map (λ list. list) found)
all_joined P [] h = All-nil P
all_joined {A} P (list ∷ found) h =
    All-append P list (flat_map (λ list. list) found) (All-head (All P) list found h) (all_joined P found (All-tail (All P) list found h))

joined_of : {A B : Type 0} (view : A → List B) (r : Result (List A) Question) (all : List B) → joined_by view r ≡ Ok all → (found : List A) × (r ≡ Ok found) × (flat_map view found ≡ all)
joined_of view (Ok found) all h = (found, refl, cc)
joined_of view (Err q) all h = cc

-- ---- one object

-- an object that is read of a section has its index, and the sub that is asked for
placed : (whole : Whole) (place : Place) (sub : ℕ) (sources : List Source) (object : DeviceObject) → object_in whole place sub sources ≡ Ok (Some object)
    → (object.index ≡ place.main.index) × (object.sub ≡ sub)
unfolding object_in
placed whole place sub sources object h =
    let b = bound (both (typed_value_in whole place sources) _) (λ found. Ok (Some (described_by whole place sub found.0 found.1))) (Some object) h in
    let e : ◌≡◌ {A = Result (Option DeviceObject) Question} (Ok (Some (described_by whole place sub b.0.0 b.0.1))) (Ok (Some object)) = b.2 in
    let same : described_by whole place sub b.0.0 b.0.1 ≡ object = cc in
    (ap (λ (o : DeviceObject). o.index) (sym same), ap (λ (o : DeviceObject). o.sub) (sym same))

of_value : (whole : Whole) (place : Place) (holds : Bool) (object : DeviceObject) → cond holds (own_object whole place) (Ok None) ≡ Ok (Some object)
    → (object.index ≡ place.main.index) × (object.sub ≡ unwrap_or place.sub 0)
of_value whole place true object h = placed whole place (unwrap_or place.sub 0) _ object h
of_value whole place false object h = cc

there : {A : Type 0} (o : Option A) (a : A) → o ≡ Some a → is_some o ≡ true
there o a e = ap is_some e

module _ (whole : Whole) (index : ℕ) where
  -- what is found at a sub of the index is described
  abbrev IsAt : ℕ → DeviceObject → Type 0
  IsAt sub object = (object.index ≡ index) × (object.sub ≡ sub)

  by_section : (sub : ℕ) (object : DeviceObject) → IsAt sub object → has_sub_section whole index sub ≡ true → IsDescribed whole object
  by_section sub object at h =
      inl (subst (λ i. has_sub_section whole i object.sub ≡ true) (sym at.0) (subst (λ s. has_sub_section whole index s ≡ true) (sym at.1) h))

  by_own : (sub : ℕ) (object : DeviceObject) → IsAt sub object → is_in_own_section whole index sub ≡ true → IsDescribed whole object
  by_own sub object at h =
      inr (inl (subst (λ i. is_in_own_section whole i object.sub ≡ true) (sym at.0) (subst (λ s. is_in_own_section whole index s ≡ true) (sym at.1) h)))

  by_pdos : (sub : ℕ) (object : DeviceObject) → IsAt sub object → in_pdos whole index sub ≡ Some object → IsDescribed whole object
  by_pdos sub object at h =
      inr (inr (subst (λ i. in_pdos whole i object.sub ≡ Some object) (sym at.0) (subst (λ s. in_pdos whole index s ≡ Some object) (sym at.1) h)))

  implied_at : (sub : ℕ) (object : DeviceObject) → in_pdos whole index sub ≡ Some object → IsAt sub object
  implied_at sub object h = by_option (implied whole.pdos whole.listed index sub) h
    where
      by_option : (o : Option Implied) → option_map (object_implied index sub) o ≡ Some object → IsAt sub object
      by_option None h = cc
      by_option (Some said) h =
          let same : object_implied index sub said ≡ object = cc in
          (ap (λ (o : DeviceObject). o.index) (sym same), ap (λ (o : DeviceObject). o.sub) (sym same))

  both_true : (a b : Bool) → a ≡ true → b ≡ true → (a && b) ≡ true
  both_true true true h g = refl
  both_true true false h g = cc
  both_true false b h g = cc

  in_own : (main : Main) (section : Section) (sub : ℕ) → main ≡ main_at whole index → section_named whole.items (names.Object index) ≡ Some section
      → cond (holds_subs main.object_type) (is_compact_sub main sub) (sub == 0) ≡ true → is_in_own_section whole index sub ≡ true
  in_own main section sub is at h =
      both_true (is_some (section_named whole.items (names.Object index))) _ (there (section_named whole.items (names.Object index)) section at)
      (subst (λ (m : Main). cond (holds_subs m.object_type) (is_compact_sub m sub) (sub == 0) ≡ true) is h)

  main_index : (main_at whole index).index ≡ index
  unfolding main_at
  main_index = by_section_of (section_named whole.items (names.Object index))
    where
      by_section_of : (o : Option Section) → (main_in whole index o).index ≡ index
      by_section_of None = refl
      by_section_of (Some section) = refl

  main_section : (main_at whole index).section ≡ section_named whole.items (names.Object index)
  unfolding main_at
  main_section = by_section_of (section_named whole.items (names.Object index))
    where
      by_section_of : (o : Option Section) → (main_in whole index o).section ≡ o
      by_section_of None = refl
      by_section_of (Some section) = refl

  -- a sub without a section
  rest_described : (main : Main) (sub : ℕ) (own : Option Section) (object : DeviceObject) → main ≡ main_at whole index → own ≡ main.section → holds_subs main.object_type ≡ true
      → without_section whole main sub own ≡ Ok (Some object) → IsDescribed whole object
  rest_described main sub None object is at holds h =
      let e : in_pdos whole main.index sub ≡ Some object = cc in
      let f : in_pdos whole index sub ≡ Some object = subst (λ i. in_pdos whole i sub ≡ Some object) (ap (λ (m : Main). m.index) is ∙ main_index) e in
      by_pdos sub object (implied_at sub object f) f
  rest_described main sub (Some section) object is at holds h = by_compact (is_compact_sub main sub) refl h
    where
      index_is : main.index ≡ index
      index_is = ap (λ (m : Main). m.index) is ∙ main_index

      named : section_named whole.items (names.Object index) ≡ Some section
      named = sym main_section ∙ (sym (ap (λ (m : Main). m.section) is) ∙ sym at)

      in_form : (zero_sub : Bool) → (sub == 0) ≡ zero_sub → is_compact_sub main sub ≡ true → cond zero_sub (Ok (Some (count_object main))) (value_object whole main section sub) ≡ Ok (Some object)
          → IsDescribed whole object
      in_form true z c g =
          let same : count_object main ≡ object = cc in
          let zero_is : sub ≡ 0 = eqb-true sub 0 z in
          by_own sub object (ap (λ (o : DeviceObject). o.index) (sym same) ∙ index_is, ap (λ (o : DeviceObject). o.sub) (sym same) ∙ sym zero_is)
          (in_own main section sub is named (rw holds c))
      in_form false z c g =
          let at_place = placed whole (record { main = main; sub = None; section = section; object_type = Var }) sub _ object g in
          by_own sub object (at_place.0 ∙ index_is, at_place.1) (in_own main section sub is named (rw holds c))

      by_compact : (compact : Bool) → is_compact_sub main sub ≡ compact → cond compact (in_compact whole main sub section) (Ok (in_pdos whole main.index sub)) ≡ Ok (Some object)
          → IsDescribed whole object
      by_compact true c g = in_form (sub == 0) refl c g
      by_compact false c g =
          let e : in_pdos whole main.index sub ≡ Some object = cc in
          let f : in_pdos whole index sub ≡ Some object = subst (λ i. in_pdos whole i sub ≡ Some object) index_is e in
          by_pdos sub object (implied_at sub object f) f

  -- a sub
  sub_described : (sub : ℕ) (object : DeviceObject) → holds_subs (main_at whole index).object_type ≡ true → sub_object whole (main_at whole index) sub ≡ Ok (Some object) → IsDescribed whole object
  unfolding sub_object
  sub_described sub object holds h = by_named (section_named whole.items (names.Sub (main_at whole index).index sub)) refl h
    where
      by_named : (o : Option Section) → section_named whole.items (names.Sub (main_at whole index).index sub) ≡ o → sub_by whole (main_at whole index) sub o ≡ Ok (Some object) → IsDescribed whole object
      by_named None e g = rest_described (main_at whole index) sub (main_at whole index).section object refl refl holds g
      by_named (Some section) e g =
          let at = of_value whole (record { main = main_at whole index; sub = Some sub; section = section; object_type = sub_kind whole (main_at whole index).index section }) _ object g in
          by_section sub object (at.0 ∙ main_index, at.1) (there (section_named whole.items (names.Sub index sub)) section (subst (λ i. section_named whole.items (names.Sub i sub) ≡ Some section) main_index e))

  subs_described : (sub count : ℕ) → holds_subs (main_at whole index).object_type ≡ true → All (Reads (Finds (IsDescribed whole))) (subs_from whole (main_at whole index) sub count)
  unfolding subs_from
  subs_described sub zero holds = All-nil (Reads (Finds (IsDescribed whole)))
  subs_described sub (suc count) holds =
      All-cons (Reads (Finds (IsDescribed whole))) (sub_object whole (main_at whole index) sub) (subs_from whole (main_at whole index) (sub + 1) count)
      (reads_by (Finds (IsDescribed whole)) (sub_object whole (main_at whole index) sub) (λ o e. found_by (IsDescribed whole) o (λ object is. sub_described sub object holds (e ∙ ap Ok is))))
      (subs_described (sub + 1) count holds)

  -- one value
  one_described : (own : Option Section) (object : DeviceObject) → own ≡ (main_at whole index).section → holds_subs (main_at whole index).object_type ≡ false
      → one_value whole (main_at whole index) own ≡ Ok (Some object) → IsDescribed whole object
  one_described None object at holds h = cc
  one_described (Some section) object at holds h =
      let p = of_value whole (record { main = main_at whole index; sub = None; section = section; object_type = (main_at whole index).object_type }) _ object h in
      by_own 0 object (p.0 ∙ main_index, p.1)
      (in_own (main_at whole index) section 0 refl (sym main_section ∙ sym at) (rw holds refl))

  -- all at the index
  objects_described : (objects : List DeviceObject) → objects_of whole (main_at whole index) ≡ Ok objects → All (IsDescribed whole) objects
  unfolding objects_of
  objects_described objects h = by_kind (holds_subs (main_at whole index).object_type) refl h
    where
      as_list : (o : Option DeviceObject) → Finds (IsDescribed whole) o → All (IsDescribed whole) (option_to_list o)
      as_list None p = All-nil (IsDescribed whole)
      as_list (Some object) p = All-cons (IsDescribed whole) object [] p (All-nil (IsDescribed whole))

      by_kind : (holds : Bool) → holds_subs (main_at whole index).object_type ≡ holds
          → cond holds (joined_by option_to_list (all_of (subs_from whole (main_at whole index) 0 256))) (listed_value (one_value whole (main_at whole index) (main_at whole index).section)) ≡ Ok objects
          → All (IsDescribed whole) objects
      by_kind true e g =
          let j = joined_of option_to_list (all_of (subs_from whole (main_at whole index) 0 256)) objects g in
          subst (λ (l : List DeviceObject). All (IsDescribed whole) l) j.2
          (all_there (IsDescribed whole) j.0 (all_have (Finds (IsDescribed whole)) (subs_from whole (main_at whole index) 0 256) j.0 (subs_described 0 256 e) j.1))
      by_kind false e g =
          let b = bound (one_value whole (main_at whole index) (main_at whole index).section) (λ found. Ok (option_to_list found)) objects g in
          let same : option_to_list b.0 ≡ objects = cc in
          subst (λ (l : List DeviceObject). All (IsDescribed whole) l) same
          (as_list b.0 (found_by (IsDescribed whole) b.0 (λ object is. one_described (main_at whole index).section object refl e (b.1 ∙ ap Ok is))))

  index_described : Reads (All (IsDescribed whole)) (described_at whole index)
  unfolding described_at
  index_described =
      reads_by (All (IsDescribed whole)) (beside (check_object whole (main_at whole index)) (objects_of whole (main_at whole index)))
      (λ objects e. objects_described objects (beside_read (check_object whole (main_at whole index)) (objects_of whole (main_at whole index)) objects e))

-- ---- a device

indexes_described : (whole : Whole) (indexes : List ℕ) → All (Reads (All (IsDescribed whole))) (map (described_at whole) indexes)
indexes_described whole [] = All-nil (Reads (All (IsDescribed whole)))
indexes_described whole (index ∷ indexes) =
    All-cons (Reads (All (IsDescribed whole))) (described_at whole index) (map (described_at whole) indexes) (index_described whole index) (indexes_described whole indexes)

device_described : (words : Words) (items : List Said) (named : List ℕ) (device : Meaning) → device_of words items named ≡ Ok device → All (IsDescribed (whole_of words items named)) device.objects
unfolding device_of
device_described words items named device h =
    let whole = whole_of words items named in
    let reads = map (described_at whole) (indexes_of whole) in
    let d = beside_read (compact_pdo words.digits items named) (device_by (rates_of whole) (indexes_of whole) (joined_by (λ list. list) (all_of reads))) device h in
    let b = bound (both (rates_of whole) (joined_by (λ list. list) (all_of reads))) (λ found. Ok (record { rates = found.0; listed = indexes_of whole; objects = found.1 })) device d in
    let two = both_read (rates_of whole) (joined_by (λ list. list) (all_of reads)) b.0 b.1 in
    let j = joined_of (λ list. list) (all_of reads) b.0.1 two.1 in
    let is : ◌≡◌ {A = Result Meaning Question} (Ok (record { rates = b.0.0; listed = indexes_of whole; objects = b.0.1 })) (Ok device) = b.2 in
    let objects : b.0.1 ≡ device.objects = cc in
    subst (λ (l : List DeviceObject). All (IsDescribed whole) l) (j.2 ∙ objects) (all_joined (IsDescribed whole) j.0 (all_have (All (IsDescribed whole)) reads j.0 (indexes_described whole (indexes_of whole)) j.1))

pub all_described : (source : List ℕ) (words : Words) (device : Meaning) → loosely source words ≡ Ok device → All (IsDescribedBy source words) device.objects
unfolding loosely
all_described source words device h =
    let t = bound (text_of source) _ device h in
    let i = bound (items_of t.0) _ device t.2 in
    let r = bound (check_repeats i.0) _ device i.2 in
    let n = bound (listed words i.0) _ device r.2 in
    All-weaker (IsDescribed (whole_of words i.0 n.0)) (IsDescribedBy source words)
    (λ object so. record { text = t.0; is_text = t.1; items = i.0; are_items = i.1; named = n.0; are_named = n.1; so = so })
    device.objects (device_described words i.0 n.0 device n.2)
