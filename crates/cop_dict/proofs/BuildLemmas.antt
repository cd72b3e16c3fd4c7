-- Entries collected one after the other.
use Rattle.std.proofs.Common.{◌≡◌, ◌≤◌, ◌<◌, ◌+◌, ℕ, List, [], ◌∷◌, ◌++◌, length, drop, get_or, codes, ℤ, Option, Result, Ok, Err, refl, ap, sym, ◌∙◌, append_assoc, add-one, drop-cons}
use Rattle.std.proofs.lemmas.List.{append-nil}
use Rattle.std.proofs.Math.ListN.{drop_of_length-le}
use Rattle.cop_eds.specs.declared.fault.Refusal.{Refusal}
use Rattle.cop_eds.specs.declared.description.Object.{Object}
use Rattle.cop_eds.specs.declared.fault.EdsFault.{EdsFault}
use Rattle.cop_eds.specs.declared.fault.EdsFault.TheVariants.{Refused, Memory}
use Rattle.cop_eds.specs.Lines.{Fails}
use Rattle.cop_eds.specs.Steps.{◌>>=◌}
use Rattle.cop_eds.specs.Sections.{entry_of}
use Rattle.cop_eds.specs.Objects.{objects_of}
use Rattle.cop_dict.specs.declared.data_type.DataType.{DataType}
use Rattle.cop_dict.specs.Types.{type_numbered}
use Rattle.cop_dict.specs.Find.{Entry, IsSorted}
use Rattle.cop_dict.specs.Build.{initial_of, limit_of, value_entry, entry_of_type, entry_built, collected, built}
use Rattle.cop_dict.proofs.OrderLemmas.{Rises, place_of_object, place_of_entry, code, objects_rise, rises_sorted}
use Rattle.cop_dict.proofs.AgreeLemmas.{entry_made}

-- those before, and what is still to come
abbrev pub with_before : {B : Type 0} → List B → Result (List B) Refusal → Result (List B) Refusal
with_before before rest = rest >>= λ ys. Ok (before ++ ys)

more : {B : Type 0} (before : List B) (y : B) (rest : Result (List B) Refusal)
    → with_before (before ++ y ∷ []) rest ≡ with_before before (rest >>= λ ys. Ok (y ∷ ys))
more before y (Ok ys) = ap Ok (append_assoc before (y ∷ []) ys)
more before y (Err e) = refl

pub goes_on : {A B : Type 0} (f : A → Result B Refusal) (xs : List A) (i : ℕ) (d : A) (before : List B) (y : B) → i < length xs → f (get_or xs i d) ≡ Ok y
    → with_before (before ++ y ∷ []) (collected f (drop (i + 1) xs)) ≡ with_before before (collected f (drop i xs))
unfolding collected
goes_on f xs i d before y lt h =
    let next : drop i xs ≡ get_or xs i d ∷ drop (i + 1) xs = rw add-one (drop-cons xs i d lt) in
    rw (next, h) (more before y (collected f (drop (i + 1) xs)))

stops : {A B : Type 0} (f : A → Result B Refusal) (xs : List A) (i : ℕ) (d : A) (before : List B) (r : Refusal) → i < length xs → f (get_or xs i d) ≡ Err r
    → with_before before (collected f (drop i xs)) ≡ Err r
unfolding collected
stops f xs i d before r lt h =
    let next : drop i xs ≡ get_or xs i d ∷ drop (i + 1) xs = rw add-one (drop-cons xs i d lt) in
    rw (next, h) refl

-- a fault of one is the fault of all
pub fails : {A B : Type 0} (f : A → Result B Refusal) (xs : List A) (i : ℕ) (d : A) (before : List B) (whole : Result (List B) Refusal) (e : EdsFault) → i < length xs
    → with_before before (collected f (drop i xs)) ≡ whole → Fails e (f (get_or xs i d)) → Fails e whole
fails f xs i d before whole (Refused r) lt same h = sym same ∙ stops f xs i d before r lt h
fails f xs i d before whole Memory lt same h = tt

pub ends : {A B : Type 0} (f : A → Result B Refusal) (xs : List A) (i : ℕ) (before : List B) → length xs ≤ i → with_before before (collected f (drop i xs)) ≡ Ok before
unfolding collected
ends f xs i before le = rw (drop_of_length-le xs le) (ap Ok (append-nil before))

pub begins : {B : Type 0} (rest : Result (List B) Refusal) → with_before [] rest ≡ rest
begins (Ok ys) = refl
begins (Err e) = refl

-- an entry stands where its object does
pub kept_address : (text : List ℕ) (node : ℕ) (o : Object) (t : DataType) (e : Entry) → entry_of_type text node o t ≡ Ok e → (e.index ≡ o.index) × (e.sub ≡ o.sub)
unfolding entry_of_type
kept_address text node o t e h =
    by_initial (initial_of t node (value_entry text o.place.section)) (limit_of t node (entry_of text o.place.section (codes "LowLimit")))
    (limit_of t node (entry_of text o.place.section (codes "HighLimit"))) h
  where
    by_initial : (initial : Result (List ℕ) Refusal) (low high : Result (Option ℤ) Refusal)
        → (initial >>= λ initial. low >>= λ low. high >>= λ high. Ok (entry_made o t initial low high)) ≡ Ok e → (e.index ≡ o.index) × (e.sub ≡ o.sub)
    by_initial (Err r) low high h = cc
    by_initial (Ok initial) (Err r) high h = cc
    by_initial (Ok initial) (Ok low) (Err r) h = cc
    by_initial (Ok initial) (Ok low) (Ok high) h =
        let same : entry_made o t initial low high ≡ e = cc in
        (sym (ap (λ (x : Entry). x.index) same), sym (ap (λ (x : Entry). x.sub) same))

collected_rises : (text : List ℕ) (node low : ℕ) (objects : List Object) (entries : List Entry) → collected (entry_built text node) objects ≡ Ok entries
    → Rises place_of_object low objects → Rises place_of_entry low entries
unfolding collected
collected_rises text node low [] entries h rises = let none : [] ≡ entries = cc in rw (← none) tt
collected_rises text node low (o ∷ objects) entries h rises = by_first (entry_built text node o) refl h
    (λ es rest. collected_rises text node (code (place_of_object o) + 1) objects es rest rises.3)
  where
    at_place : (e : Entry) (es : List Entry) → e.index ≡ o.index → e.sub ≡ o.sub → Rises place_of_entry (code (place_of_object o) + 1) es → Rises place_of_entry low (e ∷ es)
    at_place e es i s later = rw (i, s) (rises.0, rises.1, rises.2, later)

    by_rest : (e : Entry) → entry_built text node o ≡ Ok e → (r : Result (List Entry) Refusal) → collected (entry_built text node) objects ≡ r
        → (r >>= λ ys. Ok (e ∷ ys)) ≡ Ok entries
        → ((es : List Entry) → collected (entry_built text node) objects ≡ Ok es → Rises place_of_entry (code (place_of_object o) + 1) es) → Rises place_of_entry low entries
    by_rest e here (Err r) rest h later = cc
    by_rest e here (Ok es) rest h later =
        let all : e ∷ es ≡ entries = cc in
        let kept = kept_address text node o (type_numbered o.data_type) e here in
        rw (← all) (at_place e es kept.0 kept.1 (later es rest))

    by_first : (r : Result Entry Refusal) → entry_built text node o ≡ r
        → (r >>= λ y. collected (entry_built text node) objects >>= λ ys. Ok (y ∷ ys)) ≡ Ok entries
        → ((es : List Entry) → collected (entry_built text node) objects ≡ Ok es → Rises place_of_entry (code (place_of_object o) + 1) es) → Rises place_of_entry low entries
    by_first (Err r) here h later = cc
    by_first (Ok e) here h later = by_rest e here (collected (entry_built text node) objects) refl h later

-- what is built is sorted
pub built_sorted : (text : List ℕ) (node : ℕ) (dict : List Entry) → built text node ≡ Ok dict → IsSorted dict
built_sorted text node dict h = rises_sorted 0 dict (collected_rises text node 0 (objects_of text) dict h (objects_rise text))
