-- The entries of a built dictionary, one by one.
use Rattle.std.proofs.Common.{◌≡◌, ◌<◌, ◌==◌, ℕ, zero, suc, Bool, true, false, cond, List, [], ◌∷◌, length, get_or, Some, Result, Ok, Err, refl, ap, sym, ◌∙◌, arith}
use Rattle.std.specs.List.{Contains}
use Rattle.std.proofs.lemmas.Bool.{eqb-true, and_parts}
use Rattle.cop_eds.specs.declared.fault.Refusal.{Refusal}
use Rattle.cop_eds.specs.declared.description.Object.{Object}
use Rattle.cop_eds.specs.Steps.{◌>>=◌}
use Rattle.cop_eds.specs.Objects.{objects_of}
use Rattle.cop_dict.specs.Types.{type_numbered}
use Rattle.cop_dict.specs.Find.{Entry, is_at, entry_at}
use Rattle.cop_dict.specs.Build.{entry_built, collected, built}
use Rattle.cop_dict.proofs.BuildLemmas.{kept_address, built_sorted}
use Rattle.cop_dict.proofs.DictLemmas.{own_place}

-- what one element gives is among what all give
abbrev Given : {A B : Type 0} → (A → Result B Refusal) → List B → A → Type 0
Given {A} {B} f ys x = (y : B) × (f x ≡ Ok y) × Contains ys y

-- what all give comes from an element
abbrev Comes : {A B : Type 0} → (A → Result B Refusal) → List A → B → Type 0
Comes {A} f xs y = (x : A) × Contains xs x × (f x ≡ Ok y)

given_later : {A B : Type 0} (f : A → Result B Refusal) (b : B) (bs : List B) (x : A) → Given f bs x → Given f (b ∷ bs) x
given_later f b bs x has = (has.0, has.1, (suc has.2.0, (let lt = has.2.1 in omega arith), has.2.2))

collected_has : {A B : Type 0} (f : A → Result B Refusal) (xs : List A) (ys : List B) (x : A) → collected f xs ≡ Ok ys → Contains xs x → Given f ys x
unfolding collected
collected_has f [] ys x h has = absurd (let lt = has.1 in omega arith)
collected_has {A} {B} f (a ∷ xs) ys x h has = by_first (f a) refl h has.0 has.1 has.2 (λ bs rest more. collected_has f xs bs x rest more)
  where
    by_place : (b : B) (bs : List B) → f a ≡ Ok b → (k : ℕ) → k < suc (length xs) → get_or (a ∷ xs) k x ≡ x → (Contains xs x → Given f bs x) → Given f (b ∷ bs) x
    by_place b bs e zero lt at later = (b, ap f (sym at) ∙ e, (zero, omega arith, refl))
    by_place b bs e (suc k) lt at later = given_later f b bs x (later (k, omega arith, at))

    by_rest : (b : B) → f a ≡ Ok b → (r : Result (List B) Refusal) → collected f xs ≡ r → (r >>= λ bs. Ok (b ∷ bs)) ≡ Ok ys
        → (k : ℕ) → k < suc (length xs) → get_or (a ∷ xs) k x ≡ x → ((bs : List B) → collected f xs ≡ Ok bs → Contains xs x → Given f bs x) → Given f ys x
    by_rest b e (Err r) rest h k lt at later = cc
    by_rest b e (Ok bs) rest h k lt at later = let same : b ∷ bs ≡ ys = cc in rw (← same) (by_place b bs e k lt at (later bs rest))

    by_first : (r : Result B Refusal) → f a ≡ r → (r >>= λ b. collected f xs >>= λ bs. Ok (b ∷ bs)) ≡ Ok ys
        → (k : ℕ) → k < suc (length xs) → get_or (a ∷ xs) k x ≡ x → ((bs : List B) → collected f xs ≡ Ok bs → Contains xs x → Given f bs x) → Given f ys x
    by_first (Err r) e h k lt at later = cc
    by_first (Ok b) e h k lt at later = by_rest b e (collected f xs) refl h k lt at later

comes_later : {A B : Type 0} (f : A → Result B Refusal) (a : A) (xs : List A) (y : B) → Comes f xs y → Comes f (a ∷ xs) y
comes_later f a xs y from = (from.0, (suc from.1.0, (let lt = from.1.1 in omega arith), from.1.2), from.2)

-- each entry of a collection comes from one element
collected_from : (f : Object → Result Entry Refusal) (xs : List Object) (ys : List Entry) (index sub : ℕ) (y : Entry) → collected f xs ≡ Ok ys → entry_at ys index sub ≡ Some y
    → Comes f xs y × (is_at index sub y ≡ true)
unfolding collected
collected_from f [] ys index sub y h at = let none : [] ≡ ys = cc in let nothing = rw (← none) at at in cc
collected_from f (a ∷ xs) ys index sub y h at = by_first (f a) refl h (λ bs rest more. collected_from f xs bs index sub y rest more)
  where
    by_place : (b : Entry) (bs : List Entry) → f a ≡ Ok b → (t : Bool) → is_at index sub b ≡ t → cond t (Some b) (entry_at bs index sub) ≡ Some y
        → (entry_at bs index sub ≡ Some y → Comes f xs y × (is_at index sub y ≡ true)) → Comes f (a ∷ xs) y × (is_at index sub y ≡ true)
    by_place b bs e true t here later = let same : b ≡ y = cc in ((a, (zero, omega arith, refl), e ∙ ap Ok same), rw (← same) t)
    by_place b bs e false t here later = let from = later here in (comes_later f a xs y from.0, from.1)

    by_rest : (b : Entry) → f a ≡ Ok b → (r : Result (List Entry) Refusal) → collected f xs ≡ r → (r >>= λ bs. Ok (b ∷ bs)) ≡ Ok ys
        → ((bs : List Entry) → collected f xs ≡ Ok bs → entry_at bs index sub ≡ Some y → Comes f xs y × (is_at index sub y ≡ true)) → Comes f (a ∷ xs) y × (is_at index sub y ≡ true)
    by_rest b e (Err r) rest h later = cc
    by_rest b e (Ok bs) rest h later =
        let same : b ∷ bs ≡ ys = cc in
        by_place b bs e (is_at index sub b) refl (rw (← same) at at) (later bs rest)

    by_first : (r : Result Entry Refusal) → f a ≡ r → (r >>= λ b. collected f xs >>= λ bs. Ok (b ∷ bs)) ≡ Ok ys
        → ((bs : List Entry) → collected f xs ≡ Ok bs → entry_at bs index sub ≡ Some y → Comes f xs y × (is_at index sub y ≡ true)) → Comes f (a ∷ xs) y × (is_at index sub y ≡ true)
    by_first (Err r) e h later = cc
    by_first (Ok b) e h later = by_rest b e (collected f xs) refl h later

pub each_object : (text : List ℕ) (node : ℕ) (dict : List Entry) (object : Object) → built text node ≡ Ok dict → Contains (objects_of text) object
    → (entry : Entry) × (entry_built text node object ≡ Ok entry) × (entry_at dict object.index object.sub ≡ Some entry)
each_object text node dict object h has =
    let found = collected_has (entry_built text node) (objects_of text) dict object h has in
    let at = kept_address text node object (type_numbered object.data_type) found.0 found.1 in
    (found.0, found.1, ap (λ i. entry_at dict i object.sub) (sym at.0) ∙ ap (λ s. entry_at dict found.0.index s) (sym at.1) ∙ own_place dict found.0 (built_sorted text node dict h) found.2)

pub only_objects : (text : List ℕ) (node index sub : ℕ) (dict : List Entry) (entry : Entry) → built text node ≡ Ok dict → entry_at dict index sub ≡ Some entry
    → (object : Object) × Contains (objects_of text) object × (object.index ≡ index) × (object.sub ≡ sub) × (entry_built text node object ≡ Ok entry)
only_objects text node index sub dict entry h at =
    let from = collected_from (entry_built text node) (objects_of text) dict index sub entry h at in
    let object = from.0.0 in
    let kept = kept_address text node object (type_numbered object.data_type) entry from.0.2 in
    let place = and_parts (entry.index == index) (entry.sub == sub) from.1 in
    (object, from.0.1, sym kept.0 ∙ eqb-true entry.index index place.0, sym kept.1 ∙ eqb-true entry.sub sub place.1, from.0.2)
