-- Reads and writes of a dictionary, and the change of one of its entries.
use Rattle.std.proofs.Common.{◌≡◌, ◌≢◌, ◌<◌, ◌≤◌, ℕ, zero, suc, Bool, true, false, cond, List, [], ◌∷◌, length, map, take, drop, ◌++◌, get_or, set, Option, Some, None, Result, Ok, Err, OnOk, OnErr, IfErr, IsSome, IsOk, Contains, refl, ap, sym, subst, ◌∙◌, arith}
use Rattle.std.proofs.lemmas.Bool.Decides.{nat_tests}
use Rattle.std.proofs.lemmas.List.{take_all, length-map, append-nil}
use Rattle.std.proofs.Math.ListN.{drop_of_length-le}
use Rattle.cop_dict.specs.declared.abort.Abort.{Abort}
use Rattle.cop_dict.specs.declared.abort.Abort.TheVariants as aborts
use Rattle.cop_dict.specs.declared.description.Description.{Description}
use Rattle.cop_dict.specs.Types.{width_of}
use Rattle.cop_dict.specs.Rules.{first_broken, read_rules, value_rules, access_rules}
use Rattle.cop_dict.specs.Find.{Entry, is_at, is_before, entry_at, IsSorted}
use Rattle.cop_dict.specs.Mapping.{is_between}
use Rattle.cop_dict.specs.Pdo.{refused_by_pdos}
use Rattle.cop_dict.specs.Dict.{found, read_of, written, admitted, with_value, as_built, reset_communication, unless_broken, valued, Refuses, Writes, HasWidth, Grows, FitsAt, Follows}
use Rattle.cop_dict.proofs.SearchLemmas.{others_apart, entry_here}

pub read_found : (dict : List Entry) (index sub : ℕ) (e : Entry) (d : Description) (a : Option Abort) → entry_at dict index sub ≡ Some e → d ≡ e.description → first_broken (read_rules d) ≡ a
    → read_of dict index sub ≡ unless_broken a e.value
unfolding read_of
read_found dict index sub e d a h same broken = rw (h, ← same) (rw broken refl)

pub read_absent : (dict : List Entry) (index sub : ℕ) (a : Abort) → found dict index (entry_at dict index sub) ≡ Err a → read_of dict index sub ≡ Err a
unfolding read_of
read_absent dict index sub a h = rw h refl

pub admitted_found : (dict : List Entry) (index sub : ℕ) (e : Entry) (d : Description) (size : Option ℕ) (a : Option Abort) → entry_at dict index sub ≡ Some e
    → d ≡ e.description → first_broken (access_rules d size) ≡ a → admitted dict index sub size ≡ unless_broken a (width_of d.data_type)
unfolding admitted
admitted_found dict index sub e d size a h same broken = rw (h, ← same) (rw broken refl)

pub admitted_absent : (dict : List Entry) (index sub : ℕ) (size : Option ℕ) (a : Abort) → found dict index (entry_at dict index sub) ≡ Err a → admitted dict index sub size ≡ Err a
unfolding admitted
admitted_absent dict index sub size a h = rw h refl

pub written_found : (dict : List Entry) (index sub : ℕ) (bytes : List ℕ) (e : Entry) (d : Description) (a : Option Abort) → entry_at dict index sub ≡ Some e
    → d ≡ e.description → first_broken (value_rules d bytes) ≡ None → refused_by_pdos dict e bytes ≡ a
    → written dict index sub bytes ≡ unless_broken a (with_value index sub bytes dict)
unfolding written
written_found dict index sub bytes e d a h same lawful broken =
    let fits : first_broken (value_rules e.description bytes) ≡ None = ap (λ d. first_broken (value_rules d bytes)) (sym same) ∙ lawful in
    rw (h, fits) (ap (λ a. unless_broken a (with_value index sub bytes dict)) broken)

pub written_broken : (dict : List Entry) (index sub : ℕ) (bytes : List ℕ) (e : Entry) (d : Description) (a : Abort) → entry_at dict index sub ≡ Some e
    → d ≡ e.description → first_broken (value_rules d bytes) ≡ Some a → written dict index sub bytes ≡ Err a
unfolding written
written_broken dict index sub bytes e d a h same broken =
    let fails : first_broken (value_rules e.description bytes) ≡ Some a = ap (λ d. first_broken (value_rules d bytes)) (sym same) ∙ broken in
    rw (h, fails) refl

pub written_absent : (dict : List Entry) (index sub : ℕ) (bytes : List ℕ) (a : Abort) → found dict index (entry_at dict index sub) ≡ Err a → written dict index sub bytes ≡ Err a
unfolding written
written_absent dict index sub bytes a h = rw h refl

map_none : {X : Type 0} (p : X → Bool) (g : X → X) (xs : List X) → ((k : ℕ) (d : X) → k < length xs → p (get_or xs k d) ≡ false) → map (λ x. cond (p x) (g x) x) xs ≡ xs
map_none p g [] apart = refl
map_none p g (x ∷ xs) apart =
    let no : p x ≡ false = apart 0 x (omega arith) in
    rw no (ap (λ ys. x ∷ ys) (map_none p g xs (λ k d lt. apart (suc k) d (omega arith))))

-- a change of the one element that passes
map_one : {X : Type 0} (p : X → Bool) (g : X → X) (xs : List X) (i : ℕ) (y d : X) → i < length xs → p (get_or xs i d) ≡ true
    → ((k : ℕ) (e : X) → k < length xs → i ≢ k → p (get_or xs k e) ≡ false) → y ≡ g (get_or xs i d) → map (λ x. cond (p x) (g x) x) xs ≡ set xs i y
map_one p g [] i y d lt here apart same = absurd (omega arith)
map_one p g (x ∷ xs) zero y d lt here apart same =
    rw (here, same) (ap (λ ys. g x ∷ ys) (map_none p g xs (λ k e lt. apart (suc k) e (omega arith) (λ h. omega arith))))
map_one p g (x ∷ xs) (suc i) y d lt here apart same =
    let no : p x ≡ false = apart 0 x (omega arith) (λ h. omega arith) in
    rw no (ap (λ ys. x ∷ ys) (map_one p g xs i y d (omega arith) here (λ k e lt differ. apart (suc k) e (omega arith) (λ h. differ (omega arith))) same))

-- the change of the entry at an address
pub changed : (dict : List Entry) (index sub i : ℕ) (bytes : List ℕ) (y d : Entry) → IsSorted dict → i < length dict → ((e : Entry) → is_at index sub (get_or dict i e) ≡ true)
    → y ≡ valued bytes (get_or dict i d) → with_value index sub bytes dict ≡ set dict i y
changed dict index sub i bytes y d sorted inside here same =
    map_one (is_at index sub) (valued bytes) dict i y d inside (here d)
    (λ k e lt differ. others_apart dict index sub i k e sorted inside lt (here e) differ) same

-- a refusal that is the outcome's
pub refuses : (a : Abort) (outcome : Result (List Entry) Abort) → outcome ≢ Err aborts.NoMemory → outcome ≡ Err a → Refuses a outcome
refuses aborts.NoMemory outcome never h = absurd (never h)
refuses aborts.Toggle outcome never h = h
refuses aborts.TimeOut outcome never h = h
refuses aborts.Command outcome never h = h
refuses aborts.NoSize outcome never h = h
refuses aborts.OpaqueType outcome never h = h
refuses aborts.WriteOnly outcome never h = h
refuses aborts.ReadOnly outcome never h = h
refuses aborts.NoObject outcome never h = h
refuses aborts.NoSub outcome never h = h
refuses aborts.TooLong outcome never h = h
refuses aborts.TooShort outcome never h = h
refuses aborts.AboveLimit outcome never h = h
refuses aborts.BelowLimit outcome never h = h
refuses aborts.InvalidValue outcome never h = h
refuses aborts.NotMappable outcome never h = h
refuses aborts.MappingTooLong outcome never h = h
refuses aborts.DeviceState outcome never h = h

set_same : {X : Type 0} (xs : List X) (i : ℕ) (y d : X) → y ≡ get_or xs i d → i < length xs → set xs i y ≡ xs
set_same [] i y d same lt = refl
set_same (x ∷ xs) zero y d same lt = ap (λ z. z ∷ xs) same
set_same (x ∷ xs) (suc i) y d same lt = ap (λ ys. x ∷ ys) (set_same xs i y d same (omega arith))

-- the change of one entry, or none for want of memory
pub stored : {X : Type 0} (r : Result X Abort) (dict : List Entry) (index sub i : ℕ) (bytes : List ℕ) (y d : Entry)
    → IsSorted dict → i < length dict → ((e : Entry) → is_at index sub (get_or dict i e) ≡ true)
    → written dict index sub bytes ≡ Ok (with_value index sub bytes dict)
    → OnOk r (y ≡ valued bytes (get_or dict i d)) → OnErr r (y ≡ get_or dict i d)
    → IfErr r (λ a. (a ≡ aborts.NoMemory) × (length (get_or dict i d).initial < length bytes))
    → Writes r dict (set dict i y) (written dict index sub bytes)
stored (Ok x) dict index sub i bytes y d sorted inside here lawful ok err memory =
    lawful ∙ ap Ok (changed dict index sub i bytes y d sorted inside here ok)
stored (Err a) dict index sub i bytes y d sorted inside here lawful ok err memory = (rw (memory.0, lawful) refl, set_same dict i y d err inside)

-- memory is wanted for an entry that grows
pub grown : {X : Type 0} (r : Result X Abort) (dict : List Entry) (index sub i : ℕ) (bytes : List ℕ) (d : Entry)
    → IsSorted dict → i < length dict → ((e : Entry) → is_at index sub (get_or dict i e) ≡ true)
    → IfErr r (λ a. (a ≡ aborts.NoMemory) × (length (get_or dict i d).initial < length bytes))
    → IfErr r (λ a. a ≡ aborts.NoMemory → Grows dict index sub bytes)
grown (Ok x) dict index sub i bytes d sorted inside here memory = tt
grown (Err a) dict index sub i bytes d sorted inside here memory = λ _. rw (entry_here dict index sub i d sorted inside (here d)) memory.1

pub follows : {X : Type 0} (r : Result X Abort) (dict : List Entry) (index sub i : ℕ) (bytes : List ℕ) (y d : Entry)
    → IsSorted dict → i < length dict → ((e : Entry) → is_at index sub (get_or dict i e) ≡ true)
    → written dict index sub bytes ≡ Ok (with_value index sub bytes dict)
    → OnOk r (y ≡ valued bytes (get_or dict i d)) → (IsSome (width_of (get_or dict i d).description.data_type) → IsOk r)
    → HasWidth dict index sub → Follows r (set dict i y) (written dict index sub bytes)
follows (Ok x) dict index sub i bytes y d sorted inside here lawful ok in_place has_width =
    lawful ∙ ap Ok (changed dict index sub i bytes y d sorted inside here ok)
follows (Err a) dict index sub i bytes y d sorted inside here lawful ok in_place has_width =
    let at = entry_here dict index sub i d sorted inside (here d) in
    let none = in_place (rw at at has_width) in
    cc

-- bytes that fit an address fit the entry there
pub fits_here : (dict : List Entry) (index sub i : ℕ) (bytes : List ℕ) (d : Entry) → IsSorted dict → i < length dict → ((e : Entry) → is_at index sub (get_or dict i e) ≡ true)
    → FitsAt dict index sub bytes → width_of (get_or dict i d).description.data_type ≡ Some (length bytes)
fits_here dict index sub i bytes d sorted inside here fits =
    let at = entry_here dict index sub i d sorted inside (here d) in
    let known = rw at at fits in
    cc

-- a change that keeps addresses keeps the order
map_at : {X : Type 0} (f : X → X) (xs : List X) (i : ℕ) (d e : X) → i < length xs → get_or (map f xs) i d ≡ f (get_or xs i e)
map_at f [] i d e lt = absurd (omega arith)
map_at f (x ∷ xs) zero d e lt = refl
map_at f (x ∷ xs) (suc i) d e lt = map_at f xs i d e (omega arith)

before_kept : (a b a' b' : Entry) → a'.index ≡ a.index → a'.sub ≡ a.sub → b'.index ≡ b.index → b'.sub ≡ b.sub → is_before b.index b.sub a ≡ true → is_before b'.index b'.sub a' ≡ true
before_kept a b a' b' ai as' bi bs h = rw (ai, as', bi, bs) h

pub sorted_map : (f : Entry → Entry) → ((e : Entry) → ((f e).index ≡ e.index) × ((f e).sub ≡ e.sub)) → (dict : List Entry) → IsSorted dict → IsSorted (map f dict)
sorted_map f kept dict sorted i j d lt inside =
    let within : j < length dict = omega (arith, simp length-map at inside) in
    let a = get_or dict i d in
    let b = get_or dict j d in
    rw (map_at f dict i d d (omega arith), map_at f dict j d d within)
    (before_kept a b (f a) (f b) (kept a).0 (kept a).1 (kept b).0 (kept b).1 (sorted i j d lt within))

pub built_kept : (e : Entry) → ((as_built e).index ≡ e.index) × ((as_built e).sub ≡ e.sub)
built_kept e = (refl, refl)

pub reset_kept : (e : Entry) → ((reset_communication e).index ≡ e.index) × ((reset_communication e).sub ≡ e.sub)
reset_kept e = by_test (is_between 0x1000 0x1FFF e.index)
  where
    by_test : (b : Bool) → ((cond b (as_built e) e).index ≡ e.index) × ((cond b (as_built e) e).sub ≡ e.sub)
    by_test true = (refl, refl)
    by_test false = (refl, refl)

-- a loop that changed each element has changed all
pub all_changed : (f : Entry → Entry) (dict new : List Entry) (n : ℕ) → length dict ≤ n → new ≡ map f (take n dict) ++ drop n dict → new ≡ map f dict
all_changed f dict new n all h = rw (take_all n dict all, drop_of_length-le dict all, append-nil) at h

pub valued_kept : (index sub : ℕ) (bytes : List ℕ) (e : Entry) → ((cond (is_at index sub e) (valued bytes e) e).index ≡ e.index) × ((cond (is_at index sub e) (valued bytes e) e).sub ≡ e.sub)
valued_kept index sub bytes e = by_test (is_at index sub e)
  where
    by_test : (b : Bool) → ((cond b (valued bytes e) e).index ≡ e.index) × ((cond b (valued bytes e) e).sub ≡ e.sub)
    by_test true = (refl, refl)
    by_test false = (refl, refl)

-- each entry is the one at its address
pub own_place : (dict : List Entry) (entry : Entry) → IsSorted dict → Contains dict entry → entry_at dict entry.index entry.sub ≡ Some entry
own_place dict entry sorted (k, inside, here) =
    entry_here dict entry.index entry.sub k entry sorted inside (rw here (own entry)) ∙ ap Some here
  where
    own : (e : Entry) → is_at e.index e.sub e ≡ true
    own e = grind (arith, nat_tests)

-- what is found at an address is in the dictionary, and has the address
pub found_inside : (dict : List Entry) (index sub : ℕ) (e : Entry) → entry_at dict index sub ≡ Some e → Contains dict e × (e.index ≡ index) × (e.sub ≡ sub)
found_inside [] index sub e h = absurd (cc)
found_inside (x ∷ xs) index sub e h = by_test (is_at index sub x) refl h (found_inside xs index sub e)
  where
    at : (x : Entry) → is_at index sub x ≡ true → (x.index ≡ index) × (x.sub ≡ sub)
    at x t = (grind (arith, nat_tests), grind (arith, nat_tests))

    by_test : (b : Bool) → is_at index sub x ≡ b → cond b (Some x) (entry_at xs index sub) ≡ Some e
        → (entry_at xs index sub ≡ Some e → Contains xs e × (e.index ≡ index) × (e.sub ≡ sub)) → Contains (x ∷ xs) e × (e.index ≡ index) × (e.sub ≡ sub)
    by_test true t h later =
        let same : x ≡ e = cc in
        subst (λ (y : Entry). Contains (x ∷ xs) y × (y.index ≡ index) × (y.sub ≡ sub)) same (let a = at x t in ((0, omega arith, refl), a.0, a.1))
    by_test false t h later =
        let r = later h in
        let low = r.0.1 in
        ((suc r.0.0, omega (arith, low), r.0.2), r.1, r.2)
