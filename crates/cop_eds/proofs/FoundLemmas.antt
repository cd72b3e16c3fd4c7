-- The objects at the indexes that were looked at so far.
use Rattle.std.proofs.Common.{◌≡◌, ℕ, zero, suc, ◌-◌, ◌<◌, ◌≤◌, List, [], ◌∷◌, ◌++◌, length, take, drop, get_or, fold, codes, Contains, Ok, refl, sym, ap, subst, ◌∙◌, arith}
use Rattle.std.specs.List.{AllByRecursion, flat_map}
use Rattle.std.specs.Ordering.{nat_cmp}
use Rattle.std.specs.Map.{keys_of, values_of}
use Rattle.std.specs.BTreeSet.{insert_key}
use Rattle.std.proofs.lemmas.List.{length-drop, drop-append-le, take-append-le, drop_at, length-append, take_all}
use Rattle.cop_eds.specs.declared.fault.EdsFault.{EdsFault}
use Rattle.cop_eds.specs.declared.fault.EdsFault.TheVariants.{Refused, Memory}
use Rattle.cop_eds.specs.declared.description.Object.{Object}
use Rattle.cop_eds.specs.declared.found.Span.{Span}
use Rattle.cop_eds.specs.Lines.{Fails}
use Rattle.cop_eds.specs.Sections.{place_of}
use Rattle.cop_eds.specs.Lists.{IsSound, listed_in, listed}
use Rattle.cop_eds.specs.Objects.{objects_at, rising, objects_listed, objects_of}
use Rattle.cop_eds.specs.Found.{IsInside, spanned, IsPart}

-- a span keeps its objects as more come after
part_more : (text : List ℕ) (objects more : List Object) (part : ℕ × Span) → IsPart text objects part → IsPart text (objects ++ more) part
part_more text objects more part h =
    let from = part.1.from in
    let size = part.1.to - part.1.from in
    let fits : size ≤ length (drop from objects) = omega (arith, length-drop from objects, h.1.0, h.1.1) in
    let same : spanned (objects ++ more) part.1 ≡ spanned objects part.1 =
    ap (take size) (drop-append-le from objects more (omega (arith, h.1.0, h.1.1))) ∙ take-append-le size (drop from objects) more fits in
    (h.0, (h.1.0, omega (arith, h.1.1, length-append objects more)), same ∙ h.2)

parts_more : (text : List ℕ) (objects more : List Object) (parts : List (ℕ × Span)) → AllByRecursion (IsPart text objects) parts
    → AllByRecursion (IsPart text (objects ++ more)) parts
parts_more text objects more [] h = tt
parts_more text objects more (part ∷ parts) h = (part_more text objects more part h.0, parts_more text objects more parts h.1)

-- the objects that come last
spanned_last : (objects more : List Object) → take (length (objects ++ more) - length objects) (drop (length objects) (objects ++ more)) ≡ more
spanned_last objects more =
    let size : length (objects ++ more) - length objects ≡ length more = omega (arith, length-append objects more) in
    let rest : drop (length objects) (objects ++ more) ≡ more = drop_at objects more (length objects) refl in
    rw (rest, size) (take_all (length more) more (omega arith))

all_last : (P : ℕ × Span → Type 0) (parts : List (ℕ × Span)) (part : ℕ × Span) → AllByRecursion P parts → P part → AllByRecursion P (parts ++ part ∷ [])
all_last P [] part all h = (h, tt)
all_last P (first ∷ parts) part all h = (all.0, all_last P parts part all.1 h)

-- one more index, with the objects that come last
pub parts_new : (text : List ℕ) (objects all : List Object) (parts : List (ℕ × Span)) (k from to : ℕ) → all ≡ objects ++ objects_at text k
    → from ≡ length objects → to ≡ length all → IsSound text k → AllByRecursion (IsPart text objects) parts
    → AllByRecursion (IsPart text all) (parts ++ (k, record { from = from; to = to }) ∷ [])
parts_new text objects all parts k from to e start end sound h =
    let new : IsPart text (objects ++ objects_at text k) (k, record { from = length objects; to = length (objects ++ objects_at text k) }) =
    (sound, (omega (arith, length-append objects (objects_at text k)), omega arith), spanned_last objects (objects_at text k)) in
    let there : to ≡ length (objects ++ objects_at text k) = end ∙ ap length e in
    rw (e, start, there) (all_last (IsPart text (objects ++ objects_at text k)) parts _ (parts_more text objects (objects_at text k) parts h) new)

sound_at : (text : List ℕ) (objects : List Object) (parts : List (ℕ × Span)) (i d : ℕ) → AllByRecursion (IsPart text objects) parts → i < length (keys_of parts)
    → IsSound text (get_or (keys_of parts) i d)
sound_at text objects [] i d all lt = absurd (omega arith)
sound_at text objects (part ∷ parts) zero d all lt = all.0.0
sound_at text objects (part ∷ parts) (suc i) d all lt = sound_at text objects parts i d all.1 (omega arith)

-- and it keeps its rules
pub sound_there : (text : List ℕ) (objects : List Object) (parts : List (ℕ × Span)) (k : ℕ) → AllByRecursion (IsPart text objects) parts → Contains (keys_of parts) k → IsSound text k
sound_there text objects parts k all c = subst (IsSound text) c.2 (sound_at text objects parts c.0 k all c.1)

-- the spans' objects, by rising index
pub parts_give : (text : List ℕ) (objects : List Object) (parts : List (ℕ × Span)) → AllByRecursion (IsPart text objects) parts
    → flat_map (spanned objects) (values_of parts) ≡ flat_map (objects_at text) (keys_of parts)
parts_give text objects [] all = refl
parts_give text objects (part ∷ parts) all =
    ap (λ xs. xs ++ flat_map (spanned objects) (values_of parts)) all.0.2 ∙ ap (λ xs. objects_at text part.0 ++ xs) (parts_give text objects parts all.1)

pub parts_inside : (text : List ℕ) (objects : List Object) (parts : List (ℕ × Span)) → AllByRecursion (IsPart text objects) parts
    → AllByRecursion (IsInside (length objects)) (values_of parts)
parts_inside text objects [] all = tt
parts_inside text objects (part ∷ parts) all = (all.0.1, parts_inside text objects parts all.1)

-- the indexes of the three lists

fold_append : (f : List ℕ → ℕ → List ℕ) (start xs ys : List ℕ) → fold f start (xs ++ ys) ≡ fold f (fold f start xs) ys
fold_append f start [] ys = refl
fold_append f start (x ∷ xs) ys = fold_append f (f start x) xs ys

-- one more index of a list
pub fold_push : (old new more xs : List ℕ) (x : ℕ) → old ≡ fold (insert_key nat_cmp) more xs → new ≡ insert_key nat_cmp old x
    → new ≡ fold (insert_key nat_cmp) more (xs ++ x ∷ [])
fold_push old new more xs x e f = f ∙ ap (λ ks. insert_key nat_cmp ks x) e ∙ sym (fold_append (insert_key nat_cmp) more xs (x ∷ []))

pub first_fails : (text : List ℕ) (fault : EdsFault) → Fails fault (listed_in text (place_of text (codes "MandatoryObjects"))) → Fails fault (listed text)
unfolding listed
first_fails text Memory h = tt
first_fails text (Refused r) h = rw h refl

pub second_fails : (text a : List ℕ) (fault : EdsFault) → listed_in text (place_of text (codes "MandatoryObjects")) ≡ Ok a
    → Fails fault (listed_in text (place_of text (codes "OptionalObjects"))) → Fails fault (listed text)
unfolding listed
second_fails text a Memory e h = tt
second_fails text a (Refused r) e h = rw (e, h) refl

pub third_fails : (text a b : List ℕ) (fault : EdsFault) → listed_in text (place_of text (codes "MandatoryObjects")) ≡ Ok a
    → listed_in text (place_of text (codes "OptionalObjects")) ≡ Ok b
    → Fails fault (listed_in text (place_of text (codes "ManufacturerObjects"))) → Fails fault (listed text)
unfolding listed
third_fails text a b Memory e f h = tt
third_fails text a b (Refused r) e f h = rw (e, f, h) refl

pub all_listed : (text a b c : List ℕ) → listed_in text (place_of text (codes "MandatoryObjects")) ≡ Ok a
    → listed_in text (place_of text (codes "OptionalObjects")) ≡ Ok b
    → listed_in text (place_of text (codes "ManufacturerObjects")) ≡ Ok c → listed text ≡ Ok (a ++ b ++ c)
unfolding listed
all_listed text a b c e f g = rw (e, f, g) refl

pub all_rise : (a b c none first second third : List ℕ) → none ≡ [] → first ≡ fold (insert_key nat_cmp) none a → second ≡ fold (insert_key nat_cmp) first b
    → third ≡ fold (insert_key nat_cmp) second c → third ≡ rising (a ++ b ++ c)
unfolding rising
all_rise a b c none first second third z e f g =
    let one : first ≡ fold (insert_key nat_cmp) [] a = e ∙ ap (λ ks. fold (insert_key nat_cmp) ks a) z in
    let two : second ≡ fold (insert_key nat_cmp) (fold (insert_key nat_cmp) [] a) b = f ∙ ap (λ ks. fold (insert_key nat_cmp) ks b) one in
    let three : third ≡ fold (insert_key nat_cmp) (fold (insert_key nat_cmp) (fold (insert_key nat_cmp) [] a) b) c = g ∙ ap (λ ks. fold (insert_key nat_cmp) ks c) two in
    three ∙ sym (fold_append (insert_key nat_cmp) [] (a ++ b) c ∙ ap (λ ks. fold (insert_key nat_cmp) ks c) (fold_append (insert_key nat_cmp) [] a b))

-- what the parts hold once all lists are read
pub all_held : (text indexes : List ℕ) (objects found : List Object) (parts : List (ℕ × Span)) → objects ≡ flat_map (spanned found) (values_of parts)
    → AllByRecursion (IsPart text found) parts → keys_of parts ≡ rising indexes → listed text ≡ Ok indexes → objects ≡ objects_of text
all_held text indexes objects found parts e all keys read =
    e ∙ parts_give text found parts all ∙ ap (flat_map (objects_at text)) keys ∙ sym (ap (objects_listed text) read)
