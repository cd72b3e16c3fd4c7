-- The ranges of what is read.
use Rattle.std.proofs.Common.{◌≡◌, ℕ, ◌≤◌, Bool, true, false, List, [], ◌∷◌, length, refl, arith, Option, Some, None, Result, Ok, Err, All, if◌then◌else◌, ◌==◌}
use Rattle.std.proofs.lemmas.List.Elements.{All-nil, All-cons}
use Rattle.std.proofs.lemmas.Bool.Decides.{nat_tests}
use Rattle.cop_table.specs.Reading.{◌>>=◌}
use Rattle.cop_table.specs.Numbers.{number_of}
use Rattle.cop_rows.specs.declared.refusals.Column.{Column}
use Rattle.cop_rows.specs.declared.refusals.Column.TheVariants as columns
use Rattle.cop_rows.specs.declared.refusals.Rule.TheVariants as rules
use Rattle.cop_rows.specs.declared.pdo_table.Consumer.{Consumer}
use Rattle.cop_rows.specs.Fields.{parts, each, number_within, within, is_within}
use Rattle.cop_rows.specs.Pdos.{IsConsumer}
use Rattle.cop_rows.specs.PdoReading.{consumer_from, consumer_of, consumers_of}

-- what two steps gave, the first gave something to
pub bind_ok : {A B F : Type 0} (r : Result A F) (f : A → Result B F) (y : B) → (r >>= f) ≡ Ok y → (x : A) × (r ≡ Ok x) × (f x ≡ Ok y)
bind_ok (Ok x) f y h = (x, refl, h)
bind_ok (Err e) f y h = cc

in_range : (column : Column) (least most n m : ℕ) (t : Bool) → is_within least most n ≡ t → (if t then Ok n else Err (rules.Value column)) ≡ Ok m → (least ≤ m) × (m ≤ most)
in_range column least most n m true t h =
    let e : n ≡ m = cc in rw (← e) (grind (arith, nat_tests), grind (arith, nat_tests))
in_range column least most n m false t h = cc

ranged : (column : Column) (least most : ℕ) (o : Option ℕ) (m : ℕ) → within column least most o ≡ Ok m → (least ≤ m) × (m ≤ most)
ranged column least most None m h = cc
ranged column least most (Some n) m h = in_range column least most n m (is_within least most n) refl h

consumer_from_ok : (texts : List (List ℕ)) (c : Consumer) → consumer_from texts ≡ Ok c → IsConsumer c
consumer_from_ok [] c h = cc
consumer_from_ok (first ∷ []) c h = cc
consumer_from_ok (first ∷ second ∷ []) c h =
    let p = bind_ok (number_within columns.Consumers 1 127 first) _ c h in
    let q = bind_ok (number_within columns.Consumers 1 512 second) _ c p.2 in
    let e : record { node = p.0; rpdo = q.0 } ≡ c = cc in
    let n = ranged columns.Consumers 1 127 (number_of 10 first) p.0 p.1 in
    let r = ranged columns.Consumers 1 512 (number_of 10 second) q.0 q.1 in
    rw (← e) (record { node_least = n.0; node_most = n.1; rpdo_least = r.0; rpdo_most = r.1 })
consumer_from_ok (first ∷ second ∷ third ∷ more) c h = cc

each_all : {A B F : Type 0} (P : B → Type 0) (f : A → Result B F) (good : (a : A) (b : B) → f a ≡ Ok b → P b)
    → (xs : List A) (ys : List B) → each f xs ≡ Ok ys → All P ys
unfolding each
each_all P f good [] ys h = let e : [] ≡ ys = cc in rw (← e) (All-nil P)
each_all P f good (x ∷ xs) ys h =
    let p = bind_ok (f x) _ ys h in
    let q = bind_ok (each f xs) _ ys p.2 in
    let e : p.0 ∷ q.0 ≡ ys = cc in
    rw (← e) (All-cons P p.0 q.0 (good x p.0 p.1) (each_all P f good xs q.0 q.1))

listed_ok : (t : Bool) (texts : List (List ℕ)) (cs : List Consumer) → (if t then Ok [] else each consumer_of texts) ≡ Ok cs → All IsConsumer cs
listed_ok true texts cs h = let e : [] ≡ cs = cc in rw (← e) (All-nil IsConsumer)
listed_ok false texts cs h = each_all IsConsumer consumer_of (λ text c e. consumer_from_ok (parts 46 text) c e) texts cs h

-- the consumers that a field names are in their ranges
pub consumers_ok : (text : List ℕ) (cs : List Consumer) → consumers_of text ≡ Ok cs → All IsConsumer cs
consumers_ok text cs h = listed_ok (length text == 0) (parts 32 text) cs h
