-- The consumers that a text names.
use Rattle.std.proofs.Common.{◌≡◌, ℕ, ◌+◌, ◌<◌, true, false, List, [], ◌∷◌, ◌++◌, length, refl, sym, ◌∙◌, Option, Some, None, Result, Ok, Err, MatchOption, Bor, IfSome, is_some, ap, append_assoc, ◌==◌}
use Rattle.cop_rows.specs.declared.pdo_table.Consumer.{Consumer}
use Rattle.cop_rows.specs.declared.refusals.Column.TheVariants as columns
use Rattle.cop_rows.specs.declared.refusals.Rule.TheVariants as rules
use Rattle.cop_rows.specs.Fields.{parts, each}
use Rattle.cop_table.specs.Reading.{◌>>=◌}
use Rattle.cop_rows.specs.PdoReading.{consumer_of, consumers_of, one_more}
use Rattle.std.proofs.lemmas.List.{append-nil}
use Rattle.cop_rows.proofs.PartLemmas.{parts_some}

-- a text with two dots names none
pub three_parts : (text rest first second : List ℕ) (more : Option (Bor (List ℕ))) → parts 46 text ≡ first ∷ parts 46 rest
    → MatchOption more (parts 46 rest ≡ second ∷ []) (λ r. (parts 46 rest ≡ second ∷ parts 46 r.now) × (length r.now < length rest))
    → is_some more ≡ true → Err (rules.Value columns.Consumers) ≡ consumer_of text
three_parts text rest first second None e h some = cc
three_parts text rest first second (Some r) e h some = let p = parts_some 46 r.now in rw (e, h.0, p.2) refl

-- the parts that are still to be read, and how many bytes they have, with one more where there are some
abbrev pub left_parts : Option (Bor (List ℕ)) → List (List ℕ)
left_parts None = []
left_parts (Some r) = parts 32 r.now

abbrev pub left_length : Option (Bor (List ℕ)) → ℕ
left_length None = 0
left_length (Some r) = length r.now + 1

-- what was read, and then what is read of the rest
abbrev pub after : {A F : Type 0} → List A → Result (List A) F → Result (List A) F
after xs r = r >>= λ ys. Ok (xs ++ ys)

join : {A F : Type 0} (xs : List A) (x : A) (r : Result (List A) F) → after xs (r >>= λ ys. Ok (x ∷ ys)) ≡ after (xs ++ x ∷ []) r
join xs x (Ok ys) = ap Ok (sym (append_assoc xs (x ∷ []) ys))
join xs x (Err e) = refl

more_by : {A B F : Type 0} (f : A → Result B F) (xs ys : List B) (r : Result B F) (rest : List A)
    → one_more xs r ≡ Ok ys → after xs (r >>= λ y. each f rest >>= λ ys. Ok (y ∷ ys)) ≡ after ys (each f rest)
more_by f xs ys (Ok y) rest h = let e : xs ++ y ∷ [] ≡ ys = cc in rw (← e) (join xs y (each f rest))
more_by f xs ys (Err e) rest h = cc

-- one more was read
pub each_more : {A B F : Type 0} (f : A → Result B F) (xs ys : List B) (a : A) (rest all : List A) → all ≡ a ∷ rest
    → one_more xs (f a) ≡ Ok ys → after xs (each f all) ≡ after ys (each f rest)
unfolding each
each_more f xs ys a rest all e h = rw e (more_by f xs ys (f a) rest h)

stops_by : {A B F : Type 0} (f : A → Result B F) (xs : List B) (r : Result B F) (rest : List A) (fault : F)
    → one_more xs r ≡ Err fault → after xs (r >>= λ y. each f rest >>= λ ys. Ok (y ∷ ys)) ≡ Err fault
stops_by f xs (Ok y) rest fault h = cc
stops_by f xs (Err e) rest fault h = let same : e ≡ fault = cc in ap Err same

each_stops : {A B F : Type 0} (f : A → Result B F) (xs : List B) (a : A) (rest all : List A) (fault : F) → all ≡ a ∷ rest
    → one_more xs (f a) ≡ Err fault → after xs (each f all) ≡ Err fault
unfolding each
each_stops f xs a rest all fault e h = rw e (stops_by f xs (f a) rest fault h)

-- one was refused, perhaps by no rule
pub each_fails : {A B F : Type 0} (f : A → Result B F) (xs : List B) (a : A) (rest all : List A) (fault : Option F) (total : Result (List B) F)
    → all ≡ a ∷ rest → after xs (each f all) ≡ total → IfSome fault (λ e. one_more xs (f a) ≡ Err e) → IfSome fault (λ e. total ≡ Err e)
each_fails f xs a rest all None total e t h = tt
each_fails f xs a rest all (Some fault) total e t h = sym t ∙ each_stops f xs a rest all fault e h

-- all were read
pub each_ends : {A B F : Type 0} (f : A → Result B F) (xs : List B) → after xs (each f []) ≡ Ok xs
unfolding each
each_ends f xs = ap Ok (append-nil xs)

-- a part was cut off the rest
pub left_cut : (left first : List ℕ) (more : Option (Bor (List ℕ)))
    → MatchOption more (parts 32 left ≡ first ∷ []) (λ r. (parts 32 left ≡ first ∷ parts 32 r.now) × (length r.now < length left))
    → parts 32 left ≡ first ∷ left_parts more
left_cut left first None h = h
left_cut left first (Some r) h = h.0

pub after_none : {A F : Type 0} (r : Result (List A) F) → after [] r ≡ r
after_none (Ok ys) = refl
after_none (Err e) = refl

-- nothing was read yet
pub begins : (xs : List Consumer) (text : List ℕ) → xs ≡ [] → (length text == 0) ≡ false
    → after xs (each consumer_of (parts 32 text)) ≡ consumers_of text
begins xs text e h = rw (e, h) (after_none (each consumer_of (parts 32 text)))
