-- The headers and keys of a text, line by line.
use Rattle.std.proofs.Common.{◌≡◌, ℕ, List, [], ◌∷◌, ◌++◌, zero, suc, ◌+◌, ◌<◌, ◌≤◌, drop, length, map, slice_index_or, None, Result, Ok, Err, Vec, Global, IfOk, refl, sym, ap, subst, ◌∙◌, arith, append_assoc, append-nil}
use Rattle.std.specs.List.Sorted.{IsNonDecreasingBy}
use Rattle.cop_eds.specs.Text.{cut, mark_len}
use Rattle.cop_tidy_lines.specs.declared.kinds.LineKind.{LineKind}
use Rattle.cop_tidy_lines.specs.declared.kinds.LineKind.TheVariants.{Silent, Header, Pair, Unknown}
use Rattle.cop_tidy_lines.specs.Kinds.{kind_meant}
use Rattle.cop_tidy_reading.specs.declared.items.Before.{Before}
use Rattle.cop_tidy_reading.specs.declared.items.Item.{Item}
use Rattle.cop_tidy_reading.specs.declared.question.Question.{Question}
use Rattle.cop_tidy_reading.specs.declared.question.ReadingFault.{ReadingFault}
use Rattle.cop_tidy_reading.specs.declared.question.ReadingFault.TheVariants as faults
use Rattle.cop_tidy_reading.specs.Questions.{◌>>=◌}
use Rattle.cop_tidy_reading.specs.Items.{Said, body_of, bodies_of, after, said, said_from, items_of}
use Rattle.cop_tidy_reading.specs.Seen.{said_of, joined, Asks, Gives}
use Rattle.cop_tidy_reading.specs.Index.{section_of}

-- what the lines of these bytes say, behind what is known
abbrev pub said_by : List Said → Before → List ℕ → Result (List Said) Question
said_by found before bytes = joined found (said_from before (map body_of (cut bytes)))

join_on : (found first : List Said) (rest : Result (List Said) Question) →
    joined found (rest >>= λ more. Ok (first ++ more)) ≡ joined (found ++ first) rest
join_on found first (Ok more) = ap Ok (sym (append_assoc found first more))
join_on found first (Err question) = refl

on_by : (found next : List Said) (line rest : Result (List Said) Question) → joined found line ≡ Ok next →
    joined found (line >>= λ first. rest >>= λ more. Ok (first ++ more)) ≡ joined next rest
on_by found next (Err question) rest e = cc
on_by found next (Ok first) rest e = let same : found ++ first ≡ next = cc in join_on found first rest ∙ ap (λ xs. joined xs rest) same

-- the lines behind one that says something, or nothing
pub goes_on : (found next : List Said) (before : Before) (bytes raw rest : List ℕ) → cut bytes ≡ raw ∷ cut rest →
    joined found (said before (body_of raw) (kind_meant before.name (body_of raw))) ≡ Ok next →
    said_by found before bytes ≡ said_by next (after before (kind_meant before.name (body_of raw))) rest
unfolding said_from
goes_on found next before bytes raw rest e f = rw e (on_by found next _ _ f)

asks_by : (found : List Said) (fault : ReadingFault) (line rest : Result (List Said) Question) → Asks fault line →
    Asks fault (joined found (line >>= λ first. rest >>= λ more. Ok (first ++ more)))
asks_by found faults.Memory line rest e = tt
asks_by found (faults.Asked question) line rest e = rw e refl

-- the line that is asked for
pub stops : (found : List Said) (fault : ReadingFault) (before : Before) (bytes raw rest : List ℕ) → cut bytes ≡ raw ∷ cut rest →
    Asks fault (said before (body_of raw) (kind_meant before.name (body_of raw))) → Asks fault (said_by found before bytes)
unfolding said_from
stops found fault before bytes raw rest e f = rw e (asks_by found fault _ _ f)

from_nothing : (read : Result (List Said) Question) → joined [] read ≡ read
from_nothing (Ok xs) = refl
from_nothing (Err question) = refl

-- nothing is known before the first line
pub begins : (text : List ℕ) → said_by [] (record { lines = 0; sections = 0; name = None }) (drop (mark_len text) text) ≡ items_of text
unfolding items_of
begins text = from_nothing _

none_left : (found : List Said) (before : Before) → said_by found before [] ≡ Ok found
unfolding said_from
none_left found before = ap Ok (append-nil found)

-- no line is left
pub ends : (found : List Said) (before : Before) (bytes : List ℕ) → length bytes ≡ 0 → said_by found before bytes ≡ Ok found
ends found before [] e = none_left found before
ends found before (b ∷ bs) e = cc

-- ---- sections rise along a text

-- the numbers of sections do not fall, from this one on
abbrev RisesFrom : ℕ → List Said → Type 0
RisesFrom n [] = Unit {0}
RisesFrom n (x ∷ xs) = (n ≤ x.section) × RisesFrom x.section xs

rises_by : (before : Before) (body : List ℕ) (kind : LineKind) (rest : Result (List Said) Question) (found : List Said)
    → ((more : List Said) → rest ≡ Ok more → RisesFrom (after before kind).sections more)
    → (said before body kind >>= λ first. rest >>= λ more. Ok (first ++ more)) ≡ Ok found → RisesFrom before.sections found
rises_by before body Silent (Ok more) found later e = let same : more ≡ found = cc in subst (RisesFrom before.sections) same (later more refl)
rises_by before body Silent (Err question) found later e = cc
rises_by before body Unknown rest found later e = cc
rises_by before body (Pair key) (Ok more) found later e =
    let same : (record { line = before.lines + 1; section = before.sections; kind = Pair key; body = body } ∷ more) ≡ found = cc in
    subst (RisesFrom before.sections) same (omega arith, later more refl)
rises_by before body (Pair key) (Err question) found later e = cc
rises_by before body (Header name) (Ok more) found later e =
    let same : (record { line = before.lines + 1; section = before.sections + 1; kind = Header name; body = body } ∷ more) ≡ found = cc in
    subst (RisesFrom before.sections) same (omega arith, later more refl)
rises_by before body (Header name) (Err question) found later e = cc

rises_from : (before : Before) (bodies : List (List ℕ)) (found : List Said) → said_from before bodies ≡ Ok found → RisesFrom before.sections found
unfolding said_from
rises_from before [] found e = let same : [] ≡ found = cc in subst (RisesFrom before.sections) same tt
rises_from before (body ∷ bodies) found e =
    rises_by before body (kind_meant before.name body) (said_from (after before (kind_meant before.name body)) bodies) found
    (λ more is. rises_from (after before (kind_meant before.name body)) bodies more is) e

at_least : (n : ℕ) (items : List Item) → RisesFrom n (map said_of items) → (k : ℕ) (d : Item) → k < length items → n ≤ section_of (slice_index_or items k d)
at_least n [] h k d lt = absurd (omega (arith, lt))
at_least n (x ∷ xs) h zero d lt = h.0
at_least n (x ∷ xs) h (suc k) d lt = let later = at_least x.section xs h.1 k d (omega (arith, lt)) in omega (arith, h.0, later)

pub rises_all : (n : ℕ) (items : List Item) → RisesFrom n (map said_of items) → IsNonDecreasingBy section_of items
rises_all n [] h i j d le lt = absurd (omega (arith, lt))
rises_all n (x ∷ xs) h zero zero d le lt = omega arith
rises_all n (x ∷ xs) h zero (suc j) d le lt = at_least x.section xs h.1 j d (omega (arith, lt))
rises_all n (x ∷ xs) h (suc i) zero d le lt = absurd (omega (arith, le))
rises_all n (x ∷ xs) h (suc i) (suc j) d le lt = rises_all x.section xs h.1 i j d (omega (arith, le)) (omega (arith, lt))

-- the items of a text rise by their sections
pub rises : (text : List ℕ) (result : Result (Vec Item Global) ReadingFault) → Gives (λ v. map said_of v.items) result (items_of text) →
    IfOk result (λ v. IsNonDecreasingBy section_of v.items)
unfolding items_of
rises text (Err fault) e = tt
rises text (Ok v) e = rises_all 0 v.items (rises_from _ _ _ e)
