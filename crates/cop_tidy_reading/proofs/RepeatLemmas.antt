-- Sections and keys that stand twice.
use Rattle.std.proofs.Common.{◌≡◌, Bool, true, false, cond, List, [], ◌∷◌, map, not, Option, None, Some, is_some, Bor, refl}
use Rattle.std.specs.Option.{MatchOption}
use Rattle.cop_tidy_reading.specs.declared.items.Item.{Item}
use Rattle.cop_tidy_reading.specs.Seen.{said_of}
use Rattle.cop_tidy_reading.specs.Items.{Said}
use Rattle.cop_tidy_reading.specs.Sections.{is_pair}
use Rattle.cop_tidy_reading.specs.Repeats.{pairs_among, are_same, agrees_with, agrees, without_first, behind, check_line, check_repeats}
use Rattle.cop_tidy_reading.specs.declared.question.Question.{Question}
use Rattle.cop_tidy_reading.specs.Questions.{all_of, asked_after, checked}
use Rattle.cop_tidy_reading.proofs.LoopLemmas.{asked_last}

abbrev pub Next : Type 0
Next = Bor Item × Bor (List Item)

abbrev pub Begins : Option Next → List Said → Type 0
Begins found rest = MatchOption found (pairs_among rest ≡ []) (λ next. pairs_among rest ≡ said_of next.0.now ∷ pairs_among (map said_of next.1.now))

-- what is no key is passed over
pub skips : (x : Said) (xs : List Said) → is_pair x.kind ≡ false → pairs_among (x ∷ xs) ≡ pairs_among xs
skips x xs e = rw e refl

pub no_first : (keys : List Said) → keys ≡ [] → without_first keys ≡ []
no_first keys e = rw e refl

on_by : (t : Bool) (x : Said) (xs keys : List Said) → cond t (agrees_with x keys) true ≡ true →
    are_same (cond t (x ∷ xs) xs) keys ≡ are_same xs (cond t (without_first keys) keys)
unfolding are_same
on_by false x xs keys e = refl
on_by true x xs [] e = cc
on_by true x xs (y ∷ ys) e = rw e refl

-- a line that agrees is passed, and with it the key beside it
pub goes_on : (x : Said) (xs keys : List Said) → agrees x keys ≡ true → are_same (pairs_among (x ∷ xs)) keys ≡ are_same (pairs_among xs) (behind x keys)
goes_on x xs keys e = on_by (is_pair x.kind) x (pairs_among xs) keys e

off_by : (t : Bool) (x : Said) (xs keys : List Said) → cond t (agrees_with x keys) true ≡ false → are_same (cond t (x ∷ xs) xs) keys ≡ false
unfolding are_same
off_by false x xs keys e = cc
off_by true x xs [] e = refl
off_by true x xs (y ∷ ys) e = rw e refl

-- one that does not makes two sections differ
pub differs : (x : Said) (xs keys : List Said) → agrees x keys ≡ false → are_same (pairs_among (x ∷ xs)) keys ≡ false
differs x xs keys e = off_by (is_pair x.kind) x (pairs_among xs) keys e

-- whether the other one has no key more, where this one has none
pub ends : (found : Option Next) (is_none : Bool) (rest : List Said) → is_some found ≡ not is_none → Begins found rest → is_none ≡ are_same [] (pairs_among rest)
unfolding are_same
ends None true rest e h = rw h refl
ends None false rest e h = cc
ends (Some next) true rest e h = cc
ends (Some next) false rest e h = rw h refl

-- the question of all lines, where none is left
pub asks : (items rest : List Said) (e : Option Question) → rest ≡ [] →
    asked_after e (all_of (map (check_line items) rest)) ≡ asked_after None (all_of (map (check_line items) items)) → checked e ≡ check_repeats items
unfolding check_repeats
asks items rest e g h = asked_last e (check_line items) rest (all_of (map (check_line items) items)) g h
