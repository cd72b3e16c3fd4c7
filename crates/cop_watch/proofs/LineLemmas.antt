-- The line of a step, by its fields.
use Rattle.std.proofs.Common.{◌≡◌, ℕ, suc, ◌+◌, ◌*◌, ◌^◌, ◌<◌, ◌≤◌, Bool, true, false, not, ◌||◌, List, [], ◌∷◌, ◌++◌, length, refl, sym, ap, subst, ◌∙◌, arith, append_assoc, codes}
use Rattle.std.specs.Prelude.{Ok, Some, ◌==◌}
use Rattle.std.specs.List.{list_all}
use Rattle.std.specs.Char.{is_digit, digit_value}
use Rattle.std.specs.Str.Parse.{digits_value, digits_value_after}
use Rattle.std.proofs.lemmas.Bool.Decides.{nat_tests}
use Rattle.std.proofs.lemmas.List.{length-append}
use Rattle.std.proofs.Math.Nat.{pow-succ', pow-le-pow_right}
use Rattle.csv.specs.Writing.{comma}
use Rattle.csv.specs.Machine.{line_feed}
use Rattle.cop_table.specs.Plain.{is_comma, is_line_end, pieces}
use Rattle.cop_table.specs.Lines.{first_line}
use Rattle.cop_table.specs.Numbers.{number_of, is_hexadecimal}
use Rattle.cop_table.proofs.NumberLemmas.{ends}
use Rattle.cop_bus.specs.declared.steps.Content.{Content}
use Rattle.cop_bus.specs.declared.steps.Step.{Step}
use Rattle.cop_bus.specs.declared.steps.Step.TheVariants.{Queue, Start, End}
use Rattle.cop_bus.specs.declared.entries.Entry.TheVariants.{Taken}
use Rattle.cop_bus.specs.Entries.{number_in, id_in, bits_in, content_in, entry_in}
use Rattle.cop_watch.specs.Lines.{is_inner, HasNumber, HasId, HasBits, HasLast, HasMoment, IsStepLine}
use Rattle.cop_watch.proofs.TextLemmas.{whole-append, part-read, line-read, at-step}
use Rattle.cop_rta.specs.declared.streams.Stream.{Stream}
use Rattle.cop_watch.specs.declared.watching.Watch.{Watch}
use Rattle.cop_watch.specs.declared.reading.Stage.{Stage}
use Rattle.cop_watch.specs.declared.reading.Stage.TheVariants.{Steps}
use Rattle.cop_watch.specs.Found.{Follows}
use Rattle.cop_watch.specs.Reading.{IsRead, TakesLine}

-- ---- fields

pub record IsInner (c : ℕ) : Type 0 where
  pub comma_no : is_comma c ≡ false
  pub end_no : is_line_end c ≡ false

inner_by : (a b : Bool) (c : ℕ) → is_comma c ≡ a → is_line_end c ≡ b → not (a || b) ≡ true → IsInner c
inner_by false false c e f h = record { comma_no = e; end_no = f }
inner_by false true c e f h = absurd (cc)
inner_by true b c e f h = absurd (cc)

inner_head : (c : ℕ) (field : List ℕ) → list_all is_inner (c ∷ field) ≡ true → IsInner c × (list_all is_inner field ≡ true)
inner_head c field h = go (is_inner c) refl h
  where
    go : (t : Bool) → is_inner c ≡ t → list_all is_inner (c ∷ field) ≡ true → IsInner c × (list_all is_inner field ≡ true)
    go true e k = (inner_by (is_comma c) (is_line_end c) c refl refl e, (rw e at k))
    go false e k = absurd (let no = rw e at k in cc)

cut_field : (field rest : List ℕ) → list_all is_inner field ≡ true → pieces is_comma (field ++ comma ∷ rest) ≡ field ∷ pieces is_comma rest
cut_field [] rest h = refl
cut_field (c ∷ field) rest h = let i = inner_head c field h in rw (i.0.comma_no, cut_field field rest i.1) refl

cut_last : (field : List ℕ) → list_all is_inner field ≡ true → pieces is_comma field ≡ field ∷ []
cut_last [] h = refl
cut_last (c ∷ field) h = let i = inner_head c field h in rw (i.0.comma_no, cut_last field i.1) refl

whole_field : (field : List ℕ) → list_all is_inner field ≡ true → first_line field ≡ field
whole_field [] h = refl
whole_field (c ∷ field) h = let i = inner_head c field h in rw i.0.end_no (ap (λ xs. c ∷ xs) (whole_field field i.1))

whole_then : (field rest : List ℕ) → list_all is_inner field ≡ true → first_line rest ≡ rest → first_line (field ++ comma ∷ rest) ≡ field ++ comma ∷ rest
whole_then field rest h k = whole-append field (comma ∷ rest) (whole_field field h) (ap (λ xs. comma ∷ xs) k)

-- a line of six fields
record AreSix (a b c d e f : List ℕ) (line : List ℕ) : Type 0 where
  cut : pieces is_comma line ≡ a ∷ b ∷ c ∷ d ∷ e ∷ f ∷ []
  whole : first_line line ≡ line

six : (a b c d e f : List ℕ) → list_all is_inner a ≡ true → list_all is_inner b ≡ true → list_all is_inner c ≡ true → list_all is_inner d ≡ true → list_all is_inner e ≡ true → list_all is_inner f ≡ true
    → AreSix a b c d e f (a ++ comma ∷ (b ++ comma ∷ (c ++ comma ∷ (d ++ comma ∷ (e ++ comma ∷ f)))))
six a b c d e f h k l m n o = record {
  cut = rw (cut_field a (b ++ comma ∷ (c ++ comma ∷ (d ++ comma ∷ (e ++ comma ∷ f)))) h, cut_field b (c ++ comma ∷ (d ++ comma ∷ (e ++ comma ∷ f))) k, cut_field c (d ++ comma ∷ (e ++ comma ∷ f)) l, cut_field d (e ++ comma ∷ f) m, cut_field e f n, cut_last f o) refl;
  whole = whole_then a _ h (whole_then b _ k (whole_then c _ l (whole_then d _ m (whole_then e _ n (whole_field f o)))));
}

-- ---- numbers

digit_inner : (c : ℕ) → is_digit c 10 ≡ true → is_inner c ≡ true
digit_inner c h = grind (arith, nat_tests)

digit_head : (c : ℕ) (ds : List ℕ) → list_all (λ d. is_digit d 10) (c ∷ ds) ≡ true → (is_digit c 10 ≡ true) × (list_all (λ d. is_digit d 10) ds ≡ true)
digit_head c ds h = go (is_digit c 10) refl h
  where
    go : (t : Bool) → is_digit c 10 ≡ t → list_all (λ d. is_digit d 10) (c ∷ ds) ≡ true → (is_digit c 10 ≡ true) × (list_all (λ d. is_digit d 10) ds ≡ true)
    go true e k = (e, (rw e at k))
    go false e k = absurd (let no = rw e at k in cc)

digits_inner : (ds : List ℕ) → list_all (λ c. is_digit c 10) ds ≡ true → list_all is_inner ds ≡ true
digits_inner [] h = refl
digits_inner (c ∷ ds) h = let first = digit_head c ds h in rw (digit_inner c first.0) (digits_inner ds first.1)

digit_no_x : (c : ℕ) → is_digit c 10 ≡ true → (c == 120) ≡ false
digit_no_x c h = grind (arith, nat_tests)

digits_decimal : (ds : List ℕ) → list_all (λ c. is_digit c 10) ds ≡ true → is_hexadecimal ds ≡ false
digits_decimal [] h = refl
digits_decimal (c ∷ []) h = grind (arith, nat_tests)
digits_decimal (c ∷ d ∷ ds) h = grind (arith, nat_tests, digit_no_x d)

after_more : (n c : ℕ) (ds : List ℕ) → digits_value_after 10 n (ds ++ c ∷ []) ≡ digits_value_after 10 n ds * 10 + digit_value c
after_more n c [] = refl
after_more n c (d ∷ ds) = after_more (n * 10 + digit_value d) c ds

all_more : (c : ℕ) (ds : List ℕ) → list_all (λ d. is_digit d 10) ds ≡ true → is_digit c 10 ≡ true → list_all (λ d. is_digit d 10) (ds ++ c ∷ []) ≡ true
all_more c [] h k = rw k refl
all_more c (d ∷ ds) h k = let first = digit_head d ds h in rw first.0 (all_more c ds first.1 k)

-- some digits of a number were read, and this is left
pub record AreDigits (text : List ℕ) (number digits : ℕ) (left : List ℕ) : Type 0 where
  pub field : List ℕ
  pub divided : field ++ left ≡ text
  pub all : list_all (λ c. is_digit c 10) field ≡ true
  pub value : digits_value 10 field ≡ number
  pub count : length field ≡ digits
  pub few : digits ≤ 19
  pub fits : number < 10 ^ digits

pub no_digit : (text : List ℕ) → AreDigits text 0 0 text
no_digit text = record { field = []; divided = refl; all = refl; value = refl; count = refl; few = omega arith; fits = omega arith }

-- a digit more
pub record OneMore (number digits digit : ℕ) : Type 0 where
  pub below : number * 10 + digit < 10 ^ (digits + 1)
  pub fits : number * 10 + digit < 2 ^ 64

pub one_more : (number digits digit : ℕ) → number < 10 ^ digits → digits < 19 → digit < 10 → OneMore number digits digit
one_more number digits digit low few small =
    let next : suc digits ≡ digits + 1 = omega arith in
    let step : 10 ^ (digits + 1) ≡ 10 * 10 ^ digits = subst (λ (k : ℕ). 10 ^ k ≡ 10 * 10 ^ digits) next (pow-succ' 10 digits) in
    let top : 10 ^ (digits + 1) ≤ 10 ^ 19 = pow-le-pow_right (omega arith) {i = digits + 1} {j = 19} (omega (arith, few)) in
    record { below = omega (arith, low, small, step); fits = omega (arith, low, small, step, top) }

pub one_digit : (text : List ℕ) (number digits c : ℕ) (left : List ℕ) → AreDigits text number digits (c ∷ left) → digits < 19 → is_digit c 10 ≡ true → digit_value c < 10
    → AreDigits text (number * 10 + digit_value c) (digits + 1) left
one_digit text number digits c left a few is small = record {
  field = a.field ++ c ∷ [];
  divided = append_assoc a.field (c ∷ []) left ∙ a.divided;
  all = all_more c a.field a.all is;
  value = after_more 0 c a.field ∙ ap (λ n. n * 10 + digit_value c) a.value;
  count = length-append a.field (c ∷ []) ∙ ap (λ n. n + 1) a.count;
  few = omega (arith, few);
  fits = (one_more number digits (digit_value c) a.fits few small).below;
}

pub digits_are_number : (text : List ℕ) (number digits : ℕ) (left : List ℕ) → AreDigits text number digits (comma ∷ left) → 0 < digits → HasNumber text number left
digits_are_number text number digits left a some =
    let low = a.fits in
    let top : 10 ^ digits ≤ 10 ^ 19 = pow-le-pow_right (omega arith) {i = digits} {j = 19} a.few in
    let below : number < 2 ^ 64 = omega (arith, low, top) in
    let few = a.few in
    let count = a.count in
    let is : Some number ≡ number_of 20 a.field = ends 20 number [] a.field refl (omega (arith, some, count)) (omega (arith, count, few)) below (sym a.all) (sym a.value) in
    record {
      field = a.field;
      has = record { divided = a.divided; inner = digits_inner a.field a.all };
      is = rw (← is) refl;
      decimal = digits_decimal a.field a.all;
    }

pub number_is_id : (text : List ℕ) (number : ℕ) (left : List ℕ) → HasNumber text number left → number < 2 ^ 16 → HasId text number left
number_is_id text number left h small = record { field = h.field; has = h.has; is = rw (h.decimal, h.is) (grind (arith, nat_tests)) }

pub number_is_bits : (text : List ℕ) (number : ℕ) (left : List ℕ) → HasNumber text number left → number < 2 ^ 32 → HasBits text number left
number_is_bits text number left h small = record { field = h.field; has = h.has; is = rw h.is (grind (arith, nat_tests)) }

-- ---- lines

queue_says : (b c d e f : List ℕ) (at id event bits : ℕ) (frame : Content) → number_in b ≡ Ok at → id_in c ≡ Ok id → number_in d ≡ Ok event → bits_in e ≡ Ok bits → content_in bits f ≡ Ok frame
    → entry_in (codes "queue" ∷ b ∷ c ∷ d ∷ e ∷ f ∷ []) ≡ Ok (Taken (Queue id at event frame))
unfolding entry_in
queue_says b c d e f at id event bits frame h k l m n = rw (h, k, l, m, n) refl

pub queue_is_line : (text t u v w left last : List ℕ) (at id event bits : ℕ) (frame : Content) → HasNumber text at t → HasId t id u → HasNumber u event v → HasBits v bits w → HasLast w last left → content_in bits last ≡ Ok frame
    → IsStepLine (codes "queue," ++ text) (Queue id at event frame) left
queue_is_line text t u v w left last at id event bits frame a b c d e is =
    let s = six (codes "queue") a.field b.field c.field d.field last refl a.has.inner b.has.inner c.has.inner d.has.inner e.inner in
    record {
      line = codes "queue" ++ comma ∷ (a.field ++ comma ∷ (b.field ++ comma ∷ (c.field ++ comma ∷ (d.field ++ comma ∷ last))));
      some = omega arith;
      divided = rw (← a.has.divided, ← b.has.divided, ← c.has.divided, ← d.has.divided, ← e.divided) (simp append_assoc refl);
      whole = s.whole;
      says = ap entry_in s.cut ∙ queue_says a.field b.field c.field d.field last at id event bits frame a.is b.is c.is d.is is;
    }

-- the fields of a line of a moment and an identifier
record HasFields (kind text left : List ℕ) (at id : ℕ) : Type 0 where
  line : List ℕ
  moment : List ℕ
  identifier : List ℕ
  some : 0 < length line
  divided : line ++ line_feed ∷ left ≡ kind ++ comma ∷ text
  six : AreSix kind moment identifier [] [] [] line
  at_is : number_in moment ≡ Ok at
  id_is : id_in identifier ≡ Ok id

moment_fields : (kind text left : List ℕ) (at id : ℕ) → HasMoment text at id left → list_all is_inner kind ≡ true → HasFields kind text left at id
moment_fields kind text left at id m inner =
    let a = m.moment in
    let b = m.identifier in
    record {
      line = kind ++ comma ∷ (a.field ++ comma ∷ (b.field ++ comma ∷ (comma ∷ comma ∷ [])));
      moment = a.field;
      identifier = b.field;
      some = omega (arith, length-append kind (comma ∷ (a.field ++ comma ∷ (b.field ++ comma ∷ (comma ∷ comma ∷ [])))));
      divided = rw (← a.has.divided, ← b.has.divided) (simp append_assoc refl);
      six = six kind a.field b.field [] [] [] inner a.has.inner b.has.inner refl refl refl;
      at_is = a.is;
      id_is = b.is;
    }

start_says : (b c : List ℕ) (at id : ℕ) → number_in b ≡ Ok at → id_in c ≡ Ok id → entry_in (codes "start" ∷ b ∷ c ∷ [] ∷ [] ∷ [] ∷ []) ≡ Ok (Taken (Start id at))
unfolding entry_in
start_says b c at id h k = rw (h, k) refl

end_says : (b c : List ℕ) (at id : ℕ) → number_in b ≡ Ok at → id_in c ≡ Ok id → entry_in (codes "end" ∷ b ∷ c ∷ [] ∷ [] ∷ [] ∷ []) ≡ Ok (Taken (End id at))
unfolding entry_in
end_says b c at id h k = rw (h, k) refl

pub start_is_line : (text left : List ℕ) (at id : ℕ) → HasMoment text at id left → IsStepLine (codes "start," ++ text) (Start id at) left
start_is_line text left at id m =
    let f = moment_fields (codes "start") text left at id m refl in
    record { line = f.line; some = f.some; divided = f.divided; whole = f.six.whole; says = ap entry_in f.six.cut ∙ start_says f.moment f.identifier at id f.at_is f.id_is }

pub end_is_line : (text left : List ℕ) (at id : ℕ) → HasMoment text at id left → IsStepLine (codes "end," ++ text) (End id at) left
end_is_line text left at id m =
    let f = moment_fields (codes "end") text left at id m refl in
    record { line = f.line; some = f.some; divided = f.divided; whole = f.six.whole; says = ap entry_in f.six.cut ∙ end_says f.moment f.identifier at id f.at_is f.id_is }

-- ---- a step's line that is taken off a text

pub step_is_taken : (rest left : List ℕ) (step : Step) (w w' : Watch) (line : List ℕ) (stage : Stage) → IsStepLine rest step left → line ≡ [] → stage ≡ Steps
    → ((tau : ℕ) (streams : List Stream) (steps : List Step) → Follows tau streams steps w → Follows tau streams (steps ++ step ∷ []) w') → TakesLine rest left w line stage w' line stage
step_is_taken rest left step w w' line stage s none at_steps takes =
    let first = s.line ++ line_feed ∷ [] in
    let divided : first ++ left ≡ rest = append_assoc s.line (line_feed ∷ []) left ∙ s.divided in
    let some : length s.line ≡ 0 → ⊥ = (λ e. (let n = s.some in absurd (omega (arith, e, n)))) in
    let shorter : length left < length rest = (let n = ap (λ (xs : List ℕ). length xs) s.divided in let m = length-append s.line (line_feed ∷ left) in omega (arith, n, m)) in
    rw (none, at_steps) (record {
      first = first;
      divided = divided;
      shorter = shorter;
      read = λ tau streams text r.
          (let part = part-read tau streams text s.line [] w Steps s.whole r in
          let after = line-read tau streams (text ++ s.line) s.line line_feed (pieces is_comma s.line) w w' Steps Steps refl some refl
          (λ rows a. at-step tau streams rows (pieces is_comma s.line) step w w' s.says (takes tau streams) a) part in
          subst (λ (xs : List ℕ). IsRead tau streams xs w' [] Steps) (append_assoc text s.line (line_feed ∷ [])) after);
    })
