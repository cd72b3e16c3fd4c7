-- Texts without a quote, line by line.
use Rattle.std.proofs.Common.{◌≡◌, ℕ, suc, ◌+◌, ◌*◌, ◌^◌, ◌<◌, ◌≤◌, ◌-◌, Bool, true, false, take, drop, List, [], ◌∷◌, ◌++◌, length, Option, Some, None, Result, Ok, Err, IfSome, refl, sym, ap, subst, ◌∙◌, arith, append_assoc, add-zero}
use Rattle.std.specs.List.{list_all}
use Rattle.std.specs.Char.{is_digit, digit_value}
use Rattle.std.specs.Str.Parse.{digits_value, digits_value_after}
use Rattle.std.proofs.lemmas.List.{length-append}
use Rattle.std.proofs.Math.Nat.{pow-succ', pow-le-pow_right}
use Rattle.csv.specs.Machine.{line_feed}
use Rattle.cop_table.specs.Plain.{is_comma, pieces}
use Rattle.cop_table.specs.Lines.{first_line, StartsLine}
use Rattle.cop_table.proofs.LineLemmas.{line_read}
use Rattle.cop_table.specs.Numbers.{number_of}
use Rattle.cop_table.proofs.NumberLemmas.{ends}
use Rattle.cop_table.specs.Rows.{rows_from}
use Rattle.cop_cert.specs.Faults.{placed, refuse, breach_of}
use Rattle.cop_cert.specs.Steps.{rule_of, fault_at}
use Rattle.cop_cert.specs.declared.drafts.StepFault.{StepFault}
use Rattle.cop_cert.specs.declared.drafts.StepFault.TheVariants as faults
use Rattle.cop_cert.specs.Format.{Fields}
use Rattle.cop_cert.specs.Entries.{entry_in}
use Rattle.cop_cert.specs.Reading.{next, at_hand, finished, ended}
use Rattle.cop_cert.specs.Plain.{rows_of_text, leads, HasNumber, HasLine, IsBefore}
use Rattle.cop_cert.specs.declared.drafts.Draft.{Draft}
use Rattle.cop_cert.specs.declared.entries.Entry.{Entry}
use Rattle.cop_cert.specs.declared.entries.Version.{Version}
use Rattle.cop_cert.specs.declared.faults.Breach.{Breach}
use Rattle.cop_cert.specs.declared.faults.Rule.{Rule}
use Rattle.cop_cert.specs.declared.refusals.Refusal.{Refusal}
use Rattle.cop_cert.proofs.ReadingLemmas.{goes_on, fails}

-- ---- numbers

after_more : (n c : ℕ) (ds : List ℕ) → digits_value_after 10 n (ds ++ c ∷ []) ≡ digits_value_after 10 n ds * 10 + digit_value c
after_more n c [] = refl
after_more n c (d ∷ ds) = after_more (n * 10 + digit_value d) c ds

pub digit_head : (c : ℕ) (ds : List ℕ) → list_all (λ d. is_digit d 10) (c ∷ ds) ≡ true → (is_digit c 10 ≡ true) × (list_all (λ d. is_digit d 10) ds ≡ true)
digit_head c ds h = go (is_digit c 10) refl h
  where
    go : (t : Bool) → is_digit c 10 ≡ t → list_all (λ d. is_digit d 10) (c ∷ ds) ≡ true → (is_digit c 10 ≡ true) × (list_all (λ d. is_digit d 10) ds ≡ true)
    go true e k = (e, (rw e at k))
    go false e k = absurd (let no = rw e at k in cc)

all_more : (c : ℕ) (ds : List ℕ) → list_all (λ d. is_digit d 10) ds ≡ true → is_digit c 10 ≡ true → list_all (λ d. is_digit d 10) (ds ++ c ∷ []) ≡ true
all_more c [] h k = rw k refl
all_more c (d ∷ ds) h k = let first = digit_head d ds h in rw first.0 (all_more c ds first.1 k)

-- some digits of a number were read, and this is left
pub record AreDigits (text : List ℕ) (number digits : ℕ) (left : List ℕ) : Type 0 where
  pub field : List ℕ
  pub divided : field ++ left ≡ text
  pub all : list_all (λ c. is_digit c 10) field ≡ true
  pub value : digits_value 10 field ≡ number
  pub count : length field ≡ digits
  pub few : digits ≤ 19
  pub fits : number < 10 ^ digits

pub no_digit : (text : List ℕ) → AreDigits text 0 0 text
no_digit text = record { field = []; divided = refl; all = refl; value = refl; count = refl; few = omega arith; fits = omega arith }

-- a digit more
pub record OneMore (number digits digit : ℕ) : Type 0 where
  pub below : number * 10 + digit < 10 ^ (digits + 1)
  pub fits : number * 10 + digit < 2 ^ 64

pub one_more : (number digits digit : ℕ) → number < 10 ^ digits → digits < 19 → digit < 10 → OneMore number digits digit
one_more number digits digit low few small =
    let next : suc digits ≡ digits + 1 = omega arith in
    let step : 10 ^ (digits + 1) ≡ 10 * 10 ^ digits = subst (λ (k : ℕ). 10 ^ k ≡ 10 * 10 ^ digits) next (pow-succ' 10 digits) in
    let top : 10 ^ (digits + 1) ≤ 10 ^ 19 = pow-le-pow_right (omega arith) {i = digits + 1} {j = 19} (omega (arith, few)) in
    record { below = omega (arith, low, small, step); fits = omega (arith, low, small, step, top) }

pub one_digit : (text : List ℕ) (number digits c : ℕ) (left : List ℕ) → AreDigits text number digits (c ∷ left) → digits < 19 → is_digit c 10 ≡ true → digit_value c < 10
    → AreDigits text (number * 10 + digit_value c) (digits + 1) left
one_digit text number digits c left a few is small = record {
  field = a.field ++ c ∷ [];
  divided = append_assoc a.field (c ∷ []) left ∙ a.divided;
  all = all_more c a.field a.all is;
  value = after_more 0 c a.field ∙ ap (λ n. n * 10 + digit_value c) a.value;
  count = length-append a.field (c ∷ []) ∙ ap (λ n. n + 1) a.count;
  few = omega (arith, few);
  fits = (one_more number digits (digit_value c) a.fits few small).below;
}

pub digits_are_number : (text : List ℕ) (number digits : ℕ) (left : List ℕ) → AreDigits text number digits (line_feed ∷ left) → 0 < digits → HasNumber text number left
digits_are_number text number digits left a some =
    let low = a.fits in
    let top : 10 ^ digits ≤ 10 ^ 19 = pow-le-pow_right (omega arith) {i = digits} {j = 19} a.few in
    let below : number < 2 ^ 64 = omega (arith, low, top) in
    let few = a.few in
    let count = a.count in
    let is : Some number ≡ number_of 20 a.field = ends 20 number [] a.field refl (omega (arith, some, count)) (omega (arith, count, few)) below (sym a.all) (sym a.value) in
    record { digits = a.field; divided = a.divided; all = a.all; is = sym is }

-- ---- lines of one head

pub line_is : (head text behind : List ℕ) (number : ℕ) (left : List ℕ) → text ≡ head ++ behind → HasNumber behind number left → HasLine head text number left
line_is head text behind number left e h = record {
  behind = behind;
  divided = sym e;
  ends = h;
  shorter = omega (arith, ap length e, ap length h.divided, length-append head behind, length-append h.digits (line_feed ∷ left));
}

-- a line more
pub under_more : (version : Version) (place : ℕ) (draft more : Option Draft) (entry : Entry) (head text left : List ℕ) (number : ℕ) (total : Result (List Refusal) Breach)
    → IsBefore version head entry → HasLine head text number left → placed (place + 1) (at_hand (next draft (record entry { value = number }))) ≡ Ok more
    → leads version place draft (rows_of_text text) ≡ total → leads version (place + 1) more (rows_of_text left) ≡ total
under_more version place draft more entry head text left number total before h step t =
    let says = before.says text number left h in
    goes_on version place draft more says.row (rows_of_text left) (rows_of_text text) total says.rows (rw says.entry step) t

-- a line that breaks a rule
pub under_fails : (version : Version) (place : ℕ) (draft : Option Draft) (entry : Entry) (head text left : List ℕ) (number : ℕ) (fault : Option Breach) (total : Result (List Refusal) Breach)
    → IsBefore version head entry → HasLine head text number left → IfSome fault (λ f. placed (place + 1) (at_hand (next draft (record entry { value = number }))) ≡ Err f)
    → leads version place draft (rows_of_text text) ≡ total → IfSome fault (λ f. total ≡ Err f)
under_fails version place draft entry head text left number None total before h step t = tt
under_fails version place draft entry head text left number (Some f) total before h step t =
    let says = before.says text number left h in
    fails version place draft says.row (rows_of_text left) (rows_of_text text) (Some f) total says.rows (rw says.entry step) t

-- ---- a line and those behind it

-- the first line's record, and what is left behind its end
pub first_row : (text left : List ℕ) (row : Fields) (len : ℕ) → StartsLine text → 0 < length text → row ≡ pieces is_comma (first_line text) → len ≡ length (first_line text)
    → rows_of_text left ≡ rows_of_text (take (length text - len) (drop len text)) → rows_of_text text ≡ row ∷ rows_of_text left
first_row text left row len starts some fields is same = rw same (line_read text text row len refl starts (λ e. omega arith) fields is)

pub first_some : (text : List ℕ) → StartsLine text → 0 < length text → 0 < length (first_line text)
first_some [] starts some = absurd (omega arith)
first_some (c ∷ text) starts some = rw starts (omega arith)

-- the first record is taken
pub row_taken : (version : Version) (place : ℕ) (draft more : Option Draft) (entry : Entry) (row : Fields) (rows left : List Fields)
    → rows ≡ row ∷ left → entry_in version row ≡ Ok entry → placed (place + 1) (at_hand (next draft entry)) ≡ Ok more
    → leads version place draft rows ≡ leads version (place + 1) more left
row_taken version place draft more entry row rows left e h step = sym (goes_on version place draft more row left rows (leads version place draft rows) e (rw h step) refl)

pub row_refused : (version : Version) (place : ℕ) (draft : Option Draft) (rule : Rule) (row : Fields) (rows left : List Fields)
    → rows ≡ row ∷ left → entry_in version row ≡ Err rule → leads version place draft rows ≡ refuse rule (place + 1)
row_refused version place draft rule row rows left e h =
    fails version place draft row left rows (Some (record { rule = rule; place = place + 1 })) (leads version place draft rows) e (rw h refl) refl

pub row_fails : (version : Version) (place : ℕ) (draft : Option Draft) (entry : Entry) (row : Fields) (rows left : List Fields) (fault : Option Breach)
    → rows ≡ row ∷ left → entry_in version row ≡ Ok entry → IfSome fault (λ f. placed (place + 1) (at_hand (next draft entry)) ≡ Err f)
    → IfSome fault (λ f. leads version place draft rows ≡ Err f)
row_fails version place draft entry row rows left None e h step = tt
row_fails version place draft entry row rows left (Some f) e h step =
    fails version place draft row left rows (Some f) (leads version place draft rows) e (rw h step) refl

-- ---- the end of the text

pub none_left : (version : Version) (place : ℕ) (draft : Option Draft) (rest : List ℕ) (total : Result (List Refusal) Breach) → length rest ≡ 0
    → leads version place draft (rows_of_text rest) ≡ total → total ≡ ended place draft
unfolding rows_from
none_left version place draft [] total h t = sym t ∙ rw (add-zero place) refl
none_left version place draft (c ∷ rest) total h t = absurd (omega (arith, h))

pub ends_badly : (place : ℕ) (draft : Option Draft) (fault : StepFault) (total : Result (List Refusal) Breach) → total ≡ ended place draft → IfSome (rule_of fault) (λ rule. finished draft ≡ Err rule)
    → IfSome (breach_of (fault_at place fault)) (λ breach. total ≡ Err breach)
ends_badly place draft (faults.Broken rule) total e h = e ∙ ap (placed place) h
ends_badly place draft faults.OutOfMemory total e h = tt
