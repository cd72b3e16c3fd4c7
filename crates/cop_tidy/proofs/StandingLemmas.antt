-- What follows where nothing stands against a text.
use Rattle.std.proofs.Common.{◌≡◌, ◌↔◌, inl, inr, ℕ, ◌≤◌, Bool, true, false, cond, true≢false, List, Option, Some, None, Result, Ok, Err, IsOk, IsTrue, IfOk, IfSome, refl, ap, sym, subst, ◌∙◌, arith, All}
use Rattle.std.specs.List.{list_all}
use Rattle.std.specs.Option.{option_map, option_or}
use Rattle.std.proofs.lemmas.List.Sums.{AllPass-from_list_all, list_all-from_AllPass}
use Rattle.cop_eds.specs.declared.fault.Refusal.{Refusal}
use Rattle.cop_eds.specs.Reading.{reading}
use Rattle.cop_dict.specs.Find.{Entry}
use Rattle.cop_dict.specs.Build.{built}
use Rattle.cop_tidy_device.specs.Device.{Meaning}
use Rattle.cop_tidy_reading.specs.declared.question.Question as reading
use Rattle.cop_tidy_reading.specs.declared.words.Words.{Words}
use Rattle.cop_tidy_reading.specs.Reading.{loosely}
use Rattle.cop_eds_hazards.specs.declared.hazards.Hazard.{Hazard}
use Rattle.cop_eds_hazards.specs.declared.tests.Test.TheVariants as tests
use Rattle.cop_eds_hazards.specs.Compact.{implicit_line}
use Rattle.cop_eds_hazards.specs.Hazards.{first_line, unlisted_line, beyond_line, hazard_at, hazard_of}
use Rattle.cop_tidy.specs.declared.judging.Left.{Left}
use Rattle.cop_tidy.specs.Accepted.{IsAccepted}
use Rattle.cop_tidy.specs.Identified.{identified, IsIdentified, AreIdentified}
use Rattle.cop_tidy.specs.Standing.{is_leaving, left_of, left_at, unidentified, AreRefused, standing_built, standing_read, standing, misread, IsFound, Stands, IsTold}
use Rattle.cop_tidy.specs.Taken.{IsTaken}
use Rattle.cop_tidy.specs.declared.taking.Taken.{Taken}
use Rattle.cop_tidy.specs.Meant.{IsOf, IsMeant}
use Rattle.cop_tidy.proofs.AcceptedLemmas.{read_as_itself}

neither : {X : Type 0} (a b : Option X) → option_or a b ≡ None → (a ≡ None) × (b ≡ None)
neither None b h = (refl, h)
neither (Some x) b h = cc

passed : (b : Bool) (left : Left) → cond b None (Some left) ≡ None → b ≡ true
passed true left h = refl
passed false left h = cc

are_identified : (node : ℕ) (text : List ℕ) (dict : List Entry) → built text node ≡ Ok dict → unidentified dict ≡ None → AreIdentified node text
are_identified node text dict e h other f =
    let same : dict ≡ other = cc in
    let P : List Entry → Type 0 = λ d. All (IsIdentified d) d in
    subst P same (AllPass-from_list_all (identified dict) dict (passed (list_all (identified dict) dict) _ h))

is_built : (node : ℕ) (text : List ℕ) (dict : List Entry) → built text node ≡ Ok dict → IsOk (built text node)
is_built node text dict e = let P : Result (List Entry) Refusal → Type 0 = λ r. IsOk r in subst P (sym e) refl

-- both dictionaries of the text are built, and their PDOs' records have identifiers
pub record AreBuilt (text : List ℕ) : Type 0 where
  pub first : IsOk (built text 1)
  pub last : IsOk (built text 127)
  pub first_identified : AreIdentified 1 text
  pub last_identified : AreIdentified 127 text

both_built : (is_left : Bool) (text : List ℕ) (first last : Result (List Entry) Refusal) → built text 1 ≡ first → built text 127 ≡ last
    → standing_built is_left text first last ≡ None → AreBuilt text
both_built is_left text (Err r) last e f h = cc
both_built is_left text (Ok first) (Err r) e f h = cc
both_built is_left text (Ok first) (Ok last) e f h =
    let a = neither (option_map left_at (hazard_of is_left text)) (option_or (unidentified first) (unidentified last)) h in
    let b = neither (unidentified first) (unidentified last) a.1 in
    record {
      first = is_built 1 text first e;
      last = is_built 127 text last f;
      first_identified = are_identified 1 text first e b.0;
      last_identified = are_identified 127 text last f b.1;
    }

accepted_by : (is_left : Bool) (text : List ℕ) (r : Result (List ℕ) Refusal) → reading text ≡ r → standing_read is_left text r ≡ None → (reading text ≡ Ok text) × AreBuilt text
accepted_by is_left text (Err e) g h = cc
accepted_by is_left text (Ok x) g h =
    let same : x ≡ text = read_as_itself text x g in
    let read : reading text ≡ Ok text = cc in
    (read, both_built is_left text (built text 1) (built text 127) refl refl h)

pub accepted_of : (words : Words) (text : List ℕ) → standing words text ≡ None → IsAccepted text
unfolding standing
accepted_of words text h =
    let a = accepted_by (is_leaving words) text (reading text) refl h in
    record { read = a.0; first = a.1.first; last = a.1.last }

pub last_identified_of : (words : Words) (text : List ℕ) → standing words text ≡ None → AreIdentified 127 text
unfolding standing
last_identified_of words text h = let a = accepted_by (is_leaving words) text (reading text) refl h in a.1.last_identified

-- nothing stands against a text that is accepted and has no hazard
identified_none : (dict : List Entry) → All (IsIdentified dict) dict → unidentified dict ≡ None
identified_none dict h = rw (list_all-from_AllPass (identified dict) dict h) refl

none_built : (is_left : Bool) (text : List ℕ) (first last : Result (List Entry) Refusal) → IsOk first → IsOk last
    → ((dict : List Entry) → first ≡ Ok dict → All (IsIdentified dict) dict) → ((dict : List Entry) → last ≡ Ok dict → All (IsIdentified dict) dict)
    → hazard_of is_left text ≡ None → standing_built is_left text first last ≡ None
none_built is_left text (Err r) last a b f l h = cc
none_built is_left text (Ok first) (Err r) a b f l h = cc
none_built is_left text (Ok first) (Ok last) a b f l h = rw (h, identified_none first (f first refl), identified_none last (l last refl)) refl

none_read : (is_left : Bool) (text : List ℕ) (r : Result (List ℕ) Refusal) → r ≡ Ok text → standing_built is_left text (built text 1) (built text 127) ≡ None
    → standing_read is_left text r ≡ None
none_read is_left text r e h = rw e h

pub none_stands : (words : Words) (text : List ℕ) → IsAccepted text → hazard_of (is_leaving words) text ≡ None → AreIdentified 1 text → AreIdentified 127 text
    → standing words text ≡ None
unfolding standing
none_stands words text a h f l =
    none_read (is_leaving words) text (reading text) a.read (none_built (is_leaving words) text (built text 1) (built text 127) a.first a.last f l h)

-- ---- against an accepted text nothing stands but a hazard

either : {X : Type 0} (P : X → Type 0) (a b : Option X) → IfSome a P → IfSome b P → IfSome (option_or a b) P
either P None b h g = g
either P (Some x) b h g = h

least_at : (number : ℕ) (o : Option ℕ) → 80 ≤ number → IfSome (hazard_at number o) (λ hazard. 80 ≤ hazard.number)
least_at number None le = tt
least_at number (Some line) le = le

least_of_five : (a b c d e : Option ℕ)
    → IfSome (option_or (hazard_at 80 a) (option_or (hazard_at 81 b) (option_or (hazard_at 82 c) (option_or (hazard_at 83 d) (hazard_at 84 e))))) (λ hazard. 80 ≤ hazard.number)
least_of_five (Some x) b c d e = omega arith
least_of_five None (Some x) c d e = omega arith
least_of_five None None (Some x) d e = omega arith
least_of_five None None None (Some x) e = omega arith
least_of_five None None None None e = least_at 84 e (omega arith)

least_of : (is_left : Bool) (text : List ℕ) → IfSome (hazard_of is_left text) (λ hazard. 80 ≤ hazard.number)
unfolding hazard_of
least_of is_left text =
    least_of_five (unlisted_line is_left text) (first_line text tests.Unidentified) (implicit_line text) (beyond_line text) (first_line text tests.Unseen)

left_least : (o : Option Hazard) → IfSome o (λ hazard. 80 ≤ hazard.number) → IfSome (option_map left_at o) (λ left. 80 ≤ left.number)
left_least None h = tt
left_least (Some hazard) h = h

by_test : (b : Bool) → IfSome (cond b None (Some (record { number = 81; line = 0 }))) (λ (left : Left). 80 ≤ left.number)
by_test true = tt
by_test false = omega arith

hazards_built : (is_left : Bool) (text : List ℕ) (first last : Result (List Entry) Refusal) → IsOk first → IsOk last → IfSome (standing_built is_left text first last) (λ left. 80 ≤ left.number)
hazards_built is_left text (Err r) last f l = absurd (cc)
hazards_built is_left text (Ok first) (Err r) f l = absurd (cc)
hazards_built is_left text (Ok first) (Ok last) f l =
    let P : Left → Type 0 = λ left. 80 ≤ left.number in
    either P (option_map left_at (hazard_of is_left text)) (option_or (unidentified first) (unidentified last))
    (left_least (hazard_of is_left text) (least_of is_left text))
    (either P (unidentified first) (unidentified last) (by_test (list_all (identified first) first)) (by_test (list_all (identified last) last)))

pub hazards_alone : (words : Words) (text : List ℕ) → IsAccepted text → IfSome (standing words text) (λ left. 80 ≤ left.number)
unfolding standing
hazards_alone words text a = rw a.read (hazards_built (is_leaving words) text (built text 1) (built text 127) a.first a.last)

-- the same of what is told
hazard_left : (words : Words) (text result : List ℕ) (left : Left) → IsTold words text result (Some left) → IsAccepted text → 80 ≤ left.number
hazard_left words text result left (inl (inl e, keeps)) a = subst (λ (o : Option Left). IfSome o (λ left. 80 ≤ left.number)) e (hazards_alone words text a)
hazard_left words text result left (inl (inr h, keeps)) a = subst (λ (l : Left). 80 ≤ l.number) (sym h.1.0) (omega arith)
hazard_left words text result left (inr h) a = let e = h.0 in let same : misread ≡ left = cc in subst (λ (l : Left). 80 ≤ l.number) same (omega arith)

pub told_hazard : (words : Words) (text result : List ℕ) (found : Option Left) → IsTold words text result found → IfSome found (λ left. IsAccepted text → 80 ≤ left.number)
told_hazard words text result None h = tt
told_hazard words text result (Some left) h = hazard_left words text result left h

-- ---- what is found, step by step

-- of a text with two dictionaries
pub found_standing : (stands : Option Left) (text : List ℕ) (device : Meaning) (left : Left) → Some left ≡ stands → IsFound stands (IsOf text device) (Some left)
found_standing stands text device left e = inl (sym e)

pub found_nothing : (stands : Option Left) (text : List ℕ) (device : Meaning) (b : Bool) → None ≡ stands → (IsTrue b ↔ IsOf text device) → b ≡ true → IsFound stands (IsOf text device) None
found_nothing stands text device b e h so = (sym e, h.0 so)

pub found_misread : (stands : Option Left) (text : List ℕ) (device : Meaning) (b : Bool) → None ≡ stands → (IsTrue b ↔ IsOf text device) → b ≡ false → IsFound stands (IsOf text device) (Some misread)
found_misread stands text device b e h none = inr (sym e, (refl, λ is. absurd (true≢false (sym (h.1 is) ∙ none))))

-- of a text that is read
pub found_refusal : (is_left : Bool) (text : List ℕ) (device : Meaning) (refusal : Refusal) → AreRefused (built text 1) (built text 127) refusal
    → IsFound (standing_built is_left text (built text 1) (built text 127)) (IsOf text device) (Some (left_of refusal))
found_refusal is_left text device refusal h = by_both (built text 1) (built text 127) h
  where
    by_both : (first last : Result (List Entry) Refusal) → AreRefused first last refusal → IsFound (standing_built is_left text first last) (IsOf text device) (Some (left_of refusal))
    by_both (Err e) last h = inl (ap (λ (r : Refusal). Some (left_of r)) h)
    by_both (Ok first) (Err e) h = inl (ap (λ (r : Refusal). Some (left_of r)) h)
    by_both (Ok first) (Ok last) h = absurd (h tt)

pub not_built : (text : List ℕ) (refusal : Refusal) → AreRefused (built text 1) (built text 127) refusal → IsAccepted text → ⊥
not_built text refusal h a = by_both (built text 1) (built text 127) h a.first a.last
  where
    by_both : (first last : Result (List Entry) Refusal) → AreRefused first last refusal → IsOk first → IsOk last → ⊥
    by_both (Err e) last h f l = cc
    by_both (Ok first) (Err e) h f l = cc
    by_both (Ok first) (Ok last) h f l = h tt

pub found_by : (is_left : Bool) (text : List ℕ) (device : Meaning) (taken : Taken) (found : Option Left) → IsTaken text taken
    → IsFound (standing_built is_left text (Ok taken.first) (Ok taken.last)) (IsOf text device) found
    → IsFound (standing_built is_left text (built text 1) (built text 127)) (IsOf text device) found
found_by is_left text device taken found t h = rw (t.first, t.last) h

-- of any text
as_read : (words : Words) (text : List ℕ) → reading text ≡ Ok text → standing words text ≡ standing_built (is_leaving words) text (built text 1) (built text 127)
unfolding standing
as_read words text e = rw e refl

pub found_in : (words : Words) (text x : List ℕ) (device : Meaning) (found : Option Left) → reading text ≡ Ok x
    → IsFound (standing_built (is_leaving words) x (built x 1) (built x 127)) (IsOf x device) found → IsFound (standing words text) (IsOf text device) found
found_in words text x device found e h =
    let same = read_as_itself text x e in
    let P : List ℕ → Type 0 = λ t. IsFound (standing_built (is_leaving words) t (built t 1) (built t 127)) (IsOf t device) found in
    let Q : Option Left → Type 0 = λ stands. IsFound stands (IsOf text device) found in
    let read : reading text ≡ Ok text = subst (λ t. reading text ≡ Ok t) same e in
    subst Q (sym (as_read words text read)) (subst P same h)

refused_as : (words : Words) (text : List ℕ) (refusal : Refusal) → reading text ≡ Err refusal → standing words text ≡ Some (left_of refusal)
unfolding standing
refused_as words text refusal e = rw e refl

pub found_refused : (words : Words) (text : List ℕ) (device : Meaning) (refusal : Refusal) → reading text ≡ Err refusal
    → IsFound (standing words text) (IsOf text device) (Some (left_of refusal))
found_refused words text device refusal e = inl (refused_as words text refusal e)

-- ---- what is found, and the device that a text describes

-- a text describes one device
of_meant : (words : Words) (source result : List ℕ) (device : Meaning) → loosely source words ≡ Ok device → IsMeant words source result → IsOf result device
of_meant words source result device read m =
    let same : m.device ≡ device = by_ok m.device device (sym m.read ∙ read) in
    subst (IsOf result) same m.same
  where
    by_ok : (a b : Meaning) → ◌≡◌ {A = Result Meaning reading.Question} (Ok a) (Ok b) → a ≡ b
    by_ok a b e = cc

pub stands_as : (words : Words) (text : List ℕ) (device : Meaning) (found : Option Left) → loosely text words ≡ Ok device
    → IsFound (standing words text) (IsOf text device) found → Stands words text found
stands_as words text device None read h = (h.0, record { device = device; read = read; same = h.1 })
stands_as words text device (Some left) read (inl e) = inl e
stands_as words text device (Some left) read (inr h) = inr (h.0, (h.1.0, λ m. h.1.1 (of_meant words text text device read m)))

-- what is found is one thing
pub never_none : (stands : Option Left) (Means : Type 0) (left : Left) → IsFound stands Means (Some left) → IsFound stands Means None → ⊥
never_none stands Means left (inl e) none = absurd (let n = none.0 in cc)
never_none stands Means left (inr h) none = h.1.1 none.1

-- nothing stands against a safe text
pub none_against : (words : Words) (text : List ℕ) → IsAccepted text → hazard_of (is_leaving words) text ≡ None → AreIdentified 1 text → AreIdentified 127 text
    → IsMeant words text text → Stands words text None
none_against words text a h f l m = (none_stands words text a h f l, m)

-- ---- what is taken of a text, by the strict reading of it

pub taken_in : (text x : List ℕ) (taken : Taken) → reading text ≡ Ok x → IsTaken x taken → IsTaken text taken
taken_in text x taken e h = subst (λ (t : List ℕ). IsTaken t taken) (read_as_itself text x e) h

pub own_in : (text x : List ℕ) (own : Meaning) → reading text ≡ Ok x → IsOf x own → IsOf text own
own_in text x own e h = subst (λ (t : List ℕ). IsOf t own) (read_as_itself text x e) h

pub accepted_in : (text x : List ℕ) (taken : Taken) → reading text ≡ Ok x → IsTaken x taken → IsAccepted text
accepted_in text x taken e h =
    let t = taken_in text x taken e h in
    record {
      read = subst (λ (t : List ℕ). reading text ≡ Ok t) (read_as_itself text x e) e;
      first = is_built 1 text taken.first t.first;
      last = is_built 127 text taken.last t.last;
    }

pub not_taken_in : (text x : List ℕ) → reading text ≡ Ok x → (IsAccepted x → ⊥) → IsAccepted text → ⊥
not_taken_in text x e not a = not (subst (λ (t : List ℕ). IsAccepted t) (sym (read_as_itself text x e)) a)

pub not_read : (text : List ℕ) (refusal : Refusal) → reading text ≡ Err refusal → IsAccepted text → ⊥
not_read text refusal e a = absurd (let r = a.read in cc)

-- nothing stands against a text that is of the device that it is read as
pub stands_by : (words : Words) (text : List ℕ) (device own : Meaning) → loosely text words ≡ Ok own → IsFound (standing words text) (IsOf text device) None → IsOf text own
    → Stands words text None
stands_by words text device own read h is = (h.0, record { device = own; read = read; same = is })

pub settled_in : (words : Words) (text x : List ℕ) (device : Meaning) (r : Result Taken Left) → reading text ≡ Ok x
    → IfOk r (λ _. IsFound (standing_built (is_leaving words) x (built x 1) (built x 127)) (IsOf x device) None) → IfOk r (λ _. IsFound (standing words text) (IsOf text device) None)
settled_in words text x device (Ok taken) e h = found_in words text x device None e h
settled_in words text x device (Err left) e h = tt
