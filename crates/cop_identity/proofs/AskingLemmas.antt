-- Questions that are being asked.
use Rattle.std.proofs.Common.{◌≡◌, ℕ, ◌+◌, ◌-◌, ◌≤◌, ◌<◌, zero, suc, List, [], ◌∷◌, ◌++◌, map, drop, length, get_or, refl, sym, ◌∙◌, ap, subst, arith, Option, Some, None, append_assoc, append-nil, inl, inr}
use Rattle.std.specs.Prelude.{Result, Ok, Err, OnErr}
use Rattle.std.specs.Option.{option_or}
use Rattle.std.specs.List.{AllByRecursion}
use Rattle.std.proofs.lemmas.List.{map-append}
use Rattle.cop_sdo.specs.Message.{Message}
use Rattle.cop_slcan.specs.Reading.{said_from, left_from}
use Rattle.cop_live.specs.Log as log
use Rattle.cop_live.specs.Log.{ByteStep, ClockStep, DidAll, BrokeOff}
use Rattle.cop_live.specs.Listening.{listening_log}
use Rattle.cop_live.proofs.Sessions.{did_both, one_longer}
use Rattle.cop_live.proofs.FailureLemmas.{clock_failed, read_failed, too_many}
use Rattle.cop_identity.specs.declared.questions.Question.{Question}
use Rattle.cop_identity.specs.declared.questions.Answer.{Answer}
use Rattle.cop_identity.specs.declared.asking.Exchange.{Exchange}
use Rattle.cop_identity.specs.Questions.{request_of, limit_of}
use Rattle.cop_identity.specs.Asking.{first_answer, answer_heard, Asks, WereAsked, WasNext, is_silent, silent_after, silent_by, AskFails, NextFails, AskingFails, AskedSome}

or_assoc : {T : Type 0} (a b c : Option T) → option_or (option_or a b) c ≡ option_or a (option_or b c)
or_assoc None b c = refl
or_assoc (Some x) b c = refl

or_none : {T : Type 0} (a : Option T) → option_or a None ≡ a
or_none None = refl
or_none (Some x) = refl

-- turns and one more
abbrev pub left_turns : List ℕ → List (ℕ × List ℕ) → List ℕ
left_turns pending [] = pending
left_turns pending ((now, bytes) ∷ turns) = left_turns (left_from pending bytes) turns

pub left_more : (pending : List ℕ) (turns : List (ℕ × List ℕ)) (now : ℕ) (bytes : List ℕ) → left_turns pending (turns ++ (now, bytes) ∷ []) ≡ left_from (left_turns pending turns) bytes
left_more pending [] now bytes = refl
left_more pending ((at, got) ∷ turns) now bytes = left_more (left_from pending got) turns now bytes

pub heard_more : (question : Question) (pending : List ℕ) (turns : List (ℕ × List ℕ)) (now : ℕ) (bytes : List ℕ)
    → answer_heard question pending (turns ++ (now, bytes) ∷ []) ≡ option_or (answer_heard question pending turns) (first_answer question (said_from (left_turns pending turns) bytes))
heard_more question pending [] now bytes = or_none (first_answer question (said_from pending bytes))
heard_more question pending ((at, got) ∷ turns) now bytes =
    ap (option_or (first_answer question (said_from pending got))) (heard_more question (left_from pending got) turns now bytes)
    ∙ sym (or_assoc (first_answer question (said_from pending got)) (answer_heard question (left_from pending got) turns) (first_answer question (said_from (left_turns (left_from pending got) turns) bytes)))

log_more : (turns : List (ℕ × List ℕ)) (now : ℕ) (bytes : List ℕ) → listening_log (turns ++ (now, bytes) ∷ []) ≡ listening_log turns ++ log.Asked now ∷ log.Read bytes ∷ []
log_more [] now bytes = refl
log_more ((at, got) ∷ turns) now bytes = ap (λ l. log.Asked at ∷ log.Read got ∷ l) (log_more turns now bytes)

pub all_more : {A : Type 0} (Q : A → Type 0) (xs : List A) (x : A) → AllByRecursion Q xs → Q x → AllByRecursion Q (xs ++ x ∷ [])
all_more Q [] x h q = (q, tt)
all_more Q (y ∷ xs) x h q = (h.0, all_more Q xs x h.1 q)

-- a question that is not answered so far, in at least so many turns
pub record Waits {P : Type 0} (reads writes : ByteStep P) (asks : ClockStep P) (question : Question) (began : ℕ) (p : P) (k : ℕ) (pending : List ℕ) (q : P) : Type 0 where
  pub turns : List (ℕ × List ℕ)
  pub waits : Asks reads writes asks question began p turns None q
  pub left : pending ≡ left_turns [] turns
  pub many : k ≤ length turns

module _ {P : Type 0} (reads writes : ByteStep P) (asks : ClockStep P) (question : Question) (began : ℕ) (p : P) where
  pub waits_first : (k : ℕ) (pending : List ℕ) (m q : P) (frame : Message) → asks p began m → frame ≡ request_of question → DidAll reads writes asks m (log.Sent frame ∷ []) q → pending ≡ [] → k ≡ 0 → Waits reads writes asks question began p k pending q
  waits_first k pending m q frame asked is sent e ek =
      record { turns = []; waits = record { did = (m, asked, subst (λ f. DidAll reads writes asks m (log.Sent f ∷ []) q) is sent); heard = refl; soon = tt }; left = e; many = omega (arith, ek) }

  -- a turn more
  asks_on : (k : ℕ) (pending : List ℕ) (q a r : P) (now : ℕ) (bytes : List ℕ) (answer : Option Answer) (h : Waits reads writes asks question began p k pending q) → asks q now a → reads a bytes r
      → now - began < limit_of question.demand → answer ≡ first_answer question (said_from pending bytes) → Asks reads writes asks question began p (h.turns ++ (now, bytes) ∷ []) answer r
  asks_on k pending q a r now bytes answer h asked got early e = record {
    did = subst (λ l. DidAll reads writes asks p (log.Asked began ∷ log.Sent (request_of question) ∷ l) r) (sym (log_more h.turns now bytes))
        (did_both reads writes asks p q r (log.Asked began ∷ log.Sent (request_of question) ∷ listening_log h.turns) (log.Asked now ∷ log.Read bytes ∷ []) h.waits.did (a, asked, (r, got, refl)));
    heard = e ∙ ap (λ l. first_answer question (said_from l bytes)) h.left ∙ ap (λ o. option_or o (first_answer question (said_from (left_turns [] h.turns) bytes))) h.waits.heard ∙ sym (heard_more question [] h.turns now bytes);
    soon = all_more (λ (turn : ℕ × List ℕ). turn.0 - began < limit_of question.demand) h.turns (now, bytes) h.waits.soon early;
  }

  pub waits_on : (k : ℕ) (pending left : List ℕ) (q a r : P) (now : ℕ) (bytes : List ℕ) → Waits reads writes asks question began p k pending q → asks q now a → reads a bytes r
      → now - began < limit_of question.demand → None ≡ first_answer question (said_from pending bytes) → left ≡ left_from pending bytes → Waits reads writes asks question began p (k + 1) left r
  waits_on k pending left q a r now bytes h asked got early e el = record {
    turns = h.turns ++ (now, bytes) ∷ [];
    waits = asks_on k pending q a r now bytes None h asked got early e;
    left = el ∙ ap (λ l. left_from l bytes) h.left ∙ sym (left_more [] h.turns now bytes);
    many = one_longer k h.turns (now, bytes) h.many;
  }

  pub was_answered : (k : ℕ) (pending : List ℕ) (q a r : P) (now : ℕ) (bytes : List ℕ) (answer : Answer) → Waits reads writes asks question began p k pending q → asks q now a → reads a bytes r
      → now - began < limit_of question.demand → Some answer ≡ first_answer question (said_from pending bytes)
      → (b : ℕ) × (turns : List (ℕ × List ℕ)) × Asks reads writes asks question b p turns (Some answer) r
  was_answered k pending q a r now bytes answer h asked got early e = (began, h.turns ++ (now, bytes) ∷ [], asks_on k pending q a r now bytes (Some answer) h asked got early e)

  pub was_silent : (k : ℕ) (pending : List ℕ) (q r : P) (now : ℕ) → Waits reads writes asks question began p k pending q → asks q now r → limit_of question.demand ≤ now - began
      → (b : ℕ) × (turns : List (ℕ × List ℕ)) × (m : P) × (until : ℕ) × Asks reads writes asks question b p turns None m × asks m until r × (limit_of question.demand ≤ until - b)
  was_silent k pending q r now h asked late = (began, h.turns, q, now, h.waits, asked, late)

-- a question gives out
module _ {P : Type 0} (reads writes : ByteStep P) (asks : ClockStep P) (fails : ByteStep P) (question : Question) (began : ℕ) (p : P) where
  abbrev Lost : P → Type 0
  Lost r = AskFails reads writes asks fails question p r

  pub ask_unbegun : (r : P) → fails p [] r → Lost r
  ask_unbegun r f = (0, [], inl (inl f))

  pub ask_unsent : (m r : P) (frame : Message) → asks p began m → frame ≡ request_of question → BrokeOff reads writes asks fails m (log.Sent frame ∷ []) r → Lost r
  ask_unsent m r frame asked is h = (began, [], inl (inr (m, asked, subst (λ f. BrokeOff reads writes asks fails m (log.Sent f ∷ []) r) is h)))

  pub ask_unasked : (k : ℕ) (pending : List ℕ) (q r : P) → Waits reads writes asks question began p k pending q → fails q [] r → Lost r
  ask_unasked k pending q r h f = let x = clock_failed reads writes asks fails (log.Asked began ∷ log.Sent (request_of question) ∷ []) p h.turns q r h.waits.did f in (began, x.0, x.1)

  pub ask_unread : (k : ℕ) (pending : List ℕ) (q a r : P) (now : ℕ) → Waits reads writes asks question began p k pending q → asks q now a → fails a [] r → Lost r
  ask_unread k pending q a r now h asked f = let x = read_failed reads writes asks fails (log.Asked began ∷ log.Sent (request_of question) ∷ []) p h.turns q a r now h.waits.did asked f in (began, x.0, x.1)

  pub ask_too_long : (k : ℕ) (pending : List ℕ) (q : P) → Waits reads writes asks question began p k pending q → 18446744073709551615 ≤ k → Lost q
  ask_too_long k pending q h enough = let x = too_many reads writes asks fails (log.Asked began ∷ log.Sent (request_of question) ∷ []) p h.turns k q h.waits.did h.many enough in (began, x.0, x.1)

-- what holds of an error
pub on_err : {T E : Type 0} (result : Result T E) (claim : Type 0) → claim → OnErr result claim
on_err (Ok x) claim h = tt
on_err (Err e) claim h = h

-- ---- all questions

abbrev pub questions_in : List Exchange → List Question
questions_in all = map (λ asked. asked.question) all

pub drop_step : (questions : List Question) (k : ℕ) (question : Question) → k < length questions → question ≡ get_or questions k question → question ∷ drop (k + 1) questions ≡ drop k questions
drop_step [] k question inside here = absurd (omega arith)
drop_step (q ∷ qs) zero question inside here = ap (λ x. x ∷ qs) here
drop_step (q ∷ qs) (suc k) question inside here = let e : suc k + 1 ≡ suc (k + 1) = omega arith in rw e (drop_step qs k question (omega arith) here)

drop_none : (questions : List Question) (k : ℕ) → length questions ≤ k → drop k questions ≡ []
drop_none [] zero h = refl
drop_none [] (suc k) h = refl
drop_none (q ∷ qs) zero h = absurd (omega arith)
drop_none (q ∷ qs) (suc k) h = drop_none qs k (omega arith)

pub one_added : (questions : List Question) (all more : List Exchange) (k : ℕ) (question : Question) (added : Exchange) → k < length questions → question ≡ get_or questions k question
    → added.question ≡ question → more ≡ all ++ added ∷ [] → questions_in all ++ drop k questions ≡ questions → questions_in more ++ drop (k + 1) questions ≡ questions
one_added questions all more k question added inside here is put so_far =
    ap (λ xs. questions_in xs ++ drop (k + 1) questions) put
    ∙ ap (λ xs. xs ++ drop (k + 1) questions) (map-append (λ (asked : Exchange). asked.question) all (added ∷ []))
    ∙ append_assoc (questions_in all) (added.question ∷ []) (drop (k + 1) questions)
    ∙ ap (λ q. questions_in all ++ q ∷ drop (k + 1) questions) is
    ∙ ap (λ xs. questions_in all ++ xs) (drop_step questions k question inside here)
    ∙ so_far

pub all_added : (questions : List Question) (all : List Exchange) (k : ℕ) → length questions ≤ k → questions_in all ++ drop k questions ≡ questions → questions_in all ≡ questions
all_added questions all k over so_far = sym (append-nil (questions_in all)) ∙ ap (λ xs. questions_in all ++ xs) (sym (drop_none questions k over)) ∙ so_far

silent_more : (silent : Option ℕ) (all : List Exchange) (asked : Exchange) → silent_by silent (all ++ asked ∷ []) ≡ silent_after (silent_by silent all) asked.question.node asked.outcome
silent_more silent [] asked = refl
silent_more silent (x ∷ all) asked = silent_more (silent_after silent x.question.node x.outcome) all asked

-- questions so far: whatever comes of the others stands behind
pub record Goes {P : Type 0} (reads writes : ByteStep P) (asks : ClockStep P) (p : P) (all : List Exchange) (silent : Option ℕ) (q : P) : Type 0 where
  pub goes : (rest : List Exchange) (r : P) → WereAsked reads writes asks silent q rest r → WereAsked reads writes asks None p (all ++ rest) r
  pub last : silent ≡ silent_by None all

module _ {P : Type 0} (reads writes : ByteStep P) (asks : ClockStep P) (p : P) where
  pub none_yet : (all : List Exchange) → all ≡ [] → Goes reads writes asks p all None p
  none_yet all e = record { goes = λ rest r h. subst (λ (xs : List Exchange). WereAsked reads writes asks None p (xs ++ rest) r) (sym e) h; last = ap (silent_by None) (sym e) }

  pub one_more : (all more : List Exchange) (silent later : Option ℕ) (q m : P) (asked : Exchange) → Goes reads writes asks p all silent q
      → WasNext reads writes asks (is_silent silent asked.question.node) asked.question q asked.outcome m → later ≡ silent_after silent asked.question.node asked.outcome
      → more ≡ all ++ asked ∷ [] → Goes reads writes asks p more later m
  one_more all more silent later q m asked g was el em = record {
    goes = λ rest r h.
        subst (λ (xs : List Exchange). WereAsked reads writes asks None p xs r) (sym (ap (λ (xs : List Exchange). xs ++ rest) em ∙ append_assoc all (asked ∷ []) rest))
        (g.goes (asked ∷ rest) r (m, was, subst (λ (s : Option ℕ). WereAsked reads writes asks s m rest r) el h));
    last = el ∙ ap (λ (s : Option ℕ). silent_after s asked.question.node asked.outcome) g.last ∙ sym (silent_more None all asked) ∙ ap (silent_by None) (sym em);
  }

  pub were_all : (all : List Exchange) (silent : Option ℕ) (q : P) → Goes reads writes asks p all silent q → WereAsked reads writes asks None p all q
  were_all all silent q g = subst (λ (xs : List Exchange). WereAsked reads writes asks None p xs q) (append-nil all) (g.goes [] q refl)

  -- the next one gave out
  pub asking_fails : (fails : ByteStep P) (questions : List Question) (all : List Exchange) (k : ℕ) (question : Question) (silent : Option ℕ) (q r : P) → k < length questions → question ≡ get_or questions k question
      → questions_in all ++ drop k questions ≡ questions → Goes reads writes asks p all silent q → NextFails reads writes asks fails (is_silent silent question.node) question q r → AskingFails reads writes asks fails questions p r
  asking_fails fails questions all k question silent q r inside here so_far g f = record {
    all = all;
    next = question;
    rest = drop (k + 1) questions;
    between = q;
    each = ap (λ qs. questions_in all ++ qs) (drop_step questions k question inside here) ∙ so_far;
    were = were_all all silent q g;
    failed = subst (λ (s : Option ℕ). NextFails reads writes asks fails (is_silent s question.node) question q r) g.last f;
  }

  -- there was no memory for what came of a question
  pub asked_some : (questions : List Question) (all : List Exchange) (k : ℕ) (asked : Exchange) (silent : Option ℕ) (q r : P) → k < length questions → asked.question ≡ get_or questions k asked.question
      → questions_in all ++ drop k questions ≡ questions → Goes reads writes asks p all silent q → WasNext reads writes asks (is_silent silent asked.question.node) asked.question q asked.outcome r
      → AskedSome reads writes asks questions p r
  asked_some questions all k asked silent q r inside here so_far g was = record {
    all = all ++ asked ∷ [];
    rest = drop (k + 1) questions;
    each = one_added questions all (all ++ asked ∷ []) k asked.question asked inside here refl refl so_far;
    were = were_all (all ++ asked ∷ []) (silent_after silent asked.question.node asked.outcome) r (one_more all (all ++ asked ∷ []) silent (silent_after silent asked.question.node asked.outcome) q r asked g was refl refl);
  }
