-- Pauses, and questions that are being asked behind them.
use Rattle.std.proofs.Common.{◌≡◌, ℕ, ◌+◌, ◌-◌, ◌≤◌, ◌<◌, List, [], ◌∷◌, ◌++◌, drop, length, get_or, refl, sym, ◌∙◌, ap, subst, arith, Option, None, append_assoc, append-nil, inl}
use Rattle.std.specs.List.{AllByRecursion}
use Rattle.cop_live.specs.Log as log
use Rattle.cop_live.specs.Log.{ByteStep, ClockStep, DidAll}
use Rattle.cop_live.specs.Listening.{listening_log}
use Rattle.cop_live.proofs.Sessions.{did_both, one_longer}
use Rattle.cop_live.proofs.ListeningLemmas.{log_more}
use Rattle.cop_live.proofs.FailureLemmas.{clock_failed, read_failed, too_many}
use Rattle.cop_identity.specs.declared.questions.Question.{Question}
use Rattle.cop_identity.specs.declared.asking.Exchange.{Exchange}
use Rattle.cop_identity.specs.Asking.{is_silent, silent_after, silent_by}
use Rattle.cop_identity.proofs.AskingLemmas.{all_more, questions_in, drop_step, one_added}
use Rattle.cop_survey.specs.Asking.{Pauses, PauseFails, WasNext, WereAsked, NextFails, AskingFails, AskedSome}

-- a pause that goes on, of at least so many turns
pub record Waits {P : Type 0} (reads writes : ByteStep P) (asks : ClockStep P) (ticks began : ℕ) (p : P) (k : ℕ) (q : P) : Type 0 where
  pub turns : List (ℕ × List ℕ)
  pub did : DidAll reads writes asks p (log.Asked began ∷ listening_log turns) q
  pub soon : AllByRecursion (λ turn. turn.0 - began < ticks) turns
  pub many : k ≤ length turns

module _ {P : Type 0} (reads writes : ByteStep P) (asks : ClockStep P) (ticks began : ℕ) (p : P) where
  pub waits_first : (k : ℕ) (q : P) → asks p began q → k ≡ 0 → Waits reads writes asks ticks began p k q
  waits_first k q asked ek = record { turns = []; did = (q, asked, refl); soon = tt; many = omega (arith, ek) }

  pub waits_on : (k : ℕ) (q a r : P) (now : ℕ) (bytes : List ℕ) → Waits reads writes asks ticks began p k q → asks q now a → reads a bytes r → now - began < ticks → Waits reads writes asks ticks began p (k + 1) r
  waits_on k q a r now bytes h asked got early = record {
    turns = h.turns ++ (now, bytes) ∷ [];
    did = subst (λ l. DidAll reads writes asks p (log.Asked began ∷ l) r) (sym (log_more h.turns now bytes))
        (did_both reads writes asks p q r (log.Asked began ∷ listening_log h.turns) (log.Asked now ∷ log.Read bytes ∷ []) h.did (a, asked, (r, got, refl)));
    soon = all_more (λ (turn : ℕ × List ℕ). turn.0 - began < ticks) h.turns (now, bytes) h.soon early;
    many = one_longer k h.turns (now, bytes) h.many;
  }

  pub pauses_so : (k : ℕ) (q r : P) (now : ℕ) → Waits reads writes asks ticks began p k q → asks q now r → ticks ≤ now - began → Pauses reads writes asks ticks p r
  pauses_so k q r now h asked long = record { began = began; turns = h.turns; waited = q; until = now; did = h.did; soon = h.soon; looks = asked; long = long }

-- a pause gives out
module _ {P : Type 0} (reads writes : ByteStep P) (asks : ClockStep P) (fails : ByteStep P) (ticks began : ℕ) (p : P) where
  pub wait_unbegun : (r : P) → fails p [] r → PauseFails reads writes asks fails p r
  wait_unbegun r f = (0, [], inl (inl f))

  pub wait_unasked : (k : ℕ) (q r : P) → Waits reads writes asks ticks began p k q → fails q [] r → PauseFails reads writes asks fails p r
  wait_unasked k q r h f = let x = clock_failed reads writes asks fails (log.Asked began ∷ []) p h.turns q r h.did f in (began, x.0, x.1)

  pub wait_unread : (k : ℕ) (q a r : P) (now : ℕ) → Waits reads writes asks ticks began p k q → asks q now a → fails a [] r → PauseFails reads writes asks fails p r
  wait_unread k q a r now h asked f = let x = read_failed reads writes asks fails (log.Asked began ∷ []) p h.turns q a r now h.did asked f in (began, x.0, x.1)

  pub wait_too_long : (k : ℕ) (q : P) → Waits reads writes asks ticks began p k q → 18446744073709551615 ≤ k → PauseFails reads writes asks fails p q
  wait_too_long k q h enough = let x = too_many reads writes asks fails (log.Asked began ∷ []) p h.turns k q h.did h.many enough in (began, x.0, x.1)

-- ---- all questions

silent_more : (silent : Option ℕ) (all : List Exchange) (asked : Exchange) → silent_by silent (all ++ asked ∷ []) ≡ silent_after (silent_by silent all) asked.question.node asked.outcome
silent_more silent [] asked = refl
silent_more silent (x ∷ all) asked = silent_more (silent_after silent x.question.node x.outcome) all asked

-- questions so far: whatever comes of the others stands behind
pub record Goes {P : Type 0} (reads writes : ByteStep P) (asks : ClockStep P) (ticks : ℕ) (p : P) (all : List Exchange) (silent : Option ℕ) (q : P) : Type 0 where
  pub goes : (rest : List Exchange) (r : P) → WereAsked reads writes asks ticks silent q rest r → WereAsked reads writes asks ticks None p (all ++ rest) r
  pub last : silent ≡ silent_by None all

module _ {P : Type 0} (reads writes : ByteStep P) (asks : ClockStep P) (ticks : ℕ) (p : P) where
  pub none_yet : (all : List Exchange) → all ≡ [] → Goes reads writes asks ticks p all None p
  none_yet all e = record { goes = λ rest r h. subst (λ (xs : List Exchange). WereAsked reads writes asks ticks None p (xs ++ rest) r) (sym e) h; last = ap (silent_by None) (sym e) }

  pub one_more : (all more : List Exchange) (silent later : Option ℕ) (q m : P) (asked : Exchange) → Goes reads writes asks ticks p all silent q
      → WasNext reads writes asks ticks (is_silent silent asked.question.node) asked.question q asked.outcome m → later ≡ silent_after silent asked.question.node asked.outcome
      → more ≡ all ++ asked ∷ [] → Goes reads writes asks ticks p more later m
  one_more all more silent later q m asked g was el em = record {
    goes = λ rest r h.
        subst (λ (xs : List Exchange). WereAsked reads writes asks ticks None p xs r) (sym (ap (λ (xs : List Exchange). xs ++ rest) em ∙ append_assoc all (asked ∷ []) rest))
        (g.goes (asked ∷ rest) r (m, was, subst (λ (s : Option ℕ). WereAsked reads writes asks ticks s m rest r) el h));
    last = el ∙ ap (λ (s : Option ℕ). silent_after s asked.question.node asked.outcome) g.last ∙ sym (silent_more None all asked) ∙ ap (silent_by None) (sym em);
  }

  pub were_all : (all : List Exchange) (silent : Option ℕ) (q : P) → Goes reads writes asks ticks p all silent q → WereAsked reads writes asks ticks None p all q
  were_all all silent q g = subst (λ (xs : List Exchange). WereAsked reads writes asks ticks None p xs q) (append-nil all) (g.goes [] q refl)

  -- the next one gave out
  pub asking_fails : (fails : ByteStep P) (questions : List Question) (all : List Exchange) (k : ℕ) (question : Question) (silent : Option ℕ) (q r : P) → k < length questions → question ≡ get_or questions k question
      → questions_in all ++ drop k questions ≡ questions → Goes reads writes asks ticks p all silent q → NextFails reads writes asks fails ticks (is_silent silent question.node) question q r → AskingFails reads writes asks fails ticks questions p r
  asking_fails fails questions all k question silent q r inside here so_far g f = record {
    all = all;
    next = question;
    rest = drop (k + 1) questions;
    between = q;
    each = ap (λ qs. questions_in all ++ qs) (drop_step questions k question inside here) ∙ so_far;
    were = were_all all silent q g;
    failed = subst (λ (s : Option ℕ). NextFails reads writes asks fails ticks (is_silent s question.node) question q r) g.last f;
  }

  -- there was no memory for what came of a question
  pub asked_some : (questions : List Question) (all : List Exchange) (k : ℕ) (asked : Exchange) (silent : Option ℕ) (q r : P) → k < length questions → asked.question ≡ get_or questions k asked.question
      → questions_in all ++ drop k questions ≡ questions → Goes reads writes asks ticks p all silent q → WasNext reads writes asks ticks (is_silent silent asked.question.node) asked.question q asked.outcome r
      → AskedSome reads writes asks ticks questions p r
  asked_some questions all k asked silent q r inside here so_far g was = record {
    all = all ++ asked ∷ [];
    rest = drop (k + 1) questions;
    each = one_added questions all (all ++ asked ∷ []) k asked.question asked inside here refl refl so_far;
    were = were_all (all ++ asked ∷ []) (silent_after silent asked.question.node asked.outcome) r (one_more all (all ++ asked ∷ []) silent (silent_after silent asked.question.node asked.outcome) q r asked g was refl refl);
  }
