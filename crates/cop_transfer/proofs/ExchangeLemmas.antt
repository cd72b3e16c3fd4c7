-- Requests whose answers are awaited.
use Rattle.std.proofs.Common.{◌≡◌, ℕ, ◌+◌, ◌-◌, ◌≤◌, ◌<◌, Bool, true, false, List, [], ◌∷◌, ◌++◌, length, refl, sym, ◌∙◌, ap, subst, arith, Option, Some, None, inl, inr}
use Rattle.std.specs.Prelude.{if◌then◌else◌}
use Rattle.std.specs.Option.{option_or}
use Rattle.cop_sdo.specs.Message.{Message}
use Rattle.cop_sdo.specs.Reply.{is_answer}
use Rattle.cop_slcan.specs.Meaning.{Told, Heard, Done, Refused, Other}
use Rattle.cop_slcan.specs.Reading.{said_from, left_from}
use Rattle.cop_live.specs.Log as log
use Rattle.cop_live.specs.Log.{ByteStep, ClockStep, DidAll, BrokeOff}
use Rattle.cop_live.specs.Listening.{listening_log}
use Rattle.cop_live.proofs.Sessions.{did_both, one_longer}
use Rattle.cop_live.proofs.ListeningLemmas.{left_turns, left_more, log_more}
use Rattle.cop_live.proofs.FailureLemmas.{clock_failed, read_failed, too_many}
use Rattle.cop_identity.proofs.AskingLemmas.{all_more}
use Rattle.cop_transfer.specs.Exchanging.{answer_told, first_answer, answer_heard, Exchanges, WasExchanged, ExchangeFails}

or_assoc : {T : Type 0} (a b c : Option T) → option_or (option_or a b) c ≡ option_or a (option_or b c)
or_assoc None b c = refl
or_assoc (Some x) b c = refl

or_none : {T : Type 0} (a : Option T) → option_or a None ≡ a
or_none None = refl
or_none (Some x) = refl

heard_more : (node : ℕ) (pending : List ℕ) (turns : List (ℕ × List ℕ)) (now : ℕ) (bytes : List ℕ)
    → answer_heard node pending (turns ++ (now, bytes) ∷ []) ≡ option_or (answer_heard node pending turns) (first_answer node (said_from (left_turns pending turns) bytes))
heard_more node pending [] now bytes = or_none (first_answer node (said_from pending bytes))
heard_more node pending ((at, got) ∷ turns) now bytes =
    ap (option_or (first_answer node (said_from pending got))) (heard_more node (left_from pending got) turns now bytes)
    ∙ sym (or_assoc (first_answer node (said_from pending got)) (answer_heard node (left_from pending got) turns) (first_answer node (said_from (left_turns (left_from pending got) turns) bytes)))

-- ---- an answer comes from the node

abbrev IsFrom : ℕ → Option Message → Type 0
IsFrom node None = Unit {0}
IsFrom node (Some answer) = is_answer node answer ≡ true

or_from : (node : ℕ) (a b : Option Message) → IsFrom node a → IsFrom node b → IsFrom node (option_or a b)
or_from node None b ha hb = hb
or_from node (Some x) b ha hb = ha

told_from : (node : ℕ) (line : Told) → IsFrom node (answer_told node line)
told_from node (Heard frame) = by_test (is_answer node frame) refl
  where
    by_test : (b : Bool) → is_answer node frame ≡ b → IsFrom node (if b then Some frame else None)
    by_test true e = e
    by_test false e = tt
told_from node Done = tt
told_from node Refused = tt
told_from node Other = tt

first_from : (node : ℕ) (lines : List Told) → IsFrom node (first_answer node lines)
first_from node [] = tt
first_from node (line ∷ rest) = or_from node (answer_told node line) (first_answer node rest) (told_from node line) (first_from node rest)

heard_from : (node : ℕ) (pending : List ℕ) (turns : List (ℕ × List ℕ)) → IsFrom node (answer_heard node pending turns)
heard_from node pending [] = tt
heard_from node pending ((now, bytes) ∷ turns) =
    or_from node (first_answer node (said_from pending bytes)) (answer_heard node (left_from pending bytes) turns) (first_from node (said_from pending bytes)) (heard_from node (left_from pending bytes) turns)

pub answers_come_from : {P : Type 0} (reads writes : ByteStep P) (asks : ClockStep P) (node limit : ℕ) (request answer : Message) (p q : P) → WasExchanged reads writes asks node limit request p (Some answer) q → is_answer node answer ≡ true
answers_come_from reads writes asks node limit request answer p q h = subst (IsFrom node) (sym h.2.heard) (heard_from node [] h.1)

-- ---- turns and one more

-- a request that is not answered so far, in at least so many turns
pub record Waits {P : Type 0} (reads writes : ByteStep P) (asks : ClockStep P) (node limit : ℕ) (request : Message) (began : ℕ) (p : P) (k : ℕ) (pending : List ℕ) (q : P) : Type 0 where
  pub turns : List (ℕ × List ℕ)
  pub waits : Exchanges reads writes asks node limit request began p turns None q
  pub left : pending ≡ left_turns [] turns
  pub many : k ≤ length turns

module _ {P : Type 0} (reads writes : ByteStep P) (asks : ClockStep P) (node limit : ℕ) (request : Message) (began : ℕ) (p : P) where
  pub waits_first : (k : ℕ) (pending : List ℕ) (m q : P) → asks p began m → DidAll reads writes asks m (log.Sent request ∷ []) q → pending ≡ [] → k ≡ 0 → Waits reads writes asks node limit request began p k pending q
  waits_first k pending m q asked sent e ek = record { turns = []; waits = record { did = (m, asked, sent); heard = refl; soon = tt }; left = e; many = omega (arith, ek) }

  -- a turn more
  exchanges_on : (k : ℕ) (pending : List ℕ) (q a r : P) (now : ℕ) (bytes : List ℕ) (answer : Option Message) (h : Waits reads writes asks node limit request began p k pending q) → asks q now a → reads a bytes r
      → now - began < limit → answer ≡ first_answer node (said_from pending bytes) → Exchanges reads writes asks node limit request began p (h.turns ++ (now, bytes) ∷ []) answer r
  exchanges_on k pending q a r now bytes answer h asked got early e = record {
    did = subst (λ l. DidAll reads writes asks p (log.Asked began ∷ log.Sent request ∷ l) r) (sym (log_more h.turns now bytes))
        (did_both reads writes asks p q r (log.Asked began ∷ log.Sent request ∷ listening_log h.turns) (log.Asked now ∷ log.Read bytes ∷ []) h.waits.did (a, asked, (r, got, refl)));
    heard = e ∙ ap (λ l. first_answer node (said_from l bytes)) h.left ∙ ap (λ o. option_or o (first_answer node (said_from (left_turns [] h.turns) bytes))) h.waits.heard ∙ sym (heard_more node [] h.turns now bytes);
    soon = all_more (λ (turn : ℕ × List ℕ). turn.0 - began < limit) h.turns (now, bytes) h.waits.soon early;
  }

  pub waits_on : (k : ℕ) (pending left : List ℕ) (q a r : P) (now : ℕ) (bytes : List ℕ) → Waits reads writes asks node limit request began p k pending q → asks q now a → reads a bytes r
      → now - began < limit → None ≡ first_answer node (said_from pending bytes) → left ≡ left_from pending bytes → Waits reads writes asks node limit request began p (k + 1) left r
  waits_on k pending left q a r now bytes h asked got early e el = record {
    turns = h.turns ++ (now, bytes) ∷ [];
    waits = exchanges_on k pending q a r now bytes None h asked got early e;
    left = el ∙ ap (λ l. left_from l bytes) h.left ∙ sym (left_more [] h.turns now bytes);
    many = one_longer k h.turns (now, bytes) h.many;
  }

  pub was_answered : (k : ℕ) (pending : List ℕ) (q a r : P) (now : ℕ) (bytes : List ℕ) (answer : Message) → Waits reads writes asks node limit request began p k pending q → asks q now a → reads a bytes r
      → now - began < limit → Some answer ≡ first_answer node (said_from pending bytes) → WasExchanged reads writes asks node limit request p (Some answer) r
  was_answered k pending q a r now bytes answer h asked got early e = (began, h.turns ++ (now, bytes) ∷ [], exchanges_on k pending q a r now bytes (Some answer) h asked got early e)

  pub was_silent : (k : ℕ) (pending : List ℕ) (q r : P) (now : ℕ) → Waits reads writes asks node limit request began p k pending q → asks q now r → limit ≤ now - began → WasExchanged reads writes asks node limit request p None r
  was_silent k pending q r now h asked late = (began, h.turns, q, now, h.waits, asked, late)

-- ---- a request gives out

module _ {P : Type 0} (reads writes : ByteStep P) (asks : ClockStep P) (fails : ByteStep P) (node limit : ℕ) (request : Message) (began : ℕ) (p : P) where
  abbrev Lost : P → Type 0
  Lost r = ExchangeFails reads writes asks fails request p r

  pub unbegun : (r : P) → fails p [] r → Lost r
  unbegun r f = (0, [], inl (inl f))

  pub unsent : (m r : P) → asks p began m → BrokeOff reads writes asks fails m (log.Sent request ∷ []) r → Lost r
  unsent m r asked h = (began, [], inl (inr (m, asked, h)))

  pub unasked : (k : ℕ) (pending : List ℕ) (q r : P) → Waits reads writes asks node limit request began p k pending q → fails q [] r → Lost r
  unasked k pending q r h f = let x = clock_failed reads writes asks fails (log.Asked began ∷ log.Sent request ∷ []) p h.turns q r h.waits.did f in (began, x.0, x.1)

  pub unread : (k : ℕ) (pending : List ℕ) (q a r : P) (now : ℕ) → Waits reads writes asks node limit request began p k pending q → asks q now a → fails a [] r → Lost r
  unread k pending q a r now h asked f = let x = read_failed reads writes asks fails (log.Asked began ∷ log.Sent request ∷ []) p h.turns q a r now h.waits.did asked f in (began, x.0, x.1)

  pub too_long : (k : ℕ) (pending : List ℕ) (q : P) → Waits reads writes asks node limit request began p k pending q → 18446744073709551615 ≤ k → Lost q
  too_long k pending q h enough = let x = too_many reads writes asks fails (log.Asked began ∷ log.Sent request ∷ []) p h.turns k q h.waits.did h.many enough in (began, x.0, x.1)
