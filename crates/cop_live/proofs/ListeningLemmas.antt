-- Listening that goes on.
use Rattle.std.proofs.Common.{◌≡◌, ℕ, ◌+◌, ◌-◌, ◌≤◌, length, List, [], ◌∷◌, ◌++◌, refl, sym, ◌∙◌, ap, subst, append_assoc, append-nil, Bool, true, false, Option, Some, None}
use Rattle.std.specs.Prelude.{nat_lt}
use Rattle.std.specs.Option.{option_or}
use Rattle.cop_slcan.specs.Meaning.{Told}
use Rattle.cop_slcan.specs.Reading.{said_from, left_from}
use Rattle.cop_live.specs.declared.listening.Sender.{Sender}
use Rattle.cop_live.specs.declared.listening.Runner.{Runner}
use Rattle.cop_live.specs.declared.listening.Tally.{Tally}
use Rattle.cop_live.specs.declared.listening.Found.{Found}
use Rattle.cop_live.specs.declared.listening.Found.TheVariants as founds
use Rattle.cop_live.specs.Log.{ByteStep, ClockStep, Asked, Read, DidAll}
use Rattle.cop_live.specs.Listening.{runner_told, first_runner, no_lines, tallying, tallied, found_through, listening_log, lines_in, Listens, ListensThrough, Listened}
use Rattle.cop_live.proofs.Sessions.{did_both, one_longer}

or_assoc : {T : Type 0} (a b c : Option T) → option_or (option_or a b) c ≡ option_or a (option_or b c)
or_assoc None b c = refl
or_assoc (Some x) b c = refl

or_none : {T : Type 0} (a : Option T) → option_or a None ≡ a
or_none None = refl
or_none (Some x) = refl

runner_append : (senders : List Sender) (only : Option ℕ) (xs ys : List Told) → first_runner senders only (xs ++ ys) ≡ option_or (first_runner senders only xs) (first_runner senders only ys)
runner_append senders only [] ys = refl
runner_append senders only (x ∷ xs) ys = ap (option_or (runner_told senders only x)) (runner_append senders only xs ys) ∙ sym (or_assoc (runner_told senders only x) (first_runner senders only xs) (first_runner senders only ys))

-- turns and one more
abbrev pub left_turns : List ℕ → List (ℕ × List ℕ) → List ℕ
left_turns pending [] = pending
left_turns pending ((now, bytes) ∷ turns) = left_turns (left_from pending bytes) turns

pub left_more : (pending : List ℕ) (turns : List (ℕ × List ℕ)) (now : ℕ) (bytes : List ℕ) → left_turns pending (turns ++ (now, bytes) ∷ []) ≡ left_from (left_turns pending turns) bytes
left_more pending [] now bytes = refl
left_more pending ((at, got) ∷ turns) now bytes = left_more (left_from pending got) turns now bytes

lines_more : (pending : List ℕ) (turns : List (ℕ × List ℕ)) (now : ℕ) (bytes : List ℕ) → lines_in pending (turns ++ (now, bytes) ∷ []) ≡ lines_in pending turns ++ said_from (left_turns pending turns) bytes
lines_more pending [] now bytes = append-nil (said_from pending bytes)
lines_more pending ((at, got) ∷ turns) now bytes =
    ap (λ l. said_from pending got ++ l) (lines_more (left_from pending got) turns now bytes)
    ∙ sym (append_assoc (said_from pending got) (lines_in (left_from pending got) turns) (said_from (left_turns (left_from pending got) turns) bytes))

pub log_more : (turns : List (ℕ × List ℕ)) (now : ℕ) (bytes : List ℕ) → listening_log (turns ++ (now, bytes) ∷ []) ≡ listening_log turns ++ Asked now ∷ Read bytes ∷ []
log_more [] now bytes = refl
log_more ((at, got) ∷ turns) now bytes = ap (λ log. Asked at ∷ Read got ∷ log) (log_more turns now bytes)

-- what lines were, in two parts
tallied_append : (tally : Tally) (xs ys : List Told) → tallied tally (xs ++ ys) ≡ tallied (tallied tally xs) ys
tallied_append tally [] ys = refl
tallied_append tally (x ∷ xs) ys = tallied_append (tallying tally x) xs ys

-- listening by which nobody was found so far, of at least so many turns
pub record Hears {P : Type 0} (reads writes : ByteStep P) (asks : ClockStep P) (senders : List Sender) (only : Option ℕ) (began : ℕ) (p : P) (k : ℕ) (pending : List ℕ) (tally : Tally) (q : P) : Type 0 where
  pub turns : List (ℕ × List ℕ)
  pub listens : Listens reads writes asks senders only began p turns None q
  pub left : pending ≡ left_turns [] turns
  pub lines : tally ≡ tallied no_lines (lines_in [] turns)
  pub many : k ≤ length turns

module _ {P : Type 0} (reads writes : ByteStep P) (asks : ClockStep P) (senders : List Sender) (only : Option ℕ) (began : ℕ) (p : P) where
  -- a turn more
  listens_on : (k : ℕ) (pending : List ℕ) (tally : Tally) (q a r : P) (now : ℕ) (bytes : List ℕ) (runner : Option Runner) (h : Hears reads writes asks senders only began p k pending tally q) → asks q now a → reads a bytes r
      → runner ≡ first_runner senders only (said_from pending bytes) → Listens reads writes asks senders only began p (h.turns ++ (now, bytes) ∷ []) runner r
  listens_on k pending tally q a r now bytes runner h asked got e = record {
    did = subst (λ log. DidAll reads writes asks p (Asked began ∷ log) r) (sym (log_more h.turns now bytes))
        (did_both reads writes asks p q r (Asked began ∷ listening_log h.turns) (Asked now ∷ Read bytes ∷ []) h.listens.did (a, asked, (r, got, refl)));
    heard = e ∙ ap (λ l. first_runner senders only (said_from l bytes)) h.left ∙ ap (λ o. option_or o (first_runner senders only (said_from (left_turns [] h.turns) bytes))) h.listens.heard
        ∙ sym (runner_append senders only (lines_in [] h.turns) (said_from (left_turns [] h.turns) bytes)) ∙ ap (first_runner senders only) (sym (lines_more [] h.turns now bytes));
  }

  pub hears_on : (k : ℕ) (pending left : List ℕ) (tally later : Tally) (q a r : P) (now : ℕ) (bytes : List ℕ) → Hears reads writes asks senders only began p k pending tally q → asks q now a → reads a bytes r
      → None ≡ first_runner senders only (said_from pending bytes) → left ≡ left_from pending bytes → later ≡ tallied tally (said_from pending bytes) → Hears reads writes asks senders only began p (k + 1) left later r
  hears_on k pending left tally later q a r now bytes h asked got e el et = record {
    turns = h.turns ++ (now, bytes) ∷ [];
    listens = listens_on k pending tally q a r now bytes None h asked got e;
    left = el ∙ ap (λ l. left_from l bytes) h.left ∙ sym (left_more [] h.turns now bytes);
    lines = et ∙ ap (λ l. tallied tally (said_from l bytes)) h.left ∙ ap (λ (t : Tally). tallied t (said_from (left_turns [] h.turns) bytes)) h.lines
        ∙ sym (tallied_append no_lines (lines_in [] h.turns) (said_from (left_turns [] h.turns) bytes)) ∙ ap (tallied no_lines) (sym (lines_more [] h.turns now bytes));
    many = one_longer k h.turns (now, bytes) h.many;
  }

  pub hears_runner : (k : ℕ) (pending : List ℕ) (tally : Tally) (q a r : P) (now : ℕ) (bytes : List ℕ) (runner : Runner) → Hears reads writes asks senders only began p k pending tally q → asks q now a → reads a bytes r
      → Some runner ≡ first_runner senders only (said_from pending bytes) → (b : ℕ) × (turns : List (ℕ × List ℕ)) × Listens reads writes asks senders only b p turns (Some runner) r
  hears_runner k pending tally q a r now bytes runner h asked got e = (began, h.turns ++ (now, bytes) ∷ [], listens_on k pending tally q a r now bytes (Some runner) h asked got e)

  -- it was listened for long enough
  pub hears_through : (k : ℕ) (pending : List ℕ) (tally : Tally) (q r : P) (until : ℕ) (f : Found) → Hears reads writes asks senders only began p k pending tally q → asks q until r → 8000000 ≤ until - began
      → f ≡ found_through tally → Listened reads writes asks senders only p f r
  hears_through k pending tally q r until f h asked long e = by_test tally.frame refl (nat_lt 0 tally.others) refl
    where
      through : ListensThrough reads writes asks senders only p tally r
      through = record { began = began; turns = h.turns; heard = q; until = until; listens = h.listens; looks = asked; long = long; lines = h.lines }

      by_test : (a : Bool) → tally.frame ≡ a → (b : Bool) → nat_lt 0 tally.others ≡ b → Listened reads writes asks senders only p f r
      by_test true ea b eb =
          let is : f ≡ founds.Nobody = e ∙ rw ea refl in
          subst (λ f. Listened reads writes asks senders only p f r) (sym is) (tally, through, sym (rw ea refl))
      by_test false ea true eb =
          let is : f ≡ founds.Garbled tally.others = e ∙ rw (ea, eb) refl in
          subst (λ f. Listened reads writes asks senders only p f r) (sym is) (tally, through, sym (rw (ea, eb) refl))
      by_test false ea false eb =
          let is : f ≡ founds.Silence = e ∙ rw (ea, eb) refl in
          subst (λ f. Listened reads writes asks senders only p f r) (sym is) (tally, through, sym (rw (ea, eb) refl))
