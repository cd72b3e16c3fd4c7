-- Boot-ups that are being awaited.
use Rattle.std.proofs.Common.{◌≡◌, ℕ, ◌+◌, ◌-◌, ◌<◌, ◌≤◌, length, List, [], ◌∷◌, ◌++◌, Bool, true, false, Option, refl, sym, ◌∙◌, ap, subst, arith, inl, inr}
use Rattle.cop_sdo.specs.Message.{Message}
use Rattle.cop_slcan.specs.Reading.{said_from, left_from}
use Rattle.cop_live.specs.Log.{ByteStep, ClockStep, Asked, Sent, Read, DidAll}
use Rattle.cop_live.specs.Nodes.{nobody}
use Rattle.cop_live.specs.Listening.{listening_log}
use Rattle.cop_live.specs.Session.{noted, reset_of}
use Rattle.cop_live.specs.Awaiting.{have_booted, booted_by, AreAwaited, Awaits, Awoke}
use Rattle.cop_live.proofs.Sessions.{did_both, one_longer}
use Rattle.cop_live.proofs.ListeningLemmas.{left_turns, left_more, log_more}

booted_more : (pending : List ℕ) (booted : List Bool) (turns : List (ℕ × List ℕ)) (now : ℕ) (bytes : List ℕ)
    → booted_by pending booted (turns ++ (now, bytes) ∷ []) ≡ noted (booted_by pending booted turns) (said_from (left_turns pending turns) bytes)
booted_more pending booted [] now bytes = refl
booted_more pending booted ((at, got) ∷ turns) now bytes = booted_more (left_from pending got) (noted booted (said_from pending got)) turns now bytes

awaited_more : (nodes : List ℕ) (limit began : ℕ) (pending : List ℕ) (booted : List Bool) (turns : List (ℕ × List ℕ)) (now : ℕ) (bytes : List ℕ) → AreAwaited nodes limit began pending booted turns
    → have_booted (booted_by pending booted turns) nodes ≡ false → now - began < limit → AreAwaited nodes limit began pending booted (turns ++ (now, bytes) ∷ [])
awaited_more nodes limit began pending booted [] now bytes a out early = (out, (early, tt))
awaited_more nodes limit began pending booted ((at, got) ∷ turns) now bytes a out early = (a.0, (a.1.0, awaited_more nodes limit began (left_from pending got) (noted booted (said_from pending got)) turns now bytes a.1.1 out early))

-- boot-ups that were awaited so far, in at least so many turns
pub record Waits {P : Type 0} (reads writes : ByteStep P) (asks : ClockStep P) (only : Option ℕ) (nodes : List ℕ) (limit began : ℕ) (p : P) (k : ℕ) (pending : List ℕ) (booted : List Bool) (q : P) : Type 0 where
  pub turns : List (ℕ × List ℕ)
  pub waits : Awaits reads writes asks only nodes limit began p turns booted q
  pub left : pending ≡ left_turns [] turns
  pub many : k ≤ length turns

module _ {P : Type 0} (reads writes : ByteStep P) (asks : ClockStep P) (only : Option ℕ) (nodes : List ℕ) (limit began : ℕ) (p : P) where
  pub waits_first : (k : ℕ) (pending : List ℕ) (booted : List Bool) (m q : P) (frame : Message) → asks p began m → frame ≡ reset_of only → DidAll reads writes asks m (Sent frame ∷ []) q → pending ≡ [] → booted ≡ nobody → k ≡ 0
      → Waits reads writes asks only nodes limit began p k pending booted q
  waits_first k pending booted m q frame asked is sent ep eb ek =
      record { turns = []; waits = record { did = (m, asked, subst (λ f. DidAll reads writes asks m (Sent f ∷ []) q) is sent); each = tt; noted_are = eb }; left = ep; many = omega (arith, ek) }

  pub waits_on : (k : ℕ) (pending left : List ℕ) (booted more : List Bool) (q a r : P) (now : ℕ) (bytes : List ℕ) → Waits reads writes asks only nodes limit began p k pending booted q → have_booted booted nodes ≡ false
      → asks q now a → reads a bytes r → now - began < limit → left ≡ left_from pending bytes → more ≡ noted booted (said_from pending bytes) → Waits reads writes asks only nodes limit began p (k + 1) left more r
  waits_on k pending left booted more q a r now bytes h out asked got early el em = record {
    turns = h.turns ++ (now, bytes) ∷ [];
    waits = record {
      did = subst (λ log. DidAll reads writes asks p (Asked began ∷ Sent (reset_of only) ∷ log) r) (sym (log_more h.turns now bytes))
          (did_both reads writes asks p q r (Asked began ∷ Sent (reset_of only) ∷ listening_log h.turns) (Asked now ∷ Read bytes ∷ []) h.waits.did (a, asked, (r, got, refl)));
      each = awaited_more nodes limit began [] nobody h.turns now bytes h.waits.each (ap (λ (b : List Bool). have_booted b nodes) (sym h.waits.noted_are) ∙ out) early;
      noted_are = em ∙ ap (λ (l : List ℕ). noted booted (said_from l bytes)) h.left ∙ ap (λ (b : List Bool). noted b (said_from (left_turns [] h.turns) bytes)) h.waits.noted_are
          ∙ sym (booted_more [] nobody h.turns now bytes);
    };
    left = el ∙ ap (λ (l : List ℕ). left_from l bytes) h.left ∙ sym (left_more [] h.turns now bytes);
    many = one_longer k h.turns (now, bytes) h.many;
  }

  pub all_awoke : (k : ℕ) (pending : List ℕ) (booted : List Bool) (q : P) → Waits reads writes asks only nodes limit began p k pending booted q → have_booted booted nodes ≡ true → Awoke reads writes asks only nodes limit p booted q
  all_awoke k pending booted q h all = inl (began, h.turns, h.waits, all)

  pub time_is_over : (k : ℕ) (pending : List ℕ) (booted : List Bool) (q r : P) (now : ℕ) → Waits reads writes asks only nodes limit began p k pending booted q → have_booted booted nodes ≡ false → asks q now r → limit ≤ now - began
      → Awoke reads writes asks only nodes limit p booted r
  time_is_over k pending booted q r now h out asked late = inr (began, h.turns, q, now, h.waits, out, asked, late)
