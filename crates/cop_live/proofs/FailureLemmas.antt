-- Turns in which it is listened give out.
use Rattle.std.proofs.Common.{◌≡◌, ℕ, ◌≤◌, List, [], ◌∷◌, ◌++◌, length, sym, ap, subst, arith, append_assoc, ◌∙◌, inl, inr}
use Rattle.std.proofs.Common.{Bool, Option}
use Rattle.cop_sdo.specs.Message.{Message}
use Rattle.cop_live.specs.declared.listening.Sender.{Sender}
use Rattle.cop_live.specs.declared.listening.Tally.{Tally}
use Rattle.cop_live.specs.Log.{ByteStep, ClockStep, Doing, Asked, Sent, Read, DidAll, BrokeOff, GaveUp}
use Rattle.cop_live.specs.Listening.{listening_log, ListenFails}
use Rattle.cop_live.specs.Session.{reset_of}
use Rattle.cop_live.specs.Awaiting.{AwaitFails}
use Rattle.cop_live.proofs.Sessions.{did_then_broke}
use Rattle.cop_live.proofs.ListeningLemmas.{log_more, Hears}
use Rattle.cop_live.proofs.AwaitingLemmas.{Waits}

-- behind what was done first
module _ {P : Type 0} (reads writes : ByteStep P) (asks : ClockStep P) (fails : ByteStep P) (head : List Doing) (p : P) where
  abbrev Gives : P → Type 0
  Gives r = (turns : List (ℕ × List ℕ)) × GaveUp reads writes asks fails turns p (head ++ listening_log turns) r

  turn_off : (turns : List (ℕ × List ℕ)) (q r : P) (now : ℕ) (bytes : List ℕ) → DidAll reads writes asks p (head ++ listening_log turns) q → BrokeOff reads writes asks fails q (Asked now ∷ Read bytes ∷ []) r → Gives r
  turn_off turns q r now bytes did h =
      let log : head ++ listening_log (turns ++ (now, bytes) ∷ []) ≡ (head ++ listening_log turns) ++ Asked now ∷ Read bytes ∷ [] =
      ap (λ l. head ++ l) (log_more turns now bytes) ∙ sym (append_assoc head (listening_log turns) (Asked now ∷ Read bytes ∷ [])) in
      (turns ++ (now, bytes) ∷ [], inl (subst (λ l. BrokeOff reads writes asks fails p l r) (sym log) (did_then_broke reads writes asks fails p q r (head ++ listening_log turns) (Asked now ∷ Read bytes ∷ []) did h)))

  pub clock_failed : (turns : List (ℕ × List ℕ)) (q r : P) → DidAll reads writes asks p (head ++ listening_log turns) q → fails q [] r → Gives r
  clock_failed turns q r did f = turn_off turns q r 0 [] did (inl f)

  pub read_failed : (turns : List (ℕ × List ℕ)) (q a r : P) (now : ℕ) → DidAll reads writes asks p (head ++ listening_log turns) q → asks q now a → fails a [] r → Gives r
  read_failed turns q a r now did asked f = turn_off turns q r now [] did (inr (a, asked, inl f))

  pub too_many : (turns : List (ℕ × List ℕ)) (k : ℕ) (q : P) → DidAll reads writes asks p (head ++ listening_log turns) q → k ≤ length turns → 18446744073709551615 ≤ k → Gives q
  too_many turns k q did many enough = (turns, inr (did, omega (arith, many, enough)))

-- it is listened
module _ {P : Type 0} (reads writes : ByteStep P) (asks : ClockStep P) (fails : ByteStep P) (senders : List Sender) (only : Option ℕ) (began : ℕ) (p : P) where
  abbrev Lost : P → Type 0
  Lost r = ListenFails reads writes asks fails p r

  pub listen_unbegun : (r : P) → fails p [] r → Lost r
  listen_unbegun r f = (0, [], inl (inl f))

  pub listen_unasked : (k : ℕ) (pending : List ℕ) (tally : Tally) (q r : P) → Hears reads writes asks senders only began p k pending tally q → fails q [] r → Lost r
  listen_unasked k pending tally q r h f = let x = clock_failed reads writes asks fails (Asked began ∷ []) p h.turns q r h.listens.did f in (began, x.0, x.1)

  pub listen_unread : (k : ℕ) (pending : List ℕ) (tally : Tally) (q a r : P) (now : ℕ) → Hears reads writes asks senders only began p k pending tally q → asks q now a → fails a [] r → Lost r
  listen_unread k pending tally q a r now h asked f = let x = read_failed reads writes asks fails (Asked began ∷ []) p h.turns q a r now h.listens.did asked f in (began, x.0, x.1)

  pub listen_too_long : (k : ℕ) (pending : List ℕ) (tally : Tally) (q : P) → Hears reads writes asks senders only began p k pending tally q → 18446744073709551615 ≤ k → Lost q
  listen_too_long k pending tally q h enough = let x = too_many reads writes asks fails (Asked began ∷ []) p h.turns k q h.listens.did h.many enough in (began, x.0, x.1)

-- boot-ups are awaited
module _ {P : Type 0} (reads writes : ByteStep P) (asks : ClockStep P) (fails : ByteStep P) (only : Option ℕ) (nodes : List ℕ) (limit began : ℕ) (p : P) where
  abbrev Missed : P → Type 0
  Missed r = AwaitFails reads writes asks fails only p r

  pub await_unbegun : (r : P) → fails p [] r → Missed r
  await_unbegun r f = (0, [], inl (inl f))

  pub await_unsent : (m r : P) (frame : Message) → asks p began m → frame ≡ reset_of only → BrokeOff reads writes asks fails m (Sent frame ∷ []) r → Missed r
  await_unsent m r frame asked is h = (began, [], inl (inr (m, asked, subst (λ f. BrokeOff reads writes asks fails m (Sent f ∷ []) r) is h)))

  pub await_unasked : (k : ℕ) (pending : List ℕ) (booted : List Bool) (q r : P) → Waits reads writes asks only nodes limit began p k pending booted q → fails q [] r → Missed r
  await_unasked k pending booted q r h f = let x = clock_failed reads writes asks fails (Asked began ∷ Sent (reset_of only) ∷ []) p h.turns q r h.waits.did f in (began, x.0, x.1)

  pub await_unread : (k : ℕ) (pending : List ℕ) (booted : List Bool) (q a r : P) (now : ℕ) → Waits reads writes asks only nodes limit began p k pending booted q → asks q now a → fails a [] r → Missed r
  await_unread k pending booted q a r now h asked f = let x = read_failed reads writes asks fails (Asked began ∷ Sent (reset_of only) ∷ []) p h.turns q a r now h.waits.did asked f in (began, x.0, x.1)

  pub await_too_long : (k : ℕ) (pending : List ℕ) (booted : List Bool) (q : P) → Waits reads writes asks only nodes limit began p k pending booted q → 18446744073709551615 ≤ k → Missed q
  await_too_long k pending booted q h enough = let x = too_many reads writes asks fails (Asked began ∷ Sent (reset_of only) ∷ []) p h.turns k q h.waits.did h.many enough in (began, x.0, x.1)
