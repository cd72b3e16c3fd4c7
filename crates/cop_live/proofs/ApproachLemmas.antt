-- What came of listening, and of what was done then.
use Rattle.std.proofs.Common.{◌≡◌, ℕ, List, Option, subst, inl, inr}
use Rattle.cop_frame.specs.declared.rates.Rate.{Rate}
use Rattle.cop_live.specs.Log.{ByteStep, ClockStep}
use Rattle.cop_live.specs.declared.listening.Sender.{Sender}
use Rattle.cop_live.specs.declared.listening.Found.{Found}
use Rattle.cop_live.specs.declared.listening.Found.TheVariants as founds
use Rattle.cop_live.specs.declared.opening.Reply.{Reply}
use Rattle.cop_live.specs.Opening.{Opened, OpenedToListen}
use Rattle.cop_live.specs.Flags.{FlagsAsked, error_in}
use Rattle.cop_live.specs.Listening.{Listened}
use Rattle.cop_live.specs.Approach.{HeardAgain, GoesOnBy, SoundsBy, Sounded, Sounds, unless_failed, Heard, Looked}

-- what holds, holds also where nothing is said of a failure
pub known : (f : Found) (claim : Type 0) → claim → unless_failed f claim
known founds.Nobody claim h = h
known founds.Silence claim h = h
known (founds.Running runner) claim h = h
known (founds.Garbled lines) claim h = h
known (founds.Erroneous flags) claim h = h
known (founds.Refused command) claim h = h
known founds.Failed claim h = tt

-- and what follows from it
follows : (f : Found) (a b : Type 0) → (a → b) → unless_failed f a → unless_failed f b
follows founds.Nobody a b so h = so h
follows founds.Silence a b so h = so h
follows (founds.Running runner) a b so h = so h
follows (founds.Garbled lines) a b so h = so h
follows (founds.Erroneous flags) a b so h = so h
follows (founds.Refused command) a b so h = so h
follows founds.Failed a b so h = tt

module _ {P : Type 0} (reads writes : ByteStep P) (asks : ClockStep P) (rate : Rate) (senders : List Sender) (only : Option ℕ) where
  pub again_so : (p opened q : P) (f : Found) → Opened reads writes rate p opened → Listened reads writes asks senders only opened f q → HeardAgain reads writes asks rate senders only p f q
  again_so p opened q founds.Nobody opens l = record { opened = opened; opens = opens; listens = l }
  again_so p opened q founds.Silence opens l = record { opened = opened; opens = opens; listens = l }
  again_so p opened q (founds.Running runner) opens l = record { opened = opened; opens = opens; listens = l }
  again_so p opened q (founds.Garbled lines) opens l = record { opened = opened; opens = opens; listens = l }
  again_so p opened q (founds.Erroneous flags) opens l = absurd l
  again_so p opened q (founds.Refused command) opens l = absurd l
  again_so p opened q founds.Failed opens l = tt

  pub sounds_so : (answer : Reply) (p told q : P) (flags error : Option ℕ) (f : Found) → FlagsAsked reads writes p flags told → error ≡ error_in flags → SoundsBy reads writes asks rate senders only answer error told f q
      → Sounds reads writes asks rate senders only answer p f q
  sounds_so answer p told q flags error f asked e by =
      known f (Sounded reads writes asks rate senders only answer p f q) (record { flags = flags; told = told; flags_asked = asked; goes_on = subst (λ (o : Option ℕ). SoundsBy reads writes asks rate senders only answer o told f q) e by })

  pub nobody_so : (answer : Reply) (p heard q : P) (f : Found) → Listened reads writes asks senders only p founds.Nobody heard → GoesOnBy reads writes asks rate senders only answer heard f q → Heard reads writes asks rate senders only answer p f q
  nobody_so answer p heard q f l g = known f _ (inr (inl (record { heard = heard; listens = l; goes_on = g })))

  pub nothing_so : (answer : Reply) (p heard q : P) (f : Found) → Listened reads writes asks senders only p founds.Silence heard → Sounds reads writes asks rate senders only answer heard f q → Heard reads writes asks rate senders only answer p f q
  nothing_so answer p heard q f l s = follows f _ _ (λ (h : Sounded reads writes asks rate senders only answer heard f q). inr (inr (record { heard = heard; listens = l; sounds = h }))) s

  pub looked_so : (answer : Reply) (p opened q : P) (f : Found) → OpenedToListen reads writes rate answer p opened → Heard reads writes asks rate senders only answer opened f q → Looked reads writes asks rate senders only p f q
  looked_so answer p opened q f opens h = follows f _ _ (λ h. inr (record { answer = answer; opened = opened; opens = opens; hears = h })) h
