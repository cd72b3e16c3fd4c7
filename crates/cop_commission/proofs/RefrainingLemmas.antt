-- Sessions in which no frame is sent, by what was found of the bus.
use Rattle.std.proofs.Common.{◌≡◌, ℕ, List, Bool, true, false, Option, refl, subst}
use Rattle.cop_frame.specs.declared.rates.Rate.{Rate}
use Rattle.cop_identity.specs.declared.questions.Question.{Question}
use Rattle.cop_live.specs.Log.{ByteStep, ClockStep}
use Rattle.cop_live.specs.declared.listening.Sender.{Sender}
use Rattle.cop_live.specs.declared.listening.Runner.{Runner}
use Rattle.cop_live.specs.declared.listening.Found.{Found}
use Rattle.cop_live.specs.declared.listening.Found.TheVariants as found
use Rattle.cop_live.specs.Approach.{Approached, Looked}
use Rattle.cop_commission.specs.declared.sessions.Session.{Session}
use Rattle.cop_commission.specs.declared.sessions.Session.TheVariants as sessions
use Rattle.cop_commission.specs.Sessions.{Way, IsApproached, Refrains, IsSession}

-- a bus that is taken over is not listened to
runs_alone : {P : Type 0} (reads writes : ByteStep P) (asks : ClockStep P) (rate : Rate) (senders : List Sender) (only : Option ℕ) (b : Bool) (p q : P) (runner : Runner)
    → Approached reads writes asks rate senders only b p (found.Running runner) q → (b ≡ false) × Looked reads writes asks rate senders only p (found.Running runner) q
runs_alone reads writes asks rate senders only true p q runner h = absurd h
runs_alone reads writes asks rate senders only false p q runner h = (refl, h)

garbled_alone : {P : Type 0} (reads writes : ByteStep P) (asks : ClockStep P) (rate : Rate) (senders : List Sender) (only : Option ℕ) (b : Bool) (p q : P) (lines : ℕ)
    → Approached reads writes asks rate senders only b p (found.Garbled lines) q → (b ≡ false) × Looked reads writes asks rate senders only p (found.Garbled lines) q
garbled_alone reads writes asks rate senders only true p q lines h = absurd h
garbled_alone reads writes asks rate senders only false p q lines h = (refl, h)

errs_alone : {P : Type 0} (reads writes : ByteStep P) (asks : ClockStep P) (rate : Rate) (senders : List Sender) (only : Option ℕ) (b : Bool) (p q : P) (flags : ℕ)
    → Approached reads writes asks rate senders only b p (found.Erroneous flags) q → (b ≡ false) × Looked reads writes asks rate senders only p (found.Erroneous flags) q
errs_alone reads writes asks rate senders only true p q flags h = absurd h
errs_alone reads writes asks rate senders only false p q flags h = (refl, h)

pub refrained_so : {P : Type 0} (reads writes : ByteStep P) (asks : ClockStep P) (own way : Way) (nodes : List ℕ) (questions restores offs : List Question) (f : Found) (p heard q : P) (session : Session)
    → own ≡ way → IsApproached reads writes asks own p f heard → Refrains reads writes f heard session q → IsSession reads writes asks way nodes questions restores offs p q session
refrained_so reads writes asks own way nodes questions restores offs f p heard q (sessions.Told told) e a r = absurd r
refrained_so reads writes asks own way nodes questions restores offs f p heard q (sessions.Running runner) e a r =
    let h : IsApproached reads writes asks way p (found.Running runner) heard = subst (λ w. IsApproached reads writes asks w p (found.Running runner) heard) e (subst (λ f. IsApproached reads writes asks own p f heard) r.0 a) in
    let so = runs_alone reads writes asks way.rate way.senders way.reach.only way.take_over p heard runner h in
    record { heard = heard; left_alone = so.0; looks = so.1; closes = r.1 }
refrained_so reads writes asks own way nodes questions restores offs f p heard q (sessions.Garbled lines) e a r =
    let h : IsApproached reads writes asks way p (found.Garbled lines) heard = subst (λ w. IsApproached reads writes asks w p (found.Garbled lines) heard) e (subst (λ f. IsApproached reads writes asks own p f heard) r.0 a) in
    let so = garbled_alone reads writes asks way.rate way.senders way.reach.only way.take_over p heard lines h in
    record { heard = heard; left_alone = so.0; looks = so.1; closes = r.1 }
refrained_so reads writes asks own way nodes questions restores offs f p heard q (sessions.Erroneous flags) e a r =
    let h : IsApproached reads writes asks way p (found.Erroneous flags) heard = subst (λ w. IsApproached reads writes asks w p (found.Erroneous flags) heard) e (subst (λ f. IsApproached reads writes asks own p f heard) r.0 a) in
    let so = errs_alone reads writes asks way.rate way.senders way.reach.only way.take_over p heard flags h in
    record { heard = heard; left_alone = so.0; looks = so.1; closes = r.1 }
refrained_so reads writes asks own way nodes questions restores offs f p heard q (sessions.Unopened command) e a r =
    let h : IsApproached reads writes asks way p (found.Refused command) heard = subst (λ w. IsApproached reads writes asks w p (found.Refused command) heard) e (subst (λ f. IsApproached reads writes asks own p f heard) r.0 a) in
    record { refused = heard; approaches = h; closes = r.1 }
refrained_so reads writes asks own way nodes questions restores offs f p heard q (sessions.Others all) e a r = absurd r
refrained_so reads writes asks own way nodes questions restores offs f p heard q (sessions.Unrestored all) e a r = absurd r
refrained_so reads writes asks own way nodes questions restores offs f p heard q sessions.Failed e a r = tt
