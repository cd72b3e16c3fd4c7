-- What each number from 1 on gives, one more.
use Rattle.std.proofs.Common.{◌≡◌, ℕ, ◌+◌, List, [], ◌++◌, add-one, ap, refl}
use Rattle.cop_start.specs.declared.senders.Sender.{Sender}
use Rattle.cop_start.specs.declared.receivers.Receiver.{Receiver}
use Rattle.cop_start.specs.Senders.{each_to}

pub senders_more : (f : ℕ → List Sender) (n : ℕ) → each_to f (n + 1) ≡ each_to f n ++ f (n + 1)
unfolding each_to
senders_more f n = ap (each_to f) (add-one n)

pub senders_none : (f : ℕ → List Sender) → each_to f 0 ≡ []
unfolding each_to
senders_none f = refl

pub receivers_more : (f : ℕ → List Receiver) (n : ℕ) → each_to f (n + 1) ≡ each_to f n ++ f (n + 1)
unfolding each_to
receivers_more f n = ap (each_to f) (add-one n)

pub receivers_none : (f : ℕ → List Receiver) → each_to f 0 ≡ []
unfolding each_to
receivers_none f = refl
