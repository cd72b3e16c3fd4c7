-- What contracts see of a session, and what its calls give.
use Rattle.std.specs.Prelude.{ℕ, ◌≡◌, List, Option, Result, Ok, Err}
use Rattle.cop_dict.specs.declared.abort.Abort.{Abort}
use Rattle.cop_dict.specs.declared.abort.Abort.TheVariants as aborts
use Rattle.cop_dict.specs.Find.{Entry}
use Rattle.cop_sdo.specs.declared.session.Session.{Session}
use Rattle.cop_sdo.specs.Server.{State, Moved}

abbrev pub state_of : Session → State
state_of s = record { transfer = s.transfer; bytes = s.bytes.items }

-- an abort for want of memory says nothing of the outcome, and any other is the outcome's
abbrev pub Aborts : Abort → Result Moved Abort → Type 0
Aborts aborts.NoMemory outcome = Unit {0}
Aborts abort outcome = outcome ≡ Err abort

-- what a call gave and left is the outcome; an abort leaves the dictionary as it was
abbrev pub Does : Result (Option (List ℕ)) Abort → Session → List Entry → List Entry → Result Moved Abort → Type 0
Does (Ok answer) session old new outcome = outcome ≡ Ok (record { state = state_of session; dict = new; answer = answer })
Does (Err abort) session old new outcome = Aborts abort outcome × (new ≡ old)

-- what a call gave and left is the outcome
abbrev pub DoesExactly : Result (Option (List ℕ)) Abort → Session → List Entry → List Entry → Result Moved Abort → Type 0
DoesExactly (Ok answer) session old new outcome = outcome ≡ Ok (record { state = state_of session; dict = new; answer = answer })
DoesExactly (Err abort) session old new outcome = (outcome ≡ Err abort) × (new ≡ old)
