-- Objects that were checked need not be checked again.
use Rattle.std.proofs.Common.{◌≡◌, ◌<◌, ◌-◌, ℕ, List, Option, Some, None, Result, Ok}
use Rattle.cop_eds.specs.declared.fault.EdsFault.{EdsFault}
use Rattle.cop_eds.specs.declared.fault.EdsFault.TheVariants.{Refused, Memory}
use Rattle.cop_eds.specs.declared.fault.Refusal.{Refusal}
use Rattle.cop_eds.specs.Lines.{Fails}
use Rattle.cop_eds.specs.Steps.{◌>>=◌, needed, items_from}
use Rattle.cop_eds.specs.Lists.{own_place, checked_object, IsSound}
use Rattle.cop_eds.proofs.StepsLemmas.{stops}

at_any_line : {A B : Type 0} (o : Option A) (f : A → Result B Refusal) (x : B) (line other : ℕ) → (needed line o >>= f) ≡ Ok x → (needed other o >>= f) ≡ Ok x
at_any_line None f x line other e = cc
at_any_line (Some a) f x line other e = e

-- an object that was checked keeps its rules, whichever line names it
pub sound : (text : List ℕ) (line index : ℕ) → checked_object text line index ≡ Ok tt → IsSound text index
unfolding checked_object
sound text line index e = λ other. at_any_line (own_place text index) _ tt line other e

-- what the next of a list fails by, the list does
pub fails : {A : Type 0} (next : List A → Result A Refusal) (found : List A) (count i : ℕ) (fault : EdsFault) (total : Result (List A) Refusal) → i < count
    → Fails fault (next found) → items_from next found (count - i) ≡ total → Fails fault total
fails next found count i Memory total lt h so_far = tt
fails next found count i (Refused r) total lt h so_far = stops next found count i r total lt h so_far
