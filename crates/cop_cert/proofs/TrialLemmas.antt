-- The flagged streams of a trial share one busy equation, so a list of it serves them all.
use Rattle.std.specs.declared.alloc.AllocError.{AllocError}
use Rattle.std.proofs.Common.{◌≡◌, ℕ, ◌<◌, length, true, sym, ◌∙◌, subst, List, Result, Ok, Err, IfOk, Option, Some, None}
use Rattle.cop_rta.specs.Test.{is_flagged, busy_at, horizon}
use Rattle.cop_rta.specs.Placing.{Flags, place_in}
use Rattle.cop_rta.proofs.PlaceEquations.{busy_is}
use Rattle.cop_cert.specs.Chains.{IsWholeChain}
use Rattle.cop_cert.specs.Evidence.{IsClimb, IsBusyList, IsBusyEnd}

module _ (v : Flags) (k m : ℕ) (inside : k < length v.streams) (flag : is_flagged v.flags k ≡ true) (inside_too : m < length v.streams) (flag_too : is_flagged v.flags m ≡ true) where
  one_busy_equation : busy_at (place_in v k) ≡ busy_at (place_in v m)
  one_busy_equation = λ i t. (busy_is v k inside flag t ∙ sym (busy_is v m inside_too flag_too t)) i

  one_busy_list : (numbers : List ℕ) → IsBusyList (place_in v k) numbers → IsBusyList (place_in v m) numbers
  one_busy_list numbers list = record { climbs = subst (λ (f : ℕ → ℕ). IsClimb f numbers) one_busy_equation list.climbs; begins = list.begins }

-- where a list ends for one, it ends for each
pub end_for_each : (v : Flags) (k : ℕ) → k < length v.streams → is_flagged v.flags k ≡ true → (numbers : List ℕ) (end : Option ℕ) → IsBusyEnd (place_in v k) numbers end
    → (m : ℕ) → m < length v.streams → is_flagged v.flags m ≡ true → IsBusyEnd (place_in v m) numbers end
end_for_each v k inside flag numbers None none m inside_too flag_too = λ list. none (one_busy_list v m k inside_too flag_too inside flag numbers list)
end_for_each v k inside flag numbers (Some last) some m inside_too flag_too = (one_busy_list v k m inside flag inside_too flag_too numbers some.0, some.1)

-- a whole chain for one is one for each
pub chain_for_each : (v : Flags) (k : ℕ) → k < length v.streams → is_flagged v.flags k ≡ true → (r : Result (List ℕ) AllocError) → IfOk r (IsWholeChain (busy_at (place_in v k)) 1 horizon)
    → IfOk r (λ numbers. (m : ℕ) → m < length v.streams → is_flagged v.flags m ≡ true → IsWholeChain (busy_at (place_in v m)) 1 horizon numbers)
chain_for_each v k inside flag (Ok numbers) whole = λ m inside_too flag_too.
    subst (λ (f : ℕ → ℕ). IsWholeChain f 1 horizon numbers) (one_busy_equation v k m inside flag inside_too flag_too) whole
chain_for_each v k inside flag (Err e) whole = tt
