-- A number for which something holds, and a next one for which it does not, are a limit.
use Rattle.std.proofs.Common.{◌≡◌, ℕ, ◌+◌, ◌-◌, ◌≤◌, List, length, arith}
use Rattle.cop_frame.specs.declared.rates.Rate.{Rate}
use Rattle.cop_rta.specs.declared.streams.Stream.{Stream}
use Rattle.cop_rta.specs.Entries.{Entry}
use Rattle.cop_room.specs.Harder.{AreHarder}
use Rattle.cop_room.specs.Changes.{IsHarderChange}
use Rattle.cop_room.specs.Keeping.{AllStillPass, CanBePlanned, GetHarderUp, GetHarderDown, Holds, Fails, IsGreatestLimit, IsLeastLimit, EndsAbove, EndsBelow}
use Rattle.cop_room.proofs.ChangeLemmas.{changed_harder}
use Rattle.cop_room.proofs.Assigned.{plan_passes, can_be_planned}

-- what holds of streams as many as these holds of those that ask no more
abbrev pub Falls : (List Stream → Type 0) → List Stream → Type 0
Falls P streams = (a b : List Stream) → AreHarder a b → length streams ≡ length a → P b → P a

module _ (P : List Stream → Type 0) (change : ℕ → ℕ → Entry → Entry) (streams : List Stream) (falls : Falls P streams) where
  -- where it fails, it fails where more is asked
  pub no_harder : (x y : ℕ) → IsHarderChange (change x) (change y) → Fails P (change x) streams → Holds P (change y) streams → ⊥
  no_harder x y h fails holds =
      fails.fails (falls fails.changed holds.changed (changed_harder (change x) (change y) streams fails.changed holds.changed h fails.are_changed holds.are_changed) fails.are_changed.as_many holds.holds)

  pub greatest_limit : (most x : ℕ) → GetHarderUp change → EndsAbove P change streams most x → IsGreatestLimit P change streams most x
  greatest_limit most x up ends = record {
    within = ends.within;
    holds = ends.holds;
    no_further = λ y more high there. no_harder (x + 1) y (up (x + 1) y (omega (arith, more))) (ends.next (omega (arith, more, high))) there;
  }

  pub least_limit : (least x : ℕ) → GetHarderDown change → EndsBelow P change streams least x → IsLeastLimit P change streams least x
  least_limit least x down ends = record {
    within = ends.within;
    holds = ends.holds;
    no_further = λ y low less there. no_harder (x - 1) y (down y (x - 1) (omega (arith, less))) (ends.next (omega (arith, low, less))) there;
  }

module _ (change : ℕ → ℕ → Entry → Entry) (rate : Rate) (streams : List Stream) (pdos : ℕ) where
  pub kept_falls : pdos ≤ length streams → Falls (AllStillPass rate pdos) streams
  kept_falls count a b h n all = plan_passes a b rate pdos h (omega (arith, n, count)) all

  pub anew_falls : pdos ≤ length streams → Falls (CanBePlanned rate pdos) streams
  anew_falls count a b h n can = can_be_planned rate a b pdos h (omega (arith, n, count)) can

  pub greatest_kept : (most x : ℕ) → GetHarderUp change → pdos ≤ length streams → EndsAbove (AllStillPass rate pdos) change streams most x → IsGreatestLimit (AllStillPass rate pdos) change streams most x
  greatest_kept most x up count ends = greatest_limit (AllStillPass rate pdos) change streams (kept_falls count) most x up ends

  pub least_kept : (least x : ℕ) → GetHarderDown change → pdos ≤ length streams → EndsBelow (AllStillPass rate pdos) change streams least x → IsLeastLimit (AllStillPass rate pdos) change streams least x
  least_kept least x down count ends = least_limit (AllStillPass rate pdos) change streams (kept_falls count) least x down ends

  pub greatest_anew : (most x : ℕ) → GetHarderUp change → pdos ≤ length streams → EndsAbove (CanBePlanned rate pdos) change streams most x → IsGreatestLimit (CanBePlanned rate pdos) change streams most x
  greatest_anew most x up count ends = greatest_limit (CanBePlanned rate pdos) change streams (anew_falls count) most x up ends

  pub least_anew : (least x : ℕ) → GetHarderDown change → pdos ≤ length streams → EndsBelow (CanBePlanned rate pdos) change streams least x → IsLeastLimit (CanBePlanned rate pdos) change streams least x
  least_anew least x down count ends = least_limit (CanBePlanned rate pdos) change streams (anew_falls count) least x down ends
