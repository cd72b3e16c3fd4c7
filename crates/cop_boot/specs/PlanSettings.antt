-- When a dictionary admits what a plan sets in it.
use Rattle.std.specs.Prelude.{◌≡◌, ℕ, true, List, Contains, Option, Some}
use Rattle.cop_dict.specs.Find.{Entry, unsigned32_of, IsSorted}
use Rattle.cop_dict.specs.Pdo.{is_cob_id, exists_by}
use Rattle.cop_net.specs.Settings.{takes, goes_off, beats}

-- each PDO that is used can be switched off and then on with its identifier, each other that exists can be switched off, and the
-- heartbeat can have its time
pub record Admits (dict : List Entry) (ids : ℕ → Option ℕ) (time : ℕ) : Type 0 where
  pub sorted : IsSorted dict
  pub used : (e : Entry) (cob_id id : ℕ) → Contains dict e → is_cob_id e ≡ true → unsigned32_of e ≡ Some cob_id → ids e.index ≡ Some id → takes dict e.index cob_id id ≡ true
  pub unused : (e : Entry) (cob_id : ℕ) → Contains dict e → is_cob_id e ≡ true → unsigned32_of e ≡ Some cob_id → exists_by cob_id ≡ true → goes_off dict e.index cob_id ≡ true
  pub beats : beats dict time ≡ true
