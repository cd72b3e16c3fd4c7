-- A client and a server of one node, with a download and its answer delivered in order.
use Rattle.std.specs.Prelude.{ℕ, ◌≡◌, List, Some, Ok}
use Rattle.cop_dict.specs.Find.{Entry}
use Rattle.cop_sdo.specs.declared.address.Address.{Address}
use Rattle.cop_sdo.specs.Message.{Message}
use Rattle.cop_sdo.specs.Client.{Calling, Called}
use Rattle.cop_sdo.specs.Calls.{Started, downloading, MayCall}
use Rattle.cop_sdo.specs.Serve.{Serving, Served, MayServe}

-- the client begins a download, the server hears its frame, and the client the answer
pub record Exchanges (client : Calling) (server : Serving) (dict : List Entry) (at : Address) (bytes : List ℕ) (served : Served) (after : Called) : Type 0 where
  pub started : Started
  pub answer : Message
  pub begins : downloading client at bytes ≡ Ok started
  pub serves : MayServe server dict started.frame served
  pub answered : served.answer ≡ Some answer
  pub calls : MayCall started.client answer after
