-- The transfer of one value over a port, by a client of one node: request by request, each awaiting its answer.
use Rattle.std.specs.Prelude.{◌≡◌, ◌≤◌, ◌⊎◌, ℕ, List, [], ◌∷◌, length, Some, None}
use Rattle.cop_sdo.specs.Message.{Message, message_of}
use Rattle.cop_sdo.specs.Outcome as progress
use Rattle.cop_sdo.specs.Outcome.{Outcome}
use Rattle.cop_sdo.specs.Client.{Calling}
use Rattle.cop_sdo.specs.Calls.{MayCall, expiring}
use Rattle.cop_live.specs.Log.{ByteStep, ClockStep, Sent, DidAll, BrokeOff}
use Rattle.cop_transfer.specs.declared.carrying.End.{End}
use Rattle.cop_transfer.specs.declared.carrying.End.TheVariants as ends
use Rattle.cop_transfer.specs.declared.carrying.Heard.{Heard}
use Rattle.cop_transfer.specs.declared.carrying.Heard.TheVariants as heard
use Rattle.cop_transfer.specs.Exchanging.{WasExchanged, ExchangeFails}

-- a client, and the request that it sends
pub record Asking : Type 0 where
  pub client : Calling
  pub request : Message

-- a client may hear an answer, and this comes of it
abbrev pub Hears : Calling → Message → Outcome → Calling → Type 0
Hears client answer outcome later = MayCall client answer (record { client = later; progress = outcome })

-- a frame is sent, and nothing else done
abbrev pub Sends : {P : Type 0} → ByteStep P → ByteStep P → ClockStep P → P → Message → P → Type 0
Sends reads writes asks p frame q = DidAll reads writes asks p (Sent frame ∷ []) q

abbrev pub SendFails : {P : Type 0} → ByteStep P → ByteStep P → ClockStep P → ByteStep P → P → Message → P → Type 0
SendFails reads writes asks fails p frame q = BrokeOff reads writes asks fails p (Sent frame ∷ []) q

-- an answer ends a transfer: the client has all, or hears the node's abort, or sends one of its own
abbrev pub Concludes : {P : Type 0} → ByteStep P → ByteStep P → ClockStep P → Calling → Message → P → End → Calling → P → Type 0
Concludes reads writes asks client answer p ends.Done later q = Hears client answer progress.Done later × (p ≡ q)
Concludes reads writes asks client answer p (ends.Refused code) later q = Hears client answer (progress.Aborted code) later × (p ≡ q)
Concludes reads writes asks client answer p (ends.GivenUp code) later q = (abort : Message) × Hears client answer (progress.Ended abort code) later × Sends reads writes asks p abort q
Concludes reads writes asks client answer p ends.Silent later q = ⊥

-- what an answer leads to: another request, or the end
abbrev pub Takes : {P : Type 0} → ByteStep P → ByteStep P → ClockStep P → Calling → Message → P → Heard → Calling → P → Type 0
Takes reads writes asks client answer p (heard.Asks request) later q = Hears client answer (progress.Send (message_of request)) later × (p ≡ q)
Takes reads writes asks client answer p (heard.Ends end) later q = Concludes reads writes asks client answer p end later q

-- the client's own abort was not sent
abbrev pub TakeFails : {P : Type 0} → ByteStep P → ByteStep P → ClockStep P → ByteStep P → Calling → Message → P → P → Type 0
TakeFails reads writes asks fails client answer p q =
    (abort : Message) × (code : ℕ) × (later : Calling) × Hears client answer (progress.Ended abort code) later × SendFails reads writes asks fails p abort q

-- the client gives up, and tells the node so by an abort
abbrev pub Expires : {P : Type 0} → ByteStep P → ByteStep P → ClockStep P → Calling → P → Calling → P → Type 0
Expires reads writes asks client p later q = (abort : Message) × ((Some abort, later) ≡ expiring client) × Sends reads writes asks p abort q

abbrev pub ExpireFails : {P : Type 0} → ByteStep P → ByteStep P → ClockStep P → ByteStep P → Calling → P → P → Type 0
ExpireFails reads writes asks fails client p q = (abort : Message) × (later : Calling) × ((Some abort, later) ≡ expiring client) × SendFails reads writes asks fails p abort q

-- a request is sent, and answered in time
abbrev pub IsAnswered : {P : Type 0} → ByteStep P → ByteStep P → ClockStep P → ℕ → Asking → P → Message → P → Type 0
IsAnswered reads writes asks limit asking p answer q = WasExchanged reads writes asks asking.client.node limit asking.request p (Some answer) q

abbrev pub IsUnanswered : {P : Type 0} → ByteStep P → ByteStep P → ClockStep P → ℕ → Asking → P → P → Type 0
IsUnanswered reads writes asks limit asking p q = WasExchanged reads writes asks asking.client.node limit asking.request p None q

-- a transfer goes on, by as many requests: each is answered, and the client sends the next one
abbrev pub Goes : {P : Type 0} → ByteStep P → ByteStep P → ClockStep P → ℕ → Asking → P → List Asking → Asking → P → Type 0
Goes reads writes asks limit asking p [] last q = (last ≡ asking) × (p ≡ q)
Goes {P} reads writes asks limit asking p (next ∷ rest) last q =
    (answer : Message) × (m : P) × IsAnswered reads writes asks limit asking p answer m × Hears asking.client answer (progress.Send next.request) next.client × Goes reads writes asks limit next m rest last q

-- the last request is answered, and the answer ends the transfer; or no answer comes in time
abbrev pub Ends : {P : Type 0} → ByteStep P → ByteStep P → ClockStep P → ℕ → Asking → P → End → Calling → P → Type 0
Ends {P} reads writes asks limit asking p end later q =
    ((answer : Message) × (m : P) × IsAnswered reads writes asks limit asking p answer m × Concludes reads writes asks asking.client answer m end later q)
    ⊎ ((end ≡ ends.Silent) × ((m : P) × IsUnanswered reads writes asks limit asking p m × Expires reads writes asks asking.client m later q))

-- a transfer goes on, and ends: nothing else is done at the port
pub record IsCarried {P : Type 0} (reads writes : ByteStep P) (asks : ClockStep P) (limit : ℕ) (first : Asking) (p : P) (end : End) (later : Calling) (q : P) : Type 0 where
  pub steps : List Asking
  pub last : Asking
  pub between : P
  pub goes : Goes reads writes asks limit first p steps last between
  pub end_so : Ends reads writes asks limit last between end later q

-- the last request gives out, or the abort that ends the transfer
abbrev pub LastFails : {P : Type 0} → ByteStep P → ByteStep P → ClockStep P → ByteStep P → ℕ → Asking → P → P → Type 0
LastFails {P} reads writes asks fails limit asking p q =
    ExchangeFails reads writes asks fails asking.request p q
    ⊎ (((answer : Message) × (m : P) × IsAnswered reads writes asks limit asking p answer m × TakeFails reads writes asks fails asking.client answer m q)
    ⊎ ((m : P) × IsUnanswered reads writes asks limit asking p m × ExpireFails reads writes asks fails asking.client m q))

-- a transfer goes on, and gives out; or it has so many requests (2 ^ 64 - 1) that no more are sent
abbrev pub CarryFails : {P : Type 0} → ByteStep P → ByteStep P → ClockStep P → ByteStep P → ℕ → Asking → P → P → Type 0
CarryFails {P} reads writes asks fails limit first p q =
    (steps : List Asking) × (last : Asking) × (m : P) × Goes reads writes asks limit first p steps last m × (LastFails reads writes asks fails limit last m q ⊎ ((m ≡ q) × (18446744073709551615 ≤ length steps)))
