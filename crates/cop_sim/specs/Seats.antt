-- Behaviours at their streams, each with its next offer at hand.
use Rattle.std.specs.Prelude.{◌≡◌, ℕ, ◌+◌, ◌≤◌, ◌<◌, ◌⊎◌, List, Option, None, Some, suc, length, map, get_or, slice_index_or, slice_get, nat_lt, ◌==◌, ◌&&◌, ◌||◌, Bool, true, false, if◌then◌else◌}
use Rattle.std.specs.Option.{option_and_then}
use Rattle.cop_rta.specs.declared.streams.Stream.{Stream}
use Rattle.cop_sim.specs.declared.behaviours.Offer.{Offer}
use Rattle.cop_sim.specs.declared.due.Due.{Due}
use Rattle.cop_sim.specs.declared.choosing.Sent.{Sent}
use Rattle.cop_sim.specs.declared.cues.Cue.{Cue}
use Rattle.cop_sim.specs.Cues.{answer_in, is_given}
use Rattle.cop_sim.specs.Play.{queued_at, by_end}
use Rattle.cop_bus.specs.Rings.{RingValue}
use Rattle.cop_bus.specs.declared.queues.First.{First}

-- the next offer of a stream comes before that of another: at one moment the lower identifier first
abbrev pub ComesFirst : ℕ → Offer → ℕ → Offer → Type 0
ComesFirst id o id' p = (queued_at o < queued_at p) ⊎ ((queued_at o ≡ queued_at p) × (id ≤ id'))

-- the offer at hand at a place, and the identifier of the stream there
abbrev pub next_at : List (Option Offer) → ℕ → Option Offer
next_at next i = slice_index_or next i None

abbrev pub id_at : List Stream → ℕ → ℕ
id_at streams i = get_or (map (λ k. k.id) streams) i 0

-- the offer at hand there comes before those at the first n places
pub record IsDueTo (streams : List Stream) (next : List (Option Offer)) (n : ℕ) (d : Due) : Type 0 where
  pub here : next_at next d.place ≡ Some d.offer
  pub within : d.place < length next
  pub its : id_at streams d.place ≡ d.id
  pub first : (j : ℕ) (p : Offer) → j < n → next_at next j ≡ Some p → ComesFirst d.id d.offer (id_at streams j) p

abbrev pub IsDueSoFar : List Stream → List (Option Offer) → ℕ → Option Due → Type 0
IsDueSoFar streams next n None = (j : ℕ) → j < n → next_at next j ≡ None
IsDueSoFar streams next n (Some d) = IsDueTo streams next n d

-- the first stream of which an instance waits is sent
abbrev pub sent_first : Option First → Option Sent
sent_first None = None
sent_first (Some f) = Some (record { place = f.place; id = f.id })

-- the first offer at hand, if there is one, is queued before a moment
abbrev pub is_due_before : Option Due → ℕ → Bool
is_due_before None m = false
is_due_before (Some d) m = nat_lt (queued_at d.offer) m

-- what a behaviour b answers to a cue after the offer before, as far as it is queued by the end
abbrev pub answer_of : {B : Type 0} → (B → ℕ → Option Offer) → ℕ → Cue → Option Offer → B → Option Offer
answer_of offer until cue before b = option_and_then (by_end until) (answer_in cue before (offer b 0))

-- a behaviour after it was asked
pub record IsAsked {B : Type 0} (offer : B → ℕ → Option Offer) (agrees : B → ℕ → ℕ → Bool) (b c : B) : Type 0 where
  pub rest : (k : ℕ) → offer c k ≡ offer b (suc k)
  pub same : (z u : ℕ) → agrees c z u ≡ agrees b z u

-- it is asked once, unless what it waits for has not come
abbrev pub asks : Cue → ℕ
asks cue = if is_given cue then 1 else 0

pub record IsCued {B : Type 0} (offer : B → ℕ → Option Offer) (agrees : B → ℕ → ℕ → Bool) (cue : Cue) (b c : B) : Type 0 where
  pub rest : (k : ℕ) → offer c k ≡ offer b (asks cue + k)
  pub same : (z u : ℕ) → agrees c z u ≡ agrees b z u

-- an offer joins the start at z: no instance of its stream waits, it is queued less than a bit time later, and its
-- behaviour says so
abbrev pub joins_with : (ℕ → ℕ → Bool) → ℕ → ℕ → ℕ → Option Offer → Bool
joins_with agrees tau z waiting None = false
joins_with agrees tau z waiting (Some o) = (waiting == 0) && nat_lt z (queued_at o) && nat_lt (queued_at o) (z + tau) && agrees z (queued_at o)

-- a stream may be sent at the start at z
abbrev pub may_be_sent : (ℕ → ℕ → Bool) → ℕ → ℕ → ℕ → Option Offer → Bool
may_be_sent agrees tau z waiting next = nat_lt 0 waiting || joins_with agrees tau z waiting next

-- what is known of a place of the lists
pub record IsPlaceOf {B : Type 0} (streams : List Stream) (rings : List RingValue) (behaviours : List B) (j : ℕ) (k : Stream) (r : RingValue) (b : B) : Type 0 where
  pub stream : slice_get streams j ≡ Some k
  pub ring : slice_get rings j ≡ Some r
  pub behaviour : slice_get behaviours j ≡ Some b

-- of the streams at the first n places that may be sent, the lowest
pub record IsChosen {B : Type 0} (agrees : B → ℕ → ℕ → Bool) (streams : List Stream) (next : List (Option Offer)) (rings : List RingValue) (behaviours : List B) (tau z n : ℕ) (s : Sent) : Type 0 where
  pub its : id_at streams s.place ≡ s.id
  pub within : s.place < length streams
  pub may : (k : Stream) (r : RingValue) (b : B) → IsPlaceOf streams rings behaviours s.place k r b → may_be_sent (agrees b) tau z (length r.waiting) (next_at next s.place) ≡ true
  pub lowest : (j : ℕ) (k : Stream) (r : RingValue) (b : B) → j < n → IsPlaceOf streams rings behaviours j k r b → may_be_sent (agrees b) tau z (length r.waiting) (next_at next j) ≡ true → s.id ≤ k.id

abbrev pub IsChosenSoFar : {B : Type 0} → (B → ℕ → ℕ → Bool) → List Stream → List (Option Offer) → List RingValue → List B → ℕ → ℕ → ℕ → Option Sent → Type 0
IsChosenSoFar {B} agrees streams next rings behaviours tau z n None = (j : ℕ) (k : Stream) (r : RingValue) (b : B) → j < n → IsPlaceOf streams rings behaviours j k r b → may_be_sent (agrees b) tau z (length r.waiting) (next_at next j) ≡ false
IsChosenSoFar agrees streams next rings behaviours tau z n (Some s) = IsChosen agrees streams next rings behaviours tau z n s

abbrev pub is_lower : ℕ → Option Sent → Bool
is_lower id None = true
is_lower id (Some s) = nat_lt id s.id

-- the chosen one, or a stream that may be sent if its identifier is lower
abbrev pub lower_of : Option Sent → ℕ → ℕ → Bool → Option Sent
lower_of chosen place id may = if may && is_lower id chosen then Some (record { place = place; id = id }) else chosen
