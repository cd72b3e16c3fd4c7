-- A log that is watched, entry by entry.
use Rattle.std.specs.Prelude.{◌≡◌, ◌≢◌, ℕ, ◌+◌, ◌*◌, ◌^◌, ◌≤◌, ◌<◌, Bool, true, ◌&&◌, List, Option, Some, None, suc, length, slice_index_or, Any, All, is_none}
use Rattle.std.specs.Option.{ForSome}
use Rattle.cop_frame.specs.Rate.{ticks_of}
use Rattle.cop_rta.specs.declared.streams.Stream.{Stream}
use Rattle.cop_lines.specs.declared.entries.Entry.{Entry}
use Rattle.cop_log.specs.declared.clocks.Clock.{Clock}
use Rattle.cop_log.specs.declared.anchors.Anchor.{Anchor}
use Rattle.cop_log.specs.declared.anchors.Pile.{Pile}
use Rattle.cop_log.specs.declared.anchors.Top.{Top}
use Rattle.cop_log.specs.declared.naming.Naming.{Naming}
use Rattle.cop_log.specs.declared.naming.Naming.TheVariants as naming
use Rattle.cop_log.specs.declared.findings.Finding.{Finding}
use Rattle.cop_log.specs.declared.told.Told.{Told}
use Rattle.cop_log.specs.declared.watches.Watch.{Watch}
use Rattle.cop_log.specs.Log.{Terms, Lane, IsLaneOf, IsSoon, IsCrowded, IsFallen, IsEvidence, IsStrange, IsMisshapen, entry_at, stamp, most, count_of, least_of}

-- a watched stream as a lane
abbrev pub lane_of : Watch → Lane
lane_of w = record { stream = w.stream; tau = ticks_of w.rate; bound = w.bound; clock = w.clock }

-- where an anchor stands after the first i entries: at an entry of the stream, with so many from it on
pub record IsAnchor (k : Lane) (log : List Entry) (i : ℕ) (a : Anchor) : Type 0 where
  pub inside : a.from < i
  pub is : a.entry ≡ entry_at log a.from
  pub own : (entry_at log a.from).id ≡ k.stream.id
  pub few : a.count ≤ i
  pub counted : a.count + count_of k.stream.id log a.from ≡ count_of k.stream.id log i

-- no earlier entry of the stream asks for more of those to come than that at a place
abbrev pub IsStrictest : Lane → List Entry → ℕ → ℕ → Type 0
IsStrictest k log i from = (a : ℕ) → a < i → (entry_at log a).id ≡ k.stream.id
    → most k.clock (stamp log a) + 1000000 * (count_of k.stream.id log from * k.stream.period)
    ≤ most k.clock (stamp log from) + 1000000 * (count_of k.stream.id log a * k.stream.period)

-- none of the first i entries is of the stream
abbrev pub IsUnseen : Lane → List Entry → ℕ → Type 0
IsUnseen k log i = (a : ℕ) → a < i → (entry_at log a).id ≢ k.stream.id

-- the anchor of the first i entries, if one of them is of the stream; where something was told there may be none
abbrev pub IsAnchored : Lane → List Entry → ℕ → Option Anchor → Bool → Type 0
IsAnchored k log i None clean = clean ≡ true → IsUnseen k log i
IsAnchored k log i (Some a) clean = IsAnchor k log i a

-- The first i entries were watched for a stream: as long as nothing was told, none of them came too soon.
pub record IsWatched (k : Lane) (log : List Entry) (i : ℕ) (anchor : Option Anchor) (clean : Bool) : Type 0 where
  pub anchored : IsAnchored k log i anchor clean
  pub strictest : clean ≡ true → ForSome anchor (λ a. IsStrictest k log i a.from)
  pub none_soon : clean ≡ true → (a b n : ℕ) → b < i → IsSoon k log a b n → ⊥

-- the first i entries were watched for each stream that has a bound, with an anchor for each
pub record AreWatched (t : Terms) (log : List Entry) (i : ℕ) (anchors : List (Option Anchor)) (clean : Bool) : Type 0 where
  pub count : length anchors ≡ length t.streams
  pub lanes : (p : ℕ) (k : Lane) → IsLaneOf t p k → IsWatched k log i (slice_index_or anchors p None) clean

-- where a pile stands after the first i entries: at an entry, with the least ticks of the transfers after it
pub record IsPile (tau : ℕ) (log : List Entry) (i : ℕ) (p : Pile) : Type 0 where
  pub inside : p.from < i
  pub is : p.entry ≡ entry_at log p.from
  pub few : p.ticks ≤ i * 2 ^ 20
  pub counted : p.ticks + least_of tau log (suc p.from) ≡ least_of tau log i

-- no earlier entry asks for more of those to come than that at a place
abbrev pub IsFullest : ℕ → Clock → List Entry → ℕ → ℕ → Type 0
IsFullest tau clock log i from = (a : ℕ) → a < i
    → most clock (stamp log a) + 1000000 * least_of tau log (suc from) ≤ most clock (stamp log from) + 1000000 * least_of tau log (suc a)

abbrev pub IsPiled : ℕ → List Entry → ℕ → Option Pile → Bool → Type 0
IsPiled tau log i None clean = clean ≡ true → i ≡ 0
IsPiled tau log i (Some p) clean = IsPile tau log i p

-- The first i entries were watched for their lengths: as long as nothing was told, they fit.
pub record IsHeld (tau : ℕ) (clock : Clock) (log : List Entry) (i : ℕ) (pile : Option Pile) (clean : Bool) : Type 0 where
  pub piled : IsPiled tau log i pile clean
  pub fullest : clean ≡ true → ForSome pile (λ p. IsFullest tau clock log i p.from)
  pub none_crowded : clean ≡ true → (a b ticks : ℕ) → b < i → IsCrowded tau clock log a b ticks → ⊥

-- the top of the first i entries: one of them, and as long as nothing was told no other has a greater stamp
abbrev pub IsTop : List Entry → ℕ → Top → Type 0
IsTop log i x = (x.from < i) × (x.entry ≡ entry_at log x.from)

abbrev pub IsTopped : List Entry → ℕ → Option Top → Bool → Type 0
IsTopped log i None clean = clean ≡ true → i ≡ 0
IsTopped log i (Some x) clean = IsTop log i x

abbrev pub IsGreatest : Clock → List Entry → ℕ → Top → Type 0
IsGreatest clock log i x = (a : ℕ) → a < i → most clock (stamp log a) ≤ most clock x.entry.at

-- The first i entries were watched for their stamps: as long as nothing was told, the clock did not fall.
pub record IsRising (clock : Clock) (log : List Entry) (i : ℕ) (top : Option Top) (clean : Bool) : Type 0 where
  pub topped : IsTopped log i top clean
  pub greatest : clean ≡ true → ForSome top (IsGreatest clock log i)
  pub none_fallen : clean ≡ true → (a b : ℕ) → b < i → IsFallen clock log a b → ⊥

-- The first i entries were watched for their identifiers and lengths.
pub record AreNamed (streams : List Stream) (log : List Entry) (i : ℕ) (clean : Bool) : Type 0 where
  pub none_strange : clean ≡ true → (a : ℕ) → a < i → IsStrange streams (entry_at log a) → ⊥
  pub none_misshapen : clean ≡ true → (a : ℕ) → a < i → IsMisshapen streams (entry_at log a) → ⊥

-- The first i entries were watched for all.
pub record Stands (t : Terms) (log : List Entry) (i : ℕ) (anchors : List (Option Anchor)) (pile : Option Pile) (clean : Bool) : Type 0 where
  pub watched : AreWatched t log i anchors clean
  pub held : IsHeld (ticks_of t.rate) t.clock log i pile clean
  pub named : AreNamed t.streams log i clean

-- no stream has the entry's identifier; or one has, and another length; or all that have it have its length
abbrev pub IsNamed : List Stream → Entry → Naming → Type 0
IsNamed streams e naming.Unknown = IsStrange streams e
IsNamed streams e naming.Length = IsMisshapen streams e
IsNamed streams e naming.Known = Any (λ k. k.id ≡ e.id) streams × All (λ k. k.id ≡ e.id → k.bytes ≡ e.len) streams

-- an entry shows nothing
abbrev pub tells_nothing : Told → Bool
tells_nothing told = is_none told.fallen && (is_none told.named && (is_none told.soon && is_none told.crowded))

-- what an entry shows is evident
pub record IsTold (t : Terms) (log : List Entry) (told : Told) : Type 0 where
  pub fallen : ForSome told.fallen (IsEvidence t log)
  pub named : ForSome told.named (IsEvidence t log)
  pub soon : ForSome told.soon (IsEvidence t log)
  pub crowded : ForSome told.crowded (IsEvidence t log)

-- The next entry of the stream was watched: what it shows is evident, and the stream is watched up to it.
pub record IsStep (k : Lane) (log : List Entry) (i : ℕ) (clean : Bool) (anchor : Anchor) (soon : Option Finding) : Type 0 where
  pub evident : ForSome soon (λ f. (t : Terms) (p : ℕ) → IsLaneOf t p k → IsEvidence t log f)
  pub watched : IsWatched k log (suc i) (Some anchor) (clean && is_none soon)

-- The next entry was watched for its stamp.
pub record IsRisen (clock : Clock) (log : List Entry) (i : ℕ) (clean : Bool) (top : Top) (fallen : Option Finding) : Type 0 where
  pub evident : ForSome fallen (λ f. (t : Terms) → t.clock ≡ clock → IsEvidence t log f)
  pub rising : IsRising clock log (suc i) (Some top) (clean && is_none fallen)

-- The next entry was watched for the lengths.
pub record IsLoaded (tau : ℕ) (clock : Clock) (log : List Entry) (i : ℕ) (clean : Bool) (pile : Pile) (crowded : Option Finding) : Type 0 where
  pub evident : ForSome crowded (λ f. (t : Terms) → ticks_of t.rate ≡ tau → t.clock ≡ clock → IsEvidence t log f)
  pub held : IsHeld tau clock log (suc i) (Some pile) (clean && is_none crowded)
