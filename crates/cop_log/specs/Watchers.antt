-- What a watcher knows of the entries that it took.
use Rattle.std.specs.Prelude.{◌≡◌, ◌≢◌, ℕ, ◌^◌, ◌<◌, Bool, ◌&&◌, List, [], ◌∷◌, ◌++◌, Option, Some, None, true, suc, length, slice_get, slice_index_or, is_none, All}
use Rattle.std.specs.Option.{ForSome}
use Rattle.cop_rta.specs.declared.streams.Stream.{Stream}
use Rattle.cop_rta.specs.Streams.{AreDistinct, place_of_id}
use Rattle.cop_lines.specs.declared.entries.Entry.{Entry}
use Rattle.cop_log.specs.declared.anchors.Anchor.{Anchor}
use Rattle.cop_log.specs.declared.anchors.Pile.{Pile}
use Rattle.cop_log.specs.declared.anchors.Top.{Top}
use Rattle.cop_log.specs.declared.findings.Finding.{Finding}
use Rattle.cop_log.specs.declared.findings.Finding.TheVariants.{Unknown, Length, Soon, Crowded, Fallen}
use Rattle.cop_log.specs.declared.naming.Naming.{Naming}
use Rattle.cop_log.specs.declared.naming.Naming.TheVariants as naming
use Rattle.cop_log.specs.declared.scenes.Scene.{Scene}
use Rattle.cop_log.specs.declared.told.Told.{Told}
use Rattle.cop_log.specs.declared.watcher.Placed.{Placed}
use Rattle.cop_log.specs.declared.watcher.Watcher.{Watcher}
use Rattle.cop_log.specs.Log.{Terms, Lane, IsLaneOf, IsEvidence, entry_at}
use Rattle.cop_log.specs.Watching.{lane_of, AreWatched, IsRising, Stands}

-- what it watches for
abbrev pub terms_of : Watcher → Terms
terms_of w = record { rate = w.rate; streams = w.streams.now; bounds = w.bounds.items; clock = w.clock }

-- the first entries of a log, as many as it took, are those that it took
pub record IsKept (w : Watcher) (log : List Entry) : Type 0 where
  pub stands : Stands (terms_of w) log w.number w.anchors.items w.pile w.is_clean
  pub rising : IsRising w.clock log w.number w.top w.is_clean

-- the same, and the stamp of the next entry was looked at
pub record IsReady (w : Watcher) (log : List Entry) : Type 0 where
  pub stands : Stands (terms_of w) log w.number w.anchors.items w.pile w.is_clean
  pub rising : IsRising w.clock log (suc w.number) w.top w.is_clean

-- each entry from which is counted is one of some others, at its place
abbrev pub AreOf : List (Option Anchor) → List (Option Anchor) → Type 0
AreOf after before = (p : ℕ) (a : Anchor) → slice_index_or after p None ≡ Some a → slice_index_or before p None ≡ Some a

-- no stream with a bound has an identifier
abbrev pub HasNoLane : Terms → ℕ → Type 0
HasNoLane t id = (p : ℕ) (k : Lane) → IsLaneOf t p k → k.stream.id ≢ id

-- the stream at a place, with a bound, has it
abbrev pub HasLane : Terms → ℕ → Lane → ℕ → Type 0
HasLane t p k id = IsLaneOf t p k × (k.stream.id ≡ id)

-- the next entry was watched for the stream at a place, which alone has its identifier
abbrev pub IsStepOfAll : Placed → Entry → ℕ → List (Option Anchor) → List (Option Anchor) → Option Finding → Type 0
IsStepOfAll x entry number before after soon = (t : Terms) (log : List Entry) (clean : Bool) → number < length log → length log < 2 ^ 64 → entry ≡ entry_at log number
    → (entry_at log number).id ≡ x.watch.stream.id → IsLaneOf t x.place (lane_of x.watch) → AreDistinct t.streams → AreWatched t log number before clean
    → ForSome soon (IsEvidence t log) × AreWatched t log (suc number) after (clean && is_none soon)

-- the stream of an identifier, the bound of its response, and its entry from which is counted, if there are such
abbrev pub stream_at : List Stream → Option ℕ → Option Stream
stream_at streams None = None
stream_at streams (Some p) = slice_get streams p

abbrev pub stream_of : Terms → ℕ → Option Stream
stream_of t id = stream_at t.streams (place_of_id t.streams id)

abbrev pub bound_at : List (Option ℕ) → Option ℕ → Option ℕ
bound_at bounds None = None
bound_at bounds (Some p) = slice_index_or bounds p None

abbrev pub bound_of : Terms → ℕ → Option ℕ
bound_of t id = bound_at t.bounds (place_of_id t.streams id)

abbrev pub anchor_at : List (Option Anchor) → Option ℕ → Option Anchor
anchor_at anchors None = None
anchor_at anchors (Some p) = slice_index_or anchors p None

-- what is known of an entry before it is taken
pub record IsScene (w : Watcher) (entry : Entry) (s : Scene) : Type 0 where
  pub same_entry : s.entry ≡ entry
  pub same_rate : s.rate ≡ w.rate
  pub stream : s.stream ≡ stream_of (terms_of w) entry.id
  pub bound : s.bound ≡ bound_of (terms_of w) entry.id
  pub anchor : s.anchor ≡ anchor_at w.anchors.items (place_of_id w.streams.now entry.id)
  pub pile : s.pile ≡ w.pile
  pub top : s.top ≡ w.top

-- what an entry shows by its identifier and length
abbrev pub named_by : Naming → ℕ → Option Finding
named_by naming.Known i = None
named_by naming.Unknown i = Some (Unknown i)
named_by naming.Length i = Some (Length i)

-- What an entry shows is told from it and the entries from which was counted, by their numbers.
pub record IsShown (w : Watcher) (entry : Entry) (told : Told) : Type 0 where
  pub named : (naming : Naming) × (told.named ≡ named_by naming w.number)
  pub soon : ForSome told.soon (λ f. (p : ℕ) × (k : Lane) × (a : Anchor) × IsLaneOf (terms_of w) p k × (place_of_id w.streams.now entry.id ≡ Some p) × (slice_index_or w.anchors.items p None ≡ Some a) × (f ≡ Soon a.from w.number a.count))
  pub crowded : ForSome told.crowded (λ f. (x : Pile) × (w.pile ≡ Some x) × (f ≡ Crowded x.from w.number))
  pub fallen : ForSome told.fallen (λ f. (x : Top) × (w.top ≡ Some x) × (f ≡ Fallen x.from w.number))

-- what was told, in a list
abbrev pub listed : Option Finding → List Finding
listed None = []
listed (Some f) = f ∷ []

abbrev pub findings_of : Told → List Finding
findings_of told = listed told.fallen ++ (listed told.named ++ (listed told.soon ++ listed told.crowded))

-- Some entries were watched, whatever comes behind them: what was found is evident, and as long as nothing was, nothing is.
pub record HasWatched (t : Terms) (log : List Entry) (w : Watcher) (found : List Finding) : Type 0 where
  pub terms : terms_of w ≡ t
  pub number : w.number ≡ length log
  pub kept : (more : List Entry) → length (log ++ more) < 2 ^ 64 → IsKept w (log ++ more)
  pub evident : (more : List Entry) → length (log ++ more) < 2 ^ 64 → All (IsEvidence t (log ++ more)) found
  pub clean : found ≡ [] → w.is_clean ≡ true
