-- The breaches that a log shows, and which of them are told.
use Rattle.std.specs.Prelude.{◌≡◌, ℕ, ◌+◌, ◌-◌, ◌*◌, ◌^◌, ◌≤◌, ◌<◌, min, ◌==◌, nat_lt, if◌then◌else◌, List, [], ◌∷◌, ◌++◌, map, suc, length, slice_index_or, Option, Some, None}
use Rattle.std.specs.Option.{ForSome}
use Rattle.cop_frame.specs.declared.rates.Rate.{Rate}
use Rattle.cop_frame.specs.Rate.{ticks_of}
use Rattle.cop_rta.specs.declared.streams.Stream.{Stream}
use Rattle.cop_bus.specs.Run.{least_bits}
use Rattle.cop_lines.specs.declared.entries.Entry.{Entry}
use Rattle.cop_log.specs.declared.anchors.Anchor.{Anchor}
use Rattle.cop_log.specs.declared.anchors.Pile.{Pile}
use Rattle.cop_log.specs.declared.anchors.Top.{Top}
use Rattle.cop_log.specs.declared.findings.Finding.{Finding}
use Rattle.cop_log.specs.declared.findings.Finding.TheVariants as finding
use Rattle.cop_log.specs.declared.scenes.Scene.{Scene}
use Rattle.cop_log.specs.declared.told.Told.{Told}
use Rattle.cop_log.specs.Log.{Terms, entry_at, stamp, least_of, last_of}
use Rattle.cop_log.specs.Watchers.{stream_of, bound_of, listed}
use Rattle.cop_logbook.specs.declared.breaches.Nearest.{Nearest}
use Rattle.cop_logbook.specs.declared.breaches.Broken.{Broken}
use Rattle.cop_logbook.specs.declared.breaches.Broken.TheVariants.{Unknown, Length, Soon, Crowded, Fallen}
use Rattle.cop_logbook.specs.declared.breaches.Breach.{Breach}
use Rattle.cop_logbook.specs.declared.breaches.Breaches.{Breaches}
use Rattle.cop_logbook.specs.ErrorFrames.{tested_log}

-- the line of an entry
abbrev pub line_at : List Entry → ℕ → ℕ
line_at log i = (entry_at log i).line

-- the bytes of a stream's mapping; its bound, or 0
abbrev pub bytes_with : Option Stream → ℕ
bytes_with None = 0
bytes_with (Some s) = s.bytes

abbrev pub or_zero : Option ℕ → ℕ
or_zero None = 0
or_zero (Some d) = d

-- how near frames of a stream can be that are n instances apart, and what that is made of
abbrev pub nearest_with : Rate → Option Stream → Option ℕ → ℕ → Option Nearest
nearest_with rate None bound n = None
nearest_with rate (Some s) bound n =
    Some (record { count = n; period = s.period; response = or_zero bound; transfer = least_bits s.bytes * ticks_of rate; bit = ticks_of rate })

-- What a finding breaks: the identifier is of no stream; the frame has not the bytes of its stream; it comes so long after that of an earlier
-- line, to which it may be so near; the transfers after that of an earlier line, up to its own, take so many ticks at least; the clock falls
-- by so much from an earlier line on.
abbrev pub broken_by : Terms → List Entry → Finding → Broken
broken_by t log (finding.Unknown i) = Unknown
broken_by t log (finding.Length i) = Length (bytes_with (stream_of t (entry_at log i).id))
broken_by t log (finding.Soon i j n) = Soon (line_at log i) (stamp log j - stamp log i) (nearest_with t.rate (stream_of t (entry_at log j).id) (bound_of t (entry_at log j).id) n)
broken_by t log (finding.Crowded i j) = Crowded (line_at log i) (stamp log j - stamp log i) (least_of (ticks_of t.rate) log (suc j) - least_of (ticks_of t.rate) log (suc i))
broken_by t log (finding.Fallen i j) = Fallen (line_at log i) (stamp log i - stamp log j)

-- The breach that a finding of a log's entries is, these being seen as the set's: its last entry, with its line, and what that breaks.
abbrev pub breach_by : Terms → List Entry → Finding → Breach
breach_by t log f = record { line = line_at log (last_of f); entry = entry_at log (last_of f); broken = broken_by t (tested_log t.streams log) f }

-- Breaches are told by identifier. All that no stream can have are one kind.
abbrev pub kind_of : Breach → ℕ
kind_of b = min b.entry.id 2048

-- how many are of a kind
abbrev pub count_in : ℕ → List Breach → ℕ
count_in kind [] = 0
count_in kind (b ∷ bs) = (if kind_of b == kind then 1 else 0) + count_in kind bs

-- how many of a kind are told at most
abbrev pub most_told : ℕ
most_told = 20

-- those that are told of some breaches behind others: each before which fewer of its kind came than are told
abbrev pub told_behind : List Breach → List Breach → List Breach
told_behind before [] = []
told_behind before (b ∷ bs) =
    if nat_lt (count_in (kind_of b) before) most_told then b ∷ told_behind (before ++ b ∷ []) bs else told_behind (before ++ b ∷ []) bs

abbrev pub told_of : List Breach → List Breach
told_of all = told_behind [] all

-- what one is told as, before which so many of its kind came
abbrev pub kept_of : Breach → ℕ → List Breach
kept_of b before = if nat_lt before most_told then b ∷ [] else []

-- a count that stops at the greatest that there is
abbrev pub counted : ℕ → ℕ
counted n = min n (2 ^ 64 - 1)

-- these are the breaches so far
pub record HasKept (all : List Breach) (b : Breaches) : Type 0 where
  pub count : b.count ≡ counted (length all)
  pub kinds : length b.counts.items ≡ 2049
  pub counts : (kind : ℕ) → kind < 2049 → slice_index_or b.counts.items kind 0 ≡ counted (count_in kind all)
  pub told : b.told.items ≡ told_of all

-- what a finding is made of is known
abbrev pub IsFrom : Terms → List Entry → Scene → Finding → Type 0
IsFrom t log s (finding.Unknown i) = Unit {0}
IsFrom t log s (finding.Length i) = Unit {0}
IsFrom t log s (finding.Soon i j n) = (a : Anchor) × (s.anchor ≡ Some a) × (a.entry ≡ entry_at log i)
IsFrom t log s (finding.Crowded i j) =
    (x : Pile) × (s.pile ≡ Some x) × (x.entry ≡ entry_at log i) × (j < length log) × (x.ticks ≤ 2 ^ 84) × (x.ticks + least_of (ticks_of t.rate) log (suc i) ≡ least_of (ticks_of t.rate) log j)
IsFrom t log s (finding.Fallen i j) = (x : Top) × (s.top ≡ Some x) × (x.entry ≡ entry_at log i)

pub record Shows (t : Terms) (log : List Entry) (s : Scene) (f : Finding) : Type 0 where
  pub entry : s.entry ≡ entry_at log (last_of f)
  pub rate : s.rate ≡ t.rate
  pub stream : s.stream ≡ stream_of t (entry_at log (last_of f)).id
  pub bound : s.bound ≡ bound_of t (entry_at log (last_of f)).id
  pub from : IsFrom t log s f

-- a finding is seen of the scene of an entry, which is the last of which it speaks
abbrev pub IsSeenOf : Terms → List Entry → Entry → Scene → Finding → Type 0
IsSeenOf t log e s f = Shows t (tested_log t.streams log) s f × (e ≡ entry_at log (last_of f))

-- the breaches with what was found, if something was
abbrev pub all_with : Terms → List Entry → List Breach → Option Finding → List Breach
all_with t log all found = all ++ map (breach_by t log) (listed found)

-- what an entry shows is seen of its scene
pub record AreShown (t : Terms) (log : List Entry) (e : Entry) (scene : Scene) (told : Told) : Type 0 where
  pub fallen : ForSome told.fallen (IsSeenOf t log e scene)
  pub named : ForSome told.named (IsSeenOf t log e scene)
  pub soon : ForSome told.soon (IsSeenOf t log e scene)
  pub crowded : ForSome told.crowded (IsSeenOf t log e scene)

abbrev pub all_told : Terms → List Entry → List Breach → Told → List Breach
all_told t log all told = all_with t log (all_with t log (all_with t log (all_with t log all told.fallen) told.named) told.soon) told.crowded
