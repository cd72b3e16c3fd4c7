-- What a logbook has told of the log that it watches.
use Rattle.std.specs.Prelude.{◌≡◌, ℕ, ◌+◌, ◌^◌, ◌<◌, List, [], ◌∷◌, ◌++◌, map, length, slice_index_or, Option, Some, None, Result, Ok, Err}
use Rattle.cop_lines.specs.Faults.{number_of_fault}
use Rattle.cop_log.specs.declared.faults.LogFault.{LogFault}
use Rattle.cop_log.specs.declared.faults.LogFault.TheVariants.{Line}
use Rattle.cop_log.specs.declared.faults.LogFault.TheVariants as fault
use Rattle.cop_log.specs.declared.scenes.Scene.{Scene}
use Rattle.cop_logbook.specs.declared.breaches.Breach.{Breach}
use Rattle.cop_logbook.specs.declared.logbook.BookFault.{BookFault}
use Rattle.cop_logbook.specs.declared.logbook.BookFault.TheVariants.{Refused, Memory}
use Rattle.cop_logbook.specs.Words.{verdict, AreLines}
use Rattle.cop_logbook.specs.ErrorFrames.{tested_log, HasLogThrough}
use Rattle.cop_logbook.specs.Told.{counted, told_of, breach_by, AreShown, all_told, HasKept}
use Rattle.cop_frame.specs.Rate.{ticks_of}
use Rattle.cop_rta.specs.Streams.{AreDistinct}
use Rattle.cop_rta.specs.Test.{place_by_id}
use Rattle.cop_rta.specs.Verdict.{PassesBy}
use Rattle.cop_bus.specs.Run.{Instance}
use Rattle.cop_errors.specs.Errors.{Disturbance}
use Rattle.cop_errors.specs.Extended.{IsRunThrough}
use Rattle.cop_lines.specs.declared.entries.Entry.{Entry}
use Rattle.cop_log.specs.declared.clocks.Clock.{Clock}
use Rattle.cop_log.specs.declared.findings.Finding.{Finding}
use Rattle.cop_log.specs.declared.told.Told.{Told}
use Rattle.cop_log.specs.Log.{Terms, AreBounded, IsAnswer, IsRunWith}
use Rattle.cop_log.specs.Watchers.{HasWatched, findings_of}
use Rattle.cop_log.specs.declared.reader.LogReader.{LogReader}
use Rattle.cop_log.specs.Reading.{Wanted, HasRead, log_in}
use Rattle.cop_plan.specs.Values.{PlanValue}
use Rattle.cop_logbook.specs.declared.logbook.Logbook.{Logbook}

-- how a fault of a log is told: by its number and the line; and that it has no frame of the channel, by the line 0
abbrev pub book_fault : LogFault → BookFault
book_fault (Line line fault) = Refused (number_of_fault fault) line
book_fault fault.Memory = Memory

-- a log is refused with a number at a line
abbrev pub IsRefused : ℕ → ℕ → Result (List Entry) LogFault → Type 0
IsRefused number line (Err (Line n fault)) = (number ≡ number_of_fault fault) × (line ≡ n)
IsRefused number line (Err fault.Memory) = ⊥
IsRefused number line (Ok []) = (number ≡ 94) × (line ≡ 0)
IsRefused number line (Ok (e ∷ log)) = ⊥

-- why the log of a text is not watched: it is refused so; of want of memory nothing is said
abbrev pub IsWhy : Wanted → List ℕ → BookFault → Type 0
IsWhy w text (Refused number line) = IsRefused number line (log_in w text)
IsWhy w text Memory = Unit {0}

-- the breaches that were found are kept, whatever comes behind the log
abbrev pub AreKept : Terms → List Entry → List Finding → Logbook → Type 0
AreKept t log found b = (more : List Entry) → length (log ++ more) < 2 ^ 64 → HasKept (map (breach_by t (log ++ more)) found) b.breaches

-- Of a text, as far as it has come, all was read but what is left of its last piece: the entries that were read were counted and watched, and
-- each finding is a breach, whatever comes behind them.
pub record HasNoted (t : Terms) (w : Wanted) (text left : List ℕ) (b : Logbook) : Type 0 where
  pub log : List Entry
  pub found : List Finding
  pub read : HasRead w text left b.log log
  pub watched : HasWatched t (tested_log t.streams log) b.watcher found
  pub frames : b.all.frames ≡ counted (length log)
  pub kept : AreKept t log found b

-- how far a logbook comes: from what is left of a piece to what is left of it then
abbrev pub Takes : Logbook → List ℕ → Logbook → List ℕ → Type 0
Takes before piece after left = (t : Terms) (w : Wanted) (text : List ℕ) → length text < 2 ^ 64 → HasNoted t w text piece before → HasNoted t w text left after

-- a piece is refused: whatever comes behind it, the log of the whole text is, so
abbrev pub Refuses : Logbook → List ℕ → BookFault → Type 0
Refuses before piece fault = (t : Terms) (w : Wanted) (text : List ℕ) → length text < 2 ^ 64 → HasNoted t w text piece before → (more : List ℕ) → IsWhy w (text ++ more) fault

-- a reader has taken the place of another, and what was watched and told stays
abbrev pub IsWith : Logbook → Logbook → LogReader → Type 0
IsWith before after r = (after.log ≡ r) × (after.watcher ≡ before.watcher) × (after.breaches ≡ before.breaches) × (after.all.frames ≡ before.all.frames)

-- an entry was counted
abbrev pub Counts : Logbook → Logbook → Type 0
Counts before after = (after.log ≡ before.log) × (after.watcher ≡ before.watcher) × (after.breaches ≡ before.breaches) × (after.all.frames ≡ counted (before.all.frames + 1))

-- what an entry shows was told
pub record Tells (e : Entry) (scene : Scene) (told : Told) (before after : Logbook) : Type 0 where
  pub log : after.log ≡ before.log
  pub watcher : after.watcher ≡ before.watcher
  pub frames : after.all.frames ≡ before.all.frames
  pub kept : (t : Terms) (log : List Entry) (all : List Breach) → AreShown t log e scene told → HasKept all before.breaches → HasKept (all_told t log all told) after.breaches

-- an entry was watched, and what it shows was told
pub record Notes (e : Entry) (before after : Logbook) : Type 0 where
  pub log : after.log ≡ before.log
  pub frames : after.all.frames ≡ counted (before.all.frames + 1)
  pub told : Told
  pub watched : (t : Terms) (log : List Entry) (found : List Finding) → length (log ++ e ∷ []) < 2 ^ 64
      → HasWatched t (tested_log t.streams log) before.watcher found → HasWatched t (tested_log t.streams (log ++ e ∷ [])) after.watcher (found ++ findings_of told)
  pub kept : (t : Terms) (log : List Entry) (found : List Finding) → length (log ++ e ∷ []) < 2 ^ 64
      → HasWatched t (tested_log t.streams log) before.watcher found → AreKept t log found before → AreKept t (log ++ e ∷ []) (found ++ findings_of told) after

-- The log of a whole text was watched, its error frames as disturbed transfers where the set counts these: each finding is evident from it; where
-- there is none, nothing is; and where a legal run in which all streams obey has the log, there is none. As many are counted, and told are the first of each identifier, each as the breach that it is.
pub record IsBook (t : Terms) (w : Wanted) (text : List ℕ) (b : Logbook) : Type 0 where
  pub log : List Entry
  pub read : log_in w text ≡ Ok log
  pub found : List Finding
  pub answer : IsAnswer t (tested_log t.streams log) found
  pub count : b.breaches.count ≡ counted (length found)
  pub told : b.breaches.told.items ≡ told_of (map (breach_by t log) found)
  pub frames : b.all.frames ≡ counted (length log)

abbrev pub Ends : Logbook → Type 0
Ends b = (t : Terms) (w : Wanted) (text : List ℕ) → length text < 2 ^ 64 → HasNoted t w text [] b → IsBook t w text b

-- what a log is watched for: the streams of a plan, at its rate, with some bounds
abbrev pub terms_by : PlanValue → Clock → List (Option ℕ) → Terms
terms_by plan clock bounds = record { rate = plan.rate; streams = plan.streams; bounds = bounds; clock = clock }

-- the bounds of a plan, whose streams are distinct: of each stream that passes the response-time test its greatest response (Davis et al. 2007, section 4), and no others
pub record AreBoundsOf (plan : PlanValue) (clock : Clock) (bounds : List (Option ℕ)) : Type 0 where
  pub bounded : AreBounded (terms_by plan clock bounds)
  pub distinct : AreDistinct plan.streams
  pub each : (p r : ℕ) → p < length plan.streams → PassesBy (place_by_id plan.streams p plan.rate) r → slice_index_or bounds p None ≡ Some r

-- a logbook of a plan begins: nothing of its log was read
pub record Begins (plan : PlanValue) (clock : Clock) (w : Wanted) (b : Logbook) : Type 0 where
  pub bounds : List (Option ℕ)
  pub all : AreBoundsOf plan clock bounds
  pub none : HasNoted (terms_by plan clock bounds) w [] [] b

-- The log of a whole text was watched by a plan. No false accusation: where a legal run of its streams in which all obey has the log, there is no
-- breach. And where a run of the bus has it, in which the streams of the bus obey, and disturbed transfers are as rare as the plan counts them
-- (none where it counts none), there is no breach, whatever error frames the log has.
pub record IsWatched (plan : PlanValue) (clock : Clock) (w : Wanted) (text : List ℕ) (b : Logbook) : Type 0 where
  pub bounds : List (Option ℕ)
  pub all : AreBoundsOf plan clock bounds
  pub book : IsBook (terms_by plan clock bounds) w text b
  pub innocent : (until : ℕ) (run : List Instance) → IsRunWith (terms_by plan clock bounds) until run (tested_log plan.streams book.log) → b.breaches.count ≡ 0
  pub through : (until : ℕ) (run : List Instance) (hits : List Disturbance) (events : List ℕ) → IsRunThrough plan.rate plan.streams until run hits events
      → HasLogThrough (ticks_of plan.rate) clock until run hits book.log → b.breaches.count ≡ 0

-- what is said of a log: what was seen, the lines of the breaches that are told, and how many there are
abbrev pub IsSaid : Logbook → List ℕ → Type 0
IsSaid b text = (seen words : List ℕ) × AreLines b.breaches.told.items words × (text ≡ seen ++ (words ++ verdict b.breaches.count))
