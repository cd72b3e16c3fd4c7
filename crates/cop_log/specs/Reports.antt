-- What a log says of the streams of a plan.
use Rattle.std.specs.Prelude.{◌≡◌, ℕ, List, [], Option, Ok, Err, IfSome}
use Rattle.cop_frame.specs.declared.rates.Rate.{Rate}
use Rattle.cop_rta.specs.declared.streams.Stream.{Stream}
use Rattle.cop_rta.specs.Greatest.{AreSynced}
use Rattle.cop_bus.specs.Run.{Instance}
use Rattle.cop_lines.specs.declared.entries.Entry.{Entry}
use Rattle.cop_log.specs.declared.clocks.Clock.{Clock}
use Rattle.cop_log.specs.declared.faults.LogFault.{LogFault}
use Rattle.cop_log.specs.declared.findings.Finding.{Finding}
use Rattle.cop_log.specs.Log.{IsAnswer, IsRunWith}
use Rattle.cop_log.specs.Reading.{Wanted, log_in, fault_of_text}

-- The text has a log, and what was found in it is evident by the responses of the streams; where nothing was found, nothing is evident.
-- No false accusation: where synchronous streams keep pace with SYNC, and a legal run in which all streams obey has the log, nothing
-- was found.
pub record IsReport (streams : List Stream) (rate : Rate) (clock : Clock) (w : Wanted) (text : List ℕ) (found : List Finding) : Type 0 where
  pub log : List Entry
  pub read : log_in w text ≡ Ok log
  pub bounds : List (Option ℕ)
  pub answer : IsAnswer (record { rate = rate; streams = streams; bounds = bounds; clock = clock }) log found
  pub innocent : AreSynced streams → (until : ℕ) (run : List Instance) → IsRunWith (record { rate = rate; streams = streams; bounds = bounds; clock = clock }) until run log → found ≡ []

-- a fault tells of the text, or of want of memory
abbrev pub IsExplained : Wanted → List ℕ → LogFault → Type 0
IsExplained w text fault = IfSome (fault_of_text fault) (λ f. log_in w text ≡ Err f)
