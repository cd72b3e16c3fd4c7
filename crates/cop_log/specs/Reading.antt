-- A log as a text of lines, in any of the forms of logs. Each line is read by what is known of those before it; the frames of one channel count.
-- A last line that lacks its end, as that of a logger which was killed, may be cut: it is left out.
use Rattle.std.specs.Prelude.{◌≡◌, ℕ, ◌+◌, ◌-◌, ◌≤◌, ◌<◌, ◌^◌, min, ◌==◌, Bool, true, List, [], ◌∷◌, ◌++◌, suc, length, nat_lt, if◌then◌else◌, Option, Some, None, IfSome, Result, Ok, Err, option_map}
use Rattle.std.specs.Str.{bytes_eq}
use Rattle.std.specs.Global.{Vec}
use Rattle.cop_table.specs.Reading.{◌>>=◌}
use Rattle.cop_lines.specs.declared.entries.Entry.{Entry}
use Rattle.cop_lines.specs.declared.entries.Message.{Message}
use Rattle.cop_lines.specs.declared.faults.LineFault.{LineFault}
use Rattle.cop_lines.specs.declared.faults.LineFault.TheVariants as wrong
use Rattle.cop_lines.specs.declared.reader.LineReader.{LineReader}
use Rattle.cop_lines.specs.Reader.{begun, step, channel_by}
use Rattle.cop_lines.specs.Texts.{lines_of, lines_behind, most_line}
use Rattle.cop_log.specs.declared.faults.LogFault.{LogFault}
use Rattle.cop_log.specs.declared.faults.LogFault.TheVariants.{Line, Memory}
use Rattle.cop_log.specs.declared.reader.LogReader.{LogReader}

-- how a log is read: the channel whose frames count, that of the first frame where none is wanted; and whether the stamps of a log in
-- columns are distances
pub record Wanted : Type 0 where
  pub channel : Option (List ℕ)
  pub are_distances : Bool

-- what a line leaves behind: what the reader knows, the channel whose frames count, where it is known, and the line's frame, if it counts
pub record Taken : Type 0 where
  pub reader : LineReader
  pub channel : Option (List ℕ)
  pub message : Option Message

abbrev pub channel_with : Option (List ℕ) → List ℕ → Option (List ℕ)
channel_with None own = Some own
channel_with (Some wanted) own = Some wanted

abbrev pub counts : Option (List ℕ) → List ℕ → Bool
counts None own = true
counts (Some wanted) own = bytes_eq wanted own

-- a frame of the line of a number
abbrev pub at_line : ℕ → Message → Message
at_line number m = record m { entry = record m.entry { line = number } }

-- a line of a number with a frame of a channel, or with none
abbrev pub taken_of : ℕ → LineReader → Option (List ℕ) → List ℕ → Option Message → Taken
taken_of number r channel line None = record { reader = r; channel = channel; message = None }
taken_of number r channel line (Some m) = record {
  reader = r;
  channel = channel_with channel (channel_by r.form line);
  message = if counts channel (channel_by r.form line) then Some (at_line number m) else None;
}

abbrev pub line_taken : ℕ → LineReader → Option (List ℕ) → List ℕ → Result Taken LineFault
line_taken number r channel line = step r line >>= (λ s. Ok (taken_of number s.reader channel line s.message))

-- what is wrong with the line of a number
abbrev pub numbered : ℕ → Result Taken LineFault → Result Taken LogFault
numbered number (Ok taken) = Ok taken
numbered number (Err fault) = Err (Line number fault)

-- a line is not read where it is too long
abbrev pub line_at : ℕ → LineReader → Option (List ℕ) → List ℕ → Result Taken LogFault
line_at number r channel line = if nat_lt most_line (length line) then Err (Line number wrong.Long) else numbered number (line_taken number r channel line)

-- the entry of a frame behind others
abbrev pub entries_with : List Entry → Option Message → List Entry
entries_with log None = log
entries_with log (Some m) = log ++ m.entry ∷ []

-- the entries of some lines, of which the first has a number and the last no end, behind others; or the number of the first that is wrong, and
-- what is wrong; the last is not read, and is wrong where it is too long
abbrev pub log_from : ℕ → LineReader → Option (List ℕ) → List Entry → List (List ℕ) → Result (List Entry) LogFault
log_from number r channel log [] = Ok log
log_from number r channel log (l ∷ []) = if nat_lt most_line (length l) then Err (Line number wrong.Long) else Ok log
log_from number r channel log (l ∷ m ∷ ls) = line_at number r channel l >>= (λ x. log_from (suc number) x.reader x.channel (entries_with log x.message) (m ∷ ls))

-- lines count from 1
abbrev pub log_in : Wanted → List ℕ → Result (List Entry) LogFault
log_in w text = log_from 1 (begun w.are_distances) w.channel [] (lines_of text)

-- a fault that tells of the text, which want of memory does not
abbrev pub fault_of_text : LogFault → Option LogFault
fault_of_text Memory = None
fault_of_text fault = Some fault

-- the bytes of a channel's name
abbrev pub name_of : Option (Vec ℕ) → Option (List ℕ)
name_of channel = option_map (λ (c : Vec ℕ). c.items) channel

-- Of a text, as far as it has come, all was read but what is left of its last piece, with these entries: whatever else comes, the log of
-- the whole text goes on from them.
pub record HasRead (w : Wanted) (text left : List ℕ) (r : LogReader) (log : List Entry) : Type 0 where
  pub goes_on : (more : List ℕ) → log_in w (text ++ more) ≡ log_from (suc r.line) r.reader (name_of r.channel) log (lines_behind r.cutter (left ++ more))
  pub few : r.line + (length r.cutter + length left) ≤ length text
  pub short : length r.cutter ≤ most_line
  pub each : length log ≤ r.line

-- how far a reader comes: from what is left of a piece to what is left of it then, with an entry or with none
abbrev pub Reads : LogReader → List ℕ → LogReader → List ℕ → Option Message → Type 0
Reads before piece after left message = (w : Wanted) (text : List ℕ) (log : List Entry)
    → length text < 2 ^ 64 → HasRead w text piece before log → HasRead w text left after (entries_with log message)

-- a fault is that of the whole text, whatever else comes
abbrev pub Refuses : LogReader → List ℕ → LogFault → Type 0
Refuses before piece fault = IfSome (fault_of_text fault) (λ f. (w : Wanted) (text : List ℕ) (log : List Entry)
    → length text < 2 ^ 64 → HasRead w text piece before log → (more : List ℕ) → log_in w (text ++ more) ≡ Err f)

-- at the end of the text they are the entries of all of it
abbrev pub IsWhole : LogReader → Type 0
IsWhole r = (w : Wanted) (text : List ℕ) (log : List Entry) → HasRead w text [] r log → (log_in w text ≡ Ok log) × (length log ≤ length text)

-- the number of the line that has begun and has no end, if there is one
abbrev pub unended : LogReader → Option ℕ
unended r = if length r.cutter == 0 then None else Some (min (r.line + 1) (2 ^ 64 - 1))

-- the line that was kept is read
pub record TakesLine (before after : LogReader) (message : Option Message) : Type 0 where
  pub number : before.line + 1 < 2 ^ 64 → after.line ≡ suc before.line
  pub taken : line_taken after.line before.reader (name_of before.channel) before.cutter ≡ Ok (record { reader = after.reader; channel = name_of after.channel; message = message })
  pub next : after.cutter ≡ []

-- it is wrong
abbrev pub IsWrong : LogReader → LogFault → Type 0
IsWrong before fault = IfSome (fault_of_text fault) (λ f. before.line + 1 < 2 ^ 64 → numbered (suc before.line) (line_taken (suc before.line) before.reader (name_of before.channel) before.cutter) ≡ Err f)
