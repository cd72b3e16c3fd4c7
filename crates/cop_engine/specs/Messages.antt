-- What the program says of a fault, its status, and the words of the command line that it reads.
use Rattle.std.specs.Prelude.{◌≡◌, ℕ, List, ◌++◌, Bool, codes, decimal, Some, if◌then◌else◌}
use Rattle.std.specs.String.{string_bytes}
use Rattle.cop_frame.specs.declared.rates.Rate.{Rate}
use Rattle.cop_frame.specs.Rate.{kbits_of}
use Rattle.cop_table.specs.Numbers.{number_of}
use Rattle.cop_net.specs.Faults.{number_of_rule}
use Rattle.cop_engine.specs.declared.faults.Fault.{Fault}
use Rattle.cop_engine.specs.declared.faults.Fault.TheVariants as faults

-- what is refused: the number of the rule, and then the place
abbrev pub refusal_message : ℕ → ℕ → List ℕ
refusal_message number place = codes "canplan: refused " ++ (decimal number ++ (codes " " ++ (decimal place ++ codes "\n")))

-- a file that is not read or written
abbrev pub file_message : List ℕ → List ℕ
file_message name = codes "canplan: file " ++ (name ++ codes "\n")

-- the first line on standard error
abbrev pub message_of : Fault → List ℕ
message_of (faults.Network r) = refusal_message (number_of_rule r.rule) r.place
message_of (faults.Refused number place) = refusal_message number place
message_of faults.Simulation = codes "canplan: simulation refused\n"
message_of (faults.File name) = file_message (string_bytes name)
message_of faults.Usage = codes "canplan: usage\n"
message_of faults.Memory = codes "canplan: memory\n"

-- the status after a plan: 4 where no rate passes
abbrev pub plan_status_of : Bool → ℕ
plan_status_of planned = if planned then 0 else 4

-- the status after a test of which each stream is wanted to pass: 3 where one does not
abbrev pub test_status_of : Bool → ℕ
test_status_of all_pass = if all_pass then 0 else 3

-- the status after a check: 3 where some refusal fails
abbrev pub check_status_of : Bool → ℕ
check_status_of all_hold = if all_hold then 0 else 3

-- the status after a check that wants a refusal of each rate which the plan refuses: 3 where some refusal fails, 4 where one is wanting
abbrev pub strict_check_status_of : Bool → Bool → ℕ
strict_check_status_of all_hold covers = if all_hold then plan_status_of covers else check_status_of all_hold

-- a word of at most 4 digits that write a rate in kbit/s
abbrev pub IsRateWord : List ℕ → Rate → Type 0
IsRateWord word rate = number_of 4 word ≡ Some (kbits_of rate)
