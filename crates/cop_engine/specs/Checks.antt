-- The check of a refusal file.
use Rattle.std.specs.Prelude.{◌≡◌, ◌↔◌, ℕ, ◌<◌, List, [], ◌++◌, Bool, true, false, codes, decimal, length, get_or, slice_get, All, IsTrue, Ok, Err, Some}
use Rattle.std.specs.Option.{option_map_or}
use Rattle.cop_frame.specs.declared.rates.Rate.{Rate}
use Rattle.cop_frame.specs.Rate.{kbits_of}
use Rattle.cop_rta.specs.declared.streams.Stream.{Stream}
use Rattle.cop_cert.specs.declared.faults.Breach.{Breach}
use Rattle.cop_cert.specs.declared.refusals.Refusal.{Refusal}
use Rattle.cop_cert.specs.Assignments.{NoAssignmentPasses}
use Rattle.cop_cert.specs.Causes.{IsRefusal}
use Rattle.cop_cert.specs.Faults as breaches
use Rattle.cop_cert.specs.Reading.{refusals_of}
use Rattle.cop_net.specs.Devices.{File}
use Rattle.cop_net.specs.Network.{Net, Accepted}
use Rattle.cop_engine.specs.declared.faults.Fault.{Fault}
use Rattle.cop_engine.specs.declared.faults.Fault.TheVariants as faults
use Rattle.cop_engine.specs.Reports.{lines_below}
use Rattle.cop_engine.specs.Networks.{network_in, IsNetworkIn}

abbrev pub said : Bool → List ℕ
said true = codes " holds\n"
said false = codes " fails\n"

-- the line of a refusal, and whether it holds
abbrev pub check_line : Refusal → Bool → List ℕ
check_line r holds = decimal (kbits_of r.rate) ++ said holds

abbrev pub check_line_at : List Refusal → List Bool → ℕ → List ℕ
check_line_at refusals answers k = option_map_or (λ r. check_line r (get_or answers k false)) (slice_get refusals k) []

-- whether each of the first refusals holds
pub record AreChecked (streams : List Stream) (pdos : ℕ) (refusals : List Refusal) (answers : List Bool) (count : ℕ) : Type 0 where
  pub length_is : length answers ≡ count
  pub each : (k : ℕ) → k < count → (r : Refusal) → slice_get refusals k ≡ Some r → (get_or answers k false ≡ true ↔ IsRefusal streams pdos r)

-- a line for each refusal, and whether all hold
pub record AreLinesOf (streams : List Stream) (pdos : ℕ) (refusals : List Refusal) (lines : List ℕ) (all : Bool) : Type 0 where
  pub answers : List Bool
  pub checked : AreChecked streams pdos refusals answers (length refusals)
  pub lines_are : lines ≡ lines_below (check_line_at refusals answers) (length refusals)
  pub all_hold : IsTrue all ↔ All (λ answer. answer ≡ true) answers

-- what `holds` means: no assignment of identifiers passes at the refusal's rate
abbrev pub RuleOut : List Stream → ℕ → List Refusal → List Bool → Type 0
RuleOut streams pdos refusals answers =
    (k : ℕ) (r : Refusal) → slice_get refusals k ≡ Some r → get_or answers k false ≡ true → NoAssignmentPasses r.rate streams pdos

-- A refusal file against the network that the tables and the EDS files say: a line for each refusal, and whether all hold.
pub record IsCheckOf (wanted : List Rate) (nodes pdos : List ℕ) (eds : List File) (text : List ℕ) (lines : List ℕ) (all : Bool) : Type 0 where
  pub net : Net
  pub said : IsNetworkIn wanted nodes pdos eds net
  pub refusals : List Refusal
  pub refusals_are : refusals_of text ≡ Ok refusals
  pub answered : AreLinesOf net.set (length net.rows) refusals lines all
  pub rules_out : RuleOut net.set (length net.rows) refusals answered.answers

-- why there is none: the network, or else the refusal file
abbrev pub ExplainsCheck : List Rate → List ℕ → List ℕ → List File → List ℕ → Fault → Type 0
ExplainsCheck wanted nodes pdos files text (faults.Network r) = network_in wanted nodes pdos files ≡ Err r
ExplainsCheck wanted nodes pdos files text (faults.Refused number place) =
    (made : Accepted) × (network_in wanted nodes pdos files ≡ Ok made) × (b : Breach) × (refusals_of text ≡ Err b) × (number ≡ breaches.number_of_rule b.rule) × (place ≡ b.place)
ExplainsCheck wanted nodes pdos files text faults.Simulation = ⊥
ExplainsCheck wanted nodes pdos files text (faults.File name) = ⊥
ExplainsCheck wanted nodes pdos files text faults.Usage = ⊥
ExplainsCheck wanted nodes pdos files text faults.Memory = Unit {0}
