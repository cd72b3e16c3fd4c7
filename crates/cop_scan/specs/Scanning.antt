-- Who is on a bus: nodes are asked for the type of their devices and who made them.
use Rattle.std.specs.Prelude.{◌≡◌, ◌⊎◌, ℕ, Bool, true, false, ◌&&◌, ◌==◌, List, [], ◌∷◌, Option, Some, None, if◌then◌else◌}
use Rattle.std.specs.List.{flat_map, filter_map, list_any}
use Rattle.cop_frame.specs.declared.rates.Rate.{Rate}
use Rattle.cop_sdo.specs.declared.address.Address.{Address}
use Rattle.cop_live.specs.Log.{ByteStep, ClockStep}
use Rattle.cop_identity.specs.declared.questions.Demand.TheVariants.{Tell}
use Rattle.cop_identity.specs.declared.questions.Question.{Question}
use Rattle.cop_identity.specs.declared.asking.Outcome.{Outcome}
use Rattle.cop_identity.specs.declared.asking.Outcome.TheVariants.{Answered, Silent, Unasked}
use Rattle.cop_identity.specs.declared.asking.Exchange.{Exchange}
use Rattle.cop_identity.specs.Telling.{told_at}
use Rattle.cop_survey.specs.Reaching.{IsLeft}
use Rattle.cop_survey.specs.Surveying.{IsAnswered, SurveyStops}
use Rattle.cop_scan.specs.declared.scanning.Found.{Found}
use Rattle.cop_scan.specs.declared.scanning.Scanned.{Scanned}
use Rattle.cop_scan.specs.declared.scanning.Scanned.TheVariants.{Seen, Left, Failed}

-- where a device says what it is (CiA 301, "Device type", "Identity object")
abbrev pub device_type : Address
device_type = record { index = 0x1000; sub = 0 }

abbrev pub vendor : Address
vendor = record { index = 0x1018; sub = 1 }

abbrev pub product : Address
product = record { index = 0x1018; sub = 2 }

abbrev pub revision : Address
revision = record { index = 0x1018; sub = 3 }

-- the question what an object has
abbrev pub question : ℕ → Address → Question
question node at = record { node = node; demand = Tell; at = at; wanted = 0 }

abbrev pub questions_to : ℕ → List Question
questions_to node = question node device_type ∷ (question node vendor ∷ (question node product ∷ (question node revision ∷ [])))

-- the questions to nodes, node after node
abbrev pub questions_of : List ℕ → List Question
questions_of nodes = flat_map questions_to nodes

-- an answer came, if only that it does not tell
abbrev pub is_heard : Outcome → Bool
is_heard (Answered answer) = true
is_heard Silent = false
is_heard Unasked = false

abbrev pub has_answered : ℕ → List Exchange → Bool
has_answered node all = list_any (λ asked. (asked.question.node == node) && is_heard asked.outcome) all

-- what the device of a node told, if it answered
abbrev pub found_at : List Exchange → ℕ → Option Found
found_at all node =
    if has_answered node all then
    Some (record { node = node; device_type = told_at node device_type all; vendor = told_at node vendor all; product = told_at node product all; revision = told_at node revision all })
    else None

abbrev pub found_in : List ℕ → List Exchange → List Found
found_in nodes all = filter_map (found_at all) nodes

-- the nodes were asked, and this was found by what they answered: nothing else was sent
pub record HasSeen {P : Type 0} (reads writes : ByteStep P) (asks : ClockStep P) (rate : Rate) (ticks : ℕ) (nodes : List ℕ) (p q : P) (found : List Found) : Type 0 where
  pub all : List Exchange
  pub answered : IsAnswered reads writes asks rate ticks (questions_of nodes) p all q
  pub is : found ≡ found_in nodes all

-- what came of a scan
abbrev pub IsScan : {P : Type 0} → ByteStep P → ByteStep P → ClockStep P → Rate → ℕ → List ℕ → P → P → Scanned → Type 0
IsScan reads writes asks rate ticks nodes p q (Seen found) = HasSeen reads writes asks rate ticks nodes p q found.items
IsScan reads writes asks rate ticks nodes p q (Left reason) = IsLeft reads writes asks rate reason p q
IsScan reads writes asks rate ticks nodes p q Failed = Unit {0}

-- what holds where the port failed
abbrev pub if_failed : Scanned → Type 0 → Type 0
if_failed (Seen found) claim = Unit {0}
if_failed (Left reason) claim = Unit {0}
if_failed Failed claim = claim

-- there was no memory for more: nothing was done yet; or some questions were asked; or all were
abbrev pub ScanStops : {P : Type 0} → ByteStep P → ByteStep P → ClockStep P → Rate → ℕ → List ℕ → P → P → Type 0
ScanStops {P} reads writes asks rate ticks nodes p q =
    (p ≡ q) ⊎ (SurveyStops reads writes asks rate ticks (questions_of nodes) p q ⊎ ((all : List Exchange) × IsAnswered reads writes asks rate ticks (questions_of nodes) p all q))
