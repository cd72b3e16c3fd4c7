-- What the devices of a planned network are asked where it is verified: who they are, what the plan relies on in them, and what it sets.
use Rattle.std.specs.Prelude.{ℕ, List, [], ◌∷◌, ◌++◌, if◌then◌else◌, Option, Some, None}
use Rattle.std.specs.List.{flat_map}
use Rattle.cop_dict.specs.Find.{Entry}
use Rattle.cop_net.specs.Network.{Net}
use Rattle.cop_setup.specs.declared.setting.Setting.{Setting}
use Rattle.cop_dcf.specs.Settings.{node_settings, dictionary_of}
use Rattle.cop_identity.specs.declared.questions.Demand.{Demand}
use Rattle.cop_identity.specs.declared.questions.Demand.TheVariants.{Tell, TellOff}
use Rattle.cop_identity.specs.declared.questions.Question.{Question}
use Rattle.cop_commission.specs.Identities.{questions_at}
use Rattle.cop_commission.specs.Relied.{relied_questions}
use Rattle.cop_commission.specs.Readings.{is_set_again}
use Rattle.cop_commission.specs.Told.{question_about, switches_off}

-- where a setting switches a PDO off, each COB-ID with bit 31 does (CiA 301, "PDO communication parameter record"); any other value is to
-- be the setting's
abbrev pub demand_of : Setting → Demand
demand_of s = if switches_off s then TellOff else Tell

abbrev pub check_of : ℕ → Setting → Question
check_of node s = record (question_about node s) { demand = demand_of s }

-- of settings in their order the last at each address is asked for
abbrev pub checks_about : ℕ → List Setting → List Question
checks_about node [] = []
checks_about node (s ∷ rest) = if is_set_again s rest then checks_about node rest else check_of node s ∷ checks_about node rest

-- who the device is, and whether it has what a plan relies on that sets this in it
abbrev pub checks_by : ℕ → Option (List Entry) → List Setting → List Question
checks_by node None settings = []
checks_by node (Some dict) settings = questions_at node dict ++ relied_questions node dict settings

-- and then whether it has these settings
abbrev pub node_checks : ℕ → Option (List Entry) → List Setting → List Question
node_checks node dict settings = checks_by node dict settings ++ checks_about node settings

-- the questions to nodes of a network by a plan with these identifiers
abbrev pub checks_of : Net → List ℕ → List ℕ → List Question
checks_of net ids nodes = flat_map (λ node. node_checks node (dictionary_of net node) (node_settings net ids node)) nodes
