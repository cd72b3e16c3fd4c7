-- COB-IDs that a plan switches off, and what the devices told of them (CiA 301, "PDO communication parameter record").
use Rattle.std.specs.Prelude.{ℕ, Bool, not, ◌&&◌, List, [], ◌∷◌, map, ◌==◌, if◌then◌else◌, Option, Some, None}
use Rattle.std.specs.List.{flat_map}
use Rattle.cop_dict.specs.Pdo.{is_communication, exists_by}
use Rattle.cop_pdo.specs.CobIds.{off}
use Rattle.cop_net.specs.Network.{Net}
use Rattle.cop_setup.specs.declared.setting.Setting.{Setting}
use Rattle.cop_setup.specs.Width.{size_of}
use Rattle.cop_dcf.specs.Settings.{node_settings}
use Rattle.cop_boot.specs.Settings.{address_of}
use Rattle.cop_boot.specs.Node.{Node}
use Rattle.cop_boot.specs.Manager.{Managing}
use Rattle.cop_engine.specs.Boots.{managed, manager_of}
use Rattle.cop_identity.specs.declared.questions.Demand.TheVariants.{Tell}
use Rattle.cop_identity.specs.declared.questions.Question.{Question}
use Rattle.cop_identity.specs.declared.asking.Exchange.{Exchange}
use Rattle.cop_identity.specs.Telling.{told_at}

-- the question whether a node has a setting
abbrev pub question_about : ℕ → Setting → Question
question_about node s = record { node = node; demand = Tell; at = record { index = s.index; sub = s.sub }; wanted = s.value }

-- a setting switches a PDO off: it is of a COB-ID (sub 1 of 1400h to 15FFh, or of 1800h to 19FFh), and sets its bit 31
abbrev pub switches_off : Setting → Bool
switches_off s = is_communication s.index && (s.sub == 1) && (size_of s.width == 4) && not (exists_by s.value)

-- a node is asked for the object of each setting that does
abbrev pub offs_of : ℕ → List Setting → List Question
offs_of node [] = []
offs_of node (s ∷ rest) = if switches_off s then question_about node s ∷ offs_of node rest else offs_of node rest

-- and so are nodes, by the settings of a plan with these identifiers
abbrev pub off_questions : Net → List ℕ → List ℕ → List Question
off_questions net ids nodes = flat_map (λ node. offs_of node (node_settings net ids node)) nodes

-- a setting with the COB-ID that was told, with bit 31 set
abbrev pub off_by : Setting → Option ℕ → Setting
off_by s None = s
off_by s (Some cob_id) = record s { value = off cob_id }

-- a setting of a node: one that switches a PDO off has the COB-ID that the device told last, if it did
abbrev pub with_told : List Exchange → ℕ → Setting → Setting
with_told told node s = if switches_off s then off_by s (told_at node (address_of s) told) else s

abbrev pub told_settings : List Exchange → ℕ → List Setting → List Setting
told_settings told node settings = map (with_told told node) settings

-- a node of a plan with such settings, whose boot-up is awaited for so many ticks, and its manager
abbrev pub told_node : ℕ → Net → List ℕ → List Exchange → ℕ → Node
told_node limit net ids told node = record (managed net ids node) { settings = told_settings told node (node_settings net ids node); limit = limit }

abbrev pub told_manager : ℕ → Net → List ℕ → List Exchange → List ℕ → Managing
told_manager limit net ids told nodes = record (manager_of net ids nodes) { nodes = map (told_node limit net ids told) nodes }
