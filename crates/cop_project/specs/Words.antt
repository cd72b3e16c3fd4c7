-- Which word of the command line names a project file, and the words that stand in its place.
use Rattle.std.specs.Prelude.{ℕ, ◌+◌, ◌-◌, Bool, false, not, ◌&&◌, ◌||◌, ◌==◌, nat_le, nat_eq, List, [], ◌∷◌, ◌++◌, length, take, drop, map, codes, slice_index, slice_index_or, decimal, if◌then◌else◌, Option, Some, None, String}
use Rattle.std.specs.List.{list_any, starts_with, ends_with}
use Rattle.std.specs.Str.{bytes_eq}
use Rattle.std.specs.String.{string_bytes}
use Rattle.std.specs.declared.alloc.Global.{Global}
use Rattle.cop_frame.specs.declared.rates.Rate.{Rate}
use Rattle.cop_frame.specs.Rate.{kbits_of}
use Rattle.cop_project.specs.declared.project.Choice.{Choice}
use Rattle.cop_project.specs.declared.project.Choice.TheVariants.{Order, Margin}
use Rattle.cop_project.specs.Project.{Says}

-- the bytes of words
abbrev pub texts : List (String Global) → List (List ℕ)
texts words = map string_bytes words

abbrev pub word_at : List (List ℕ) → ℕ → List ℕ
word_at words i = slice_index_or words i []

-- ---- which word it is

-- the commands that take the tables of a network
abbrev pub takes_network : List ℕ → Bool
takes_network w =
    (bytes_eq w (codes "plan") || (bytes_eq w (codes "check") || (bytes_eq w (codes "report") || bytes_eq w (codes "export"))))
    || ((bytes_eq w (codes "boot") || bytes_eq w (codes "verify"))
    || (bytes_eq w (codes "run") || (bytes_eq w (codes "judge") || (bytes_eq w (codes "watch") || bytes_eq w (codes "room")))))

-- the options that have no value
abbrev pub is_flag : List ℕ → Bool
is_flag w =
    (bytes_eq w (codes "--explain") || (bytes_eq w (codes "--json") || (bytes_eq w (codes "--strict") || bytes_eq w (codes "--margin"))))
    || ((bytes_eq w (codes "--take-over") || (bytes_eq w (codes "--no-identity") || (bytes_eq w (codes "--no-start") || (bytes_eq w (codes "--store") || bytes_eq w (codes "--restore")))))
    || (bytes_eq w (codes "--delta") || (bytes_eq w (codes "--help") || bytes_eq w (codes "--version"))))

-- an option whose value is the next word
abbrev pub takes_value : List ℕ → Bool
takes_value w = starts_with nat_eq w (codes "--") && (not (list_any (λ b. b == 61) w) && not (is_flag w))

-- a name that ends in .toml, and is no option
abbrev pub is_project : List ℕ → Bool
is_project w = ends_with nat_eq w (codes ".toml") && not (starts_with nat_eq w (codes "-"))

abbrev pub is_format : List ℕ → Bool
is_format w = bytes_eq w (codes "dbc") || bytes_eq w (codes "cdcf")

-- the tables may follow these words: of an export they do behind its format
abbrev pub is_behind_format : List (List ℕ) → Bool
is_behind_format words = not (bytes_eq (word_at words 1) (codes "export")) || list_any is_format words

-- the word at a place names a project file
abbrev pub names_project : List (List ℕ) → ℕ → Bool
names_project words i =
    nat_le 2 i && (takes_network (word_at words 1) && (is_project (word_at words i) && (not (takes_value (word_at words (i - 1))) && is_behind_format (take i words))))

-- ---- the words that stand in its place

-- a word that says what a project file says, too
abbrev pub is_said : List ℕ → Bool
is_said w =
    (bytes_eq w (codes "--rates") || (bytes_eq w (codes "--margin") || bytes_eq w (codes "--setup")))
    || (starts_with nat_eq w (codes "--rates=") || (starts_with nat_eq w (codes "--margin=") || starts_with nat_eq w (codes "--setup=")))

abbrev pub has_slash : List ℕ → Bool
has_slash [] = false
has_slash (b ∷ bs) = (b == 47) || has_slash bs

-- the folder of a file, with the slash behind it; empty where its name has none
abbrev pub folder_of : List ℕ → List ℕ
folder_of [] = []
folder_of (b ∷ bs) = if has_slash (b ∷ bs) then b ∷ folder_of bs else []

-- the name of a file in the folder of another, and as it is where it is absolute
abbrev pub beside : List ℕ → List ℕ → List ℕ
beside named name = if slice_index name 0 == 47 then name else folder_of named ++ name

-- one more rate, behind a comma where others stand before it
abbrev pub with_rate : List ℕ → Rate → List ℕ
with_rate text r = text ++ ((if length text == 0 then [] else codes ",") ++ decimal (kbits_of r))

abbrev pub rates_text : List ℕ → List Rate → List ℕ
rates_text text [] = text
rates_text text (r ∷ rs) = rates_text (with_rate text r) rs

abbrev pub choice_words : Choice → List (List ℕ)
choice_words Order = []
choice_words Margin = codes "--margin" ∷ []

-- the rates, if some are listed
abbrev pub rates_words : List Rate → List (List ℕ)
rates_words rates = if length rates == 0 then [] else codes "--rates" ∷ (rates_text [] rates ∷ [])

-- the table of settings, if one is named
abbrev pub setup_words : List ℕ → Option (List ℕ) → List (List ℕ)
setup_words named None = []
setup_words named (Some setup) = codes "--setup" ∷ (beside named setup ∷ [])

-- what a project file of a name stands for: the two tables, and the options
abbrev pub project_words : List ℕ → Says → List (List ℕ)
project_words named said = beside named said.nodes ∷ (beside named said.pdos ∷ (setup_words named said.setup ++ (rates_words said.rates ++ choice_words said.choice)))

-- the words with those that the project file at a place stands for
abbrev pub with_project : List (List ℕ) → ℕ → Says → List (List ℕ)
with_project words place said = take place words ++ (project_words (word_at words place) said ++ drop (place + 1) words)
