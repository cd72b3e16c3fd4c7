-- What a project file says.
use Rattle.std.specs.Prelude.{ℕ, ℤ, pos, negsuc, Bool, not, ◌&&◌, ◌||◌, ◌==◌, nat_lt, List, [], ◌∷◌, ◌++◌, length, codes, slice_index, if◌then◌else◌, Option, Some, None, option_map, option_and_then, Result, Ok, Err}
use Rattle.std.specs.List.{list_any}
use Rattle.std.specs.Option.{ok_or}
use Rattle.std.specs.Str.{is_utf8, bytes_eq}
use Rattle.std.specs.String.{string_bytes}
use Rattle.cop_frame.specs.declared.rates.Rate.{Rate}
use Rattle.cop_frame.specs.declared.rates.Rate.TheVariants.{Kbit10, Kbit20, Kbit50, Kbit125, Kbit250, Kbit500, Kbit800, Kbit1000}
use Rattle.toml.specs.Data.{Data, Items, no_items, item, Members, no_members, member, get_member, as_str, as_integer, as_array}
use Rattle.toml.specs.Parse.{parse_document}
use Rattle.cop_project.specs.declared.project.Choice.{Choice}
use Rattle.cop_project.specs.declared.project.Choice.TheVariants.{Order, Margin}
use Rattle.cop_project.specs.declared.project.Rule.{Rule}
use Rattle.cop_project.specs.declared.project.Rule.TheVariants.{Key, Value}
use Rattle.cop_project.specs.declared.project.Project.{Project}

-- what a project file says, as texts and rates
pub record Says : Type 0 where
  pub nodes : List ℕ
  pub pdos : List ℕ
  pub setup : Option (List ℕ)
  pub rates : List Rate
  pub choice : Choice

-- what a project that was read says
abbrev pub says : Project → Says
says p = record { nodes = string_bytes p.nodes; pdos = string_bytes p.pdos; setup = option_map string_bytes p.setup; rates = p.rates.items; choice = p.choice }

infixl 10 ◌>>=◌
abbrev ◌>>=◌ : {A B E : Type 0} → Result A E → (A → Result B E) → Result B E
Ok x >>= f = f x
Err e >>= f = Err e

-- ---- keys

abbrev pub is_key : List ℕ → Bool
is_key k = bytes_eq k (codes "nodes") || (bytes_eq k (codes "pdos") || (bytes_eq k (codes "setup") || (bytes_eq k (codes "rates") || bytes_eq k (codes "choice"))))

-- the first key that is another one
abbrev pub unknown_key : Members → Option (List ℕ)
unknown_key no_members = None
unknown_key (member k d rest) = if is_key k then unknown_key rest else Some k

-- ---- names

-- a control code, which the name of a file does not have here
abbrev pub is_control : ℕ → Bool
is_control b = nat_lt b 32 || (b == 127)

-- a word that stands for a file: not empty, no option, and with no control code
abbrev pub is_name : List ℕ → Bool
is_name s = not (length s == 0) && (not (slice_index s 0 == 45) && not (list_any is_control s))

abbrev pub name_in : List ℕ → Result (List ℕ) Rule
name_in s = if is_name s then Ok s else Err Value

-- the name at a key, which has to be there
abbrev pub name_at : List ℕ → Members → Result (List ℕ) Rule
name_at k ms = ok_or (option_and_then as_str (get_member k ms)) Key >>= name_in

-- the name at a key that may be there
abbrev pub name_of : Option Data → Result (Option (List ℕ)) Rule
name_of None = Ok None
name_of (Some d) = ok_or (as_str d) Key >>= (λ s. name_in s >>= (λ s. Ok (Some s)))

-- ---- rates

abbrev pub rate_of_kbits : ℕ → Option Rate
rate_of_kbits n =
    if n == 10 then Some Kbit10 else if n == 20 then Some Kbit20 else if n == 50 then Some Kbit50 else if n == 125 then Some Kbit125 else
    if n == 250 then Some Kbit250 else if n == 500 then Some Kbit500 else if n == 800 then Some Kbit800 else if n == 1000 then Some Kbit1000 else None

-- the rate of so many kbit/s
abbrev pub rate_of : ℤ → Option Rate
rate_of (pos n) = rate_of_kbits n
rate_of (negsuc n) = None

abbrev pub rate_in : Data → Result Rate Rule
rate_in d = ok_or (as_integer d) Key >>= (λ z. ok_or (rate_of z) Value)

-- the rates of a list, behind those found
abbrev pub rates_from : List Rate → Items → Result (List Rate) Rule
rates_from found no_items = Ok found
rates_from found (item d ds) = rate_in d >>= (λ r. rates_from (found ++ r ∷ []) ds)

-- a list has one rate at least
abbrev pub rates_in : Items → Result (List Rate) Rule
rates_in no_items = Err Value
rates_in (item d ds) = rates_from [] (item d ds)

-- those that a plan may have; none are listed where the key is not there
abbrev pub rates_of : Option Data → Result (List Rate) Rule
rates_of None = Ok []
rates_of (Some d) = ok_or (as_array d) Key >>= rates_in

-- ---- the choice

abbrev pub choice_in : List ℕ → Result Choice Rule
choice_in s = if bytes_eq s (codes "order") then Ok Order else if bytes_eq s (codes "margin") then Ok Margin else Err Value

abbrev pub choice_of : Option Data → Result Choice Rule
choice_of None = Ok Order
choice_of (Some d) = ok_or (as_str d) Key >>= choice_in

-- ---- the file

-- a rule, and the key that breaks it
abbrev pub Broken : Type 0
Broken = Rule × List ℕ

abbrev pub at_key : {A : Type 0} → List ℕ → Result A Rule → Result A Broken
at_key k (Ok x) = Ok x
at_key k (Err rule) = Err (rule, k)

-- what the keys say, or the first rule that one of them breaks
unfoldable pub said_by : Members → Result Says Broken
said_by ms =
    at_key (codes "nodes") (name_at (codes "nodes") ms) >>= (λ nodes.
    at_key (codes "pdos") (name_at (codes "pdos") ms) >>= (λ pdos.
    at_key (codes "setup") (name_of (get_member (codes "setup") ms)) >>= (λ setup.
    at_key (codes "rates") (rates_of (get_member (codes "rates") ms)) >>= (λ rates.
    at_key (codes "choice") (choice_of (get_member (codes "choice") ms)) >>= (λ choice.
    Ok (record { nodes = nodes; pdos = pdos; setup = setup; rates = rates; choice = choice }))))))

abbrev pub unless_unknown : Option (List ℕ) → Result Says Broken → Result Says Broken
unless_unknown None said = said
unless_unknown (Some k) said = Err (Key, k)

abbrev pub project_in : Members → Result Says Broken
project_in ms = unless_unknown (unknown_key ms) (said_by ms)

-- the table that a text is, if it is TOML
abbrev pub table_of : List ℕ → Option Members
table_of text = if is_utf8 text then parse_document text else None

-- what a text says, if it is TOML
abbrev pub project_of : List ℕ → Option (Result Says Broken)
project_of text = option_map project_in (table_of text)
