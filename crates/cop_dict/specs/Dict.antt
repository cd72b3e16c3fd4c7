-- What a read, a write or a reset of a dictionary gives.
use Rattle.std.specs.Prelude.{ℕ, ◌≡◌, ◌<◌, false, ◌&&◌, option_map, List, map, ◌==◌, if◌then◌else◌, Option, Some, None, Result, Ok, Err, IfSome, IsSome, IsOk, length}
use Rattle.std.specs.List.{list_any}
use Rattle.std.specs.Option.{ForSome, option_or}
use Rattle.cop_dict.specs.declared.abort.Abort.{Abort}
use Rattle.cop_dict.specs.declared.abort.Abort.TheVariants as aborts
use Rattle.cop_dict.specs.Types.{width_of}
use Rattle.cop_dict.specs.Number.{number}
use Rattle.cop_dict.specs.Rules.{first_broken, read_rules, value_rules, access_rules}
use Rattle.cop_dict.specs.Find.{Entry, is_at, entry_at}
use Rattle.cop_dict.specs.Mapping.{is_between}
use Rattle.cop_dict.specs.Pdo.{is_cob_id, cob_id_rules, refused_by_pdos}

infixl 10 ◌>>=◌
abbrev pub ◌>>=◌ : {A B : Type 0} → Result A Abort → (A → Result B Abort) → Result B Abort
(Ok x) >>= f = f x
(Err e) >>= f = Err e

-- what stands there, or why nothing does
abbrev pub found : List Entry → ℕ → Option Entry → Result Entry Abort
found dict index None = Err (if list_any (λ entry. entry.index == index) dict then aborts.NoSub else aborts.NoObject)
found dict index (Some entry) = Ok entry

-- the value, where no rule is broken
abbrev pub unless_broken : {A : Type 0} → Option Abort → A → Result A Abort
unless_broken None value = Ok value
unless_broken (Some abort) value = Err abort

-- the bytes that a read gives
unfoldable pub read_of : List Entry → ℕ → ℕ → Result (List ℕ) Abort
read_of dict index sub = do
  entry ← found dict index (entry_at dict index sub)
  unless_broken (first_broken (read_rules entry.description)) entry.value

abbrev pub valued : List ℕ → Entry → Entry
valued bytes entry = record entry { value = bytes }

-- the dictionary with another value at an index and a sub
abbrev pub with_value : ℕ → ℕ → List ℕ → List Entry → List Entry
with_value index sub bytes dict = map (λ entry. if is_at index sub entry then valued bytes entry else entry) dict

-- the dictionary after a write
unfoldable pub written : List Entry → ℕ → ℕ → List ℕ → Result (List Entry) Abort
written dict index sub bytes = do
  entry ← found dict index (entry_at dict index sub)
  checked ← unless_broken (first_broken (value_rules entry.description bytes)) entry
  unless_broken (refused_by_pdos dict checked bytes) (with_value index sub bytes dict)

-- the width of what may be written there, by what is known before the bytes come: the object, its access, and the size where one is stated
unfoldable pub admitted : List Entry → ℕ → ℕ → Option ℕ → Result (Option ℕ) Abort
admitted dict index sub size = do
  entry ← found dict index (entry_at dict index sub)
  unless_broken (first_broken (access_rules entry.description size)) (width_of entry.description.data_type)

abbrev pub as_built : Entry → Entry
as_built entry = record entry { value = entry.initial }

-- each entry with its initial value
abbrev pub initial : List Entry → List Entry
initial dict = map as_built dict

-- with the initial value in the communication profile area alone (CiA 301, "NMT service reset communication")
abbrev pub reset_communication : Entry → Entry
reset_communication entry = if is_between 0x1000 0x1FFF entry.index then as_built entry else entry

abbrev pub initial_communication : List Entry → List Entry
initial_communication dict = map reset_communication dict

-- all values that may stand there have one width
abbrev pub HasWidth : List Entry → ℕ → ℕ → Type 0
HasWidth dict index sub = IfSome (entry_at dict index sub) (λ entry. IsSome (width_of entry.description.data_type))

-- an entry of one width is there, and the bytes are as many
abbrev pub FitsAt : List Entry → ℕ → ℕ → List ℕ → Type 0
FitsAt dict index sub bytes = option_map (λ entry. width_of entry.description.data_type) (entry_at dict index sub) ≡ Some (Some (length bytes))

-- an entry's values have the width of its type
abbrev pub IsSized : Entry → Type 0
IsSized entry = ForSome (width_of entry.description.data_type) (λ width. (length entry.initial ≡ width) × (length entry.value ≡ width))

-- what a call of read gave
abbrev pub Reads : {X : Type 0} → (X → List ℕ) → Result X Abort → Result (List ℕ) Abort → Type 0
Reads view (Ok bytes) outcome = outcome ≡ Ok (view bytes)
Reads view (Err abort) outcome = outcome ≡ Err abort

-- the bytes are more than an entry has room for from its initial value on
abbrev pub Grows : List Entry → ℕ → ℕ → List ℕ → Type 0
Grows dict index sub bytes = IfSome (entry_at dict index sub) (λ entry. length entry.initial < length bytes)

-- memory is wanted only for what no rule refuses, and any other refusal is the outcome's
abbrev pub Refuses : Abort → Result (List Entry) Abort → Type 0
Refuses aborts.NoMemory outcome = IsOk outcome
Refuses abort outcome = outcome ≡ Err abort

-- what a call of write gave, and left
abbrev pub Writes : {X : Type 0} → Result X Abort → List Entry → List Entry → Result (List Entry) Abort → Type 0
Writes (Ok _) old new outcome = outcome ≡ Ok new
Writes (Err abort) old new outcome = Refuses abort outcome × (new ≡ old)

-- what a call of write gave, and left, is the outcome
abbrev pub Follows : {X : Type 0} → Result X Abort → List Entry → Result (List Entry) Abort → Type 0
Follows (Ok _) new outcome = outcome ≡ Ok new
Follows (Err abort) new outcome = outcome ≡ Err abort

-- the value at an index and a sub is these bytes now, the rest of that entry is as it was, and so is each other entry
pub record Replaces (old new : List Entry) (index sub : ℕ) (bytes : List ℕ) : Type 0 where
  pub there : option_map (λ entry. entry.value) (entry_at new index sub) ≡ Some bytes
  pub kept : entry_at new index sub ≡ option_map (valued bytes) (entry_at old index sub)
  pub others : (other part : ℕ) → (index == other) && (sub == part) ≡ false → entry_at new other part ≡ entry_at old other part

-- the first rule that a write to an entry breaks, seen of the entry alone
abbrev pub refused_alone : Entry → List ℕ → Option Abort
refused_alone entry bytes =
    option_or (first_broken (value_rules entry.description bytes)) (if is_cob_id entry then first_broken (cob_id_rules entry (number bytes)) else None)
