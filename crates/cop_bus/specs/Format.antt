-- The text of a trace: CSV with the fields kind, moment, id, event, bits, data.
use Rattle.std.specs.Prelude.{ℕ, List, [], ◌∷◌, ◌++◌, codes, decimal, map, take}
use Rattle.std.specs.List.{flat_map}
use Rattle.csv.specs.Writing.{row_text, default_writer}
use Rattle.hex.specs.Hex.{encode_upper}
use Rattle.cop_bus.specs.declared.steps.Step.{Step}
use Rattle.cop_bus.specs.declared.steps.Content.{Content}
use Rattle.cop_bus.specs.declared.steps.Step.TheVariants.{Queue, Start, End}

-- a record is a list of fields
abbrev pub Fields : Type 0
Fields = List (List ℕ)

abbrev pub header : Fields
header = codes "kind" ∷ codes "moment" ∷ codes "id" ∷ codes "event" ∷ codes "bits" ∷ codes "data" ∷ []

-- a frame's data bytes
abbrev pub bytes_of : Content → List ℕ
bytes_of frame = take frame.len frame.body

-- a record that queues nothing: its last three fields are empty
abbrev pub short : List ℕ → ℕ → ℕ → Fields
short kind at id = kind ∷ decimal at ∷ decimal id ∷ [] ∷ [] ∷ [] ∷ []

-- a queue step has all fields, its data as pairs of hexadecimal digits
abbrev pub queue_fields : ℕ → ℕ → ℕ → Content → Fields
queue_fields at id event frame = codes "queue" ∷ decimal at ∷ decimal id ∷ decimal event ∷ decimal frame.bits ∷ encode_upper (bytes_of frame) ∷ []

abbrev pub fields_of : Step → Fields
fields_of (Queue id at event frame) = queue_fields at id event frame
fields_of (Start id at) = short (codes "start") at id
fields_of (End id at) = short (codes "end") at id

-- the records of a trace: the last one tells its end
abbrev pub rows_of : ℕ → List Step → List Fields
rows_of until steps = header ∷ (map fields_of steps ++ (short (codes "until") until 0 ∷ []))

-- a record as a line: its fields with commas between them, and a line feed
unfoldable pub line : Fields → List ℕ
line fields = row_text default_writer fields

abbrev pub lines : List Fields → List ℕ
lines rows = flat_map line rows

-- the text of a trace
unfoldable pub text_of : ℕ → List Step → List ℕ
text_of until steps = lines (rows_of until steps)
