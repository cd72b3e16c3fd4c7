-- Where the objects of a PDO lie in its bytes (CiA 301, "PDO mapping parameter record").
use Rattle.std.specs.Prelude.{ℕ, ◌+◌, if◌then◌else◌, List, [], ◌∷◌, ◌++◌, Option, Some, None}
use Rattle.cop_dict.specs.declared.data_type.DataType.{DataType}
use Rattle.cop_dict.specs.declared.data_type.DataType.TheVariants as types
use Rattle.cop_dict.specs.declared.mapping.Direction.{Direction}
use Rattle.cop_dict.specs.declared.mapping.Mapped.{Mapped}
use Rattle.cop_dict.specs.Find.{Entry, entry_at}
use Rattle.cop_dict.specs.Mapping.{is_dummy}
use Rattle.cop_pdo.specs.Payload.{Layout}
use Rattle.cop_signals.specs.declared.places.Kind.{Kind}
use Rattle.cop_signals.specs.declared.places.Kind.TheVariants.{Unsigned, Signed, Real}
use Rattle.cop_signals.specs.declared.places.Signal.{Signal}

-- what number the values of a data type are
abbrev pub kind_of : DataType → Kind
kind_of types.Integer8 = Signed
kind_of types.Integer16 = Signed
kind_of types.Integer32 = Signed
kind_of types.Integer64 = Signed
kind_of types.Real32 = Real
kind_of types.Real64 = Real
kind_of _ = Unsigned

abbrev pub kind_by : Option Entry → Kind
kind_by None = Unsigned
kind_by (Some entry) = kind_of entry.description.data_type

-- what number a mapped object's value is
abbrev pub kind_at : List Entry → Mapped → Kind
kind_at dict mapped = kind_by (entry_at dict mapped.index mapped.sub)

-- the signal of an entry that begins at a bit; bits that go nowhere are none
abbrev pub signal_at : List Entry → Direction → ℕ → Mapped → List Signal
signal_at dict direction start mapped =
    if is_dummy direction mapped then []
    else record { index = mapped.index; sub = mapped.sub; start = start; bits = mapped.bits; kind = kind_at dict mapped } ∷ []

-- the signals of entries, each of which begins where the one before ends
abbrev pub signals_from : List Entry → Direction → ℕ → List Mapped → List Signal
signals_from dict direction start [] = []
signals_from dict direction start (mapped ∷ rest) =
    signal_at dict direction start mapped ++ signals_from dict direction (start + mapped.bits) rest

-- the signals of a PDO
abbrev pub signals_of : List Entry → Layout → List Signal
signals_of dict layout = signals_from dict layout.direction 0 layout.entries
