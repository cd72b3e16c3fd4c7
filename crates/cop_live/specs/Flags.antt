-- The status flags of an adapter (the text protocol of Lawicel's CAN232: `F`, and two digits in answer).
use Rattle.std.specs.Prelude.{◌≡◌, ◌⊎◌, ℕ, zero, suc, ◌+◌, ◌*◌, ◌/◌, ◌%◌, Bool, ◌||◌, List, [], ◌∷◌, ◌==◌, Option, Some, None, if◌then◌else◌}
use Rattle.hex.specs.Hex.{hex_digit_value}
use Rattle.cop_live.specs.declared.flags.FlagLine.{FlagLine}
use Rattle.cop_live.specs.declared.flags.FlagLine.TheVariants.{Begun, Letter, First, Second, Other}
use Rattle.cop_live.specs.Log.{ByteStep}

-- a digit more, or none
abbrev pub by_digit : (ℕ → FlagLine) → Option ℕ → FlagLine
by_digit line None = Other
by_digit line (Some value) = line value

-- a line and one byte more that does not end it
abbrev pub line_after : FlagLine → ℕ → FlagLine
line_after Begun byte = if byte == 70 then Letter else Other
line_after Letter byte = by_digit (λ value. First value) (hex_digit_value byte)
line_after (First first) byte = by_digit (λ value. Second (first * 16 + value)) (hex_digit_value byte)
line_after (Second flags) byte = Other
line_after Other byte = Other

-- the flags that a line tells which is whole
abbrev pub flags_told : FlagLine → Option ℕ
flags_told Begun = None
flags_told Letter = None
flags_told (First first) = None
flags_told (Second flags) = Some flags
flags_told Other = None

-- a line and one byte more: CR ends it, and BEL, and LF is passed over
abbrev pub flagged : FlagLine → ℕ → FlagLine × Option ℕ
flagged line byte =
    if byte == 13 then (Begun, flags_told line)
    else if byte == 7 then (Begun, None)
    else if byte == 10 then (line, None)
    else (line_after line byte, None)

-- the flags that a line's byte tells, or what the bytes behind it do
abbrev pub flags_by : FlagLine → Option ℕ → FlagLine × Option ℕ → FlagLine × Option ℕ
flags_by line None rest = rest
flags_by line (Some flags) rest = (line, Some flags)

-- the first flags that bytes tell, and the line that is begun then
abbrev pub flags_in : FlagLine → List ℕ → FlagLine × Option ℕ
flags_in line [] = (line, None)
flags_in line (byte ∷ bytes) = flags_by (flagged line byte).0 (flagged line byte).1 (flags_in (flagged line byte).0 bytes)

-- one thing where flags are told, and another where they are not
abbrev pub if_told : Option ℕ → Type 0 → Type 0 → Type 0
if_told None told untold = untold
if_told (Some flags) told untold = told

-- bytes are read until flags are told, in at most so many reads
unfoldable pub FlagsRead : {P : Type 0} → ByteStep P → ℕ → FlagLine → P → Option ℕ → P → Type 0
FlagsRead reads zero line p flags q = (flags ≡ None) × (p ≡ q)
FlagsRead {P} reads (suc more) line p flags q =
    (bytes : List ℕ) × (m : P) × reads p bytes m × if_told (flags_in line bytes).1 ((flags ≡ (flags_in line bytes).1) × (m ≡ q)) (FlagsRead reads more (flags_in line bytes).0 m flags q)

-- `F` asks for the flags
abbrev pub flags_command : List ℕ
flags_command = 70 ∷ 13 ∷ []

-- the adapter is asked for its flags, and these are told in at most four reads, or none are
pub record FlagsAsked {P : Type 0} (reads writes : ByteStep P) (p : P) (flags : Option ℕ) (q : P) : Type 0 where
  pub written : P
  pub writes_command : writes p flags_command written
  pub answers : FlagsRead reads 4 Begun written flags q

-- a read failed before flags were told, of so many reads at most
unfoldable pub FlagsUnread : {P : Type 0} → ByteStep P → ByteStep P → ℕ → FlagLine → P → P → Type 0
FlagsUnread reads fails zero line p q = ⊥
FlagsUnread {P} reads fails (suc more) line p q =
    fails p [] q ⊎ ((bytes : List ℕ) × (m : P) × reads p bytes m × if_told (flags_in line bytes).1 ⊥ (FlagsUnread reads fails more (flags_in line bytes).0 m q))

-- the adapter was not asked for its flags, or its answer was not read
abbrev pub FlagsFail : {P : Type 0} → ByteStep P → ByteStep P → ByteStep P → P → P → Type 0
FlagsFail {P} reads writes fails p q = fails p flags_command q ⊎ ((m : P) × writes p flags_command m × FlagsUnread reads fails 4 Begun m q)

-- a flag tells of errors on the bus: a warning (bit 2), the passive state (bit 5), or a bus error (bit 7)
abbrev pub is_erroneous : ℕ → Bool
is_erroneous flags = (flags / 4 % 2 == 1) || ((flags / 32 % 2 == 1) || (flags / 128 % 2 == 1))

abbrev pub error_in : Option ℕ → Option ℕ
error_in None = None
error_in (Some flags) = if is_erroneous flags then Some flags else None
