-- The words that makers write for kinds of objects, types and accesses.
use Rattle.std.specs.Prelude.{ℕ, Bool, not, ◌||◌, ◌&&◌, ◌==◌, List, length, filter, codes, if◌then◌else◌, Option, Some, None, Result, Ok, Err}
use Rattle.std.specs.Option.{option_or, option_and_then}
use Rattle.cop_eds.specs.declared.description.Access.{Access}
use Rattle.cop_eds.specs.declared.description.Access.TheVariants.{ReadOnly, WriteOnly, ReadWrite, ReadWriteInput, ReadWriteOutput, Constant}
use Rattle.cop_eds.specs.Text.{is_blank, same_name}
use Rattle.cop_eds.specs.declared.description.ObjectType.{ObjectType}
use Rattle.cop_eds.specs.Number.{number_in}
use Rattle.cop_eds.specs.Description.{object_type_of}
use Rattle.cop_tidy_lines.specs.declared.choices.Digits.{Digits}
use Rattle.cop_tidy_lines.specs.declared.numerals.Unclear.{Unclear}
use Rattle.cop_tidy_lines.specs.Numerals.{is_octal_too, readable, number_meant}

-- blanks, underlines and hyphens, by which words are divided
abbrev pub is_joint : ℕ → Bool
is_joint b = is_blank b || ((b == 95) || (b == 45))

-- a word without them
unfoldable pub undivided : List ℕ → List ℕ
undivided text = filter (λ b. not (is_joint b)) text

-- a word is one of three
abbrev pub is_one_of : List ℕ → List ℕ → List ℕ → List ℕ → Bool
is_one_of word a b c = same_name word a || (same_name word b || same_name word c)

-- the number of the object type that a word names (CiA 301)
unfoldable pub named_object_type : List ℕ → Option ℕ
named_object_type word =
    if same_name word (codes "null") then Some 0
    else if same_name word (codes "domain") then Some 2
    else if same_name word (codes "deftype") then Some 5
    else if same_name word (codes "defstruct") then Some 6
    else if same_name word (codes "var") || same_name word (codes "variable") then Some 7
    else if same_name word (codes "array") then Some 8
    else if same_name word (codes "record") then Some 9
    else None

-- the number of a data type that a word names (CiA 301): of the integers without a sign
unfoldable pub named_unsigned : List ℕ → Option ℕ
named_unsigned word =
    if is_one_of word (codes "unsigned8") (codes "uint8") (codes "u8") then Some 5
    else if is_one_of word (codes "unsigned16") (codes "uint16") (codes "u16") then Some 6
    else if is_one_of word (codes "unsigned32") (codes "uint32") (codes "u32") then Some 7
    else if is_one_of word (codes "unsigned64") (codes "uint64") (codes "u64") then Some 0x1B
    else None

-- of the integers with a sign
unfoldable pub named_signed : List ℕ → Option ℕ
named_signed word =
    if is_one_of word (codes "integer8") (codes "int8") (codes "i8") || same_name word (codes "s8") then Some 2
    else if is_one_of word (codes "integer16") (codes "int16") (codes "i16") || same_name word (codes "s16") then Some 3
    else if is_one_of word (codes "integer32") (codes "int32") (codes "i32") || same_name word (codes "s32") then Some 4
    else if is_one_of word (codes "integer64") (codes "int64") (codes "i64") || same_name word (codes "s64") then Some 0x15
    else None

-- of the others
unfoldable pub named_other_type : List ℕ → Option ℕ
named_other_type word =
    if same_name word (codes "boolean") || same_name word (codes "bool") then Some 1
    else if same_name word (codes "real32") then Some 8
    else if same_name word (codes "visiblestring") then Some 9
    else if same_name word (codes "octetstring") then Some 0xA
    else if same_name word (codes "domain") then Some 0xF
    else if same_name word (codes "real64") then Some 0x11
    else None

-- the number of the data type that a word names (CiA 301)
abbrev pub named_data_type : List ℕ → Option ℕ
named_data_type word = option_or (named_unsigned word) (option_or (named_signed word) (named_other_type word))

-- the words for ro (CiA 306, AccessType)
abbrev pub is_read_word : List ℕ → Bool
is_read_word word = same_name word (codes "ro") || (same_name word (codes "r") || is_one_of word (codes "read") (codes "readonly") (codes "r/o"))

-- the words for wo (CiA 306, AccessType)
abbrev pub is_write_word : List ℕ → Bool
is_write_word word = same_name word (codes "wo") || (same_name word (codes "w") || is_one_of word (codes "write") (codes "writeonly") (codes "w/o"))

-- the words for rw (CiA 306, AccessType)
abbrev pub is_both_word : List ℕ → Bool
is_both_word word =
    (same_name word (codes "rw") || same_name word (codes "wr")) || is_one_of word (codes "r/w") (codes "readwrite") (codes "read/write")

-- the words for const (CiA 306, AccessType)
abbrev pub is_constant_word : List ℕ → Bool
is_constant_word word = same_name word (codes "const") || is_one_of word (codes "c") (codes "cst") (codes "constant")

-- the access that a word names (CiA 306)
unfoldable pub named_access : List ℕ → Option Access
named_access word =
    if is_read_word word then Some ReadOnly
    else if is_write_word word then Some WriteOnly
    else if is_both_word word then Some ReadWrite
    else if same_name word (codes "rwr") then Some ReadWriteInput
    else if same_name word (codes "rww") then Some ReadWriteOutput
    else if is_constant_word word then Some Constant
    else None

-- the access that a text names in any spelling
abbrev pub access_meant : List ℕ → Option Access
access_meant text = named_access (undivided text)

-- the kind that a number states
abbrev pub kind_numbered : Result ℕ Unclear → Option ObjectType
kind_numbered (Ok n) = object_type_of n
kind_numbered (Err unclear) = None

-- the kind of object that a text states, by its number or a word
unfoldable pub object_type_meant : Option Digits → List ℕ → Option ObjectType
object_type_meant choice text =
    option_or (kind_numbered (number_meant choice text)) (option_and_then object_type_of (named_object_type (undivided text)))

-- four digits that CiA 306 would read as octal are hexadecimal in a data type: it writes 0x0010
abbrev pub is_bare_type : List ℕ → Bool
is_bare_type text = (length text == 4) && is_octal_too text

-- what a word names, else what the text is as a number
abbrev pub named_or : Option ℕ → Result ℕ Unclear → Result ℕ Unclear
named_or (Some n) other = Ok n
named_or None other = other

-- the number of the data type that a text states, by its number or a word
unfoldable pub data_type_meant : Option Digits → List ℕ → Result ℕ Unclear
data_type_meant choice text =
    if is_bare_type text then readable (number_in 16 text) else named_or (named_data_type (undivided text)) (number_meant choice text)
