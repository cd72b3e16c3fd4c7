-- How an object may be read and written.
use Rattle.std.specs.Prelude.{ℕ, List, codes, if◌then◌else◌, Option, Some, None}
use Rattle.cop_eds.specs.declared.description.Access.{Access}
use Rattle.cop_eds.specs.declared.description.Access.TheVariants.{ReadOnly, WriteOnly, ReadWrite, ReadWriteInput, ReadWriteOutput, Constant}
use Rattle.cop_eds.specs.Text.{same_name}

-- the access that a word names (CiA 306)
abbrev pub access_of : List ℕ → Option Access
access_of word =
    if same_name word (codes "ro") then Some ReadOnly
    else if same_name word (codes "wo") then Some WriteOnly
    else if same_name word (codes "rw") then Some ReadWrite
    else if same_name word (codes "rwr") then Some ReadWriteInput
    else if same_name word (codes "rww") then Some ReadWriteOutput
    else if same_name word (codes "const") then Some Constant
    else None
