-- The codes that SDO aborts carry (CiA 301, "SDO abort codes").
use Rattle.std.specs.Prelude.{ℕ}
use Rattle.cop_dict.specs.declared.abort.Abort.{Abort}
use Rattle.cop_dict.specs.declared.abort.Abort.TheVariants as aborts

abbrev pub code_of : Abort → ℕ
code_of aborts.NoMemory = 0x0504_0005
code_of aborts.Toggle = 0x0503_0000
code_of aborts.TimeOut = 0x0504_0000
code_of aborts.Command = 0x0504_0001
code_of aborts.NoSize = 0x0607_0010
code_of aborts.OpaqueType = 0x0601_0000
code_of aborts.WriteOnly = 0x0601_0001
code_of aborts.ReadOnly = 0x0601_0002
code_of aborts.NoObject = 0x0602_0000
code_of aborts.NoSub = 0x0609_0011
code_of aborts.TooLong = 0x0607_0012
code_of aborts.TooShort = 0x0607_0013
code_of aborts.AboveLimit = 0x0609_0031
code_of aborts.BelowLimit = 0x0609_0032
code_of aborts.InvalidValue = 0x0609_0030
code_of aborts.NotMappable = 0x0604_0041
code_of aborts.MappingTooLong = 0x0604_0042
code_of aborts.DeviceState = 0x0800_0022
