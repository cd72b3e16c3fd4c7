-- COB-IDs of PDOs (CiA 301, "PDO communication parameter record").
use Rattle.std.specs.Prelude.{ℕ, ◌+◌, ◌*◌, ◌/◌, ◌%◌, ◌^◌}

-- the COB-ID of a PDO that is switched off: bit 31 is set
abbrev pub off : ℕ → ℕ
off cob_id = 2 ^ 31 + cob_id % 2 ^ 31

-- the COB-ID of a PDO that exists with an identifier: bit 30 stays
abbrev pub on : ℕ → ℕ → ℕ
on cob_id id = cob_id / 2 ^ 30 % 2 * 2 ^ 30 + id
