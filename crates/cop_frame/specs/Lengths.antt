use Rattle.std.specs.Prelude.{ℕ, ◌+◌, ◌*◌, ◌==◌, if◌then◌else◌}

-- The bits of a frame of so many data bytes, with no stuff bit and with the most. A disturbed transfer counts as one of 9 bytes: it takes one
-- bit at least, and at most the longest frame and the recovery of 31 bits.
unfoldable pub least_bits : ℕ → ℕ
least_bits bytes = if bytes == 9 then 1 else 47 + 8 * bytes

unfoldable pub worst_bits : ℕ → ℕ
worst_bits bytes = if bytes == 9 then 166 else 55 + 10 * bytes
