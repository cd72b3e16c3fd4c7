-- Lines that are written to an adapter (the text protocol of Lawicel's CAN232, which most adapters speak).
use Rattle.std.specs.Prelude.{ℕ, ◌/◌, ◌%◌, List, [], ◌∷◌, ◌++◌, slice_index, take}
use Rattle.hex.specs.Hex.{upper_digits, encode_upper}
use Rattle.cop_sdo.specs.Message.{Message}
use Rattle.cop_frame.specs.declared.rates.Rate.{Rate}
use Rattle.cop_frame.specs.declared.rates.Rate.TheVariants.{Kbit10, Kbit20, Kbit50, Kbit125, Kbit250, Kbit500, Kbit800, Kbit1000}

-- a digit of the base 16
abbrev pub digit : ℕ → ℕ
digit value = slice_index upper_digits value

-- `t`, three digits of the identifier, and the length
abbrev pub head_of : Message → List ℕ
head_of frame = 116 ∷ digit (frame.id / 256) ∷ digit (frame.id / 16 % 16) ∷ digit (frame.id % 16) ∷ digit frame.len ∷ []

-- the head, two digits for each byte
abbrev pub text_of : Message → List ℕ
text_of frame = head_of frame ++ encode_upper (take frame.len frame.body)

-- and CR
abbrev pub line_of : Message → List ℕ
line_of frame = text_of frame ++ 13 ∷ []

-- the digit of a rate in the command `S`: 0 to 8 are 10, 20, 50, 100, 125, 250, 500, 800 and 1000 kbit/s
abbrev pub rate_digit : Rate → ℕ
rate_digit Kbit10 = 48
rate_digit Kbit20 = 49
rate_digit Kbit50 = 50
rate_digit Kbit125 = 52
rate_digit Kbit250 = 53
rate_digit Kbit500 = 54
rate_digit Kbit800 = 55
rate_digit Kbit1000 = 56
