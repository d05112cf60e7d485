-- The parameters of scans that examples are computed with.
use Rattle.std.proofs.Common.{ℕ}
use Rattle.jls_values.specs.Params.{CodingParameters}

-- 8 bits, with the default thresholds, and with this RESET
abbrev pub eight_bits : ℕ → CodingParameters
eight_bits reset = record { precision = 8; maxval = 255; t1 = 3; t2 = 7; t3 = 21; reset = reset }

-- samples of 0 and 1
abbrev pub one_bit : CodingParameters
one_bit = record { precision = 2; maxval = 1; t1 = 1; t2 = 1; t3 = 1; reset = 64 }

-- samples from 0 to 2
abbrev pub three_values : CodingParameters
three_values = record { precision = 2; maxval = 2; t1 = 1; t2 = 2; t3 = 2; reset = 64 }

-- 16 bits, with the default thresholds
abbrev pub sixteen_bits : CodingParameters
sixteen_bits = record { precision = 16; maxval = 65535; t1 = 18; t2 = 67; t3 = 276; reset = 64 }
