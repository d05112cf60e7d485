-- The definitions of specs/ computed on small examples.
use Rattle.std.proofs.Common.{◌≡◌, true, false, [], ◌∷◌, ◌++◌, replicate, refl, lit<}
use Rattle.jls_bits.specs.Bits.{bits, value_of_bits, width_after, ends_data, bits_read_after, is_whole_after, bits_read, is_whole}
use Rattle.jls_bits.specs.Golomb.{golomb, has_golomb}
use Rattle.jls_bits.specs.Pad.{pad_after, pad}
use Rattle.jls_bits.specs.Front.{IsFront}

-- the low bits of numbers, and back
bits_of_five : bits 4 5 ≡ false ∷ true ∷ false ∷ true ∷ []
unfolding bits
bits_of_five = refl

low_bits_alone : bits 2 7 ≡ true ∷ true ∷ []
unfolding bits
low_bits_alone = refl

value_of_five : value_of_bits (false ∷ true ∷ false ∷ true ∷ []) ≡ 5
unfolding value_of_bits
value_of_five = refl

-- 0xFF 0x7F carry 15 ones; 0xFF 0x80 0x00 and 0xFF 0xFF carry 8, and aren't whole
seven_after_ff : bits_read (255 ∷ 127 ∷ []) ≡ replicate 15 true
unfolding bits width_after ends_data bits_read_after
seven_after_ff = refl

whole_after_ff : is_whole (255 ∷ 127 ∷ []) ≡ true
unfolding ends_data is_whole_after
whole_after_ff = refl

stopped_at_80 : bits_read (255 ∷ 128 ∷ 0 ∷ []) ≡ replicate 8 true
unfolding bits width_after ends_data bits_read_after
stopped_at_80 = refl

not_whole_at_80 : is_whole (255 ∷ 128 ∷ 0 ∷ []) ≡ false
unfolding ends_data is_whole_after
not_whole_at_80 = refl

stopped_at_ff : bits_read (255 ∷ 255 ∷ []) ≡ replicate 8 true
unfolding bits width_after ends_data bits_read_after
stopped_at_ff = refl

not_whole_at_ff : is_whole (255 ∷ 255 ∷ []) ≡ false
unfolding ends_data is_whole_after
not_whole_at_ff = refl

-- 0x80 and more end nothing after another byte than 0xFF
eight_after_80 : bits_read (128 ∷ 129 ∷ []) ≡ true ∷ replicate 7 false ++ true ∷ replicate 6 false ++ true ∷ []
unfolding bits width_after ends_data bits_read_after
eight_after_80 = refl

nothing_read : bits_read [] ≡ []
unfolding bits_read_after
nothing_read = refl

-- 8 ones are 0xFF 0x00, 9 ones 0xFF 0x40, 15 ones 0xFF 0x7F, 3 ones 0xE0
pad_of_none : pad [] ≡ []
unfolding value_of_bits width_after pad_after
pad_of_none = refl

pad_of_3 : pad (replicate 3 true) ≡ 224 ∷ []
unfolding value_of_bits width_after pad_after
pad_of_3 = refl

pad_of_8 : pad (replicate 8 true) ≡ 255 ∷ 0 ∷ []
unfolding value_of_bits width_after pad_after
pad_of_8 = refl

pad_of_9 : pad (replicate 9 true) ≡ 255 ∷ 64 ∷ []
unfolding value_of_bits width_after pad_after
pad_of_9 = refl

pad_of_15 : pad (replicate 15 true) ≡ 255 ∷ 127 ∷ []
unfolding value_of_bits width_after pad_after
pad_of_15 = refl

-- k 2, g 32, qbpp 8: 32 is eight zeros, a one, 00; 91 is the last short code, 92 and 256 the escape's first and last
golomb_of_32 : golomb 2 32 8 32 ≡ replicate 8 false ++ true ∷ false ∷ false ∷ []
unfolding bits golomb
golomb_of_32 = refl

golomb_of_91 : golomb 2 32 8 91 ≡ replicate 22 false ++ true ∷ true ∷ true ∷ []
unfolding bits golomb
golomb_of_91 = refl

golomb_of_92 : golomb 2 32 8 92 ≡ replicate 23 false ++ true ∷ false ∷ true ∷ false ∷ true ∷ true ∷ false ∷ true ∷ true ∷ []
unfolding bits golomb
golomb_of_92 = refl

golomb_of_94 : golomb 2 32 8 94 ≡ replicate 23 false ++ true ∷ false ∷ true ∷ false ∷ true ∷ true ∷ true ∷ false ∷ true ∷ []
unfolding bits golomb
golomb_of_94 = refl

golomb_of_256 : golomb 2 32 8 256 ≡ replicate 23 false ++ replicate 9 true
unfolding bits golomb
golomb_of_256 = refl

no_code_of_257 : has_golomb 2 32 8 257 ≡ false
no_code_of_257 = refl

-- k 0: 0 is a one alone. k 16 gives short codes above 2^qbpp
golomb_of_0 : golomb 0 32 8 0 ≡ true ∷ []
unfolding bits golomb
golomb_of_0 = refl

golomb_of_65537 : golomb 16 32 8 65537 ≡ false ∷ true ∷ replicate 15 false ++ true ∷ []
unfolding bits golomb
golomb_of_65537 = refl

code_of_65537 : has_golomb 16 32 8 65537 ≡ true
code_of_65537 = refl

-- g = qbpp + 2: one zero announces an escape, and numbers of quotient 0 alone are short
golomb_of_1 : golomb 0 3 1 1 ≡ false ∷ true ∷ false ∷ []
unfolding bits golomb
golomb_of_1 = refl

-- 9 ones fill 0xFF, and one is over; 15 ones fill 0xFF 0x7F. 7 ones fill no byte
front_of_9 : IsFront (replicate 9 true) (255 ∷ [])
unfolding bits width_after ends_data bits_read_after is_whole_after
front_of_9 = record { filled = record { are_bytes = (lit< tt, tt); whole = refl }; over = true ∷ []; given_is = refl; few = lit< tt }

front_of_15 : IsFront (replicate 15 true) (255 ∷ 127 ∷ [])
unfolding bits width_after ends_data bits_read_after is_whole_after
front_of_15 = record { filled = record { are_bytes = (lit< tt, (lit< tt, tt)); whole = refl }; over = []; given_is = refl; few = lit< tt }

front_of_7 : IsFront (replicate 7 true) []
unfolding bits width_after ends_data bits_read_after is_whole_after
front_of_7 = record { filled = record { are_bytes = tt; whole = refl }; over = replicate 7 true; given_is = refl; few = lit< tt }
