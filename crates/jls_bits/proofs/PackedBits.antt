-- Bits that wait for whole bytes, up to 64 of them: the next byte is taken from their start.
use Rattle.std.proofs.Common.{◌≡◌, ℕ, ◌+◌, ◌-◌, ◌*◌, ◌/◌, ◌%◌, ◌^◌, ◌<◌, ◌≤◌, Bool, false, List, [], ◌∷◌, ◌++◌, replicate, sym, ap, ◌∙◌}
use Rattle.std.proofs.Common.{subst, arith, append_assoc}
use mir.Val.{bool_byte}
use Rattle.std.proofs.lemmas.List.{replicate-append-replicate}
use Rattle.std.proofs.lemmas.Nat.{pow_pos, mod_below, shr_below}
use Rattle.jls_bits.specs.Bits.{bits, width_after, bits_read}
use Rattle.jls_bits.specs.Appending.{last_after, AreFilled}
use Rattle.jls_bits.proofs.NumberBits.{bits_split, bits_none, bits_push_bool}
use Rattle.jls_bits.proofs.Appending.{filled_more}
use Rattle.jls_bits.proofs.Padding.{zero_bits}
use Rattle.jls_bits.proofs.ChunkBits.{joined_bits, joined_small, low_bits, shifted}

-- a number's bits after those that wait
module _ (count waiting n value : ℕ) (few : count + n < 64) (small : waiting < 2 ^ count) (low : value < 2 ^ n) where
  pub waiting_shifted : (waiting * 2 ^ n % 18446744073709551616 ≡ waiting * 2 ^ n) × (waiting * 2 ^ n + value < 18446744073709551616)
  waiting_shifted = shifted count n waiting value (omega arith) small low

  pub waiting_small : waiting * 2 ^ n % 18446744073709551616 + value < 2 ^ (count + n)
  waiting_small = subst (λ z. z + value < 2 ^ (count + n)) (sym waiting_shifted.0) (joined_small count n waiting value small low)

  -- bits appended to those that wait
  pub waiting_bits : (given : List Bool) → given ++ bits (count + n) (waiting * 2 ^ n % 18446744073709551616 + value)
      ≡ (given ++ bits count waiting) ++ bits n value
  waiting_bits given =
      ap (λ z. given ++ bits (count + n) (z + value)) waiting_shifted.0 ∙ ap (λ z. given ++ z) (joined_bits count n waiting value low)
      ∙ sym (append_assoc given (bits count waiting) (bits n value))

-- zeros before a number's bits
pub zeros_in_prefix : (zeros n value : ℕ) → value < 2 ^ n → (bits (zeros + n) value ≡ replicate zeros false ++ bits n value)
    × (value < 2 ^ (zeros + n))
zeros_in_prefix zeros n value low =
    let e : 0 * 2 ^ n + value ≡ value = omega arith in let none : 0 < 2 ^ zeros = pow_pos zeros in (
      ap (bits (zeros + n)) (sym e) ∙ joined_bits zeros n 0 value low ∙ ap (λ z. z ++ bits n value) (zero_bits zeros),
      subst (λ z. z < 2 ^ (zeros + n)) e (joined_small zeros n 0 value none low),
    )

-- the byte at the start of the waiting bits, and the bits that go on waiting
module _ (bytes : List ℕ) (last width left waiting : ℕ) (f : AreFilled bytes) (e : last ≡ last_after 0 bytes) (w : width ≡ width_after last)
    (h : width ≤ left) (small : waiting < 2 ^ left) where
  abbrev rest : ℕ
  rest = left - width

  parts : width + rest ≡ left
  parts = omega arith

  pub byte_small : waiting / 2 ^ rest < 2 ^ width
  byte_small = shr_below waiting width rest (subst (λ z. waiting < 2 ^ z) (sym parts) small)

  fills : AreFilled (bytes ++ (waiting / 2 ^ rest) ∷ [])
      × (bits_read (bytes ++ (waiting / 2 ^ rest) ∷ []) ≡ bits_read bytes ++ bits (width_after (last_after 0 bytes)) (waiting / 2 ^ rest))
  fills = filled_more bytes (waiting / 2 ^ rest) f (subst (λ z. waiting / 2 ^ rest < 2 ^ z) (w ∙ ap width_after e) byte_small)

  pub byte_fills : AreFilled (bytes ++ (waiting / 2 ^ rest) ∷ [])
  byte_fills = fills.0

  -- a byte that is taken from the start of the waiting bits leaves all bits as they were
  pub byte_taken : (kept : ℕ) → kept ≡ waiting % 2 ^ rest
      → bits_read (bytes ++ (waiting / 2 ^ rest) ∷ []) ++ bits rest kept ≡ bits_read bytes ++ bits left waiting
  byte_taken kept is =
      let x = waiting / 2 ^ rest in
      ap (λ z. z ++ bits rest kept) (fills.1 ∙ ap (λ z. bits_read bytes ++ bits z x) (sym (w ∙ ap width_after e)))
      ∙ append_assoc (bits_read bytes) (bits width x) (bits rest kept)
      ∙ ap (λ z. bits_read bytes ++ z)
      (ap (λ z. bits width x ++ z) (ap (bits rest) is ∙ low_bits rest waiting) ∙ sym (bits_split width rest waiting)
      ∙ ap (λ z. bits z waiting) parts)

  pub kept_small : waiting % 2 ^ rest < 2 ^ rest
  kept_small = mod_below waiting (2 ^ rest) (pow_pos rest)

-- zeros, several at once
pub zeros_more : (given : List Bool) (n m : ℕ) → m ≤ n → (given ++ bits m 0) ++ replicate (n - m) false ≡ given ++ replicate n false
zeros_more given n m h =
    let e : m + (n - m) ≡ n = omega arith in
    append_assoc given (bits m 0) (replicate (n - m) false) ∙ ap (λ z. given ++ (z ++ replicate (n - m) false)) (zero_bits m)
    ∙ ap (λ z. given ++ z) (replicate-append-replicate m (n - m) false ∙ ap (λ z. replicate z false) e)

-- a bit as a number
pub bit_is : (b : Bool) → bits 1 (bool_byte b) ≡ b ∷ []
bit_is b =
    let p = bits_push_bool b 0 0 (omega arith) in let e : 2 * 0 + bool_byte b ≡ bool_byte b = omega arith in
    let n : 0 + 1 ≡ 1 = omega arith in
    ap (λ z. bits z (bool_byte b)) (sym n) ∙ ap (bits (0 + 1)) (sym e) ∙ p.0 ∙ ap (λ z. z ++ b ∷ []) (bits_none 0)
