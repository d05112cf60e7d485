-- The data bits of bytes, a byte at a time.
use Rattle.std.proofs.Common.{◌≡◌, ℕ, ◌+◌, ◌<◌, ◌≤◌, true, false, eqb, List, [], ◌∷◌, ◌++◌, length, refl, ap, ◌∙◌, arith, inl, inr}
use Rattle.std.proofs.Common.{length-append, drop, get_or}
use Rattle.std.proofs.lemmas.List.{drop_more, drop_all}
use Rattle.std.proofs.lemmas.Bool.{cases_Bool}
use Rattle.jls_bits.specs.Bits.{bits, width_after, ends_data, bits_read_after, is_whole_after}
use Rattle.jls_bits.proofs.NumberBits.{bits_none, first_bit, length-bits}

pub width_bounds : (before : ℕ) → (7 ≤ width_after before) × (width_after before ≤ 8)
unfolding width_after
width_bounds before = elim (cases_Bool (eqb before 255))
    [ inl h ↦ rw h (omega arith, omega arith) | inr h ↦ rw h (omega arith, omega arith) ]

pub data_end : (before : ℕ) → bits_read_after before [] ≡ []
unfolding bits_read_after
data_end before = refl

pub data_more : (before x : ℕ) (xs : List ℕ) → ends_data before x ≡ false
    → bits_read_after before (x ∷ xs) ≡ bits (width_after before) x ++ bits_read_after x xs
unfolding bits_read_after
data_more before x xs h = rw h refl

pub data_stop : (before x : ℕ) (xs : List ℕ) → ends_data before x ≡ true → bits_read_after before (x ∷ xs) ≡ []
unfolding bits_read_after
data_stop before x xs h = rw h refl

pub whole_end : (before : ℕ) → is_whole_after before [] ≡ true
unfolding is_whole_after
whole_end before = refl

pub whole_more : (before x : ℕ) (xs : List ℕ) → ends_data before x ≡ false → is_whole_after before (x ∷ xs) ≡ is_whole_after x xs
unfolding is_whole_after
whole_more before x xs h = rw h refl

pub whole_stop : (before x : ℕ) (xs : List ℕ) → ends_data before x ≡ true → is_whole_after before (x ∷ xs) ≡ false
unfolding is_whole_after
whole_stop before x xs h = rw h refl

-- how many data bits a byte adds
pub length_more : (before x : ℕ) (xs : List ℕ) → ends_data before x ≡ false
    → length (bits_read_after before (x ∷ xs)) ≡ width_after before + length (bits_read_after x xs)
length_more before x xs h =
    let a = ap length (data_more before x xs h) in let b = length-append (bits (width_after before) x) (bits_read_after x xs) in
    let c = length-bits (width_after before) x in omega (arith, a, b, c)

-- how many data bits the byte at place i adds: the bytes from place i on follow `before`
module _ (before : ℕ) (xs : List ℕ) (i : ℕ) where
  pub data_at_end : length xs ≤ i → bits_read_after before (drop i xs) ≡ []
  data_at_end h = ap (bits_read_after before) (drop_all i xs h) ∙ data_end before

  pub data_at_stop : i < length xs → ends_data before (get_or xs i 0) ≡ true → bits_read_after before (drop i xs) ≡ []
  data_at_stop h e = ap (bits_read_after before) (drop_more xs i 0 h) ∙ data_stop before (get_or xs i 0) (drop (i + 1) xs) e

  pub length_at_more : i < length xs → ends_data before (get_or xs i 0) ≡ false
      → length (bits_read_after before (drop i xs)) ≡ width_after before + length (bits_read_after (get_or xs i 0) (drop (i + 1) xs))
  length_at_more h e = ap (λ z. length (bits_read_after before z)) (drop_more xs i 0 h)
      ∙ length_more before (get_or xs i 0) (drop (i + 1) xs) e

  pub whole_at_end : length xs ≤ i → is_whole_after before (drop i xs) ≡ true
  whole_at_end h = ap (is_whole_after before) (drop_all i xs h) ∙ whole_end before

  pub whole_at_stop : i < length xs → ends_data before (get_or xs i 0) ≡ true → is_whole_after before (drop i xs) ≡ false
  whole_at_stop h e = ap (is_whole_after before) (drop_more xs i 0 h) ∙ whole_stop before (get_or xs i 0) (drop (i + 1) xs) e

  -- if a byte does not end the data, the bytes from it on are whole exactly where those after it are
  pub whole_at_more : i < length xs → ends_data before (get_or xs i 0) ≡ false
      → is_whole_after before (drop i xs) ≡ is_whole_after (get_or xs i 0) (drop (i + 1) xs)
  whole_at_more h e = ap (is_whole_after before) (drop_more xs i 0 h) ∙ whole_more before (get_or xs i 0) (drop (i + 1) xs) e

pub ruleset data_laws = (
  bits_none,
  first_bit,
  length-bits,
  width_bounds,
  data_end,
  data_more,
  data_stop,
  whole_end,
  whole_more,
  whole_stop,
  length_more,
)
