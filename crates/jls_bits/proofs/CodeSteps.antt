-- What one more bit makes of a Golomb code that is read bit by bit.
use Rattle.std.proofs.Common.{◌≡◌, ℕ, ◌+◌, ◌-◌, ◌*◌, ◌/◌, ◌%◌, ◌^◌, ◌<◌, ◌≤◌, Bool, true, false, eqb, leb, List, [], ◌∷◌, ◌++◌, replicate}
use Rattle.std.proofs.Common.{refl, sym, ap, ◌∙◌, subst, arith, inl, inr, append_assoc}
use mir.Val.{bool_byte}
use Rattle.std.proofs.lemmas.List.{append-nil}
use Rattle.std.proofs.lemmas.Nat.{shl_below, shr_high, mod_low, shl-shr, le-div, pow_pos, pow-add, div_below, shr_below, div-add-mod'}
use Rattle.std.proofs.lemmas.Nat.{mod_below, mul-le, shl_whole}
use Rattle.std.proofs.Math.Pow.{pow_mono}
use Rattle.std.proofs.Math.Nat.{mod-eq_of_lt}
use Rattle.std.proofs.lemmas.Bool.{cases_lt, ltb-false, lt-ltb, le-ltb, le-leb, and_from}
use Rattle.jls_bits.specs.Bits.{bits}
use Rattle.jls_bits.specs.Golomb.{is_short, golomb, has_golomb}
use Rattle.jls_bits.specs.CodeState.{bits_fed, IsOpen, BeginsCode, RefusesCode, StepIs}
use Rattle.jls_bits.specs.declared.code_state.CodeState.{CodeState}
use Rattle.jls_bits.specs.declared.code_state.CodeState.TheVariants.{Zeros, Remainder, Escape}
use Rattle.jls_bits.specs.declared.code_state.CodeStep.TheVariants.{More, Done}
use Rattle.jls_bits.proofs.NumberBits.{bits_none, bits_more, bits_split, bits_same, bits_cong, bits_push_bool}
use Rattle.jls_bits.proofs.Codes.{golomb_short, golomb_long, golomb_same, escape_range, many_zeros, escape_after_zeros, short_code}
use Rattle.jls_bits.proofs.Codes.{escape_code, zeros_push, zeros_then_one}

-- the power of a sum
power_of_rest : (c n : ℕ) → c ≤ n → 2 ^ n ≡ 2 ^ c * 2 ^ (n - c)
power_of_rest c n h = let e : n ≡ c + (n - c) = omega arith in ap (λ z. 2 ^ z) e ∙ pow-add 2 c (n - c)

-- a number by its quotient
at_most : (d m w : ℕ) → 0 < d → 1 ≤ m → (m - 1) / d ≡ w → m ≤ (w + 1) * d
at_most d m w p l e = let split = div-add-mod' (m - 1) d in let low = mod_below (m - 1) d p in
    let f : (m - 1) / d * d ≡ w * d = ap (λ x. x * d) e in omega arith

-- what the code shifts stays below 2^32
pub escape_shifted : (k g q : ℕ) → k ≤ 16 → g ≤ 64 → (g - q - 1) * 2 ^ k % 4294967296 ≡ (g - q - 1) * 2 ^ k
escape_shifted k g q h l = shl_whole (g - q - 1) 6 k 32 (omega arith) (omega arith)

pub one_shifted : (q : ℕ) → q ≤ 16 → 1 * 2 ^ q % 4294967296 ≡ 2 ^ q
one_shifted q h = shl_whole 1 1 q 32 (omega arith) (omega arith) ∙ omega arith

-- the greatest number that begins so, as 32 bits compute it
pub largest_shifted : (q n w : ℕ) → q ≤ 16 → n ≤ q → w < 2 ^ n → (w + 1) * 2 ^ (q - n) % 4294967296 ≡ (w + 1) * 2 ^ (q - n)
largest_shifted q n w h l b =
    let p = power_of_rest n q l in let m : 2 ^ q ≤ 2 ^ 16 = pow_mono {i = q} {j = 16} h in
    let high : (w + 1) * 2 ^ (q - n) ≤ 2 ^ n * 2 ^ (q - n) =
    mul-le (w + 1) (2 ^ (q - n)) (2 ^ n) (2 ^ (q - n)) (omega arith) (omega arith) in
    mod-eq_of_lt (omega arith)

module _ (k g q : ℕ) (room : q + 2 ≤ g) where
  abbrev esc : ℕ
  esc = g - q - 1

  pub code_of_short : (m : ℕ) → is_short k g q m ≡ true → golomb k g q m ≡ replicate (m / 2 ^ k) false ++ true ∷ bits k m
  code_of_short m h = sym (append-nil (golomb k g q m)) ∙ golomb_short k g q m [] h
      ∙ ap (λ x. replicate (m / 2 ^ k) false ++ true ∷ x) (append-nil (bits k m))

  pub code_of_long : (m : ℕ) → is_short k g q m ≡ false → golomb k g q m ≡ replicate esc false ++ true ∷ bits q (m - 1)
  code_of_long m h = sym (append-nil (golomb k g q m)) ∙ golomb_long k g q m [] h
      ∙ ap (λ x. replicate esc false ++ true ∷ x) (append-nil (bits q (m - 1)))

  has_long : (m : ℕ) → is_short k g q m ≡ false → 1 ≤ m → m ≤ 2 ^ q → has_golomb k g q m ≡ true
  has_long m h l j = rw h (and_from (leb 1 m) (leb m (2 ^ q)) (le-leb 1 m l) (le-leb m (2 ^ q) j))

  -- the zeros of a quotient begin the code of the least number with it
  zeros_begin : (z : ℕ) → z < esc → BeginsCode k g q (replicate z false)
  zeros_begin z l =
      let m = z * 2 ^ k + 0 in let d : m / 2 ^ k ≡ z = shr_high z k 0 (pow_pos k) in
      let h : is_short k g q m ≡ true = lt-ltb (m / 2 ^ k) esc (omega arith) in
      record {
        number = m;
        next = true;
        more = bits k m;
        has = rw h refl;
        code = code_of_short m h
            ∙ ap (λ x. replicate x false ++ true ∷ bits k m) d;
      }

  -- an escape's zeros begin the code of 2^qbpp, where it has no short one
  escape_begins : (z : ℕ) → z ≡ esc → esc * 2 ^ k ≤ 2 ^ q → BeginsCode k g q (replicate z false)
  escape_begins z e l =
      let m = 2 ^ q in let d : esc ≤ m / 2 ^ k = le-div esc m (2 ^ k) (pow_pos k) l in
      let h : is_short k g q m ≡ false = le-ltb (m / 2 ^ k) esc d in let p = pow_pos q in
      record {
        number = m;
        next = true;
        more = bits q (m - 1);
        has = has_long m h (omega arith) (omega arith);
        code = code_of_long m h
            ∙ ap (λ x. replicate x false ++ true ∷ bits q (m - 1)) (sym e);
      }

  zeros_open : (z : ℕ) → z ≤ esc → (z ≡ esc → esc * 2 ^ k ≤ 2 ^ q) → BeginsCode k g q (replicate z false)
  zeros_open z l h = elim (cases_lt z esc) [ inl s ↦ zeros_begin z s | inr s ↦ (let e : z ≡ esc = omega arith in escape_begins z e (h e)) ]

  -- the first bits of a number's bits
  prefix_bits : (n c x v : ℕ) → c < n → (x / 2 ^ (n - c)) % 2 ^ c ≡ v % 2 ^ c
      → (b : Bool) × (more : List Bool) × (bits n x ≡ bits c v ++ b ∷ more)
  prefix_bits n c x v l e =
      let d = n - c in let s : n ≡ c + d = omega arith in (
        eqb (x / 2 ^ (d - 1) % 2) 1,
        bits (d - 1) x,
        ap (λ z. bits z x) s ∙ bits_split c d x
            ∙ ap (λ z. z ++ bits d x) (bits_cong c (x / 2 ^ d) v e) ∙ ap (λ z. bits c v ++ z) (bits_more d x (omega arith)),
      )

  pub joined : (s t u : List Bool) (given : List Bool) → t ≡ given ++ u → s ++ true ∷ t ≡ (s ++ true ∷ given) ++ u
  joined s t u given e = ap (λ z. s ++ true ∷ z) e ∙ sym (append_assoc s (true ∷ given) u)

  -- the zeros of a short code, the one and fewer than k bits after it begin a code
  remainder_open : (z c v : ℕ) → z < esc → c < k → v < 2 ^ c → BeginsCode k g q (replicate z false ++ true ∷ bits c v)
  remainder_open z c v l s b =
      let d = k - c in let p = power_of_rest c k (omega arith) in
      let low : v * 2 ^ d < 2 ^ k = subst (λ x. v * 2 ^ d < x) (ap (λ x. 2 ^ x) (omega arith)) (shl_below v c d b) in
      let m = z * 2 ^ k + v * 2 ^ d in let h : m / 2 ^ k ≡ z = shr_high z k (v * 2 ^ d) low in
      let short : is_short k g q m ≡ true = lt-ltb (m / 2 ^ k) esc (omega arith) in
      let e : m ≡ (z * 2 ^ c + v) * 2 ^ d = rw p (omega arith) in
      let f : m / 2 ^ d ≡ z * 2 ^ c + v = ap (λ x. x / 2 ^ d) e ∙ shl-shr (z * 2 ^ c + v) d in
      let r = prefix_bits k c m v s (ap (λ x. x % 2 ^ c) f ∙ mod_low z c v b ∙ sym (mod-eq_of_lt b)) in
      record {
        number = m;
        next = r.0;
        more = r.1;
        has = rw short refl;
        code = code_of_short m short
            ∙ ap (λ x. replicate x false ++ true ∷ bits k m) h ∙ joined (replicate z false) (bits k m) (r.0 ∷ r.1) (bits c v) r.2;
      }

  -- the zeros of an escape, the one and fewer than qbpp bits begin a code, if some number that begins so has no short code
  escape_open : (c v : ℕ) → c < q → v < 2 ^ c → esc * 2 ^ k ≤ (v + 1) * 2 ^ (q - c)
      → BeginsCode k g q (replicate esc false ++ true ∷ bits c v)
  escape_open c v s b l =
      let d = q - c in let m = (v + 1) * 2 ^ d in let pd = pow_pos d in
      let e : m - 1 ≡ v * 2 ^ d + (2 ^ d - 1) = omega arith in
      let f : (m - 1) / 2 ^ d ≡ v = ap (λ x. x / 2 ^ d) e ∙ shr_high v d (2 ^ d - 1) (omega arith) in
      let p = power_of_rest c q (omega arith) in
      let high : m ≤ 2 ^ q = rw p (mul-le (v + 1) (2 ^ d) (2 ^ c) (2 ^ d) (omega arith) (omega arith)) in
      let long : is_short k g q m ≡ false = le-ltb (m / 2 ^ k) esc (le-div esc m (2 ^ k) (pow_pos k) l) in
      let r = prefix_bits q c (m - 1) v s (ap (λ x. x % 2 ^ c) f) in
      record {
        number = m;
        next = r.0;
        more = r.1;
        has = has_long m long (omega arith) high;
        code = code_of_long m long
            ∙ joined (replicate esc false) (bits q (m - 1)) (r.0 ∷ r.1) (bits c v) r.2;
      }

  -- from an open state some code goes on
  pub begins : (s : CodeState) → IsOpen k g q s → BeginsCode k g q (bits_fed g q s)
  begins (Zeros z) h = zeros_open z h.0 h.1
  begins (Remainder z c v) h = remainder_open z c v h.0 h.1 h.2
  begins (Escape c v) h = escape_open c v h.0 h.1 h.2

  -- a new state, by the bits that led to it
  pub fed : (s : CodeState) (given : List Bool) → IsOpen k g q s → bits_fed g q s ≡ given → StepIs k g q given (More s)
  fed s given h e = (h, e, subst (BeginsCode k g q) e (begins s h))

  -- no code stands at the start of bits that begin one
  pub none_whole : (given : List Bool) → BeginsCode k g q given → (m : ℕ) (rest : List Bool) → has_golomb k g q m ≡ true
      → given ≡ golomb k g q m ++ rest → ⊥
  none_whole given b m rest h e =
      let r = golomb_same k g q b.number m [] (rest ++ b.next ∷ b.more) b.has h
      (append-nil (golomb k g q b.number) ∙ b.code ∙ ap (λ x. x ++ b.next ∷ b.more) e
      ∙ append_assoc (golomb k g q m) rest (b.next ∷ b.more)) in
      nothing rest b.next b.more (sym r.1)
    where
      nothing : (xs : List Bool) (y : Bool) (ys : List Bool) → xs ++ y ∷ ys ≡ [] → ⊥
      nothing [] y ys h = cc
      nothing (x ∷ xs) y ys h = cc

  one_more_zero : (z : ℕ) (bit : Bool) (more : List Bool) → bit ≡ false
      → (replicate z false ++ bit ∷ []) ++ more ≡ replicate (z + 1) false ++ more
  one_more_zero z bit more e = append_assoc (replicate z false) (bit ∷ []) more ∙ ap (λ x. replicate z false ++ x ∷ more) e
      ∙ zeros_push z more

  -- a zero after zeros
  pub zero_more : (z : ℕ) (bit : Bool) → bit ≡ false → z + 1 ≤ esc → (z + 1 ≡ esc → esc * 2 ^ k ≤ 2 ^ q)
      → StepIs k g q (replicate z false ++ bit ∷ []) (More (Zeros (z + 1)))
  zero_more z bit e l h = fed (Zeros (z + 1)) (replicate z false ++ bit ∷ []) (l, h)
      (sym (sym (append-nil (replicate z false ++ bit ∷ [])) ∙ one_more_zero z bit [] e ∙ append-nil (replicate (z + 1) false)))

  pub zero_too_many : (z : ℕ) (bit : Bool) → bit ≡ false → z ≡ esc → RefusesCode k g q (replicate z false ++ bit ∷ [])
  zero_too_many z bit e h m more rest has c = many_zeros k g q (z + 1) more m rest (omega arith) (sym (one_more_zero z bit more e) ∙ c)

  -- where each number has a short code, the zeros of an escape begin no code
  pub zero_without_escape : (z : ℕ) (bit : Bool) → bit ≡ false → z + 1 ≡ esc → 2 ^ q < esc * 2 ^ k
      → RefusesCode k g q (replicate z false ++ bit ∷ [])
  zero_without_escape z bit e h l m more rest has c =
      let s : replicate esc false ++ more ≡ golomb k g q m ++ rest = ap (λ x. replicate x false ++ more) (sym h)
      ∙ sym (one_more_zero z bit more e) ∙ c in
      let long = escape_after_zeros k g q more m rest s in let r = escape_range k g q m has long in
      let d : esc ≤ m / 2 ^ k = ltb-false (m / 2 ^ k) esc long in
      let f : m / 2 ^ k < esc = div_below m (2 ^ k) esc (pow_pos k) (omega arith) in omega arith

  one_bits : (z : ℕ) (bit : Bool) → bit ≡ true → replicate z false ++ true ∷ bits 0 0 ≡ replicate z false ++ bit ∷ []
  one_bits z bit e = ap (λ x. replicate z false ++ true ∷ x) (bits_none 0) ∙ ap (λ x. replicate z false ++ x ∷ []) (sym e)

  -- a one after zeros
  pub one_of_escape : (z : ℕ) (bit : Bool) → bit ≡ true → 0 < q → z ≡ esc → esc * 2 ^ k ≤ 2 ^ q
      → StepIs k g q (replicate z false ++ bit ∷ []) (More (Escape 0 0))
  one_of_escape z bit e l h j =
      let p : q - 0 ≡ q = omega arith in let s : esc * 2 ^ k ≤ 1 * 2 ^ (q - 0) = rw p (omega arith) in
      fed (Escape 0 0) (replicate z false ++ bit ∷ []) (l, omega arith, s)
      (ap (λ x. replicate x false ++ true ∷ bits 0 0) (sym h) ∙ one_bits z bit e)

  pub one_of_short : (z : ℕ) (bit : Bool) → bit ≡ true → z < esc → 0 < k
      → StepIs k g q (replicate z false ++ bit ∷ []) (More (Remainder z 0 0))
  one_of_short z bit e l h = fed (Remainder z 0 0) (replicate z false ++ bit ∷ []) (l, h, omega arith) (one_bits z bit e)

  -- where k is 0, a one after fewer zeros than an escape has makes the code whole
  pub one_alone : (z : ℕ) (bit : Bool) → bit ≡ true → z < esc → k ≡ 0 → StepIs k g q (replicate z false ++ bit ∷ []) (Done z)
  one_alone z bit e l h =
      let n : z * 2 ^ k + 0 ≡ z = ap (λ x. z * 2 ^ x + 0) h ∙ omega arith in
      let a : replicate z false ++ bit ∷ [] ≡ replicate z false ++ true ∷ bits k 0 = sym (one_bits z bit e)
      ∙ ap (λ x. replicate z false ++ true ∷ bits x 0) (sym h) in
      let r = short_code k g q z 0 (replicate z false ++ bit ∷ []) l (pow_pos k) a in
      subst (λ m. (has_golomb k g q m ≡ true) × (golomb k g q m ≡ replicate z false ++ bit ∷ [])) n r

  more_bits : (s : List Bool) (bit : Bool) (c v : ℕ) → v < 2 ^ c
      → s ++ true ∷ bits (c + 1) (2 * v + bool_byte bit) ≡ (s ++ true ∷ bits c v) ++ bit ∷ []
  more_bits s bit c v b = joined s (bits (c + 1) (2 * v + bool_byte bit)) (bit ∷ []) (bits c v) (bits_push_bool bit c v b).0

  -- a bit of the remainder
  pub remainder_more : (z c v : ℕ) (bit : Bool) → z < esc → v < 2 ^ c → c + 1 < k
      → StepIs k g q ((replicate z false ++ true ∷ bits c v) ++ bit ∷ []) (More (Remainder z (c + 1) (2 * v + bool_byte bit)))
  remainder_more z c v bit l b s =
      fed (Remainder z (c + 1) (2 * v + bool_byte bit)) ((replicate z false ++ true ∷ bits c v) ++ bit ∷ [])
      (l, s, (bits_push_bool bit c v b).1) (more_bits (replicate z false) bit c v b)

  -- the last bit of a remainder makes a short code whole
  pub remainder_whole : (z c v m : ℕ) (bit : Bool) → z < esc → v < 2 ^ c → c + 1 ≡ k → m ≡ z * 2 ^ k + (2 * v + bool_byte bit)
      → StepIs k g q ((replicate z false ++ true ∷ bits c v) ++ bit ∷ []) (Done m)
  remainder_whole z c v m bit l b s e =
      let w = 2 * v + bool_byte bit in let p = bits_push_bool bit c v b in
      let given = (replicate z false ++ true ∷ bits c v) ++ bit ∷ [] in
      let small : w < 2 ^ k = subst (λ x. w < 2 ^ x) s p.1 in
      let r = short_code k g q z w given l small
      (sym (more_bits (replicate z false) bit c v b) ∙ ap (λ x. replicate z false ++ true ∷ bits x w) s) in
      subst (λ m. (has_golomb k g q m ≡ true) × (golomb k g q m ≡ given)) (sym e) r

  -- a bit of an escape's number
  pub escape_more : (c v : ℕ) (bit : Bool) → v < 2 ^ c → c + 1 < q → esc * 2 ^ k ≤ (2 * v + bool_byte bit + 1) * 2 ^ (q - (c + 1))
      → StepIs k g q ((replicate esc false ++ true ∷ bits c v) ++ bit ∷ []) (More (Escape (c + 1) (2 * v + bool_byte bit)))
  escape_more c v bit b s l =
      fed (Escape (c + 1) (2 * v + bool_byte bit)) ((replicate esc false ++ true ∷ bits c v) ++ bit ∷ [])
      (s, (bits_push_bool bit c v b).1, l) (more_bits (replicate esc false) bit c v b)

  -- the last bit of an escape's number makes its code whole
  pub escape_whole : (c v : ℕ) (bit : Bool) → v < 2 ^ c → c + 1 ≡ q → esc * 2 ^ k ≤ 2 * v + bool_byte bit + 1
      → StepIs k g q ((replicate esc false ++ true ∷ bits c v) ++ bit ∷ []) (Done (2 * v + bool_byte bit + 1))
  escape_whole c v bit b s l =
      let w = 2 * v + bool_byte bit in let p = bits_push_bool bit c v b in
      let small : w < 2 ^ q = subst (λ x. w < 2 ^ x) s p.1 in
      escape_code k g q w ((replicate esc false ++ true ∷ bits c v) ++ bit ∷ []) small (le-div esc (w + 1) (2 ^ k) (pow_pos k) l)
      (sym (more_bits (replicate esc false) bit c v b) ∙ ap (λ x. replicate esc false ++ true ∷ bits x w) s)

  -- the first bits of an escape's number bound it
  pub escape_too_small : (c v : ℕ) (bit : Bool) → v < 2 ^ c → c + 1 ≤ q → (2 * v + bool_byte bit + 1) * 2 ^ (q - (c + 1)) < esc * 2 ^ k
      → RefusesCode k g q ((replicate esc false ++ true ∷ bits c v) ++ bit ∷ [])
  escape_too_small c v bit b s l m more rest has e =
      let n = c + 1 in let d = q - n in let w = 2 * v + bool_byte bit in let p = bits_push_bool bit c v b in
      let a : replicate esc false ++ true ∷ (bits n w ++ more) ≡ golomb k g q m ++ rest =
      sym (append_assoc (replicate esc false) (true ∷ bits n w) more) ∙ ap (λ x. x ++ more) (more_bits (replicate esc false) bit c v b)
      ∙ e in
      let long = escape_after_zeros k g q (true ∷ (bits n w ++ more)) m rest a in let r = escape_range k g q m has long in
      let t = zeros_then_one esc esc (bits n w ++ more) (bits q (m - 1) ++ rest) (a ∙ golomb_long k g q m rest long) in
      let u : q ≡ n + d = omega arith in
      let f = bits_same n w ((m - 1) / 2 ^ d) more (bits d (m - 1) ++ rest)
      (t.1 ∙ ap (λ x. bits x (m - 1) ++ rest) u ∙ ap (λ x. x ++ rest) (bits_split n d (m - 1))
      ∙ append_assoc (bits n ((m - 1) / 2 ^ d)) (bits d (m - 1)) rest) in
      let small : w % 2 ^ n ≡ w = mod-eq_of_lt p.1 in
      let high : m - 1 < 2 ^ (n + d) = subst (λ x. m - 1 < 2 ^ x) u (omega arith) in
      let top : (m - 1) / 2 ^ d % 2 ^ n ≡ (m - 1) / 2 ^ d = mod-eq_of_lt (shr_below (m - 1) n d high) in
      let same : (m - 1) / 2 ^ d ≡ w = omega arith in
      let upper : m ≤ (w + 1) * 2 ^ d = at_most (2 ^ d) m w (pow_pos d) r.0 same in
      let j : esc ≤ m / 2 ^ k = ltb-false (m / 2 ^ k) esc long in
      let z : m / 2 ^ k < esc = div_below m (2 ^ k) esc (pow_pos k) (omega arith) in omega arith

-- a bit goes from what is left to what was fed
pub fed_on : (given fed left after : List Bool) (bit : Bool) → given ≡ fed ++ left → left ≡ bit ∷ after
    → (fed ++ bit ∷ []) ++ after ≡ given
fed_on given fed left after bit e f = append_assoc fed (bit ∷ []) after ∙ ap (λ z. fed ++ z) (sym f) ∙ sym e

-- nothing is left
pub fed_all : (given fed left : List Bool) → given ≡ fed ++ left → left ≡ [] → fed ≡ given
fed_all given fed left e f = sym (e ∙ ap (λ z. fed ++ z) f ∙ append-nil fed)
