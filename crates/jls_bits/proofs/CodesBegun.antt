-- Which codes the bits of a state begin, and that bits begin a code, are one or begin none.
use Rattle.std.proofs.Common.{◌≡◌, ◌↔◌, ℕ, ◌+◌, ◌-◌, ◌*◌, ◌/◌, ◌%◌, ◌^◌, ◌<◌, ◌≤◌, Bool, true, false, List, [], ◌∷◌, ◌++◌, replicate, refl}
use Rattle.std.proofs.Common.{sym, ap, ◌∙◌, Decides, eqb, leb, arith, inl, inr, append_assoc}
use Rattle.std.proofs.lemmas.List.{append-nil, replicate-append-replicate}
use Rattle.std.proofs.lemmas.Nat.{pow_pos, shr_high, mod_low, shr-shr, div-add-mod', shr_below}
use Rattle.std.proofs.Math.Nat.{mod-eq_of_lt}
use Rattle.std.proofs.lemmas.Bool.{cases_Bool, cases_lt, ltb-true, ltb-false, lt-ltb, le-ltb, leb-true, le-leb, eqb-true, eq-eqb}
use Rattle.jls_bits.specs.Bits.{bits}
use Rattle.jls_bits.specs.Golomb.{is_short, golomb, has_golomb, IsCodeOf, BeginsCodeOf, BeginsNoGolombCode}
use Rattle.jls_bits.specs.CodeState.{BeginsCode, RefusesCode}
use Rattle.jls_bits.specs.declared.golomb_reader.GolombStep.{GolombStep}
use Rattle.jls_bits.specs.declared.golomb_reader.GolombStep.TheVariants.{More, Done, Refused}
use Rattle.jls_bits.proofs.NumberBits.{bits_split, bits_same, bits_cong}
use Rattle.jls_bits.proofs.Codes.{golomb_same, zeros_then_one, zeros_differ, small_has_code}
use Rattle.jls_bits.proofs.CodeSteps.{code_of_short, code_of_long, joined, none_whole}

-- the first of many zeros
zeros_parted : (n z : ℕ) (s : List Bool) → z ≤ n → replicate n false ++ s ≡ replicate z false ++ (replicate (n - z) false ++ s)
zeros_parted n z s l =
    let e : z + (n - z) ≡ n = omega arith in
    ap (λ x. replicate x false ++ s) (sym e) ∙ ap (λ x. x ++ s) (sym (replicate-append-replicate z (n - z) false))
    ∙ append_assoc (replicate z false) (replicate (n - z) false) s

-- the first bits of a number, where they are known
prefix_known : (n c x v : ℕ) → c ≤ n → (x / 2 ^ (n - c)) % 2 ^ c ≡ v % 2 ^ c → bits n x ≡ bits c v ++ bits (n - c) x
prefix_known n c x v l e =
    let s : c + (n - c) ≡ n = omega arith in
    ap (λ z. bits z x) (sym s) ∙ bits_split c (n - c) x ∙ ap (λ z. z ++ bits (n - c) x) (bits_cong c (x / 2 ^ (n - c)) v e)

prefix_same : (n c x v : ℕ) (rest : List Bool) → c ≤ n → bits n x ≡ bits c v ++ rest → (x / 2 ^ (n - c)) % 2 ^ c ≡ v % 2 ^ c
prefix_same n c x v rest l e =
    let s : c + (n - c) ≡ n = omega arith in
    (bits_same c (x / 2 ^ (n - c)) v (bits (n - c) x) rest (sym (bits_split c (n - c) x) ∙ ap (λ z. bits z x) s ∙ e)).0

module _ (k g q : ℕ) (room : q + 2 ≤ g) where
  abbrev esc : ℕ
  esc = g - q - 1

  module _ (z m : ℕ) (few : z ≤ esc) where
    pub zeros_begin_code : z ≤ m / 2 ^ k → BeginsCodeOf k g q (replicate z false) m
    zeros_begin_code l =
        elim (cases_Bool (is_short k g q m)) [
          | inl s ↦ record {
            rest = replicate (m / 2 ^ k - z) false ++ true ∷ bits k m;
            code = code_of_short k g q room m s
                ∙ zeros_parted (m / 2 ^ k) z (true ∷ bits k m) l;
          }
          | inr s ↦ record {
            rest = replicate (esc - z) false ++ true ∷ bits q (m - 1);
            code = code_of_long k g q room m s
                ∙ zeros_parted esc z (true ∷ bits q (m - 1)) few;
          }
        ]

    pub zeros_counted : BeginsCodeOf k g q (replicate z false) m → z ≤ m / 2 ^ k
    zeros_counted b =
        elim (cases_lt (m / 2 ^ k) z) [
          | inl l ↦ (elim (cases_Bool (is_short k g q m)) [
            | inl s ↦ absurd (zeros_differ z (m / 2 ^ k) b.rest (bits k m) l (sym b.code ∙ code_of_short k g q room m s))
            | inr s ↦ (let n = ltb-false (m / 2 ^ k) esc s in omega arith)
          ])
          | inr l ↦ l
        ]

  module _ (z c v m : ℕ) (few : z < esc) (open_yet : c < k) (small : v < 2 ^ c) where
    quotient_is : m / 2 ^ (k - c) ≡ z * 2 ^ c + v → m / 2 ^ k ≡ z
    quotient_is e =
        let s : k - c + c ≡ k = omega arith in
        ap (λ x. m / 2 ^ x) (sym s) ∙ sym (shr-shr m (k - c) c) ∙ ap (λ x. x / 2 ^ c) e ∙ shr_high z c v small

    pub remainder_begins_code : m / 2 ^ (k - c) ≡ z * 2 ^ c + v → BeginsCodeOf k g q (replicate z false ++ true ∷ bits c v) m
    remainder_begins_code e =
        let d = quotient_is e in let s : is_short k g q m ≡ true = lt-ltb (m / 2 ^ k) esc (omega arith) in
        let low : (m / 2 ^ (k - c)) % 2 ^ c ≡ v % 2 ^ c = ap (λ x. x % 2 ^ c) e ∙ mod_low z c v small ∙ sym (mod-eq_of_lt small) in
        record {
          rest = bits (k - c) m;
          code = code_of_short k g q room m s ∙ ap (λ x. replicate x false ++ true ∷ bits k m) d
              ∙ joined k g q room (replicate z false) (bits k m) (bits (k - c) m) (bits c v) (prefix_known k c m v (omega arith) low);
        }

    pub remainder_counted : BeginsCodeOf k g q (replicate z false ++ true ∷ bits c v) m → m / 2 ^ (k - c) ≡ z * 2 ^ c + v
    remainder_counted b =
        let prefix = sym (append_assoc (replicate z false) (true ∷ bits c v) b.rest) in
        elim (cases_Bool (is_short k g q m)) [
          | inl s ↦ (
              let p = zeros_then_one (m / 2 ^ k) z (bits k m) (bits c v ++ b.rest)
              (sym (code_of_short k g q room m s) ∙ b.code ∙ append_assoc (replicate z false) (true ∷ bits c v) b.rest) in
              let low = prefix_same k c m v b.rest (omega arith) p.1 in
              let t : k - c + c ≡ k = omega arith in
              let high : m / 2 ^ (k - c) / 2 ^ c ≡ z = shr-shr m (k - c) c ∙ ap (λ x. m / 2 ^ x) t ∙ p.0 in
              let split = div-add-mod' (m / 2 ^ (k - c)) (2 ^ c) in
              let v_is : v % 2 ^ c ≡ v = mod-eq_of_lt small in
              let top : m / 2 ^ (k - c) / 2 ^ c * 2 ^ c ≡ z * 2 ^ c = ap (λ x. x * 2 ^ c) high in
              omega (arith, split, top, low, v_is))
          | inr s ↦ (
              let p = zeros_then_one esc z (bits q (m - 1)) (bits c v ++ b.rest)
              (sym (code_of_long k g q room m s) ∙ b.code ∙ append_assoc (replicate z false) (true ∷ bits c v) b.rest) in
              absurd (omega (arith, p.0)))
        ]

  module _ (c v m : ℕ) (open_yet : c < q) (small : v < 2 ^ c) where
    pub escape_begins_code : esc ≤ m / 2 ^ k → (m - 1) / 2 ^ (q - c) ≡ v → BeginsCodeOf k g q (replicate esc false ++ true ∷ bits c v) m
    escape_begins_code l e =
        let s : is_short k g q m ≡ false = le-ltb (m / 2 ^ k) esc l in
        record {
          rest = bits (q - c) (m - 1);
          code = code_of_long k g q room m s
              ∙ joined k g q room (replicate esc false) (bits q (m - 1)) (bits (q - c) (m - 1)) (bits c v)
              (prefix_known q c (m - 1) v (omega arith) (ap (λ x. x % 2 ^ c) e));
        }

    pub escape_counted : m ≤ 2 ^ q → BeginsCodeOf k g q (replicate esc false ++ true ∷ bits c v) m
        → (esc ≤ m / 2 ^ k) × ((m - 1) / 2 ^ (q - c) ≡ v)
    escape_counted few b =
        elim (cases_Bool (is_short k g q m)) [
          | inl s ↦ (
              let n = ltb-true (m / 2 ^ k) esc s in
              let p = zeros_then_one (m / 2 ^ k) esc (bits k m) (bits c v ++ b.rest)
              (sym (code_of_short k g q room m s) ∙ b.code ∙ append_assoc (replicate esc false) (true ∷ bits c v) b.rest) in
              absurd (omega (arith, n, p.0)))
          | inr s ↦ (
              let p = zeros_then_one esc esc (bits q (m - 1)) (bits c v ++ b.rest)
              (sym (code_of_long k g q room m s) ∙ b.code ∙ append_assoc (replicate esc false) (true ∷ bits c v) b.rest) in
              let low = prefix_same q c (m - 1) v b.rest (omega arith) p.1 in
              let t : c + (q - c) ≡ q = omega arith in
              let some_code = pow_pos q in
              let less : m - 1 < 2 ^ (c + (q - c)) = rw t (omega arith) in
              let high : (m - 1) / 2 ^ (q - c) % 2 ^ c ≡ (m - 1) / 2 ^ (q - c) = mod-eq_of_lt (shr_below (m - 1) c (q - c) less) in
              let v_is : v % 2 ^ c ≡ v = mod-eq_of_lt small in
              (ltb-false (m / 2 ^ k) esc s, sym high ∙ low ∙ v_is))
        ]

  -- the first bits of a number as tests: which answer is right
  pub zeros_decided : (z m : ℕ) → z ≤ esc → Decides (leb z (m / 2 ^ k)) (BeginsCodeOf k g q (replicate z false) m)
  zeros_decided z m few =
      (λ t. zeros_begin_code z m few (leb-true z (m / 2 ^ k) t), λ b. le-leb z (m / 2 ^ k) (zeros_counted z m few b))

  -- the first bits of a remainder, where they are tested
  pub remainder_decided : (z c v m : ℕ) → z < esc → c < k → v < 2 ^ c → (w : ℕ) → w ≡ z * 2 ^ c + v
      → Decides (eqb (m / 2 ^ (k - c)) w) (BeginsCodeOf k g q (replicate z false ++ true ∷ bits c v) m)
  remainder_decided z c v m few open_yet small w e = (
    λ t. remainder_begins_code z c v m few open_yet small (eqb-true (m / 2 ^ (k - c)) w t ∙ e),
    λ b. eq-eqb (m / 2 ^ (k - c)) w (remainder_counted z c v m few open_yet small b ∙ sym e),
  )

  -- the first bits of an escape's number, where they are tested
  pub escape_decided : (c v m : ℕ) → c < q → v < 2 ^ c → m ≤ 2 ^ q → esc ≤ m / 2 ^ k
      → Decides (eqb ((m - 1) / 2 ^ (q - c)) v) (BeginsCodeOf k g q (replicate esc false ++ true ∷ bits c v) m)
  escape_decided c v m open_yet small few l = (
    λ t. escape_begins_code c v m open_yet small l (eqb-true ((m - 1) / 2 ^ (q - c)) v t),
    λ b. eq-eqb ((m - 1) / 2 ^ (q - c)) v (escape_counted c v m open_yet small few b).1,
  )

  -- the first bits of an escape are those of no number that has a short code
  pub short_decided : (c v m : ℕ) → c < q → v < 2 ^ c → m ≤ 2 ^ q → m / 2 ^ k < esc
      → Decides (leb esc (m / 2 ^ k)) (BeginsCodeOf k g q (replicate esc false ++ true ∷ bits c v) m)
  short_decided c v m open_yet small few l = (
    λ t. (let n = leb-true esc (m / 2 ^ k) t in absurd (omega arith)),
    λ b. le-leb esc (m / 2 ^ k) (escape_counted c v m open_yet small few b).0,
  )

  -- bits that are a whole code, or begin none
  pub whole_decided : (n m : ℕ) → has_golomb k g q n ≡ true → m ≤ 2 ^ q → Decides (eqb n m) (BeginsCodeOf k g q (golomb k g q n) m)
  whole_decided n m has few =
      let same : n ≡ m → BeginsCodeOf k g q (golomb k g q n) m =
      λ e. record { rest = []; code = ap (golomb k g q) (sym e) ∙ sym (append-nil (golomb k g q n)) } in (
        λ t. same (eqb-true n m t),
        λ b. eq-eqb n m (sym (golomb_same k g q m n [] b.rest (small_has_code k g q m room few) has
            (append-nil (golomb k g q m) ∙ b.code)).0),
      )

  -- bits that begin no code are the first bits of no number's code
  pub refused_decided : (given : List Bool) (m : ℕ) → RefusesCode k g q given → m ≤ 2 ^ q → Decides false (BeginsCodeOf k g q given m)
  refused_decided given m h few = (
    λ (t : false ≡ true). cc,
    λ b. absurd (h m b.rest [] (small_has_code k g q m room few) (sym b.code ∙ sym (append-nil (golomb k g q m)))),
  )

  -- bits begin a code, are one or begin none, and not two of these
  module _ (given : List Bool) where
    pub refused_begins_none : RefusesCode k g q given → BeginsNoGolombCode k g q given
    refused_begins_none h m has b = h m b.rest [] has (sym b.code ∙ sym (append-nil (golomb k g q m)))

    pub begun_not_whole : BeginsCode k g q given → (m : ℕ) → IsCodeOf k g q given m → ⊥
    begun_not_whole b m c = none_whole k g q room given b m [] c.has (sym c.code ∙ sym (append-nil (golomb k g q m)))

    pub begun_not_none : BeginsCode k g q given → BeginsNoGolombCode k g q given → ⊥
    begun_not_none b n = n b.number b.has (record { rest = b.next ∷ b.more; code = b.code })

    whole_not_none : (m : ℕ) → IsCodeOf k g q given m → BeginsNoGolombCode k g q given → ⊥
    whole_not_none m c n = n m c.has (record { rest = []; code = c.code ∙ sym (append-nil given) })

    one_code : (m n : ℕ) → IsCodeOf k g q given m → IsCodeOf k g q given n → m ≡ n
    one_code m n a b = (golomb_same k g q m n [] [] a.has b.has (ap (λ x. x ++ []) (a.code ∙ sym b.code))).0

    -- what a step says of the bits
    abbrev pub IsAnswer : GolombStep → Type 0
    IsAnswer More = BeginsCode k g q given
    IsAnswer (Done m) = IsCodeOf k g q given m
    IsAnswer Refused = BeginsNoGolombCode k g q given

    pub more_exactly : (step : GolombStep) → IsAnswer step → (step ≡ More) ↔ BeginsCode k g q given
    more_exactly More a = (λ _. a, λ _. refl)
    more_exactly (Done m) a = (λ (e : Done m ≡ More). cc, λ b. absurd (begun_not_whole b m a))
    more_exactly Refused a = (λ (e : Refused ≡ More). cc, λ b. absurd (begun_not_none b a))

    pub done_exactly : (step : GolombStep) → IsAnswer step → (m : ℕ) → (step ≡ Done m) ↔ IsCodeOf k g q given m
    done_exactly More a m = (λ (e : More ≡ Done m). cc, λ b. absurd (begun_not_whole a m b))
    done_exactly (Done n) a m = (λ (e : Done n ≡ Done m). (let s : n ≡ m = cc in rw (sym s) a), λ b. ap Done (one_code n m a b))
    done_exactly Refused a m = (λ (e : Refused ≡ Done m). cc, λ b. absurd (whole_not_none m b a))

    pub refused_exactly : (step : GolombStep) → IsAnswer step → (step ≡ Refused) ↔ BeginsNoGolombCode k g q given
    refused_exactly More a = (λ (e : More ≡ Refused). cc, λ b. absurd (begun_not_none a b))
    refused_exactly (Done m) a = (λ (e : Done m ≡ Refused). cc, λ b. absurd (whole_not_none m a b))
    refused_exactly Refused a = (λ _. a, λ _. refl)
