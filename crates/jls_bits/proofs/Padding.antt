-- The pad of bits: that it is one, the shortest, and how bytes that bits were written to become it.
use Rattle.std.proofs.Common.{◌≡◌, ℕ, zero, suc, ◌+◌, ◌-◌, ◌*◌, ◌/◌, ◌%◌, ◌^◌, ◌<◌, ◌≤◌, Bool, true, false, eqb, List, [], ◌∷◌, ◌++◌}
use Rattle.std.proofs.Common.{length, replicate, refl, sym, ap, ◌∙◌, subst, arith, inl, inr, append_assoc, length-append, add-zero}
use Rattle.std.proofs.lemmas.Nat.{pow_pos, shr_high, mod_low, shl-shr, shl_below}
use Rattle.std.proofs.lemmas.List.{append-nil, nil_from_length, length-replicate, replicate-append-replicate}
use Rattle.std.proofs.lemmas.Bool.{cases_Bool, cases_lt, cases_eq, eqb-true, eqb-false}
use Rattle.std.proofs.Math.Nat.{mod-eq_of_lt, zero-div, div-eq_of_lt, pow-suc}
use Rattle.jls_bits.specs.Bits.{bits, value_of_bits, width_after, bits_read_after, is_whole_after, bits_read}
use Rattle.jls_bits.specs.Pad.{Carries, IsPad, last_bytes, pad_after, pad}
use Rattle.jls_bits.specs.Appending.{last_after, AreFilled}
use Rattle.jls_bits.proofs.NumberBits.{length-bits, bits_none, bits_cong, bits_split, cons_same}
use Rattle.jls_bits.proofs.DataBits.{width_bounds, data_end, whole_end}
use Rattle.jls_bits.proofs.Appending.{data_append, whole_prefix, last_append, last_is, many_bits, same_stream, filled_more, below_256}

-- bytes that carry the bits have as many data bits at least
carried_length : (given : List Bool) (bytes : List ℕ) → Carries given bytes → length given ≤ length (bits_read bytes)
carried_length given bytes c = let e = ap length c.data_bits.read in let a = length-append given (replicate c.zeros false) in
    omega (arith, e, a)

-- Other bytes that carry the bits, where they are no more than these bytes, begin these bytes. What these bytes carry and
-- `tail` are the bits
carried_prefix : (given tail : List Bool) (bytes others : List ℕ) → AreFilled bytes → given ≡ bits_read bytes ++ tail → Carries given others
    → length others ≤ length bytes
    → (rest : List ℕ) × (bytes ≡ others ++ rest) × (length (bits_read others) + 7 * length rest ≤ length (bits_read bytes))
carried_prefix given tail bytes others f e c l =
    let a : bits_read others ++ [] ≡ bits_read bytes ++ (tail ++ replicate c.zeros false) = append-nil (bits_read others) ∙ c.data_bits.read
    ∙ ap (λ z. z ++ replicate c.zeros false) e ∙ append_assoc (bits_read bytes) tail (replicate c.zeros false) in
    let r = same_stream 0 others bytes [] (tail ++ replicate c.zeros false) c.are_bytes f.are_bytes c.data_bits.whole f.whole a l in
    let w = whole_prefix 0 others r.0 (subst (λ z. is_whole_after 0 z ≡ true) r.1 f.whole) in
    let b = ap length (ap (bits_read_after 0) r.1 ∙ data_append 0 others r.0 w.0) in
    let d = length-append (bits_read others) (bits_read_after (last_after 0 others) r.0) in
    let m = many_bits (last_after 0 others) r.0 w.1 in
    (r.0, r.1, omega (arith, b, d, m))

-- a zero among the bits of a byte: it isn't 0xFF
ones_alone : (n : ℕ) (left : List Bool) (d : ℕ) → 0 < d → replicate n true ≡ left ++ replicate d false → ⊥
ones_alone n left zero h e = absurd (omega arith)
ones_alone zero [] (suc d) h e = cc
ones_alone (suc n) [] (suc d) h e = cc
ones_alone zero (x ∷ left) (suc d) h e = cc
ones_alone (suc n) (x ∷ left) (suc d) h e = ones_alone n left (suc d) h (cc)

ones_of_ff : (w : ℕ) → 7 ≤ w → w ≤ 8 → bits w 255 ≡ replicate w true
unfolding bits
ones_of_ff w h j = elim (cases_eq w 7) [ inl e ↦ rw e refl | inr e ↦ (let f : w ≡ 8 = omega arith in rw f refl) ]

not_ones : (w x : ℕ) (left : List Bool) (d : ℕ) → (7 ≤ w) × (w ≤ 8) → x ≡ 255 → 0 < d → bits w x ≡ left ++ replicate d false → ⊥
not_ones w x left d h e l xs = ones_alone w left d l (sym (ones_of_ff w h.0 h.1) ∙ ap (bits w) (sym e) ∙ xs)

-- a byte of zeros
pub zero_bits : (n : ℕ) → bits n 0 ≡ replicate n false
unfolding bits
zero_bits zero = refl
zero_bits (suc n) = let e : 0 / 2 ^ n % 2 ≡ 0 = ap (λ z. z % 2) (zero-div (2 ^ n)) in cons_same (ap (λ z. eqb z 1) e) (zero_bits n)

-- the number of bits, and back
pub value_bound : (bs : List Bool) → value_of_bits bs < 2 ^ length bs
unfolding value_of_bits
value_bound [] = omega arith
value_bound (b ∷ bs) = let r = value_bound bs in let p : 2 ^ suc (length bs) ≡ 2 ^ length bs * 2 = pow-suc 2 (length bs) in
    rw p (elim (cases_Bool b) [ inl h ↦ rw h (omega arith) | inr h ↦ rw h (omega arith) ])

-- the bits of the number that some bits are, are these bits
pub bits_of_value : (bs : List Bool) → bits (length bs) (value_of_bits bs) ≡ bs
unfolding bits value_of_bits
bits_of_value [] = refl
bits_of_value (true ∷ bs) =
    let n = length bs in let v = value_of_bits bs in let l = value_bound bs in
    let one : 2 ^ n + v ≡ 1 * 2 ^ n + v = omega arith in
    let d : (2 ^ n + v) / 2 ^ n ≡ 1 = ap (λ z. z / 2 ^ n) one ∙ shr_high 1 n v l in
    let m : (2 ^ n + v) % 2 ^ n ≡ v % 2 ^ n = ap (λ z. z % 2 ^ n) one ∙ mod_low 1 n v l ∙ sym (mod-eq_of_lt l) in
    cons_same (ap (λ z. eqb (z % 2) 1) d) (bits_cong n (2 ^ n + v) v m ∙ bits_of_value bs)
bits_of_value (false ∷ bs) =
    let n = length bs in let v = value_of_bits bs in let l = value_bound bs in
    let none : 0 + v ≡ v = omega arith in
    let d : (0 + v) / 2 ^ n ≡ 0 = ap (λ z. z / 2 ^ n) none ∙ div-eq_of_lt l in
    cons_same (ap (λ z. eqb (z % 2) 1) d) (ap (bits n) none ∙ bits_of_value bs)

-- bits that fill a byte
filled_byte : (w : ℕ) (bs : List Bool) → length bs ≡ w → (bits w (value_of_bits bs) ≡ bs) × (value_of_bits bs < 2 ^ w)
filled_byte w bs e = (
  ap (λ z. bits z (value_of_bits bs)) (sym e) ∙ bits_of_value bs,
  subst (λ z. value_of_bits bs < 2 ^ z) e (value_bound bs),
)

-- bytes that don't end in 0xFF
not_last : (bytes : List ℕ) → (last_after 0 bytes ≡ 255 → ⊥) → (prefix : List ℕ) → bytes ≡ prefix ++ 255 ∷ [] → ⊥
not_last bytes h prefix e = h (ap (last_after 0) e ∙ last_append 0 prefix 255)

-- Whole bytes that carry the bits alone, and don't end in 0xFF, are the pad
pub whole_pad : (given : List Bool) (bytes : List ℕ) → AreFilled bytes → given ≡ bits_read bytes → (last_after 0 bytes ≡ 255 → ⊥)
    → IsPad given bytes
whole_pad given bytes f e h = record {
  carries = record {
    are_bytes = f.are_bytes;
    zeros = 0;
    data_bits = record { whole = f.whole; read = sym e ∙ sym (append-nil given) };
    last = not_last bytes h;
  };
  shortest = λ others c. elim (cases_lt (length others) (length bytes)) [
    | inl l ↦ (let r = carried_prefix given [] bytes others f (e ∙ sym (append-nil (bits_read bytes))) c (omega arith) in
        let n = carried_length given others c in let k = ap length e in let z = ap length r.1 in let y = length-append others r.0 in
        let b = r.2 in absurd (omega (arith, n, k, z, y, b)))
    | inr l ↦ l
  ];
}

-- where they end in 0xFF, a byte of zeros follows
pub stuffed_pad : (given : List Bool) (bytes : List ℕ) → AreFilled bytes → given ≡ bits_read bytes → last_after 0 bytes ≡ 255
    → bits (width_after (last_after 0 bytes)) 0 ≡ replicate (width_after (last_after 0 bytes)) false → IsPad given (bytes ++ 0 ∷ [])
stuffed_pad given bytes f e h zs =
    let w = width_after (last_after 0 bytes) in let p = filled_more bytes 0 f (pow_pos w) in
    record {
      carries = record {
        are_bytes = p.0.are_bytes;
        zeros = w;
        data_bits =
            record { whole = p.0.whole; read = p.1 ∙ ap (λ z. z ++ bits w 0) (sym e) ∙ ap (λ z. given ++ z) zs };
        last =
            not_last (bytes ++ 0 ∷ []) (λ q. let v = sym q ∙ last_append 0 bytes 0 in omega arith);
      };
      shortest = λ others c. elim (cases_lt (length bytes) (length others))
          [ inl l ↦ (let a = length-append bytes (0 ∷ []) in omega (arith, a)) | inr l ↦ absurd (all_of others c l) ];
    }
  where
    all_of : (others : List ℕ) → Carries given others → length others ≤ length bytes → ⊥
    all_of others c l =
        let r = carried_prefix given [] bytes others f (e ∙ sym (append-nil (bits_read bytes))) c l in
        let n = carried_length given others c in let k = ap length e in let b = r.2 in
        let z : r.0 ≡ [] = nil_from_length r.0 (omega (arith, n, k, b)) in
        let same : bytes ≡ others = r.1 ∙ ap (λ x. others ++ x) z ∙ append-nil others in
        let q = last_is 0 others (λ t. let u : 0 ≡ 255 = t in omega arith) (sym (ap (last_after 0) same) ∙ h) in c.last q.0 q.1

-- where bits are left that fill no byte, they and zeros are the last byte
pub partial_pad : (given left : List Bool) (bytes : List ℕ) (x : ℕ) → AreFilled bytes → given ≡ bits_read bytes ++ left → 0 < length left
    → length left < width_after (last_after 0 bytes)
    → x < 2 ^ width_after (last_after 0 bytes) → bits (width_after (last_after 0 bytes)) x ≡ left
    ++ replicate (width_after (last_after 0 bytes) - length left) false → IsPad given (bytes ++ x ∷ [])
partial_pad given left bytes x f e some few small xs =
    let w = width_after (last_after 0 bytes) in let zs = replicate (w - length left) false in let p = filled_more bytes x f small in
    record {
      carries = record {
        are_bytes = p.0.are_bytes;
        zeros = w - length left;
        data_bits =
            record {
              whole = p.0.whole;
              read = p.1 ∙ ap (λ z. bits_read bytes ++ z) xs ∙ sym (append_assoc (bits_read bytes) left zs)
                  ∙ ap (λ z. z ++ zs) (sym e);
            };
        last =
            not_last (bytes ++ x ∷ []) (λ q. not_ones w x left (w - length left) (width_bounds (last_after 0 bytes))
            (sym (last_append 0 bytes x) ∙ q) (omega arith) xs);
      };
      shortest = λ others c. elim (cases_lt (length bytes) (length others)) [
        | inl l ↦ (let a = length-append bytes (x ∷ []) in omega (arith, a))
        | inr l ↦
            (let r = carried_prefix given left bytes others f e c l in let n = carried_length given others c in let k = ap length e in
            let a = length-append (bits_read bytes) left in let b = r.2 in absurd (omega (arith, n, k, a, b)))
      ];
    }

-- two pads of the same bits are one
pub one_pad : (given : List Bool) (xs ys : List ℕ) → IsPad given xs → IsPad given ys → xs ≡ ys
one_pad given xs ys a b =
    let l = a.shortest ys b.carries in let m = b.shortest xs a.carries in
    let zx = replicate a.carries.zeros false in let zy = replicate b.carries.zeros false in
    let t = replicate-append-replicate a.carries.zeros b.carries.zeros false in
    let u = replicate-append-replicate b.carries.zeros a.carries.zeros false in
    let n : a.carries.zeros + b.carries.zeros ≡ b.carries.zeros + a.carries.zeros = omega arith in
    let e : bits_read xs ++ zy ≡ bits_read ys ++ zx = ap (λ z. z ++ zy) a.carries.data_bits.read ∙ append_assoc given zx zy
    ∙ ap (λ z. given ++ z) (t ∙ ap (λ k. replicate k false) n ∙ sym u) ∙ sym (append_assoc given zy zx)
    ∙ ap (λ z. z ++ zx) (sym b.carries.data_bits.read) in
    let r = same_stream 0 xs ys zy zx a.carries.are_bytes b.carries.are_bytes a.carries.data_bits.whole b.carries.data_bits.whole e l in
    let d = ap length r.1 in let k = length-append xs r.0 in
    let z : r.0 ≡ [] = nil_from_length r.0 (omega (arith, d, k)) in
    sym (r.1 ∙ ap (λ x. xs ++ x) z ∙ append-nil xs)

-- the last bytes, after whole ones
last_pad : (given pending : List Bool) (bytes : List ℕ) → AreFilled bytes → length pending < width_after (last_after 0 bytes)
    → given ≡ bits_read bytes ++ pending
    → IsPad given (bytes ++ last_bytes (last_after 0 bytes) pending)
last_pad given [] bytes f few e =
    let last = last_after 0 bytes in let d : given ≡ bits_read bytes = e ∙ append-nil (bits_read bytes) in
    elim (cases_Bool (eqb last 255)) [
      | inl h ↦ rw h (stuffed_pad given bytes f d (eqb-true last 255 h) (zero_bits (width_after last)))
      | inr h ↦
          rw h (subst (IsPad given) (sym (append-nil bytes)) (whole_pad given bytes f d (eqb-false last 255 h)))
    ]
last_pad given (p ∷ ps) bytes f few e =
    let left = p ∷ ps in let w = width_after (last_after 0 bytes) in let all = left ++ replicate (w - length left) false in
    let a = length-append left (replicate (w - length left) false) in let b = length-replicate (w - length left) false in
    let r = filled_byte w all (omega (arith, a, b)) in
    partial_pad given left bytes (value_of_bits all) f e (omega arith) few r.1 r.0

-- a byte is full, or it isn't
pad_full : (before : ℕ) (pending : List Bool) (b : Bool) (bs : List Bool) → eqb (length pending + 1) (width_after before) ≡ true
    → pad_after before pending (b ∷ bs) ≡ value_of_bits (pending ++ b ∷ []) ∷ pad_after (value_of_bits (pending ++ b ∷ [])) [] bs
unfolding pad_after
pad_full before pending b bs h = rw h refl

pad_more : (before : ℕ) (pending : List Bool) (b : Bool) (bs : List Bool) → eqb (length pending + 1) (width_after before) ≡ false
    → pad_after before pending (b ∷ bs) ≡ pad_after before (pending ++ b ∷ []) bs
unfolding pad_after
pad_more before pending b bs h = rw h refl

pad_end : (before : ℕ) (pending : List Bool) → pad_after before pending [] ≡ last_bytes before pending
unfolding pad_after
pad_end before pending = refl

-- the pad as it is computed: the bytes so far are whole, and the pending bits fill none
pub pads_from : (given pending more : List Bool) (bytes : List ℕ) → AreFilled bytes → length pending < width_after (last_after 0 bytes)
    → given ≡ bits_read bytes ++ (pending ++ more)
    → IsPad given (bytes ++ pad_after (last_after 0 bytes) pending more)
pads_from given pending [] bytes f few e =
    subst (λ z. IsPad given (bytes ++ z)) (sym (pad_end (last_after 0 bytes) pending))
    (last_pad given pending bytes f few (e ∙ ap (λ z. bits_read bytes ++ z) (append-nil pending)))
pads_from given pending (b ∷ bs) bytes f few e =
    let last = last_after 0 bytes in let w = width_after last in let q = pending ++ b ∷ [] in let x = value_of_bits q in
    let l = length-append pending (b ∷ []) in
    let d : given ≡ bits_read bytes ++ (q ++ bs) = e ∙ ap (λ z. bits_read bytes ++ z) (sym (append_assoc pending (b ∷ []) bs)) in
    elim (cases_Bool (eqb (length pending + 1) w)) [
      | inl h ↦ (let n = eqb-true (length pending + 1) w h in
          let r = filled_byte w q (omega (arith, l, n)) in let m = filled_more bytes x f r.1 in let z = last_append 0 bytes x in
          let k = width_bounds (last_after 0 (bytes ++ x ∷ [])) in
          let next = pads_from given [] bs (bytes ++ x ∷ []) m.0 (omega (arith, k))
          (d ∙ sym (append_assoc (bits_read bytes) q bs) ∙ ap (λ y. y ++ bs) (ap (λ y. bits_read bytes ++ y) (sym r.0) ∙ sym m.1)) in
          subst (IsPad given) (append_assoc bytes (x ∷ []) (pad_after (last_after 0 (bytes ++ x ∷ [])) [] bs)
          ∙ ap (λ y. bytes ++ x ∷ pad_after y [] bs) z ∙ ap (λ y. bytes ++ y) (sym (pad_full last pending b bs h))) next)
      | inr h ↦ (let n = eqb-false (length pending + 1) w h in
          subst (λ y. IsPad given (bytes ++ y)) (sym (pad_more last pending b bs h))
          (pads_from given q bs bytes f (omega (arith, l, few, n)) d))
    ]

-- the pad of the bits
pub pad_is_pad : (given : List Bool) → IsPad given (pad given)
pad_is_pad given = pads_from given [] given [] (record { are_bytes = tt; whole = whole_end 0 }) (let w = width_bounds 0 in omega (arith, w))
    (ap (λ z. z ++ given) (sym (data_end 0)))

-- the bits after whole bytes, at the top of a byte of zeros
top_bits : (w count partial : ℕ) → count < w → partial < 2 ^ count
    → (bits w (partial * 2 ^ (w - count)) ≡ bits count partial ++ replicate (w - count) false) × (partial * 2 ^ (w - count) < 2 ^ w)
top_bits w count partial l b =
    let d = w - count in let x = partial * 2 ^ d in let e : w ≡ count + d = omega arith in
    let none : x % 2 ^ d ≡ 0 % 2 ^ d = ap (λ z. z % 2 ^ d) (sym (add-zero x)) ∙ mod_low partial d 0 (pow_pos d)
    ∙ sym (mod-eq_of_lt (pow_pos d)) in (
      ap (λ z. bits z x) e ∙ bits_split count d x ∙ ap (λ z. bits count z ++ bits d x) (shl-shr partial d)
          ∙ ap (λ z. bits count partial ++ z) (bits_cong d x 0 none ∙ zero_bits d),
      subst (λ z. x < 2 ^ z) (sym e) (shl_below partial count d b),
    )

-- the three ends of a writer
module _ (bytes : List ℕ) (last count partial : ℕ) (f : AreFilled bytes) (e : last ≡ last_after 0 bytes) where
  -- the last byte, filled up with zeros, makes the bytes so far the pad of all bits
  pub finish_partial : (x : ℕ) → count < width_after last → partial < 2 ^ count → 0 < count
      → x ≡ partial * 2 ^ (width_after last - count) % 256
      → IsPad (bits_read bytes ++ bits count partial) (bytes ++ x ∷ [])
  finish_partial x few small some is =
      let given = bits_read bytes ++ bits count partial in let w = width_after (last_after 0 bytes) in
      let few' : count < w = subst (λ z. count < width_after z) e few in let r = top_bits w count partial few' small in
      let n = length-bits count partial in
      let byte = below_256 (last_after 0 bytes) (partial * 2 ^ (w - count)) r.1 in
      let same : x ≡ partial * 2 ^ (w - count) = is ∙ ap (λ z. partial * 2 ^ (width_after z - count) % 256) e ∙ mod-eq_of_lt byte in
      let p = partial_pad given (bits count partial) bytes (partial * 2 ^ (w - count)) f refl (omega (arith, n, some))
      (omega (arith, n, few')) r.1 (r.0 ∙ ap (λ z. bits count partial ++ replicate (w - z) false) (sym n)) in
      subst (λ z. IsPad given (bytes ++ z ∷ [])) (sym same) p

  no_bits : count ≡ 0 → bits_read bytes ++ bits count partial ≡ bits_read bytes
  no_bits h = ap (λ z. bits_read bytes ++ z) (ap (λ z. bits z partial) h ∙ bits_none partial) ∙ append-nil (bits_read bytes)

  pub finish_stuffed : count ≡ 0 → last ≡ 255 → IsPad (bits_read bytes ++ bits count partial) (bytes ++ 0 ∷ [])
  finish_stuffed h j = stuffed_pad (bits_read bytes ++ bits count partial) bytes f (no_bits h) (sym e ∙ j)
      (zero_bits (width_after (last_after 0 bytes)))

  pub finish_whole : count ≡ 0 → (last ≡ 255 → ⊥) → IsPad (bits_read bytes ++ bits count partial) bytes
  finish_whole h j = whole_pad (bits_read bytes ++ bits count partial) bytes f (no_bits h) (λ q. j (e ∙ q))
