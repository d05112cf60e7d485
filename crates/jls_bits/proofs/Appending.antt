-- Bytes that bits are appended to: whole bytes, and then the bits that fill no byte yet.
use Rattle.std.proofs.Common.{◌≡◌, ℕ, ◌*◌, ◌%◌, ◌^◌, ◌<◌, ◌≤◌, Bool, true, false, not, eqb, leb, List, [], ◌∷◌, ◌++◌, length, refl, sym, ap}
use Rattle.std.proofs.Common.{◌∙◌, arith, inl, inr, append_assoc}
use Rattle.std.specs.List.{AllByRecursion}
use Rattle.std.proofs.lemmas.List.{append-nil}
use Rattle.std.proofs.lemmas.Bool.{cases_Bool, and_parts, not-true, leb-false, lt-leb}
use Rattle.std.proofs.Math.Pow.{pow_mono}
use Rattle.std.proofs.Math.Nat.{mod-eq_of_lt}
use Rattle.jls_bits.specs.Bits.{bits, width_after, ends_data, bits_read_after, is_whole_after}
use Rattle.jls_bits.specs.Appending.{last_after, AreFilled}
use Rattle.jls_bits.proofs.NumberBits.{bits_same}
use Rattle.jls_bits.proofs.DataBits.{width_bounds, data_end, data_more, whole_more, whole_end, length_more}

abbrev AreBytes : List ℕ → Type 0
AreBytes xs = AllByRecursion (λ x. x < 256) xs

-- whole bytes begin with one that doesn't end the data
pub whole_parts : (before x : ℕ) (xs : List ℕ) → is_whole_after before (x ∷ xs) ≡ true
    → (ends_data before x ≡ false) × (is_whole_after x xs ≡ true)
unfolding is_whole_after
whole_parts before x xs h = let p = and_parts (not (ends_data before x)) (is_whole_after x xs) h in (not-true (ends_data before x) p.0, p.1)

-- a byte that doesn't end the data is below 2 to the number of its data bits, and the other way round
pub fits_width : (before x : ℕ) → ends_data before x ≡ false → x < 256 → x < 2 ^ width_after before
unfolding ends_data width_after
fits_width before x h l =
    elim (cases_Bool (eqb before 255))
    [ inl e ↦ (let f : leb 128 x ≡ false = rw e at h in let g = leb-false 128 x f in rw e (omega arith)) | inr e ↦ rw e (omega arith) ]

-- a byte whose bits fill the width after the one before does not end the data
pub goes_on : (before x : ℕ) → x < 2 ^ width_after before → ends_data before x ≡ false
unfolding ends_data width_after
goes_on before x l =
    elim (cases_Bool (eqb before 255)) [
      | inl e ↦ (let s : x < 2 ^ 7 = rw e at l in let f : leb 128 x ≡ false = lt-leb 128 x (omega arith) in rw (e, f) refl)
      | inr e ↦
          rw e refl
    ]

pub below_256 : (before x : ℕ) → x < 2 ^ width_after before → x < 256
below_256 before x l = let m : 2 ^ width_after before ≤ 2 ^ 8 = pow_mono {i = width_after before} {j = 8} (width_bounds before).1 in
    omega arith

-- the data bits of joined bytes
pub data_append : (before : ℕ) (xs ys : List ℕ) → is_whole_after before xs ≡ true
    → bits_read_after before (xs ++ ys) ≡ bits_read_after before xs ++ bits_read_after (last_after before xs) ys
data_append before [] ys h = ap (λ z. z ++ bits_read_after before ys) (sym (data_end before))
data_append before (x ∷ xs) ys h =
    let p = whole_parts before x xs h in
    data_more before x (xs ++ ys) p.0 ∙ ap (λ z. bits (width_after before) x ++ z) (data_append x xs ys p.1)
    ∙ sym (append_assoc (bits (width_after before) x) (bits_read_after x xs) (bits_read_after (last_after x xs) ys))
    ∙ ap (λ z. z ++ bits_read_after (last_after x xs) ys) (sym (data_more before x xs p.0))

pub whole_append : (before : ℕ) (xs ys : List ℕ) → is_whole_after before xs ≡ true → is_whole_after (last_after before xs) ys ≡ true
    → is_whole_after before (xs ++ ys) ≡ true
whole_append before [] ys h j = j
whole_append before (x ∷ xs) ys h j = let p = whole_parts before x xs h in whole_more before x (xs ++ ys) p.0 ∙ whole_append x xs ys p.1 j

-- whole bytes in two parts are whole in each
pub whole_prefix : (before : ℕ) (xs ys : List ℕ) → is_whole_after before (xs ++ ys) ≡ true
    → (is_whole_after before xs ≡ true) × (is_whole_after (last_after before xs) ys ≡ true)
whole_prefix before [] ys h = (whole_end before, h)
whole_prefix before (x ∷ xs) ys h = let p = whole_parts before x (xs ++ ys) h in let r = whole_prefix x xs ys p.1 in
    (whole_more before x xs p.0 ∙ r.0, r.1)

pub bytes_append : (xs ys : List ℕ) → AreBytes xs → AreBytes ys → AreBytes (xs ++ ys)
bytes_append [] ys h j = j
bytes_append (x ∷ xs) ys h j = (h.0, bytes_append xs ys h.1 j)

pub last_append : (before : ℕ) (xs : List ℕ) (y : ℕ) → last_after before (xs ++ y ∷ []) ≡ y
last_append before [] y = refl
last_append before (x ∷ xs) y = last_append x xs y

-- a list whose last element is x
prefix_of : (x y : ℕ) (ys : List ℕ) (v : ℕ) → last_after y ys ≡ v → (prefix : List ℕ) × (x ∷ (y ∷ ys) ≡ prefix ++ v ∷ [])
prefix_of x y [] v e = (x ∷ [], ap (λ z. x ∷ (z ∷ [])) e)
prefix_of x y (z ∷ zs) v e = let r = prefix_of y z zs v e in (x ∷ r.0, ap (λ u. x ∷ u) r.1)

-- bytes that end in 0xFF
pub last_is : (before : ℕ) (xs : List ℕ) → (before ≡ 255 → ⊥) → last_after before xs ≡ 255 → (prefix : List ℕ) × (xs ≡ prefix ++ 255 ∷ [])
last_is before [] h e = absurd (h e)
last_is before (x ∷ []) h e = ([], ap (λ z. z ∷ []) e)
last_is before (x ∷ (y ∷ ys)) h e = prefix_of x y ys 255 e

-- whole bytes have seven data bits each at least
pub many_bits : (before : ℕ) (xs : List ℕ) → is_whole_after before xs ≡ true → 7 * length xs ≤ length (bits_read_after before xs)
many_bits before [] h = omega arith
many_bits before (x ∷ xs) h =
    let p = whole_parts before x xs h in let r = many_bits x xs p.1 in let l = length_more before x xs p.0 in let w = width_bounds before in
    omega (arith, r, l, w)

-- the bytes for one stream of bits: of two lists the shorter one begins the other
pub same_stream : (before : ℕ) (xs ys : List ℕ) (s t : List Bool) → AreBytes xs → AreBytes ys → is_whole_after before xs ≡ true
    → is_whole_after before ys ≡ true
    → bits_read_after before xs ++ s ≡ bits_read_after before ys ++ t → length xs ≤ length ys → (rest : List ℕ) × (ys ≡ xs ++ rest)
same_stream before [] ys s t a b h j e l = (ys, refl)
same_stream before (x ∷ xs) [] s t a b h j e l = absurd (omega arith)
same_stream before (x ∷ xs) (y ∷ ys) s t a b h j e l =
    let p = whole_parts before x xs h in let q = whole_parts before y ys j in let w = width_after before in
    let f : bits w x ++ (bits_read_after x xs ++ s) ≡ bits w y ++ (bits_read_after y ys ++ t) =
    sym (append_assoc (bits w x) (bits_read_after x xs) s) ∙ ap (λ z. z ++ s) (sym (data_more before x xs p.0)) ∙ e
    ∙ ap (λ z. z ++ t) (data_more before y ys q.0) ∙ append_assoc (bits w y) (bits_read_after y ys) t in
    let r = bits_same w x y (bits_read_after x xs ++ s) (bits_read_after y ys ++ t) f in
    let m : x % 2 ^ w ≡ x = mod-eq_of_lt (fits_width before x p.0 a.0) in
    let n : y % 2 ^ w ≡ y = mod-eq_of_lt (fits_width before y q.0 b.0) in
    let c : x ≡ y = sym m ∙ r.0 ∙ n in
    let k : (is_whole_after x ys ≡ true) × (bits_read_after x xs ++ s ≡ bits_read_after x ys ++ t) = rw c (q.1, rw c at r.1) in
    let u = same_stream x xs ys s t a.1 b.1 p.1 k.0 k.1 (omega arith) in (u.0, ap (λ z. z ∷ ys) (sym c) ∙ ap (λ z. x ∷ z) u.1)

-- bytes that bits were written to, and one more byte
pub filled_more : (bytes : List ℕ) (x : ℕ) → AreFilled bytes → x < 2 ^ width_after (last_after 0 bytes)
    → AreFilled (bytes ++ x ∷ []) × (bits_read_after 0 (bytes ++ x ∷ []) ≡ bits_read_after 0 bytes
    ++ bits (width_after (last_after 0 bytes)) x)
filled_more bytes x f l =
    let last = last_after 0 bytes in let e = goes_on last x l in (
      record {
        are_bytes = bytes_append bytes (x ∷ []) f.are_bytes (below_256 last x l, tt);
        whole =
            whole_append 0 bytes (x ∷ []) f.whole (whole_more last x [] e ∙ whole_end x);
      },
      data_append 0 bytes (x ∷ []) f.whole
          ∙ ap (λ z. bits_read_after 0 bytes ++ z)
          (data_more last x [] e ∙ ap (λ z. bits (width_after last) x ++ z) (data_end x) ∙ append-nil (bits (width_after last) x)),
    )
