-- What lines are written as reads as them: at most seven zeros follow the bits in their pad.
use Rattle.std.proofs.Common.{◌≡◌, ℕ, zero, suc, ◌+◌, ◌-◌, ◌/◌, ◌^◌, ◌<◌, ◌≤◌, Bool, true, false, List, [], ◌∷◌, ◌++◌, length, replicate}
use Rattle.std.proofs.Common.{refl, sym, ap, ◌∙◌, subst, arith, inl, inr, append_assoc, length-append}
use Rattle.std.specs.List.{AllByRecursion}
use Rattle.std.proofs.lemmas.List.{append-nil, length-replicate}
use Rattle.std.proofs.lemmas.Bool.{cases_lt}
use Rattle.jls_values.specs.Params.{CodingParameters}
use Rattle.jls_bits.specs.Bits.{bits, width_after, bits_read_after, is_whole_after}
use Rattle.jls_bits.specs.Pad.{IsPad}
use Rattle.jls_bits.specs.Appending.{last_after}
use Rattle.jls_bits.proofs.NumberBits.{length-bits, bits_split}
use Rattle.jls_bits.proofs.DataBits.{width_bounds, data_end, data_more}
use Rattle.jls_bits.proofs.Appending.{whole_parts, data_append, whole_prefix, last_append}
use Rattle.jls_bits.proofs.Padding.{pad_is_pad}
use Rattle.jls_interval.specs.Lines.{AreLines, interval_shape}
use Rattle.jls_interval.specs.Code.{code}
use Rattle.jls_interval.specs.Reads.{Reads, packed}

-- Ends of lists ------------------------------------------------------------------

record Ended (xs : List ℕ) : Type 0 where
  prefix : List ℕ
  last : ℕ
  is : xs ≡ prefix ++ last ∷ []

ended : (x : ℕ) (xs : List ℕ) → Ended (x ∷ xs)
ended x [] = record { prefix = []; last = x; is = refl }
ended x (y ∷ ys) = let r = ended y ys in record { prefix = x ∷ r.prefix; last = r.last; is = ap (λ z. x ∷ z) r.is }

-- equal lists in two parts, of which the second are as long, have equal parts
same_prefix : (a b c d : List Bool) → a ++ b ≡ c ++ d → length b ≡ length d → (a ≡ c) × (b ≡ d)
same_prefix [] b [] d e l = (refl, e)
same_prefix [] b (y ∷ c) d e l = let n = ap length e in let m = length-append (y ∷ c) d in absurd (omega (arith, n, m))
same_prefix (x ∷ a) b [] d e l = let n = ap length e in let m = length-append (x ∷ a) b in absurd (omega (arith, n, m))
same_prefix (x ∷ a) b (y ∷ c) d e l = let h : x ≡ y = cc in let r = same_prefix a b c d (cc) l in let i : a ≡ c = r.0 in (cc, r.1)

last_same : (xs ys : List Bool) (a b : Bool) → xs ++ a ∷ [] ≡ ys ++ b ∷ [] → a ≡ b
last_same xs ys a b e = let r = (same_prefix xs (a ∷ []) ys (b ∷ []) e refl).1 in cc

zeros_split : (m n : ℕ) → replicate (m + n) false ≡ replicate m false ++ replicate n false
zeros_split zero n = ap (λ z. replicate z false) (let e : 0 + n ≡ n = omega arith in e)
zeros_split (suc m) n = ap (λ z. replicate z false) (let e : suc m + n ≡ suc (m + n) = omega arith in e)
    ∙ ap (λ z. false ∷ z) (zeros_split m n)

prefix_bytes : (xs ys : List ℕ) → AllByRecursion (λ x. x < 256) (xs ++ ys) → AllByRecursion (λ x. x < 256) xs
prefix_bytes [] ys h = tt
prefix_bytes (x ∷ xs) ys h = (h.0, prefix_bytes xs ys h.1)

-- the last of some bits of 0xFF is a one
ones_last : (n : ℕ) → 1 ≤ n → bits n 255 ≡ bits (n - 1) (255 / 2 ^ 1) ++ true ∷ []
unfolding bits
ones_last n h = ap (λ z. bits z 255) (let e : n ≡ n - 1 + 1 = omega arith in e) ∙ bits_split (n - 1) 1 255

module _ (given : List Bool) (bytes : List ℕ) (is_pad : IsPad given bytes) (many : 8 ≤ is_pad.carries.zeros) (prefix : List ℕ) (x : ℕ)
    (is : bytes ≡ prefix ++ x ∷ []) where
  abbrev width : ℕ
  width = width_after (last_after 0 prefix)

  abbrev fewer : ℕ
  fewer = is_pad.carries.zeros - width

  whole : (is_whole_after 0 prefix ≡ true) × (is_whole_after (last_after 0 prefix) (x ∷ []) ≡ true)
  whole = whole_prefix 0 prefix (x ∷ []) (subst (λ z. is_whole_after 0 z ≡ true) is is_pad.carries.data_bits.whole)

  -- a byte less has the same bits before its zeros
  read_less : bits_read_after 0 prefix ≡ given ++ replicate fewer false
  read_less =
      let n = width_bounds (last_after 0 prefix) in let ends = (whole_parts (last_after 0 prefix) x [] whole.1).0 in
      let read : bits_read_after 0 (prefix ++ x ∷ []) ≡ bits_read_after 0 prefix ++ bits width x = data_append 0 prefix (x ∷ []) whole.0
      ∙ ap (λ z. bits_read_after 0 prefix ++ z)
      (data_more (last_after 0 prefix) x [] ends ∙ ap (λ z. bits width x ++ z) (data_end x) ∙ append-nil (bits width x)) in
      let zs : replicate is_pad.carries.zeros false ≡ replicate fewer false ++ replicate width false =
      ap (λ k. replicate k false) (let e : is_pad.carries.zeros ≡ fewer + width = omega (arith, n) in e) ∙ zeros_split fewer width in
      (same_prefix (bits_read_after 0 prefix) (bits width x) (given ++ replicate fewer false) (replicate width false)
      (sym read ∙ ap (bits_read_after 0) (sym is) ∙ is_pad.carries.data_bits.read ∙ ap (λ k. given ++ k) zs
      ∙ sym (append_assoc given (replicate fewer false) (replicate width false)))
      (length-bits width x ∙ sym (length-replicate width false))).0

  -- the bytes before the last one do not end in FF: their last bit would be a one
  no_ff : (f : List ℕ) → prefix ≡ f ++ 255 ∷ [] → ⊥
  unfolding width_after
  no_ff f e =
      let l : last_after 0 prefix ≡ 255 = ap (last_after 0) e ∙ last_append 0 f 255 in
      let seven : width_after (last_after 0 prefix) ≡ 7 = ap width_after l in
      let w = whole_prefix 0 f (255 ∷ []) (subst (λ z. is_whole_after 0 z ≡ true) e whole.0) in
      let m = width_after (last_after 0 f) in let b = width_bounds (last_after 0 f) in
      let read : bits_read_after 0 prefix ≡ (bits_read_after 0 f ++ bits (m - 1) (255 / 2 ^ 1)) ++ true ∷ [] = ap (bits_read_after 0) e
      ∙ data_append 0 f (255 ∷ []) w.0
      ∙ ap (λ z. bits_read_after 0 f ++ z)
      (data_more (last_after 0 f) 255 [] (whole_parts (last_after 0 f) 255 [] w.1).0 ∙ ap (λ z. bits m 255 ++ z) (data_end 255)
      ∙ append-nil (bits m 255) ∙ ones_last m (omega (arith, b)))
      ∙ sym (append_assoc (bits_read_after 0 f) (bits (m - 1) (255 / 2 ^ 1)) (true ∷ [])) in
      let zs : replicate fewer false ≡ replicate (fewer - 1) false ++ false ∷ [] =
      ap (λ k. replicate k false) (let q : fewer ≡ fewer - 1 + 1 = omega (arith, seven) in q) ∙ zeros_split (fewer - 1) 1 in
      let bad : true ≡ false = last_same (bits_read_after 0 f ++ bits (m - 1) (255 / 2 ^ 1)) (given ++ replicate (fewer - 1) false) true
      false (sym read ∙ read_less ∙ ap (λ z. given ++ z) zs ∙ sym (append_assoc given (replicate (fewer - 1) false) (false ∷ []))) in cc

  -- bytes of which one less carries the same bits are no pad
  pub not_shortest : ⊥
  not_shortest =
      let s = is_pad.shortest prefix
      (record {
        are_bytes = prefix_bytes prefix (x ∷ []) (subst (λ z. AllByRecursion (λ y. y < 256) z) is is_pad.carries.are_bytes);
        zeros = fewer;
        data_bits = record { whole = whole.0; read = read_less };
        last = no_ff;
      }) in
      let l = ap length is in let a = length-append prefix (x ∷ []) in absurd (omega (arith, s, l, a))

-- a pad has at most seven zeros behind the bits
pub pad_zeros : (given : List Bool) (bytes : List ℕ) → (is_pad : IsPad given bytes) → is_pad.carries.zeros ≤ 7
pad_zeros given [] is_pad =
    let e = ap length is_pad.carries.data_bits.read in let n = ap length (data_end 0) in
    let a = length-append given (replicate is_pad.carries.zeros false) in let r = length-replicate is_pad.carries.zeros false in
    omega (arith, e, n, a, r)
pad_zeros given (x ∷ xs) is_pad =
    elim (cases_lt 7 is_pad.carries.zeros)
    [ inl many ↦ (let r = ended x xs in absurd (not_shortest given (x ∷ xs) is_pad many r.prefix r.last r.is)) | inr few ↦ few ]

-- what lines are written as reads as these lines
pub packed_reads : (p : CodingParameters) (w c n : ℕ) (lines : List (List ℕ)) → AreLines p w n lines
    → Reads (interval_shape p w c n) (packed p w c lines) lines
packed_reads p w c n lines are =
    let h = pad_is_pad (code p w c lines) in
    let few = pad_zeros (code p w c lines) (packed p w c lines) h in let r = length-replicate h.carries.zeros false in
    record {
      unread = replicate h.carries.zeros false;
      begins = record { are_bytes = h.carries.are_bytes; are_lines = are; data_bits = h.carries.data_bits };
      at_most_seven = omega (arith, few, r);
    }
