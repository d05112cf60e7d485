-- Proper prefixes of the bits of a run.
use Rattle.std.proofs.Common.{◌≡◌, ◌⊎◌, ℕ, zero, suc, ◌+◌, ◌-◌, ◌/◌, ◌^◌, ◌<◌, ◌≤◌, Bool, true, false, eqb, List, []}
use Rattle.std.proofs.Common.{◌∷◌, ◌++◌, length, replicate, refl, sym, ap, ◌∙◌, subst, arith, inl, inr, length-append}
use Rattle.std.proofs.lemmas.List.{append-nil, replicate-append-replicate}
use Rattle.std.proofs.lemmas.Bool.{cases_Bool, cases_eq, eqb-true, eqb-false}
use Rattle.std.proofs.lemmas.Nat.{pow_pos, shr_below}
use Rattle.std.proofs.Math.Nat.{div-mul-le_self}
use Rattle.jls_bits.specs.Bits.{bits}
use Rattle.jls_bits.proofs.NumberBits.{bits_split, length-bits}
use Rattle.jls_interval.specs.Runs.{run_order, run_index_raised, block_columns, full_blocks, blocks}
use Rattle.jls_interval.specs.Code.{run_to_end_bits}
use Rattle.jls_interval.specs.CutEvents.{IsProperPrefix, CutsBlocks, CutsCount}
use Rattle.jls_interval.proofs.StepwiseCodes.{one_begins}
use Rattle.jls_interval.proofs.Runs.{full_fit, full_only}

-- Bits in general -----------------------------------------------------------------------------------

cons_is : (x y : Bool) (xs ys : List Bool) → x ∷ xs ≡ y ∷ ys → (x ≡ y) × (xs ≡ ys)
cons_is x y xs ys e = (cc, cc)

-- the first of some ones
prefix_of_ones : (xs : List Bool) (y : Bool) (ys : List Bool) (n : ℕ) → xs ++ y ∷ ys ≡ replicate n true
    → (xs ≡ replicate (length xs) true) × (length xs < n)
prefix_of_ones [] y ys zero e = cc
prefix_of_ones [] y ys (suc n) e = (refl, omega arith)
prefix_of_ones (x ∷ xs) y ys zero e = cc
prefix_of_ones (x ∷ xs) y ys (suc n) e =
    let h : x ≡ true = cc in let r = prefix_of_ones xs y ys n (cc) in
    (let q = r.0 in cc, omega (arith, r.1))

-- the first of a number's bits
prefix_of_bits : (xs : List Bool) (y : Bool) (ys : List Bool) (n v : ℕ) → xs ++ y ∷ ys ≡ bits n v
    → (length xs < n) × (xs ≡ bits (length xs) (v / 2 ^ (n - length xs)))
prefix_of_bits xs y ys n v e =
    let l = ap length e in let a = length-append xs (y ∷ ys) in let b = length-bits n v in
    let few : length xs < n = omega (arith, l, a, b) in
    let d = n - length xs in let s : length xs + d ≡ n = omega arith in
    let h = bits_split (length xs) d v in
    let two : bits (length xs) (v / 2 ^ d) ++ bits d v ≡ xs ++ y ∷ ys = sym h ∙ ap (λ z. bits z v) s ∙ sym e in
    (few, sym (same_prefix (bits (length xs) (v / 2 ^ d)) xs (bits d v) (y ∷ ys) (length-bits (length xs) (v / 2 ^ d)) two))
  where
    same_prefix : (a b c d : List Bool) → length a ≡ length b → a ++ c ≡ b ++ d → a ≡ b
    same_prefix [] [] c d l e = refl
    same_prefix [] (y ∷ b) c d l e = absurd (omega arith)
    same_prefix (x ∷ a) [] c d l e = absurd (omega arith)
    same_prefix (x ∷ a) (y ∷ b) c d l e = let h : x ≡ y = cc in let r = same_prefix a b c d (omega arith) (cc) in cc

-- Blocks ----------------------------------------------------------------------------------------------

module _ (r : ℕ) where
  columns_more : (m : ℕ) → block_columns r m < block_columns r (suc m)
  unfolding block_columns
  columns_more m = let q = pow_pos (run_order (run_index_raised r m)) in omega arith

  -- more full blocks have at least as many columns
  columns_grow : (a b : ℕ) → a ≤ b → block_columns r a ≤ block_columns r b
  columns_grow a zero h = let e : a ≡ zero = omega arith in subst (λ z. block_columns r z ≤ block_columns r zero) (sym e) (omega arith)
  columns_grow a (suc b) h =
      elim (cases_eq a (suc b)) [
        | inl e ↦ subst (λ z. block_columns r z ≤ block_columns r (suc b)) (sym e) (omega arith)
        | inr n ↦ (let g = columns_grow a b (omega arith) in let m = columns_more b in omega arith)
      ]

  -- the blocks of a count of columns
  pub blocks_are : (full rest : ℕ) → rest < 2 ^ run_order (run_index_raised r full)
      → blocks r (block_columns r full + rest) ≡ record { full_blocks = full; run_index = run_index_raised r full; remaining = rest }
  unfolding blocks block_columns
  blocks_are full rest h =
      let n = block_columns r full + rest in
      let f : full_blocks r n ≡ full = full_only r n full (omega arith) (omega arith) in
      let d : n - block_columns r full ≡ rest = omega arith in
      ap (λ z. record { full_blocks = z; run_index = run_index_raised r z; remaining = n - block_columns r z }) f
      ∙ ap (λ z. record { full_blocks = full; run_index = run_index_raised r full; remaining = z }) d

  -- the full blocks of a count of n columns, and the rest
  pub record Parts (n : ℕ) : Type 0 where
    pub full : ℕ
    pub rest : ℕ
    pub fits : rest < 2 ^ run_order (run_index_raised r full)
    pub count_is : n ≡ block_columns r full + rest
    pub is : blocks r n ≡ record { full_blocks = full; run_index = run_index_raised r full; remaining = rest }

  -- each count of columns is some full blocks and a rest
  pub parts_of : (n : ℕ) → Parts n
  unfolding block_columns
  parts_of n =
      let full = full_blocks r n in let f = full_fit r n in let rest = n - block_columns r full in
      let e : n ≡ block_columns r full + rest = omega (arith, f) in
      let fits : rest < 2 ^ run_order (run_index_raised r full) = omega (arith, f) in
      record { full = full; rest = rest; fits = fits; count_is = e; is = ap (blocks r) e ∙ blocks_are full rest fits }

  -- ones of a run to the end of its line
  pub to_end_cut : (n : ℕ) (begun : List Bool) → IsProperPrefix begun (run_to_end_bits (blocks r n)) → CutsBlocks r n begun
  to_end_cut n begun c =
      let t = parts_of n in
      let e : begun ++ c.missing ∷ c.more_missing
      ≡ run_to_end_bits (record { full_blocks = t.full; run_index = run_index_raised r t.full; remaining = t.rest }) =
      sym c.whole_is ∙ ap run_to_end_bits t.is in
      elim (cases_Bool (eqb t.rest 0)) [
        | inl h ↦ (
            let z = eqb-true t.rest 0 h in
            let f = prefix_of_ones begun c.missing c.more_missing t.full (rw (h, append-nil) at e) in
            let g = columns_more (length begun) in let k = columns_grow (suc (length begun)) t.full (omega (arith, f.1)) in
            record { full = length begun; columns_left = (let q = t.count_is in omega arith); begun_is = f.0 })
        | inr h ↦ (
            let z = eqb-false t.rest 0 h in
            let e' : begun ++ c.missing ∷ c.more_missing ≡ replicate (t.full + 1) true =
            (rw h at e) ∙ replicate-append-replicate t.full 1 true in
            let f = prefix_of_ones begun c.missing c.more_missing (t.full + 1) e' in
            let k = columns_grow (length begun) t.full (omega (arith, f.1)) in
            let some : t.rest ≡ 0 → ⊥ = z in
            let more : 0 < t.rest = elim (cases_eq t.rest 0) [ inl q ↦ absurd (z q) | inr q ↦ omega arith ] in
            record { full = length begun; columns_left = (let q = t.count_is in omega arith); begun_is = f.0 })
      ]

  -- the bits of an interrupted run: ones, a zero, a count, and a code
  abbrev pub interrupted_bits : ℕ → ℕ → List Bool → List Bool
  interrupted_bits full rest code =
      (replicate full true ++ false ∷ bits (run_order (run_index_raised r full)) rest) ++ code

  abbrev pub InCode : ℕ → ℕ → List Bool → List Bool → Type 0
  InCode full rest code begun =
      (code_begun : List Bool) × (begun ≡ interrupted_bits full rest code_begun) × IsProperPrefix code_begun code

  -- a proper prefix of an interrupted run's bits breaks off in its blocks, in its count, or in the code of its last sample
  pub interrupted_cut : (full rest columns : ℕ) (code begun : List Bool) → rest < 2 ^ run_order (run_index_raised r full)
      → block_columns r full + rest < columns
      → IsProperPrefix begun (interrupted_bits full rest code)
      → CutsBlocks r columns begun ⊎ (CutsCount r columns begun ⊎ InCode full rest code begun)
  interrupted_cut full rest columns code begun fits within c =
      let prefix = replicate full true ++ false ∷ bits (run_order (run_index_raised r full)) rest in
      elim (one_begins begun (c.missing ∷ c.more_missing) prefix code (sym c.whole_is)) [
        | inl q ↦ inr (inr (q.0, q.1, record { missing = c.missing; more_missing = c.more_missing; whole_is = sym q.2 }))
        | inr q ↦ in_prefix q.1 q.0 (sym q.2)
      ]
    where
      in_count : (xs : List Bool) (y : Bool) (ys : List Bool) → begun ≡ replicate full true ++ xs
          → xs ++ y ∷ ys ≡ false ∷ bits (run_order (run_index_raised r full)) rest
          → CutsBlocks r columns begun ⊎ (CutsCount r columns begun ⊎ InCode full rest code begun)
      in_count [] y ys a e = inl (record { full = full; columns_left = omega arith; begun_is = a ∙ append-nil (replicate full true) })
      in_count (x ∷ xs) y ys a e =
          let order = run_order (run_index_raised r full) in
          let h = cons_is x false (xs ++ y ∷ ys) (bits order rest) e in
          let f = prefix_of_bits xs y ys order rest h.1 in
          let n = length xs in let d = order - n in let s : n + d ≡ order = omega (arith, f.0) in
          let small : rest / 2 ^ d < 2 ^ n = shr_below rest n d (subst (λ z. rest < 2 ^ z) (sym s) fits) in
          let low = div-mul-le_self rest (2 ^ d) in
          inr (inl (record {
            full = full;
            read = n;
            value = rest / 2 ^ d;
            not_whole = f.0;
            value_fits = small;
            least_fits = omega (arith, low);
            begun_is = a ∙ ap (λ z. replicate full true ++ z ∷ xs) h.0 ∙ ap (λ z. replicate full true ++ false ∷ z) f.1;
          }))

      in_prefix : (y : Bool) (ys : List Bool)
          → begun ++ y ∷ ys ≡ replicate full true ++ false ∷ bits (run_order (run_index_raised r full)) rest
          → CutsBlocks r columns begun ⊎ (CutsCount r columns begun ⊎ InCode full rest code begun)
      in_prefix y ys e =
          elim (one_begins begun (y ∷ ys) (replicate full true) (false ∷ bits (run_order (run_index_raised r full)) rest) e) [
            | inl q ↦ in_count q.0 y ys q.1 q.2
            | inr q ↦ (
                let f = prefix_of_ones begun q.1 q.0 full (sym q.2) in
                let k = columns_grow (length begun) full (omega (arith, f.1)) in
                inl (record { full = length begun; columns_left = omega arith; begun_is = f.0 }))
          ]
