-- The full blocks of a run: how many there are, and that no run's bits begin another's.
use Rattle.std.proofs.Common.{◌≡◌, ℕ, zero, suc, ◌+◌, ◌-◌, ◌*◌, ◌/◌, ◌^◌, ◌<◌, ◌≤◌, Bool, true, false, eqb, ltb, List, [], ◌∷◌, ◌++◌, refl}
use Rattle.std.proofs.Common.{sym, ap, ◌∙◌, subst, arith, inl, inr}
use Rattle.std.specs.List.{filter, fold}
use Rattle.std.proofs.Math.Nat.{mod-eq_of_lt, suc-mul}
use Rattle.std.proofs.lemmas.Nat.{pow_pos}
use Rattle.std.proofs.lemmas.Bool.{lt-ltb, ltb-true, ltb-false, cases_lt, cases_eq, ne_eqb}
use Rattle.jls_bits.specs.Bits.{bits}
use Rattle.jls_values.specs.Params.{least_from}
use Rattle.jls_interval.specs.Events.{Event, regular, run_to_end, interrupted_run}
use Rattle.jls_interval.specs.Runs.{run_order, run_index_raised, block_columns, full_blocks, Blocks, blocks, is_run_of, run_index_after}
use Rattle.jls_interval.specs.Runs.{run_index_before}
use Rattle.jls_interval.specs.Code.{run_to_end_bits, interrupted_run_bits}
use Rattle.jls_bits.proofs.NumberBits.{bits_same}
use Rattle.jls_context.proofs.GolombLaws.{least_from-before}
use Rattle.jls_context.proofs.Sizes.{least_from-passes}

-- How many full blocks there are -----------------------------------------------

columns_more : (r m : ℕ) → block_columns r m < block_columns r (suc m)
unfolding block_columns
columns_more r m = let q = pow_pos (run_order (run_index_raised r m)) in omega arith

-- more full blocks have at least as many columns
columns_grow : (r a b : ℕ) → a ≤ b → block_columns r a ≤ block_columns r b
columns_grow r a zero h = let e : a ≡ zero = omega arith in subst (λ z. block_columns r z ≤ block_columns r zero) (sym e) (omega arith)
columns_grow r a (suc b) h =
    elim (cases_eq a (suc b)) [
      | inl e ↦ subst (λ z. block_columns r z ≤ block_columns r (suc b)) (sym e) (omega arith)
      | inr n ↦
          (let g = columns_grow r a b (omega arith) in let m = columns_more r b in omega arith)
    ]

-- from the 32nd on a block has 2^15 columns
columns_deep : (r m : ℕ) → m * 2 ^ 15 ≤ block_columns r (31 + m)
unfolding block_columns
columns_deep r zero = omega arith
columns_deep r (suc m) =
    let h = columns_deep r m in let e : 31 + suc m ≡ suc (31 + m) = omega arith in
    let top : run_index_raised r (31 + m) ≡ 31 = omega arith in
    let s : suc m * 2 ^ 15 ≡ m * 2 ^ 15 + 2 ^ 15 = suc-mul m (2 ^ 15) in
    let b : 2 ^ run_order (run_index_raised r (31 + m)) ≡ 2 ^ 15 = ap (λ z. 2 ^ run_order z) top in
    subst (λ z. suc m * 2 ^ 15 ≤ block_columns r z) (sym e) (omega (arith, h, s, b))

-- beyond as many blocks as `full_blocks` looks at, one does not fit
columns_top : (r n : ℕ) → ltb n (block_columns r (suc (0 + (31 + n / 2 ^ 15)))) ≡ true
columns_top r n =
    let e : suc (0 + (31 + n / 2 ^ 15)) ≡ 31 + suc (n / 2 ^ 15) = omega arith in let d = columns_deep r (suc (n / 2 ^ 15)) in
    lt-ltb _ _ (subst (λ z. n < block_columns r z) (sym e) (omega arith))

-- as many full blocks as fit, and one more does not
pub full_fit : (r n : ℕ) → (block_columns r (full_blocks r n) ≤ n) × (n < block_columns r (suc (full_blocks r n)))
unfolding full_blocks block_columns
full_fit r n = (low (full_blocks r n) refl, ltb-true _ _ (least_from-passes passes fuel 0 (top)))
  where
    passes : ℕ → Bool
    passes m = ltb n (block_columns r (suc m))

    fuel : ℕ
    fuel = 31 + n / 2 ^ 15

    top : passes (0 + fuel) ≡ true
    top = columns_top r n

    low : (m : ℕ) → full_blocks r n ≡ m → block_columns r m ≤ n
    low zero e = omega arith
    low (suc m) e =
        let b : m < least_from passes fuel 0 = omega (arith, e) in
        ltb-false n (block_columns r (suc m)) (least_from-before passes fuel 0 m (omega arith) b)

-- no other number of blocks fits so
pub full_only : (r n m : ℕ) → block_columns r m ≤ n → n < block_columns r (suc m) → full_blocks r n ≡ m
full_only r n m a b =
    let h = full_fit r n in
    elim (cases_lt m (full_blocks r n)) [
      | inl l ↦ (let g = columns_grow r (suc m) (full_blocks r n) (omega arith) in absurd (omega arith))
      | inr l ↦
          elim (cases_lt (full_blocks r n) m)
          [ inl k ↦ (let g = columns_grow r (suc (full_blocks r n)) m (omega arith) in absurd (omega arith)) | inr k ↦ omega arith ]
    ]

-- the first block, and the others from the next RUNindex on
columns_first : (r m : ℕ) → r ≤ 31 → block_columns r (suc m) ≡ 2 ^ run_order r + block_columns (run_index_raised r 1) m
unfolding block_columns
columns_first r zero h = let e : run_index_raised r 0 ≡ r = omega arith in ap (λ z. 0 + 2 ^ run_order z) e ∙ (omega arith)
columns_first r (suc m) h =
    let i = columns_first r m h in let e : run_index_raised r (suc m) ≡ run_index_raised (run_index_raised r 1) m = omega arith in
    let f : 2 ^ run_order (run_index_raised r (suc m)) ≡ 2 ^ run_order (run_index_raised (run_index_raised r 1) m) =
    ap (λ z. 2 ^ run_order z) e in
    omega (arith, i, f)

-- What `blocks` is ---------------------------------------------------------------

abbrev made : ℕ → ℕ → ℕ → Blocks
made r n full = record { full_blocks = full; run_index = run_index_raised r full; remaining = n - block_columns r full }

made_is : (r n m : ℕ) → full_blocks r n ≡ m → blocks r n ≡ made r n m
unfolding blocks
made_is r n m e = ap (made r n) e

made_same : (full full' index index' rest rest' : ℕ) → full ≡ full' → index ≡ index' → rest ≡ rest'
    → (let b : Blocks = record { full_blocks = full; run_index = index; remaining = rest } in b)
    ≡ record { full_blocks = full'; run_index = index'; remaining = rest' }
made_same full full' index index' rest rest' a b c = cc

abbrev pub none : ℕ → ℕ → Blocks
none r n = record { full_blocks = 0; run_index = r; remaining = n }

abbrev pub one_more : Blocks → Blocks
one_more b = record { full_blocks = suc b.full_blocks; run_index = b.run_index; remaining = b.remaining }

-- the next RUNindex
abbrev pub risen : ℕ → ℕ
risen r = run_index_raised r 1

-- a block and the rest of the count
pub blocks_step : (r n : ℕ) → r ≤ 31 → 2 ^ run_order r ≤ n → blocks r n ≡ one_more (blocks (risen r) (n - 2 ^ run_order r))
blocks_step r n small h =
    let b = 2 ^ run_order r in let m = full_blocks (risen r) (n - b) in let f = full_fit (risen r) (n - b) in
    let c = columns_first r m small in let d = columns_first r (suc m) small in
    let e : full_blocks r n ≡ suc m = full_only r n (suc m) (omega arith) (omega arith) in
    made_is r n (suc m) e ∙ made_same (suc m) (suc m) (run_index_raised r (suc m)) (run_index_raised (risen r) m)
    (n - block_columns r (suc m)) (n - b - block_columns (risen r) m) refl (omega arith) (omega arith)
    ∙ ap one_more (sym (made_is (risen r) (n - b) m refl))

-- columns below one block have no full block
pub blocks_none : (r n : ℕ) → r ≤ 31 → n < 2 ^ run_order r → blocks r n ≡ none r n
unfolding block_columns
blocks_none r n small h =
    let c = columns_first r 0 small in
    let e : full_blocks r n ≡ 0 = full_only r n 0 (omega arith) (omega arith) in
    made_is r n 0 e ∙ made_same 0 0 (run_index_raised r 0) r (n - block_columns r 0) n refl (omega arith) (omega arith)

-- RUNindex stays within its table
pub run_index_small : (r n : ℕ) → (blocks r n).run_index ≤ 31
unfolding blocks
run_index_small r n = omega arith

-- RUNindex before an event is at most 31
pub run_index_before_small : (earlier : List Event) (k : ℕ) → run_index_before earlier k ≤ 31
unfolding run_index_before
run_index_before_small earlier k = kept (filter (is_run_of k) earlier) 0 (omega arith)
  where
    kept : (es : List Event) (r : ℕ) → r ≤ 31 → fold run_index_after r es ≤ 31
    kept [] r h = h
    kept (regular near s ∷ es) r h = kept es r h
    kept (run_to_end c n ∷ es) r h = kept es (blocks r n).run_index (run_index_small r n)
    kept (interrupted_run c n near s ∷ es) r h = kept es ((blocks r n).run_index - 1) (let q = run_index_small r n in omega arith)

-- No run's bits begin another's ------------------------------------------------------

pub tail_same : (x : Bool) (a b : List Bool) → x ∷ a ≡ x ∷ b → a ≡ b
tail_same x a b e = cc

-- a run that is interrupted in a block, and one that goes on after a full block
pub broken_none : (r n : ℕ) (s : List Bool) → r ≤ 31 → n < 2 ^ run_order r
    → interrupted_run_bits (blocks r n) s ≡ false ∷ (bits (run_order r) n ++ s)
broken_none r n s q h = ap (λ b. interrupted_run_bits b s) (blocks_none r n q h)

pub broken_step : (r n : ℕ) (s : List Bool) → r ≤ 31 → 2 ^ run_order r ≤ n
    → interrupted_run_bits (blocks r n) s ≡ true ∷ interrupted_run_bits (blocks (risen r) (n - 2 ^ run_order r)) s
broken_step r n s q h = ap (λ b. interrupted_run_bits b s) (blocks_step r n q h)

-- a run to the end that ends in a block, and one that goes on after a full block
pub end_none : (r n : ℕ) (s : List Bool) → r ≤ 31 → n < 2 ^ run_order r → 0 < n → run_to_end_bits (blocks r n) ++ s ≡ true ∷ s
end_none r n s q h j =
    let t : eqb n 0 ≡ false = ne_eqb n 0 (λ e. omega arith) in
    ap (λ b. run_to_end_bits b ++ s) (blocks_none r n q h) ∙ rw t refl

pub end_step : (r n : ℕ) (s : List Bool) → r ≤ 31 → 2 ^ run_order r ≤ n
    → run_to_end_bits (blocks r n) ++ s ≡ true ∷ (run_to_end_bits (blocks (risen r) (n - 2 ^ run_order r)) ++ s)
end_step r n s q h = ap (λ b. run_to_end_bits b ++ s) (blocks_step r n q h)

-- a run that ends before the line's end, and one that doesn't
pub run_apart : (fuel r n w : ℕ) (s t : List Bool) → r ≤ 31 → n ≤ fuel → n < w
    → interrupted_run_bits (blocks r n) s ≡ run_to_end_bits (blocks r w) ++ t → ⊥
run_apart zero r n w s t small f h e =
    let q = pow_pos (run_order r) in let a = broken_none r n s small (omega arith) in
    elim (cases_lt w (2 ^ run_order r)) [
      | inl m ↦ (let b = end_none r w t small m (omega arith) in let c : false ∷ (bits (run_order r) n ++ s) ≡ true ∷ t = sym a ∙ e ∙ b in
          cc)
      | inr m ↦ (let b = end_step r w t small m in
          let c : false ∷ (bits (run_order r) n ++ s) ≡ true ∷ (run_to_end_bits (blocks (risen r) (w - 2 ^ run_order r)) ++ t) = sym a ∙ e
          ∙ b in cc)
    ]
run_apart (suc fuel) r n w s t small f h e =
    let q = pow_pos (run_order r) in
    elim (cases_lt n (2 ^ run_order r)) [
      | inl l ↦ (let a = broken_none r n s small l in
          elim (cases_lt w (2 ^ run_order r)) [
            | inl m ↦ (let b = end_none r w t small m (omega arith) in
                let c : false ∷ (bits (run_order r) n ++ s) ≡ true ∷ t = sym a ∙ e ∙ b in
                cc)
            | inr m ↦ (let b = end_step r w t small m in
                let c : false ∷ (bits (run_order r) n ++ s) ≡ true
                ∷ (run_to_end_bits (blocks (risen r) (w - 2 ^ run_order r)) ++ t) = sym a ∙ e
                ∙ b in cc)
          ])
      | inr l ↦ (let a = broken_step r n s small l in let b = end_step r w t small (omega arith) in
          run_apart fuel (risen r) (n - 2 ^ run_order r) (w - 2 ^ run_order r) s t (omega arith) (omega arith) (omega arith)
          (tail_same true _ _ (sym a ∙ e ∙ b)))
    ]

-- two runs that end before the line's end, of which one has no full block
run_short : (r n w : ℕ) (s t : List Bool) → r ≤ 31 → n < 2 ^ run_order r
    → interrupted_run_bits (blocks r n) s ≡ interrupted_run_bits (blocks r w) t → (n ≡ w) × (s ≡ t)
run_short r n w s t small l e =
    elim (cases_lt w (2 ^ run_order r)) [
      | inl m ↦ (let z = bits_same (run_order r) n w s t
          (tail_same false (bits (run_order r) n ++ s) (bits (run_order r) w ++ t)
          (sym (broken_none r n s small l) ∙ e ∙ broken_none r w t small m)) in (sym (mod-eq_of_lt l) ∙ z.0 ∙ mod-eq_of_lt m, z.1))
      | inr m ↦
          (let c : false ∷ (bits (run_order r) n ++ s) ≡ true ∷ interrupted_run_bits (blocks (risen r) (w - 2 ^ run_order r)) t =
          sym (broken_none r n s small l) ∙ e ∙ broken_step r w t small m in cc)
    ]

-- two runs that end before the line's end
pub run_same : (fuel r n w : ℕ) (s t : List Bool) → r ≤ 31 → n ≤ fuel
    → interrupted_run_bits (blocks r n) s ≡ interrupted_run_bits (blocks r w) t → (n ≡ w) × (s ≡ t)
run_same zero r n w s t small f e = let q = pow_pos (run_order r) in run_short r n w s t small (omega arith) e
run_same (suc fuel) r n w s t small f e =
    let q = pow_pos (run_order r) in
    elim (cases_lt n (2 ^ run_order r)) [
      | inl l ↦ run_short r n w s t small l e
      | inr l ↦
          elim (cases_lt w (2 ^ run_order r)) [
            | inl m ↦ (let c : true ∷ interrupted_run_bits (blocks (risen r) (n - 2 ^ run_order r)) s ≡ false
                ∷ (bits (run_order r) w ++ t) =
                sym (broken_step r n s small l) ∙ e ∙ broken_none r w t small m in cc)
            | inr m ↦
                (let z = run_same fuel (risen r) (n - 2 ^ run_order r) (w - 2 ^ run_order r) s t (omega arith) (omega arith)
                (tail_same true (interrupted_run_bits (blocks (risen r) (n - 2 ^ run_order r)) s)
                (interrupted_run_bits (blocks (risen r) (w - 2 ^ run_order r)) t)
                (sym (broken_step r n s small l) ∙ e ∙ broken_step r w t small m)) in (omega (arith, z.0), z.1))
          ]
    ]
