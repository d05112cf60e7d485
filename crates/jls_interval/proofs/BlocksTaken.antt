-- A run while it is read: the blocks taken so far, and what can follow.
use Rattle.std.proofs.Common.{◌≡◌, ℕ, zero, suc, ◌+◌, ◌-◌, ◌%◌, ◌^◌, ◌<◌, ◌≤◌, Bool, true, false, ◌⊎◌, List, [], ◌∷◌, ◌++◌, replicate, refl}
use Rattle.std.proofs.Common.{sym, ap, ◌∙◌, arith, inl, inr, append_assoc}
use Rattle.std.proofs.lemmas.Nat.{pow_pos}
use Rattle.std.proofs.lemmas.List.{append_cancel_left}
use Rattle.std.proofs.lemmas.Bool.{cases_lt}
use Rattle.std.proofs.Math.Nat.{mod-eq_of_lt}
use Rattle.jls_bits.specs.Bits.{bits}
use Rattle.jls_interval.specs.Runs.{run_order, Blocks, blocks}
use Rattle.jls_interval.specs.Code.{run_to_end_bits}
use Rattle.jls_interval.specs.Reading.{after_blocks, Taken, NoRun}
use Rattle.jls_interval.specs.Code.{interrupted_run_bits}
use Rattle.jls_bits.proofs.NumberBits.{bits_same}
use Rattle.jls_interval.proofs.Runs.{risen, blocks_step, blocks_none, broken_none, broken_step, end_none, end_step, run_apart, tail_same}

-- before the first bit of a run nothing is taken, and all bits are left
pub taken_start : (r w : ℕ) (given : List Bool) → r ≤ 31 → Taken r w given r w given
taken_start r w given small = record {
  begins_within = small;
  within = small;
  full_blocks = 0;
  taken = 0;
  total = omega arith;
  blocks_are = λ n. (let e : 0 + n ≡ n = omega arith in ap (blocks r) e ∙ blocks_is (blocks r n));
  bits_are = refl;
}
  where
    blocks_is : (b : Blocks) → b ≡ after_blocks 0 b
    blocks_is b = let e : 0 + b.full_blocks ≡ b.full_blocks = omega arith in
        ap (λ z. record { full_blocks = z; run_index = b.run_index; remaining = b.remaining }) (sym e)

ones_push : (n : ℕ) (s : List Bool) → replicate n true ++ true ∷ s ≡ replicate (n + 1) true ++ s
ones_push zero s = refl
ones_push (suc n) s = let e : suc n + 1 ≡ suc (n + 1) = omega arith in
    ap (λ z. true ∷ z) (ones_push n s) ∙ ap (λ z. replicate z true ++ s) (sym e)

-- ones in two parts
pub ones_add : (m n : ℕ) (s : List Bool) → replicate (m + n) true ++ s ≡ replicate m true ++ (replicate n true ++ s)
ones_add zero n s = let e : 0 + n ≡ n = omega arith in ap (λ z. replicate z true ++ s) e
ones_add (suc m) n s = let e : suc m + n ≡ suc (m + n) = omega arith in
    ap (λ z. replicate z true ++ s) e ∙ ap (λ z. true ∷ z) (ones_add m n s)

module _ (r0 w0 : ℕ) (given : List Bool) (r w : ℕ) (left : List Bool) (t : Taken r0 w0 given r w left) where
  -- one full block more
  pub taken_more : (left' : List Bool) → 2 ^ run_order r ≤ w → left ≡ true ∷ left' → Taken r0 w0 given (risen r) (w - 2 ^ run_order r) left'
  taken_more left' h e =
      let b = 2 ^ run_order r in let all = t.total in
      record {
        begins_within = t.begins_within;
        within = omega arith;
        full_blocks = t.full_blocks + 1;
        taken = t.taken + b;
        total = omega arith;
        blocks_are = λ n. (let c : t.taken + b + n ≡ t.taken + (b + n) = omega arith in let d : b + n - b ≡ n = omega arith in
            let f : t.full_blocks + suc (blocks (risen r) n).full_blocks ≡ t.full_blocks + 1 + (blocks (risen r) n).full_blocks =
            omega arith in ap (blocks r0) c ∙ t.blocks_are (b + n)
            ∙ ap (after_blocks t.full_blocks) (blocks_step r (b + n) t.within (omega arith))
            ∙ ap (λ z. record {
              full_blocks = t.full_blocks + suc (blocks (risen r) z).full_blocks;
              run_index =
                  (blocks (risen r) z).run_index;
              remaining = (blocks (risen r) z).remaining;
            }) d
            ∙ ap (λ z. record {
              full_blocks = z;
              run_index = (blocks (risen r) n).run_index;
              remaining =
                  (blocks (risen r) n).remaining;
            }) f);
        bits_are = t.bits_are ∙ ap (λ z. replicate t.full_blocks true ++ z) e ∙ ones_push t.full_blocks left';
      }

  -- more bits after
  pub taken_with : (more : List Bool) → Taken r0 w0 (given ++ more) r w (left ++ more)
  taken_with more = record {
    begins_within = t.begins_within;
    within = t.within;
    full_blocks = t.full_blocks;
    taken = t.taken;
    total = t.total;
    blocks_are = t.blocks_are;
    bits_are = ap (λ z. z ++ more) t.bits_are ∙ append_assoc (replicate t.full_blocks true) left more;
  }

  end_index : (blocks r0 w0).run_index ≡ (blocks r w).run_index
  end_index = ap (λ z. (blocks r0 z).run_index) t.total ∙ ap (λ (b : Blocks). b.run_index) (t.blocks_are w)

  -- the bits of a run to the end are the ones taken, and then those of the columns left
  end_is : (s : List Bool) → run_to_end_bits (blocks r0 w0) ++ s ≡ replicate t.full_blocks true ++ (run_to_end_bits (blocks r w) ++ s)
  end_is s =
      ap (λ z. run_to_end_bits (blocks r0 z) ++ s) t.total ∙ ap (λ b. run_to_end_bits b ++ s) (t.blocks_are w)
      ∙ parts t.full_blocks (blocks r w) s
    where
      parts : (n : ℕ) (b : Blocks) (s : List Bool) → run_to_end_bits (after_blocks n b) ++ s ≡ replicate n true ++ (run_to_end_bits b ++ s)
      parts n b s = ap (λ z. z ++ s) (ones_add n b.full_blocks _) ∙ append_assoc (replicate n true) (run_to_end_bits b) s

  -- the bits of an interrupted run are the ones taken, and then those of the columns left
  broken_prefix : (n : ℕ) (s : List Bool)
      → interrupted_run_bits (blocks r0 (t.taken + n)) s ≡ replicate t.full_blocks true ++ interrupted_run_bits (blocks r n) s
  broken_prefix n s = ap (λ b. interrupted_run_bits b s) (t.blocks_are n) ∙ prefix t.full_blocks (blocks r n) s
    where
      prefix : (m : ℕ) (b : Blocks) (s : List Bool)
          → interrupted_run_bits (after_blocks m b) s ≡ replicate m true ++ interrupted_run_bits b s
      prefix m b s = ap (λ z. z ++ s) (ones_add m b.full_blocks (false ∷ bits (run_order b.run_index) b.remaining))
          ∙ append_assoc (replicate m true) (replicate b.full_blocks true ++ false ∷ bits (run_order b.run_index) b.remaining) s

  -- Answers ---------------------------------------------------------------------

  -- all columns are taken
  pub ended : w ≡ 0 → (given ≡ run_to_end_bits (blocks r0 w0) ++ left) × ((blocks r0 w0).run_index ≡ r)
  ended h =
      let q = pow_pos (run_order r) in let b = blocks_none r w t.within (omega arith) in (
        t.bits_are ∙ ap (λ z. replicate t.full_blocks true ++ z) (sym (nothing w left h)) ∙ sym (end_is left),
        end_index
            ∙ ap (λ (z : Blocks). z.run_index) b,
      )
    where
      nothing : (n : ℕ) (s : List Bool) → n ≡ 0 → run_to_end_bits (blocks r n) ++ s ≡ s
      nothing n s h = let q = pow_pos (run_order r) in
          ap (λ z. run_to_end_bits (blocks r z) ++ s) h ∙ ap (λ b. run_to_end_bits b ++ s) (blocks_none r 0 t.within q)

  -- a last one for less than a block
  pub ended_short : (left' : List Bool) → 0 < w → w < 2 ^ run_order r → left ≡ true ∷ left'
      → (given ≡ run_to_end_bits (blocks r0 w0) ++ left') × ((blocks r0 w0).run_index ≡ r)
  ended_short left' h j e = (
    t.bits_are ∙ ap (λ z. replicate t.full_blocks true ++ z) (e ∙ sym (end_none r w left' t.within j h)) ∙ sym (end_is left'),
    end_index
        ∙ ap (λ (z : Blocks). z.run_index) (blocks_none r w t.within j),
  )

  -- a zero and a count
  pub broken_here : (n : ℕ) (rest : List Bool) → n < 2 ^ run_order r → left ≡ false ∷ (bits (run_order r) n ++ rest)
      → (given ≡ interrupted_run_bits (blocks r0 (w0 - w + n)) rest) × ((blocks r0 (w0 - w + n)).run_index ≡ r)
  broken_here n rest h e =
      let all = t.total in let c : w0 - w + n ≡ t.taken + n = omega arith in (
        t.bits_are ∙ ap (λ z. replicate t.full_blocks true ++ z) (e ∙ sym (broken_none r n rest t.within h)) ∙ sym (broken_prefix n rest)
            ∙ ap (λ z. interrupted_run_bits (blocks r0 z) rest) (sym c),
        ap (λ z. (blocks r0 z).run_index) c
            ∙ ap (λ (b : Blocks). b.run_index) (t.blocks_are n) ∙ ap (λ (b : Blocks). b.run_index) (blocks_none r n t.within h),
      )

  -- What a run at the start leaves the blocks taken ------------------------

  pub end_after : (rest : List Bool) → given ≡ run_to_end_bits (blocks r0 w0) ++ rest → left ≡ run_to_end_bits (blocks r w) ++ rest
  end_after rest e = append_cancel_left (replicate t.full_blocks true) left (run_to_end_bits (blocks r w) ++ rest)
      (sym t.bits_are ∙ e ∙ end_is rest)

  -- if the bits given begin an interrupted run of c columns, the bits left begin that run without the columns taken
  pub broken_after : (c : ℕ) (rest : List Bool) → c < w0 → given ≡ interrupted_run_bits (blocks r0 c) rest
      → (n : ℕ) × (c ≡ t.taken + n) × (n < w) × (left ≡ interrupted_run_bits (blocks r n) rest)
  broken_after c rest h e =
      let all = t.total in let q = pow_pos (run_order r) in
      elim (cases_lt c t.taken) [
        | inl l ↦ absurd (run_apart c r0 c t.taken rest left t.begins_within (omega arith) l (sym e ∙ whole))
        | inr l ↦ (let n = c - t.taken in let s : c ≡ t.taken + n = omega arith in (
          n,
          s,
          omega arith,
          append_cancel_left (replicate t.full_blocks true) left (interrupted_run_bits (blocks r n) rest)
              (sym t.bits_are ∙ e ∙ ap (λ z. interrupted_run_bits (blocks r0 z) rest) s ∙ broken_prefix n rest),
        ))
      ]
    where
      tidy : (n : ℕ) (s : List Bool) → replicate n true ++ s ≡ run_to_end_bits (record { full_blocks = n; run_index = r; remaining = 0 })
          ++ s
      tidy n s = sym (append_assoc (replicate n true) [] s)

      -- the blocks taken are a run to the end of as many columns
      whole : given ≡ run_to_end_bits (blocks r0 t.taken) ++ left
      whole =
          let q = pow_pos (run_order r) in let z : t.taken + 0 ≡ t.taken = omega arith in
          let b = ap (blocks r0) (sym z) ∙ t.blocks_are 0 ∙ ap (after_blocks t.full_blocks) (blocks_none r 0 t.within q) in
          t.bits_are ∙ (let o : t.full_blocks + 0 ≡ t.full_blocks = omega arith in ap (λ n. replicate n true ++ left) (sym o))
          ∙ tidy (t.full_blocks + 0) left ∙ ap (λ (y : Blocks). run_to_end_bits y ++ left) (sym b)

-- the end of a run's bits is not empty while columns are left
pub end_cases : (r w : ℕ) (s : List Bool) → r ≤ 31 → 0 < w → (more : List Bool) × (run_to_end_bits (blocks r w) ++ s ≡ true ∷ more)
end_cases r w s small h =
    elim (cases_lt w (2 ^ run_order r)) [
      | inl l ↦ (s, end_none r w s small l h)
      | inr l ↦
          (run_to_end_bits (blocks (risen r) (w - 2 ^ run_order r)) ++ s, end_step r w s small l)
    ]

-- the bits left of an interrupted run begin with the zero and the count, or with a one
broken_cases : (r n : ℕ) (s left : List Bool) → r ≤ 31 → left ≡ interrupted_run_bits (blocks r n) s
    → ((n < 2 ^ run_order r) × (left ≡ false ∷ (bits (run_order r) n ++ s))) ⊎ ((more : List Bool) × (left ≡ true ∷ more))
broken_cases r n s left small e =
    elim (cases_lt n (2 ^ run_order r)) [
      | inl l ↦ inl (l, e ∙ broken_none r n s small l)
      | inr l ↦
          inr (interrupted_run_bits (blocks (risen r) (n - 2 ^ run_order r)) s, e ∙ broken_step r n s small l)
    ]

module _ (r0 w0 : ℕ) (given : List Bool) (r w : ℕ) (left : List Bool) (t : Taken r0 w0 given r w left) (some : 0 < w) where
  -- the bits end
  pub no_run_empty : left ≡ [] → NoRun r0 w0 given
  no_run_empty h = (
    λ rest e. (let a = end_after r0 w0 given r w left t rest e in let b = end_cases r w rest t.within some in
        let c : [] ≡ true ∷ b.0 = sym h ∙ a ∙ b.1 in cc),
    λ c rest l e. (let a = broken_after r0 w0 given r w left t c rest l e in
        elim (broken_cases r a.0 rest left t.within a.3) [
          | inl b ↦ (let d : [] ≡ false ∷ (bits (run_order r) a.0 ++ rest) = sym h ∙ b.1 in cc)
          | inr b ↦
              (let d : [] ≡ true ∷ b.0 = sym h ∙ b.1 in cc)
        ]),
  )

  -- a zero, and no count after it that is below the columns left
  pub no_run_zero : (following : List Bool) → left ≡ false ∷ following
      → ((n : ℕ) (rest : List Bool) → n < w → n < 2 ^ run_order r → following ≡ bits (run_order r) n ++ rest → ⊥) → NoRun r0 w0 given
  no_run_zero following h none = (
    λ rest e. (let a = end_after r0 w0 given r w left t rest e in let b = end_cases r w rest t.within some in
        let c : false ∷ following ≡ true ∷ b.0 = sym h ∙ a ∙ b.1 in cc),
    λ c rest l e. (let a = broken_after r0 w0 given r w left t c rest l e in
        elim (broken_cases r a.0 rest left t.within a.3) [
          | inl b ↦ none a.0 rest a.2 b.0 (tail_same false following (bits (run_order r) a.0 ++ rest) (sym h ∙ b.1))
          | inr b ↦
              (let d : false ∷ following ≡ true ∷ b.0 = sym h ∙ b.1 in cc)
        ]),
  )

  -- a count that passes the columns left
  pub no_run_long : (n : ℕ) (following rest : List Bool) → left ≡ false ∷ following → n < 2 ^ run_order r → following ≡ bits (run_order r) n
      ++ rest
      → w ≤ n → NoRun r0 w0 given
  no_run_long n following rest h l e j =
      no_run_zero following h (λ m rest' a b f.
      (let z = bits_same (run_order r) m n rest' rest (sym f ∙ e) in let x : m % 2 ^ run_order r ≡ m = mod-eq_of_lt b in
      let y : n % 2 ^ run_order r ≡ n = mod-eq_of_lt l in let o = z.0 in omega arith))
