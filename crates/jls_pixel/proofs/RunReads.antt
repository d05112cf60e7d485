-- A run that is read: what each step says.
use Rattle.std.proofs.Common.{◌≡◌, ℕ, ◌-◌, ◌+◌, ◌*◌, ◌^◌, ◌<◌, ◌≤◌, Bool, true, List, [], ◌∷◌, ◌++◌, length, sym, ap, ◌∙◌, subst, arith}
use Rattle.std.proofs.Common.{append_assoc, length-append}
use mir.Val.{bool_byte}
use Rattle.jls_bits.specs.Bits.{bits}
use Rattle.jls_bits.proofs.NumberBits.{bits_push_bool, length-bits}
use Rattle.jls_interval.specs.Runs.{run_order, run_index_raised, blocks}
use Rattle.jls_interval.specs.Code.{run_to_end_bits}
use Rattle.jls_interval.specs.Reading.{Taken}
use Rattle.jls_interval.proofs.BlocksTaken.{taken_more, ended}

-- a bit more of a number
pub bit_more : (given left left' : List Bool) (n x : ℕ) (b : Bool) → given ≡ bits n x ++ left → left ≡ b ∷ left' → x < 2 ^ n
    → (given ≡ bits (n + 1) (2 * x + bool_byte b) ++ left') × (2 * x + bool_byte b < 2 ^ (n + 1))
bit_more given left left' n x b e f l =
    let d = bits_push_bool b n x l in (
      e ∙ ap (λ z. bits n x ++ z) f ∙ sym (append_assoc (bits n x) (b ∷ []) left') ∙ ap (λ z. z ++ left') (sym d.0),
      d.1,
    )

-- fewer bits than a number has
pub bits_end : (given : List Bool) (i n x m : ℕ) (left rest : List Bool) → i < n → given ≡ bits i x ++ left → left ≡ []
    → given ≡ bits n m ++ rest → ⊥
bits_end given i n x m left rest l e none f =
    let a = length-append (bits i x) left in let b = length-append (bits n m) rest in let p = length-bits i x in
    let q = length-bits n m in let x = ap length e in let y = ap length f in let z = ap length none in omega (arith, a, b, p, q, x, y, z)

module _ (r0 w0 : ℕ) (given : List Bool) (r w : ℕ) (left left' : List Bool) (t : Taken r0 w0 given r w left) (one : left ≡ true ∷ left')
    (r' b : ℕ) (r'_is : r' ≡ run_index_raised r 1) (b_is : b ≡ 2 ^ run_order r) (full : b ≤ w) where
  -- a full block more
  pub block_taken : Taken r0 w0 given r' (w - b) left'
  block_taken =
      let h : 2 ^ run_order r ≤ w = subst (λ z. z ≤ w) b_is full in
      subst (λ z. Taken r0 w0 given z (w - b) left') (sym r'_is)
      (subst (λ z. Taken r0 w0 given (run_index_raised r 1) (w - z) left') (sym b_is) (taken_more r0 w0 given r w left t left' h one))

  -- and no column is left
  pub blocks_end : w - b ≡ 0 → (given ≡ run_to_end_bits (blocks r0 w0) ++ left') × ((blocks r0 w0).run_index ≡ r')
  blocks_end none = ended r0 w0 given r' (w - b) left' block_taken none
