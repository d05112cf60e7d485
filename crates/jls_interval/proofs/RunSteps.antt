-- A bit more of a run, and a run read from the start of longer bits.
use Rattle.std.proofs.Common.{◌≡◌, ℕ, ◌+◌, ◌-◌, ◌*◌, ◌^◌, ◌<◌, ◌≤◌, Bool, true, false, List, [], ◌∷◌, ◌++◌, length, refl, sym, ap, ◌∙◌}
use Rattle.std.proofs.Common.{subst, arith, length-append}
use Rattle.std.proofs.lemmas.List.{append-nil}
use mir.Val.{bool_byte}
use Rattle.jls_bits.specs.Bits.{bits}
use Rattle.jls_bits.proofs.NumberBits.{bits_none, length-bits, bits_push_bool}
use Rattle.jls_interval.specs.Runs.{run_order, blocks}
use Rattle.jls_interval.specs.Code.{run_to_end_bits, interrupted_run_bits}
use Rattle.jls_interval.specs.Reading.{NoRun, Taken}
use Rattle.jls_interval.specs.RunState.{IsRunState, RunAt}
use Rattle.jls_interval.specs.declared.run_reader.RunState.{RunState}
use Rattle.jls_interval.specs.declared.run_reader.RunState.TheVariants.{Blocks, Count}
use Rattle.jls_interval.proofs.Runs.{risen}
use Rattle.jls_interval.proofs.BlocksTaken.{taken_with, taken_more, ended, ended_short, broken_here, no_run_empty, no_run_zero, no_run_long}

-- fewer bits than a number has
bits_short : (i n x m : ℕ) (rest : List Bool) → i < n → bits i x ≡ bits n m ++ rest → ⊥
bits_short i n x m rest l e =
    let b = length-append (bits n m) rest in let c = ap length e in let p = length-bits i x in let q = length-bits n m in
    omega (arith, b, c, p, q)

-- a bit more of the count
pub digit_taken : (r0 w0 : ℕ) (given : List Bool) (r w have x : ℕ) → Taken r0 w0 given r w (false ∷ bits have x) → (b : Bool) → x < 2 ^ have
    → Taken r0 w0 (given ++ b ∷ []) r w (false ∷ bits (have + 1) (2 * x + bool_byte b)) × (2 * x + bool_byte b < 2 ^ (have + 1))
digit_taken r0 w0 given r w have x t b l =
    let d = bits_push_bool b have x l in (
      subst (λ z. Taken r0 w0 (given ++ b ∷ []) r w (false ∷ z)) (sym d.0) (taken_with r0 w0 given r w (false ∷ bits have x) t (b ∷ [])),
      d.1,
    )

-- the bits fed so far are no run as a whole
pub no_whole : (r0 w0 : ℕ) (given : List Bool) (s : RunState) → IsRunState w0 s → RunAt r0 w0 given s → NoRun r0 w0 given
no_whole r0 w0 given (Blocks r w) i t = no_run_empty r0 w0 given r w [] t i.1 refl
no_whole r0 w0 given (Count r w have x) i t =
    no_run_zero r0 w0 given r w (false ∷ bits have x) t i.1 (bits have x) refl
    (λ n rest l k e. bits_short have (run_order r) x n rest i.3 e)

-- the zero alone
pub zero_taken : (r0 w0 : ℕ) (given : List Bool) (r w : ℕ) → Taken r0 w0 given r w [] → (b : Bool) → b ≡ false
    → Taken r0 w0 (given ++ b ∷ []) r w (false ∷ bits 0 0)
zero_taken r0 w0 given r w t b e =
    subst (λ z. Taken r0 w0 (given ++ b ∷ []) r w (false ∷ z)) (sym (bits_none 0))
    (subst (λ z. Taken r0 w0 (given ++ b ∷ []) r w (z ∷ [])) e (taken_with r0 w0 given r w [] t (b ∷ [])))

pub one_taken : (r0 w0 : ℕ) (given : List Bool) (r w : ℕ) → Taken r0 w0 given r w [] → Taken r0 w0 (given ++ true ∷ []) r w (true ∷ [])
one_taken r0 w0 given r w t = taken_with r0 w0 given r w [] t (true ∷ [])

-- a count whose bits are taken at once
pub count_taken : (r0 w0 : ℕ) (given : List Bool) (r w x j n : ℕ) → Taken r0 w0 given r w (false ∷ bits 0 x)
    → Taken r0 w0 (given ++ bits j n) r w (false ∷ bits j n)
count_taken r0 w0 given r w x j n t =
    subst (λ z. Taken r0 w0 (given ++ bits j n) r w (false ∷ (z ++ bits j n))) (bits_none x)
    (taken_with r0 w0 given r w (false ∷ bits 0 x) t (bits j n))

-- a whole count
pub counted : (r0 w0 : ℕ) (given : List Bool) (r w j n : ℕ) → Taken r0 w0 given r w (false ∷ bits j n) → j ≡ run_order r → n < 2 ^ j
    → w ≤ w0 → n < w
    → (w0 - w + n < w0) × (given ≡ interrupted_run_bits (blocks r0 (w0 - w + n)) []) × ((blocks r0 (w0 - w + n)).run_index ≡ r)
counted r0 w0 given r w j n t e l f m =
    let h = broken_here r0 w0 given r w (false ∷ bits j n) t n [] (subst (λ z. n < 2 ^ z) e l)
    (ap (λ z. false ∷ z) (ap (λ z. bits z n) e ∙ sym (append-nil (bits (run_order r) n)))) in (omega arith, h.0, h.1)

-- a count that passes the columns left
pub counted_long : (r0 w0 : ℕ) (given : List Bool) (r w j n : ℕ) → Taken r0 w0 given r w (false ∷ bits j n) → j ≡ run_order r → n < 2 ^ j
    → 0 < w → w ≤ n → (more : List Bool) → NoRun r0 w0 (given ++ more)
counted_long r0 w0 given r w j n t e l s m more =
    no_run_long r0 w0 (given ++ more) r w (false ∷ (bits j n ++ more)) (taken_with r0 w0 given r w (false ∷ bits j n) t more) s n
    (bits j n ++ more) more refl (subst (λ z. n < 2 ^ z) e l) (ap (λ z. bits z n ++ more) e) m

-- a one for less than a block
pub short_end : (r0 w0 : ℕ) (given : List Bool) (r w : ℕ) → Taken r0 w0 given r w (true ∷ []) → 0 < w → w < 2 ^ run_order r
    → (given ≡ run_to_end_bits (blocks r0 w0) ++ []) × ((blocks r0 w0).run_index ≡ r)
short_end r0 w0 given r w t s l = ended_short r0 w0 given r w (true ∷ []) t [] s l refl

-- a one for the last block
pub full_end : (r0 w0 : ℕ) (given : List Bool) (r w : ℕ) → Taken r0 w0 given r w (true ∷ []) → w ≡ 2 ^ run_order r
    → (given ≡ run_to_end_bits (blocks r0 w0) ++ []) × ((blocks r0 w0).run_index ≡ risen r)
full_end r0 w0 given r w t e =
    ended r0 w0 given (risen r) (w - 2 ^ run_order r) [] (taken_more r0 w0 given r w (true ∷ []) t [] (omega arith) refl) (omega arith)

-- a one for a block, with columns after it
pub next_block : (r0 w0 : ℕ) (given : List Bool) (r w b : ℕ) → Taken r0 w0 given r w (true ∷ []) → b ≡ 2 ^ run_order r → b ≤ w
    → Taken r0 w0 given (risen r) (w - b) []
next_block r0 w0 given r w b t e l =
    subst (λ z. Taken r0 w0 given (risen r) (w - z) []) (sym e) (taken_more r0 w0 given r w (true ∷ []) t [] (subst (λ z. z ≤ w) e l) refl)
