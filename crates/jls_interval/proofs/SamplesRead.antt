-- What stands at the start, where a Golomb code does or doesn't.
use Rattle.std.proofs.Common.{◌≡◌, ℕ, ◌-◌, ◌*◌, ◌^◌, ◌≤◌, Bool, true, ltb, List, ◌++◌, sym, ap, ◌∙◌, subst, arith}
use Rattle.std.specs.Prelude.{ℤ, pos, unsigned_abs}
use Rattle.jls_values.specs.Params.{CodingParameters}
use Rattle.jls_context.specs.declared.mode.Neighbours.{Neighbours}
use Rattle.jls_context.specs.declared.regular.Cell.{Cell}
use Rattle.jls_context.specs.declared.interruption.RunCell.{RunCell}
use Rattle.jls_values.specs.Params.{AreCodingParameters, range, qbpp, limit}
use Rattle.jls_context.specs.Errors.{IsError, error_mapped}
use Rattle.jls_context.specs.Mode.{is_negative}
use Rattle.jls_context.specs.Regular.{uses_special_mapping, regular_k, regular_mapped}
use Rattle.jls_context.specs.Interruption.{run_k, interruption_mapped, one_if, maps_positive, mapped_by_sign}
use Rattle.jls_bits.specs.Golomb.{golomb, has_golomb}
use Rattle.jls_interval.specs.Cells.{regular_prediction, is_same, interruption_error, regular_error}
use Rattle.jls_interval.specs.Reading.{NoSample, NoInterruption}
use Rattle.jls_interval.specs.Code.{interrupting_bits}
use Rattle.jls_interval.proofs.Golomb.{golomb_same}
use Rattle.jls_context.proofs.Samples.{error_range, sample_same}
use Rattle.jls_context.proofs.Sizes.{maxval_small, range-le-pow, error_mapped_at_most, interruption_mapped_at_most}
use Rattle.jls_interval.proofs.MappedErrors.{interruption_mapped_same}
use Rattle.jls_interval.proofs.EventsApart.{has_from, limit_room, run_map_is, no_zero}

pub wide : (p : CodingParameters) → AreCodingParameters p → range p ≤ 2 ^ qbpp p
wide p ok = range-le-pow p (maxval_small p ok)

-- the error of a regular sample has a code
pub regular_has : (p : CodingParameters) → AreCodingParameters p → (cell : Cell) (near : Neighbours) (s : ℕ) → s ≤ p.maxval
    → has_golomb (regular_k cell) (limit p) (qbpp p) (regular_mapped cell (regular_error p cell near s)) ≡ true
regular_has p ok cell near s l =
    let w = wide p ok in let room = limit_room p 0 (omega arith) in let v = regular_error p cell near s in
    let m = error_mapped_at_most p (uses_special_mapping cell) v (error_range p (is_negative p near) s (regular_prediction p cell near)) in
    has_from (regular_k cell) (limit p) (qbpp p) (error_mapped (uses_special_mapping cell) v) (omega arith) (omega arith)

-- where no Golomb code begins, no sample of regular mode does
pub regular_none : (p : CodingParameters) → AreCodingParameters p → (cell : Cell) (near : Neighbours) (given : List Bool)
    → ((m : ℕ) (rest : List Bool) → has_golomb (regular_k cell) (limit p) (qbpp p) m ≡ true → given
    ≡ golomb (regular_k cell) (limit p) (qbpp p) m ++ rest → ⊥) → NoSample p cell near given
regular_none p ok cell near given none =
    λ s rest l e. none (regular_mapped cell (regular_error p cell near s)) rest (regular_has p ok cell near s l) e

-- where a code stands whose number no error is mapped to, no sample of regular mode begins
pub regular_wrong : (p : CodingParameters) → AreCodingParameters p
    → (cell : Cell) (near : Neighbours) (given : List Bool) (m : ℕ) (t : List Bool)
    → has_golomb (regular_k cell) (limit p) (qbpp p) m ≡ true → given ≡ golomb (regular_k cell) (limit p) (qbpp p) m ++ t
    → ((e : ℤ) → IsError p e → regular_mapped cell e ≡ m → ⊥) → NoSample p cell near given
regular_wrong p ok cell near given m t has is none = λ s rest l e.
    let v = regular_error p cell near s in
    let h = golomb_same (regular_k cell) (limit p) (qbpp p) (regular_mapped cell v) m rest t (regular_has p ok cell near s l) has
    (sym e ∙ is) in
    none v (error_range p (is_negative p near) s (regular_prediction p cell near)) h.0

-- Interrupting samples ---------------------------------------------------------

module _ (p : CodingParameters) (ok : AreCodingParameters p) (cell : RunCell) (near : Neighbours) (b_small : near.rb ≤ p.maxval) (j : ℕ)
    (few : j ≤ 15) where
  abbrev k : ℕ
  k = run_k (is_same near) cell

  abbrev g : ℕ
  g = limit p - j - 1

  -- the error of a sample that interrupts a run has a code
  run_has : (s : ℕ) → s ≤ p.maxval → has_golomb k g (qbpp p) (interruption_mapped (is_same near) cell (interruption_error p near s)) ≡ true
  run_has s l =
      let w = wide p ok in let room = limit_room p j few in let v = interruption_error p near s in
      let m = interruption_mapped_at_most p (is_same near) cell v (error_range p (ltb near.rb near.ra) s near.rb) in
      has_from k g (qbpp p) (interruption_mapped (is_same near) cell v) room (omega arith)

  -- where no Golomb code begins, no sample that interrupts a run does
  pub interruption_none : (given : List Bool)
      → ((m : ℕ) (rest : List Bool) → has_golomb k g (qbpp p) m ≡ true → given ≡ golomb k g (qbpp p) m ++ rest → ⊥)
      → NoInterruption p cell near j given
  interruption_none given none =
      λ s rest l n e. none (interruption_mapped (is_same near) cell (interruption_error p near s)) rest (run_has s l) e

  module _ (given : List Bool) (m : ℕ) (t : List Bool) (has : has_golomb k g (qbpp p) m ≡ true) (is : given ≡ golomb k g (qbpp p) m ++ t)
    where
      number_is : (s : ℕ) (rest : List Bool) → s ≤ p.maxval → given ≡ interrupting_bits p cell near j s ++ rest
          → interruption_mapped (is_same near) cell (interruption_error p near s) ≡ m
      number_is s rest l e = (golomb_same k g (qbpp p) (interruption_mapped (is_same near) cell (interruption_error p near s)) m rest t
          (run_has s l) has (sym e ∙ is)).0

      pub interruption_wrong : ((e : ℤ) → IsError p e → (is_same near ≡ true → e ≡ pos 0 → ⊥)
          → interruption_mapped (is_same near) cell e ≡ m
          → ⊥)
          → NoInterruption p cell near j given
      interruption_wrong none = λ s rest l n e.
          none (interruption_error p near s) (error_range p (ltb near.rb near.ra) s near.rb) (λ i. no_zero p near b_small s l n i)
          (number_is s rest l e)

      -- the run's own value
      pub interruption_own : (s : ℕ) (v : ℤ) → s ≤ p.maxval → s ≡ near.ra → interruption_error p near s ≡ v
          → (is_same near ≡ true → v ≡ pos 0 → ⊥) → interruption_mapped (is_same near) cell v ≡ m → NoInterruption p cell near j given
      interruption_own s v a own err some map = λ s' rest l n e.
          let same = is_same near in let turn = maps_positive same cell in
          let v' = interruption_error p near s' in
          let x : interruption_mapped same cell v ≡ mapped_by_sign same turn v =
          ap (λ z. 2 * unsigned_abs v - one_if same - one_if z) (run_map_is same cell v) in
          let x' : interruption_mapped same cell v' ≡ mapped_by_sign same turn v' =
          ap (λ z. 2 * unsigned_abs v' - one_if same - one_if z) (run_map_is same cell v') in
          let same_error = interruption_mapped_same same turn v' v (λ i. (no_zero p near b_small s' l n i, some i))
          (sym x' ∙ number_is s' rest l e ∙ sym map ∙ x) in
          n (sample_same p (ltb near.rb near.ra) s' s near.rb l a b_small (same_error ∙ sym err) ∙ own)

      pub interruption_right : (s : ℕ) (v : ℤ) → interruption_mapped (is_same near) cell v ≡ m → interruption_error p near s ≡ v
          → given ≡ interrupting_bits p cell near j s ++ t
      interruption_right s v a b = is ∙ ap (λ z. golomb k g (qbpp p) z ++ t) (sym a)
          ∙ ap (λ z. golomb k g (qbpp p) (interruption_mapped (is_same near) cell z) ++ t) (sym b)

-- what holds of three numbers holds of numbers that are equal to them
pub along : (P : ℕ → ℕ → ℕ → Type 0) (k k' g g' q q' : ℕ) → k ≡ k' → g ≡ g' → q ≡ q' → P k g q → P k' g' q'
along P k k' g g' q q' a b c h = subst (λ z. P z g' q') a (subst (λ z. P k z q') b (subst (λ z. P k g z) c h))
