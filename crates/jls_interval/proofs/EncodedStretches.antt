-- The run that a stretch begins with, as it is counted in its line.
use Rattle.std.proofs.Common.{◌≡◌, ℕ, zero, suc, ◌+◌, ◌-◌, ◌<◌, ◌≤◌, true, eqb, List, length, take, drop, get_or, refl, sym, ap, ◌∙◌, arith}
use Rattle.std.specs.List.{prefix_len}
use Rattle.std.proofs.lemmas.List.{get_or-drop, length-drop, take_all}
use Rattle.std.proofs.lemmas.List.Sums.{prefix_len_passes, prefix_len_stops, prefix_len-le-length}
use Rattle.std.proofs.lemmas.Bool.{eqb-true, eqb-false}
use Rattle.jls_context.specs.Mode.{is_run_mode}
use Rattle.jls_interval.specs.Events.{run_to_end, interrupted_run, Above, neighbours, run_stop, stretch}
use Rattle.jls_interval.proofs.Stretches.{to, stretch_same, at_end, at_stop}

-- the samples from column x on are those of a slice
pub counted : (line : List ℕ) (x value count : ℕ) → count ≡ prefix_len (λ s. eqb s value) (take (length line - x) (drop x line))
    → count ≡ prefix_len (λ s. eqb s value) (drop x line)
counted line x value count e =
    e ∙ ap (prefix_len (λ s. eqb s value)) (take_all (length line - x) (drop x line) (let b = length-drop x line in omega arith))

module _ (line : List ℕ) (x value count : ℕ) (within : x < length line) (is : count ≡ prefix_len (λ s. eqb s value) (drop x line)) where
  pub stop_within : x + count ≤ length line
  stop_within =
      let a = prefix_len-le-length (λ s. eqb s value) (drop x line) in let b = length-drop x line in omega arith

  -- the sample at which a counted run stops, if the line goes on, differs from the run's value
  pub stop_differs : (x + count ≡ length line → ⊥) → get_or line (x + count) 0 ≡ value → ⊥
  stop_differs short e =
      let n = prefix_len (λ s. eqb s value) (drop x line) in let w = stop_within in let b = length-drop x line in
      let s = prefix_len_stops (λ s. eqb s value) (drop x line) 0 (omega arith) in
      eqb-false (get_or (drop x line) n 0) value s (get_or-drop x line n 0 ∙ ap (λ z. get_or line (x + z) 0) (sym is) ∙ e)

  module _ (up : Above) (value_is : value ≡ (neighbours (length line) up line x).ra) where
    abbrev w : ℕ
    w = length line

    pub stop_value : (neighbours w up line (x + count)).ra ≡ value
    stop_value = go count (omega arith)
      where
        go : (n : ℕ) → n ≤ count → (neighbours w up line (x + n)).ra ≡ value
        go zero l = let e : x + 0 ≡ x = omega arith in ap (λ z. (neighbours w up line z).ra) e ∙ sym value_is
        go (suc n) l =
            let e : x + suc n ≡ suc (x + n) = omega arith in
            let t = prefix_len_passes (λ s. eqb s value) (drop x line) n 0 (omega arith) in
            ap (λ z. (neighbours w up line z).ra) e ∙ sym (get_or-drop x line n 0) ∙ eqb-true (get_or (drop x line) n 0) value t

    stop_is : run_stop line (neighbours w up line x).ra x ≡ x + count
    stop_is = ap (λ v. x + prefix_len (λ s. eqb s v) (drop x line)) (sym value_is) ∙ ap (λ z. x + z) (sym is)

    module _ (component : ℕ) (run : is_run_mode (neighbours w up line x) ≡ true) where
      pub stretch_to_end : x + count ≡ w → stretch w component up line x ≡ to (run_to_end component count) w
      stretch_to_end e =
          let s = stop_is in
          at_end w component up line x run (omega arith)
          ∙ stretch_same (run_to_end component (w - x)) (run_to_end component count) w w (ap (run_to_end component) (omega arith)) refl

      pub stretch_interrupted : (x + count ≡ w → ⊥)
          → stretch w component up line x
          ≡ to (interrupted_run component count (neighbours w up line (x + count)) (get_or line (x + count) 0)) (x + count + 1)
      stretch_interrupted short =
          let l = stop_within in let e : x + count - x ≡ count = omega arith in
          at_stop w component up line x (x + count) run stop_is (omega arith)
          ∙ stretch_same (interrupted_run component (x + count - x) (neighbours w up line (x + count)) (get_or line (x + count) 0))
          (interrupted_run component count (neighbours w up line (x + count)) (get_or line (x + count) 0)) (suc (x + count))
          (x + count + 1) (ap (λ z. interrupted_run component z (neighbours w up line (x + count)) (get_or line (x + count) 0)) e)
          (omega arith)
