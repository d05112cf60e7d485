-- Bits that break off in a run.
use Rattle.std.proofs.Common.{◌≡◌, ℕ, ◌+◌, ◌-◌, ◌*◌, ◌^◌, ◌<◌, ◌≤◌, Bool, true, false, List, [], ◌∷◌, ◌++◌, replicate}
use Rattle.std.proofs.Common.{sym, ap, ◌∙◌, subst, arith}
use Rattle.std.proofs.lemmas.List.{append-nil}
use Rattle.jls_bits.specs.Bits.{bits}
use Rattle.jls_interval.specs.Runs.{run_order, Blocks, blocks}
use Rattle.jls_interval.specs.Code.{run_to_end_bits}
use Rattle.jls_interval.specs.Reading.{NoRun, Taken, after_blocks}
use Rattle.jls_interval.specs.CutEvents.{IsProperPrefix}
use Rattle.jls_interval.specs.CutEventsOpen.{BeginsRun}
use Rattle.jls_interval.proofs.EventsApart.{j_small}
use Rattle.jls_interval.proofs.BlocksTaken.{taken_with, end_after, end_cases, ones_add}
use Rattle.jls_interval.proofs.CutRuns.{count_goes_on, count_too_long}
use Rattle.jls_pixel.specs.OpenEvents.{NoRunToEnd}

-- a run to the end, after more full blocks
after_more : (n : ℕ) (b : Blocks) → run_to_end_bits (after_blocks n b) ≡ replicate n true ++ run_to_end_bits b
after_more n b = ones_add n b.full_blocks _

module _ (r0 w0 : ℕ) (given : List Bool) (r w : ℕ) where
  -- ones for full blocks, and columns are left
  pub blocks_cut : Taken r0 w0 given r w [] → 0 < w → IsProperPrefix given (run_to_end_bits (blocks r0 w0))
  blocks_cut t some =
      let x = end_cases r w [] t.within some in
      record {
        missing = true;
        more_missing = x.0;
        whole_is = ap (λ z. run_to_end_bits (blocks r0 z)) t.total ∙ ap run_to_end_bits (t.blocks_are w)
            ∙ after_more t.full_blocks (blocks r w)
            ∙ ap (λ z. replicate t.full_blocks true ++ z) (sym (append-nil (run_to_end_bits (blocks r w))) ∙ x.1)
            ∙ ap (λ z. z ++ true ∷ x.0) (sym (append-nil (replicate t.full_blocks true)) ∙ sym t.bits_are);
      }

  module _ (pending : List Bool) (have x : ℕ) (t : Taken r0 w0 given r w (false ∷ pending)) (is : pending ≡ bits have x)
      (few : have < run_order r) (fits : x < 2 ^ have) (some : 0 < w) (within : w ≤ w0) where
    counted : Taken r0 w0 given r w (false ∷ bits have x)
    counted = subst (λ z. Taken r0 w0 given r w (false ∷ z)) is t

    -- a count that ends too early, and can be small enough
    pub count_cut : x * 2 ^ (run_order r - have) < w → BeginsRun r0 w0 given × NoRunToEnd r0 w0 given
    count_cut l =
        let j = j_small r in (
          count_goes_on r0 w0 given r w have x (t.within, some, within, few, omega arith, fits) counted l,
          λ more rest e. (
              let a = end_after r0 w0 (given ++ more) r w (false ∷ pending ++ more)
              (taken_with r0 w0 given r w (false ∷ pending) t more) rest e in
              let b = end_cases r w rest t.within some in
              let q : false ∷ (pending ++ more) ≡ true ∷ b.0 = a ∙ b.1 in cc),
        )

    -- and can't
    pub count_refused : w ≤ x * 2 ^ (run_order r - have) → (more : List Bool) → NoRun r0 w0 (given ++ more)
    count_refused l =
        let j = j_small r in
        count_too_long (run_order r - have) r0 w0 given r w have x (omega arith) (omega arith) t.within some within fits l counted
