-- The bias computation, and B and C each by itself.
use Rattle.std.proofs.Common.{◌≡◌, ℕ, refl, Bool, true, false, ap, ◌∙◌}
use Rattle.std.specs.Prelude.{ℤ, pos, neg_ℤ, if◌then◌else◌, int_lt, int_le}
use Rattle.jls_context.specs.declared.regular.Cell.{Cell}
use Rattle.jls_context.specs.BiasSteps.{computed_bias, computed_correction}
use Rattle.jls_context.specs.Regular.{bias_computed}

-- a choice of two fields is that of each
chosen : (low high : Bool) (cell : Cell) (b1 b2 c1 c2 : ℤ)
    → record cell {
      bias = if low then b1 else if high then b2 else cell.bias;
      correction =
          if low then c1 else if high then c2 else cell.correction;
    }
    ≡ (if low then record cell { bias = b1; correction = c1 } else if high then record cell { bias = b2; correction = c2 } else cell)
chosen true high cell b1 b2 c1 c2 = refl
chosen false true cell b1 b2 c1 c2 = refl
chosen false false cell b1 b2 c1 c2 = refl

-- B and C, each computed by itself, are those of the bias computation
pub by_steps : (cell : Cell)
    → record cell {
      bias = computed_bias cell.occurrences cell.bias;
      correction =
          computed_correction cell.occurrences cell.bias cell.correction;
    }
    ≡ bias_computed cell
by_steps cell = chosen (int_le cell.bias (neg_ℤ (pos cell.occurrences))) (int_lt (pos 0) cell.bias) cell _ _ _ _

-- cells of the same values
pub cell_is : (x y : Cell) → x.magnitudes ≡ y.magnitudes → x.occurrences ≡ y.occurrences → x.bias ≡ y.bias → x.correction ≡ y.correction → x
    ≡ y
cell_is x y m n b c =
    ap (λ (v : ℕ). record x { magnitudes = v }) m ∙ ap (λ (v : ℕ). record x { magnitudes = y.magnitudes; occurrences = v }) n
    ∙ ap (λ (v : ℤ). record y { bias = v; correction = x.correction }) b ∙ ap (λ (v : ℤ). record y { correction = v }) c
