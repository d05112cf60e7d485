-- The code of some lines has a bit.
use Rattle.std.proofs.Common.{◌≡◌, ℕ, zero, suc, ◌*◌, ◌<◌, Bool, true, false, List, [], ◌∷◌, ◌++◌, length}
use Rattle.std.proofs.Common.{refl, sym, ap, ◌∙◌, arith, inl, inr}
use Rattle.std.specs.Prelude.{◌/◌}
use Rattle.std.proofs.lemmas.Bool.{cases_Bool}
use Rattle.jls_values.specs.Params.{CodingParameters}
use Rattle.jls_interval.specs.Stepwise.{Leads, bits_of_steps}
use Rattle.jls_interval.specs.Lines.{AreLines}
use Rattle.jls_interval.specs.Events as line
use Rattle.jls_interval.specs.Code.{code}
use Rattle.jls_interval.specs.Growth as line_growth
use Rattle.jls_interval.proofs.LinesGrow.{lines_grow}
use Rattle.jls_interval.proofs.GrowthEnds.{events_some as line_events_some}
use Rattle.jls_interval.proofs.CodesApart.{code_is as line_code_is}
use Rattle.jls_pixel.specs.Pixels.{AreRows}
use Rattle.jls_pixel.specs.Events as pixel
use Rattle.jls_pixel.specs.Code.{pixel_code}
use Rattle.jls_pixel.specs.Growth as pixel_growth
use Rattle.jls_pixel.proofs.RowsGrow.{rows_grow}
use Rattle.jls_pixel.proofs.EventBits.{events_some as pixel_events_some}
use Rattle.jls_pixel.proofs.CodesApart.{code_is as pixel_code_is}
use Rattle.jls_piece.specs.Lines.{PieceShape, rows_of, AreOfWholeRows}
use Rattle.jls_piece.specs.Code.{piece_code}
use Rattle.jls_piece.proofs.PieceCodes.{line_code, sample_code, are_own_rows, rows_fill}

-- what stands before nothing is nothing
pub nothing_before : (xs ys : List Bool) → xs ++ ys ≡ [] → xs ≡ []
nothing_before [] ys e = refl
nothing_before (x ∷ xs) ys e = cc

module _ (p : CodingParameters) (w c n : ℕ) (some : 0 < w) (any : 0 < n) where
  -- the code of lines, at least one, is not empty
  lines_have_bits : (lines : List (List ℕ)) → AreLines p w n lines → code p w c lines ≡ [] → ⊥
  lines_have_bits lines are e =
      first (line.events w c lines) (lines_grow p w c n some lines are) (sym (line_code_is p w c n lines) ∙ e)
    where
      first : (es : List line.Event) → Leads (line_growth.interval_steps p w c n) line_growth.start es (line_growth.finish w c lines)
          → bits_of_steps (line_growth.interval_steps p w c n) line_growth.start es ≡ [] → ⊥
      first [] l e =
          let h = ap (λ (z : line_growth.Position). length z.lines) l in let count = are.count_is in omega (arith, h, count)
      first (x ∷ es) l e = line_events_some p w c n some [] line_growth.start x refl l.0 (nothing_before _ _ e)

  -- the code of rows, at least one, is not empty
  rows_have_bits : 0 < c → (rows : List (List (List ℕ))) → AreRows p w c n rows → pixel_code p w c rows ≡ [] → ⊥
  rows_have_bits least rows are e =
      first (pixel.events w c rows) (rows_grow p w c n some rows are) (sym (pixel_code_is p w c n rows) ∙ e)
    where
      first : (es : List pixel.Event) → Leads (pixel_growth.pixel_steps p w c n) pixel_growth.start es (pixel_growth.finish w c rows)
          → bits_of_steps (pixel_growth.pixel_steps p w c n) pixel_growth.start es ≡ [] → ⊥
      first [] l e =
          let h = ap (λ (z : pixel_growth.Position). length z.rows) l in let count = are.count_is in omega (arith, h, count)
      first (x ∷ es) l e = pixel_events_some p w c n some least [] pixel_growth.start x refl l.0 (nothing_before _ _ e)

-- the code of whole rows, at least one, is not empty
pub codes_have_bits : (i : PieceShape) → 0 < i.width → 0 < i.components → 0 < i.line_count → (lines : List (List ℕ))
    → AreLines i.params i.width i.line_count lines → AreOfWholeRows i lines → piece_code i lines ≡ [] → ⊥
codes_have_bits i some least any lines are whole e =
    elim (cases_Bool i.by_sample) [ inl h ↦ by_sample h | inr h ↦ by_line h ]
  where
    by_line : i.by_sample ≡ false → ⊥
    by_line h = lines_have_bits i.params i.width i.components i.line_count some any lines are (sym (line_code i lines h) ∙ e)

    by_sample : i.by_sample ≡ true → ⊥
    by_sample h =
        let p = i.params in let w = i.width in let c = i.components in let n = i.line_count in
        let fill = rows_fill p w c n lines are (whole h) in let count = are.count_is in
        rows_have_bits p w c (n / c) some (more (n / c) c (omega arith)) least (rows_of w c lines)
        (are_own_rows p w c n lines are (whole h)) (sym (sample_code i lines h) ∙ e)
      where
        more : (k c : ℕ) → 0 < k * c → 0 < k
        more zero c h = omega arith
        more (suc k) c h = omega arith
