-- A pixel that interrupts a run, and that is read after the run's other pixels.
use Rattle.std.specs.Prelude.{◌≡◌, ℕ, Bool, List, [], ◌∷◌, ◌++◌}
use Rattle.jls_values.specs.Params.{CodingParameters}
use Rattle.jls_context.specs.Variables.{Variables}
use Rattle.jls_interval.specs.Runs.{run_order, run_index_lowered}
use Rattle.jls_pixel.specs.Pixels.{IsPixel, RowsAbove, pixel_neighbours, run_value}
use Rattle.jls_pixel.specs.Cells.{CodedSample, interrupting, coded_with}
use Rattle.jls_pixel.specs.Code.{bits_of_samples}
use Rattle.jls_pixel.specs.After.{CellsAfter}
use Rattle.jls_pixel.specs.Reading.{ReadsPixel}
use Rattle.jls_pixel.specs.declared.sample.SampleKind.TheVariants.{Interrupting}

-- it was read from the start of the bits, and added to the row, and RUNindex fell
pub record InterruptionRead (p : CodingParameters) (width components : ℕ) (up : RowsAbove) (row row' : List (List ℕ))
    (cells cells' : Variables) (run_index run_index' : ℕ) (given unread : List Bool) : Type 0 where
  pub pixel : List ℕ
  pub is_pixel : IsPixel p components pixel
  pub another : pixel ≡ run_value (pixel_neighbours width up row components) → ⊥
  pub row_is : row' ≡ row ++ pixel ∷ []
  pub run_index_is : run_index' ≡ run_index_lowered run_index
  pub reads : ReadsPixel p (Interrupting (run_order run_index)) (pixel_neighbours width up row components) pixel cells cells' given unread

-- none stands at the start of the bits, after whatever earlier samples
abbrev pub NoInterruption : CodingParameters → ℕ → ℕ → RowsAbove → List (List ℕ) → Variables → ℕ → List Bool → Type 0
NoInterruption p width components up row cells run_index given =
    (earlier : List CodedSample) → CellsAfter p cells earlier → (pixel : List ℕ) (rest : List Bool) → IsPixel p components pixel
    → (pixel ≡ run_value (pixel_neighbours width up row components) → ⊥)
    → given ≡ bits_of_samples p (run_order run_index) earlier
    (coded_with interrupting (pixel_neighbours width up row components) pixel) ++ rest
    → ⊥
