-- What a reader finds at the end of its bits. It concerns no caller.
use Rattle.std.specs.Prelude.{◌≡◌, Bool, List}
use Rattle.jls_values.specs.Params.{CodingParameters}
use Rattle.jls_pixel.specs.Pixels.{rows_above}
use Rattle.jls_pixel.specs.RowRead.{NoRows}
use Rattle.jls_pixel.specs.Heads.{IsCutCode, IsCutEvent}
use Rattle.jls_pixel.specs.OpenEvents.{CutsNoEvent}
use Rattle.jls_pixel.specs.PixelReading.{shape_of, IsReading}
use Rattle.jls_pixel.specs.declared.pixel_reader.State.TheVariants.{Working}
use Rattle.jls_pixel.specs.declared.pixel_reader.PixelReader.{PixelReader}
use Rattle.jls_pixel.specs.declared.cut_rows.RestEnd.{RestEnd}
use Rattle.jls_pixel.specs.declared.cut_rows.RestEnd.TheVariants.{Complete, Cut, Broken}

-- the bits given cut an event, before which these rows were finished
pub record IsCut (p : CodingParameters) (given : List Bool) (reader : PixelReader) : Type 0 where
  pub cut : IsCutEvent (shape_of p reader) given
  pub rows_are : cut.position.rows ≡ reader.rows

-- the bits that wait are a proper prefix of no event that can come next
abbrev pub CutsNothing : CodingParameters → PixelReader → Type 0
CutsNothing p reader =
    CutsNoEvent p reader.width reader.components (rows_above reader.rows) reader.row.items reader.coder.cells reader.run_index
    reader.pending

-- what the bits given have come to
abbrev pub RestEndIs : CodingParameters → List Bool → PixelReader → RestEnd → Type 0
RestEndIs p given reader Complete = IsReading p given reader × (reader.state ≡ Working → ⊥)
RestEndIs p given reader Cut = IsCut p given reader
RestEndIs p given reader Broken = NoRows p reader.width reader.components reader.count given × (IsCutCode (shape_of p reader) given → ⊥)
