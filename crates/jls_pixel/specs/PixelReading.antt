-- What a decoder that is given a few bits at a time keeps.
use Rattle.std.specs.Prelude.{◌≡◌, ℕ, ◌+◌, ◌-◌, ◌*◌, ◌^◌, ◌<◌, ◌≤◌, Bool, true, false, List, ◌++◌, length, min}
use Rattle.std.specs.List.{AllByRecursion}
use Rattle.jls_values.specs.Params.{CodingParameters}
use Rattle.jls_context.specs.Variables.{Variables}
use Rattle.jls_bits.specs.Bits.{bits_read, is_whole}
use Rattle.jls_pixel.specs.Pixels.{PixelShape, pixel_shape, AreRows, IsPixel, rows_above}
use Rattle.jls_pixel.specs.Code.{pixel_code}
use Rattle.jls_pixel.specs.EventRead.{RefusesEvent}
use Rattle.jls_pixel.specs.RowRead.{RowBegun, NoRows}
use Rattle.jls_pixel.specs.declared.pixel_reader.State.{State}
use Rattle.jls_pixel.specs.declared.pixel_reader.State.TheVariants.{Working, Complete, NoCode}
use Rattle.jls_pixel.specs.declared.pixel_reader.PixelReader.{PixelReader}

-- no event that can come next has more bits: a run has at most 48 before its interrupting pixel, and a sample at most 80
abbrev pub longest_event : ℕ
longest_event = 368

-- of the bits given, the first ones are those of whole events, and the others wait. The events lead from the start to these finished rows
-- and to this row, which may be whole
pub record IsBegun (p : CodingParameters) (width components count : ℕ) (given : List Bool) (rows : List (List (List ℕ)))
    (row : List (List ℕ)) (cells : Variables) (run_index : ℕ) (pending : List Bool) : Type 0 where
  pub begun : RowBegun p width components count given rows row cells run_index pending
  pub few : length rows < count
  pub columns : length row ≤ width
  pub pixels : AllByRecursion (IsPixel p components) row
  pub run_index_at_most : run_index ≤ 31

-- the same, and the row is not whole
pub record IsWorking (p : CodingParameters) (width components count : ℕ) (given : List Bool) (rows : List (List (List ℕ)))
    (row : List (List ℕ)) (cells : Variables) (run_index : ℕ) (pending : List Bool) : Type 0 where
  pub begun : IsBegun p width components count given rows row cells run_index pending
  pub unfinished : length row < width

-- all rows are there, and so many bits, counted up to 8, came after their code
pub record IsComplete (p : CodingParameters) (width components count : ℕ) (given : List Bool) (rows : List (List (List ℕ)))
    (extra : ℕ) : Type 0 where
  pub unread : List Bool
  pub are_rows : AreRows p width components count rows
  pub begins : given ≡ pixel_code p width components rows ++ unread
  pub counted : extra ≡ min 8 (length unread)

-- no rows' code begins with the bits given, whatever comes
abbrev pub BeginsNoCode : CodingParameters → ℕ → ℕ → ℕ → List Bool → Type 0
BeginsNoCode p width components count given = (more : List Bool) → NoRows p width components count (given ++ more)

-- what the bits given have come to
abbrev pub StateIs : CodingParameters → ℕ → ℕ → ℕ → List Bool → List (List (List ℕ)) → List (List ℕ) → Variables → ℕ → List Bool → State
    → Type 0
StateIs p width components count given rows row cells run_index pending Working =
    IsWorking p width components count given rows row cells run_index pending
StateIs p width components count given rows row cells run_index pending (Complete extra) =
    IsComplete p width components count given rows extra
StateIs p width components count given rows row cells run_index pending NoCode = BeginsNoCode p width components count given

-- the parameters and the shape of the interval
pub record HasShape (p : CodingParameters) (reader : PixelReader) : Type 0 where
  pub parameters : reader.coder.cells.parameters ≡ p
  pub width_at_least : 0 < reader.width
  pub width_below : reader.width < 2 ^ 16
  pub components_at_most : reader.components ≤ 4

-- what the fields of a reader say of the bits given
pub record IsReading (p : CodingParameters) (given : List Bool) (reader : PixelReader) : Type 0 where
  pub shape : HasShape p reader
  pub state_is : StateIs p reader.width reader.components reader.count given reader.rows reader.row.items reader.coder.cells
      reader.run_index reader.pending reader.state

-- the same after an event, where its row may be whole
pub record HasTaken (p : CodingParameters) (given : List Bool) (reader : PixelReader) : Type 0 where
  pub shape : HasShape p reader
  pub begun : IsBegun p reader.width reader.components reader.count given reader.rows reader.row.items reader.coder.cells reader.run_index
      reader.pending

-- The bits given are no rows' code with more bits after it. If so many wait that an event has to be whole, they are the first ones of none.
-- No event stands at the start of the bits that wait
pub record FindsNone (p : CodingParameters) (given : List Bool) (reader : PixelReader) : Type 0 where
  pub none : NoRows p reader.width reader.components reader.count given
  pub never : longest_event ≤ length reader.pending → BeginsNoCode p reader.width reader.components reader.count given
  pub refuses : RefusesEvent p reader.width reader.components (rows_above reader.rows) reader.row.items reader.coder.cells reader.run_index
      reader.pending

-- an event was taken, or none stands at the start of the bits that wait
abbrev pub TakesEvent : PixelReader → PixelReader → Bool → Type 0
TakesEvent old new true = (p : CodingParameters) (given : List Bool) → IsReading p given old → HasTaken p given new
TakesEvent old new false = (p : CodingParameters) (given : List Bool) → IsReading p given old → FindsNone p given old

-- the same, where a whole row is among the finished ones
abbrev pub PushesEvent : PixelReader → PixelReader → Bool → Type 0
PushesEvent old new true = (p : CodingParameters) (given : List Bool) → IsReading p given old → IsReading p given new
PushesEvent old new false = (p : CodingParameters) (given : List Bool) → IsReading p given old → FindsNone p given old

-- what was read stays true
abbrev pub KeepsReading : PixelReader → PixelReader → Type 0
KeepsReading old new = (p : CodingParameters) (given : List Bool) → IsReading p given old → IsReading p given new

-- the shape of an interval stays
pub record KeepsShape (old new : PixelReader) : Type 0 where
  pub width : new.width ≡ old.width
  pub components : new.components ≡ old.components
  pub count : new.count ≡ old.count

-- how many pixels are to come
abbrev pub pixels_left : PixelReader → ℕ
pixels_left reader = (reader.count - length reader.rows) * reader.width + (reader.width - length reader.row.items)

-- Names that contracts of readers share -----------------------------------------------------------------

-- the interval that a reader reads
abbrev pub shape_of : CodingParameters → PixelReader → PixelShape
shape_of p reader = pixel_shape p reader.width reader.components reader.count

-- a reader was given some bits
abbrev pub IsReader : PixelReader → Type 0
IsReader reader = (p : CodingParameters) × (given : List Bool) × IsReading p given reader

-- this holds of whatever bits a reader was given
abbrev pub ForBitsOf : PixelReader → (CodingParameters → List Bool → Type 0) → Type 0
ForBitsOf reader P = (p : CodingParameters) (given : List Bool) → IsReading p given reader → P p given

-- this holds of whatever bytes have those bits for data bits
abbrev pub ForBytesOf : PixelReader → (PixelShape → List ℕ → Type 0) → Type 0
ForBytesOf reader P =
    (p : CodingParameters) (bytes : List ℕ) → AllByRecursion (λ x. x < 256) bytes → is_whole bytes ≡ true
    → IsReading p (bits_read bytes) reader → P (shape_of p reader) bytes
