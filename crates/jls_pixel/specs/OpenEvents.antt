-- What cuts an event that can come next: its bits begin with the bits that are left, and go on.
use Rattle.std.specs.Prelude.{◌≡◌, ℕ, ◌-◌, ◌^◌, ◌<◌, ◌≤◌, Bool, true, false, Option, Some, None, List, [], ◌∷◌, ◌++◌, length}
use Rattle.std.specs.List.{AllByRecursion}
use Rattle.jls_values.specs.Params.{CodingParameters, qbpp, limit}
use Rattle.jls_bits.specs.Bits.{bits}
use Rattle.jls_bits.specs.Golomb.{golomb, has_golomb}
use Rattle.jls_context.specs.declared.mode.Neighbours.{Neighbours}
use Rattle.jls_context.specs.Mode.{context}
use Rattle.jls_context.specs.Regular.{regular_k}
use Rattle.jls_context.specs.Interruption.{run_k}
use Rattle.jls_context.specs.Variables.{Variables, cell_at, run_cell_at}
use Rattle.jls_interval.specs.Code.{run_to_end_bits}
use Rattle.jls_interval.specs.Reading.{NoRun}
use Rattle.jls_interval.specs.Runs.{blocks}
use Rattle.jls_interval.specs.CutEvents.{IsProperPrefix}
use Rattle.jls_interval.specs.CutEventsOpen.{BeginsRun}
use Rattle.jls_pixel.specs.Pixels.{RowsAbove, pixel_neighbours, run_value}
use Rattle.jls_pixel.specs.Events.{Event}
use Rattle.jls_pixel.specs.Cells.{CodedSample, coded_with}
use Rattle.jls_pixel.specs.Code.{sample_bits, bits_of_samples, event_bits}
use Rattle.jls_pixel.specs.Growth.{Fits}
use Rattle.jls_pixel.specs.After.{CellsAfter, IsAfter}
use Rattle.jls_pixel.specs.Reading.{coded_as, order_of}
use Rattle.jls_pixel.specs.RunRead.{RunIs, IsRun}
use Rattle.jls_pixel.specs.declared.sample.SampleKind.{SampleKind}
use Rattle.jls_pixel.specs.declared.sample.SampleKind.TheVariants.{Regular, Interrupting}
use Rattle.jls_pixel.specs.declared.cut_run.NumberEnd.{NumberEnd}
use Rattle.jls_pixel.specs.declared.cut_run.NumberEnd.TheVariants.{Whole as WholeNumber, Open}
use Rattle.jls_pixel.specs.declared.cut_run.RunEnd.{RunEnd}
use Rattle.jls_pixel.specs.declared.cut_run.RunEnd.TheVariants.{Whole, InBlocks, InCount, Refused}

-- Codes and samples ---------------------------------------------------------------------------------

-- the bits are no proper prefix of a code LG(k, g), whose escapes have q bits of a number
abbrev pub CutsNoCode : ℕ → ℕ → ℕ → List Bool → Type 0
CutsNoCode k g q given = (m : ℕ) → has_golomb k g q m ≡ true → IsProperPrefix given (golomb k g q m) → ⊥

-- k of the code of a sample of this kind (T.87 A.5.1, A.7.2)
abbrev pub k_of : CodingParameters → SampleKind → Neighbours → Variables → ℕ
k_of p Regular near cells = regular_k (cell_at cells (context p near))
k_of p (Interrupting order) near cells = run_k false (run_cell_at cells false)

-- the limit of that code (T.87 A.5.3, A.7.2)
abbrev pub limit_of : CodingParameters → SampleKind → ℕ
limit_of p Regular = limit p
limit_of p (Interrupting order) = limit p - order - 1

-- the sample is not this one
abbrev pub IsNot : Option ℕ → ℕ → Type 0
IsNot None sample = Unit {0}
IsNot (Some except) sample = sample ≡ except → ⊥

-- the bits are a proper prefix of those of a sample of this kind, which is not the one that is excepted
pub record CutsSample (p : CodingParameters) (kind : SampleKind) (near : Neighbours) (except : Option ℕ) (given : List Bool)
    (earlier : List CodedSample) : Type 0 where
  pub sample : ℕ
  pub at_most : sample ≤ p.maxval
  pub allowed : IsNot except sample
  pub cut : IsProperPrefix given (sample_bits p (order_of kind) earlier (coded_as kind near sample))

-- the same after whatever earlier samples
abbrev pub CutsSamples : CodingParameters → SampleKind → Neighbours → Option ℕ → Variables → List Bool → Type 0
CutsSamples p kind near except cells given =
    (earlier : List CodedSample) → CellsAfter p cells earlier → CutsSample p kind near except given earlier

-- they are that of none, after whatever earlier samples
abbrev pub CutsNoSample : CodingParameters → SampleKind → Neighbours → Option ℕ → Variables → List Bool → Type 0
CutsNoSample p kind near except cells given =
    (earlier : List CodedSample) → CellsAfter p cells earlier → CutsSample p kind near except given earlier → ⊥

-- the number that is coded for a sample
abbrev pub CodesSample : CodingParameters → SampleKind → Neighbours → Variables → ℕ → ℕ → Type 0
CodesSample p kind near cells sample number =
    (earlier : List CodedSample) → CellsAfter p cells earlier
    → golomb (k_of p kind near cells) (limit_of p kind) (qbpp p) number
    ≡ sample_bits p (order_of kind) earlier (coded_as kind near sample)

-- Pixels --------------------------------------------------------------------------------------------

-- a pixel that interrupts a run differs from the run's value
abbrev pub MayCome : SampleKind → List ℕ → List ℕ → Type 0
MayCome Regular value pixel = Unit {0}
MayCome (Interrupting order) value pixel = pixel ≡ value → ⊥

-- the sample that would make of these first ones the run's value, if there is one
abbrev pub IsExcepted : SampleKind → List ℕ → List ℕ → ℕ → Option ℕ → Type 0
IsExcepted Regular value first ra None = Unit {0}
IsExcepted Regular value first ra (Some sample) = ⊥
IsExcepted (Interrupting order) value first ra None = first ++ ra ∷ [] ≡ value → ⊥
IsExcepted (Interrupting order) value first ra (Some sample) = first ++ sample ∷ [] ≡ value

-- the bits are a proper prefix of those of the samples of a pixel that may come
pub record CutsPixel (p : CodingParameters) (kind : SampleKind) (nears : List Neighbours) (given : List Bool)
    (earlier : List CodedSample) : Type 0 where
  pub pixel : List ℕ
  pub samples : length pixel ≡ length nears
  pub at_most : AllByRecursion (λ sample. sample ≤ p.maxval) pixel
  pub may_come : MayCome kind (run_value nears) pixel
  pub cut : IsProperPrefix given (bits_of_samples p (order_of kind) earlier (coded_with (coded_as kind) nears pixel))

-- the same after whatever earlier samples
abbrev pub CutsPixels : CodingParameters → SampleKind → List Neighbours → Variables → List Bool → Type 0
CutsPixels p kind nears cells given =
    (earlier : List CodedSample) → CellsAfter p cells earlier → CutsPixel p kind nears given earlier

-- they are that of none, after whatever earlier samples
abbrev pub CutsNoPixel : CodingParameters → SampleKind → List Neighbours → Variables → List Bool → Type 0
CutsNoPixel p kind nears cells given =
    (earlier : List CodedSample) → CellsAfter p cells earlier → CutsPixel p kind nears given earlier → ⊥

-- Runs ----------------------------------------------------------------------------------------------

-- a number of so many bits stands at the start of the bits, or they are its first ones
abbrev pub NumberEndIs : ℕ → List Bool → List Bool → NumberEnd → Type 0
NumberEndIs count given unread (WholeNumber value) = (value < 2 ^ count) × (given ≡ bits count value ++ unread)
NumberEndIs count given unread (Open have value) = (have < count) × (value < 2 ^ have) × (given ≡ bits have value)

-- with whatever bits after them, they begin with no run to the end
abbrev pub NoRunToEnd : ℕ → ℕ → List Bool → Type 0
NoRunToEnd r0 w0 given = (more rest : List Bool) → given ++ more ≡ run_to_end_bits (blocks r0 w0) ++ rest → ⊥

-- what the bits of a run from RUNindex r0 on are, where w0 columns are left, if these are after it
abbrev pub RunEndIs : ℕ → ℕ → List Bool → List Bool → RunEnd → Type 0
RunEndIs r0 w0 given unread (Whole run) = RunIs r0 w0 given unread run
RunEndIs r0 w0 given unread InBlocks = IsProperPrefix given (run_to_end_bits (blocks r0 w0))
RunEndIs r0 w0 given unread InCount = BeginsRun r0 w0 given × NoRunToEnd r0 w0 given
RunEndIs r0 w0 given unread Refused = (more : List Bool) → NoRun r0 w0 (given ++ more)

-- the numbers of a whole run
abbrev pub IsRunEnd : ℕ → RunEnd → Type 0
IsRunEnd w0 (Whole run) = IsRun w0 run
IsRunEnd w0 InBlocks = Unit {0}
IsRunEnd w0 InCount = Unit {0}
IsRunEnd w0 Refused = Unit {0}

-- Events --------------------------------------------------------------------------------------------

-- the bits are a proper prefix of those of an event that can come next in a row that begins with these pixels
pub record CutsEvent (p : CodingParameters) (width components : ℕ) (up : RowsAbove) (row : List (List ℕ)) (given : List Bool)
    (earlier : List Event) : Type 0 where
  pub event : Event
  pub fits : Fits p width components up row (pixel_neighbours width up row components) event
  pub cut : IsProperPrefix given (event_bits p earlier event)

-- the same after whatever earlier events leave what a decoder keeps
abbrev pub CutsEvents : CodingParameters → ℕ → ℕ → RowsAbove → List (List ℕ) → Variables → ℕ → List Bool → Type 0
CutsEvents p width components up row cells run_index given =
    (earlier : List Event) → IsAfter p cells run_index earlier → CutsEvent p width components up row given earlier

-- they are that of none, after whatever earlier events leave what a decoder keeps
abbrev pub CutsNoEvent : CodingParameters → ℕ → ℕ → RowsAbove → List (List ℕ) → Variables → ℕ → List Bool → Type 0
CutsNoEvent p width components up row cells run_index given =
    (earlier : List Event) → IsAfter p cells run_index earlier → CutsEvent p width components up row given earlier → ⊥
