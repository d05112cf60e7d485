-- What stands at the start of bits that are read: a sample of a pixel, a whole pixel, an event.
use Rattle.std.specs.Prelude.{◌≡◌, ℕ, ◌≤◌, Bool, List, [], ◌∷◌, ◌++◌, length}
use Rattle.std.specs.List.{AllByRecursion}
use Rattle.jls_values.specs.Params.{CodingParameters}
use Rattle.jls_context.specs.declared.mode.Neighbours.{Neighbours}
use Rattle.jls_context.specs.Variables.{Variables}
use Rattle.jls_pixel.specs.Cells.{CodedSample, regular, interrupting, coded_with}
use Rattle.jls_pixel.specs.Code.{sample_bits, bits_of_samples}
use Rattle.jls_pixel.specs.After.{CellsAfter}
use Rattle.jls_pixel.specs.declared.sample.SampleKind.{SampleKind}
use Rattle.jls_pixel.specs.declared.sample.SampleKind.TheVariants.{Regular, Interrupting}

-- a sample of this kind
abbrev pub coded_as : SampleKind → Neighbours → ℕ → CodedSample
coded_as Regular near sample = regular near sample
coded_as (Interrupting order) near sample = interrupting near sample

-- J of a sample of this kind
abbrev pub order_of : SampleKind → ℕ
order_of Regular = 0
order_of (Interrupting order) = order

-- its J is in the table
abbrev pub IsKind : SampleKind → Type 0
IsKind Regular = Unit {0}
IsKind (Interrupting order) = order ≤ 15

-- a sample was read from the start of the bits
pub record SampleRead (p : CodingParameters) (kind : SampleKind) (near : Neighbours) (sample : ℕ) (cells' : Variables)
    (given unread : List Bool) (earlier : List CodedSample) : Type 0 where
  pub cells_after : CellsAfter p cells' (earlier ++ coded_as kind near sample ∷ [])
  pub bits_are : given ≡ sample_bits p (order_of kind) earlier (coded_as kind near sample) ++ unread

-- the same after whatever earlier samples
abbrev pub ReadsSample : CodingParameters → SampleKind → Neighbours → ℕ → Variables → Variables → List Bool → List Bool → Type 0
ReadsSample p kind near sample cells cells' given unread =
    (earlier : List CodedSample) → CellsAfter p cells earlier → SampleRead p kind near sample cells' given unread earlier

-- no sample stands at the start of the bits, after whatever earlier samples
abbrev pub RefusesSample : CodingParameters → SampleKind → Neighbours → Variables → List Bool → Type 0
RefusesSample p kind near cells given =
    (earlier : List CodedSample) → CellsAfter p cells earlier → (sample : ℕ) (rest : List Bool) → sample ≤ p.maxval
    → given ≡ sample_bits p (order_of kind) earlier (coded_as kind near sample) ++ rest → ⊥

-- the samples of a pixel were read from the start of the bits
pub record PixelRead (p : CodingParameters) (kind : SampleKind) (nears : List Neighbours) (pixel : List ℕ) (cells' : Variables)
    (given unread : List Bool) (earlier : List CodedSample) : Type 0 where
  pub cells_after : CellsAfter p cells' (earlier ++ coded_with (coded_as kind) nears pixel)
  pub bits_are : given ≡ bits_of_samples p (order_of kind) earlier (coded_with (coded_as kind) nears pixel) ++ unread

-- the same after whatever earlier samples
abbrev pub ReadsPixel : CodingParameters → SampleKind → List Neighbours → List ℕ → Variables → Variables → List Bool → List Bool → Type 0
ReadsPixel p kind nears pixel cells cells' given unread =
    (earlier : List CodedSample) → CellsAfter p cells earlier → PixelRead p kind nears pixel cells' given unread earlier

-- no pixel stands at the start of the bits, after whatever earlier samples
abbrev pub RefusesPixel : CodingParameters → SampleKind → List Neighbours → Variables → List Bool → Type 0
RefusesPixel p kind nears cells given =
    (earlier : List CodedSample) → CellsAfter p cells earlier → (pixel : List ℕ) (rest : List Bool) → length pixel ≡ length nears
    → AllByRecursion (λ sample. sample ≤ p.maxval) pixel
    → given ≡ bits_of_samples p (order_of kind) earlier (coded_with (coded_as kind) nears pixel) ++ rest → ⊥
