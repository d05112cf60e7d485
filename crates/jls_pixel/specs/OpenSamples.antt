-- The first bits of a sample's code, and which samples they can go on to. It concerns no caller.
use Rattle.std.specs.Prelude.{◌≡◌, ℕ, ◌+◌, ◌≤◌, Bool, Option, List}
use Rattle.jls_values.specs.Params.{qbpp}
use Rattle.jls_bits.specs.CodeState.{IsOpen, bits_fed}
use Rattle.jls_context.specs.Variables.{Variables}
use Rattle.jls_interval.specs.CutEvents.{IsProperPrefix}
use Rattle.jls_pixel.specs.Cells.{CodedSample}
use Rattle.jls_pixel.specs.Code.{sample_bits}
use Rattle.jls_pixel.specs.After.{CellsAfter}
use Rattle.jls_pixel.specs.Reading.{coded_as, order_of, IsKind}
use Rattle.jls_pixel.specs.OpenEvents.{k_of, limit_of}
use Rattle.jls_pixel.specs.SampleCodes.{CutsSamplesBy, CutsNoSampleBy}
use Rattle.jls_pixel.specs.declared.coder.Coder.{Coder}
use Rattle.jls_pixel.specs.declared.cut_sample.OpenSample.{OpenSample}

-- the code's first bits
abbrev pub first_bits : Variables → OpenSample → List Bool
first_bits cells o = bits_fed o.shape.limit (qbpp cells.parameters) o.code

-- they begin the code of some number, where these are the variables before the sample
pub record IsOpenSample (cells : Variables) (o : OpenSample) : Type 0 where
  pub is_kind : IsKind o.kind
  pub above : o.near.rb ≤ cells.parameters.maxval
  pub k_is : o.shape.k ≡ k_of cells.parameters o.kind o.near cells
  pub limit_is : o.shape.limit ≡ limit_of cells.parameters o.kind
  pub k_at_most : o.shape.k ≤ 16
  pub room : qbpp cells.parameters + 2 ≤ o.shape.limit
  pub limit_at_most : o.shape.limit ≤ 64
  pub opened : IsOpen o.shape.k o.shape.limit (qbpp cells.parameters) o.code

-- they are no proper prefix of the bits of this sample, after whatever earlier samples
abbrev pub IsNotCut : Variables → OpenSample → ℕ → Type 0
IsNotCut cells o sample =
    (earlier : List CodedSample) → CellsAfter cells.parameters cells earlier
    → IsProperPrefix (first_bits cells o) (sample_bits cells.parameters (order_of o.kind) earlier (coded_as o.kind o.near sample)) → ⊥

-- they begin the bits of a sample that can come, which is not the one that is excepted
abbrev pub BeginsSample : Coder → Option ℕ → OpenSample → Type 0
BeginsSample coder except o = CutsSamplesBy coder o.kind o.near except (first_bits coder.cells o)

-- or those of no such sample
abbrev pub BeginsNoSample : Coder → Option ℕ → OpenSample → Type 0
BeginsNoSample coder except o = CutsNoSampleBy coder o.kind o.near except (first_bits coder.cells o)
