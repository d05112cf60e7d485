-- The codes of samples, by what a coder carries: names that contracts of coders share (T.87 A.5.3, A.7.2).
use Rattle.std.specs.Prelude.{ℕ, ◌≤◌, Bool, Option, List}
use Rattle.jls_values.specs.Params.{CodingParameters}
use Rattle.jls_context.specs.declared.mode.Neighbours.{Neighbours}
use Rattle.jls_pixel.specs.Reading.{ReadsSample, RefusesSample}
use Rattle.jls_pixel.specs.OpenEvents.{CodesSample, CutsSamples, CutsNoSample}
use Rattle.jls_pixel.specs.declared.coder.Coder.{Coder}
use Rattle.jls_pixel.specs.declared.sample.SampleKind.{SampleKind}

-- the parameters of the scan
abbrev pub parameters_of : Coder → CodingParameters
parameters_of coder = coder.cells.parameters

-- a sample: it is at most MAXVAL
abbrev pub IsSample : Coder → ℕ → Type 0
IsSample coder sample = sample ≤ coder.cells.parameters.maxval

-- a coder read a sample of this kind from the start of the bits
abbrev pub ReadsSampleBy : Coder → Coder → SampleKind → Neighbours → List Bool → List Bool → ℕ → Type 0
ReadsSampleBy old new kind near given unread sample =
    ReadsSample old.cells.parameters kind near sample old.cells new.cells given unread

-- no such sample stands at the start of the bits
abbrev pub RefusesSampleBy : Coder → SampleKind → Neighbours → List Bool → Type 0
RefusesSampleBy coder kind near = RefusesSample coder.cells.parameters kind near coder.cells

-- the number that is coded for such a sample
abbrev pub CodesSampleBy : Coder → SampleKind → Neighbours → ℕ → ℕ → Type 0
CodesSampleBy coder kind near = CodesSample coder.cells.parameters kind near coder.cells

-- the bits are a proper prefix of those of such a sample, which is not the one that is excepted
abbrev pub CutsSamplesBy : Coder → SampleKind → Neighbours → Option ℕ → List Bool → Type 0
CutsSamplesBy coder kind near except = CutsSamples coder.cells.parameters kind near except coder.cells

-- they are that of none
abbrev pub CutsNoSampleBy : Coder → SampleKind → Neighbours → Option ℕ → List Bool → Type 0
CutsNoSampleBy coder kind near except = CutsNoSample coder.cells.parameters kind near except coder.cells
