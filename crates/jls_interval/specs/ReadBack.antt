-- What is written is read.
use Rattle.std.specs.Prelude.{◌≡◌, ℕ, ◌<◌, List}
use Rattle.jls_values.specs.Params.{CodingParameters, AreCodingParameters}
use Rattle.jls_interval.specs.Lines.{AreLines, interval_shape}
use Rattle.jls_interval.specs.Reads.{Reads, packed}

-- what is written is read as these lines and as no others
abbrev pub PackedLinesReadBack : Type 0
PackedLinesReadBack =
    (p : CodingParameters) (width components count : ℕ) (lines : List (List ℕ)) → AreLines p width count lines
    → Reads (interval_shape p width components count) (packed p width components lines) lines
    × (AreCodingParameters p → 0 < width → (others : List (List ℕ))
    → Reads (interval_shape p width components count) (packed p width components lines) others → others ≡ lines)
