-- Why a piece gives no lines.
use Rattle.std.specs.Prelude.{◌≡◌, ℕ, Bool, List, ◌++◌, Result, Ok, Err}
use Rattle.jls_values.specs.Params.{CodingParameters}
use Rattle.jls_interval.specs.Lines.{IntervalShape, AreLines}
use Rattle.jls_interval.specs.Code.{code}
use Rattle.jls_interval.specs.Reads.{Reads, IsLong, IsBroken}
use Rattle.jls_interval.specs.declared.decode_piece.PieceFault.{PieceFault}
use Rattle.jls_interval.specs.declared.decode_piece.PieceFault.TheVariants.{Long, Broken, OutOfMemory}

-- which of these a fault of `decode_interval` says; `OutOfMemory` says nothing of the piece
abbrev pub FaultIs : PieceFault → IntervalShape → List ℕ → Type 0
FaultIs Long i piece = IsLong i piece
FaultIs Broken i piece = IsBroken i piece
FaultIs OutOfMemory i piece = Unit {0}

-- what the answer says of bytes that were all decoded: lines as which they read, that they are too long, or that they are broken
abbrev pub OutcomeIs : IntervalShape → List ℕ → Result (List (List ℕ)) PieceFault → Type 0
OutcomeIs i piece (Ok lines) = Reads i piece lines
OutcomeIs i piece (Err Long) = IsLong i piece
OutcomeIs i piece (Err Broken) = IsBroken i piece
OutcomeIs i piece (Err OutOfMemory) = ⊥

-- inside the crate: no lines' code stands at the start of the bits
abbrev pub NoLines : CodingParameters → ℕ → ℕ → ℕ → List Bool → Type 0
NoLines p width components count given =
    (lines : List (List ℕ)) (rest : List Bool) → AreLines p width count lines → given ≡ code p width components lines ++ rest → ⊥
