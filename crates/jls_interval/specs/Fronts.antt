-- The fronts of an interval's first lines: the bytes that their code fills, and where each line ends in them (T.87 A.1).
use Rattle.std.specs.Prelude.{◌≡◌, ℕ, ◌+◌, ◌<◌, ◌≤◌, Bool, List, ◌++◌, length, take, get_or}
use Rattle.std.specs.List.{AllByRecursion}
use Rattle.jls_values.specs.Params.{CodingParameters}
use Rattle.jls_bits.specs.declared.writer.BitPlace.{BitPlace}
use Rattle.jls_bits.specs.Front.{IsFront, EndsAt}
use Rattle.jls_interval.specs.Lines.{IntervalShape, IsLine}
use Rattle.jls_interval.specs.Code.{code}
use Rattle.jls_interval.specs.Reads.{BeginsWithCode}
use Rattle.jls_interval.specs.declared.front.Front.{Front}

-- lines with which an interval of 1 to 4 components can begin: each of this width, with samples of at most MAXVAL. They may end
-- inside a row (T.87 B.2)
pub record AreFirstLines (p : CodingParameters) (width components : ℕ) (lines : List (List ℕ)) : Type 0 where
  pub components_at_least : 1 ≤ components
  pub components_at_most : components ≤ 4
  pub each : AllByRecursion (IsLine p width) lines

-- a place before all bits
abbrev pub nowhere : BitPlace
nowhere = record { bytes = 0; bits = 0 }

-- these are the places where the code of each line ends, of which the first stand before it
pub record LinesEndAt (p : CodingParameters) (width components : ℕ) (lines : List (List ℕ)) (ends : List BitPlace) : Type 0 where
  pub count_is : length ends ≡ length lines
  pub each : (t : ℕ) → t < length lines → EndsAt (code p width components (take (t + 1) lines)) (get_or ends t nowhere)

-- the front of the lines: the bytes that their code fills, and where each line ends
pub record IsFrontOf (p : CodingParameters) (width components : ℕ) (lines : List (List ℕ)) (front : Front) : Type 0 where
  pub bytes : IsFront (code p width components lines) front.bytes.items
  pub ends : LinesEndAt p width components lines front.ends.items

-- a piece that begins with the code of some lines begins with the bytes that the code of the first of them fills
abbrev pub FrontsBeginPieces : Type 0
FrontsBeginPieces =
    (i : IntervalShape) (piece : List ℕ) (first others : List (List ℕ)) (unread : List Bool) (front : List ℕ)
    → BeginsWithCode i piece (first ++ others) unread → IsFront (code i.params i.width i.components first) front
    → (rest : List ℕ) × (piece ≡ front ++ rest)
