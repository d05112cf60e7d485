-- A law of the scans of a copy.
use Rattle.std.specs.Prelude.{ℕ, List}
use Rattle.std.specs.List.{AllByRecursion}
use Rattle.jls_values.specs.Shape.{PictureShape, IsShape}
use Rattle.jls_marker.specs.Scan.{Scan, IsScan, IsScanOf}
use Rattle.jls_copy_laws.specs.CopyScans.{ScanWithData, HasScans}

-- a scan is in its ranges, and is one of this frame
abbrev pub IsScanUnder : PictureShape → Scan → Type 0
IsScanUnder f s = IsScan s × IsScanOf f s

-- the frame of a course is a shape, and each scan of the course is in its ranges and of that frame
abbrev pub ScansAreOfTheFrame : Type 0
ScansAreOfTheFrame = (copy : List ℕ) (shape : PictureShape) (scans : List ScanWithData) → HasScans copy shape scans
    → IsShape shape × AllByRecursion (λ d. IsScanUnder shape d.scan) scans
