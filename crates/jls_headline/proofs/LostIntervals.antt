-- What damaged copies give, and that what survives is given.
use Rattle.std.proofs.Common.{◌≡◌, ℕ, List, length, take, subst}
use Rattle.std.specs.List.{AllByRecursion, Contains}
use Rattle.jls_values.specs.Shape.{PictureShape}
use Rattle.jls_partial.specs.Reading.{Reading}
use Rattle.jls_marker.specs.Scan.{first_row}
use Rattle.jls_write.specs.Picture.{WholePicture}
use Rattle.jls_write.specs.WrittenFile.{interval_lines}
use Rattle.jls_file_laws.specs.Covering.{IsLineOf}
use Rattle.jls_copy_laws.specs.CopyScans.{ScanPiece, ScanWithData, HasScans}
use Rattle.jls_copy_laws.specs.Gives.{PieceGives, ScanGives, GivesReading}
use Rattle.jls_copy_laws.proofs.CopyScans.{one_list_of_scans}
use Rattle.jls_copy_laws.proofs.Members.{all_at}
use Rattle.jls_headline.specs.Damaged.{AreNumbers, numbered_pieces, HasPictureLines, DamagedScan, picture_reading, SurvivesInScan}
use Rattle.jls_headline.specs.ScanLaws.{IsScanUnder}
use Rattle.jls_headline.specs.LostIntervalLaws.{DamagedCopiesGiveExactly, DamagedCopiesGiveNoOther, SurvivingLinesAreGiven}
use Rattle.jls_headline.proofs.ScanNumbers.{numbered_pieces_give, number_low}
use Rattle.jls_headline.proofs.Placed.{placed_in_interval, first_among, are_lines_of}
use Rattle.jls_headline.proofs.ScansInRange.{scans_are_of_the_frame}

-- what a copy gives, one of its scans gives
pub given_by_scan : (copy : List ℕ) (shape : PictureShape) (scans : List ScanWithData) → HasScans copy shape scans → (r : Reading)
    → GivesReading copy r → (d : ScanWithData) × Contains scans d × ScanGives d r
given_by_scan copy shape scans has r (shape', scans', has', d, among, gives) =
    let one = one_list_of_scans copy shape' shape scans' scans has' has in
    (d, subst (λ xs. Contains xs d) one.1 among, gives)

-- what a piece of a damaged scan gives is a line of the picture
pub piece_gives_no_other : (pic : WholePicture) (d : ScanWithData) → IsScanUnder pic.shape d.scan → (numbers : List ℕ)
    → AreNumbers d numbers
    → AllByRecursion (HasPictureLines pic d.scan) (numbered_pieces d numbers)
    → (k : ℕ) (piece : ScanPiece) → Contains (numbered_pieces d numbers) (k, piece) → (r : Reading) → PieceGives d.scan k piece r
    → IsLineOf pic r
piece_gives_no_other pic d under numbers are each k piece c r gives =
    let lines = gives.0 in
    let e : lines ≡ take (length lines) (interval_lines pic d.scan k) =
    all_at (HasPictureLines pic d.scan) (numbered_pieces d numbers) (k, piece) each c lines gives.1 in
    are_lines_of pic d.scan k r under.0 under.1 (number_low d numbers k piece under.0.some_interval are c)
    (first_among d.scan.components (length lines) (interval_lines pic d.scan k) (first_row d.scan k) 0 r
    (subst (λ xs. Contains (placed_in_interval d.scan k xs) r) e gives.2))

-- what a damaged scan gives is a line of the picture
scan_gives_no_other : (pic : WholePicture) (d : ScanWithData) → IsScanUnder pic.shape d.scan → DamagedScan pic d → (r : Reading)
    → ScanGives d r
    → IsLineOf pic r
scan_gives_no_other pic d under (numbers, are, each) r gives =
    let g = (numbered_pieces_give d numbers are r).0 gives in
    piece_gives_no_other pic d under numbers are each g.0 g.1 g.2 r g.3

pub damaged_copies_give_no_other : DamagedCopiesGiveNoOther
damaged_copies_give_no_other pic copy (scans, has, damaged) r gives =
    let g = given_by_scan copy pic.shape scans has r gives in
    scan_gives_no_other pic g.0
    (all_at (λ d. IsScanUnder pic.shape d.scan) scans g.0 (scans_are_of_the_frame copy pic.shape scans has).1 g.1)
    (all_at (DamagedScan pic) scans g.0 damaged g.1) r g.2

-- a scan gives what survives in it
survivor_given : (d : ScanWithData) (r : Reading) → SurvivesInScan d r → ScanGives d r
survivor_given d r (numbers, are, k, piece, c, gives) = (numbered_pieces_give d numbers are r).1 (k, piece, c, gives)

pub surviving_lines_are_given : SurvivingLinesAreGiven
surviving_lines_are_given pic copy component line (scans, has, d, among, survives) =
    (pic.shape, scans, has, d, among, survivor_given d (picture_reading pic component line) survives)

pub damaged_copies_give_exactly : DamagedCopiesGiveExactly
damaged_copies_give_exactly pic copy scans has damaged r = (there, back)
  where
    there : GivesReading copy r → (d : ScanWithData) × Contains scans d × SurvivesInScan d r
    there gives =
        let g = given_by_scan copy pic.shape scans has r gives in
        let in_scan = all_at (DamagedScan pic) scans g.0 damaged g.1 in
        let piece = (numbered_pieces_give g.0 in_scan.0 in_scan.1 r).0 g.2 in
        (g.0, g.1, (in_scan.0, in_scan.1, piece.0, piece.1, piece.2, piece.3))

    back : (d : ScanWithData) × Contains scans d × SurvivesInScan d r → GivesReading copy r
    back (d, among, survives) = (pic.shape, scans, has, d, among, survivor_given d r survives)
