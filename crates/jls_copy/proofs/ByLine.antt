-- The pieces of a strict course are by line.
use Rattle.std.proofs.Common.{◌≡◌, ℕ, ◌+◌, false, List, [], ◌∷◌, ◌++◌, length, None, Some, refl, ◌∙◌}
use Rattle.std.specs.List.{AllByRecursion}
use Rattle.jls_marker.specs.HeaderState.{HeaderState, no_headers}
use Rattle.jls_marker.specs.Scan.{Scan, intervals}
use Rattle.jls_marker.specs.declared.profile.Profile.TheVariants.{Strict}
use Rattle.jls_marker.proofs.ProfileSteps.{profiles_stay, strict_headers_have_none_by_sample}
use Rattle.jls_copy.specs.ScanData.{ClosedPiece, closed_bytes}
use Rattle.jls_copy.specs.Numbers.{PieceNumber, number_after, given_last}
use Rattle.jls_copy.specs.Pieces.{FoundPiece, pieces_from, pieces_in, pieces, piece_begun}
use Rattle.jls_copy.specs.Course.{CopyUnit, segment, scan, segment_unit_bytes, scan_data_bytes, AreUnits, Course, IsCourse, with_soi}
use Rattle.jls_copy.specs.Course.{with_another_marker, with_no_marker, with_fill_alone}
use Rattle.jls_copy.specs.CourseLaws.{StrictPiecesAreByLine}
use Rattle.jls_copy.specs.declared.end.End.{End}

abbrev IsByLine : FoundPiece → Type 0
IsByLine p = p.plan.by_sample ≡ false

both_are : (ps qs : List FoundPiece) → AllByRecursion IsByLine ps → AllByRecursion IsByLine qs → AllByRecursion IsByLine (ps ++ qs)
both_are [] qs h k = k
both_are (p ∷ ps) qs h k = (h.0, both_are ps qs h.1 k)

-- the pieces of a scan by line are by line
pieces_are : (index : ℕ) (s : Scan) (last : ℕ) (number : PieceNumber) (at : ℕ) (closed : List ClosedPiece) (bytes : List ℕ)
    → s.by_sample ≡ false → AllByRecursion IsByLine (pieces_from (piece_begun index s number at) last closed bytes)
pieces_are index s last number at [] bytes line = (line, tt)
pieces_are index s last number at (c ∷ closed) bytes line =
    let next = number_after (intervals s) last c.mark in
    (line, pieces_are index s (given_last last next) next (at + length (closed_bytes c)) closed bytes line)

-- the pieces of units under strict headers are by line
units_are : (h : HeaderState) (at : ℕ) (bytes : List ℕ) (us : List CopyUnit) (final : HeaderState) (e : End) (index begin : ℕ)
    → h.profile ≡ Strict → AreUnits h at bytes us final e → AllByRecursion IsByLine (pieces_in index begin us)
units_are h at bytes [] final e index begin strict u = tt
units_are h at bytes (segment fill code payload ∷ us) final e index begin strict (after, rest, whole, unit, more) =
    units_are after (at + length (segment_unit_bytes fill code payload)) rest us final e (index + 0)
    (begin + length (segment_unit_bytes fill code payload)) (profiles_stay h after code payload None unit.1 ∙ strict) more
units_are h at bytes (scan fill code payload plan closed last closing ∷ us) final e index begin strict (after, rest, whole, unit, more) =
    both_are (pieces_from (piece_begun index plan _ _) 0 closed last) _
    (pieces_are index plan 0 _ _ closed last (strict_headers_have_none_by_sample h after code payload plan strict unit.1))
    (units_are after (at + length (segment_unit_bytes fill code payload ++ scan_data_bytes closed last closing)) rest us final e
    (index + 1) (begin + length (segment_unit_bytes fill code payload ++ scan_data_bytes closed last closing))
    (profiles_stay h after code payload (Some plan) unit.1 ∙ strict) more)

-- the law: no piece of a strict course is of a scan by sample
pub strict_pieces_are_by_line : StrictPiecesAreByLine
strict_pieces_are_by_line _ _ (with_soi n bytes units final e h) = units_are no_headers (n + 2) bytes units final e 0 (n + 2) refl h
strict_pieces_are_by_line _ _ (with_another_marker n code bytes p q) = tt
strict_pieces_are_by_line _ _ (with_no_marker b bytes p) = tt
strict_pieces_are_by_line _ _ (with_fill_alone n) = tt
