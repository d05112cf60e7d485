-- The course of a file of a frame, one scan of one piece and EOI, for worked examples.
use Rattle.std.proofs.Common.{◌≡◌, ℕ, ◌+◌, ◌<◌, ◌^◌, true, List, [], ◌∷◌, ◌++◌, length, Some, None, Ok, refl}
use Rattle.std.specs.Prelude.{is_some}
use Rattle.jls_marker.specs.HeaderState.{HeaderState, no_headers}
use Rattle.jls_marker.specs.Headers.{headers_after}
use Rattle.jls_marker.specs.MarkerCodes.{has_segment}
use Rattle.jls_marker.specs.Scan.{Scan}
use Rattle.jls_copy.specs.ScanData.{IsPiece}
use Rattle.jls_copy.specs.Course.{by_marker, CopyUnit, segment, scan, unit_bytes, Course, IsCourse, with_soi, at_eoi, for_good}
use Rattle.jls_copy.specs.declared.end.End.TheVariants.{Eoi}

module _ (frame sos : List ℕ) (plan : Scan) (piece : List ℕ) where
  abbrev begin_scan : CopyUnit
  begin_scan = scan 0 0xDA sos plan [] piece by_marker

  abbrev end_at : ℕ
  end_at = 2 + length (unit_bytes (segment 0 0xF7 frame)) + length (unit_bytes begin_scan)

  abbrev pub file_of_one_piece : List ℕ
  file_of_one_piece = 0xFF ∷ 0xD8 ∷ (unit_bytes (segment 0 0xF7 frame) ++ (unit_bytes begin_scan ++ 0xFF ∷ 0xD9 ∷ []))

  abbrev pub course_of_one_piece : HeaderState → Course
  course_of_one_piece final =
      record { begin = 2; units = segment 0 0xF7 frame ∷ begin_scan ∷ []; headers = final; end = Eoi (end_at + 0) }

  -- the course of such a file, where its two segments are taken
  pub one_piece_course : (framed final : HeaderState) → length frame + 2 < 2 ^ 16 → headers_after no_headers 0xF7 frame ≡ Ok (framed, None)
      → length sos + 2 < 2 ^ 16 → headers_after framed 0xDA sos ≡ Ok (final, Some plan) → IsPiece piece → is_some final.frame ≡ true
      → IsCourse file_of_one_piece (course_of_one_piece final)
  unfolding has_segment
  one_piece_course framed final short framed_is sos_short scan_is is_piece has_frame =
      with_soi 0 (unit_bytes (segment 0 0xF7 frame) ++ (unit_bytes begin_scan ++ 0xFF ∷ 0xD9 ∷ []))
      (segment 0 0xF7 frame ∷ begin_scan ∷ []) final (Eoi (end_at + 0)) (
        framed,
        unit_bytes begin_scan ++ 0xFF ∷ 0xD9 ∷ [],
        refl,
        ((refl, short), framed_is),
        (
          final,
          0xFF ∷ 0xD9 ∷ [],
          refl,
          (
            (refl, sos_short),
            scan_is,
            tt,
            is_piece,
            record { fill = 0; code = 0xD9; following = []; bytes_are = refl; ends = refl },
          ),
          (refl, for_good final end_at (0xFF ∷ 0xD9 ∷ []) (Eoi (end_at + 0)) (at_eoi final end_at 0 [] has_frame)),
        ),
      )
