-- Files of a column of 8-bit samples with a restart interval for each line: their courses, and what their one scan and its pieces give.
-- Such a file is SOI, SOF55, DRI, SOS, and scan data; EOI or the input's end closes it.
use Rattle.std.proofs.Common.{◌≡◌, ℕ, ◌+◌, ◌<◌, ◌≢◌, Bool, true, false, List, [], ◌∷◌, ◌++◌, length, map, Some, None, refl, subst, lit<}
use Rattle.std.proofs.Common.{arith}
use Rattle.std.specs.Prelude.{is_some, nat_le, nat_lt, Ok}
use Rattle.std.specs.List.{AllByRecursion, list_all}
use Rattle.std.proofs.lemmas.Bool.{and_parts, leb-true}
use Rattle.jls_values.specs.Shape.{PictureShape}
use Rattle.jls_values.specs.Params.{CodingParameters}
use Rattle.jls_bits.specs.Bits.{AreDataBits}
use Rattle.jls_interval.specs.Code.{code}
use Rattle.jls_interval.specs.Lines.{interval_shape, IsLine}
use Rattle.jls_interval.specs.Reads.{Reads}
use Rattle.jls_marker.specs.MarkerCodes.{has_segment}
use Rattle.jls_partial.specs.Reading.{Reading}
use Rattle.jls_marker.specs.HeaderState.{HeaderState, no_headers}
use Rattle.jls_marker.specs.Headers.{headers_after}
use Rattle.jls_marker.specs.Scan.{Scan}
use Rattle.jls_copy.specs.ScanData.{ClosedPiece, IsClosedPiece, IsPiece}
use Rattle.jls_copy.specs.Course.{LastClosed, by_input, by_marker, segment, scan, scan_data_bytes, unit_bytes, IsClosing, AreUnits}
use Rattle.jls_copy.specs.Course.{EndsHere, Ends, for_good, with_the_input, at_eoi, Course, IsCourse, with_soi}
use Rattle.jls_copy.specs.declared.end.End.{End}
use Rattle.jls_copy.specs.declared.end.End.TheVariants.{Eoi, Input}
use Rattle.jls_write.specs.Picture.{WholePicture}
use Rattle.jls_copy_laws.specs.CopyScans.{ScanWithData, HasScans}
use Rattle.jls_copy_laws.specs.Gives.{ScanGives, GivesReading}
use Rattle.jls_copy_laws.proofs.Members.{is_first, bytes_of_test}
use Rattle.jls_headline.specs.Damaged.{SurvivesInScan, picture_reading, Survives}
use Rattle.jls_headline.specs.Trimmed.{TrimmedScan, TrimmedCopy}

-- The end --------------------------------------------------------------------------------------------------------

-- what follows scan data: EOI, if a marker closes it
abbrev pub bytes_after : LastClosed → List ℕ
bytes_after (by_input dropped) = []
bytes_after by_marker = 0xFF ∷ 0xD9 ∷ []

abbrev pub end_after : LastClosed → ℕ → End
end_after (by_input dropped) at = Input at
end_after by_marker at = Eoi at

closes : (closing : LastClosed) → IsClosing closing (bytes_after closing)
closes (by_input dropped) = refl
closes by_marker = record { fill = 0; code = 0xD9; following = []; bytes_are = refl; ends = refl }

ends : (h : HeaderState) (at : ℕ) (closing : LastClosed) → is_some h.frame ≡ true → Ends h at (bytes_after closing) (end_after closing at)
ends h at (by_input dropped) framed = with_the_input h at
ends h at by_marker framed =
    for_good h at (0xFF ∷ 0xD9 ∷ []) (Eoi at)
    (subst (λ (n : ℕ). EndsHere h at (0xFF ∷ 0xD9 ∷ []) (Eoi n)) (omega arith) (at_eoi h at 0 [] framed))

-- a byte but 0xFF is a piece
pub byte_is_piece : (b : ℕ) → b < 0xFF → b ≢ 0xFF
byte_is_piece b below e = omega (arith, below, e)

-- The scan -------------------------------------------------------------------------------------------------------

-- the payload of an SOS of the one component
abbrev pub scan_payload : List ℕ
scan_payload = 1 ∷ 1 ∷ 0 ∷ 0 ∷ 0 ∷ 0 ∷ []

-- after the headers `h` an SOS begins a scan of these pieces, which is the last unit
pub last_scan : (h final : HeaderState) (at : ℕ) (plan : Scan) (closed : List ClosedPiece) (last : List ℕ) (closing : LastClosed)
    → headers_after h 0xDA scan_payload ≡ Ok (final, Some plan) → is_some final.frame ≡ true → AllByRecursion IsClosedPiece closed
    → IsPiece last
    → AreUnits h at (unit_bytes (scan 0 0xDA scan_payload plan closed last closing) ++ bytes_after closing)
    (scan 0 0xDA scan_payload plan closed last closing ∷ []) final
    (end_after closing (at + length (unit_bytes (scan 0 0xDA scan_payload plan closed last closing))))
unfolding has_segment
last_scan h final at plan closed last closing taken framed each piece =
    (final, bytes_after closing, refl, ((refl, lit< tt), taken, each, piece, closes closing), (refl, ends final _ closing framed))

-- The file -------------------------------------------------------------------------------------------------------

abbrev pub bits_8 : CodingParameters
bits_8 = record { precision = 8; maxval = 255; t1 = 3; t2 = 7; t3 = 21; reset = 64 }

module _ (height : ℕ) where
  abbrev pub column_shape : PictureShape
  column_shape = record { precision = 8; width = 1; height = height; ids = 1 ∷ [] }

  -- one scan, with a restart interval for each line
  abbrev pub column_plan : Scan
  column_plan = record {
    components = 0 ∷ [];
    params = bits_8;
    width = 1;
    height = height;
    restart_interval = 1;
    by_sample = false;
  }

  -- the payload of SOF55
  abbrev pub column_frame : List ℕ
  column_frame = 8 ∷ 0 ∷ height ∷ 0 ∷ 1 ∷ 1 ∷ 1 ∷ 0x11 ∷ 0 ∷ []

  -- SOI and the segments, and then these bytes
  abbrev pub headers_and : List ℕ → List ℕ
  headers_and more =
      0xFF ∷ 0xD8 ∷ 0xFF ∷ 0xF7 ∷ 0 ∷ 0x0B ∷ 8 ∷ 0 ∷ height ∷ 0 ∷ 1 ∷ 1 ∷ 1 ∷ 0x11 ∷ 0 ∷ 0xFF ∷ 0xDD ∷ 0 ∷ 4 ∷ 0 ∷ 1
      ∷ 0xFF ∷ 0xDA ∷ 0 ∷ 8 ∷ 1 ∷ 1 ∷ 0 ∷ 0 ∷ 0 ∷ 0 ∷ more

  abbrev pub framed : HeaderState
  framed = record no_headers { frame = Some column_shape }

  abbrev pub restarting : HeaderState
  restarting = record framed { restart_interval = 1 }

  abbrev pub final : HeaderState
  final = record restarting { scans = 1 }

  -- the course of such a file with these pieces
  abbrev pub column_course : List ClosedPiece → List ℕ → LastClosed → ℕ → Course
  column_course closed last closing end = record {
    begin = 2;
    units = segment 0 0xF7 column_frame ∷ segment 0 0xDD (0 ∷ 1 ∷ []) ∷ scan 0 0xDA scan_payload column_plan closed last closing ∷ [];
    headers = final;
    end = end_after closing end;
  }

  -- the headers take SOF55 and SOS
  pub record AreTaken : Type 0 where
    pub frame : headers_after no_headers 0xF7 column_frame ≡ Ok (framed, None)
    pub scan : headers_after restarting 0xDA scan_payload ≡ Ok (final, Some column_plan)

  pub is_column_course : AreTaken → (closed : List ClosedPiece) (last : List ℕ) (closing : LastClosed) → AllByRecursion IsClosedPiece closed
      → IsPiece last
      → IsCourse (headers_and (scan_data_bytes closed last closing ++ bytes_after closing))
      (column_course closed last closing (21 + length (unit_bytes (scan 0 0xDA scan_payload column_plan closed last closing))))
  unfolding headers_after has_segment
  is_column_course taken closed last closing each piece =
      with_soi 0 _ _ final _ (
        framed,
        _,
        refl,
        ((refl, lit< tt), taken.frame),
        (
          restarting,
          _,
          refl,
          ((refl, lit< tt), refl),
          last_scan restarting final 21 column_plan closed last closing taken.scan refl each piece,
        ),
      )

-- What a file of one scan gives ----------------------------------------------------------------------------------

module _ (file : List ℕ) (d : ScanWithData) where
  pub one_scan_gives : (shape : PictureShape) (r : Reading) → HasScans file shape (d ∷ []) → ScanGives d r → GivesReading file r
  one_scan_gives shape r scans gives = (shape, d ∷ [], scans, d, is_first d [], gives)

  module _ (pic : WholePicture) (scans : HasScans file pic.shape (d ∷ [])) where
    pub one_scan_survives : (component line : ℕ) → SurvivesInScan d (picture_reading pic component line)
        → Survives pic file component line
    one_scan_survives component line survives = (d ∷ [], scans, d, is_first d [], survives)

    pub one_scan_trimmed : TrimmedScan pic d → TrimmedCopy pic file
    one_scan_trimmed trimmed = (d ∷ [], scans, (trimmed, tt))

-- What pieces of a column read as --------------------------------------------------------------------------------

column_lines : (p : CodingParameters) (samples : List ℕ) → list_all (λ x. nat_le x p.maxval) samples ≡ true
    → AllByRecursion (IsLine p 1) (map (λ x. x ∷ []) samples)
column_lines p [] e = tt
column_lines p (x ∷ samples) e =
    let at_most = and_parts (nat_le x p.maxval) (list_all (λ y. nat_le y p.maxval) samples) e in
    ((refl, (leb-true _ _ at_most.0, tt)), column_lines p samples at_most.1)

-- if at most seven bits follow the code of the samples, the piece reads as them
pub column_read : (p : CodingParameters) (piece samples : List ℕ) (unread : List Bool) → list_all (λ b. nat_lt b 256) piece ≡ true
    → list_all (λ x. nat_le x p.maxval) samples ≡ true → nat_le (length unread) 7 ≡ true
    → AreDataBits piece (code p 1 1 (map (λ x. x ∷ []) samples) ++ unread)
    → Reads (interval_shape p 1 1 (length (map (λ x. x ∷ []) samples))) piece (map (λ x. x ∷ []) samples)
column_read p piece samples unread low at_most few bits = record {
  unread = unread;
  begins =
      record {
        are_bytes = bytes_of_test piece low;
        are_lines = record { count_is = refl; each = column_lines p samples at_most };
        data_bits = bits;
      };
  at_most_seven = leb-true _ _ few;
}
