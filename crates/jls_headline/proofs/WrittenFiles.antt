-- The JPEG-LS file that is written of a picture reads as that picture and no other.
use Rattle.std.proofs.Common.{◌≡◌, ℕ, zero, suc, ◌<◌, List, [], ◌∷◌, length, sym, subst, arith, inl, inr}
use Rattle.std.specs.Prelude.{get_or, ◌↔◌}
use Rattle.std.specs.List.{AllByRecursion, Contains}
use Rattle.std.proofs.lemmas.List.Elements.{Contains-append_left, Contains-append_right}
use Rattle.jls_values.specs.Shape.{PictureShape}
use Rattle.jls_partial.specs.Reading.{Reading}
use Rattle.jls_partial.specs.Partial.{PartialPicture}
use Rattle.jls_copy.specs.Pieces.{FoundPiece, PieceOutcome, Lines, pieces, AreOutcomes, readings_of, readings}
use Rattle.jls_copy.specs.Prefixes.{CourseHasReading}
use Rattle.jls_copy.proofs.ReadGives.{piece_listed}
use Rattle.jls_write.specs.Picture.{WholePicture, line_of, picture_of}
use Rattle.jls_write.specs.WrittenFile.{written_file}
use Rattle.jls_file_laws.specs.Covering.{AreThePicture}
use Rattle.jls_file_laws.specs.FileLaw.{IsWritable, ReadsBack}
use Rattle.jls_file_laws.proofs.Covering.{contains_the_picture}
use Rattle.jls_file_laws.proofs.FileRead.{file_law}
use Rattle.jls_file_laws.proofs.WrittenBytes.{written_bytes}
use Rattle.jls_copy_laws.specs.Gives.{GivesReading}
use Rattle.jls_copy_laws.proofs.CopyScans.{course_has_scans}
use Rattle.jls_copy_laws.proofs.Gives.{FoundPieceGives, readings_are_of_the_course}
use Rattle.jls_write.specs.WholePictures.{IsLineIn, IsComponentIn, IsPicture, IsWholePicture}
use Rattle.jls_headline.specs.ReadsAs.{ReadsAs, ReadsAsOnly, FilesReadBack, FilesReadAs}
use Rattle.jls_copy_laws.proofs.Members.{none_in, first_or_rest}
use Rattle.jls_headline.proofs.Pictures.{heights, files_read_as_one}

-- A picture is one that can be written ---------------------------------------------------------------------------

line_width : (s : PictureShape) (lines : List (List ℕ)) → AllByRecursion (IsLineIn s) lines → (y : ℕ) → y < length lines
    → length (get_or lines y []) ≡ s.width
line_width s [] a y l = absurd (omega (arith, l))
line_width s (x ∷ xs) a zero l = a.0.0
line_width s (x ∷ xs) a (suc y) l = line_width s xs a.1 y (omega (arith, l))

pub component_at : (s : PictureShape) (planes : List (List (List ℕ))) → AllByRecursion (IsComponentIn s) planes → (c : ℕ)
    → c < length planes
    → AllByRecursion (IsLineIn s) (get_or planes c [])
component_at s [] a c l = absurd (omega (arith, l))
component_at s (p ∷ ps) a zero l = a.0.1
component_at s (p ∷ ps) a (suc c) l = component_at s ps a.1 c (omega (arith, l))

is_whole : (pic : WholePicture) → IsPicture pic → IsWholePicture pic
is_whole pic is = record { shape = is.shape; widths = widths }
  where
    widths : (c y : ℕ) → c < length pic.shape.ids → y < pic.shape.height → length (line_of pic c y) ≡ pic.shape.width
    widths c y l k =
        let inside : c < length pic.lines = subst (λ n. c < n) (sym is.components) l in
        line_width pic.shape (get_or pic.lines c []) (component_at pic.shape pic.lines is.each c inside) y
        (subst (λ n. y < n) (sym (heights pic.shape pic.lines is.each c inside)) k)

-- What a file that is read back gives ----------------------------------------------------------------------------

-- outcomes of which one is this piece's own
with_own : (ps : List FoundPiece) (os : List PieceOutcome) (p : FoundPiece) (r : Reading) → AreOutcomes ps os → Contains ps p
    → FoundPieceGives p r
    → (others : List PieceOutcome) × AreOutcomes ps others × Contains (readings ps others) r
with_own [] os p r are c g = absurd (none_in p c)
with_own (q ∷ ps) [] p r are c g = absurd are
with_own (q ∷ ps) (o ∷ os) p r are c g =
    elim (first_or_rest p q ps c) [
      | inl e ↦ (
          let h : FoundPieceGives q r = subst (λ x. FoundPieceGives x r) (sym e) g in
          (Lines h.0 ∷ os, (h.1, are.1), Contains-append_left (readings_of q (Lines h.0)) (readings ps os) r h.2))
      | inr later ↦ (
          let m = with_own ps os p r are.1 later g in
          (o ∷ m.0, (are.0, m.1), Contains-append_right (readings_of q o) (readings ps m.0) r m.2))
    ]

module _ (pic : WholePicture) (file : List ℕ) (rs : List Reading) (w : ReadsBack pic file rs) where
  given_is_listed : (r : Reading) → CourseHasReading w.course r → Contains rs r
  given_is_listed r (inl (p, c, lines, reads, among)) =
      let m = with_own (pieces w.course) w.outcomes p r w.some_outcomes c (lines, reads, among) in
      subst (λ xs. Contains xs r) (w.gives m.0 m.1).0 m.2
  given_is_listed r (inr (p, c, head, is_head, among)) = absurd (none_in p (subst (λ ps. Contains ps p) w.uncut c))

  listed_is_given : (r : Reading) → Contains rs r → CourseHasReading w.course r
  listed_is_given r c =
      let g = piece_listed (pieces w.course) w.outcomes r w.some_outcomes
      (subst (λ xs. Contains xs r) (sym (w.gives w.outcomes w.some_outcomes).0) c) in
      inl (g.0, g.1, g.2.0, g.2.1, g.2.2)

  reads_as : AllByRecursion (λ b. b < 256) file → AreThePicture pic rs → ReadsAs file pic
  reads_as low are = record {
    shape = (_, course_has_scans file w.course pic.shape low w.is_course w.framed);
    readings = λ r. (
      λ g. (contains_the_picture pic rs are r).0 (given_is_listed r ((by_course r).0 g)),
      λ is. (by_course r).1 (listed_is_given r ((contains_the_picture pic rs are r).1 is)),
    );
  }
    where
      by_course : (r : Reading) → GivesReading file r ↔ CourseHasReading w.course r
      by_course r = readings_are_of_the_course file w.course pic.shape r low w.is_course w.framed

-- The files of a station's picture -------------------------------------------------------------------------------

reads_as_only : (file : List ℕ) (pic : WholePicture) → IsPicture pic → ReadsAs file pic → ReadsAsOnly file pic
reads_as_only file pic is r = record { reads = r; no_other = λ other is' r'. files_read_as_one file other pic is' is r' r }

pub files_read_back : (pic : WholePicture) → IsPicture pic → FilesReadBack pic
files_read_back pic is o params below fit =
    let can : IsWritable pic o = record { whole = is_whole pic is; fit = fit; params = params; restart_below = below } in
    let law = file_law pic o can in
    reads_as_only (written_file pic o) pic is (reads_as pic (written_file pic o) _ law.0 (written_bytes pic o can) law.1)

pub files_read_as : (station : PartialPicture) (pic : WholePicture) → IsPicture pic → picture_of station ≡ pic → FilesReadAs station pic
files_read_as station pic is e o params below fit =
    subst (λ x. ReadsAsOnly (written_file x o) pic) (sym e) (files_read_back pic is o params below fit)
