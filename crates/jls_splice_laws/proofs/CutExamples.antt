-- Two copies of the file of two lines: the first lacks what follows line 0, up to EOI; the second has another first byte, and is cut off
-- after line 0. The choices of 0xFF and of the bytes after it are the only ones that are not dead. What they make is the cut file: the
-- undamaged file begins with it, and it gives line 0.
use Rattle.std.proofs.Common.{◌≡◌, ℕ, zero, suc, ◌<◌, List, [], ◌∷◌, ◌++◌, Some, None, length, take, refl, sym, ap, ◌∙◌, subst, lit<, arith}
use Rattle.std.proofs.Common.{inl, inr}
use Rattle.std.specs.Prelude.{get_or}
use Rattle.std.specs.List.{AllByRecursion, Contains}
use Rattle.jls_values.specs.Shape.{PictureShape}
use Rattle.jls_piece.specs.Reads.{Reads}
use Rattle.jls_partial.specs.Partial.{PartialPicture, nothing_known, union}
use Rattle.jls_partial.specs.Reading.{Reading, reading_of}
use Rattle.jls_marker.specs.declared.fault.MarkerFault.TheVariants as fault
use Rattle.jls_marker.specs.declared.profile.Profile.TheVariants.{Wide}
use Rattle.jls_copy.specs.CopyReads.{CopyReadsUnder}
use Rattle.jls_copy.specs.Course.{by_input, Course, IsCourse, IsCourseUnder, without_units_under}
use Rattle.jls_copy.specs.IntervalOf.{interval_of}
use Rattle.jls_copy.specs.Numbers.{Interval}
use Rattle.jls_copy.specs.Pieces.{FoundPiece, Lines, IsOutcome, placed, readings_of}
use Rattle.jls_copy.specs.ReadCopy.{ReadCopy}
use Rattle.jls_copy.specs.declared.end.End.TheVariants.{Header}
use Rattle.jls_copy.specs.Prefixes.{CourseHasReading}
use Rattle.jls_copy.proofs.OneCourse.{one_course}
use Rattle.jls_copy_laws.proofs.Members.{none_in, first_or_rest, all_at, bytes_of_test}
use Rattle.jls_headline.specs.Damaged.{picture_reading}
use Rattle.jls_headline.proofs.ColumnFiles.{column_course, is_column_course, byte_is_piece}
use Rattle.jls_headline.proofs.TwoLineCopies.{shape, pic, plan, outcomes_read, first, first_course, course_with, two_lines_taken}
use Rattle.jls_diff.specs.Parts.{Part, Same, Differ, made, AreParts, IsSplice}
use Rattle.jls_search.specs.Choices.{IsPath, prefix_of}
use Rattle.jls_search.specs.Faultless.{IsDead, IsFaultless, IsSought}
use Rattle.jls_search.specs.Levels.{IsLone}
use Rattle.jls_search.specs.Shapes.{HasNoFrame, HasFrameOfShape}
use Rattle.jls_search.specs.Stations.{gives, gives_nothing, no_file}
use Rattle.jls_search.proofs.OneFile.{no_shape, one_shape_of, shape_read}
use Rattle.jls_splice_laws.proofs.StrictCourses.{wide, wide_course}
use Rattle.jls_splice_laws.specs.CutLaws.{WereCut, CutLinesAreThePicture, CutTellsOfLine}
use Rattle.jls_splice_laws.specs.ProfileFiles.{GivesReadingUnder}
use Rattle.jls_splice_laws.proofs.WholeFiles.{files_by_line_are_whole}
use Rattle.jls_splice_laws.proofs.FaultlessExamples.{file, file_is_whole, no_soi, has_fault_there}

-- The copies -------------------------------------------------------------------------------------------------------

-- SOI but for its 0xFF, SOF55, DRI and SOS, and the byte of line 0
abbrev following : List ℕ
following =
    0xD8 ∷ 0xFF ∷ 0xF7 ∷ 0 ∷ 0x0B ∷ 8 ∷ 0 ∷ 2 ∷ 0 ∷ 1 ∷ 1 ∷ 1 ∷ 0x11 ∷ 0 ∷ 0xFF ∷ 0xDD ∷ 0 ∷ 4 ∷ 0 ∷ 1
    ∷ 0xFF ∷ 0xDA ∷ 0 ∷ 8 ∷ 1 ∷ 1 ∷ 0 ∷ 0 ∷ 0 ∷ 0 ∷ 0x80 ∷ []

abbrev cut : List ℕ
cut = 0xFF ∷ following

abbrev other : List ℕ
other = 1 ∷ following

-- RST0, the byte of line 1, and EOI
abbrev rest : List ℕ
rest = 0xFF ∷ 0xD0 ∷ 0x40 ∷ 0xFF ∷ 0xD9 ∷ []

abbrev copies : List (List ℕ)
copies = first ∷ other ∷ []

abbrev parts : List Part
parts = Differ ((0xFF ∷ []) ∷ (1 ∷ []) ∷ []) ∷ Same following ∷ Differ ((0xFF ∷ 0xD9 ∷ []) ∷ [] ∷ []) ∷ []

abbrev path : List ℕ
path = 0 ∷ 0 ∷ []

are_parts : AreParts copies parts
are_parts = record { ways = (refl, (tt, (refl, tt))); make = by }
  where
    by : (j : ℕ) → j < 2 → made j parts ≡ get_or copies j []
    by zero l = refl
    by (suc zero) l = refl
    by (suc (suc j)) l = absurd (omega (arith, l))

-- the path makes the cut file, and the undamaged file begins with it: the first copy has both parts
makes_cut : prefix_of parts path ≡ cut
makes_cut = refl

file_begins : cut ++ rest ≡ file
file_begins = refl

cut_is_splice : IsSplice 2 (take 2 parts) cut
cut_is_splice = (0, lit< tt, following, refl, (0, lit< tt, [], refl, refl))

-- The second copy's first byte is not that of a file without a fault: the other path is dead
is_lone : IsLone (IsSought None) parts path
is_lone = record { is_path = ((lit< tt, λ o l _. absurd (omega (arith, l))), (refl, tt)); prefix = inl tt; others = dead }
  where
    dead : (o : List ℕ) → IsPath parts o → length o ≡ 2 → (o ≡ path → ⊥) → IsDead (IsSought None) (prefix_of parts o)
    dead [] is long not = absurd (omega (arith, long))
    dead (c ∷ []) is long not = absurd (omega (arith, long))
    dead (zero ∷ d ∷ []) is long not = absurd (not (ap (λ x. 0 ∷ x ∷ []) is.1.0))
    dead (suc zero ∷ d ∷ []) is long not = λ more low sought. has_fault_there (following ++ more) sought.0
    dead (suc (suc c) ∷ d ∷ []) is long not = (let l = is.0.0 in absurd (omega (arith, l)))
    dead (c ∷ d ∷ e ∷ o) is long not = absurd (omega (arith, long))

-- Neither copy is without a fault ----------------------------------------------------------------------------------

abbrev piece : FoundPiece
piece = record { scan = 0; plan = plan; number = Interval 0; offset = 31; bytes = 0x80 ∷ [] }

-- line 0 alone is read
no_line_1 : (samples : List ℕ) (lines : List (List ℕ)) → Reads (interval_of plan 0) (0x80 ∷ []) lines
    → Contains (placed (0 ∷ []) 0 0 lines) (reading_of 0 1 samples) → ⊥
no_line_1 samples [] reads has = none_in (reading_of 0 1 samples) has
no_line_1 samples (x ∷ []) reads has =
    elim (first_or_rest (reading_of 0 1 samples) (reading_of 0 0 x) [] has) [
      | inl e ↦ (let n = ap (λ (r : Reading). r.line) e in absurd (omega (arith, n)))
      | inr later ↦ none_in (reading_of 0 1 samples) later
    ]
no_line_1 samples (x ∷ y ∷ lines) reads has = (let n = reads.begins.are_lines.count_is in absurd (omega (arith, n)))

no_piece_has_it : (p : FoundPiece) (samples : List ℕ) (lines : List (List ℕ)) → Contains (piece ∷ []) p → IsOutcome p (Lines lines)
    → Contains (readings_of p (Lines lines)) (reading_of 0 1 samples) → ⊥
no_piece_has_it p samples lines m reads has =
    elim (first_or_rest p piece [] m) [
      | inl e ↦ no_line_1 samples lines (subst (λ q. IsOutcome q (Lines lines)) (sym e) reads)
          (subst (λ q. Contains (readings_of q (Lines lines)) (reading_of 0 1 samples)) (sym e) has)
      | inr later ↦ none_in p later
    ]

first_has_a_fault : IsFaultless first → ⊥
first_has_a_fault f =
    let read : Course = course_with [] (0x80 ∷ []) 32 in
    let e = one_course first f.course (wide read) f.is_course (wide_course first read first_course tt) in
    let same : Some shape ≡ Some f.shape = sym (ap (λ (c : Course). c.headers.frame) e) ∙ f.framed in
    let s : shape ≡ f.shape = cc in
    let g = f.whole 0 1 (subst (λ (t : PictureShape). 0 < length t.ids) s (lit< tt))
    (subst (λ (t : PictureShape). 1 < t.height) s (lit< tt)) in
    let given : CourseHasReading (wide read) (reading_of 0 1 g.0) =
    subst (λ c. CourseHasReading c (reading_of 0 1 g.0)) e g.1 in
    elim given [ inl (p, m, lines, reads, has) ↦ no_piece_has_it p g.0 lines m reads has | inr (p, m, head, is, has) ↦ none_in p m ]

each_has_a_fault : AllByRecursion (λ copy. IsFaultless copy → ⊥) copies
each_has_a_fault = (first_has_a_fault, (has_fault_there following, tt))

other_has_no_frame : HasNoFrame other
other_has_no_frame = (without_units_under Wide 0 (Header fault.NoSoi 0), no_soi following, refl)

-- The station ------------------------------------------------------------------------------------------------------

abbrev cut_course : Course
cut_course = column_course 2 [] (0x80 ∷ []) (by_input 0) 32

is_cut_course : IsCourse cut cut_course
is_cut_course = is_column_course 2 two_lines_taken [] (0x80 ∷ []) (by_input 0) tt (byte_is_piece 0x80 (lit< tt))

is_read_so : IsCourseUnder Wide cut (wide cut_course)
is_read_so = wide_course cut cut_course is_cut_course tt

cut_has_shape : HasFrameOfShape shape cut
cut_has_shape = (wide cut_course, is_read_so, refl)

first_has_shape : HasFrameOfShape shape first
first_has_shape =
    let read : Course = course_with [] (0x80 ∷ []) 32 in (wide read, wide_course first read first_course tt, refl)

-- a new station takes what `finish` gives of the first copy and of the cut file. The second copy has no frame
module _ (a b : ReadCopy) (ra : CopyReadsUnder Wide first a) (rb : CopyReadsUnder Wide cut b) where
  abbrev station : PartialPicture
  station = union (union (nothing_known shape) a.partial) b.partial

  were_cut : WereCut None copies parts path None station
  were_cut = record {
    are_parts = are_parts;
    is_lone = is_lone;
    splices = [];
    takes = record {
      none_faultless = λ copy m. all_at (λ copy. IsFaultless copy → ⊥) copies copy each_has_a_fault m;
      shape_is = cut_has_shape;
      takes = record {
        given = a.partial ∷ b.partial ∷ [];
        give = gives first a (other ∷ cut ∷ []) (b.partial ∷ []) (bytes_of_test first refl) ra
            (one_shape_of a.partial.shape shape first (shape_read first a ra) first_has_shape)
            (gives_nothing other (cut ∷ []) (b.partial ∷ []) (no_shape shape other other_has_no_frame)
            (gives cut b [] [] (bytes_of_test cut refl) rb (one_shape_of b.partial.shape shape cut (shape_read cut b rb) cut_has_shape)
            no_file));
        union_is = refl;
      };
    };
  }

  -- so the law tells of each line of the picture
  each_line_is_reported : CutLinesAreThePicture → (component line : ℕ) → CutTellsOfLine pic station cut component line
  each_line_is_reported law component line =
      (law None copies parts path None station were_cut pic cut rest (files_by_line_are_whole pic file file_is_whole) tt
      cut_is_splice).1 component line

-- and the cut file gives line 0
gives_line_0 : GivesReadingUnder Wide cut (picture_reading pic 0 0)
gives_line_0 = (
  shape,
  record { bytes = bytes_of_test cut refl; course = wide cut_course; is_course = is_read_so; framed = refl },
  inl (piece, (0, lit< tt, refl), (0 ∷ []) ∷ [], outcomes_read.zero_read, (0, lit< tt, refl)),
)
