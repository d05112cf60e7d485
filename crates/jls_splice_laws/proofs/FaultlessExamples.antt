-- A file of two lines, two copies of it that are damaged at one place each, and their parts: the file is a splice of them without a fault,
-- and undamaged. Headers alone have one, since no line is read. What doesn't begin with SOI has one, and can be given up.
use Rattle.std.proofs.Common.{◌≡◌, ℕ, zero, suc, ◌<◌, List, [], ◌∷◌, Some, length, refl, sym, ap, ◌∙◌, subst, lit<, arith, inl, inr}
use Rattle.std.specs.Prelude.{get_or}
use Rattle.jls_values.specs.Shape.{PictureShape}
use Rattle.jls_partial.specs.Reading.{reading_of}
use Rattle.jls_marker.specs.ComponentIndex.{index_of}
use Rattle.jls_marker.specs.MarkerCodes.{has_segment}
use Rattle.jls_marker.specs.Headers.{headers_after}
use Rattle.jls_marker.specs.declared.fault.MarkerFault.TheVariants as fault
use Rattle.jls_marker.specs.declared.profile.Profile.{Profile}
use Rattle.jls_marker.specs.declared.profile.Profile.TheVariants.{Wide}
use Rattle.jls_copy.specs.Numbers.{Interval}
use Rattle.jls_copy.specs.Pieces.{FoundPiece}
use Rattle.jls_copy.specs.ScanData.{ClosedPiece}
use Rattle.jls_copy.specs.Course.{by_marker, segment, Course, IsCourse, IsCourseUnder, with_soi, with_no_marker, without_units_under}
use Rattle.jls_copy.specs.Course.{at_eoi, for_good}
use Rattle.jls_copy.specs.declared.end.End.TheVariants.{Eoi, Header}
use Rattle.jls_copy.proofs.OneCourse.{one_course}
use Rattle.jls_copy_laws.proofs.Members.{none_in, bytes_of_test}
use Rattle.jls_headline.proofs.FileExamples.{file_reads}
use Rattle.jls_headline.proofs.ColumnFiles.{headers_and, column_frame, framed, is_column_course, byte_is_piece}
use Rattle.jls_headline.proofs.TwoLineCopies.{shape, pic, plan, outcomes_read, course_with, two_lines_taken}
use Rattle.jls_diff.specs.Parts.{Part, Same, Differ, made, AreParts, IsSplice}
use Rattle.jls_copy.specs.Prefixes.{CourseHasReading}
use Rattle.jls_search.specs.Faultless.{GivesEachLine, EndsWell, IsFaultless}
use Rattle.jls_splice_laws.proofs.StrictCourses.{wide, wide_course}
use Rattle.jls_splice_laws.specs.Searches.{done, Searched, along, given_up}
use Rattle.jls_splice_laws.specs.WholeFiles.{IsWholeFile}

-- SOI, SOF55, DRI and SOS; the first of these bytes; RST0; the second; EOI
abbrev file_with : ℕ → ℕ → List ℕ
file_with first second = headers_and 2 (first ∷ 0xFF ∷ 0xD0 ∷ second ∷ 0xFF ∷ 0xD9 ∷ [])

-- the file has the samples 0 and 255; in each copy another byte of scan data is zeroed
abbrev pub file : List ℕ
file = file_with 0x80 0x40

abbrev one : List ℕ
one = file_with 0 0x40

abbrev other : List ℕ
other = file_with 0x80 0

abbrev parts : List Part
parts =
    Same (headers_and 2 []) ∷ Differ ((0 ∷ []) ∷ (0x80 ∷ []) ∷ []) ∷ Same (0xFF ∷ 0xD0 ∷ []) ∷ Differ ((0x40 ∷ []) ∷ (0 ∷ []) ∷ [])
    ∷ Same (0xFF ∷ 0xD9 ∷ []) ∷ []

are_parts : AreParts (one ∷ other ∷ []) parts
are_parts = record { ways = (tt, (refl, (tt, (refl, (tt, tt))))); make = by }
  where
    by : (j : ℕ) → j < 2 → made j parts ≡ get_or (one ∷ other ∷ []) j []
    by zero l = refl
    by (suc zero) l = refl
    by (suc (suc j)) l = absurd (omega (arith, l))

-- the file is a splice: the second copy's way, then the first one's
file_is_splice : IsSplice 2 parts file
file_is_splice = (0, lit< tt, _, refl, (1, lit< tt, _, refl, (0, lit< tt, _, refl, (0, lit< tt, _, refl, (0, lit< tt, _, refl, refl)))))

abbrev closed : List ClosedPiece
closed = record { piece = 0x80 ∷ []; fill = 0; mark = 0 } ∷ []

abbrev course : Course
course = course_with closed (0x40 ∷ []) 35

is_course : IsCourse file course
is_course =
    is_column_course 2 two_lines_taken closed (0x40 ∷ []) by_marker ((byte_is_piece 0x80 (lit< tt), lit< tt), tt)
    (byte_is_piece 0x40 (lit< tt))

-- its pieces read as the samples 0 and 255, and these are its lines
abbrev first : FoundPiece
first = record { scan = 0; plan = plan; number = Interval 0; offset = 31; bytes = 0x80 ∷ [] }

abbrev second : FoundPiece
second = record { scan = 0; plan = plan; number = Interval 1; offset = 34; bytes = 0x40 ∷ [] }

each_line : GivesEachLine shape course
each_line zero zero k l = (0 ∷ [], inl (first, (0, lit< tt, refl), (0 ∷ []) ∷ [], outcomes_read.zero_read, (0, lit< tt, refl)))
each_line zero (suc zero) k l = (255 ∷ [], inl (second, (1, lit< tt, refl), (255 ∷ []) ∷ [], outcomes_read.largest_read, (0, lit< tt, refl)))
each_line zero (suc (suc line)) k l = absurd (omega (arith, l))
each_line (suc component) line k l = absurd (omega (arith, k))

-- it has no fault
pub file_is_faultless : IsFaultless file
file_is_faultless = record {
  course = wide course;
  is_course = wide_course file course is_course tt;
  shape = shape;
  framed = refl;
  ends = tt;
  each = (((0 ∷ []) ∷ [], outcomes_read.zero_read), (((255 ∷ []) ∷ [], outcomes_read.largest_read), tt));
  whole = each_line;
}

-- and it is an undamaged file of its picture, by line
pub file_is_whole : IsWholeFile pic file
unfolding file_is_faultless
file_is_whole = record {
  bytes = bytes_of_test file refl;
  reads = file_reads.reads;
  course = course;
  is_course = is_course;
  ends = tt;
  each = file_is_faultless.each;
}

-- Headers alone ------------------------------------------------------------------------------------------------------

-- SOI, SOF55 and EOI
abbrev no_scan : List ℕ
no_scan = 0xFF ∷ 0xD8 ∷ 0xFF ∷ 0xF7 ∷ 0 ∷ 0x0B ∷ 8 ∷ 0 ∷ 2 ∷ 0 ∷ 1 ∷ 1 ∷ 1 ∷ 0x11 ∷ 0 ∷ 0xFF ∷ 0xD9 ∷ []

abbrev pub bare : Course
bare = record { begin = 2; units = segment 0 0xF7 (column_frame 2) ∷ []; headers = framed 2; end = Eoi 15 }

is_bare : IsCourse no_scan bare
unfolding headers_after index_of has_segment
is_bare =
    with_soi 0 _ (segment 0 0xF7 (column_frame 2) ∷ []) (framed 2) (Eoi 15) (
      framed 2,
      _,
      refl,
      ((refl, lit< tt), refl),
      (refl, for_good (framed 2) 15 (0xFF ∷ 0xD9 ∷ []) (Eoi 15) (at_eoi (framed 2) 15 0 [] refl)),
    )

-- there is a frame, and no piece is faulty; but no line is read, and that is a fault
pub no_line_is_read : (bytes : List ℕ) → IsCourse bytes bare → IsFaultless bytes → ⊥
no_line_is_read bytes is f =
    let e = one_course bytes f.course (wide bare) f.is_course (wide_course bytes bare is tt) in
    let same : Some shape ≡ Some f.shape = sym (ap (λ (c : Course). c.headers.frame) e) ∙ f.framed in
    let s : shape ≡ f.shape = cc in
    let g = f.whole 0 0 (subst (λ (t : PictureShape). 0 < length t.ids) s (lit< tt))
    (subst (λ (t : PictureShape). 0 < t.height) s (lit< tt)) in
    let none : CourseHasReading (wide bare) (reading_of 0 0 g.0) = subst (λ c. CourseHasReading c (reading_of 0 0 g.0)) e g.1 in
    elim none [ inl (p, m, lines, reads, has) ↦ none_in p m | inr (p, m, head, is, has) ↦ none_in p m ]

headers_have_a_fault : IsFaultless no_scan → ⊥
headers_have_a_fault = no_line_is_read no_scan is_bare

-- What doesn't begin with SOI ----------------------------------------------------------------------------------------

pub no_soi : {profile : Profile} (more : List ℕ) → IsCourseUnder profile (1 ∷ more) (without_units_under profile 0 (Header fault.NoSoi 0))
no_soi more = with_no_marker 1 more (λ (h : 1 ≡ 0xFF). omega (arith, h))

pub has_fault_there : (more : List ℕ) → IsFaultless (1 ∷ more) → ⊥
has_fault_there more f =
    let e = one_course (1 ∷ more) f.course (without_units_under Wide 0 (Header fault.NoSoi 0)) f.is_course (no_soi more) in
    subst (λ (c : Course). EndsWell c.end) e f.ends

-- so a search gives up after the first byte, and finds nothing
nothing_found : Searched [] (Same (1 ∷ []) ∷ Differ ((2 ∷ []) ∷ (3 ∷ []) ∷ []) ∷ []) []
nothing_found =
    let ended = done (1 ∷ []) (without_units_under Wide 0 (Header fault.NoSoi 0), no_soi [], refl) (has_fault_there []) in
    along [] (1 ∷ []) (Differ ((2 ∷ []) ∷ (3 ∷ []) ∷ []) ∷ []) [] (given_up (1 ∷ []) (Differ ((2 ∷ []) ∷ (3 ∷ []) ∷ []) ∷ []) ended)
