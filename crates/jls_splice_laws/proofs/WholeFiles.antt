-- Each line of a picture survives in a file by line that reads as it and has no faulty piece. Undamaged files have no fault.
use Rattle.std.proofs.Common.{◌≡◌, ℕ, ◌+◌, ◌<◌, ◌≤◌, true, false, List, [], ◌∷◌, length, map, Some, refl, sym, ap, ◌∙◌, subst, arith}
use Rattle.std.proofs.Common.{inl, inr}
use Rattle.std.specs.Prelude.{nat_lt}
use Rattle.std.specs.List.{AllByRecursion, Contains}
use Rattle.std.proofs.lemmas.Bool.{cases_Bool}
use Rattle.std.proofs.lemmas.Bool.Decides.{nat_tests}
use Rattle.jls_partial.specs.Reading.{Reading}
use Rattle.jls_marker.specs.HeaderState.{HeaderState, no_headers}
use Rattle.jls_marker.specs.Scan.{Scan, intervals}
use Rattle.jls_marker.specs.declared.profile.Profile.TheVariants.{Wide}
use Rattle.jls_copy.specs.ScanData.{ClosedPiece, IsClosedPiece, closed_bytes}
use Rattle.jls_copy.specs.Numbers.{PieceNumber, Interval, BeyondLast, next_number, number_after, given_last, RiseByEightAtMost, mark_before}
use Rattle.jls_copy.specs.Course.{CopyUnit, segment, scan, segment_unit_bytes, unit_bytes, IsUnit, AreUnits, Course, IsCourse}
use Rattle.jls_copy.specs.Course.{IsCourseUnder, with_soi, with_another_marker, with_no_marker, with_fill_alone}
use Rattle.jls_copy.specs.Pieces.{FoundPiece, pieces_from, unit_pieces, pieces, piece_begun}
use Rattle.jls_copy.specs.declared.end.End.{End}
use Rattle.jls_write.specs.Picture.{line_of}
use Rattle.jls_copy_laws.specs.CopyScans.{ScanWithData, scans_of_unit}
use Rattle.jls_copy_laws.proofs.CopyScans.{scans_of_course}
use Rattle.jls_copy_laws.proofs.Gives.{unit_stands}
use Rattle.jls_copy_laws.proofs.Members.{none_in, first_or_rest, all_at, all_from, of_flat_map}
use Rattle.jls_headline.specs.Damaged.{AreNumbers, picture_reading}
use Rattle.jls_headline.proofs.LostIntervals.{given_by_scan}
use Rattle.jls_headline.proofs.ScanNumbers.{numbered_pieces_give}
use Rattle.jls_copy.specs.Prefixes.{HasLines, CourseHasReading}
use Rattle.jls_copy.proofs.NumbersGiven.{number_above}
use Rattle.jls_copy.proofs.OneCourse.{one_course}
use Rattle.jls_splice_laws.proofs.StrictCourses.{wide_course}
use Rattle.jls_splice_laws.specs.ProfileFiles.{course_under}
use Rattle.jls_splice_laws.specs.WholeFiles.{FilesByLineAreWhole, WholeFilesAreFaultless, WholeFilesSurvive}
use Rattle.jls_splice_laws.proofs.ProfileFiles.{strict_files_give_as_copies, files_by_line_give_the_same}

-- Numbers ----------------------------------------------------------------------------------------------------------

next_near : (k m : ℕ) → next_number k m ≤ k + 8
next_near k m = omega arith

mark_is : (k m : ℕ) → m < 8 → m ≡ mark_before (next_number k m)
mark_is k m l = omega arith

after_within : (n k m : ℕ) → nat_lt (next_number k m) n ≡ true → number_after n k m ≡ Interval (next_number k m)
after_within n k m t = rw t refl

after_beyond : (n k m : ℕ) → nat_lt (next_number k m) n ≡ false → number_after n k m ≡ BeyondLast (next_number k m)
after_beyond n k m t = rw t refl

-- the numbers of the pieces after the first, where each piece reads as lines
record Numbered (s : Scan) (k : ℕ) (closed : List ClosedPiece) : Type 0 where
  numbers : List ℕ
  rise : RiseByEightAtMost (intervals s) k numbers
  marks_are : map (λ c. c.mark) closed ≡ map mark_before numbers

-- a piece beyond the last interval reads as none
beyond_is_faulty : (index : ℕ) (s : Scan) (last k at : ℕ) (closed : List ClosedPiece) (bytes : List ℕ)
    → AllByRecursion HasLines (pieces_from (piece_begun index s (BeyondLast k) at) last closed bytes) → ⊥
beyond_is_faulty index s last k at [] bytes h = h.0.1
beyond_is_faulty index s last k at (c ∷ closed) bytes h = h.0.1

abbrev following : ℕ → Scan → ℕ → ℕ → ClosedPiece → List ClosedPiece → List ℕ → PieceNumber → List FoundPiece
following index s k at c closed last n = pieces_from (piece_begun index s n (at + length (closed_bytes c))) (given_last k n) closed last

numbers_of : (index : ℕ) (s : Scan) (k at : ℕ) (closed : List ClosedPiece) (last : List ℕ) → AllByRecursion IsClosedPiece closed
    → AllByRecursion HasLines (pieces_from (piece_begun index s (Interval k) at) k closed last) → Numbered s k closed
numbers_of index s k at [] last are h = record { numbers = []; rise = tt; marks_are = refl }
numbers_of index s k at (c ∷ closed) last are h =
    elim (cases_Bool (nat_lt (next_number k c.mark) (intervals s))) [
      | inl t ↦ (
          let e = after_within (intervals s) k c.mark t in
          let low : next_number k c.mark < intervals s = grind (arith, nat_tests, t) in
          let more = numbers_of index s (next_number k c.mark) (at + length (closed_bytes c)) closed last are.1
          (subst (λ n. AllByRecursion HasLines (following index s k at c closed last n)) e h.1) in
          record {
            numbers = next_number k c.mark ∷ more.numbers;
            rise = (number_above k c.mark, next_near k c.mark, low, more.rise);
            marks_are = ap (λ m. m ∷ map (λ d. d.mark) closed) (mark_is k c.mark are.0.1)
                ∙ ap (λ ms. mark_before (next_number k c.mark) ∷ ms) more.marks_are;
          })
      | inr t ↦ absurd (beyond_is_faulty index s k (next_number k c.mark) (at + length (closed_bytes c)) closed last
          (subst (λ n. AllByRecursion HasLines (following index s k at c closed last n)) (after_beyond (intervals s) k c.mark t) h.1))
    ]

-- the scan of a unit whose pieces all read as lines has numbers
unit_numbers : (u : CopyUnit) (before after : HeaderState) (rest : List ℕ) (index at : ℕ) → IsUnit before u after rest
    → AllByRecursion HasLines (unit_pieces index at u) → (d : ScanWithData) → Contains (scans_of_unit u) d
    → (numbers : List ℕ) × AreNumbers d numbers
unit_numbers (segment fill code payload) before after rest index at is h d m = absurd (none_in d m)
unit_numbers (scan fill code payload s closed last closing) before after rest index at is h d m =
    let n = numbers_of index s 0 (at + length (segment_unit_bytes fill code payload)) closed last is.2 h in
    elim (first_or_rest d _ [] m) [
      | inl e ↦ (n.numbers, subst (λ x. AreNumbers x n.numbers) e (record { rise = n.rise; marks_are = n.marks_are }))
      | inr later ↦ absurd (none_in d later)
    ]

-- Units ------------------------------------------------------------------------------------------------------------

-- each unit of a course is one
unit_in : (us : List CopyUnit) (h : HeaderState) (at : ℕ) (bytes : List ℕ) (final : HeaderState) (e : End) (u : CopyUnit)
    → AreUnits h at bytes us final e → Contains us u
    → (before : HeaderState) × (after : HeaderState) × (rest : List ℕ) × IsUnit before u after rest
unit_in [] h at bytes final e u are m = absurd (none_in u m)
unit_in (v ∷ us) h at bytes final e u (after, rest, whole, is, more) m =
    elim (first_or_rest u v us m) [
      | inl same ↦ (h, after, rest, subst (λ x. IsUnit h x after rest) same is)
      | inr later ↦ unit_in us after (at + length (unit_bytes v)) rest final e u more later
    ]

unit_of : (copy : List ℕ) (c : Course) (u : CopyUnit) → IsCourse copy c → Contains c.units u
    → (before : HeaderState) × (after : HeaderState) × (rest : List ℕ) × IsUnit before u after rest
unit_of _ _ u (with_soi n bytes units final e h) m = unit_in units no_headers (n + 2) bytes final e u h m
unit_of _ _ u (with_another_marker n code bytes p q) m = absurd (none_in u m)
unit_of _ _ u (with_no_marker b bytes p) m = absurd (none_in u m)
unit_of _ _ u (with_fill_alone n) m = absurd (none_in u m)

-- The file ---------------------------------------------------------------------------------------------------------

pub whole_files_survive : WholeFilesSurvive
whole_files_survive pic file low reads_as no_fault component line l k =
    let r = picture_reading pic component line in
    let c = no_fault.0 in
    let own = scans_of_course file c pic.shape reads_as.shape.0 no_fault.1 reads_as.shape.1 in
    let g = given_by_scan file pic.shape reads_as.shape.0 reads_as.shape.1 r ((reads_as.readings r).1 (l, k, refl)) in
    let from = of_flat_map scans_of_unit c.units g.0 (subst (λ scans. Contains scans g.0) own.1 g.1) in
    let u = unit_of file c from.0 no_fault.1 from.1 in
    let at = unit_stands c.units 0 c.begin from.0 from.1 in
    let each = all_from HasLines (unit_pieces at.0 at.1 from.0) (λ p m. all_at HasLines (pieces c) p no_fault.2 (at.2 p m)) in
    let n = unit_numbers from.0 u.0 u.1 u.2 at.0 at.1 u.3 each g.0 from.2 in
    let piece = (numbered_pieces_give g.0 n.0 n.1 r).0 g.2 in
    (reads_as.shape.0, reads_as.shape.1, g.0, g.1, (n.0, n.1, piece.0, piece.1, piece.2, piece.3))

-- A file without a fault ------------------------------------------------------------------------------------------

pub whole_files_are_faultless : WholeFilesAreFaultless
whole_files_are_faultless pic file w = record {
  course = w.course;
  is_course = w.is_course;
  shape = pic.shape;
  framed = ap (λ (c : Course). c.headers.frame) (same w.reads.shape.course w.reads.shape.is_course) ∙ w.reads.shape.framed;
  ends = w.ends;
  each = w.each;
  whole = λ component line k l.
      let r = picture_reading pic component line in
      let g = (w.reads.readings r).1 (k, l, refl) in (
        line_of pic component line,
        subst (λ (c : Course). CourseHasReading c r) (sym (same g.1.course g.1.is_course)) g.2,
      );
}
  where
    same : (c : Course) → IsCourseUnder Wide file c → w.course ≡ c
    same c is = one_course file w.course c w.is_course is

-- A file by line -----------------------------------------------------------------------------------------------------

pub files_by_line_are_whole : FilesByLineAreWhole
files_by_line_are_whole pic file w =
    let is = wide_course file w.course w.is_course w.ends in
    let strict = strict_files_give_as_copies file in
    let wide = files_by_line_give_the_same file (w.course, w.is_course, is) in
    record {
      bytes = w.bytes;
      reads = record {
        shape = (wide.0 pic.shape).0 ((strict.0 pic.shape).0 w.reads.shape);
        readings = λ r. (
          λ g. (w.reads.readings r).0 ((strict.1 r).1 ((wide.1 r).1 g)),
          λ l. (wide.1 r).0 ((strict.1 r).0 ((w.reads.readings r).1 l)),
        );
      };
      course = course_under Wide w.course;
      is_course = is;
      ends = w.ends;
      each = w.each;
    }
