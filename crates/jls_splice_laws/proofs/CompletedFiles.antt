-- Files that were completed by EOI read as they did.
use Rattle.std.proofs.Common.{◌≡◌, ℕ, ◌<◌, List, [], ◌∷◌, ◌++◌, refl, sym, ap, ◌∙◌, subst, inl, inr, arith}
use Rattle.std.specs.Prelude.{is_some}
use Rattle.std.specs.List.{AllByRecursion, Contains}
use Rattle.std.proofs.lemmas.List.{append-nil}
use Rattle.jls_partial.specs.Reading.{Reading}
use Rattle.jls_marker.specs.HeaderState.{HeaderState}
use Rattle.jls_marker.specs.declared.profile.Profile.TheVariants.{Wide}
use Rattle.jls_copy.specs.Course.{Course, IsCourseUnder}
use Rattle.jls_copy.specs.CourseLaws.{OneCourseUnder}
use Rattle.jls_copy.specs.Pieces.{FoundPiece, pieces}
use Rattle.jls_copy.specs.Prefixes.{CourseHasReading, HasLines, PrefixesKeepReadingsUnder}
use Rattle.jls_copy.specs.declared.end.End.{End}
use Rattle.jls_copy.specs.declared.end.End.TheVariants.{Eoi, Input, Header}
use Rattle.jls_copy_laws.proofs.Members.{all_append, none_in}
use Rattle.jls_search.specs.Faultless.{EndsWell, IsFaultless}
use Rattle.jls_splice_run.specs.Completing.{EndsAtEoi, IsCompleted, with_eoi, within_eoi, without_eoi, elsewhere}
use Rattle.jls_splice_run.proofs.Eois.{completed_once}
use Rattle.jls_splice_laws.specs.CompletedLaws.{CompletedFilesReadAlike, IsReadAlike}
use Rattle.jls_splice_laws.proofs.LongerFiles.{EndsThen, ends_then}

-- what a file is completed to begins with it
record BeginsWith (file whole : List ℕ) : Type 0 where
  more : List ℕ
  whole_is : whole ≡ file ++ more
  are_bytes : AllByRecursion (λ b. b < 256) more

begins_with : (file whole : List ℕ) → IsCompleted file whole → BeginsWith file whole
begins_with file _ (with_eoi at) = record { more = []; whole_is = sym (append-nil file); are_bytes = tt }
begins_with file _ (within_eoi not_at at) = record { more = 0xD9 ∷ []; whole_is = refl; are_bytes = (omega arith, tt) }
begins_with file _ (without_eoi not_at not_within at) =
    record { more = 0xFF ∷ 0xD9 ∷ []; whole_is = refl; are_bytes = (omega arith, (omega arith, tt)) }
begins_with file _ (elsewhere not_at not_within not_without) = record { more = []; whole_is = sym (append-nil file); are_bytes = tt }

module _ (one : OneCourseUnder Wide) (keep : PrefixesKeepReadingsUnder Wide) (file whole : List ℕ)
    (bytes : AllByRecursion (λ b. b < 256) file) (f : IsFaultless file) (made : IsCompleted file whole) where
  -- a file with its EOI
  as_it_is : EndsAtEoi file → IsReadAlike file whole
  as_it_is at =
      let same : IsReadAlike file file = record {
        ends = at;
        faultless = f;
        headers = λ c d is other. ap (λ (x : Course). x.headers) (one file d c other is);
        readings = λ c d is other r. (
          subst (λ (x : Course). CourseHasReading x r) (one file c d is other),
          subst (λ (x : Course). CourseHasReading x r) (one file d c other is),
        );
      } in
      subst (IsReadAlike file) (sym (completed_once file whole file made (with_eoi at))) same

  module _ (i : ℕ) (input : f.course.end ≡ Input i) where
    then_so : EndsThen f.course whole
    then_so = ends_then one file whole f.course i f.is_course input (ap is_some f.framed) made

    each : AllByRecursion HasLines (pieces then_so.course)
    each = subst (AllByRecursion HasLines) (sym then_so.pieces_are) f.each

    there : (r : Reading) → CourseHasReading f.course r → CourseHasReading then_so.course r
    there r has =
        let b = begins_with file whole made in
        keep file b.more (all_append _ file b.more bytes b.are_bytes) f.course then_so.course f.is_course
        (subst (λ (z : List ℕ). IsCourseUnder Wide z then_so.course) b.whole_is then_so.is_course) each r has

    back : (r : Reading) → CourseHasReading then_so.course r → CourseHasReading f.course r
    back r (inl (p, among, lines, outcome, of)) =
        inl (p, subst (λ (ps : List FoundPiece). Contains ps p) then_so.pieces_are among, lines, outcome, of)
    back r (inr (p, among, head, is, of)) =
        absurd (none_in p (subst (λ (ps : List FoundPiece). Contains ps p) then_so.none_cut among))

    completed : IsReadAlike file whole
    completed = record {
      ends = (then_so.course, then_so.is_course, then_so.offset, then_so.end_is);
      faultless = record {
        course = then_so.course;
        is_course = then_so.is_course;
        shape = f.shape;
        framed = ap (λ (h : HeaderState). h.frame) then_so.headers_are ∙ f.framed;
        ends = subst EndsWell (sym then_so.end_is) tt;
        each = each;
        whole = λ component line within below.
            let g = f.whole component line within below in (g.0, there _ g.1);
      };
      headers = λ c d is other.
          ap (λ (x : Course). x.headers) (one whole d then_so.course other then_so.is_course) ∙ then_so.headers_are
          ∙ ap (λ (x : Course). x.headers) (one file f.course c f.is_course is);
      readings = λ c d is other r. (
        λ has. subst (λ (x : Course). CourseHasReading x r) (one whole then_so.course d then_so.is_course other)
            (there r (subst (λ (x : Course). CourseHasReading x r) (one file c f.course is f.is_course) has)),
        λ has. subst (λ (x : Course). CourseHasReading x r) (one file f.course c f.is_course is)
            (back r (subst (λ (x : Course). CourseHasReading x r) (one whole d then_so.course other then_so.is_course) has)),
      );
    }

  by_end : (e : End) → f.course.end ≡ e → EndsWell e → IsReadAlike file whole
  by_end (Eoi o) is ends = as_it_is (f.course, f.is_course, o, is)
  by_end (Input i) is ends = completed i is
  by_end (Header fault o) is ends = absurd ends

pub completed_files_read_alike : OneCourseUnder Wide → PrefixesKeepReadingsUnder Wide → CompletedFilesReadAlike
completed_files_read_alike one keep file whole bytes f made = by_end one keep file whole bytes f made f.course.end refl f.ends
