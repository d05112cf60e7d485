-- What a reader tells of files without a fault.
use Rattle.std.proofs.Common.{◌≡◌, ℕ, ◌<◌, Bool, true, false, List, ◌++◌, length, Option, Some, None, Result, Ok, Err, refl, sym}
use Rattle.std.proofs.Common.{ap, ◌∙◌, subst, arith}
use Rattle.std.specs.Prelude.{IfSome, IfOk}
use Rattle.std.specs.declared.alloc.AllocError.{AllocError}
use Rattle.std.specs.List.{AllByRecursion}
use Rattle.jls_copy.specs.Course.{Course, IsCourseUnder}
use Rattle.jls_copy.specs.Pieces.{FoundPiece, Lines, Fault, IsOutcome, pieces}
use Rattle.jls_copy.specs.ReadCopy.{ReadCopy}
use Rattle.jls_copy.specs.CopyReads.{CopyReadsUnder, CopyGivesNoneUnder, IsDoneUnder}
use Rattle.jls_copy.specs.CopyLaws.{FinalEndsStayUnder}
use Rattle.jls_copy.specs.TellingLaws.{AreRecordsOf, of_none, reads, faulty, RecordsAreOfFaultyPiecesUnder}
use Rattle.jls_copy.specs.Prefixes.{HasLines, IsPieceBrokenUnder, PrefixesStayBrokenUnder, StaysFaultyUnder}
use Rattle.jls_copy.specs.declared.piece.PieceKind.{PieceKind}
use Rattle.jls_copy.specs.declared.piece.PieceRecord.{PieceRecord}
use Rattle.jls_copy.specs.declared.reader.CopyFault.TheVariants.{NoPicture, OutOfMemory}
use Rattle.jls_copy.specs.declared.reader.CopyFault.{CopyFault}
use Rattle.jls_marker.specs.declared.fault.MarkerFault.{MarkerFault}
use Rattle.jls_copy.proofs.OneCourse.{one_course}
use Rattle.jls_copy.proofs.BytesDecide.{one_outcome}
use Rattle.jls_copy.proofs.ScansOfCourse.{HasScan, course_has}
use Rattle.jls_marker.specs.declared.profile.Profile.TheVariants.{Wide}
use Rattle.jls_values.specs.Shape.{PictureShape}
use Rattle.jls_values.proofs.Lists.{all_at, all_prefix}
use Rattle.jls_search.specs.Faultless.{GivesEachLine, EndsWell, IsFaultless, IsSought, IsDead, IsEachLineRead, IsAnswerWithoutFrame}
use Rattle.jls_search.proofs.LinesRead.{lines_given, lines_read}
use Rattle.jls_station.proofs.KnownCopies.{some_then}

-- Pieces -----------------------------------------------------------------------------------------------------------

pub lines_or_fault : (p : FoundPiece) (lines : List (List ℕ)) (kind : PieceKind) → HasScan p → IsOutcome p (Lines lines)
    → IsOutcome p (Fault kind) → ⊥
lines_or_fault p lines kind scan a b =
    let e = one_outcome p.plan p.number p.bytes (Lines lines) (Fault kind) scan a b in absurd cc

all_read : (ps : List FoundPiece) (rs : List PieceRecord) → AreRecordsOf ps rs → length rs ≡ 0 → AllByRecursion HasLines ps
all_read _ _ of_none e = tt
all_read _ _ (reads p ps rs lines is rest) e = ((lines, is), all_read ps rs rest e)
all_read _ _ (faulty p ps r rs is rest) e = absurd (omega (arith, e))

none_faulty : (ps : List FoundPiece) (rs : List PieceRecord) → AllByRecursion HasScan ps → AllByRecursion HasLines ps → AreRecordsOf ps rs
    → length rs ≡ 0
none_faulty _ _ scans all of_none = refl
none_faulty _ _ scans all (reads p ps rs lines is rest) = none_faulty ps rs scans.1 all.1 rest
none_faulty _ _ scans all (faulty p ps r rs is rest) = absurd (lines_or_fault p all.0.0 r.kind scans.0 all.0.1 is.kind)

-- What was read ----------------------------------------------------------------------------------------------------

module _ (law : RecordsAreOfFaultyPiecesUnder Wide) (bytes : List ℕ) (read : ReadCopy) (h : CopyReadsUnder Wide bytes read) where
  pub read_faultless : read.piece_count ≡ 0 → EndsWell read.ended → IsEachLineRead read.partial → IsFaultless bytes
  read_faultless none ends lines =
      let r = law bytes read h in
      record {
        course = h.course;
        is_course = h.is_course;
        shape = h.shape;
        framed = h.framed;
        ends = subst EndsWell h.ended_is ends;
        each = all_read (pieces h.course) r.0 r.1 (sym r.3 ∙ none);
        whole = lines_given bytes read h lines;
      }

  same_shape : (f : IsFaultless bytes) → f.course ≡ h.course → f.shape ≡ h.shape
  same_shape f e = (let framed : Some f.shape ≡ Some h.shape = sym f.framed ∙ ap (λ (c : Course). c.headers.frame) e ∙ h.framed in cc)

  pub faultless_read : AllByRecursion (λ b. b < 256) bytes → IsFaultless bytes
      → (read.piece_count ≡ 0) × EndsWell read.ended × IsEachLineRead read.partial
  faultless_read low f =
      let r = law bytes read h in
      let e : f.course ≡ h.course = one_course bytes f.course h.course f.is_course h.is_course in
      let each : AllByRecursion HasLines (pieces h.course) = subst (λ (c : Course). AllByRecursion HasLines (pieces c)) e f.each in (
        r.3 ∙ none_faulty (pieces h.course) r.0 (course_has bytes h.course low h.is_course) each r.1,
        subst EndsWell (sym h.ended_is) (subst (λ (c : Course). EndsWell c.end) e f.ends),
        lines_read bytes read h low (subst (λ (s : PictureShape). GivesEachLine s h.course) (same_shape f e)
            (subst (GivesEachLine f.shape) e f.whole)),
      )

pub faulty_without_frame : (fed : Option (List ℕ)) (f : MarkerFault) (n : ℕ)
    → IfSome fed (λ bytes. CopyGivesNoneUnder Wide bytes (NoPicture f n))
    → IfSome fed (λ bytes. AllByRecursion (λ b. b < 256) bytes → IsFaultless bytes → ⊥)
faulty_without_frame None f n h = tt
faulty_without_frame (Some bytes) f n h = λ low faultless.
    let e : h.0 ≡ faultless.course = one_course bytes h.0 faultless.course h.1 faultless.is_course in
    let framed : h.0.headers.frame ≡ Some faultless.shape = ap (λ (c : Course). c.headers.frame) e ∙ faultless.framed in
    let none = h.2 in absurd cc

-- Prefixes -----------------------------------------------------------------------------------------------------------

pub dead_if_broken : PrefixesStayBrokenUnder Wide → (fed : Option (List ℕ)) → IfSome fed (λ bytes. IsPieceBrokenUnder Wide bytes)
    → IfSome fed (λ bytes. IsDead IsFaultless bytes)
dead_if_broken stay None h = tt
dead_if_broken stay (Some prefix) h = λ more low f.
    let p = stay prefix more low h f.course f.is_course in
    let reads = all_at HasLines (pieces f.course) p.0 f.each p.1 in p.5 reads.0 reads.1

pub dead_if_faulty : (fed : Option (List ℕ)) → IfSome fed (λ bytes. StaysFaultyUnder Wide bytes)
    → IfSome fed (λ bytes. IsDead IsFaultless bytes)
dead_if_faulty None h = tt
dead_if_faulty (Some prefix) h = λ more low f.
    let p = h more low f.course f.is_course in
    let reads = all_at HasLines (pieces f.course) p.0 f.each p.1 in
    let scan = all_at HasScan (pieces f.course) p.0 (course_has (prefix ++ more) f.course low f.is_course) p.1 in
    lines_or_fault p.0 reads.0 p.2 scan reads.1 p.3

pub dead_if_done : FinalEndsStayUnder Wide → (fed : Option (List ℕ)) (done : Bool) → done ≡ true
    → IfSome fed (λ bytes. IsDoneUnder Wide bytes done)
    → IfSome fed (λ bytes. AllByRecursion (λ b. b < 256) bytes → IsFaultless bytes → ⊥) → IfSome fed (λ bytes. IsDead IsFaultless bytes)
dead_if_done stay None done t h has_fault = tt
dead_if_done stay (Some prefix) done t h has_fault = λ more low f.
    let longer : IsCourseUnder Wide (prefix ++ more) h.0 = stay prefix more h.0 h.1 (sym h.2 ∙ t) in
    let e : f.course ≡ h.0 = one_course (prefix ++ more) f.course h.0 f.is_course longer in
    has_fault (all_prefix (λ b. b < 256) prefix more low) (record {
      course = h.0;
      is_course = h.1;
      shape = f.shape;
      framed = subst (λ (c : Course). c.headers.frame ≡ Some f.shape) e f.framed;
      ends = subst (λ (c : Course). EndsWell c.end) e f.ends;
      each = subst (λ (c : Course). AllByRecursion HasLines (pieces c)) e f.each;
      whole = subst (GivesEachLine f.shape) e f.whole;
    })

-- Answers ----------------------------------------------------------------------------------------------------------

pub faultless_if_sought : (fed : Option (List ℕ)) (r : Result Bool AllocError)
    → IfOk r (λ answer. answer ≡ true → IfSome fed (λ bytes. IsSought None bytes))
    → IfOk r (λ answer. answer ≡ true → IfSome fed (λ bytes. IsFaultless bytes))
faultless_if_sought fed (Ok answer) h = λ t. some_then fed (λ bytes. IsSought None bytes) (λ bytes. IsFaultless bytes)
    (λ bytes sought. sought.0) (h t)
faultless_if_sought fed (Err e) h = tt

pub faulty_if_unsought : (fed : Option (List ℕ)) (r : Result Bool AllocError)
    → IfOk r (λ answer. answer ≡ false → IfSome fed (λ bytes. AllByRecursion (λ b. b < 256) bytes → IsSought None bytes → ⊥))
    → IfOk r (λ answer. answer ≡ false → IfSome fed (λ bytes. AllByRecursion (λ b. b < 256) bytes → IsFaultless bytes → ⊥))
faulty_if_unsought fed (Ok answer) h = λ t. some_then fed (λ bytes. AllByRecursion (λ b. b < 256) bytes → IsSought None bytes → ⊥)
    (λ bytes. AllByRecursion (λ b. b < 256) bytes → IsFaultless bytes → ⊥)
    (λ bytes unsought low faultless. unsought low (faultless, tt)) (h t)
faulty_if_unsought fed (Err e) h = tt

pub ever_unsought : (ceiling : Option ℕ) (fed : Option (List ℕ)) (fault : CopyFault) (r : Result Bool AllocError)
    → IfOk r (λ answer. IsAnswerWithoutFrame fault answer) → IfSome fed (λ bytes. CopyGivesNoneUnder Wide bytes fault)
    → IfOk r (λ answer. answer ≡ false → IfSome fed (λ bytes. AllByRecursion (λ b. b < 256) bytes → IsSought ceiling bytes → ⊥))
ever_unsought ceiling fed (NoPicture f n) (Ok answer) h none = λ _.
    some_then fed (λ bytes. AllByRecursion (λ b. b < 256) bytes → IsFaultless bytes → ⊥)
    (λ bytes. AllByRecursion (λ b. b < 256) bytes → IsSought ceiling bytes → ⊥) (λ bytes faulty low sought. faulty low sought.0)
    (faulty_without_frame fed f n none)
ever_unsought ceiling fed OutOfMemory (Ok answer) h none = absurd h
ever_unsought ceiling fed fault (Err e) h none = tt

pub dead_when_done : FinalEndsStayUnder Wide → (fed : Option (List ℕ)) (done : Bool) → done ≡ true
    → IfSome fed (λ bytes. IsDoneUnder Wide bytes done)
    → (r : Result Bool AllocError)
    → IfOk r (λ answer. answer ≡ true → IfSome fed (λ bytes. AllByRecursion (λ b. b < 256) bytes → IsFaultless bytes → ⊥))
    → IfOk r (λ dead. dead ≡ true → IfSome fed (λ bytes. IsDead IsFaultless bytes))
dead_when_done stay fed done t h (Ok answer) has_fault = λ yes. dead_if_done stay fed done t h (has_fault yes)
dead_when_done stay fed done t h (Err e) has_fault = tt
