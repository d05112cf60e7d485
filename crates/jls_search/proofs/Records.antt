-- What the records of faulty pieces tell of the pieces that begin between two offsets.
use Rattle.std.proofs.Common.{◌≡◌, ℕ, zero, suc, ◌<◌, ◌≤◌, List, [], ◌∷◌, length, take, Option, Some, None, sym, ap, ◌∙◌, subst, arith, inl}
use Rattle.std.proofs.Common.{inr}
use Rattle.std.specs.List.{AllByRecursion, Contains}
use Rattle.std.proofs.lemmas.List.{take_all}
use Rattle.jls_copy.specs.Pieces.{FoundPiece, pieces}
use Rattle.jls_copy.specs.ReadCopy.{ReadCopy}
use Rattle.jls_copy.specs.Course.{Course}
use Rattle.jls_copy.specs.CopyReads.{CopyReadsUnder, CopyGivesNoneUnder}
use Rattle.jls_copy.specs.declared.reader.CopyFault.{CopyFault}
use Rattle.jls_copy.specs.declared.reader.CopyFault.TheVariants.{NoPicture}
use Rattle.std.specs.Prelude.{IfSome}
use Rattle.jls_marker.specs.declared.fault.MarkerFault.{MarkerFault}
use Rattle.jls_copy.proofs.OneCourse.{one_course}
use Rattle.jls_copy.proofs.ScansOfCourse.{HasScan, course_has}
use Rattle.jls_copy.specs.TellingLaws.{AreRecordsOf, IsRecordOf, of_none, reads, faulty, RecordsAreOfFaultyPiecesUnder}
use Rattle.jls_copy.specs.declared.piece.PieceRecord.{PieceRecord}
use Rattle.jls_copy.specs.Prefixes.{HasLines}
use Rattle.jls_marker.specs.declared.profile.Profile.TheVariants.{Wide}
use Rattle.jls_search.specs.OfGroups.{HasManyFaults}
use Rattle.jls_search.specs.ReadsBetween.{IsOffsetBetween, Reaches, ReadsBetween}
use Rattle.jls_search.proofs.FaultlessFiles.{lines_or_fault}
use Rattle.jls_values.proofs.Lists.{in_rest, is_first, all_at}
use Rattle.jls_search.proofs.Paths.{order}

-- none of the records is of a piece that begins there
abbrev pub NoneBetween : ℕ → Option ℕ → List PieceRecord → Type 0
NoneBetween from to rs = AllByRecursion (λ r. IsOffsetBetween from to r.offset → ⊥) rs

lines_between : (from : ℕ) (to : Option ℕ) (ps : List FoundPiece) (rs : List PieceRecord) → AreRecordsOf ps rs → NoneBetween from to rs
    → AllByRecursion (λ p. IsOffsetBetween from to p.offset → HasLines p) ps
lines_between from to _ _ of_none h = tt
lines_between from to _ _ (reads p ps rs lines is rest) h = ((λ _. (lines, is)), lines_between from to ps rs rest h)
lines_between from to _ _ (faulty p ps r rs is rest) h =
    ((λ b. absurd (h.0 (subst (IsOffsetBetween from to) (sym is.offset) b))), lines_between from to ps rs rest h.1)

take_at_most : (n : ℕ) (rs : List PieceRecord) → length (take n rs) ≤ n
take_at_most zero rs = omega arith
take_at_most (suc n) [] = omega arith
take_at_most (suc n) (r ∷ rs) = let l = take_at_most n rs in omega (arith, l)

all_reported : (n : ℕ) (rs reported : List PieceRecord) → reported ≡ take n rs → length rs ≡ length reported → reported ≡ rs
all_reported n rs reported e l = e ∙ take_all n rs (let t = take_at_most n rs in let a = ap length e in omega (arith, t, a, l))

module _ (law : RecordsAreOfFaultyPiecesUnder Wide) (from : ℕ) (to : Option ℕ) (file : List ℕ) (read : ReadCopy)
    (h : CopyReadsUnder Wide file read) where
  pub read_between : read.piece_count ≡ length read.pieces → NoneBetween from to read.pieces → Reaches from to read.ended
      → ReadsBetween from to file
  read_between count none reaches =
      let r = law file read h in
      let e : read.pieces ≡ r.0 = all_reported 4096 r.0 read.pieces r.2 (sym r.3 ∙ count) in
      record {
        course = h.course;
        is_course = h.is_course;
        shape = h.shape;
        framed = h.framed;
        reaches = subst (Reaches from to) h.ended_is reaches;
        each = lines_between from to (pieces h.course) r.0 r.1 (subst (NoneBetween from to) e none);
      }

-- And what they tell of files that don't read there ----------------------------------------------------------------

in_more : {X : Type 0} (n : ℕ) (xs : List X) (x : X) → Contains (take n xs) x → Contains xs x
in_more zero xs x (k, l, e) = absurd (omega (arith, l))
in_more (suc n) [] x (k, l, e) = absurd (omega (arith, l))
in_more (suc n) (y ∷ xs) x (zero, l, e) = (0, omega arith, e)
in_more (suc n) (y ∷ xs) x (suc k, l, e) = let r = in_more n xs x (k, omega (arith, l), e) in (suc r.0, omega (arith, r.1), r.2)

-- a piece of each record
piece_of : (ps : List FoundPiece) (rs : List PieceRecord) (r : PieceRecord) → AreRecordsOf ps rs → Contains rs r
    → (p : FoundPiece) × Contains ps p × IsRecordOf p r
piece_of _ _ r of_none (k, l, e) = absurd (omega (arith, l))
piece_of _ _ r (reads p ps rs lines is rest) among = let q = piece_of ps rs r rest among in (q.0, in_rest q.0 p ps q.1, q.2)
piece_of _ _ r (faulty p ps r' rs is rest) (zero, l, e) = (p, is_first p ps, subst (IsRecordOf p) e is)
piece_of _ _ r (faulty p ps r' rs is rest) (suc k, l, e) =
    let q = piece_of ps rs r rest (k, omega (arith, l), e) in (q.0, in_rest q.0 p ps q.1, q.2)

-- a file has many faults, of which not all are reported
pub many_faults : RecordsAreOfFaultyPiecesUnder Wide → (file : List ℕ) (read : ReadCopy) → CopyReadsUnder Wide file read
    → (read.piece_count ≡ length read.pieces → ⊥)
    → HasManyFaults file
many_faults law file read h not =
    let r = law file read h in
    elim (order 4096 (length r.0)) [
      | inl more ↦ (h.course, h.is_course, r.0, r.1, more)
      | inr few ↦ absurd (
          let least : length r.0 ≤ 4096 = elim few [ inl e ↦ omega (arith, e) | inr l ↦ omega (arith, l) ] in
          not (r.3 ∙ ap length (sym (r.2 ∙ take_all 4096 r.0 least)))
          )
    ]

module _ (law : RecordsAreOfFaultyPiecesUnder Wide) (from : ℕ) (to : Option ℕ) (file : List ℕ) (read : ReadCopy)
    (h : CopyReadsUnder Wide file read) (low : AllByRecursion (λ b. b < 256) file) (between : ReadsBetween from to file) where
  one : between.course ≡ h.course
  one = one_course file between.course h.course between.is_course h.is_course

  pub no_record : (reported : PieceRecord) → Contains read.pieces reported → IsOffsetBetween from to reported.offset → ⊥
  no_record reported among here =
      let r = law file read h in
      let p = piece_of (pieces h.course) r.0 reported r.1 (in_more 4096 r.0 reported (subst (λ rs. Contains rs reported) r.2 among)) in
      let each : AllByRecursion (λ q. IsOffsetBetween from to q.offset → HasLines q) (pieces h.course) =
      subst (λ (c : Course). AllByRecursion (λ q. IsOffsetBetween from to q.offset → HasLines q) (pieces c)) one between.each in
      let lines = all_at (λ q. IsOffsetBetween from to q.offset → HasLines q) (pieces h.course) p.0 each p.1
      (subst (IsOffsetBetween from to) p.2.offset here) in
      let scan = all_at HasScan (pieces h.course) p.0 (course_has file h.course low h.is_course) p.1 in
      lines_or_fault p.0 lines.0 reported.kind scan lines.1 p.2.kind

  pub does_reach : Reaches from to read.ended
  does_reach = subst (Reaches from to) (sym h.ended_is) (subst (λ (c : Course). Reaches from to c.end) one between.reaches)

-- a file that has no frame reads nowhere
pub framed_between : (from : ℕ) (to : Option ℕ) (file : List ℕ) (f : MarkerFault) (n : ℕ) → CopyGivesNoneUnder Wide file (NoPicture f n)
    → ReadsBetween from to file → ⊥
framed_between from to file f n h between =
    let e : h.0 ≡ between.course = one_course file h.0 between.course h.1 between.is_course in
    let framed : h.0.headers.frame ≡ Some between.shape = ap (λ (c : Course). c.headers.frame) e ∙ between.framed in
    let none = h.2 in absurd cc

pub unread_without_frame : (from : ℕ) (to : Option ℕ) (fed : Option (List ℕ)) (fault : CopyFault) (f : MarkerFault) (n : ℕ) → fault
    ≡ NoPicture f n
    → IfSome fed (λ bytes. CopyGivesNoneUnder Wide bytes fault)
    → IfSome fed (λ file. AllByRecursion (λ b. b < 256) file → ReadsBetween from to file → ⊥)
unread_without_frame from to None fault f n e h = tt
unread_without_frame from to (Some file) fault f n e h =
    λ low between. framed_between from to file f n (subst (CopyGivesNoneUnder Wide file) e h) between
