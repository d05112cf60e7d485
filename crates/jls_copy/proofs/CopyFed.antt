-- What a reader answers is what the course of the copy gives.
use Rattle.std.proofs.Common.{◌≡◌, ℕ, ◌<◌, List, [], ◌∷◌, ◌++◌, length, take, refl, sym, ◌∙◌, ap}
use Rattle.std.specs.List.{AllByRecursion}
use Rattle.jls_values.specs.OrderedSet as set
use Rattle.jls_marker.specs.Scan.{Scan}
use Rattle.jls_copy.proofs.HeaderFacts.{fault_is_final}
use Rattle.jls_copy.specs.Numbers.{PieceNumber, Interval, BeyondLast}
use Rattle.jls_copy.specs.Pieces.{FoundPiece, PieceOutcome, Lines, Fault, IsOutcome, IsOutcomeAt, readings_of, records_of}
use Rattle.jls_copy.specs.Pieces.{AreOutcomes, readings, records}
use Rattle.jls_copy.specs.Pieces.{pieces}
use Rattle.jls_copy.specs.ReaderState.{reading}
use Rattle.jls_copy.specs.Reader.{all_pieces}
use Rattle.jls_copy.specs.Conclusion.{SaysNone, is_final}
use Rattle.jls_copy.specs.CopyReads.{CopyGivesNoneUnder, IsDoneUnder, is_final_end, no_picture}
use Rattle.std.specs.Prelude.{Bool, true, false}
use Rattle.jls_marker.specs.HeaderState.{HeaderState}
use Rattle.jls_copy.specs.Course.{EndsHere, at_eoi, at_eoi_before_a_frame, at_no_marker, at_unknown_code, at_short_length}
use Rattle.jls_copy.specs.Course.{at_refused_segment}
use Rattle.jls_copy.specs.ReaderState.{end_at}
use Rattle.jls_copy.specs.Tells.{Tells, EndedAt, ended, without_soi, without_ff}
use Rattle.jls_copy.specs.declared.end.End.{End}
use Rattle.jls_copy.specs.declared.place.CopyPosition.{CopyPosition}
use Rattle.jls_copy.specs.declared.place.CopyPosition.TheVariants.{Start, AtMarker, AtLength, InLength, InPayload, InScan, Done}
use Rattle.jls_copy.proofs.ReadingTells.{readings_tell}
use Rattle.jls_copy.specs.declared.reader.CopyFault.{CopyFault}
use Rattle.jls_copy.specs.declared.reader.CopyFault.TheVariants.{NoPicture, OutOfMemory}
use Rattle.jls_copy.specs.Tells.{FedAs, AlikePiece, AlikePieces}
use Rattle.jls_copy.specs.ReaderLaws.{ConclusionFed}
use Rattle.jls_copy.specs.declared.piece.PieceKind.TheVariants as kind
use Rattle.jls_copy.proofs.Alike.{same_outcome, same_head}
use Rattle.jls_copy.specs.CutPieces.{IsHeadAt, IsHeadOfCut, head_readings, cut_pieces}
use Rattle.jls_copy.specs.ReaderState.{closed_at_end}
use Rattle.jls_copy.proofs.CourseFed.{course_fed}
use Rattle.jls_partial.specs.Partial.{without_sources}
use Rattle.jls_marker.specs.declared.profile.Profile.{Profile}

-- what was fed of a piece has the outcome of the piece
outcome_at : (s : Scan) (n : PieceNumber) (x w : List ℕ) (o : PieceOutcome) → FedAs n x w → IsOutcomeAt s n x o → IsOutcomeAt s n w o
outcome_at s (Interval k) x w o t h = same_outcome s k x w o t h
outcome_at s (BeyondLast k) x w (Lines lines) t h = h
outcome_at s (BeyondLast k) x w (Fault kind.Long) t h = h
outcome_at s (BeyondLast k) x w (Fault kind.Broken) t h = h
outcome_at s (BeyondLast k) x w (Fault kind.Beyond) t h = h

pub outcome_alike : (p q : FoundPiece) (o : PieceOutcome) → AlikePiece p q → IsOutcome p o → IsOutcome q o
outcome_alike p q o a h =
    let now : IsOutcomeAt q.plan q.number p.bytes o = rw (a.plan_is, a.number_is) at h in
    outcome_at q.plan q.number p.bytes q.bytes o a.fed_as now

readings_alike : (p q : FoundPiece) (o : PieceOutcome) → AlikePiece p q → readings_of p o ≡ readings_of q o
readings_alike p q o a = rw (a.plan_is, a.number_is) refl

records_alike : (p q : FoundPiece) (o : PieceOutcome) → AlikePiece p q → records_of p o ≡ records_of q o
records_alike p q (Lines lines) a = refl
records_alike p q (Fault f) a = rw (a.scan_is, a.number_is, a.offset_is) refl

-- pieces that are alike have the same outcomes, readings and records
all_alike : (ps qs : List FoundPiece) (os : List PieceOutcome) → AlikePieces ps qs → AreOutcomes ps os
    → AreOutcomes qs os × (readings ps os ≡ readings qs os) × (records ps os ≡ records qs os)
all_alike [] [] os a h = (h, refl, refl)
all_alike [] (q ∷ qs) os a h = absurd a
all_alike (p ∷ ps) [] os a h = absurd a
all_alike (p ∷ ps) (q ∷ qs) [] a h = absurd h
all_alike (p ∷ ps) (q ∷ qs) (o ∷ os) a h =
    let r = all_alike ps qs os a.1 h.1 in (
      (outcome_alike p q o a.0 h.0, r.0),
      ap (λ t. t ++ readings ps os) (readings_alike p q o a.0) ∙ ap (λ t. readings_of q o ++ t) r.1,
      ap (λ t. t ++ records ps os) (records_alike p q o a.0) ∙ ap (λ t. records_of q o ++ t) r.2,
    )

-- heads of pieces that are alike
head_at : (s : Scan) (n : PieceNumber) (x w : List ℕ) (head : List (List ℕ)) → FedAs n x w → IsHeadAt s n x head → IsHeadAt s n w head
head_at s (Interval k) x w head t h = same_head s k x w head t h
head_at s (BeyondLast k) x w head t h = h

-- pieces that are alike have the same head
head_alike : (ps qs : List FoundPiece) (head : List (List ℕ)) → AlikePieces ps qs → IsHeadOfCut ps head → IsHeadOfCut qs head
head_alike [] [] head a h = h
head_alike [] (q ∷ qs) head a h = absurd a
head_alike (p ∷ ps) [] head a h = absurd a
head_alike (p ∷ ps) (q ∷ qs) head a h =
    let now : IsHeadAt q.plan q.number p.bytes head = rw (a.0.plan_is, a.0.number_is) at h in
    head_at q.plan q.number p.bytes q.bytes head a.0.fed_as now

-- pieces that are alike give the same readings of a head
head_readings_alike : (ps qs : List FoundPiece) (head : List (List ℕ)) → AlikePieces ps qs → head_readings ps head ≡ head_readings qs head
head_readings_alike [] [] head a = refl
head_readings_alike [] (q ∷ qs) head a = absurd a
head_readings_alike (p ∷ ps) [] head a = absurd a
head_readings_alike (p ∷ ps) (q ∷ qs) head a = readings_alike p q (Lines head) a.0

-- what a machine at its end holds is what the course of all bytes fed gives
pub conclusion_fed : (profile : Profile) → ConclusionFed profile
conclusion_fed profile bytes low read k =
    let fed = course_fed profile bytes low in
    let all = all_alike (all_pieces (reading profile bytes)) (pieces fed.0) k.outcomes fed.4 k.each in
    record {
      course = fed.0;
      is_course = fed.1;
      shape = k.shape;
      framed = ap (λ h. h.frame) fed.2 ∙ k.framed;
      outcomes = k.outcomes;
      each = all.0;
      head = k.head;
      head_is = head_alike (closed_at_end (reading profile bytes).state.place) (cut_pieces fed.0) k.head fed.5 k.head_is;
      partial_is = k.partial_is
          ∙ ap (λ rs. without_sources k.shape
          (set.insert_all set.empty (rs ++ head_readings (closed_at_end (reading profile bytes).state.place) k.head))) all.1
          ∙ ap (λ rs. without_sources k.shape (set.insert_all set.empty (readings (pieces fed.0) k.outcomes ++ rs)))
          (head_readings_alike (closed_at_end (reading profile bytes).state.place) (cut_pieces fed.0) k.head fed.5);
      pieces_are = k.pieces_are ∙ ap (take 4096) all.2;
      count_is = k.count_is ∙ ap length all.2;
      ended_is = k.ended_is ∙ sym fed.3;
    }

-- a reader that says that the bytes give no picture says what their course does
pub none_fed : (profile : Profile) (bytes : List ℕ) → AllByRecursion (λ b. b < 256) bytes → (f : CopyFault)
    → SaysNone (reading profile bytes) f
    → CopyGivesNoneUnder profile bytes f
none_fed profile bytes low OutOfMemory k = tt
none_fed profile bytes low (NoPicture f offset) k = let fed = course_fed profile bytes low in
    (fed.0, fed.1, ap (λ h. h.frame) fed.2 ∙ k.0, k.1 ∙ ap no_picture (sym fed.3))

-- what ends the units at a marker is a final end
stops_final : (h : HeaderState) (at : ℕ) (x : List ℕ) (e : End) → EndsHere h at x e → is_final_end e ≡ true
stops_final _ _ _ _ (at_eoi h at n more p) = refl
stops_final _ _ _ _ (at_eoi_before_a_frame h at n more p) = refl
stops_final _ _ _ _ (at_no_marker h at b more p) = refl
stops_final _ _ _ _ (at_unknown_code h at n code more p q r) = refl
stops_final _ _ _ _ (at_short_length h at n code a b more p q) = refl
stops_final _ _ _ _ (at_refused_segment h at n code payload more f p r) = fault_is_final h code payload f _ r

-- an end that a place tells is final
ended_final : (profile : Profile) (e : End) (h : HeaderState) (ps : List FoundPiece) (x : List ℕ) → EndedAt profile e h ps x
    → is_final_end e ≡ true
ended_final profile _ _ _ _ (ended before h us ps following tail x e p w f s) = stops_final h (length before) tail e s
ended_final profile _ _ _ _ (without_soi n code more x p q w) = refl
ended_final profile _ _ _ _ (without_ff b more x p w) = refl

-- a place is final exactly where the end that it tells is
place_final : (profile : Profile) (p : CopyPosition) (h : HeaderState) (payload : List ℕ) (ps : List FoundPiece) (x : List ℕ) (count : ℕ)
    → Tells profile p h payload ps x
    → is_final p ≡ is_final_end (end_at p count)
place_final profile (Start fill) h payload ps x count t = refl
place_final profile (AtMarker true) h payload ps x count t = refl
place_final profile (AtMarker false) h payload ps x count t = refl
place_final profile (AtLength marker code) h payload ps x count t = refl
place_final profile (InLength marker code high) h payload ps x count t = refl
place_final profile (InPayload marker code size) h payload ps x count t = refl
place_final profile (InScan scan) h payload ps x count t = refl
place_final profile (Done e) h payload ps x count t = sym (ended_final profile e h ps x t)

-- whether a reader is done is what the course of the bytes so far says
pub done_fed : (profile : Profile) (bytes : List ℕ) → AllByRecursion (λ b. b < 256) bytes → (p : CopyPosition)
    → p ≡ (reading profile bytes).state.place → (done : Bool)
    → done ≡ is_final p → IsDoneUnder profile bytes done
done_fed profile bytes low p e done d =
    let fed = course_fed profile bytes low in
    let r = reading profile bytes in (
      fed.0,
      fed.1,
      d ∙ ap is_final e
          ∙ place_final profile r.state.place r.state.headers r.state.payload r.pieces bytes r.state.count (readings_tell profile bytes low)
          ∙ ap is_final_end (sym fed.3),
    )
