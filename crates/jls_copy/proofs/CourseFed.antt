-- What a reader's place tells is the course of the bytes, and its pieces are those of the course.
use Rattle.std.proofs.Common.{◌≡◌, ℕ, suc, ◌+◌, ◌/◌, ◌%◌, Bool, true, false, List, [], ◌∷◌, ◌++◌, length, refl, sym, ◌∙◌, ap, subst}
use Rattle.std.proofs.Common.{append_assoc, add-zero, length-append}
use Rattle.std.proofs.lemmas.List.{append-nil}
use Rattle.jls_copy.proofs.HeaderFacts.{scans_one}
use Rattle.jls_copy.specs.ScanData.{fill_bytes, ClosedPiece}
use Rattle.jls_copy.specs.Numbers.{PieceNumber, Interval}
use Rattle.jls_marker.specs.HeaderState.{HeaderState}
use Rattle.jls_marker.specs.Scan.{Scan}
use Rattle.jls_marker.proofs.HeaderSteps.{others_count_none}
use Rattle.jls_copy.specs.Pieces.{FoundPiece, piece_begun}
use Rattle.jls_copy.specs.Course.{by_input, by_marker, CopyUnit, segment, scan, segment_unit_bytes, unit_bytes, AreUnits, Ends, for_good}
use Rattle.jls_copy.specs.Course.{with_the_input, in_a_unit, fill_alone, marker_alone, half_a_length, short_payload, IsCourseUnder}
use Rattle.jls_copy.specs.Course.{with_soi}
use Rattle.jls_copy.specs.Course.{with_another_marker, with_no_marker, with_fill_alone}
use Rattle.jls_copy.specs.Pieces.{pieces_in, pieces_from, unit_pieces, scans_in}
use Rattle.jls_copy.specs.CutPieces.{is_cut, closed_by_input, last_piece}
use Rattle.std.specs.Prelude.{if◌then◌else◌}
use Rattle.jls_copy.specs.ReaderState.{reading, found, number_of, end_at, closed_at_end}
use Rattle.jls_copy.specs.Tells.{AlikePieces, Passed, passed_soi, passed_segment, passed_scan, Follows, EndedAt, ended, without_soi}
use Rattle.jls_copy.specs.Tells.{without_ff, Tells}
use Rattle.jls_copy.specs.ReaderLaws.{CourseFed, CourseIs}
use Rattle.jls_marker.specs.declared.fault.MarkerFault.TheVariants as fault
use Rattle.jls_copy.specs.declared.end.End.{End}
use Rattle.jls_copy.specs.declared.end.End.TheVariants.{Input, Header}
use Rattle.jls_copy.specs.declared.place.CopyPosition.{CopyPosition}
use Rattle.jls_copy.specs.declared.place.CopyPosition.TheVariants.{Start, AtMarker, AtLength, InLength, InPayload, InScan, Done}
use Rattle.jls_copy.proofs.TellsMore.{fill_length}
use Rattle.jls_copy.proofs.TellsScan.{alike_more, alike_now}
use Rattle.jls_copy.proofs.ReadingTells.{readings_tell, reading_counts}
use Rattle.jls_marker.specs.declared.profile.Profile.{Profile}

alike_append : (ps qs rs ts : List FoundPiece) → AlikePieces ps qs → AlikePieces rs ts → AlikePieces (ps ++ rs) (qs ++ ts)
alike_append [] [] rs ts h k = k
alike_append [] (y ∷ qs) rs ts h k = absurd h
alike_append (x ∷ ps) [] rs ts h k = absurd h
alike_append (x ∷ ps) (y ∷ qs) rs ts h k = (h.0, alike_append ps qs rs ts h.1 k)

-- the piece that the input's end closes, where these units stand after so many scans, at this offset
abbrev cut_in : ℕ → ℕ → List CopyUnit → List FoundPiece
cut_in index at [] = []
cut_in index at (u ∷ []) = if is_cut u then last_piece (unit_pieces index at u) else []
cut_in index at (u ∷ v ∷ us) = cut_in (index + scans_in u) (at + length (unit_bytes u)) (v ∷ us)

-- a unit that the input's end doesn't close, before others
cut_after : (index at : ℕ) (u : CopyUnit) (us : List CopyUnit) → is_cut u ≡ false
    → cut_in index at (u ∷ us) ≡ cut_in (index + scans_in u) (at + length (unit_bytes u)) us
cut_after index at u [] e = rw e refl
cut_after index at u (v ∷ us) e = refl

pub last_after : (ps : List FoundPiece) (q : FoundPiece) (qs : List FoundPiece) → last_piece (ps ++ q ∷ qs) ≡ last_piece (q ∷ qs)
last_after [] q qs = refl
last_after (p ∷ []) q qs = refl
last_after (p ∷ x ∷ ps) q qs = last_after (x ∷ ps) q qs

-- scan data has a piece
pub some_pieces : (index : ℕ) (s : Scan) (last : ℕ) (number : PieceNumber) (at : ℕ) (closed : List ClosedPiece) (bytes : List ℕ)
    → (q : FoundPiece) × (qs : List FoundPiece) × (pieces_from (piece_begun index s number at) last closed bytes ≡ q ∷ qs)
some_pieces index s last number at [] bytes = (_, [], refl)
some_pieces index s last number at (c ∷ closed) bytes = (_, _, refl)

-- units whose last scan data the input closes have a piece
cut_has_pieces : (index at : ℕ) (us : List CopyUnit) → closed_by_input us ≡ true
    → (q : FoundPiece) × (qs : List FoundPiece) × (pieces_in index at us ≡ q ∷ qs)
cut_has_pieces index at [] e = absurd cc
cut_has_pieces index at (segment fill code payload ∷ []) e = absurd cc
cut_has_pieces index at (scan fill code payload plan closed last closing ∷ us) e =
    let p = some_pieces index plan 0 (Interval 0) (at + length (segment_unit_bytes fill code payload)) closed last in
    let more : List FoundPiece = pieces_in (index + 1) (at + length (unit_bytes (scan fill code payload plan closed last closing))) us in
    (p.0, p.1 ++ more, ap (λ xs. xs ++ more) p.2)
cut_has_pieces index at (segment fill code payload ∷ v ∷ us) e =
    cut_has_pieces (index + 0) (at + length (segment_unit_bytes fill code payload)) (v ∷ us) e

-- it is the last piece of all
cut_is : (index at : ℕ) (us : List CopyUnit) → (if closed_by_input us then last_piece (pieces_in index at us) else []) ≡ cut_in index at us
cut_is index at [] = refl
cut_is index at (u ∷ []) = ap (λ xs. if is_cut u then last_piece xs else []) (append-nil (unit_pieces index at u))
cut_is index at (u ∷ v ∷ us) = by (closed_by_input (v ∷ us)) refl ∙ cut_is (index + scans_in u) (at + length (unit_bytes u)) (v ∷ us)
  where
    by : (b : Bool) → closed_by_input (v ∷ us) ≡ b
        → (if closed_by_input (v ∷ us) then last_piece
        (unit_pieces index at u ++ pieces_in (index + scans_in u) (at + length (unit_bytes u)) (v ∷ us)) else [])
        ≡ (if closed_by_input (v ∷ us) then last_piece (pieces_in (index + scans_in u) (at + length (unit_bytes u)) (v ∷ us)) else [])
    by true e =
        let p = cut_has_pieces (index + scans_in u) (at + length (unit_bytes u)) (v ∷ us) e in
        ap (λ b. if b then last_piece (unit_pieces index at u ++ pieces_in (index + scans_in u) (at + length (unit_bytes u)) (v ∷ us)) else
        []) e
        ∙ (ap (λ xs. last_piece (unit_pieces index at u ++ xs)) p.2 ∙ last_after (unit_pieces index at u) p.0 p.1 ∙ ap last_piece (sym p.2))
        ∙ ap (λ b. if b then last_piece (pieces_in (index + scans_in u) (at + length (unit_bytes u)) (v ∷ us)) else []) (sym e)
    by false e = ap (λ b. if b then last_piece
        (unit_pieces index at u ++ pieces_in (index + scans_in u) (at + length (unit_bytes u)) (v ∷ us)) else []) e
        ∙ ap (λ b. if b then last_piece (pieces_in (index + scans_in u) (at + length (unit_bytes u)) (v ∷ us)) else []) (sym e)

-- whole units, and what follows them, are a course
passed_course : (profile : Profile) (x : List ℕ) (h : HeaderState) (us : List CopyUnit) (ps : List FoundPiece) (following : Bool)
    → Passed profile x h us ps following
    → (rest : List ℕ) (vs : List CopyUnit) (last : HeaderState) (e : End) (qs cut : List FoundPiece) (y : List ℕ) → Follows following rest
    → AreUnits h (length x) rest vs last e
    → AlikePieces qs (pieces_in h.scans (length x) vs) → AlikePieces cut (cut_in h.scans (length x) vs) → y ≡ x ++ rest
    → CourseIs profile y e last (ps ++ qs) cut
passed_course profile _ _ _ _ _ (passed_soi n x w) rest vs last e qs cut y fol from alike alike_cut is =
    let size : length x ≡ n + 2 = ap length w ∙ length-append (fill_bytes n) (255 ∷ 216 ∷ []) ∙ ap (λ k. k + 2) (fill_length n) in
    let bytes : fill_bytes n ++ (255 ∷ 216 ∷ rest) ≡ y = sym (is ∙ rw w (append_assoc (fill_bytes n) (255 ∷ 216 ∷ []) rest)) in (
      record { begin = n + 2; units = vs; headers = last; end = e },
      subst (λ t. IsCourseUnder profile t (record { begin = n + 2; units = vs; headers = last; end = e })) bytes
          (with_soi n rest vs last e (rw size at from)),
      refl,
      refl,
      rw size at alike,
      subst (AlikePieces cut) (sym (cut_is 0 (n + 2) vs)) (rw size at alike_cut),
    )
passed_course profile _ _ _ _ _ (passed_segment x h us ps following p n code payload after z known small fol0 e0 w) rest vs last e qs cut y fol
    from alike alike_cut is =
    let size : length z ≡ length x + length (segment_unit_bytes n code payload) = ap length w
    ∙ length-append x (segment_unit_bytes n code payload) in
    let scans : after.scans ≡ h.scans + 0 = others_count_none h after code payload e0 ∙ sym (add-zero h.scans) in
    passed_course profile x h us ps following p (segment_unit_bytes n code payload ++ rest) (segment n code payload ∷ vs) last e qs cut y
    (λ k. (n, code, _, append_assoc (fill_bytes n) _ rest, fol0 k))
    (after, rest, refl, ((known, small), e0), rw size at from) (rw (size, scans) at alike)
    (subst (AlikePieces cut) (sym (cut_after h.scans (length x) (segment n code payload) vs refl)) (rw (size, scans) at alike_cut))
    (is ∙ rw w (append_assoc x (segment_unit_bytes n code payload) rest))
passed_course profile _ _ _ _ _ (passed_scan x h us ps following p n code payload after z known small fol0 s e0 closed w0 fs each piece alike0
    w) rest vs last e qs cut y fol from alike alike_cut is =
    let unit : CopyUnit = scan n code payload s closed w0 by_marker in
    let size : length z ≡ length x + length (unit_bytes unit) = ap length w ∙ length-append x (unit_bytes unit) in
    let scans : after.scans ≡ h.scans + 1 = scans_one h after code payload s e0 in
    let f = fol refl in
    rw append_assoc (passed_course profile x h us ps following p (unit_bytes unit ++ rest) (unit ∷ vs) last e (fs ++ qs) cut y
    (λ k. (n, code, _, append_assoc (segment_unit_bytes n code payload) _ rest ∙ append_assoc (fill_bytes n) _ _, fol0 k)) (
      after,
      rest,
      refl,
      ((known, small), e0, each, piece, record { fill = f.0; code = f.1; following = f.2; bytes_are = f.3; ends = f.4 }),
      rw size at from,
    )
    (alike_append fs _ qs _ alike0 (rw (size, scans) at alike))
    (subst (AlikePieces cut) (sym (cut_after h.scans (length x) unit vs refl)) (rw (size, scans) at alike_cut))
    (is ∙ rw w (append_assoc x (unit_bytes unit) rest)))

-- what a place tells of the bytes so far gives their course as a whole copy
fed : (profile : Profile) (p : CopyPosition) (h : HeaderState) (payload : List ℕ) (ps : List FoundPiece) (x : List ℕ)
    → Tells profile p h payload ps x
    → CourseIs profile x (end_at p (length x)) h (ps ++ closed_at_end p) (closed_at_end p)
fed profile (Start false) h payload ps x (e, f, g) = rw (e, f, g) (_, with_fill_alone 0, refl, refl, tt, tt)
fed profile (Start true) h payload ps x (n, e, f, g) = rw (e, f, g, fill_length) (_, with_fill_alone (suc n), refl, refl, tt, tt)
fed profile (AtMarker false) h payload ps x (us, p) =
    passed_course profile x h us ps false p [] [] h (Input (length x)) [] [] x (λ k. absurd cc) (refl, with_the_input h (length x)) tt tt
    (sym (append-nil x))
fed profile (AtMarker true) h payload ps x (n, before, us, p, e) =
    rw (e, length-append) (passed_course profile before h us ps false p (fill_bytes (suc n)) [] h
    (Header fault.Ended (length before + length (fill_bytes (suc n)))) [] [] _ (λ k. absurd cc)
    (refl, in_a_unit h (length before) (fill_bytes (suc n)) (fill_alone n)) tt tt refl)
fed profile (AtLength marker code) h payload ps x d =
    let tail : List ℕ = fill_bytes d.fill ++ (255 ∷ code ∷ []) in
    rw (d.whole, length-append d.before tail)
    (passed_course profile d.before h d.units ps d.following d.passed tail [] h (Header fault.Ended (length d.before + length tail)) [] [] _
    (λ k. (d.fill, code, [], refl, d.follows k)) (refl, in_a_unit h (length d.before) tail (marker_alone d.fill code d.known)) tt tt refl)
fed profile (InLength marker code high) h payload ps x (low, d) =
    let tail : List ℕ = fill_bytes d.fill ++ (255 ∷ code ∷ high ∷ []) in
    rw (d.whole, length-append d.before tail)
    (passed_course profile d.before h d.units ps d.following d.passed tail [] h (Header fault.Ended (length d.before + length tail)) [] [] _
    (λ k. (d.fill, code, high ∷ [], refl, d.follows k)) (refl, in_a_unit h (length d.before) tail (half_a_length d.fill code high d.known))
    tt tt refl)
fed profile (InPayload marker code size) h payload ps x (within, small, d) =
    let tail : List ℕ = fill_bytes d.fill ++ (255 ∷ code ∷ size / 256 ∷ size % 256 ∷ payload) in
    rw (d.whole, length-append d.before tail)
    (passed_course profile d.before h d.units ps d.following d.passed tail [] h (Header fault.Ended (length d.before + length tail)) [] [] _
    (λ k. (d.fill, code, size / 256 ∷ size % 256 ∷ payload, refl, d.follows k))
    (refl, in_a_unit h (length d.before) tail (short_payload d.fill code size payload d.known within small)) tt tt refl)
fed profile (InScan o) h payload ps x d =
    let unit : CopyUnit = scan d.fill d.code d.payload o.plan d.closed d.piece (by_input d.held) in
    let all : x ≡ d.before ++ unit_bytes unit = d.whole in
    let size : length x ≡ length d.before + length (unit_bytes unit) = ap length all ∙ length-append d.before (unit_bytes unit) in
    let last : AlikePieces (d.here ++ found o ∷ [])
    (pieces_from (piece_begun d.old.scans o.plan (Interval 0) (length d.before + length (segment_unit_bytes d.fill d.code d.payload))) 0
    d.closed d.piece) =
    subst (AlikePieces (d.here ++ found o ∷ [])) (sym (d.pieces_are d.piece))
    (alike_more d.here d.prefix (found o) _ d.here_alike (alike_now profile o h ps x d 0)) in
    let pieces_is : d.earlier ++ (d.here ++ found o ∷ []) ≡ ps ++ found o ∷ [] =
    rw d.found_are (sym (append_assoc d.earlier d.here (found o ∷ []))) in
    let all_of : List FoundPiece =
    pieces_from (piece_begun d.old.scans o.plan (Interval 0) (length d.before + length (segment_unit_bytes d.fill d.code d.payload))) 0
    d.closed d.piece in
    let here : FoundPiece = record { scan = d.old.scans; plan = o.plan; number = number_of o.piece; offset = o.offset; bytes = d.piece } in
    let cut : AlikePieces (found o ∷ []) (last_piece all_of) =
    subst (AlikePieces (found o ∷ [])) (sym (ap last_piece (d.pieces_are d.piece) ∙ last_after d.prefix here []))
    (alike_now profile o h ps x d 0, tt) in
    subst (λ qs. CourseIs profile x (Input (length x)) h qs (found o ∷ [])) pieces_is
    (passed_course profile d.before d.old d.units d.earlier d.following d.passed (unit_bytes unit) (unit ∷ []) h (Input (length x))
    (d.here ++ found o ∷ []) (found o ∷ []) x
    (λ k. (d.fill, d.code, _, append_assoc (fill_bytes d.fill) _ _, d.follows k)) (
      h,
      [],
      sym (append-nil (unit_bytes unit)),
      ((d.known, d.size), d.plan_is, d.each, d.piece_is, refl),
      (refl, subst (λ k. Ends h (length d.before + length (unit_bytes unit)) [] (Input k)) (sym size) (with_the_input h _)),
    )
    (rw append-nil last) cut all)
fed profile (Done e) h payload ps x d = rw append-nil (by e h ps x d)
  where
    by : (e : End) (h : HeaderState) (ps : List FoundPiece) (x : List ℕ) → EndedAt profile e h ps x → CourseIs profile x e h ps []
    by _ _ _ _ (ended before h us ps following tail x e p w f s) =
        rw append-nil at (passed_course profile before h us ps following p tail [] h e [] [] x f
        (refl, for_good h (length before) tail e s) tt tt w)
    by _ _ _ _ (without_soi n code more x p q w) = rw w (_, with_another_marker n code more p q, refl, refl, tt, tt)
    by _ _ _ _ (without_ff b more x p w) = rw w (_, with_no_marker b more p, refl, refl, tt, tt)

-- where a reader stands after some bytes tells their course
pub course_fed : (profile : Profile) → CourseFed profile
course_fed profile bytes low =
    rw (reading_counts profile bytes) (fed profile (reading profile bytes).state.place (reading profile bytes).state.headers
    (reading profile bytes).state.payload
    (reading profile bytes).pieces bytes (readings_tell profile bytes low))
