-- A course that has a piece has a frame, and ends no earlier than the piece begins.
use Rattle.std.proofs.Common.{◌≡◌, ℕ, ◌+◌, ◌≤◌, List, [], ◌∷◌, ◌++◌, length, Some, None, sym, ap, ◌∙◌, subst, arith, inl, inr}
use Rattle.std.proofs.Common.{length-append}
use Rattle.std.specs.List.{Contains, flat_map}
use Rattle.jls_values.specs.Shape.{PictureShape}
use Rattle.jls_values.proofs.Lists.{is_first, in_rest, none_in, first_or_rest, all_at}
use Rattle.jls_marker.specs.HeaderState.{HeaderState, no_headers_under}
use Rattle.jls_marker.specs.Scan.{Scan, intervals}
use Rattle.jls_marker.proofs.HeaderSteps.{frame_stays}
use Rattle.jls_copy.specs.ScanData.{ClosedPiece, closed_bytes}
use Rattle.jls_copy.specs.Numbers.{PieceNumber, Interval, number_after, given_last}
use Rattle.jls_copy.specs.Pieces.{FoundPiece, pieces_from, pieces_in, pieces, piece_begun}
use Rattle.jls_copy.specs.Course.{CopyUnit, segment, scan, segment_unit_bytes, scan_data_bytes, dropped_bytes, unit_bytes, AreUnits}
use Rattle.jls_copy.specs.Course.{Course, IsCourseUnder}
use Rattle.jls_copy.specs.Course.{with_soi, with_another_marker, with_no_marker, with_fill_alone, EndsHere, at_eoi, at_eoi_before_a_frame}
use Rattle.jls_copy.specs.Course.{at_no_marker, at_unknown_code, at_short_length, at_refused_segment, Ends, for_good, with_the_input}
use Rattle.jls_copy.specs.Course.{in_a_unit}
use Rattle.jls_copy.specs.Prefixes.{offset_of_end}
use Rattle.jls_copy.specs.declared.end.End.{End}
use Rattle.jls_copy.proofs.HeaderFacts.{scan_is_of_frame}
use Rattle.jls_copy.proofs.TellingLaws.{pieces_stand_at_their_offsets}
use Rattle.jls_copy.specs.TellingLaws.{StandsAt}
use Rattle.jls_marker.specs.declared.profile.Profile.{Profile}

-- one of the first pieces, or of the others
pub either : (X : Type 0) (xs ys : List FoundPiece) (q : FoundPiece) → Contains (xs ++ ys) q → (Contains xs q → X) → (Contains ys q → X) → X
either X [] ys q m f g = g m
either X (x ∷ xs) ys q m f g =
    elim (first_or_rest q x (xs ++ ys) m) [
      | inl e ↦ f (subst (λ z. Contains (z ∷ xs) q) (sym e) (is_first q xs))
      | inr later ↦ either X xs ys q later (λ n. f (in_rest q x xs n)) g
    ]

-- Ends -------------------------------------------------------------------------------------------------------------

-- what ends the units stands where they end, or after it
stops_after : (h : HeaderState) (at : ℕ) (bytes : List ℕ) (e : End) → EndsHere h at bytes e → at ≤ offset_of_end e
stops_after _ _ _ _ (at_eoi h at n more p) = omega arith
stops_after _ _ _ _ (at_eoi_before_a_frame h at n more p) = omega arith
stops_after _ _ _ _ (at_no_marker h at x more p) = omega arith
stops_after _ _ _ _ (at_unknown_code h at n code more p q r) = omega arith
stops_after _ _ _ _ (at_short_length h at n code high low more p q) = omega arith
stops_after _ _ _ _ (at_refused_segment h at n code payload more f p r) = omega arith

ends_here : (h : HeaderState) (at : ℕ) (bytes : List ℕ) (e : End) → Ends h at bytes e → at ≤ offset_of_end e
ends_here _ _ _ _ (for_good h at bytes e s) = stops_after h at bytes e s
ends_here _ _ _ _ (with_the_input h at) = omega arith
ends_here _ _ _ _ (in_a_unit h at bytes p) = omega arith

-- some units end before the end of the copy, or there
units_end : (h : HeaderState) (at : ℕ) (bytes : List ℕ) (us : List CopyUnit) (final : HeaderState) (e : End)
    → AreUnits h at bytes us final e
    → at ≤ offset_of_end e
units_end h at bytes [] final e u = ends_here h at bytes e u.1
units_end h at bytes (u ∷ us) final e (after, rest, whole, unit, more) =
    let l = units_end after (at + length (unit_bytes u)) rest us final e more in omega (arith, l)

-- no piece of scan data begins after the last one, which is behind all closed ones
pieces_within : (index : ℕ) (s : Scan) (last : ℕ) (number : PieceNumber) (at : ℕ) (closed : List ClosedPiece) (bytes : List ℕ)
    (q : FoundPiece)
    → Contains (pieces_from (piece_begun index s number at) last closed bytes) q → q.offset ≤ at + length (flat_map closed_bytes closed)
pieces_within index s last number at [] bytes q m =
    elim (first_or_rest q _ [] m) [
      | inl e ↦ (let o = ap (λ (p : FoundPiece). p.offset) e in omega (arith, o))
      | inr later ↦ absurd (none_in q later)
    ]
pieces_within index s last number at (c ∷ closed) bytes q m =
    let next = number_after (intervals s) last c.mark in
    let size = length-append (closed_bytes c) (flat_map closed_bytes closed) in
    elim (first_or_rest q _ _ m) [
      | inl e ↦ (let o = ap (λ (p : FoundPiece). p.offset) e in omega (arith, o))
      | inr later ↦ (let l = pieces_within index s (given_last last next) next (at + length
          (closed_bytes c)) closed bytes q later in omega (arith, l, size))
    ]

-- each piece of some units begins before the end of the copy, or there
units_before_end : (h : HeaderState) (at : ℕ) (bytes : List ℕ) (us : List CopyUnit) (final : HeaderState) (e : End) (index : ℕ)
    (q : FoundPiece)
    → AreUnits h at bytes us final e → Contains (pieces_in index at us) q → q.offset ≤ offset_of_end e
units_before_end h at bytes [] final e index q u m = absurd (none_in q m)
units_before_end h at bytes (segment fill code payload ∷ us) final e index q (after, rest, whole, unit, more) m =
    units_before_end after (at + length (segment_unit_bytes fill code payload)) rest us final e (index + 0) q more m
units_before_end h at bytes (scan fill code payload plan closed last closing ∷ us) final e index q (after, rest, whole, unit, more) m =
    let head = segment_unit_bytes fill code payload in
    let cut = flat_map closed_bytes closed in
    let size = length-append head (scan_data_bytes closed last closing) in
    let in_data = length-append cut (last ++ dropped_bytes closing) in
    let ended = units_end after (at + length (unit_bytes (scan fill code payload plan closed last closing))) rest us final e more in
    either (q.offset ≤ offset_of_end e) (pieces_from (piece_begun index plan (Interval 0) (at + length head)) 0 closed last) _ q m
    (λ here. let l = pieces_within index plan 0 (Interval 0) (at + length head) closed last q here in omega
    (arith, l, size, in_data, ended))
    (λ later. units_before_end after (at + length (unit_bytes (scan fill code payload plan closed last closing))) rest us final e
    (index + 1) q more later)

-- each piece of a course begins before its end, or there
before_end : (profile : Profile) (copy : List ℕ) (c : Course) → IsCourseUnder profile copy c → (q : FoundPiece) → Contains (pieces c) q
    → q.offset ≤ offset_of_end c.end
before_end profile _ _ (with_soi n bytes units final e h) q m =
    units_before_end (no_headers_under profile) (n + 2) bytes units final e 0 q h m
before_end profile _ _ (with_another_marker n code bytes p r) q m = absurd (none_in q m)
before_end profile _ _ (with_no_marker b bytes p) q m = absurd (none_in q m)
before_end profile _ _ (with_fill_alone n) q m = absurd (none_in q m)

-- a piece begins within the copy, and no later than the copy ends
pub ends_after : (profile : Profile) (copy : List ℕ) (c : Course) → IsCourseUnder profile copy c → (q : FoundPiece) → Contains (pieces c) q
    → (q.offset ≤ length copy) × (q.offset ≤ offset_of_end c.end)
ends_after profile copy c is q m =
    let s = all_at (λ p. StandsAt copy p.offset p.bytes) (pieces c) q (pieces_stand_at_their_offsets profile copy c is) m in
    let size = ap length s.copy_is ∙ length-append s.prefix (q.bytes ++ s.back) in
    let at = s.offset_is in
    (omega (arith, size, at), before_end profile copy c is q m)

-- Frames -----------------------------------------------------------------------------------------------------------

-- a frame stays through the units after it
units_keep : (h : HeaderState) (at : ℕ) (bytes : List ℕ) (us : List CopyUnit) (final : HeaderState) (e : End) (shape : PictureShape)
    → AreUnits h at bytes us final e → h.frame ≡ Some shape → final.frame ≡ Some shape
units_keep h at bytes [] final e shape u f = ap (λ (x : HeaderState). x.frame) u.0 ∙ f
units_keep h at bytes (segment fill code payload ∷ us) final e shape (after, rest, whole, unit, more) f =
    units_keep after (at + length (segment_unit_bytes fill code payload)) rest us final e shape more
    (frame_stays h after code payload None shape unit.1 f)
units_keep h at bytes (scan fill code payload plan closed last closing ∷ us) final e shape (after, rest, whole, unit, more) f =
    units_keep after (at + length (unit_bytes (scan fill code payload plan closed last closing))) rest us final e shape more
    (frame_stays h after code payload (Some plan) shape unit.1 f)

-- units with a piece leave a frame
framed_units : (h : HeaderState) (at : ℕ) (bytes : List ℕ) (us : List CopyUnit) (final : HeaderState) (e : End) (index : ℕ) (q : FoundPiece)
    → AreUnits h at bytes us final e → Contains (pieces_in index at us) q → (shape : PictureShape) × (final.frame ≡ Some shape)
framed_units h at bytes [] final e index q u m = absurd (none_in q m)
framed_units h at bytes (segment fill code payload ∷ us) final e index q (after, rest, whole, unit, more) m =
    framed_units after (at + length (segment_unit_bytes fill code payload)) rest us final e (index + 0) q more m
framed_units h at bytes (scan fill code payload plan closed last closing ∷ us) final e index q (after, rest, whole, unit, more) m =
    let f = scan_is_of_frame h after code payload plan unit.1 in
    (f.0, units_keep after (at + length (unit_bytes (scan fill code payload plan closed last closing))) rest us final e f.0 more f.1)

-- a course with a piece has a frame
pub framed_by_piece : (profile : Profile) (copy : List ℕ) (c : Course) → IsCourseUnder profile copy c → (q : FoundPiece)
    → Contains (pieces c) q
    → (shape : PictureShape) × (c.headers.frame ≡ Some shape)
framed_by_piece profile _ _ (with_soi n bytes units final e h) q m =
    framed_units (no_headers_under profile) (n + 2) bytes units final e 0 q h m
framed_by_piece profile _ _ (with_another_marker n code bytes p r) q m = absurd (none_in q m)
framed_by_piece profile _ _ (with_no_marker b bytes p) q m = absurd (none_in q m)
framed_by_piece profile _ _ (with_fill_alone n) q m = absurd (none_in q m)
