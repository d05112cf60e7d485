-- What stands at the offsets that are reported of a copy, and which pieces have records.
use Rattle.std.proofs.Common.{◌≡◌, ℕ, ◌+◌, ◌/◌, ◌%◌, List, [], ◌∷◌, ◌++◌, length, refl, sym, ap, ◌∙◌, subst, append_assoc, arith}
use Rattle.std.proofs.Common.{length-append}
use Rattle.std.proofs.lemmas.List.{length-replicate}
use Rattle.std.specs.List.{flat_map, AllByRecursion}
use Rattle.jls_marker.specs.HeaderState.{HeaderState, no_headers_under}
use Rattle.jls_marker.specs.Scan.{Scan, intervals}
use Rattle.jls_marker.specs.declared.fault.MarkerFault.TheVariants as fault
use Rattle.jls_copy.specs.ScanData.{fill_bytes, ClosedPiece, closed_bytes}
use Rattle.jls_copy.specs.Numbers.{PieceNumber, Interval, number_after, given_last}
use Rattle.jls_copy.specs.Pieces.{FoundPiece, pieces_from, pieces_in, pieces, PieceOutcome, Lines, Fault, AreOutcomes, value_of, records}
use Rattle.jls_copy.specs.Pieces.{piece_begun}
use Rattle.jls_copy.specs.Course.{CopyUnit, segment, scan, segment_unit_bytes, scan_data_bytes, unit_bytes, dropped_bytes, EndsHere, at_eoi}
use Rattle.jls_copy.specs.Course.{at_eoi_before_a_frame, at_no_marker, at_unknown_code, at_short_length, at_refused_segment, Ends, for_good}
use Rattle.jls_copy.specs.Course.{with_the_input, in_a_unit, AreUnits, with_soi, with_another_marker, with_no_marker, with_fill_alone}
use Rattle.jls_copy.specs.TellingLaws.{StandsAt, PiecesStandAtTheirOffsetsUnder, EndStands, eoi, input, eoi_before_a_frame, refused_segment}
use Rattle.jls_copy.specs.TellingLaws.{unknown_marker, no_marker, another_marker, no_marker_first, too_early, EndsStandAtTheirOffsetsUnder}
use Rattle.jls_copy.specs.TellingLaws.{AreRecordsOf, of_none, reads, faulty, RecordsAreOfFaultyPiecesUnder}
use Rattle.jls_copy.specs.declared.end.End.{End}
use Rattle.jls_copy.proofs.SegmentFaults.{segment_fault}
use Rattle.jls_marker.specs.declared.profile.Profile.{Profile}

-- the piece stands at its offset
abbrev Stands : List ℕ → FoundPiece → Type 0
Stands copy p = StandsAt copy p.offset p.bytes

-- pieces in two lists stand in the copy if those of each do
both_stand : (copy : List ℕ) (ps qs : List FoundPiece) → AllByRecursion (Stands copy) ps → AllByRecursion (Stands copy) qs
    → AllByRecursion (Stands copy) (ps ++ qs)
both_stand copy [] qs h k = k
both_stand copy (p ∷ ps) qs h k = (h.0, both_stand copy ps qs h.1 k)

-- a copy in which these bytes stand after a prefix of this length
record After (copy prefix bytes : List ℕ) (at : ℕ) : Type 0 where
  copy_is : copy ≡ prefix ++ bytes
  at_is : at ≡ length prefix

-- after some bytes more, what follows stands that much further
following : (copy prefix xs ys : List ℕ) (at : ℕ) → After copy prefix (xs ++ ys) at → After copy (prefix ++ xs) ys (at + length xs)
following copy prefix xs ys at b = record {
  copy_is = b.copy_is ∙ sym (append_assoc prefix xs ys);
  at_is = let e = length-append prefix xs in let l = b.at_is in omega (arith, e, l);
}

others : (copy prefix xs ys : List ℕ) (at : ℕ) → xs ≡ ys → After copy prefix xs at → After copy prefix ys at
others copy prefix xs ys at e b = record { copy_is = b.copy_is ∙ ap (λ z. prefix ++ z) e; at_is = b.at_is }

stands : (copy prefix bytes back : List ℕ) (at : ℕ) → After copy prefix (bytes ++ back) at → StandsAt copy at bytes
stands copy prefix bytes back at b = record { prefix = prefix; back = back; copy_is = b.copy_is; offset_is = b.at_is }

-- Pieces -----------------------------------------------------------------------------------------------------------

-- each piece of scan data stands in the copy at its offset
pieces_stand : (copy prefix : List ℕ) (index : ℕ) (s : Scan) (last : ℕ) (number : PieceNumber) (at : ℕ) (closed : List ClosedPiece)
    → (bytes rest : List ℕ)
    → After copy prefix (flat_map closed_bytes closed ++ (bytes ++ rest)) at
    → AllByRecursion (Stands copy) (pieces_from (piece_begun index s number at) last closed bytes)
pieces_stand copy prefix index s last number at [] bytes rest b = (stands copy prefix bytes rest at b, tt)
pieces_stand copy prefix index s last number at (c ∷ closed) bytes rest b =
    let next = number_after (intervals s) last c.mark in
    let more : List ℕ = flat_map closed_bytes closed ++ (bytes ++ rest) in
    let whole = others copy prefix _ (closed_bytes c ++ more) at
    (append_assoc (closed_bytes c) (flat_map closed_bytes closed) (bytes ++ rest)) b in
    let first = others copy prefix _ (c.piece ++ ((fill_bytes c.fill ++ (0xFF ∷ (0xD0 + c.mark) ∷ [])) ++ more)) at
    (append_assoc c.piece (fill_bytes c.fill ++ (0xFF ∷ (0xD0 + c.mark) ∷ [])) more) whole in (
      stands copy prefix c.piece _ at first,
      pieces_stand copy (prefix ++ closed_bytes c) index s (given_last last next) next (at + length (closed_bytes c)) closed bytes rest
          (following copy prefix (closed_bytes c) more at whole),
    )

regrouped : (head closed last dropped rest : List ℕ) → (head ++ (closed ++ (last ++ dropped))) ++ rest ≡ head
    ++ (closed ++ (last ++ (dropped ++ rest)))
regrouped head closed last dropped rest = simp append_assoc refl

-- each piece of some units stands in the copy at its offset
units_stand : (copy prefix : List ℕ) (h : HeaderState) (at : ℕ) (bytes : List ℕ) (us : List CopyUnit) (final : HeaderState) (e : End)
    (index : ℕ)
    → After copy prefix bytes at
    → AreUnits h at bytes us final e → AllByRecursion (Stands copy) (pieces_in index at us)
units_stand copy prefix h at bytes [] final e index b u = tt
units_stand copy prefix h at bytes (segment fill code payload ∷ us) final e index b (after, rest, whole, unit, more) =
    let parted = others copy prefix bytes (segment_unit_bytes fill code payload ++ rest) at whole b in
    units_stand copy (prefix ++ segment_unit_bytes fill code payload) after (at + length (segment_unit_bytes fill code payload)) rest us
    final e (index + 0)
    (following copy prefix (segment_unit_bytes fill code payload) rest at parted) more
units_stand copy prefix h at bytes (scan fill code payload plan closed last closing ∷ us) final e index b (after, rest, whole, unit, more) =
    let head = segment_unit_bytes fill code payload in let data_at = at + length head in
    let unit_is : List ℕ = head ++ scan_data_bytes closed last closing in
    let after_pieces : List ℕ = dropped_bytes closing ++ rest in
    let parted = others copy prefix bytes (unit_is ++ rest) at whole b in
    let in_data = others copy prefix _ (head ++ (flat_map closed_bytes closed ++ (last ++ after_pieces))) at
    (regrouped head (flat_map closed_bytes closed) last (dropped_bytes closing) rest) parted in
    let pieces_there = pieces_stand copy (prefix ++ head) index plan 0 (Interval 0) data_at closed last after_pieces
    (following copy prefix head _ at in_data) in
    let units_there = units_stand copy (prefix ++ unit_is) after (at + length unit_is) rest us final e (index + 1)
    (following copy prefix unit_is rest at parted) more in
    both_stand copy (pieces_from (piece_begun index plan (Interval 0) data_at) 0 closed last) _ pieces_there units_there

-- SOI stands before the units
soi : (n : ℕ) (bytes : List ℕ) → After (fill_bytes n ++ (0xFF ∷ 0xD8 ∷ bytes)) (fill_bytes n ++ (0xFF ∷ 0xD8 ∷ [])) bytes (n + 2)
soi n bytes = record {
  copy_is = sym (append_assoc (fill_bytes n) (0xFF ∷ 0xD8 ∷ []) bytes);
  at_is = let e = length-append (fill_bytes n) (0xFF ∷ 0xD8 ∷ []) in let l = length-replicate {A = ℕ} n 0xFF in omega (arith, e, l);
}

-- the law: each piece of a course stands in the copy at its offset
pub pieces_stand_at_their_offsets : (profile : Profile) → PiecesStandAtTheirOffsetsUnder profile
pieces_stand_at_their_offsets profile _ _ (with_soi n bytes units final e h) =
    units_stand _ (fill_bytes n ++ (0xFF ∷ 0xD8 ∷ [])) (no_headers_under profile) (n + 2) bytes units final e 0 (soi n bytes) h
pieces_stand_at_their_offsets profile _ _ (with_another_marker n code bytes p q) = tt
pieces_stand_at_their_offsets profile _ _ (with_no_marker b bytes p) = tt
pieces_stand_at_their_offsets profile _ _ (with_fill_alone n) = tt

-- Ends -------------------------------------------------------------------------------------------------------------

-- after fill bytes
filled : (copy prefix : List ℕ) (n : ℕ) (bytes : List ℕ) (at : ℕ) → After copy prefix (fill_bytes n ++ bytes) at
    → After copy (prefix ++ fill_bytes n) bytes (at + n)
filled copy prefix n bytes at b = record {
  copy_is = b.copy_is ∙ sym (append_assoc prefix (fill_bytes n) bytes);
  at_is = let e = length-append prefix (fill_bytes n) in let l = length-replicate {A = ℕ} n 0xFF in let k = b.at_is in
      omega (arith, e, l, k);
}

whole_after : (copy prefix bytes : List ℕ) (at : ℕ) → After copy prefix bytes at → at + length bytes ≡ length copy
whole_after copy prefix bytes at b =
    let e = ap length b.copy_is in let l = length-append prefix bytes in let k = b.at_is in omega (arith, e, l, k)

marker_stands : (copy prefix : List ℕ) (n code : ℕ) (more : List ℕ) (at : ℕ) → After copy prefix (fill_bytes n ++ (0xFF ∷ code ∷ more)) at
    → StandsAt copy (at + n) (0xFF ∷ code ∷ [])
marker_stands copy prefix n code more at b =
    stands copy (prefix ++ fill_bytes n) (0xFF ∷ code ∷ []) more (at + n) (filled copy prefix n (0xFF ∷ code ∷ more) at b)

-- what ends the units stands at the offset that the end has
stop_stands : (copy prefix : List ℕ) (h : HeaderState) (at : ℕ) (bytes : List ℕ) (e : End) → After copy prefix bytes at
    → EndsHere h at bytes e
    → EndStands copy e
stop_stands copy prefix _ _ _ _ b (at_eoi h at n more p) = eoi (at + n) (marker_stands copy prefix n 0xD9 more at b)
stop_stands copy prefix _ _ _ _ b (at_eoi_before_a_frame h at n more p) =
    eoi_before_a_frame (at + n) (marker_stands copy prefix n 0xD9 more at b)
stop_stands copy prefix _ _ _ _ b (at_no_marker h at x more p) = no_marker at x p (stands copy prefix (x ∷ []) more at b)
stop_stands copy prefix _ _ _ _ b (at_unknown_code h at n code more p q r) =
    unknown_marker (at + n) code p q r (marker_stands copy prefix n code more at b)
stop_stands copy prefix _ _ _ _ b (at_short_length h at n code high low more p q) =
    refused_segment fault.Length (at + n) code refl p (marker_stands copy prefix n code (high ∷ low ∷ more) at b)
stop_stands copy prefix _ _ _ _ b (at_refused_segment h at n code payload more f p r) =
    let size : ℕ = length payload + 2 in
    let whole = others copy prefix _ (fill_bytes n ++ (0xFF ∷ code ∷ (size / 256 ∷ size % 256 ∷ payload) ++ more)) at
    (append_assoc (fill_bytes n) (0xFF ∷ code ∷ size / 256 ∷ size % 256 ∷ payload) more) b in
    refused_segment f (at + n) code (segment_fault h code payload f p.0 r) p.0
    (marker_stands copy prefix n code ((size / 256 ∷ size % 256 ∷ payload) ++ more) at whole)

-- what an end says stands at its offset, at a marker or at the input's end
ends_stand : (copy prefix : List ℕ) (h : HeaderState) (at : ℕ) (bytes : List ℕ) (e : End) → After copy prefix bytes at → Ends h at bytes e
    → EndStands copy e
ends_stand copy prefix _ _ _ _ b (for_good h at bytes e s) = stop_stands copy prefix h at bytes e b s
ends_stand copy prefix _ _ _ _ b (with_the_input h at) = input at (let e = whole_after copy prefix [] at b in omega (arith, e))
ends_stand copy prefix _ _ _ _ b (in_a_unit h at bytes p) = too_early (at + length bytes) (whole_after copy prefix bytes at b)

-- what the end of a copy says stands at its offset
last_stands : (copy prefix : List ℕ) (h : HeaderState) (at : ℕ) (bytes : List ℕ) (us : List CopyUnit) (final : HeaderState) (e : End)
    → After copy prefix bytes at
    → AreUnits h at bytes us final e → EndStands copy e
last_stands copy prefix h at bytes [] final e b u = ends_stand copy prefix h at bytes e b u.1
last_stands copy prefix h at bytes (u ∷ us) final e b (after, rest, whole, unit, more) =
    last_stands copy (prefix ++ unit_bytes u) after (at + length (unit_bytes u)) rest us final e
    (following copy prefix (unit_bytes u) rest at (others copy prefix bytes (unit_bytes u ++ rest) at whole b)) more

-- a copy after nothing
all_of : (copy : List ℕ) → After copy [] copy 0
all_of copy = record { copy_is = refl; at_is = refl }

-- the law: what an end and its fault say stands at the end's offset
pub ends_stand_at_their_offsets : (profile : Profile) → EndsStandAtTheirOffsetsUnder profile
ends_stand_at_their_offsets profile _ _ (with_soi n bytes units final e h) =
    last_stands _ (fill_bytes n ++ (0xFF ∷ 0xD8 ∷ [])) (no_headers_under profile) (n + 2) bytes units final e (soi n bytes) h
ends_stand_at_their_offsets profile _ _ (with_another_marker n code bytes p q) =
    let e : 0 + n ≡ n = omega arith in
    another_marker n code p q (subst (λ at. StandsAt (fill_bytes n ++ (0xFF ∷ code ∷ bytes)) at (0xFF ∷ code ∷ [])) e
    (marker_stands _ [] n code bytes 0 (all_of _)))
ends_stand_at_their_offsets profile _ _ (with_no_marker b bytes p) = no_marker_first b p (stands _ [] (b ∷ []) bytes 0 (all_of _))
ends_stand_at_their_offsets profile _ _ (with_fill_alone n) = too_early n (let l = length-replicate {A = ℕ} n 0xFF in omega (arith, l))

-- Records ----------------------------------------------------------------------------------------------------------

-- the records of outcomes are those of the faulty pieces
records_so : (ps : List FoundPiece) (os : List PieceOutcome) → AreOutcomes ps os → AreRecordsOf ps (records ps os)
records_so [] [] h = of_none
records_so [] (o ∷ os) h = absurd h
records_so (p ∷ ps) [] h = absurd h
records_so (p ∷ ps) (Lines lines ∷ os) h = reads p ps (records ps os) lines h.0 (records_so ps os h.1)
records_so (p ∷ ps) (Fault k ∷ os) h =
    faulty p ps (record { scan = p.scan; interval = value_of p.number; offset = p.offset; kind = k }) (records ps os)
    (record { scan = refl; interval = refl; offset = refl; kind = h.0 }) (records_so ps os h.1)

pub records_are_of_faulty_pieces : (profile : Profile) → RecordsAreOfFaultyPiecesUnder profile
records_are_of_faulty_pieces profile copy read h =
    (records (pieces h.course) h.outcomes, records_so (pieces h.course) h.outcomes h.each, h.pieces_are, h.count_is)
