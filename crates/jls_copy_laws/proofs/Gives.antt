-- The readings of a copy are those that its course gives.
use Rattle.std.proofs.Common.{◌≡◌, ℕ, ◌+◌, Bool, true, false, List, [], ◌∷◌, ◌++◌, length, map, Some, refl, sym, ap, ◌∙◌, subst, inl, inr}
use Rattle.std.specs.Prelude.{if◌then◌else◌}
use Rattle.std.specs.List.{AllByRecursion, Contains, flat_map, zip}
use Rattle.std.proofs.lemmas.List.Elements.{Contains-append_left, Contains-append_right, Contains-append_cases}
use Rattle.std.proofs.lemmas.Bool.{false≢true}
use Rattle.jls_values.specs.Shape.{PictureShape}
use Rattle.jls_partial.specs.Reading.{Reading}
use Rattle.jls_marker.specs.Scan.{Scan, intervals}
use Rattle.jls_marker.specs.SegmentLaws.{AreBytes}
use Rattle.jls_copy.specs.ScanData.{ClosedPiece, closed_bytes}
use Rattle.jls_copy.specs.Numbers.{PieceNumber, Interval, BeyondLast, number_after, given_last, numbers_after}
use Rattle.jls_copy.specs.Course.{LastClosed, by_input, by_marker, CopyUnit, segment, scan, segment_unit_bytes, unit_bytes}
use Rattle.jls_copy.specs.Course.{Course, IsCourse}
use Rattle.jls_copy.specs.Pieces.{FoundPiece, Lines, IsOutcome, readings_of, pieces_from, unit_pieces, scans_in, pieces_in, pieces}
use Rattle.jls_copy.specs.Pieces.{piece_begun}
use Rattle.jls_copy.specs.CutPieces.{is_cut, closed_by_input, last_piece, cut_pieces, IsHeadAt}
use Rattle.jls_copy.specs.Prefixes.{CourseHasReading}
use Rattle.jls_copy.proofs.ByLine.{strict_pieces_are_by_line}
use Rattle.jls_copy_laws.specs.CopyScans.{ScanPiece, ScanWithData, scans_of_unit, is_by_input, HasScans}
use Rattle.jls_copy_laws.specs.CopyLaws.{OneListOfScans, ReadingsAreOfTheCourse}
use Rattle.jls_copy_laws.specs.Gives.{PieceGives, ScanGives, GivesReading}
use Rattle.jls_copy_laws.proofs.ByLine.{reads_by_line, reads_as_piece, head_by_line, head_as_piece}
use Rattle.jls_copy_laws.proofs.CopyScans.{course_has_scans, one_list_of_scans}
use Rattle.jls_copy_laws.proofs.CutOff.{all_cut, cut_stands, units_of}
use Rattle.jls_copy_laws.proofs.Members.{is_first, in_rest, none_in, first_or_rest, only_member, all_at, in_flat_map, of_flat_map, all_from}

-- One scan ---------------------------------------------------------------------------------------------------------

abbrev IsByLine : FoundPiece → Type 0
IsByLine p = p.plan.by_sample ≡ false

-- the piece of this number, found at this offset
abbrev found : ℕ → Scan → PieceNumber → ℕ → List ℕ → FoundPiece
found index s number at bytes = record { scan = index; plan = s; number = number; offset = at; bytes = bytes }

-- a piece that is not the last one
abbrev whole_piece : ClosedPiece → ScanPiece
whole_piece c = record { bytes = c.piece; ended_by_input = false }

-- the pieces of scan data, the last of them cut or not
abbrev scan_pieces : List ClosedPiece → List ℕ → Bool → List ScanPiece
scan_pieces closed last cut =
    map (λ c. record { bytes = c.piece; ended_by_input = false }) closed ++ record { bytes = last; ended_by_input = cut } ∷ []

-- these pieces with their numbers, of which this is the first, where `given` was given last
abbrev numbered_pieces : Scan → PieceNumber → ℕ → List ClosedPiece → List ℕ → Bool → List (PieceNumber × ScanPiece)
numbered_pieces s number given closed last cut =
    zip (number ∷ numbers_after (intervals s) given (map (λ c. c.mark) closed)) (scan_pieces closed last cut)

-- a piece that is found is this one of them
record Corresponds (index : ℕ) (s : Scan) (numbered : List (PieceNumber × ScanPiece)) (p : FoundPiece) (piece : ScanPiece) : Type 0 where
  number : PieceNumber
  offset : ℕ
  among : Contains numbered (number, piece)
  same : p ≡ found index s number offset piece.bytes

is_the_first : (index : ℕ) (s : Scan) (number : PieceNumber) (at : ℕ) (piece : ScanPiece) (others : List (PieceNumber × ScanPiece))
    (p : FoundPiece) → found index s number at piece.bytes ≡ p → Corresponds index s ((number, piece) ∷ others) p piece
is_the_first index s number at piece others p e =
    record { number = number; offset = at; among = is_first (number, piece) others; same = sym e }

is_later : (index : ℕ) (s : Scan) (first : PieceNumber × ScanPiece) (others : List (PieceNumber × ScanPiece)) (p : FoundPiece)
    (piece : ScanPiece) → Corresponds index s others p piece → Corresponds index s (first ∷ others) p piece
is_later index s first others p piece r =
    record { number = r.number; offset = r.offset; among = in_rest (r.number, piece) first others r.among; same = r.same }

found_corresponds : (index : ℕ) (s : Scan) (number : PieceNumber) (given at : ℕ) (closed : List ClosedPiece) (last : List ℕ) (cut : Bool)
    (p : FoundPiece) → Contains (pieces_from (piece_begun index s number at) given closed last) p
    → (piece : ScanPiece) × Corresponds index s (numbered_pieces s number given closed last cut) p piece
found_corresponds index s number given at [] last cut p m =
    let piece : ScanPiece = record { bytes = last; ended_by_input = cut } in
    (piece, is_the_first index s number at piece [] p (only_member p (found index s number at last) m))
found_corresponds index s number given at (c ∷ closed) last cut p m =
    let next = number_after (intervals s) given c.mark in
    let following = at + length (closed_bytes c) in
    let others = numbered_pieces s next (given_last given next) closed last cut in
    let found_after = pieces_from (piece_begun index s next following) (given_last given next) closed last in
    elim (first_or_rest p (found index s number at c.piece) found_after m) [
      | inl e ↦ (whole_piece c, is_the_first index s number at (whole_piece c) others p e)
      | inr later ↦ (
          let r = found_corresponds index s next (given_last given next) following closed last cut p later in
          (r.0, is_later index s (number, whole_piece c) others p r.0 r.1))
    ]

-- the last piece that is found is the last of them
last_corresponds : (index : ℕ) (s : Scan) (number : PieceNumber) (given at : ℕ) (closed : List ClosedPiece) (last : List ℕ) (cut : Bool)
    (p : FoundPiece) → Contains (last_piece (pieces_from (piece_begun index s number at) given closed last)) p
    → Corresponds index s (numbered_pieces s number given closed last cut) p (record { bytes = last; ended_by_input = cut })
last_corresponds index s number given at [] last cut p m =
    is_the_first index s number at (record { bytes = last; ended_by_input = cut }) [] p (only_member p (found index s number at last) m)
last_corresponds index s number given at (c ∷ closed) last cut p m =
    let next = number_after (intervals s) given c.mark in
    let following = at + length (closed_bytes c) in
    let later = after_first (found index s number at c.piece) (piece_begun index s next following)
    (given_last given next) closed last p m in
    is_later index s (number, whole_piece c) (numbered_pieces s next (given_last given next) closed last cut) p
    (record { bytes = last; ended_by_input = cut })
    (last_corresponds index s next (given_last given next) following closed last cut p later)
  where
    -- the last piece is after the first
    after_first : (q begun : FoundPiece) (given : ℕ) (closed : List ClosedPiece) (last : List ℕ) (p : FoundPiece)
        → Contains (last_piece (q ∷ pieces_from begun given closed last)) p → Contains (last_piece (pieces_from begun given closed last)) p
    after_first q begun given [] last p m = m
    after_first q begun given (d ∷ closed) last p m = m

-- each of them is found
number_found : (index : ℕ) (s : Scan) (number : PieceNumber) (given at : ℕ) (closed : List ClosedPiece) (last : List ℕ) (cut : Bool)
    (n : PieceNumber) (piece : ScanPiece) → Contains (numbered_pieces s number given closed last cut) (n, piece)
    → (offset : ℕ) × Contains (pieces_from (piece_begun index s number at) given closed last) (found index s n offset piece.bytes)
number_found index s number given at [] last cut n piece m =
    let e = only_member (n, piece) (number, record { bytes = last; ended_by_input = cut }) m in (
      at,
      subst (λ (q : PieceNumber × ScanPiece). Contains (found index s number at last ∷ []) (found index s q.0 at q.1.bytes)) e
          (is_first (found index s number at last) []),
    )
number_found index s number given at (c ∷ closed) last cut n piece m =
    let next = number_after (intervals s) given c.mark in
    let following = at + length (closed_bytes c) in
    let others = pieces_from (piece_begun index s next following) (given_last given next) closed last in
    elim (first_or_rest (n, piece) (number, whole_piece c) (numbered_pieces s next (given_last given next) closed last cut) m) [
      | inl e ↦ (
        at,
        subst (λ (q : PieceNumber × ScanPiece). Contains (found index s number at c.piece ∷ others) (found index s q.0 at q.1.bytes)) e
            (is_first (found index s number at c.piece) others),
      )
      | inr later ↦ (
          let r = number_found index s next (given_last given next) following closed last cut n piece later in
          (r.0, in_rest (found index s n r.0 piece.bytes) (found index s number at c.piece) others r.1))
    ]

-- one that is cut is found last, and only where the last is cut
cut_found : (index : ℕ) (s : Scan) (number : PieceNumber) (given at : ℕ) (closed : List ClosedPiece) (last : List ℕ) (cut : Bool)
    (n : PieceNumber) (piece : ScanPiece) → Contains (numbered_pieces s number given closed last cut) (n, piece)
    → piece.ended_by_input ≡ true
    → (offset : ℕ) × (cut ≡ true)
    × Contains (last_piece (pieces_from (piece_begun index s number at) given closed last)) (found index s n offset piece.bytes)
cut_found index s number given at [] last cut n piece m is =
    let e = only_member (n, piece) (number, record { bytes = last; ended_by_input = cut }) m in (
      at,
      ap (λ (q : PieceNumber × ScanPiece). q.1.ended_by_input) e ∙ is,
      subst (λ (q : PieceNumber × ScanPiece). Contains (found index s number at last ∷ []) (found index s q.0 at q.1.bytes)) e
          (is_first (found index s number at last) []),
    )
cut_found index s number given at (c ∷ closed) last cut n piece m is =
    let next = number_after (intervals s) given c.mark in
    let following = at + length (closed_bytes c) in
    elim (first_or_rest (n, piece) (number, whole_piece c) (numbered_pieces s next (given_last given next) closed last cut) m) [
      | inl e ↦ absurd (false≢true (ap (λ (q : PieceNumber × ScanPiece). q.1.ended_by_input) e ∙ is))
      | inr later ↦ (
          let r = cut_found index s next (given_last given next) following closed last cut n piece later is in
          let p = found index s n r.0 piece.bytes in
          let q = found index s number at c.piece in
          (r.0, r.1, last_after_one q (piece_begun index s next following) (given_last given next) closed last p r.2))
    ]
  where
    -- the last piece is the last after the first
    last_after_one : (q begun : FoundPiece) (given : ℕ) (closed : List ClosedPiece) (last : List ℕ) (p : FoundPiece)
        → Contains (last_piece (pieces_from begun given closed last)) p → Contains (last_piece (q ∷ pieces_from begun given closed last)) p
    last_after_one q begun given [] last p m = m
    last_after_one q begun given (d ∷ closed) last p m = m

-- What a piece gives -----------------------------------------------------------------------------------------------

-- a piece of a course gives the reading: under its number it reads as lines that have it
abbrev pub FoundPieceGives : FoundPiece → Reading → Type 0
FoundPieceGives p r = (lines : List (List ℕ)) × IsOutcome p (Lines lines) × Contains (readings_of p (Lines lines)) r

-- the head of a piece of a course gives it
abbrev pub FoundHeadGives : FoundPiece → Reading → Type 0
FoundHeadGives p r =
    (head : List (List ℕ)) × IsHeadAt p.plan p.number p.bytes head × Contains (readings_of p (Lines head)) r

-- a piece that is found and gives the reading has the number of an interval, and gives it as a piece of the scan
piece_gives : (index : ℕ) (s : Scan) (n : PieceNumber) (offset : ℕ) (piece : ScanPiece) (r : Reading)
    → s.by_sample ≡ false → FoundPieceGives (found index s n offset piece.bytes) r
    → (k : ℕ) × (n ≡ Interval k) × PieceGives s k piece r
piece_gives index s (Interval k) offset piece r line g =
    (k, refl, (g.0, inl (reads_by_line s k line piece.bytes g.0 g.1), g.2))
piece_gives index s (BeyondLast k) offset piece r line g = absurd g.1

-- and so does one whose head gives it, where it is cut
head_gives : (index : ℕ) (s : Scan) (n : PieceNumber) (offset : ℕ) (piece : ScanPiece) (r : Reading) → piece.ended_by_input ≡ true
    → s.by_sample ≡ false → FoundHeadGives (found index s n offset piece.bytes) r
    → (k : ℕ) × (n ≡ Interval k) × PieceGives s k piece r
head_gives index s (Interval k) offset piece r is line g =
    (k, refl, (g.0, inr (is, head_by_line s k line piece.bytes g.0 g.1), g.2))
head_gives index s (BeyondLast k) offset piece r is line g = absurd (none_in r g.2)

-- Units ------------------------------------------------------------------------------------------------------------

-- the scan of a unit
abbrev scan_with : Scan → List ClosedPiece → List ℕ → LastClosed → ScanWithData
scan_with s closed last closing = record {
  scan = s;
  marks = map (λ c. c.mark) closed;
  pieces = scan_pieces closed last (is_by_input closing);
}

-- a piece of the unit gives the reading as one of the unit's scan
unit_gives : (index at : ℕ) (u : CopyUnit) (p : FoundPiece) (r : Reading) → IsByLine p → Contains (unit_pieces index at u) p
    → FoundPieceGives p r → (d : ScanWithData) × Contains (scans_of_unit u) d × ScanGives d r
unit_gives index at (segment fill code payload) p r line m g = absurd (none_in p m)
unit_gives index at (scan fill code payload s closed last closing) p r line m g =
    let begin = at + length (segment_unit_bytes fill code payload) in
    let cut = is_by_input closing in
    let f = found_corresponds index s (Interval 0) 0 begin closed last cut p m in
    let fed = piece_gives index s f.1.number f.1.offset f.0 r (subst IsByLine f.1.same line)
    (subst (λ x. FoundPieceGives x r) f.1.same g) in (
      scan_with s closed last closing,
      is_first (scan_with s closed last closing) [],
      (
        fed.0,
        f.0,
        subst (λ n. Contains (numbered_pieces s (Interval 0) 0 closed last cut) (n, f.0)) fed.1 f.1.among,
        fed.2,
      ),
    )

-- so does the head of its last piece, where the input's end closes it
cut_unit_gives : (index at : ℕ) (u : CopyUnit) (p : FoundPiece) (r : Reading) → IsByLine p → is_cut u ≡ true
    → Contains (last_piece (unit_pieces index at u)) p → FoundHeadGives p r
    → (d : ScanWithData) × Contains (scans_of_unit u) d × ScanGives d r
cut_unit_gives index at (segment fill code payload) p r line is m g = absurd (none_in p m)
cut_unit_gives index at (scan fill code payload s closed last by_marker) p r line is m g = absurd cc
cut_unit_gives index at (scan fill code payload s closed last (by_input n)) p r line is m g =
    let begin = at + length (segment_unit_bytes fill code payload) in
    let piece : ScanPiece = record { bytes = last; ended_by_input = true } in
    let f = last_corresponds index s (Interval 0) 0 begin closed last true p m in
    let fed = head_gives index s f.number f.offset piece r refl (subst IsByLine f.same line) (subst (λ x. FoundHeadGives x r) f.same g) in (
      scan_with s closed last (by_input n),
      is_first (scan_with s closed last (by_input n)) [],
      (
        fed.0,
        piece,
        subst (λ k. Contains (numbered_pieces s (Interval 0) 0 closed last true) (k, piece)) fed.1 f.among,
        fed.2,
      ),
    )

-- a piece of units is one of some of them
in_some_unit : (us : List CopyUnit) (index at : ℕ) (p : FoundPiece) → Contains (pieces_in index at us) p
    → (u : CopyUnit) × Contains us u × (i : ℕ) × (offset : ℕ) × Contains (unit_pieces i offset u) p
in_some_unit [] index at p m = absurd (none_in p m)
in_some_unit (u ∷ us) index at p m =
    elim (Contains-append_cases (unit_pieces index at u) (pieces_in (index + scans_in u) (at + length (unit_bytes u)) us) p m) [
      | inl here ↦ (u, is_first u us, index, at, here)
      | inr later ↦ (
          let r = in_some_unit us (index + scans_in u) (at + length (unit_bytes u)) p later in
          (r.0, in_rest r.0 u us r.1, r.2, r.3, r.4))
    ]

-- each unit stands somewhere, with all its pieces
pub unit_stands : (us : List CopyUnit) (index at : ℕ) (u : CopyUnit) → Contains us u
    → (i : ℕ) × (offset : ℕ) × ((p : FoundPiece) → Contains (unit_pieces i offset u) p → Contains (pieces_in index at us) p)
unit_stands [] index at u m = absurd (none_in u m)
unit_stands (v ∷ us) index at u m =
    let others = pieces_in (index + scans_in v) (at + length (unit_bytes v)) us in
    elim (first_or_rest u v us m) [
      | inl same ↦ (
        index,
        at,
        λ p here.
            Contains-append_left (unit_pieces index at v) others p (subst (λ x. Contains (unit_pieces index at x) p) (sym same) here),
      )
      | inr later ↦ (
          let r = unit_stands us (index + scans_in v) (at + length (unit_bytes v)) u later in
          (r.0, r.1, λ p there. Contains-append_right (unit_pieces index at v) others p (r.2 p there)))
    ]

-- What a course gives ----------------------------------------------------------------------------------------------

-- where all pieces are by line, so is the one that is cut
cut_by_line : (c : Course) → AllByRecursion IsByLine (pieces c) → AllByRecursion IsByLine (cut_pieces c)
cut_by_line c lines = by (closed_by_input c.units)
  where
    last_is : (ps : List FoundPiece) → AllByRecursion IsByLine ps → AllByRecursion IsByLine (last_piece ps)
    last_is [] h = tt
    last_is (p ∷ []) h = h
    last_is (p ∷ q ∷ ps) h = last_is (q ∷ ps) h.1

    by : (b : Bool) → AllByRecursion IsByLine (if b then last_piece (pieces c) else [])
    by true = last_is (pieces c) lines
    by false = tt

-- some scan of these units gives the reading
abbrev pub UnitsGive : List CopyUnit → Reading → Type 0
UnitsGive us r = (d : ScanWithData) × Contains (flat_map scans_of_unit us) d × ScanGives d r

-- where the head of the piece gives the reading, and the piece is by line, a scan of these units gives it
abbrev HeadTells : List CopyUnit → Reading → FoundPiece → Type 0
HeadTells us r p = IsByLine p → FoundHeadGives p r → UnitsGive us r

-- as the piece of a unit that is cut does
cut_tells : (us : List CopyUnit) (r : Reading) (index at : ℕ) (u : CopyUnit) → Contains us u → is_cut u ≡ true
    → AllByRecursion (HeadTells us r) (last_piece (unit_pieces index at u))
cut_tells us r index at u among is =
    all_from (HeadTells us r) (last_piece (unit_pieces index at u)) (λ p there line gives.
    let fed = cut_unit_gives index at u p r line is there gives in
    (fed.0, in_flat_map scans_of_unit us u fed.0 among fed.1, fed.2))

-- what a course gives whose pieces are by line is given by a scan of its units
pub units_give : (c : Course) (r : Reading) → AllByRecursion IsByLine (pieces c) → CourseHasReading c r
    → (d : ScanWithData) × Contains (flat_map scans_of_unit c.units) d × ScanGives d r
units_give c r by_line (inl (p, m, lines, reads, among)) =
    let i = in_some_unit c.units 0 c.begin p m in
    let fed = unit_gives i.2 i.3 i.0 p r (all_at IsByLine (pieces c) p by_line m) i.4 (lines, reads, among) in
    (fed.0, in_flat_map scans_of_unit c.units i.0 fed.0 i.1 fed.1, fed.2)
units_give c r by_line (inr (p, m, head, is_head, among)) =
    all_at (HeadTells c.units r) (cut_pieces c) p each m (all_at IsByLine (cut_pieces c) p (cut_by_line c by_line) m) (head, is_head, among)
  where
    each : AllByRecursion (HeadTells c.units r) (cut_pieces c)
    each =
        all_cut (HeadTells c.units r) (Contains c.units) (cut_tells c.units r) c.units 0 c.begin
        (all_from (Contains c.units) c.units (λ u among. among))

-- what a scan of a unit gives is given by a piece of the course, or by the head of the one that is cut
by_unit_of : (copy : List ℕ) (c : Course) (r : Reading) → IsCourse copy c → (u : CopyUnit) → Contains c.units u
    → (d : ScanWithData) → Contains (scans_of_unit u) d → ScanGives d r → CourseHasReading c r
by_unit_of copy c r is (segment fill code payload) among d here g = absurd (none_in d here)
by_unit_of copy c r is (scan fill code payload s closed last closing) among d here g =
    by (subst (λ x. ScanGives x r) (sym (only_member d (scan_with s closed last closing) here)) g)
  where
    u : CopyUnit
    u = scan fill code payload s closed last closing

    by_line : AllByRecursion IsByLine (pieces c)
    by_line = strict_pieces_are_by_line copy c is

    closed_so : (by : LastClosed) → is_by_input by ≡ true → is_cut (scan fill code payload s closed last by) ≡ true
    closed_so (by_input n) e = refl
    closed_so by_marker e = absurd cc

    by : ScanGives (scan_with s closed last closing) r → CourseHasReading c r
    by (k, piece, m, (lines, inl reads, line)) =
        let stands = unit_stands c.units 0 c.begin u among in
        let begin = stands.1 + length (segment_unit_bytes fill code payload) in
        let f = number_found stands.0 s (Interval 0) 0 begin closed last (is_by_input closing) (Interval k) piece m in
        let p = found stands.0 s (Interval k) f.0 piece.bytes in
        let own = all_at IsByLine (pieces c) p by_line (stands.2 p f.1) in
        inl (p, stands.2 p f.1, lines, reads_as_piece s k own piece.bytes lines reads, line)
    by (k, piece, m, (lines, inr (cut, head), line)) =
        let units = units_of copy c u is among in
        let closes = (cut_found 0 s (Interval 0) 0 0 closed last (is_by_input closing) (Interval k) piece m cut).1 in
        let stands = cut_stands c.units 0 c.begin _ units.0 units.1 c.headers c.end u units.2 among (closed_so closing closes) in
        let begin = stands.1 + length (segment_unit_bytes fill code payload) in
        let f = cut_found stands.0 s (Interval 0) 0 begin closed last (is_by_input closing) (Interval k) piece m cut in
        let p = found stands.0 s (Interval k) f.0 piece.bytes in
        let own = all_at IsByLine (cut_pieces c) p (cut_by_line c by_line) (stands.2 p f.2) in
        inr (p, stands.2 p f.2, lines, head_as_piece s k own piece.bytes lines head, line)

-- what a scan of the units of a copy's course gives is given by the course
pub given_by_units : (copy : List ℕ) (c : Course) (r : Reading) → IsCourse copy c → (d : ScanWithData)
    → Contains (flat_map scans_of_unit c.units) d → ScanGives d r → CourseHasReading c r
given_by_units copy c r is d m g =
    let from = of_flat_map scans_of_unit c.units d m in by_unit_of copy c r is from.0 from.1 d from.2 g

-- The law ----------------------------------------------------------------------------------------------------------

-- where a copy has the scans of its course and no others, it gives what the course gives
pub by_course : (has : (copy : List ℕ) (c : Course) (shape : PictureShape) → AreBytes copy → IsCourse copy c → c.headers.frame ≡ Some shape
    → HasScans copy shape (flat_map scans_of_unit c.units)) (one : OneListOfScans) → ReadingsAreOfTheCourse
by_course has one copy c shape r low is framed = (there, back)
  where
    there : GivesReading copy r → CourseHasReading c r
    there (shape', scans, scanned, d, m, g) =
        let same = (one copy shape' shape scans (flat_map scans_of_unit c.units) scanned (has copy c shape low is framed)).1 in
        given_by_units copy c r is d (subst (λ ds. Contains ds d) same m) g

    back : CourseHasReading c r → GivesReading copy r
    back g =
        let fed = units_give c r (strict_pieces_are_by_line copy c is) g in
        (shape, flat_map scans_of_unit c.units, has copy c shape low is framed, fed.0, fed.1, fed.2)

pub readings_are_of_the_course : ReadingsAreOfTheCourse
readings_are_of_the_course = by_course course_has_scans one_list_of_scans
