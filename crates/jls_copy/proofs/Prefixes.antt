-- A piece that reads as no lines whatever follows is one in each longer list of bytes.
use Rattle.std.proofs.Common.{◌≡◌, ℕ, ◌<◌, false, List, [], ◌∷◌, ◌++◌, Option, Some, None, refl, sym, ap, ◌∙◌}
use Rattle.std.proofs.Common.{subst, append_assoc, ◌⊎◌, inl, inr}
use Rattle.std.specs.Prelude.{IfSome}
use Rattle.std.specs.Option.{option_map}
use Rattle.std.specs.List.{AllByRecursion, Contains}
use Rattle.std.proofs.lemmas.List.{append-nil}
use Rattle.std.proofs.lemmas.List.Elements.{Contains-append_left, Contains-append_right}
use Rattle.jls_values.specs.Shape.{PictureShape}
use Rattle.jls_values.proofs.Lists.{is_first, in_rest, none_in, first_or_rest}
use Rattle.jls_bits.specs.Bits.{is_whole}
use Rattle.jls_piece.specs.Reads.{ReadsNoMore}
use Rattle.jls_piece.proofs.PieceReads.{unwhole_reads_no_more}
use Rattle.jls_piece.specs.PieceBytes.{PieceBytes, piece_asked}
use Rattle.jls_copy.proofs.Outcomes.{decoding_is}
use Rattle.jls_marker.specs.HeaderState.{HeaderState}
use Rattle.jls_marker.specs.Scan.{Scan}
use Rattle.jls_copy.specs.Numbers.{PieceNumber, Interval, BeyondLast}
use Rattle.jls_copy.specs.Pieces.{FoundPiece, Lines, IsOutcomeAt, pieces}
use Rattle.jls_copy.specs.CutPieces.{cut_pieces}
use Rattle.jls_copy.specs.Prefixes.{NeverReads, IsPieceBrokenUnder, PrefixesStayBrokenUnder, OpenReadsNoMore, PlaceReadsNoMore}
use Rattle.jls_copy.specs.ReaderState.{reading, StateWithPieces, reading_with, reading_from, number_of, bytes_of, fed, found, piece_with}
use Rattle.jls_copy.specs.ReaderState.{held_bytes, class_of, closed_by, closed_at, closed_at_end, step_from, from_scan}
use Rattle.jls_copy.specs.Reader.{all_pieces}
use Rattle.jls_copy.specs.Sound.{IsOpenPiece, IsPlace}
use Rattle.jls_copy.specs.Tells.{FedAs, AlikePiece, AlikePieces}
use Rattle.jls_copy.specs.declared.piece.OpenPiece.{OpenPiece}
use Rattle.jls_copy.specs.declared.piece.OpenPiece.TheVariants.{Within, Beyond}
use Rattle.jls_copy.specs.declared.scan.ByteClass.{ByteClass}
use Rattle.jls_copy.specs.declared.scan.ByteClass.TheVariants.{Fill, Mark, Stop, Data}
use Rattle.jls_copy.specs.declared.scan.OpenScan.{OpenScan}
use Rattle.jls_copy.specs.declared.place.CopyPosition.{CopyPosition}
use Rattle.jls_copy.specs.declared.place.CopyPosition.TheVariants.{Start, AtMarker, AtLength, InLength, InPayload, InScan, Done}
use Rattle.jls_copy.proofs.OneCourse.{one_course}
use Rattle.jls_copy.proofs.ScansOfCourse.{byte_parts}
use Rattle.jls_copy.proofs.CourseFed.{course_fed}
use Rattle.jls_copy.specs.IntervalOf.{interval_of}
use Rattle.jls_copy.proofs.Gathering.{from_append}
use Rattle.jls_marker.specs.declared.profile.Profile.{Profile}

-- to each of the first pieces one of the second is alike
pub alike_of : (ps qs : List FoundPiece) (p : FoundPiece) → AlikePieces ps qs → Contains ps p → (q : FoundPiece) × Contains qs q
    × AlikePiece p q
alike_of [] qs p h m = absurd (none_in p m)
alike_of (x ∷ ps) [] p h m = absurd h
alike_of (x ∷ ps) (y ∷ qs) p h m =
    elim (first_or_rest p x ps m) [
      | inl e ↦ (y, is_first y qs, subst (λ z. AlikePiece z y) e h.0)
      | inr later ↦ (let r = alike_of ps qs p h.1 later in (r.0, in_rest r.0 y qs r.1, r.2))
    ]

-- to each of the second pieces one of the first is alike
pub of_alike : (ps qs : List FoundPiece) (q : FoundPiece) → AlikePieces ps qs → Contains qs q → (p : FoundPiece) × Contains ps p
    × AlikePiece p q
of_alike ps [] q h m = absurd (none_in q m)
of_alike [] (y ∷ qs) q h m = absurd h
of_alike (x ∷ ps) (y ∷ qs) q h m =
    elim (first_or_rest q y qs m) [
      | inl e ↦ (x, is_first x ps, subst (λ z. AlikePiece x z) e h.0)
      | inr later ↦ (let r = of_alike ps qs q h.1 later in (r.0, in_rest r.0 x ps r.1, r.2))
    ]

-- Never ------------------------------------------------------------------------------------------------------------

unwhole_never : (s : Scan) (k : ℕ) (bytes : List ℕ) → is_whole bytes ≡ false → NeverReads s (Interval k) bytes
unwhole_never s k bytes e = unwhole_reads_no_more (interval_of s k) bytes e

never_fed : (s : Scan) (n : PieceNumber) (fed piece : List ℕ) → FedAs n fed piece → NeverReads s n fed → NeverReads s n piece
never_fed s (Interval k) fed piece (inl e) h = subst (NeverReads s (Interval k)) e h
never_fed s (Interval k) fed piece (inr e) h = unwhole_never s k piece e.1
never_fed s (BeyondLast k) fed piece t h = λ more lines reads. reads

never_piece : (s : Scan) (n : PieceNumber) (fed piece : List ℕ) → FedAs n fed piece → NeverReads s n piece → NeverReads s n fed
never_piece s (Interval k) fed piece (inl e) h = subst (NeverReads s (Interval k)) (sym e) h
never_piece s (Interval k) fed piece (inr e) h = unwhole_never s k fed e.0
never_piece s (BeyondLast k) fed piece t h = λ more lines reads. reads

never_longer : (s : Scan) (n : PieceNumber) (bytes more : List ℕ) → NeverReads s n bytes → NeverReads s n (bytes ++ more)
never_longer s n bytes more h others lines reads =
    h (more ++ others) lines (subst (λ b. IsOutcomeAt s n b (Lines lines)) (append_assoc bytes more others) reads)

-- what reads as no lines whatever follows reads as none now
never_now : (s : Scan) (n : PieceNumber) (bytes : List ℕ) → NeverReads s n bytes → (lines : List (List ℕ))
    → IsOutcomeAt s n bytes (Lines lines) → ⊥
never_now s n bytes h lines reads = h [] lines (subst (λ b. IsOutcomeAt s n b (Lines lines)) (sym (append-nil bytes)) reads)

abbrev Never : FoundPiece → Type 0
Never p = NeverReads p.plan p.number p.bytes

alike_never : (p q : FoundPiece) → AlikePiece p q → Never p → Never q
alike_never p q a h =
    never_fed q.plan q.number p.bytes q.bytes a.fed_as
    (subst (λ s. NeverReads s q.number p.bytes) a.plan_is (subst (λ n. NeverReads p.plan n p.bytes) a.number_is h))

never_alike : (p q : FoundPiece) → AlikePiece p q → Never q → Never p
never_alike p q a h =
    subst (λ s. NeverReads s p.number p.bytes) (sym a.plan_is)
    (subst (λ n. NeverReads q.plan n p.bytes) (sym a.number_is) (never_piece q.plan q.number p.bytes q.bytes a.fed_as h))

-- What a reader tells ----------------------------------------------------------------------------------------------

-- an open piece that reads no more reads as no lines, whatever follows
never_open : (s : Scan) (piece : OpenPiece) → IsOpenPiece s piece → OpenReadsNoMore piece → NeverReads s (number_of piece) (bytes_of piece)
never_open s (Within k d) is h =
    let own : ReadsNoMore (interval_of s k) is.bytes =
    subst (λ (x : PieceBytes). IfSome x.bytes (λ bytes. ReadsNoMore (piece_asked x) bytes)) (decoding_is s k d is) h in
    subst (λ b. ReadsNoMore (interval_of s k) b) (sym (ap fed is.bytes_are)) own
never_open s (Beyond k) is h = λ more lines reads. reads

-- if the piece in hand reads as no lines whatever follows, the bytes so far have a piece that stays broken
pub broken_fed : (profile : Profile) (bytes : List ℕ) → AllByRecursion (λ b. b < 256) bytes → (frame : Option PictureShape)
    (payload : List ℕ) (p : CopyPosition)
    → p ≡ (reading profile bytes).state.place → IsPlace frame p payload → PlaceReadsNoMore p → IsPieceBrokenUnder profile bytes
broken_fed profile bytes low frame payload (Start fill) e is h = absurd h
broken_fed profile bytes low frame payload (AtMarker fill) e is h = absurd h
broken_fed profile bytes low frame payload (AtLength marker code) e is h = absurd h
broken_fed profile bytes low frame payload (InLength marker code high) e is h = absurd h
broken_fed profile bytes low frame payload (InPayload marker code size) e is h = absurd h
broken_fed profile bytes low frame payload (Done end) e is h = absurd h
broken_fed profile bytes low frame payload (InScan scan) e is h =
    let t = course_fed profile bytes low in
    let cut : AlikePieces (found scan ∷ []) (cut_pieces t.0) = subst (λ p. AlikePieces (closed_at_end p) (cut_pieces t.0)) (sym e) t.5 in
    let q = alike_of (found scan ∷ []) (cut_pieces t.0) (found scan) cut (is_first (found scan) []) in
    record {
      course = t.0;
      is_course = t.1;
      piece = q.0;
      in_hand = q.1;
      broken = alike_never (found scan) q.0 q.2 (never_open scan.plan scan.piece is.0.1 h);
    }

-- Longer -----------------------------------------------------------------------------------------------------------

-- a piece goes on in another: both are of the same place, and the second has more bytes
pub record Continues (p q : FoundPiece) : Type 0 where
  pub plan : q.plan ≡ p.plan
  pub number : q.number ≡ p.number
  pub offset : q.offset ≡ p.offset
  pub tail : List ℕ
  pub bytes : q.bytes ≡ p.bytes ++ tail

pub at_once : (p : FoundPiece) → Continues p p
at_once p = record { plan = refl; number = refl; offset = refl; tail = []; bytes = sym (append-nil p.bytes) }

-- a piece that goes on in one that goes on goes on in the last
on_and_on : (p q r : FoundPiece) → Continues p q → Continues q r → Continues p r
on_and_on p q r a b = record {
  plan = b.plan ∙ a.plan;
  number = b.number ∙ a.number;
  offset = b.offset ∙ a.offset;
  tail = a.tail ++ b.tail;
  bytes = b.bytes ∙ ap (λ x. x ++ b.tail) a.bytes ∙ append_assoc p.bytes a.tail b.tail;
}

fed_more : (o : Option (List ℕ)) (more : List ℕ) → (t : List ℕ) × (fed (option_map (λ bytes. bytes ++ more) o) ≡ fed o ++ t)
fed_more None more = ([], refl)
fed_more (Some bytes) more = (more, refl)

-- an open piece goes on in the one that was fed more bytes
grown : (index : ℕ) (plan : Scan) (at : ℕ) (piece : OpenPiece) (more : List ℕ)
    → Continues (record { scan = index; plan = plan; number = number_of piece; offset = at; bytes = bytes_of piece })
    (record {
      scan = index;
      plan = plan;
      number = number_of (piece_with piece more);
      offset = at;
      bytes =
          bytes_of (piece_with piece more);
    })
grown index plan at (Within k d) more =
    let t = fed_more d.bytes more in record { plan = refl; number = refl; offset = refl; tail = t.0; bytes = t.1 }
grown index plan at (Beyond k) more = record { plan = refl; number = refl; offset = refl; tail = []; bytes = refl }

-- a byte closes the piece in hand, or it goes on
abbrev pub NextIs : List FoundPiece → List FoundPiece → FoundPiece → Type 0
NextIs closed open_ p = (q : FoundPiece) × (Contains closed q ⊎ Contains open_ q) × Continues p q

-- the piece in hand is, after one byte more, closed or still in hand
next_in_scan : (class : ByteClass) (scan : OpenScan) (count b : ℕ)
    → NextIs (closed_by class scan) (closed_at_end (from_scan class scan count b)) (found scan)
next_in_scan Fill scan count b = (found scan, inr (is_first (found scan) []), at_once (found scan))
next_in_scan Mark scan count b = (found scan, inl (is_first (found scan) []), at_once (found scan))
next_in_scan Stop scan count b = (found scan, inl (is_first (found scan) []), at_once (found scan))
next_in_scan Data scan count b =
    (_, inr (is_first _ []), grown scan.index scan.plan scan.offset scan.piece (held_bytes scan.held ++ b ∷ []))

-- the piece that would close at the input's end is, after one byte more, a closed piece or still the open one
next_is : (p : CopyPosition) (count : ℕ) (h : HeaderState) (payload : List ℕ) (b : ℕ) (q : FoundPiece) → Contains (closed_at_end p) q
    → NextIs (closed_at p b) (closed_at_end (step_from p count h payload b).place) q
next_is (Start fill) count h payload b q m = absurd (none_in q m)
next_is (AtMarker fill) count h payload b q m = absurd (none_in q m)
next_is (AtLength marker code) count h payload b q m = absurd (none_in q m)
next_is (InLength marker code high) count h payload b q m = absurd (none_in q m)
next_is (InPayload marker code size) count h payload b q m = absurd (none_in q m)
next_is (Done e) count h payload b q m = absurd (none_in q m)
next_is (InScan scan) count h payload b q m =
    elim (first_or_rest q (found scan) [] m) [
      | inl e ↦ subst (NextIs (closed_by (class_of scan.held b) scan) (closed_at_end (from_scan (class_of scan.held b) scan count b))) e
          (next_in_scan (class_of scan.held b) scan count b)
      | inr later ↦ absurd (none_in q later)
    ]

abbrev pub Stands : StateWithPieces → FoundPiece → Type 0
Stands r p = NextIs r.pieces (closed_at_end r.state.place) p

-- a piece that stands among those read still does after one byte more
stands_with : (r : StateWithPieces) (b : ℕ) (p : FoundPiece) → Stands r p → Stands (reading_with r b) p
stands_with r b p (q, inl m, on) = (q, inl (Contains-append_left r.pieces (closed_at r.state.place b) q m), on)
stands_with r b p (q, inr m, on) = by (next_is r.state.place r.state.count r.state.headers r.state.payload b q m)
  where
    by : NextIs (closed_at r.state.place b) (closed_at_end (step_from r.state.place r.state.count r.state.headers r.state.payload b).place)
        q
        → Stands (reading_with r b) p
    by (x, inl c, more) = (x, inl (Contains-append_right r.pieces (closed_at r.state.place b) x c), on_and_on p q x on more)
    by (x, inr c, more) = (x, inr c, on_and_on p q x on more)

pub stands_from : (r : StateWithPieces) (bytes : List ℕ) (p : FoundPiece) → Stands r p → Stands (reading_from r bytes) p
stands_from r [] p h = h
stands_from r (b ∷ bytes) p h = stands_from (reading_with r b) bytes p (stands_with r b p h)

pub among_all : (r : StateWithPieces) (q : FoundPiece) → Contains r.pieces q ⊎ Contains (closed_at_end r.state.place) q
    → Contains (all_pieces r) q
among_all r q (inl m) = Contains-append_left r.pieces (closed_at_end r.state.place) q m
among_all r q (inr m) = Contains-append_right r.pieces (closed_at_end r.state.place) q m

-- where the piece in hand is broken whatever follows, each longer list of bytes has a faulty piece there
pub prefixes_stay_broken : (profile : Profile) → PrefixesStayBrokenUnder profile
prefixes_stay_broken profile prefix more low broken c is =
    let t = course_fed profile prefix (byte_parts prefix more low).0 in
    let here : Contains (cut_pieces t.0) broken.piece =
    subst (λ d. Contains (cut_pieces d) broken.piece) (one_course prefix broken.course t.0 broken.is_course t.1) broken.in_hand in
    let p = of_alike (closed_at_end (reading profile prefix).state.place) (cut_pieces t.0) broken.piece t.5 here in
    let stood : Stands (reading_from (reading profile prefix) more) p.0 = stands_from (reading profile prefix) more p.0
    (p.0, inr p.1, at_once p.0) in
    let all : Stands (reading profile (prefix ++ more)) p.0 = subst (λ r. Stands r p.0) (sym (from_append _ prefix more)) stood in
    let u = course_fed profile (prefix ++ more) low in
    let q = alike_of (all_pieces (reading profile (prefix ++ more))) (pieces u.0) all.0 u.4 (among_all (reading profile
    (prefix ++ more)) all.0 all.1) in
    let never : Never all.0 =
    subst (λ b. NeverReads all.0.plan all.0.number b) (sym all.2.bytes)
    (subst (λ s. NeverReads s all.0.number (p.0.bytes ++ all.2.tail)) (sym all.2.plan)
    (subst (λ n. NeverReads p.0.plan n (p.0.bytes ++ all.2.tail)) (sym all.2.number)
    (never_longer p.0.plan p.0.number p.0.bytes all.2.tail (never_alike p.0 broken.piece p.2 broken.broken)))) in (
      q.0,
      subst (λ d. Contains (pieces d) q.0) (one_course (prefix ++ more) u.0 c u.1 is) q.1,
      sym q.2.plan_is ∙ all.2.plan ∙ p.2.plan_is,
      sym q.2.number_is ∙ all.2.number ∙ p.2.number_is,
      sym q.2.offset_is ∙ all.2.offset ∙ p.2.offset_is,
      never_now q.0.plan q.0.number q.0.bytes (alike_never all.0 q.0 q.2 never),
    )
