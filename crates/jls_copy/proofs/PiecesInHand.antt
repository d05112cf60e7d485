-- The piece in hand begins with the code of its first lines, and goes on in each longer list of bytes.
use Rattle.std.proofs.Common.{◌≡◌, ℕ, ◌<◌, true, false, List, [], ◌∷◌, ◌++◌, length, Option, Some, None, refl, sym, ap, ◌∙◌, subst}
use Rattle.std.proofs.Common.{Result, Ok, Err}
use Rattle.std.proofs.Common.{append_assoc, length-append, arith, inl, inr}
use Rattle.std.specs.Prelude.{IfOk, IfSome, Bool, if◌then◌else◌, map, ◌==◌}
use Rattle.std.specs.List.{AllByRecursion, Contains}
use Rattle.jls_values.specs.Shape.{PictureShape}
use Rattle.jls_values.proofs.Lists.{in_rest, is_first, none_in, all_at}
use Rattle.jls_bits.specs.Bits.{bits_read_after, is_whole}
use Rattle.jls_bits.specs.Appending.{last_after}
use Rattle.jls_bits.proofs.Appending.{data_append}
use Rattle.jls_interval.specs.Lines.{AreLines}
use Rattle.jls_piece.specs.Lines.{PieceShape}
use Rattle.jls_piece.specs.Code.{piece_code}
use Rattle.jls_piece.specs.CutEnds.{CutEndIs}
use Rattle.jls_piece.specs.PieceBytes.{PieceBytes, piece_asked}
use Rattle.jls_piece.specs.declared.cut_end.PieceCutEnd.TheVariants.{Head}
use Rattle.jls_interval.specs.declared.decode_piece.PieceFault.{PieceFault}
use Rattle.jls_interval.specs.declared.decode_piece.PieceFault.TheVariants as piece_fault
use Rattle.jls_interval.proofs.HeadLines.{prefix_lines}
use Rattle.jls_marker.specs.Scan.{Scan}
use Rattle.jls_marker.specs.SegmentLaws.{AreBytes}
use Rattle.jls_copy.specs.Numbers.{PieceNumber, Interval}
use Rattle.jls_copy.specs.Course.{Course, IsCourseUnder}
use Rattle.jls_copy.specs.IntervalOf.{interval_of}
use Rattle.jls_copy.specs.Pieces.{FoundPiece, pieces}
use Rattle.jls_copy.specs.CutPieces.{cut_pieces, closed_by_input, last_piece}
use Rattle.jls_copy.specs.InHand.{AreFirst, BeginsWithLines, IsInHandUnder, OpenHolds, PlaceHolds, PrefixesGoOnUnder}
use Rattle.jls_copy.specs.Reader.{all_pieces}
use Rattle.jls_copy.specs.ReaderState.{reading, closed_at_end, found, number_of, bytes_of, fed}
use Rattle.jls_copy.specs.Sound.{IsOpenPiece, IsPlace}
use Rattle.jls_copy.specs.TellingLaws.{StandsAt}
use Rattle.jls_copy.specs.Tells.{FedAs, AlikePieces}
use Rattle.jls_copy.specs.declared.piece.OpenPiece.{OpenPiece}
use Rattle.jls_copy.specs.declared.piece.OpenPiece.TheVariants.{Within, Beyond}
use Rattle.jls_copy.specs.declared.scan.OpenScan.{OpenScan}
use Rattle.jls_copy.specs.declared.place.CopyPosition.{CopyPosition}
use Rattle.jls_copy.specs.declared.place.CopyPosition.TheVariants.{Start, AtMarker, AtLength, InLength, InPayload, InScan, Done}
use Rattle.jls_copy.proofs.CourseFed.{course_fed}
use Rattle.jls_copy.proofs.CutOutcomes.{CutFinishes}
use Rattle.jls_copy.proofs.OneCourse.{one_course}
use Rattle.jls_copy.proofs.Outcomes.{decoding_is}
use Rattle.jls_copy.proofs.Prefixes.{Stands, alike_of, among_all, at_once, of_alike, stands_from}
use Rattle.jls_copy.proofs.ScansOfCourse.{byte_parts}
use Rattle.jls_copy.proofs.TellingLaws.{pieces_stand_at_their_offsets}
use Rattle.jls_copy.proofs.Gathering.{from_append}
use Rattle.jls_marker.specs.declared.profile.Profile.{Profile}

-- Bytes of pieces --------------------------------------------------------------------------------------------------

standing_bytes : (copy : List ℕ) (offset : ℕ) (bytes : List ℕ) → AreBytes copy → StandsAt copy offset bytes → AreBytes bytes
standing_bytes copy offset bytes low s =
    (byte_parts bytes s.back (byte_parts s.prefix (bytes ++ s.back) (subst AreBytes s.copy_is low)).1).0

-- each piece of a copy has bytes
piece_bytes : (profile : Profile) (copy : List ℕ) (c : Course) → AreBytes copy → IsCourseUnder profile copy c → (p : FoundPiece)
    → Contains (pieces c) p
    → AreBytes p.bytes
piece_bytes profile copy c low is p m =
    standing_bytes copy p.offset p.bytes low
    (all_at (λ q. StandsAt copy q.offset q.bytes) (pieces c) p (pieces_stand_at_their_offsets profile copy c is) m)

-- the piece that the input's end closes is one of all
last_among : (ps : List FoundPiece) (q : FoundPiece) → Contains (last_piece ps) q → Contains ps q
last_among [] q m = m
last_among (p ∷ []) q m = m
last_among (p ∷ r ∷ ps) q m = in_rest q p (r ∷ ps) (last_among (r ∷ ps) q m)

-- the piece that the input's end closes is one of all pieces
cut_among : (c : Course) (q : FoundPiece) → Contains (cut_pieces c) q → Contains (pieces c) q
cut_among c q m = by (closed_by_input c.units) m
  where
    by : (b : Bool) → Contains (if b then last_piece (pieces c) else []) q → Contains (pieces c) q
    by true h = last_among (pieces c) q h
    by false h = absurd (none_in q h)

-- First lines ------------------------------------------------------------------------------------------------------

none_is_not_some : (lines : List (List ℕ)) → lines ≡ [] → 0 < length lines → ⊥
none_is_not_some lines e l = let n : length lines ≡ 0 = ap length e in omega (arith, n, l)

module _ (i : PieceShape) (bytes : List ℕ) (low : AreBytes bytes) (lines : List (List ℕ)) (some : 0 < length lines) where
  -- a piece of which these are the first lines begins with their code
  begins : AreFirst i bytes lines → BeginsWithLines i bytes lines
  begins (inl reads) =
      let count : length lines ≡ i.line_count = reads.begins.are_lines.count_is in
      record {
        at_most = omega (arith, count);
        unread = reads.unread;
        begins = record {
          are_bytes = low;
          are_lines = subst (λ n. AreLines i.params i.width n lines) (sym count) reads.begins.are_lines;
          whole_rows = reads.begins.whole_rows;
          data_bits = reads.begins.data_bits;
        };
      }
  begins (inr (inl (whole, inl (cut, f)))) =
      let b = f.begins in
      let l = length-append lines b.others in let l1 = ap length b.lines_are in let l2 = cut.are_lines.count_is in
      record {
        at_most = omega (arith, l, l1, l2);
        unread = b.unread;
        begins = record {
          are_bytes = low;
          are_lines = prefix_lines i.params i.width i.line_count cut.lines lines b.others cut.are_lines b.lines_are;
          whole_rows = b.whole_rows;
          data_bits = record { whole = whole; read = b.given_is };
        };
      }
  begins (inr (inl (whole, inr (none, e)))) = absurd (none_is_not_some lines e some)
  begins (inr (inr (unwhole, e))) = absurd (none_is_not_some lines e some)

-- the lines of a head, as a decoder answers them
of_cut : (i : PieceShape) (bytes : List ℕ) (head : List (List ℕ)) (fault : PieceFault) → CutEndIs i bytes (Head head fault)
    → AreFirst i bytes head
of_cut i bytes head piece_fault.Long h = inr h.1
of_cut i bytes head piece_fault.Broken h = inr h.1
of_cut i bytes head piece_fault.OutOfMemory h = absurd h

first_ok : {X Y : Type 0} (r : Result X Y) (f : X → List (List ℕ)) (i : PieceShape) (bytes : List ℕ) (head : List (List ℕ))
    → AreFirst i bytes head → IfOk r (λ x. f x ≡ head) → IfOk r (λ x. AreFirst i bytes (f x))
first_ok (Ok x) f i bytes head a e = subst (AreFirst i bytes) (sym e) a
first_ok (Err y) f i bytes head a e = tt

-- the head that a decoder answers is the first lines of its piece
pub head_first : {X Y : Type 0} (d : PieceBytes) (head : List (List ℕ)) (fault : PieceFault) (r : Result X Y)
    (f : X → List (List ℕ)) → CutFinishes d (Head head fault) → IfOk r (λ x. f x ≡ head)
    → IfSome d.bytes (λ bytes. IfOk r (λ x. AreFirst (piece_asked d) bytes (f x)))
head_first d head fault r f said e = by d.bytes said
  where
    by : (o : Option (List ℕ)) → IfSome o (λ bytes. CutEndIs (piece_asked d) bytes (Head head fault))
        → IfSome o (λ bytes. IfOk r (λ x. AreFirst (piece_asked d) bytes (f x)))
    by None s = tt
    by (Some bytes) s = first_ok r f (piece_asked d) bytes head (of_cut (piece_asked d) bytes head fault s) e

-- bytes that begin with the code of some lines begin so with more bytes, if all are whole
begins_longer : (i : PieceShape) (bytes more : List ℕ) (lines : List (List ℕ)) → AreBytes (bytes ++ more)
    → is_whole (bytes ++ more) ≡ true → BeginsWithLines i bytes lines → BeginsWithLines i (bytes ++ more) lines
begins_longer i bytes more lines low whole b =
    let following = bits_read_after (last_after 0 bytes) more in
    let first = piece_code i lines in
    record {
      at_most = b.at_most;
      unread = b.unread ++ following;
      begins = record {
        are_bytes = low;
        are_lines = b.begins.are_lines;
        whole_rows = b.begins.whole_rows;
        data_bits = record {
          whole = whole;
          read = data_append 0 bytes more b.begins.data_bits.whole ∙ ap (λ v. v ++ following) b.begins.data_bits.read
              ∙ append_assoc first b.unread following;
        };
      };
    }

-- What a reader has ------------------------------------------------------------------------------------------------

-- an open piece, as its scan's interval
open_first : (s : Scan) (piece : OpenPiece) (interval : ℕ) (lines : List (List ℕ)) → IsOpenPiece s piece → OpenHolds piece interval lines
    → (number_of piece ≡ Interval interval) × (0 < length lines) × AreFirst (interval_of s interval) (bytes_of piece) lines
open_first s (Within k d) interval lines is h =
    let g : AreFirst (interval_of s k) is.bytes lines =
    subst (λ (x : PieceBytes). IfSome x.bytes (λ bytes. AreFirst (piece_asked x) bytes lines)) (decoding_is s k d is) h.2 in
    let own : AreFirst (interval_of s k) (bytes_of (Within k d)) lines =
    subst (λ b. AreFirst (interval_of s k) b lines) (sym (ap fed is.bytes_are)) g in
    (ap Interval h.0, h.1, subst (λ n. AreFirst (interval_of s n) (bytes_of (Within k d)) lines) h.0 own)
open_first s (Beyond k) interval lines is h = absurd h

-- what was fed is the bytes of a piece with first lines
fed_of_first : (i : PieceShape) (n : PieceNumber) (interval : ℕ) (bytes piece : List ℕ) (lines : List (List ℕ)) → n ≡ Interval interval
    → FedAs n bytes piece → 0 < length lines → AreFirst i bytes lines → bytes ≡ piece
fed_of_first i n interval bytes piece lines e alike some a = by (subst (λ m. FedAs m bytes piece) e alike) a
  where
    by : FedAs (Interval interval) bytes piece → AreFirst i bytes lines → bytes ≡ piece
    by (inl same) h = same
    by (inr not) (inl reads) = let whole : is_whole bytes ≡ true = reads.begins.data_bits.whole in absurd cc
    by (inr not) (inr (inl (whole, h))) = absurd cc
    by (inr not) (inr (inr (unwhole, none))) = absurd (none_is_not_some lines none some)

-- an empty list aside, some lines are held
pub some_mapped : {X : Type 0} (xs : List X) (f : X → List ℕ) → (length xs == 0) ≡ false → 0 < length (map f xs)
some_mapped [] f e = absurd cc
some_mapped (x ∷ xs) f e = omega arith

-- a place in scan data, whose open piece has a number, and what a second decoder that was fed the same bytes gives
pub place_holds : (p : CopyPosition) (scan : OpenScan) (k : ℕ) (d clone : PieceBytes) (plan : Scan) (lines : List (List ℕ))
    → p ≡ InScan scan → scan.piece ≡ Within k d → clone ≡ d → plan ≡ scan.plan → 0 < length lines
    → IfSome clone.bytes (λ bytes. AreFirst (piece_asked clone) bytes lines) → PlaceHolds p plan k scan.offset lines
place_holds p scan k d clone plan lines e f g h l a =
    let own = subst (λ x. IfSome x.bytes (λ bytes. AreFirst (piece_asked x) bytes lines)) g a in
    let piece : OpenHolds scan.piece k lines = subst (λ o. OpenHolds o k lines) (sym f) (refl, l, own) in
    subst (λ q. PlaceHolds q plan k scan.offset lines) (sym e) (sym h, refl, piece)

-- of what was found, if something was
pub of_found : {X Y : Type 0} (r : Result (Option X) Y) (P Q : X → Type 0) → ((x : X) → P x → Q x)
    → IfOk r (λ found. IfSome found P) → IfOk r (λ found. IfSome found Q)
of_found (Ok None) P Q f h = tt
of_found (Ok (Some x)) P Q f h = f x h
of_found (Err e) P Q f h = tt

-- the piece that a reader's place holds is in hand after the bytes so far, with these first lines
pub in_hand_fed : (profile : Profile) (bytes : List ℕ) → AllByRecursion (λ b. b < 256) bytes
    → (frame : Option PictureShape) (payload : List ℕ)
    (p : CopyPosition) → p ≡ (reading profile bytes).state.place → IsPlace frame p payload
    → (plan : Scan) (interval offset : ℕ) (lines : List (List ℕ)) → PlaceHolds p plan interval offset lines
    → IsInHandUnder profile bytes plan interval offset lines
in_hand_fed profile bytes low frame payload (Start fill) e is plan interval offset lines h = absurd h
in_hand_fed profile bytes low frame payload (AtMarker fill) e is plan interval offset lines h = absurd h
in_hand_fed profile bytes low frame payload (AtLength marker code) e is plan interval offset lines h = absurd h
in_hand_fed profile bytes low frame payload (InLength marker code high) e is plan interval offset lines h = absurd h
in_hand_fed profile bytes low frame payload (InPayload marker code size) e is plan interval offset lines h = absurd h
in_hand_fed profile bytes low frame payload (Done end) e is plan interval offset lines h = absurd h
in_hand_fed profile bytes low frame payload (InScan scan) e is plan interval offset lines h =
    let t = course_fed profile bytes low in
    let cut : AlikePieces (found scan ∷ []) (cut_pieces t.0) = subst (λ p. AlikePieces (closed_at_end p) (cut_pieces t.0)) (sym e) t.5 in
    let q = alike_of (found scan ∷ []) (cut_pieces t.0) (found scan) cut (is_first (found scan) []) in
    let among = cut_among t.0 q.0 q.1 in
    let own = open_first scan.plan scan.piece interval lines is.0.1 h.2 in
    let number : q.0.number ≡ Interval interval = sym q.2.number_is ∙ own.0 in
    let same : bytes_of scan.piece ≡ q.0.bytes =
    fed_of_first (interval_of scan.plan interval) q.0.number interval (bytes_of scan.piece) q.0.bytes lines number q.2.fed_as own.1 own.2 in
    let first : AreFirst (interval_of plan interval) q.0.bytes lines =
    subst (λ s. AreFirst (interval_of s interval) q.0.bytes lines) h.0
    (subst (λ b. AreFirst (interval_of scan.plan interval) b lines) same own.2) in
    record {
      course = t.0;
      is_course = t.1;
      piece = q.0;
      in_hand = q.1;
      plan_is = sym q.2.plan_is ∙ h.0;
      number_is = number;
      offset_is = sym q.2.offset_is ∙ h.1;
      some_line = own.1;
      begins = begins (interval_of plan interval) q.0.bytes (piece_bytes profile bytes t.0 low t.1 q.0 among) lines own.1 first;
    }

-- Longer -----------------------------------------------------------------------------------------------------------

-- the law: each longer list of bytes has a piece in this place, which begins with the same lines if its bytes are whole
pub prefixes_go_on : (profile : Profile) → PrefixesGoOnUnder profile
prefixes_go_on profile prefix more low plan interval offset lines h d is =
    let t = course_fed profile prefix (byte_parts prefix more low).0 in
    let here : Contains (cut_pieces t.0) h.piece =
    subst (λ c. Contains (cut_pieces c) h.piece) (one_course prefix h.course t.0 h.is_course t.1) h.in_hand in
    let p = of_alike (closed_at_end (reading profile prefix).state.place) (cut_pieces t.0) h.piece t.5 here in
    let stood : Stands (reading profile (prefix ++ more)) p.0 =
    subst (λ r. Stands r p.0) (sym (from_append _ prefix more))
    (stands_from (reading profile prefix) more p.0 (p.0, inr p.1, at_once p.0)) in
    let u = course_fed profile (prefix ++ more) low in
    let q = alike_of (all_pieces (reading profile (prefix ++ more))) (pieces u.0) stood.0 u.4
    (among_all (reading profile (prefix ++ more)) stood.0 stood.1) in
    let among : Contains (pieces d) q.0 = subst (λ e. Contains (pieces e) q.0) (one_course (prefix ++ more) u.0 d u.1 is) q.1 in
    let number : q.0.number ≡ Interval interval = sym q.2.number_is ∙ stood.2.number ∙ p.2.number_is ∙ h.number_is in (
      q.0,
      among,
      sym q.2.plan_is ∙ stood.2.plan ∙ p.2.plan_is ∙ h.plan_is,
      number,
      sym q.2.offset_is ∙ stood.2.offset ∙ p.2.offset_is ∙ h.offset_is,
      λ whole.
          let own : p.0.bytes ≡ h.piece.bytes =
          fed_whole_right h.piece.number interval p.0.bytes h.piece.bytes h.number_is p.2.fed_as h.begins.begins.data_bits.whole in
          let longer : stood.0.bytes ≡ q.0.bytes = fed_whole_right q.0.number interval stood.0.bytes q.0.bytes number q.2.fed_as whole in
          let bytes_are : q.0.bytes ≡ h.piece.bytes ++ stood.2.tail =
          sym longer ∙ stood.2.bytes ∙ ap (λ b. b ++ stood.2.tail) own in
          subst (λ b. BeginsWithLines (interval_of plan interval) b lines) (sym bytes_are)
          (begins_longer (interval_of plan interval) h.piece.bytes stood.2.tail lines
          (subst AreBytes bytes_are (piece_bytes profile (prefix ++ more) d low is q.0 among))
          (subst (λ b. is_whole b ≡ true) bytes_are whole) h.begins),
    )
  where
    fed_whole_right : (n : PieceNumber) (k : ℕ) (bytes piece : List ℕ) → n ≡ Interval k → FedAs n bytes piece → is_whole piece ≡ true
        → bytes ≡ piece
    fed_whole_right n k bytes piece e alike whole = by (subst (λ m. FedAs m bytes piece) e alike)
      where
        by : FedAs (Interval k) bytes piece → bytes ≡ piece
        by (inl same) = same
        by (inr not) = absurd cc
