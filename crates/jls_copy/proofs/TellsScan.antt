-- A byte of scan data, over what a reader's place tells.
use Rattle.std.proofs.Common.{◌≡◌, ℕ, zero, suc, ◌+◌, ◌-◌, ◌<◌, ◌≢◌, true, false, List, [], ◌∷◌, ◌++◌, length, refl, sym, ◌∙◌, ap, subst}
use Rattle.std.proofs.Common.{append_assoc, add-zero, arith, ◌⊎◌, inl, inr, length-append}
use Rattle.std.specs.Prelude.{is_some, ◌==◌}
use Rattle.std.proofs.lemmas.List.{append-nil}
use Rattle.std.proofs.lemmas.Grind.{flat_map-append}
use Rattle.std.proofs.lemmas.Bool.{cases_eq, cases_Bool}
use Rattle.std.proofs.lemmas.Bool.Decides.{nat_tests}
use Rattle.std.specs.List.{flat_map, AllByRecursion}
use Rattle.jls_copy.proofs.HeaderFacts.{scan_has_frame}
use Rattle.jls_copy.specs.ScanData.{fill_bytes, ClosedPiece, IsClosedPiece, IsPiece, closed_bytes, ends_scan_data}
use Rattle.jls_copy.specs.ScanData.{is_restart_code, closes_piece}
use Rattle.jls_copy.specs.Numbers.{PieceNumber, Interval, BeyondLast, number_after, given_last}
use Rattle.jls_marker.specs.HeaderState.{HeaderState}
use Rattle.jls_marker.specs.Scan.{Scan, intervals}
use Rattle.jls_marker.specs.MarkerCodes.{has_segment}
use Rattle.jls_copy.specs.Pieces.{FoundPiece, piece_begun}
use Rattle.jls_copy.specs.Course.{by_marker, CopyUnit, scan, segment_unit_bytes, unit_bytes}
use Rattle.jls_copy.specs.Pieces.{pieces_from}
use Rattle.jls_copy.specs.ReaderState as state
use Rattle.jls_copy.specs.ReaderState.{class_of, one_more, held_bytes, piece_with, piece_opened, number_of, bytes_of, found, scan_with}
use Rattle.jls_copy.specs.ReaderState.{scan_after}
use Rattle.jls_copy.specs.Tells.{SameBytes, HeldIs, FedAs, IsFed, AlikePiece, AlikePieces, Passed, passed_scan, ScanPieces, InScanData}
use Rattle.jls_copy.specs.Tells.{Tells, given_after}
use Rattle.jls_copy.specs.declared.piece.OpenPiece.{OpenPiece}
use Rattle.jls_copy.specs.declared.piece.OpenPiece.TheVariants as open_piece
use Rattle.jls_copy.specs.declared.scan.Held.{Held}
use Rattle.jls_copy.specs.declared.scan.Held.TheVariants.{Nothing, One, More}
use Rattle.jls_copy.specs.declared.scan.ByteClass.TheVariants.{Fill, Mark, Stop, Data}
use Rattle.jls_copy.specs.declared.scan.OpenScan.{OpenScan}
use Rattle.jls_copy.proofs.Alike.{same_more}
use Rattle.jls_copy.proofs.OneMoreByte.{piece_more, each_more, fills_more}
use Rattle.jls_copy.proofs.TellsMore.{fill_length, fill_marker_more, fill_snoc}
use Rattle.jls_marker.specs.declared.profile.Profile.{Profile}

-- the class of a byte, with what it says of the byte
data ClassIs : Held → ℕ → ℕ → Type 0 where
  is_fill : (held : Held) (n b : ℕ) → class_of held b ≡ Fill → b ≡ 255 → ClassIs held n b
  is_mark : (held : Held) (n b : ℕ) → class_of held b ≡ Mark → 0 < n → is_restart_code b ≡ true → ClassIs held n b
  is_stop : (held : Held) (n b : ℕ) → class_of held b ≡ Stop → 0 < n → b ≢ 255 → ends_scan_data b ≡ true → ClassIs held n b
  is_data : (held : Held) (n b : ℕ) → class_of held b ≡ Data → b ≢ 255 → (0 < n → closes_piece b ≡ false) → ClassIs held n b

-- what a byte of scan data does, by whether it is FF, the code of a restart marker, or one that ends scan data
class_is : (held : Held) (n b : ℕ) → HeldIs held n → (b ≡ 255) ⊎ (b ≢ 255) → (is_restart_code b ≡ true) ⊎ (is_restart_code b ≡ false)
    → (ends_scan_data b ≡ true) ⊎ (ends_scan_data b ≡ false) → ClassIs held n b
class_is Nothing n b h (inl e) r s = is_fill Nothing n b (rw e refl) e
class_is One n b h (inl e) r s = is_fill One n b (rw e refl) e
class_is More n b h (inl e) r s = is_fill More n b (rw e refl) e
class_is Nothing n b h (inr ne) r s =
    let f : (b == 255) ≡ false = grind (arith, nat_tests) in is_data Nothing n b (rw f refl) ne (λ k. absurd (omega (arith, h)))
class_is One n b h (inr ne) (inl r) s =
    let f : (b == 255) ≡ false = grind (arith, nat_tests) in is_mark One n b (rw (f, r) refl) (omega (arith, h)) r
class_is One n b h (inr ne) (inr r) (inl s) =
    let f : (b == 255) ≡ false = grind (arith, nat_tests) in is_stop One n b (rw (f, r, s) refl) (omega (arith, h)) ne s
class_is One n b h (inr ne) (inr r) (inr s) =
    let f : (b == 255) ≡ false = grind (arith, nat_tests) in is_data One n b (rw (f, r, s) refl) ne (λ k. rw (r, s) refl)
class_is More n b h (inr ne) (inl r) s =
    let f : (b == 255) ≡ false = grind (arith, nat_tests) in is_mark More n b (rw (f, r) refl) (omega (arith, h.1)) r
class_is More n b h (inr ne) (inr r) (inl s) =
    let f : (b == 255) ≡ false = grind (arith, nat_tests) in is_stop More n b (rw (f, r, s) refl) (omega (arith, h.1)) ne s
class_is More n b h (inr ne) (inr r) (inr s) =
    let f : (b == 255) ≡ false = grind (arith, nat_tests) in is_data More n b (rw (f, r, s) refl) ne (λ k. rw (r, s) refl)

more_held : (held : Held) (n : ℕ) → HeldIs held n → HeldIs (one_more held) (suc n)
more_held Nothing n h = ap suc h
more_held One n h = (0, ap suc h)
more_held More n h = (suc h.0, ap suc h.1)

-- pieces that are alike, and one more
pub alike_more : (ps qs : List FoundPiece) (p q : FoundPiece) → AlikePieces ps qs → AlikePiece p q
    → AlikePieces (ps ++ p ∷ []) (qs ++ q ∷ [])
alike_more [] [] p q h a = (a, tt)
alike_more [] (y ∷ qs) p q h a = absurd h
alike_more (x ∷ ps) [] p q h a = absurd h
alike_more (x ∷ ps) (y ∷ qs) p q h a = (h.0, alike_more ps qs p q h.1 a)

-- one piece more is closed: those before it stay as they are
pieces_snoc : (index : ℕ) (s : Scan) (given : ℕ) (number : PieceNumber) (at : ℕ) (cs : List ClosedPiece) (c : ClosedPiece) (w : List ℕ)
    → pieces_from (piece_begun index s number at) given (cs ++ c ∷ []) w
    ≡ pieces_from (piece_begun index s number at) given cs c.piece
    ++ record {
      scan = index;
      plan = s;
      number = number_after (intervals s) (given_after (intervals s) given cs) c.mark;
      offset = at
          + length (flat_map closed_bytes cs) + length (closed_bytes c);
      bytes = w;
    } ∷ []
pieces_snoc index s given number at [] c w = rw add-zero refl
pieces_snoc index s given number at (x ∷ cs) c w =
    let next = number_after (intervals s) given x.mark in
    let e : at + length (closed_bytes x) + length (flat_map closed_bytes cs) ≡ at + length (closed_bytes x ++ flat_map closed_bytes cs) =
    omega (arith, length-append (closed_bytes x) (flat_map closed_bytes cs)) in
    ap (λ t. record { scan = index; plan = s; number = number; offset = at; bytes = x.piece } ∷ t)
    (pieces_snoc index s (given_last given next) next (at + length (closed_bytes x)) cs c w ∙ rw e refl)

given_snoc : (n given : ℕ) (cs : List ClosedPiece) (c : ClosedPiece)
    → given_after n given (cs ++ c ∷ []) ≡ given_last (given_after n given cs) (number_after n (given_after n given cs) c.mark)
given_snoc n given [] c = refl
given_snoc n given (x ∷ cs) c = given_snoc n (given_last given (number_after n given x.mark)) cs c

-- an open piece that is fed more
number_with : (p : OpenPiece) (more : List ℕ) → number_of (piece_with p more) ≡ number_of p
number_with (open_piece.Within k d) more = refl
number_with (open_piece.Beyond k) more = refl

fed_with : (p : OpenPiece) (more : List ℕ) → IsFed p → IsFed (piece_with p more)
fed_with (open_piece.Within k d) more (bytes, e) = (bytes ++ more, rw e refl)
fed_with (open_piece.Beyond k) more t = tt

-- what is fed of a piece goes on as the piece does
fed_more : (p : OpenPiece) (w : List ℕ) (held : Held) (n b : ℕ) → HeldIs held n → IsFed p → FedAs (number_of p) (bytes_of p) w
    → FedAs (number_of (piece_with p (held_bytes held ++ b ∷ []))) (bytes_of (piece_with p (held_bytes held ++ b ∷ [])))
    (w ++ (fill_bytes n ++ b ∷ []))
fed_more (open_piece.Within k d) w held n b h (bytes, e) t = let u : SameBytes bytes w = rw e at t in rw e (same_more bytes w held n b h u)
fed_more (open_piece.Beyond k) w held n b h i t = tt

opened_number : (s : Scan) (number : PieceNumber) → number_of (piece_opened s number) ≡ number
opened_number s (Interval k) = refl
opened_number s (BeyondLast k) = refl

opened_fed : (s : Scan) (number : PieceNumber) → IsFed (piece_opened s number)
opened_fed s (Interval k) = ([], refl)
opened_fed s (BeyondLast k) = tt

opened_as : (s : Scan) (number : PieceNumber) → FedAs (number_of (piece_opened s number)) (bytes_of (piece_opened s number)) []
opened_as s (Interval k) = inl refl
opened_as s (BeyondLast k) = tt

module _ (profile : Profile) (o : OpenScan) (h : HeaderState) (ps : List FoundPiece) (x : List ℕ)
    (d : InScanData profile o h ps x) (b : ℕ) where
  abbrev start : ℕ
  start = length d.before + length (segment_unit_bytes d.fill d.code d.payload)

  -- the scan goes on, with what the byte changes of it
  goes_on : (last : ℕ) (held : Held) (offset : ℕ) (opened : OpenPiece) (qs : List FoundPiece)
      → (closed : List ClosedPiece) → AllByRecursion IsClosedPiece closed → (piece : List ℕ) → IsPiece piece
      → (prefix : List FoundPiece) → ScanPieces d.old.scans o.plan start closed prefix (number_of opened) offset
      → last ≡ given_after (intervals o.plan) 0 closed → offset ≡ start + length (flat_map closed_bytes closed)
      → (here : List FoundPiece) → AlikePieces here prefix → FedAs (number_of opened) (bytes_of opened) piece → IsFed opened
      → (n : ℕ) → HeldIs held n → qs ≡ d.earlier ++ here
      → x ++ b ∷ [] ≡ d.before ++ (segment_unit_bytes d.fill d.code d.payload ++ (flat_map closed_bytes closed ++ (piece ++ fill_bytes n)))
      → InScanData profile (record o { last = last; held = held; offset = offset; piece = opened }) h qs (x ++ b ∷ [])
  goes_on last held offset opened qs closed each piece piece_is prefix pieces_are given_is offset_is here alike fed_as fed_is n held_is
      found_are whole = record {
        before = d.before;
        old = d.old;
        units = d.units;
        earlier = d.earlier;
        following = d.following;
        passed = d.passed;
        fill = d.fill;
        code = d.code;
        payload = d.payload;
        known = d.known;
        size = d.size;
        follows = d.follows;
        plan_is = d.plan_is;
        index_is = d.index_is;
        closed = closed;
        each = each;
        piece = piece;
        piece_is = piece_is;
        prefix = prefix;
        pieces_are = pieces_are;
        given_is = given_is;
        offset_is = offset_is;
        here = here;
        here_alike = alike;
        fed_as = fed_as;
        fed_is = fed_is;
        held = n;
        held_is = held_is;
        found_are = found_are;
        whole = whole;
      }

  fill_tells : b ≡ 255 → InScanData profile (record o { held = one_more o.held }) h (ps ++ []) (x ++ b ∷ [])
  fill_tells e = goes_on o.last (one_more o.held) o.offset o.piece (ps ++ []) d.closed d.each d.piece d.piece_is d.prefix d.pieces_are
      d.given_is d.offset_is d.here d.here_alike d.fed_as d.fed_is (suc d.held) (more_held o.held d.held d.held_is)
      (append-nil ps ∙ d.found_are) (ap (λ y. y ++ b ∷ []) d.whole ∙ rw e (simp append_assoc (rw fill_snoc refl)))

  -- a byte of the piece leads on in the scan data
  data_tells : b ≢ 255 → (0 < d.held → closes_piece b ≡ false) → InScanData profile (scan_with o b) h (ps ++ []) (x ++ b ∷ [])
  data_tells ne free =
      goes_on o.last Nothing o.offset (piece_with o.piece (held_bytes o.held ++ b ∷ [])) (ps ++ []) d.closed d.each
      (d.piece ++ (fill_bytes d.held ++ b ∷ [])) (piece_more d.piece d.held b d.piece_is ne free) d.prefix (rw number_with d.pieces_are)
      d.given_is d.offset_is d.here d.here_alike (fed_more o.piece d.piece o.held d.held b d.held_is d.fed_is d.fed_as)
      (fed_with o.piece _ d.fed_is) 0 refl (append-nil ps ∙ d.found_are)
      (ap (λ y. y ++ b ∷ []) d.whole ∙ simp (append_assoc, append-nil) refl)

  pub alike_now : AlikePiece (found o)
      (record { scan = d.old.scans; plan = o.plan; number = number_of o.piece; offset = o.offset; bytes = d.piece })
  alike_now = record { scan_is = d.index_is; plan_is = refl; number_is = refl; offset_is = refl; fed_as = d.fed_as }

  -- after a restart marker the scan is at its next piece, with the one before found
  mark_tells : (m count : ℕ) → d.held ≡ suc m → is_restart_code b ≡ true → count ≡ length x
      → InScanData profile (scan_after o (number_after (intervals o.plan) o.last (b - 208)) (count + 1)) h (ps ++ found o ∷ [])
      (x ++ b ∷ [])
  mark_tells m count hm r c =
      let low : b - 208 < 8 = grind (arith, nat_tests) in
      let back : 208 + (b - 208) ≡ b = grind (arith, nat_tests) in
      let closing : ClosedPiece = record { piece = d.piece; fill = m; mark = b - 208 } in
      let given : o.last ≡ given_after (intervals o.plan) 0 d.closed = d.given_is in
      let bytes : x ++ b ∷ [] ≡ d.before
      ++ (segment_unit_bytes d.fill d.code d.payload ++ (flat_map closed_bytes (d.closed ++ closing ∷ []) ++ ([] ++ []))) =
      ap (λ y. y ++ b ∷ []) d.whole ∙ rw hm (simp (append_assoc, append-nil, flat_map-append, ← fills_more m) (rw back refl)) in
      let size : count + 1 ≡ start + length (flat_map closed_bytes (d.closed ++ closing ∷ [])) =
      ap (λ n. n + 1) c ∙ sym (length-append x (b ∷ [])) ∙ ap length bytes ∙ length-append d.before _
      ∙ (omega (
        arith,
        length-append (segment_unit_bytes d.fill d.code d.payload) (flat_map closed_bytes (d.closed ++ closing ∷ []) ++ []),
        ap length (append-nil (flat_map closed_bytes (d.closed ++ closing ∷ []))),
      )) in
      let number : PieceNumber = number_after (intervals o.plan) o.last (b - 208) in
      let now : FoundPiece = record { scan = d.old.scans; plan = o.plan; number = number_of o.piece; offset = o.offset; bytes = d.piece } in
      goes_on (given_last o.last number) Nothing (count + 1) (piece_opened o.plan number) (ps ++ found o ∷ []) (d.closed ++ closing ∷ [])
      (each_more d.closed closing d.each (d.piece_is, low)) [] tt (d.prefix ++ now ∷ [])
      (λ w. pieces_snoc d.old.scans o.plan 0 (Interval 0) start d.closed closing w
      ∙ rw (d.pieces_are d.piece, opened_number, ← given, size)
      (ap (λ k. (d.prefix ++ now ∷ []) ++ record { scan = d.old.scans; plan = o.plan; number = number; offset = k; bytes = w } ∷ [])
      (shut d.before closing)))
      (rw (given_snoc, ← given) refl) size (d.here ++ found o ∷ []) (alike_more d.here d.prefix (found o) _ d.here_alike alike_now)
      (opened_as o.plan number) (opened_fed o.plan number) 0 refl
      (ap (λ y. y ++ found o ∷ []) d.found_are ∙ append_assoc d.earlier d.here (found o ∷ [])) bytes
    where
      shut : (before : List ℕ) (closing : ClosedPiece)
          → start + length (flat_map closed_bytes d.closed) + length (closed_bytes closing)
          ≡ start + length (flat_map closed_bytes (d.closed ++ closing ∷ []))
      shut before closing = rw (flat_map-append, append-nil)
          (omega (arith, length-append (flat_map closed_bytes d.closed) (closed_bytes closing)))

  -- after the code of a marker that ends scan data, the place tells of that marker, with the last piece found
  stop_tells : (payload : List ℕ) (m count : ℕ) → d.held ≡ suc m → b ≢ 255 → ends_scan_data b ≡ true → count ≡ length x
      → Tells profile (state.from_marker true true count b) h payload (ps ++ found o ∷ []) (x ++ b ∷ [])
  stop_tells payload m count hm ne s c =
      let unit : CopyUnit = scan d.fill d.code d.payload o.plan d.closed d.piece by_marker in
      let y : List ℕ = d.before ++ unit_bytes unit in
      let alike : AlikePieces (d.here ++ found o ∷ [])
      (pieces_from (piece_begun d.old.scans o.plan (Interval 0) start) 0 d.closed d.piece) =
      subst (AlikePieces (d.here ++ found o ∷ [])) (sym (d.pieces_are d.piece))
      (alike_more d.here d.prefix (found o) _ d.here_alike alike_now) in
      let passed : Passed profile y h (d.units ++ unit ∷ []) (d.earlier ++ (d.here ++ found o ∷ [])) true =
      passed_scan d.before d.old d.units d.earlier d.following d.passed d.fill d.code d.payload h y d.known d.size d.follows o.plan
      d.plan_is d.closed d.piece (d.here ++ found o ∷ []) d.each d.piece_is alike refl in
      let all : x ≡ y ++ fill_bytes (suc m) = d.whole ∙ rw hm (simp (append_assoc, append-nil) refl) in
      let bytes : y ++ (fill_bytes (suc m) ++ b ∷ []) ≡ x ++ b ∷ [] = rw all (sym (append_assoc y (fill_bytes (suc m)) (b ∷ []))) in
      let pieces : d.earlier ++ (d.here ++ found o ∷ []) ≡ ps ++ found o ∷ [] =
      rw d.found_are (sym (append_assoc d.earlier d.here (found o ∷ []))) in
      let size : count ≡ length y + suc m = c ∙ ap length all ∙ length-append y (fill_bytes (suc m))
      ∙ ap (λ k. length y + k) (fill_length (suc m)) in
      let framed : is_some h.frame ≡ true = scan_has_frame d.old h d.code d.payload o.plan d.plan_is in
      let fed : Tells profile (state.from_marker true (is_some h.frame) count b) h payload (d.earlier ++ (d.here ++ found o ∷ []))
      (y ++ (fill_bytes (suc m) ++ b ∷ [])) =
      fill_marker_more profile y h (d.units ++ unit ∷ []) (d.earlier ++ (d.here ++ found o ∷ [])) true payload m b count passed size
      (λ _. s)
      (inr ne) (cases_eq b 217) (inl framed) (cases_Bool (has_segment b)) (inl refl) in
      subst (λ q. Tells profile (state.from_marker true q count b) h payload (ps ++ found o ∷ []) (x ++ b ∷ [])) framed
      (subst (λ q. Tells profile (state.from_marker true (is_some h.frame) count b) h payload q (x ++ b ∷ [])) pieces
      (subst (λ q. Tells profile (state.from_marker true (is_some h.frame) count b) h payload (d.earlier ++
      (d.here ++ found o ∷ [])) q) bytes fed))

-- a byte more of scan data: its place tells the course of the bytes with this one
pub scan_more : (profile : Profile) (o : OpenScan) (h : HeaderState) (ps : List FoundPiece) (x : List ℕ)
    (d : InScanData profile o h ps x) (b : ℕ) (payload : List ℕ)
    (count : ℕ)
    → count ≡ length x
    → Tells profile (state.from_scan (class_of o.held b) o count b) h payload (ps ++ state.closed_by (class_of o.held b) o) (x ++ b ∷ [])
scan_more profile o h ps x d b payload count c =
    by (class_is o.held d.held b d.held_is (cases_eq b 255) (cases_Bool (is_restart_code b)) (cases_Bool (ends_scan_data b)))
  where
    some : (n : ℕ) → 0 < n → (m : ℕ) × (n ≡ suc m)
    some zero k = absurd (omega arith)
    some (suc m) k = (m, refl)

    by : ClassIs o.held d.held b
        → Tells profile (state.from_scan (class_of o.held b) o count b) h payload (ps ++ state.closed_by (class_of o.held b) o)
        (x ++ b ∷ [])
    by (is_fill _ _ _ e f) = rw e (fill_tells profile o h ps x d b f)
    by (is_data _ _ _ e ne free) = rw e (data_tells profile o h ps x d b ne free)
    by (is_mark _ _ _ e k r) = let m = some d.held k in rw e (mark_tells profile o h ps x d b m.0 count m.1 r c)
    by (is_stop _ _ _ e k ne s) = let m = some d.held k in rw e (stop_tells profile o h ps x d b payload m.0 count m.1 ne s c)
