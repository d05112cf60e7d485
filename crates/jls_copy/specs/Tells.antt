-- How a reader's place tells the course of the bytes so far. It concerns no caller.
use Rattle.std.specs.Prelude.{◌≡◌, ℕ, suc, ◌+◌, ◌/◌, ◌%◌, ◌^◌, ◌<◌, ◌≢◌, Bool, true, false, List, [], ◌∷◌, ◌++◌, length, Some, None, Ok}
use Rattle.std.specs.Prelude.{◌⊎◌}
use Rattle.std.specs.List.{flat_map, AllByRecursion}
use Rattle.jls_bits.specs.Bits.{is_whole}
use Rattle.jls_copy.specs.ScanData.{fill_bytes, ClosedPiece, closed_bytes, IsClosedPiece, IsPiece, ends_scan_data}
use Rattle.jls_copy.specs.Numbers.{PieceNumber, Interval, BeyondLast, number_after, given_last}
use Rattle.jls_marker.specs.declared.profile.Profile.{Profile}
use Rattle.jls_marker.specs.HeaderState.{HeaderState, no_headers_under}
use Rattle.jls_marker.specs.Scan.{Scan, intervals}
use Rattle.jls_marker.specs.MarkerCodes.{has_segment}
use Rattle.jls_marker.specs.Headers.{headers_after}
use Rattle.jls_copy.specs.Pieces.{FoundPiece, piece_begun}
use Rattle.jls_copy.specs.Course.{by_marker, CopyUnit, segment, scan, segment_unit_bytes, unit_bytes, EndsHere}
use Rattle.jls_copy.specs.Pieces.{pieces_from}
use Rattle.jls_copy.specs.ReaderState.{number_of, bytes_of}
use Rattle.jls_marker.specs.declared.fault.MarkerFault.TheVariants as fault
use Rattle.jls_copy.specs.declared.end.End.{End}
use Rattle.jls_copy.specs.declared.end.End.TheVariants.{Header}
use Rattle.jls_copy.specs.declared.piece.OpenPiece.{OpenPiece}
use Rattle.jls_copy.specs.declared.piece.OpenPiece.TheVariants as open_piece
use Rattle.jls_copy.specs.declared.scan.Held.{Held}
use Rattle.jls_copy.specs.declared.scan.Held.TheVariants.{Nothing, One, More}
use Rattle.jls_copy.specs.declared.scan.OpenScan.{OpenScan}
use Rattle.jls_copy.specs.declared.place.CopyPosition.{CopyPosition}
use Rattle.jls_copy.specs.declared.place.CopyPosition.TheVariants.{Start, AtMarker, AtLength, InLength, InPayload, InScan, Done}

-- the same bytes, or neither has data bits
abbrev pub SameBytes : List ℕ → List ℕ → Type 0
SameBytes fed piece = (fed ≡ piece) ⊎ ((is_whole fed ≡ false) × (is_whole piece ≡ false))

-- so many FF bytes are held so
abbrev pub HeldIs : Held → ℕ → Type 0
HeldIs Nothing n = n ≡ 0
HeldIs One n = n ≡ 1
HeldIs More n = (m : ℕ) × (n ≡ suc (suc m))

-- what was fed to the piece of a number; a piece beyond the last interval is fed nothing
abbrev pub FedAs : PieceNumber → List ℕ → List ℕ → Type 0
FedAs (Interval k) fed piece = SameBytes fed piece
FedAs (BeyondLast k) fed piece = Unit {0}

-- no push was refused
abbrev pub IsFed : OpenPiece → Type 0
IsFed (open_piece.Within k d) = (bytes : List ℕ) × (d.bytes ≡ Some bytes)
IsFed (open_piece.Beyond k) = Unit {0}

-- pieces that differ in their bytes at most, and have the same outcomes
pub record AlikePiece (p q : FoundPiece) : Type 0 where
  pub scan_is : p.scan ≡ q.scan
  pub plan_is : p.plan ≡ q.plan
  pub number_is : p.number ≡ q.number
  pub offset_is : p.offset ≡ q.offset
  pub fed_as : FedAs q.number p.bytes q.bytes

-- two lists of pieces are alike, piece by piece
abbrev pub AlikePieces : List FoundPiece → List FoundPiece → Type 0
AlikePieces [] [] = Unit {0}
AlikePieces (p ∷ ps) (q ∷ qs) = AlikePiece p q × AlikePieces ps qs
AlikePieces [] (q ∷ qs) = ⊥
AlikePieces (p ∷ ps) [] = ⊥

-- what begins after scan data: a marker that ends it
abbrev pub Follows : Bool → List ℕ → Type 0
Follows following tail = following ≡ true
    → (n : ℕ) × (code : ℕ) × (more : List ℕ) × (tail ≡ fill_bytes n ++ (0xFF ∷ code ∷ more)) × (ends_scan_data code ≡ true)

-- SOI and whole units: their bytes, the headers that they leave, the pieces that were found, and whether scan data was last
pub data Passed (profile : Profile) : List ℕ → HeaderState → List CopyUnit → List FoundPiece → Bool → Type 0 where
  passed_soi : (n : ℕ) (x : List ℕ) → x ≡ fill_bytes n ++ (0xFF ∷ 0xD8 ∷ []) → Passed profile x (no_headers_under profile) [] [] false
  passed_segment : (x : List ℕ) (h : HeaderState) (us : List CopyUnit) (ps : List FoundPiece) (following : Bool)
      → Passed profile x h us ps following
      → (n code : ℕ) (payload : List ℕ) (after : HeaderState) (y : List ℕ) → has_segment code ≡ true → length payload + 2 < 2 ^ 16
      → (following ≡ true → ends_scan_data code ≡ true) → headers_after h code payload ≡ Ok (after, None)
      → y ≡ x ++ segment_unit_bytes n code payload → Passed profile y after (us ++ segment n code payload ∷ []) ps false
  passed_scan : (x : List ℕ) (h : HeaderState) (us : List CopyUnit) (ps : List FoundPiece) (following : Bool)
      → Passed profile x h us ps following
      → (n code : ℕ) (payload : List ℕ) (after : HeaderState) (y : List ℕ) → has_segment code ≡ true → length payload + 2 < 2 ^ 16
      → (following ≡ true → ends_scan_data code ≡ true) → (s : Scan) → headers_after h code payload ≡ Ok (after, Some s)
      → (closed : List ClosedPiece) (last : List ℕ) (fs : List FoundPiece) → AllByRecursion IsClosedPiece closed → IsPiece last
      → AlikePieces fs
      (pieces_from (piece_begun h.scans s (Interval 0) (length x + length (segment_unit_bytes n code payload))) 0 closed last)
      → y ≡ x ++ unit_bytes (scan n code payload s closed last by_marker)
      → Passed profile y after (us ++ scan n code payload s closed last by_marker ∷ []) (ps ++ fs) true

-- after whole units and fill bytes stands the marker of a segment, and this much of it
pub record AtSegment (profile : Profile) (marker code : ℕ) (h : HeaderState) (ps : List FoundPiece) (x tail : List ℕ) : Type 0 where
  pub before : List ℕ
  pub fill : ℕ
  pub following : Bool
  pub units : List CopyUnit
  pub passed : Passed profile before h units ps following
  pub whole : x ≡ before ++ (fill_bytes fill ++ (0xFF ∷ code ∷ tail))
  pub marker_at : marker ≡ length before + fill
  pub known : has_segment code ≡ true
  pub follows : following ≡ true → ends_scan_data code ≡ true

-- the pieces that marks closed, and then the last one with this number at this offset
abbrev pub ScanPieces : ℕ → Scan → ℕ → List ClosedPiece → List FoundPiece → PieceNumber → ℕ → Type 0
ScanPieces index s at closed prefix number offset =
    (w : List ℕ) → pieces_from (piece_begun index s (Interval 0) at) 0 closed w
    ≡ prefix ++ record { scan = index; plan = s; number = number; offset = offset; bytes = w } ∷ []

-- the number that was given last after these closed pieces
abbrev pub given_after : ℕ → ℕ → List ClosedPiece → ℕ
given_after n given [] = given
given_after n given (c ∷ cs) = given_after n (given_last given (number_after n given c.mark)) cs

-- the bytes so far end in scan data: whole units, the segment that begins the scan, the pieces that marks closed, and the open piece
pub record InScanData (profile : Profile) (open_scan : OpenScan) (h : HeaderState) (ps : List FoundPiece) (x : List ℕ) : Type 0 where
  pub before : List ℕ
  pub old : HeaderState
  pub units : List CopyUnit
  pub earlier : List FoundPiece
  pub following : Bool
  pub passed : Passed profile before old units earlier following
  pub fill : ℕ
  pub code : ℕ
  pub payload : List ℕ
  pub known : has_segment code ≡ true
  pub size : length payload + 2 < 2 ^ 16
  pub follows : following ≡ true → ends_scan_data code ≡ true
  pub plan_is : headers_after old code payload ≡ Ok (h, Some open_scan.plan)
  pub index_is : open_scan.index ≡ old.scans
  pub closed : List ClosedPiece
  pub each : AllByRecursion IsClosedPiece closed
  pub piece : List ℕ
  pub piece_is : IsPiece piece
  pub prefix : List FoundPiece
  pub pieces_are : ScanPieces old.scans open_scan.plan (length before + length (segment_unit_bytes fill code payload)) closed prefix
      (number_of open_scan.piece) open_scan.offset
  pub given_is : open_scan.last ≡ given_after (intervals open_scan.plan) 0 closed
  pub offset_is : open_scan.offset ≡ length before + length (segment_unit_bytes fill code payload) + length (flat_map closed_bytes closed)
  pub here : List FoundPiece
  pub here_alike : AlikePieces here prefix
  pub fed_as : FedAs (number_of open_scan.piece) (bytes_of open_scan.piece) piece
  pub fed_is : IsFed open_scan.piece
  pub held : ℕ
  pub held_is : HeldIs open_scan.held held
  pub found_are : ps ≡ earlier ++ here
  pub whole : x ≡ before ++ (segment_unit_bytes fill code payload ++ (flat_map closed_bytes closed ++ (piece ++ fill_bytes held)))

-- the end stands at a marker place after whole units, or there was no SOI
pub data EndedAt (profile : Profile) : End → HeaderState → List FoundPiece → List ℕ → Type 0 where
  ended : (before : List ℕ) (h : HeaderState) (us : List CopyUnit) (ps : List FoundPiece) (following : Bool) (tail x : List ℕ) (e : End)
      → Passed profile before h us ps following
      → x ≡ before ++ tail → Follows following tail → EndsHere h (length before) tail e → EndedAt profile e h ps x
  without_soi : (n code : ℕ) (more x : List ℕ) → code ≢ 0xFF → code ≢ 0xD8 → x ≡ fill_bytes n ++ (0xFF ∷ code ∷ more)
      → EndedAt profile (Header fault.NoSoi n) (no_headers_under profile) [] x
  without_ff : (b : ℕ) (more x : List ℕ) → b ≢ 0xFF → x ≡ b ∷ more → EndedAt profile (Header fault.NoSoi 0) (no_headers_under profile) [] x

-- what a place says of the bytes so far, with the headers, the payload and the pieces that were closed
abbrev pub Tells : Profile → CopyPosition → HeaderState → List ℕ → List FoundPiece → List ℕ → Type 0
Tells profile (Start false) h payload ps x = (x ≡ []) × (h ≡ no_headers_under profile) × (ps ≡ [])
Tells profile (Start true) h payload ps x = (n : ℕ) × (x ≡ fill_bytes (suc n)) × (h ≡ no_headers_under profile) × (ps ≡ [])
Tells profile (AtMarker false) h payload ps x = (us : List CopyUnit) × Passed profile x h us ps false
Tells profile (AtMarker true) h payload ps x = (n : ℕ) × (before : List ℕ) × (us : List CopyUnit) × Passed profile before h us ps false
    × (x ≡ before ++ fill_bytes (suc n))
Tells profile (AtLength marker code) h payload ps x = AtSegment profile marker code h ps x []
Tells profile (InLength marker code high) h payload ps x = (high < 256) × AtSegment profile marker code h ps x (high ∷ [])
Tells profile (InPayload marker code size) h payload ps x =
    (length payload + 2 < size) × (size < 2 ^ 16) × AtSegment profile marker code h ps x (size / 256 ∷ size % 256 ∷ payload)
Tells profile (InScan open_scan) h payload ps x = InScanData profile open_scan h ps x
Tells profile (Done e) h payload ps x = EndedAt profile e h ps x
