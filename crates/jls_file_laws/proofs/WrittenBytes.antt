-- A written file consists of bytes.
use Rattle.std.proofs.Common.{ℕ, zero, suc, ◌+◌, ◌-◌, ◌<◌, ◌≤◌, Bool, true, false, cond, List, [], ◌∷◌, ◌++◌, map, length, arith}
use Rattle.std.specs.Prelude.{◌==◌, nat_lt, get_or, drop, if◌then◌else◌}
use Rattle.std.specs.Int.{Width, w16, w32, to_be_bytes, byte_len, byte_at, bytes_high_first}
use Rattle.std.specs.List.{flat_map, AllByRecursion, range_with_len}
use Rattle.std.proofs.Math.Nat.{mod-lt}
use Rattle.std.proofs.lemmas.List.{length-map}
use Rattle.jls_values.specs.Shape.{PictureShape, IsShape}
use Rattle.jls_values.specs.Params.{CodingParameters}
use Rattle.jls_values.proofs.Lists.{all_append, all_weaker}
use Rattle.jls_bits.proofs.Padding.{pad_is_pad}
use Rattle.jls_bits.proofs.Appending.{bytes_append}
use Rattle.jls_interval.specs.Code.{code}
use Rattle.jls_marker.specs.Scan.{Scan, intervals}
use Rattle.jls_marker.specs.ScanSelection.{ScanSelection, selection, interleave_of}
use Rattle.jls_marker.specs.Written.{code_of, payload_of, unneeded_bytes}
use Rattle.jls_marker.specs.declared.segment.Segment.{Segment}
use Rattle.jls_marker.specs.declared.segment.Segment.TheVariants as segment
use Rattle.jls_marker.specs.SegmentLaws.{AreBytes}
use Rattle.jls_write.specs.Picture.{WholePicture}
use Rattle.jls_write.specs.Options.{WriteOptions}
use Rattle.jls_write.specs.WrittenFile.{bytes_of, are_defaults, preset_segments, restart_segments, header_segments, header_bytes}
use Rattle.jls_write.specs.WrittenFile.{components_of_scans, scan_of, scan_segment, interval_lines, interval_code, restart_marker}
use Rattle.jls_write.specs.WrittenFile.{before_interval, marked_interval, scan_bytes, scans_bytes, written_file}
use Rattle.jls_file_laws.specs.FileLaw.{IsWritable}
use Rattle.jls_file_laws.proofs.Covering.{IsScanOf, scans_of}

-- ---- lists of bytes

-- where each element gives bytes, all of them one after the other are bytes
each_joined : {X : Type 0} (f : X → List ℕ) (xs : List X) → AllByRecursion (λ x. AreBytes (f x)) xs → AreBytes (flat_map f xs)
each_joined f [] h = tt
each_joined f (x ∷ xs) h = bytes_append (f x) (flat_map f xs) h.0 (each_joined f xs h.1)

-- what holds of everything holds of each element
all_of : {X : Type 0} (P : X → Type 0) (xs : List X) → ((x : X) → P x) → AllByRecursion P xs
all_of P [] h = tt
all_of P (x ∷ xs) h = (h x, all_of P xs h)

-- what is left of bytes is bytes
left_over : (n : ℕ) (xs : List ℕ) → AreBytes xs → AreBytes (drop n xs)
left_over zero xs h = h
left_over (suc n) [] h = tt
left_over (suc n) (x ∷ xs) h = left_over n xs h.1

-- an element of bytes, or 0 after their end, is a byte
byte_there : (xs : List ℕ) (i : ℕ) → AreBytes xs → get_or xs i 0 < 256
byte_there [] i h = omega arith
byte_there (x ∷ xs) zero h = h.0
byte_there (x ∷ xs) (suc i) h = byte_there xs i h.1

-- each byte of a number is one
byte_small : (i n : ℕ) → byte_at i n < 256
byte_small zero n = mod-lt n {m = 256} (omega arith)
byte_small (suc i) n = mod-lt _ {m = 256} (omega arith)

-- the lowest bytes of a number are bytes
high_first : (k n : ℕ) → AreBytes (bytes_high_first k n)
high_first zero n = tt
high_first (suc k) n = (byte_small k n, high_first k n)

-- a number is written in bytes
number_bytes : (w : Width) (n : ℕ) → AreBytes (to_be_bytes w n)
number_bytes w n = high_first (byte_len w) n

-- ---- the segments

-- the three bytes of each component in a frame header are bytes
frame_components : (ids : List ℕ) → AreBytes ids → AreBytes (flat_map (λ id. id ∷ 0x11 ∷ 0 ∷ []) ids)
frame_components ids h =
    each_joined (λ id. id ∷ 0x11 ∷ 0 ∷ []) ids
    (all_weaker (λ id. id < 256) (λ id. AreBytes (id ∷ 0x11 ∷ 0 ∷ [])) ids (λ id small. (small, (omega arith, (omega arith, tt)))) h)

-- the two bytes of each component in a scan header are bytes
scan_components : (ids : List ℕ) → AreBytes ids → AreBytes (flat_map (λ id. id ∷ 0 ∷ []) ids)
scan_components ids h =
    each_joined (λ id. id ∷ 0 ∷ []) ids
    (all_weaker (λ id. id < 256) (λ id. AreBytes (id ∷ 0 ∷ [])) ids (λ id small. (small, (omega arith, tt))) h)

-- ILV is a byte
interleave_small : (by_sample line : Bool) → (if by_sample then 2 else if line then 1 else 0) < 256
interleave_small true line = omega arith
interleave_small false true = omega arith
interleave_small false false = omega arith

-- marker, length and payload are bytes where the code and the payload are
segment_joined : (s : Segment) → code_of s < 256 → AreBytes (payload_of s) → AreBytes (bytes_of s)
segment_joined s small payload =
    let size = length (payload_of s) + 2 in
    (omega arith, (small, bytes_append (to_be_bytes w16 size) (payload_of s) (number_bytes w16 size) payload))

-- a number of two bytes before bytes
number_before : (n : ℕ) (xs : List ℕ) → AreBytes xs → AreBytes (to_be_bytes w16 n ++ xs)
number_before n xs h = bytes_append (to_be_bytes w16 n) xs (number_bytes w16 n) h

-- SOF55 consists of bytes
frame_bytes : (s : PictureShape) → IsShape s → AreBytes (bytes_of (segment.Frame s))
frame_bytes s is =
    let few = is.ids_at_most in
    let depth = is.precision_at_most in
    let components : List ℕ = length s.ids ∷ flat_map (λ id. id ∷ 0x11 ∷ 0 ∷ []) s.ids in
    let are : AreBytes components = (omega (arith, few), frame_components s.ids is.ids_are_bytes) in
    let size = to_be_bytes w16 s.width ++ components in
    segment_joined (segment.Frame s) (omega arith)
    (omega (arith, depth), number_before s.height size (number_before s.width components are))

-- SOS of few components consists of bytes
selection_bytes : (s : ScanSelection) → length s.ids ≤ 4 → AreBytes s.ids → AreBytes (bytes_of (segment.Scan s))
selection_bytes s few are =
    let end : List ℕ = 0 ∷ interleave_of s ∷ 0 ∷ [] in
    let small : AreBytes end = (omega arith, (interleave_small s.by_sample s.line, (omega arith, tt))) in
    let components = flat_map (λ id. id ∷ 0 ∷ []) s.ids in
    segment_joined (segment.Scan s) (omega arith) (omega (arith, few), bytes_append components end (scan_components s.ids are) small)

-- LSE consists of bytes
preset_bytes : (p : CodingParameters) → AreBytes (bytes_of (segment.Preset p.maxval p.t1 p.t2 p.t3 p.reset))
preset_bytes p =
    let reset = to_be_bytes w16 p.reset in
    let from_t3 = to_be_bytes w16 p.t3 ++ reset in
    let from_t2 = to_be_bytes w16 p.t2 ++ from_t3 in
    let from_t1 = to_be_bytes w16 p.t1 ++ from_t2 in
    let third = number_before p.t3 reset (number_bytes w16 p.reset) in
    let first = number_before p.t1 from_t2 (number_before p.t2 from_t3 third) in
    segment_joined (segment.Preset p.maxval p.t1 p.t2 p.t3 p.reset) (omega arith) (omega arith, number_before p.maxval from_t1 first)

-- DRI consists of bytes
restart_bytes : (n : ℕ) → AreBytes (bytes_of (segment.Restart n))
restart_bytes n =
    segment_joined (segment.Restart n) (omega arith) (left_over (unneeded_bytes n) (to_be_bytes w32 n) (number_bytes w32 n))

-- ---- the header

-- a segment that is written in bytes
abbrev IsInBytes : Segment → Type 0
IsInBytes s = AreBytes (bytes_of s)

-- DRI, where it is there
restart_part : (n : ℕ) (none : Bool) → AllByRecursion IsInBytes (cond none [] (segment.Restart n ∷ []))
restart_part n true = tt
restart_part n false = (restart_bytes n, tt)

-- LSE, where it is there
preset_part : (p : CodingParameters) (same : Bool)
    → AllByRecursion IsInBytes (cond same [] (segment.Preset p.maxval p.t1 p.t2 p.t3 p.reset ∷ []))
preset_part p true = tt
preset_part p false = (preset_bytes p, tt)

-- SOI and the header segments are bytes
header_part : (pic : WholePicture) (o : WriteOptions) → IsShape pic.shape → AreBytes (header_bytes pic o)
header_part pic o is =
    let more = preset_segments o.params ++ restart_segments o.restart_interval in
    let are : AllByRecursion IsInBytes more =
    all_append IsInBytes (preset_segments o.params) (restart_segments o.restart_interval) (preset_part o.params (are_defaults o.params))
    (restart_part o.restart_interval (o.restart_interval == 0)) in
    (omega arith, (omega arith, each_joined bytes_of (header_segments pic o) (frame_bytes pic.shape is, are)))

-- ---- the scans

-- the identifiers of some components are bytes
ids_are_bytes : (ids components : List ℕ) → AreBytes ids → AreBytes (map (λ c. get_or ids c 0) components)
ids_are_bytes ids [] h = tt
ids_are_bytes ids (c ∷ components) h = (byte_there ids c h, ids_are_bytes ids components h)

module _ (pic : WholePicture) (is : IsShape pic.shape) (s : Scan) (few : length s.components ≤ 4) where
  -- SOS of a scan consists of bytes
  sos_bytes : AreBytes (bytes_of (scan_segment pic s.components))
  sos_bytes =
      let size = length-map s.components (λ c. get_or pic.shape.ids c 0) in
      let head : ScanSelection = selection (map (λ c. get_or pic.shape.ids c 0) s.components) (nat_lt 1 (length s.components)) in
      selection_bytes head (omega (arith, size, few)) (ids_are_bytes pic.shape.ids s.components is.ids_are_bytes)

  -- a restart marker consists of bytes
  restart_marker_bytes : (k : ℕ) → AreBytes (restart_marker k)
  restart_marker_bytes k = (omega arith, (omega arith, tt))

  -- what stands before an interval consists of bytes
  marks : (k : ℕ) (first : Bool) → AreBytes (cond first (bytes_of (scan_segment pic s.components)) (restart_marker (k - 1)))
  marks k true = sos_bytes
  marks k false = restart_marker_bytes (k - 1)

  -- the code of an interval consists of bytes, whatever its lines
  code_bytes : (k : ℕ) → AreBytes (interval_code pic s k)
  code_bytes k = (pad_is_pad (code s.params s.width (length s.components) (interval_lines pic s k))).carries.are_bytes

  -- the intervals of a scan consist of bytes
  scan_part : AreBytes (scan_bytes pic s)
  scan_part =
      each_joined (marked_interval pic s) (range_with_len 0 (intervals s))
      (all_of (λ k. AreBytes (marked_interval pic s k)) (range_with_len 0 (intervals s))
      (λ k. bytes_append (before_interval pic s k) (interval_code pic s k) (marks k (k == 0)) (code_bytes k)))

-- the scans consist of bytes
scans_part : (pic : WholePicture) (o : WriteOptions) → IsShape pic.shape → AreBytes (scans_bytes pic o)
scans_part pic o is =
    let most = is.ids_at_most in
    each_joined (λ components. scan_bytes pic (scan_of pic o components)) (components_of_scans pic o)
    (all_weaker (IsScanOf (length pic.shape.ids)) (λ components. AreBytes (scan_bytes pic (scan_of pic o components)))
    (components_of_scans pic o)
    (λ components are. let most_of = are.1 in scan_part pic is (scan_of pic o components) (omega (arith, most_of, most)))
    (scans_of (length pic.shape.ids) o.line is.ids_at_least))

-- a written file consists of bytes
pub written_bytes : (pic : WholePicture) (o : WriteOptions) → IsWritable pic o → AllByRecursion (λ b. b < 256) (written_file pic o)
written_bytes pic o can =
    let is = can.whole.shape in
    let end : List ℕ = 0xFF ∷ 0xD9 ∷ [] in
    let are : AreBytes end = (omega arith, (omega arith, tt)) in
    let rest = bytes_append (scans_bytes pic o) end (scans_part pic o is) are in
    bytes_append (header_bytes pic o) (scans_bytes pic o ++ end) (header_part pic o is) rest
