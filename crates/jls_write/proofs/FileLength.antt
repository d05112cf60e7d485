-- How many bytes the parts of a file have, at most.
use Rattle.std.proofs.Common.{◌≡◌, ℕ, zero, suc, ◌+◌, ◌*◌, ◌≤◌, ◌^◌, Bool, true, false, cond, List, [], ◌∷◌, ◌++◌, length, map, get_or}
use Rattle.std.proofs.Common.{refl, sym, ap, subst, ◌∙◌, arith}
use Rattle.std.specs.Prelude.{nat_lt, if◌then◌else◌}
use Rattle.std.specs.Int.{w32, to_be_bytes}
use Rattle.std.specs.List.{flat_map, range_with_len}
use Rattle.std.proofs.lemmas.Bool.{ne_eqb}
use Rattle.std.proofs.lemmas.List.{length-append, length-drop}
use Rattle.std.proofs.lemmas.Grind.{flat_map-append}
use Rattle.jls_values.specs.Shape.{PictureShape, IsShape}
use Rattle.jls_values.specs.Params.{CodingParameters, AreCodingParameters}
use Rattle.jls_marker.specs.declared.segment.Segment.TheVariants as segment
use Rattle.jls_marker.specs.Scan.{intervals}
use Rattle.jls_marker.specs.Written.{unneeded_bytes, restart_payload}
use Rattle.jls_marker.proofs.Intervals.{count_at_most}
use Rattle.jls_write.specs.Picture.{WholePicture}
use Rattle.jls_write.specs.Options.{WriteOptions, OptionsFit, components_of_scan}
use Rattle.jls_write.proofs.OneMore.{length-flat_map-le}
use Rattle.jls_write.specs.WrittenFile.{bytes_of, are_defaults, preset_segments, restart_segments, header_segments, header_bytes}
use Rattle.jls_write.specs.WrittenFile.{before_interval, interval_lines, interval_code, marked_interval, scan_bytes, scans_bytes}
use Rattle.jls_write.specs.Parts.{scan_from, scan_count}
use Rattle.jls_write.proofs.IntervalLines.{length_range, samples_most}
use Rattle.jls_write.proofs.Scans.{scans_are}
use Rattle.jls_write.proofs.PackedLength.{packed_at_most}

-- lists of one length, one after the other, have as many items as lists times that length
each_length : (f : ℕ → List ℕ) (n : ℕ) (xs : List ℕ) → ((x : ℕ) → length (f x) ≡ n) → length (flat_map f xs) ≡ length xs * n
each_length f n [] each = omega arith
each_length f n (x ∷ xs) each =
    let rest = each_length f n xs each in
    let both = length-append (f x) (flat_map f xs) in
    let one = each x in
    let more : length (x ∷ xs) * n ≡ n + length xs * n = omega arith in
    omega (arith, rest, both, one, more)

map_length : (f : ℕ → ℕ) (xs : List ℕ) → length (map f xs) ≡ length xs
map_length f [] = refl
map_length f (x ∷ xs) = let e = map_length f xs in omega (arith, e)

-- a scan has at most four components
few_components : (pic : WholePicture) (o : WriteOptions) (count : ℕ) → IsShape pic.shape → count ≡ components_of_scan pic.shape o
    → count ≤ 4
few_components pic o count shape of_scan = subst (λ n. n ≤ 4) (sym of_scan) (by_line o.line)
  where
    by_line : (line : Bool) → cond line (length pic.shape.ids) 1 ≤ 4
    by_line true = shape.ids_at_most
    by_line false = omega arith

pub tail_length : (xs : List ℕ) (x : ℕ) → length (xs ++ 0 ∷ x ∷ 0 ∷ []) ≡ length xs + 3
tail_length xs x = length-append xs (0 ∷ x ∷ 0 ∷ [])

-- what stands before an interval
before_at_most : (pic : WholePicture) (o : WriteOptions) (first count k : ℕ) → count ≤ 4
    → length (before_interval pic (scan_from pic o first count) k) ≤ 32
before_at_most pic o first count zero few =
    let ids : List ℕ = map (λ c. get_or pic.shape.ids c 0) (range_with_len first count) in
    let size : length ids ≡ count = map_length (λ c. get_or pic.shape.ids c 0) (range_with_len first count) ∙ length_range first count in
    let listed = each_length (λ id. id ∷ 0 ∷ []) 2 ids (λ x. refl) in
    let all = tail_length (flat_map (λ id. id ∷ 0 ∷ []) ids) (if nat_lt 1 (length (range_with_len first count)) then 1 else 0) in
    omega (arith, size, listed, all, few)
before_at_most pic o first count (suc k) few = rw (ne_eqb (suc k) 0 (λ e. absurd (omega (arith, e)))) (omega arith)

-- an interval, with what stands before it, has at most 2^39 bytes
pub marked_at_most : (pic : WholePicture) (o : WriteOptions) (first count k : ℕ) → OptionsFit pic o → IsShape pic.shape
    → AreCodingParameters o.params → count ≡ components_of_scan pic.shape o
    → length (marked_interval pic (scan_from pic o first count) k) ≤ 2 ^ 39
marked_at_most pic o first count k fit shape params of_scan =
    let s = scan_from pic o first count in
    let few = before_at_most pic o first count k (few_components pic o count shape of_scan) in
    let code = packed_at_most o.params pic.shape.width (length s.components) (interval_lines pic s k) params shape.width_below
    (samples_most pic o first count k fit of_scan) in
    let both = length-append (before_interval pic s k) (interval_code pic s k) in
    omega (arith, few, code, both)

-- a scan
pub scan_at_most : (pic : WholePicture) (o : WriteOptions) (first : ℕ) → OptionsFit pic o → IsShape pic.shape → AreCodingParameters o.params
    → length (scan_bytes pic (scan_from pic o first (components_of_scan pic.shape o))) ≤ 2 ^ 55
scan_at_most pic o first fit shape params =
    let s = scan_from pic o first (components_of_scan pic.shape o) in
    let low = shape.height_below in
    let each = length-flat_map-le (marked_interval pic s) (2 ^ 39)
    (λ k. marked_at_most pic o first (components_of_scan pic.shape o) k fit shape params refl) 0 (intervals s) in
    let few : intervals s ≤ pic.shape.height = count_at_most pic.shape.height o.restart_interval shape.height_at_least in
    omega (arith, each, few, low)

-- a picture has at most four scans
pub scan_count_at_most : (pic : WholePicture) (o : WriteOptions) → IsShape pic.shape → scan_count pic o ≤ 4
scan_count_at_most pic o shape = by_line o.line
  where
    by_line : (line : Bool) → cond line 1 (length pic.shape.ids) ≤ 4
    by_line true = omega arith
    by_line false = shape.ids_at_most

-- the first n scans have at most 2^55 bytes each
pub scans_at_most : (pic : WholePicture) (o : WriteOptions) (n : ℕ) → OptionsFit pic o → IsShape pic.shape → AreCodingParameters o.params
    → length (flat_map (λ first. scan_bytes pic (scan_from pic o first (components_of_scan pic.shape o))) (range_with_len 0 n)) ≤ n * 2 ^ 55
scans_at_most pic o n fit shape params =
    length-flat_map-le (λ first. scan_bytes pic (scan_from pic o first (components_of_scan pic.shape o))) (2 ^ 55)
    (λ first. scan_at_most pic o first fit shape params) 0 n

-- all scans together have at most 2^57 bytes
pub all_scans_at_most : (pic : WholePicture) (o : WriteOptions) → OptionsFit pic o → IsShape pic.shape → AreCodingParameters o.params
    → length (scans_bytes pic o) ≤ 2 ^ 57
all_scans_at_most pic o fit shape params =
    let all = scans_at_most pic o (scan_count pic o) fit shape params in
    let few = scan_count_at_most pic o shape in
    let size = ap length (scans_are pic o) in
    omega (arith, all, few, size)

-- the header segments
preset_at_most : (p : CodingParameters) (same : Bool)
    → length (flat_map bytes_of (cond same [] (segment.Preset p.maxval p.t1 p.t2 p.t3 p.reset ∷ []))) ≤ 15
preset_at_most p true = omega arith
preset_at_most p false = omega arith

-- DRI has at most 8 bytes, or is not there
restart_at_most : (n : ℕ) → length (flat_map bytes_of (restart_segments n)) ≤ 8
restart_at_most zero = omega arith
restart_at_most (suc n) =
    rw (ne_eqb (suc n) 0 (λ e. absurd (omega (arith, e))))
    (let few = length-drop (unneeded_bytes (suc n)) (to_be_bytes w32 (suc n)) in let none = length-append (restart_payload (suc n)) [] in
    let four : length (to_be_bytes w32 (suc n)) ≡ 4 = refl in omega (arith, few, none, four))

frame_at_most : (shape : PictureShape) → length shape.ids ≤ 4 → length (bytes_of (segment.Frame shape)) ≤ 22
frame_at_most shape few = let listed = each_length (λ id. id ∷ 0x11 ∷ 0 ∷ []) 3 shape.ids (λ x. refl) in omega (arith, listed, few)

three_at_most : (a b c : List ℕ) → length a ≤ 22 → length b ≤ 15 → length c ≤ 8 → length (a ++ (b ++ c)) ≤ 62
three_at_most a b c first second third = let outer = length-append a (b ++ c) in let inner = length-append b c in
    omega (arith, first, second, third, outer, inner)

two_more : (xs : List ℕ) (x y n : ℕ) → length xs ≤ n → length (x ∷ y ∷ xs) ≤ n + 2
two_more xs x y n h = omega (arith, h)

-- SOI and the segments before the scans have at most 64 bytes
pub header_at_most : (pic : WholePicture) (o : WriteOptions) → IsShape pic.shape → length (header_bytes pic o) ≤ 64
header_at_most pic o shape =
    let frame : List ℕ = bytes_of (segment.Frame pic.shape) in
    two_more (flat_map bytes_of (header_segments pic o)) 0xFF 0xD8 62
    (subst (λ (t : List ℕ). length (frame ++ t) ≤ 62)
    (sym (flat_map-append bytes_of (preset_segments o.params) (restart_segments o.restart_interval)))
    (three_at_most frame (flat_map bytes_of (preset_segments o.params)) (flat_map bytes_of (restart_segments o.restart_interval))
    (frame_at_most pic.shape shape.ids_at_most)
    (preset_at_most o.params (are_defaults o.params)) (restart_at_most o.restart_interval)))
