-- The identifiers of a scan's components: they are those of the frame from one place on.
use Rattle.std.proofs.Common.{◌≡◌, ℕ, zero, suc, ◌+◌, ◌-◌, ◌≤◌, Bool, List, [], ◌∷◌, length, map, get_or, take, drop, Ok, refl, sym, ap}
use Rattle.std.proofs.Common.{◌∙◌, arith}
use Rattle.std.specs.Prelude.{nat_lt, nat_le, not, ◌&&◌, ◌||◌}
use Rattle.std.specs.List.{range_with_len}
use Rattle.std.proofs.Math.Seq.{drop-cons}
use Rattle.jls_marker.specs.ScanSelection.{ScanSelection, selection, selection_of}
use Rattle.jls_values.specs.Shape.{has_repeat}
use Rattle.jls_marker.specs.declared.fault.MarkerFault.TheVariants as fault
use Rattle.jls_marker.specs.declared.segment.Segment.TheVariants as segment
use Rattle.jls_marker.proofs.FirstFailing.{all_pass}
use Rattle.jls_write.specs.Picture.{WholePicture}
use Rattle.jls_write.specs.WrittenFile.{bytes_of, scan_segment}
use Rattle.jls_write.proofs.IntervalLines.{length_range}

-- the identifiers by index from one place on are those of the frame from there on
ids_are : (ids : List ℕ) (first count : ℕ) → first + count ≤ length ids
    → map (λ c. get_or ids c 0) (range_with_len first count) ≡ take count (drop first ids)
ids_are ids first zero h = refl
ids_are ids first (suc count) h =
    let here : drop first ids ≡ get_or ids first 0 ∷ drop (suc first) ids = drop-cons ids first 0 (omega arith) in
    let next : first + 1 ≡ suc first = omega arith in
    ap (λ t. get_or ids first 0 ∷ t) (ids_are ids (first + 1) count (omega arith) ∙ ap (λ k. take count (drop k ids)) next)
    ∙ sym (ap (take (suc count)) here)

-- the slice of identifiers that the code takes is that of the scan's components
sliced : (ids given : List ℕ) (first count from size : ℕ) → given ≡ ids → from ≡ first → size ≡ count → first + count ≤ length ids
    → take (from + size - from) (drop from given) ≡ map (λ c. get_or ids c 0) (range_with_len first count)
sliced ids given first count from size given_is from_is size_is within =
    let length_is : from + size - from ≡ count = omega arith in
    ap (λ n. take n (drop from given)) length_is ∙ ap (λ n. take count (drop n given)) from_is
    ∙ ap (λ t. take count (drop first t)) given_is ∙ sym (ids_are ids first count within)

-- the selection that these identifiers make
selected : (ids : List ℕ) (line : Bool) (head : ScanSelection) → selection_of ids line ≡ Ok head → head ≡ selection ids line
selected ids line head made =
    let tests = (nat_le 1 (length ids) && nat_le (length ids) 4, fault.Length) ∷ (not (has_repeat ids), fault.RepeatedComponent)
    ∷ (nat_le (length ids) 1 || line, fault.Interleave) ∷ [] in
    sym (all_pass tests (selection ids line) head made).1

-- the header that was made of these identifiers is that of the scan
pub scan_header_is : (pic : WholePicture) (given : List ℕ) (first count from size : ℕ) (head : ScanSelection) → given ≡ pic.shape.ids
    → from ≡ first → size ≡ count → first + count ≤ length pic.shape.ids
    → selection_of (take (from + size - from) (drop from given)) (nat_lt 1 count) ≡ Ok head → bytes_of (segment.Scan head)
    ≡ bytes_of (scan_segment pic (range_with_len first count))
scan_header_is pic given first count from size head given_is from_is size_is within made =
    let ids : List ℕ = take (from + size - from) (drop from given) in
    ap (λ (h : ScanSelection). bytes_of (segment.Scan h))
    (selected ids (nat_lt 1 count) head made
    ∙ ap (λ (t : List ℕ). selection t (nat_lt 1 count))
    (sliced pic.shape.ids given first count from size given_is from_is size_is within)
    ∙ ap (λ n. selection (map (λ c. get_or pic.shape.ids c 0) (range_with_len first count)) (nat_lt 1 n))
    (sym (length_range first count)))
