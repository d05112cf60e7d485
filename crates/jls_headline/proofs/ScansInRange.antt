-- The frame of a copy is a shape, and each of its scans is in its ranges and of that frame.
use Rattle.std.proofs.Common.{◌≡◌, ℕ, ◌<◌, List, [], ◌∷◌, Option, Some, sym, ap, subst, ◌∙◌}
use Rattle.std.specs.List.{AllByRecursion, flat_map}
use Rattle.jls_values.specs.Shape.{PictureShape, IsShape}
use Rattle.jls_marker.specs.Scan.{IsScanOf}
use Rattle.jls_marker.specs.HeaderState.{HeaderState, IsHeaderState, no_headers}
use Rattle.jls_marker.specs.SegmentLaws.{AreBytes}
use Rattle.jls_marker.proofs.HeaderSteps.{scans_begin, scans_are_in_range}
use Rattle.jls_marker.proofs.HeadersKept.{no_headers_kept}
use Rattle.jls_copy.specs.ScanData.{fill_bytes}
use Rattle.jls_copy.specs.Course.{CopyUnit, segment, scan, unit_bytes, IsUnit}
use Rattle.jls_copy_laws.specs.CopyScans.{AreCopyUnits, ScanWithData, scans_of_unit}
use Rattle.jls_copy_laws.proofs.CopyScans.{unit_of_copy, unit_keeps, unit_keeps_frame, unit_parts, scan_payload_bytes}
use Rattle.jls_copy_laws.proofs.Members.{all_back, all_append}
use Rattle.jls_headline.specs.ScanLaws.{IsScanUnder, ScansAreOfTheFrame}

abbrev some_frame : PictureShape → Option PictureShape
some_frame f = Some f

pub same_frame : (f g : PictureShape) → some_frame f ≡ Some g → f ≡ g
same_frame f g e = cc

-- units leave a frame that was taken before them
frame_through : (units : List CopyUnit) (h : HeaderState) (bytes : List ℕ) (final : HeaderState) (f : PictureShape) → IsHeaderState h
    → AreBytes bytes → AreCopyUnits h bytes units final → h.frame ≡ Some f → final.frame ≡ Some f
frame_through [] h bytes final f is low p framed = ap (λ (x : HeaderState). x.frame) p.0 ∙ framed
frame_through (u ∷ units) h bytes final f is low (after, rest, whole, unit, p) framed =
    let parts = unit_parts bytes rest u low whole in
    let own = unit_of_copy h u after rest is parts.0 unit in
    let there : after.frame ≡ Some f = unit_keeps_frame h u after rest f own framed in
    frame_through units after rest final f (unit_keeps h u after rest is parts.0 own) parts.1 p there

-- the scan of a unit, before units that leave a frame
scan_is_under : (h : HeaderState) (u : CopyUnit) (after : HeaderState) (rest : List ℕ) (f : PictureShape) → IsHeaderState h
    → AreBytes (unit_bytes u) → IsUnit h u after rest → ((g : PictureShape) → after.frame ≡ Some g → g ≡ f)
    → AllByRecursion (λ d. IsScanUnder f d.scan) (scans_of_unit u)
scan_is_under h (segment fill code payload) after rest f is low unit same = tt
scan_is_under h (scan fill code payload s closed last closing) after rest f is low unit same =
    let b = scans_begin h after code payload s unit.1 in
    let there : after.frame ≡ Some b.frame = ap (λ (x : HeaderState). x.frame) b.counted ∙ b.framed in
    let own = scan_payload_bytes fill code payload _ low in
    ((scans_are_in_range h after code payload s is own unit.1, subst (λ g. IsScanOf g s) (same b.frame there) b.is_of_frame), tt)

units_are : (units : List CopyUnit) (h : HeaderState) (bytes : List ℕ) (final : HeaderState) (f : PictureShape) → IsHeaderState h
    → AreBytes bytes → AreCopyUnits h bytes units final → final.frame ≡ Some f
    → IsShape f × AllByRecursion (λ d. IsScanUnder f d.scan) (flat_map scans_of_unit units)
units_are [] h bytes final f is low p framed = (is.frame f (ap (λ (x : HeaderState). x.frame) (sym p.0) ∙ framed), tt)
units_are (u ∷ units) h bytes final f is low (after, rest, whole, unit, p) framed =
    let parts = unit_parts bytes rest u low whole in
    let own = unit_of_copy h u after rest is parts.0 unit in
    let kept = unit_keeps h u after rest is parts.0 own in
    let later = units_are units after rest final f kept parts.1 p framed in
    let same : (g : PictureShape) → after.frame ≡ Some g → g ≡ f =
    λ g e. same_frame g f (sym (frame_through units after rest final g kept parts.1 p e) ∙ framed) in (
      later.0,
      all_append (λ (d : ScanWithData). IsScanUnder f d.scan) (scans_of_unit u) (flat_map scans_of_unit units)
          (scan_is_under h u after rest f is parts.0 own same) later.1,
    )

pub scans_are_of_the_frame : ScansAreOfTheFrame
scans_are_of_the_frame copy shape scans has =
    let low = (all_back (λ b. b < 256) (fill_bytes has.fill) _ (subst AreBytes has.copy_is has.are_bytes)).1.1 in
    let under = units_are has.units no_headers has.after_soi has.headers shape no_headers_kept low has.are_units has.framed in
    (under.0, subst (AllByRecursion (λ (d : ScanWithData). IsScanUnder shape d.scan)) (sym has.scans_are) under.1)
