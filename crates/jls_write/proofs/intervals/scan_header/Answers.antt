use Rattle.std.proofs.Common.{◌≡◌, ℕ, ◌++◌, List, sym, ap, ◌∙◌}
use Rattle.jls_values.specs.Shape.{PictureShape}
use Rattle.jls_marker.specs.declared.segment.Segment.TheVariants as segment
use Rattle.jls_write.specs.WrittenFile as spec
use Rattle.jls_write.proofs.ScanIds.{scan_header_is}
use Rattle.jls_write.proofs.intervals.scan_header.Goals as goal

-- the bytes are those of SOS with the scan's identifiers
pub returns : goal.returns
returns c =
    let part = c.args.part.now in
    let pic = part.picture.now in
    let written : c.write_segment.new.out.items ≡ c.new-bytes.result.items ++ spec.bytes_of (segment.Scan c.in-Ok.head) =
    c.in_ok-write_segment-in-Ok.ensures.written in
    written ∙ ap (λ (t : List ℕ). t ++ spec.bytes_of (segment.Scan c.in-Ok.head)) c.new-bytes.ensures.items
    ∙ scan_header_is pic c.ids.result.now part.first part.count c.from-first.result c.from.result c.in-Ok.head
    (c.ids.ensures.value ∙ ap (λ (s : PictureShape). s.ids) c.shape.ensures)
    c.from-first.ensures c.from.ensures c.requires.part.within (sym c.new.ensures ∙ c.in-Ok.is)
