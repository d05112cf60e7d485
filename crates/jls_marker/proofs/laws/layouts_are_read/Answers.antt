use Rattle.jls_marker.proofs.SegmentLaws
use Rattle.jls_marker.proofs.laws.layouts_are_read.Goals as goal

pub returns : goal.returns
returns c = SegmentLaws.layouts_are_read
