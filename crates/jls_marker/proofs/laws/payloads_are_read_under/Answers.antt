use Rattle.jls_marker.proofs.SegmentLaws
use Rattle.jls_marker.proofs.laws.payloads_are_read_under.Goals as goal

pub returns : goal.returns
returns c = SegmentLaws.payloads_are_read_under
