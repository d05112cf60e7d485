use Rattle.jls_marker.proofs.SegmentLaws
use Rattle.jls_marker.proofs.laws.written_reads_back_under.Goals as goal

pub returns : goal.returns
returns c = SegmentLaws.written_reads_back_under
