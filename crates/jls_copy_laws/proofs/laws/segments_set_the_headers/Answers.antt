use Rattle.jls_copy_laws.proofs.SegmentSets.{segments_set_the_headers}
use Rattle.jls_copy_laws.proofs.laws.segments_set_the_headers.Goals as goal

-- src/laws.rt:6:1
pub returns : goal.returns
returns c = segments_set_the_headers
