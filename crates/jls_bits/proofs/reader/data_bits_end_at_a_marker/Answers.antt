use Rattle.jls_bits.proofs.Markers.{below_markers, whole_below, read_before}
use Rattle.jls_bits.proofs.reader.data_bits_end_at_a_marker.Goals as goal

pub returns-clause-whole : goal.returns-clause-whole
returns-clause-whole c = λ bytes. (below_markers bytes, whole_below bytes)

pub returns-clause-read : goal.returns-clause-read
returns-clause-read c = λ prefix back x. read_before prefix back x
