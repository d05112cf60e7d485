use Rattle.jls_interval.specs.Reads.{packed}
use Rattle.jls_interval.proofs.PackedLines.{packed_reads}
use Rattle.jls_interval.proofs.PiecesReadOnce.{reads_once}
use Rattle.jls_interval.proofs.encode.packed_lines_read_back.Goals as goal

pub returns : goal.returns
returns c = λ p width components count lines are.
    let reads = packed_reads p width components count lines are in
    (reads, λ ok some others h. reads_once p ok width components count some (packed p width components lines) others lines h reads)
