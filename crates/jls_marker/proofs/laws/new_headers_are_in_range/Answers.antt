use Rattle.jls_marker.proofs.HeadersKept
use Rattle.jls_marker.proofs.laws.new_headers_are_in_range.Goals as goal

pub returns : goal.returns
returns c = HeadersKept.new_headers_kept
