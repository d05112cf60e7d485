use Rattle.jls_marker.proofs.HeadersKept
use Rattle.jls_marker.proofs.laws.headers_stay_in_range.Goals as goal

pub returns : goal.returns
returns c = (HeadersKept.no_headers_kept, HeadersKept.headers_kept)
