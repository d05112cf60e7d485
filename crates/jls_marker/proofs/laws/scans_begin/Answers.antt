use Rattle.jls_marker.proofs.HeaderSteps
use Rattle.jls_marker.proofs.laws.scans_begin.Goals as goal

pub returns : goal.returns
returns c = HeaderSteps.scans_begin
