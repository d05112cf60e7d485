use Rattle.std.proofs.Common.{◌≡◌, Ok, sym, subst}
use Rattle.jls_marker.specs.Segments.{segment_under}
use Rattle.jls_marker.specs.Written.{code_of, payload_of, IsSegmentOfProfile}
use Rattle.jls_marker.specs.declared.profile.Profile.{Profile}
use Rattle.jls_marker.specs.declared.segment.Segment.{Segment}
use Rattle.jls_marker.proofs.ReadsBack.{frame_reads_back, scan_reads_back}
use Rattle.jls_marker.proofs.write.write_segment.Goals as goal

abbrev ReadsBack : Segment → Type 0
ReadsBack x = (profile : Profile) → IsSegmentOfProfile profile x → segment_under profile (code_of x) (payload_of x) ≡ Ok x

pub returns-in-Frame-clause-reads_back : goal.returns-in-Frame-clause-reads_back
returns-in-Frame-clause-reads_back c =
    subst ReadsBack (sym c.in-Frame.is) (λ profile of. frame_reads_back profile c.in-Frame.frame c.frame_payload.ensures.ranges)

pub returns-in-Scan-clause-reads_back : goal.returns-in-Scan-clause-reads_back
returns-in-Scan-clause-reads_back c =
    subst ReadsBack (sym c.in-Scan.is) (λ profile of. scan_reads_back profile c.in-Scan.head c.scan_payload.ensures.ranges of)
