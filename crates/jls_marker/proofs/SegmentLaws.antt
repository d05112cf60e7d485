-- The laws of segments, whole.
use Rattle.jls_marker.specs.SegmentLaws.{LayoutsAreRead, PayloadsAreRead, PayloadsAreReadUnder, WrittenReadsBack}
use Rattle.jls_marker.specs.SegmentLaws.{WrittenReadsBackUnder}
use Rattle.jls_marker.specs.declared.profile.Profile.{Profile}
use Rattle.jls_marker.specs.declared.profile.Profile.TheVariants.{Strict}
use Rattle.jls_marker.specs.declared.segment.Segment.TheVariants.{Frame, Scan, Preset, Restart, Skipped}
use Rattle.jls_marker.proofs.ComponentLayouts.{frame_header_there, frame_header_of, scan_header_there, scan_header_of}
use Rattle.jls_marker.proofs.Layouts.{preset_there, preset_of_layout, restart_there, restart_of_layout}
use Rattle.jls_marker.proofs.Layouts.{preset_reads_back, restart_reads_back}
use Rattle.jls_marker.proofs.ReadsBack.{frame_reads_back, scan_reads_back}
use Rattle.jls_marker.proofs.SegmentsRead.{is_payload, is_read}

-- the law: a payload has one layout at most, and that is the one that is read
pub layouts_are_read : LayoutsAreRead
layouts_are_read = record {
  frame = λ payload h b. (λ e. frame_header_there payload h b e, λ l. frame_header_of payload h l);
  scan = λ payload h b. (λ e. scan_header_there payload h e, λ l. scan_header_of payload h l);
  preset = λ values p b. (λ e. preset_there values p b e, λ l. preset_of_layout values p l);
  restart = λ payload n b. (λ e. restart_there payload n b e, λ l. restart_of_layout payload n l);
}

pub payloads_are_read_under : (profile : Profile) → PayloadsAreReadUnder profile
payloads_are_read_under profile code payload s b =
    (λ e. is_payload profile code payload s b e, λ p. is_read profile code payload s p)

pub payloads_are_read : PayloadsAreRead
payloads_are_read = payloads_are_read_under Strict

-- the law: what is written of a segment of a profile reads as this segment
pub written_reads_back_under : (profile : Profile) → WrittenReadsBackUnder profile
written_reads_back_under profile (Frame s) is can = frame_reads_back profile s is
written_reads_back_under profile (Scan s) is can = scan_reads_back profile s is.0 is.1
written_reads_back_under profile (Preset maxval t1 t2 t3 reset) is can = preset_reads_back maxval t1 t2 t3 reset is
written_reads_back_under profile (Restart n) is can = restart_reads_back n is
written_reads_back_under profile (Skipped code) is can = absurd can

pub written_reads_back : WrittenReadsBack
written_reads_back = written_reads_back_under Strict
