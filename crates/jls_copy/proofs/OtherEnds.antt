-- An end that isn't final is the input's, so that bytes after a copy change it.
use Rattle.std.proofs.Common.{◌≡◌, ℕ, true, false, List, length, refl, sym, ap, ◌∙◌, arith, length-append}
use Rattle.jls_copy.specs.CopyReads.{is_final_end}
use Rattle.jls_copy.specs.CopyLaws.{OtherEndsChangeUnder}
use Rattle.jls_copy.specs.TellingLaws.{is_of_segment, EndStands, eoi, input, eoi_before_a_frame, refused_segment, unknown_marker, no_marker}
use Rattle.jls_copy.specs.TellingLaws.{another_marker, no_marker_first, too_early}
use Rattle.jls_copy.specs.declared.end.End.{End}
use Rattle.jls_copy.specs.declared.end.End.TheVariants.{Eoi, Input, Header}
use Rattle.jls_marker.specs.declared.fault.MarkerFault.{MarkerFault}
use Rattle.jls_marker.specs.declared.fault.MarkerFault.TheVariants as fault
use Rattle.jls_copy.proofs.TellingLaws.{ends_stand_at_their_offsets}
use Rattle.jls_marker.specs.declared.profile.Profile.{Profile}

abbrev offset_of : End → ℕ
offset_of (Eoi offset) = offset
offset_of (Input offset) = offset
offset_of (Header f offset) = offset

segment_faults_are_final : (f : MarkerFault) (offset : ℕ) → is_of_segment f ≡ true → is_final_end (Header f offset) ≡ true
segment_faults_are_final fault.Ended offset of_segment = absurd cc
segment_faults_are_final f offset of_segment = refl

-- an end that is not final stands at the length of the copy
stands_at_length : (copy : List ℕ) (e : End) → EndStands copy e → is_final_end e ≡ false → offset_of e ≡ length copy
stands_at_length copy _ (eoi offset s) other = absurd cc
stands_at_length copy _ (input offset l) other = l
stands_at_length copy _ (eoi_before_a_frame offset s) other = absurd cc
stands_at_length copy _ (refused_segment f offset code of_segment known s) other =
    let g : false ≡ true = sym other ∙ segment_faults_are_final f offset of_segment in absurd cc
stands_at_length copy _ (unknown_marker offset code p q r s) other = absurd cc
stands_at_length copy _ (no_marker offset byte p s) other = absurd cc
stands_at_length copy _ (another_marker offset code p q s) other = absurd cc
stands_at_length copy _ (no_marker_first byte p s) other = absurd cc
stands_at_length copy _ (too_early offset l) other = l

-- the law: each other end is the input's, and bytes after the copy change it
pub other_ends_change : (profile : Profile) → OtherEndsChangeUnder profile
other_ends_change profile prefix more c d is other some longer same =
    let a = stands_at_length prefix c.end (ends_stand_at_their_offsets profile prefix c is) other in
    let b = stands_at_length _ d.end (ends_stand_at_their_offsets profile _ d longer) (ap is_final_end same ∙ other) in
    let o = ap offset_of same in
    let l = length-append prefix more in omega (arith, a, b, o, l, some)
