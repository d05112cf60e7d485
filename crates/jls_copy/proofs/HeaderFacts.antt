-- What the reader needs to know of the headers after a segment.
use Rattle.std.proofs.Common.{◌≡◌, ℕ, ◌+◌, true, List, Some, Ok, Err, refl, ap, ◌∙◌}
use Rattle.std.specs.Prelude.{is_some}
use Rattle.jls_marker.specs.HeaderState.{HeaderState}
use Rattle.jls_marker.specs.Headers.{headers_after}
use Rattle.jls_marker.specs.Scan.{Scan}
use Rattle.jls_marker.specs.declared.fault.MarkerFault.{MarkerFault}
use Rattle.jls_marker.specs.declared.fault.MarkerFault.TheVariants as fault
use Rattle.jls_marker.proofs.HeaderSteps.{scans_begin}
use Rattle.jls_marker.proofs.FaultsOf.{never_ended}
use Rattle.jls_copy.specs.CopyReads.{is_final_end}
use Rattle.jls_copy.specs.Sound.{IsOfFrame}
use Rattle.jls_copy.specs.declared.end.End.TheVariants.{Header}

module _ (h after : HeaderState) (code : ℕ) (payload : List ℕ) where
  pub scans_one : (s : Scan) → headers_after h code payload ≡ Ok (after, Some s) → after.scans ≡ h.scans + 1
  scans_one s e = ap (λ (x : HeaderState). x.scans) (scans_begin h after code payload s e).counted

  -- a scan begins under a frame alone, and leaves it
  pub scan_is_of_frame : (s : Scan) → headers_after h code payload ≡ Ok (after, Some s) → IsOfFrame after.frame s
  scan_is_of_frame s e =
      let b = scans_begin h after code payload s e in
      (b.frame, ap (λ (x : HeaderState). x.frame) b.counted ∙ b.framed, b.is_of_frame)

  pub scan_has_frame : (s : Scan) → headers_after h code payload ≡ Ok (after, Some s) → is_some after.frame ≡ true
  scan_has_frame s e = ap is_some (scan_is_of_frame s e).1

-- no segment that is whole has the fault of an input that ends too early
pub fault_is_final : (h : HeaderState) (code : ℕ) (payload : List ℕ) (f : MarkerFault) (offset : ℕ) → headers_after h code payload ≡ Err f
    → is_final_end (Header f offset) ≡ true
fault_is_final h code payload fault.Ended offset e = absurd (never_ended h code payload e)
fault_is_final h code payload f offset e = refl
