-- What a step leaves as it is.
use Rattle.std.proofs.Common.{◌≡◌, ℕ, ◌≤◌, Bool, true, false, cond, List, [], Option, Result, Ok, Err, refl}
use Rattle.std.specs.Prelude.{nat_lt, ◌==◌}
use Rattle.jls_marker.specs.HeaderState.{HeaderState}
use Rattle.jls_marker.specs.Scan.{Scan}
use Rattle.jls_marker.specs.Headers.{headers_after}
use Rattle.jls_copy.specs.ReaderState.{Step, segment_taken, length_known}
use Rattle.jls_copy.specs.Machine.{IsAfterStart}
use Rattle.jls_marker.specs.declared.fault.MarkerFault.{MarkerFault}
use Rattle.jls_copy.specs.declared.place.CopyPosition.{CopyPosition}
use Rattle.jls_copy.specs.declared.place.CopyPosition.TheVariants.{Start, AtMarker, AtLength, InLength, InPayload, InScan, Done}

pub taken_payload : (count : ℕ) (h : HeaderState) (payload : List ℕ) (marker : ℕ) (r : Result (HeaderState × Option Scan) MarkerFault)
    → (segment_taken count h payload marker r).payload ≡ payload
taken_payload count h payload marker (Ok r) = refl
taken_payload count h payload marker (Err f) = refl

cond_payload : (b : Bool) (x y : Step) (z : List ℕ) → x.payload ≡ z → y.payload ≡ z → (cond b x y).payload ≡ z
cond_payload true x y z p q = p
cond_payload false x y z p q = q

pub length_keeps : (count : ℕ) (h : HeaderState) (marker code size : ℕ) → (length_known count h marker code size).payload ≡ []
length_keeps count h marker code size =
    cond_payload (nat_lt size 2) _ _ [] refl
    (cond_payload (size == 2) _ _ [] (taken_payload count h [] marker (headers_after h code [])) refl)

-- each place after some bytes is one after the start
pub after_some : (p : CopyPosition) (n : ℕ) → 1 ≤ n → IsAfterStart p n
after_some (Start fill) n h = λ e. h
after_some (AtMarker fill) n h = h
after_some (AtLength marker code) n h = h
after_some (InLength marker code high) n h = h
after_some (InPayload marker code size) n h = h
after_some (InScan scan) n h = h
after_some (Done e) n h = tt
