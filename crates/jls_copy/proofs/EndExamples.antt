-- Ends of small copies, worked out by hand, with the numbers of their faults.
use Rattle.std.proofs.Common.{◌≡◌, [], ◌∷◌, refl, arith}
use Rattle.jls_marker.specs.Faults.{fault_number}
use Rattle.jls_marker.specs.HeaderState.{no_headers}
use Rattle.jls_marker.specs.MarkerCodes.{has_segment}
use Rattle.jls_marker.specs.declared.fault.MarkerFault.TheVariants.{UnknownMarker, NoMarker, NoSoi, Ended}
use Rattle.jls_copy.specs.Course.{at_no_marker, at_unknown_code, for_good, with_the_input, without_units, IsCourse, with_soi}
use Rattle.jls_copy.specs.Course.{with_another_marker, with_fill_alone}
use Rattle.jls_copy.specs.declared.end.End.TheVariants.{Input, Header}

-- FF D8 00: no marker, at 2
no_marker : IsCourse (0xFF ∷ 0xD8 ∷ 0x00 ∷ []) (without_units 2 (Header NoMarker 2))
no_marker = with_soi 0 (0x00 ∷ []) [] no_headers (Header NoMarker 2)
    (refl, for_good no_headers 2 (0x00 ∷ []) (Header NoMarker 2) (at_no_marker no_headers 2 0x00 [] (λ e. omega (arith, e))))

-- FF D8 FF C0: a marker without a segment here, at 2
unknown_marker : IsCourse (0xFF ∷ 0xD8 ∷ 0xFF ∷ 0xC0 ∷ []) (without_units 2 (Header UnknownMarker 2))
unfolding has_segment
unknown_marker = with_soi 0 (0xFF ∷ 0xC0 ∷ []) [] no_headers (Header UnknownMarker 2) (
  refl,
  for_good no_headers 2 (0xFF ∷ 0xC0 ∷ []) (Header UnknownMarker 2)
      (at_unknown_code no_headers 2 0 0xC0 [] (λ e. omega (arith, e)) (λ e. omega (arith, e)) refl),
)

-- FF D9: no SOI, at 0
no_soi : IsCourse (0xFF ∷ 0xD9 ∷ []) (without_units 0 (Header NoSoi 0))
no_soi = with_another_marker 0 0xD9 [] (λ e. omega (arith, e)) (λ e. omega (arith, e))

-- FF FF: the input ends before SOI is whole, at 2; FF D8: it ends where a marker may begin
too_early : IsCourse (0xFF ∷ 0xFF ∷ []) (without_units 2 (Header Ended 2))
too_early = with_fill_alone 2

at_the_input : IsCourse (0xFF ∷ 0xD8 ∷ []) (without_units 2 (Input 2))
at_the_input = with_soi 0 [] [] no_headers (Input 2) (refl, with_the_input no_headers 2)

numbers : fault_number UnknownMarker ∷ fault_number NoMarker ∷ fault_number NoSoi ∷ fault_number Ended ∷ [] ≡ 14 ∷ 17 ∷ 18 ∷ 19 ∷ []
numbers = refl
