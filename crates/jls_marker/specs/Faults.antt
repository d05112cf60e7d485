-- Faults of markers: their numbers, and the first of several.
use Rattle.std.specs.Prelude.{ℕ, Bool, List, [], ◌∷◌, Result, Ok, Err, if◌then◌else◌}
use Rattle.jls_marker.specs.declared.fault.MarkerFault.{MarkerFault}
use Rattle.jls_marker.specs.declared.fault.MarkerFault.TheVariants.{Length, BadShape, Sampling, NoFrame, SecondFrame, Lossy, Interleave}
use Rattle.jls_marker.specs.declared.fault.MarkerFault.TheVariants.{MappingTable, PointTransform, UnknownComponent, RepeatedComponent}
use Rattle.jls_marker.specs.declared.fault.MarkerFault.TheVariants.{BadParams, LseId, UnknownMarker, IntervalTooLarge, TooManyScans}
use Rattle.jls_marker.specs.declared.fault.MarkerFault.TheVariants.{NoMarker, NoSoi, Ended}

-- the number of a fault, 1 to 19, that reports print
abbrev pub fault_number : MarkerFault → ℕ
fault_number Length = 1
fault_number BadShape = 2
fault_number Sampling = 3
fault_number NoFrame = 4
fault_number SecondFrame = 5
fault_number Lossy = 6
fault_number Interleave = 7
fault_number MappingTable = 8
fault_number PointTransform = 9
fault_number UnknownComponent = 10
fault_number RepeatedComponent = 11
fault_number BadParams = 12
fault_number LseId = 13
fault_number UnknownMarker = 14
fault_number IntervalTooLarge = 15
fault_number TooManyScans = 16
fault_number NoMarker = 17
fault_number NoSoi = 18
fault_number Ended = 19

-- the value, or the fault of the first test of a list that fails
abbrev pub first_failing : {A : Type 0} → List (Bool × MarkerFault) → A → Result A MarkerFault
first_failing [] value = Ok value
first_failing (test ∷ tests) value = if test.0 then first_failing tests value else Err test.1
