-- What follows if an answer is one fault and no other.
use Rattle.jls_partial.specs.Partial.{PartialPicture}
use Rattle.jls_partial.specs.Status.{IsSettled}
use Rattle.jls_write.specs.Unsettled.{NamesFirstUnsettled}
use Rattle.jls_write.specs.declared.output.OutputFault.{OutputFault}
use Rattle.jls_write.specs.declared.picture.PictureFault.{PictureFault}
use Rattle.jls_write.specs.declared.picture.PictureFault.TheVariants.{Unsettled}
use Rattle.jls_callers.specs.declared.writing.StationFault.{StationFault}
use Rattle.jls_callers.specs.declared.writing.StationFault.TheVariants as station

-- it is of a line, and this holds of it
abbrev pub OfLine : (PictureFault → Type 0) → StationFault → Type 0
OfLine P (station.Unsettled fault) = P fault
OfLine P station.Unfit = ⊥
OfLine P (station.Output fault) = ⊥

-- it is of options
abbrev pub OfOptions : StationFault → Type 0
OfOptions (station.Unsettled fault) = ⊥
OfOptions station.Unfit = Unit {0}
OfOptions (station.Output fault) = ⊥

-- it is of the output, and this holds of it
abbrev pub OfOutput : (OutputFault → Type 0) → StationFault → Type 0
OfOutput P (station.Unsettled fault) = ⊥
OfOutput P station.Unfit = ⊥
OfOutput P (station.Output fault) = P fault

-- where a fault names a line, not all are settled
pub not_settled : (p : PartialPicture) (fault : PictureFault) → NamesFirstUnsettled p fault → IsSettled p → ⊥
not_settled p (Unsettled component line) first settled =
    first.first_line.unsettled (settled component first.first_line.component_in line first.first_line.line_in)
