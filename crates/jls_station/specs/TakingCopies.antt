-- What comes of a copy that a station takes.
use Rattle.std.specs.Prelude.{◌≡◌, ℕ, true, false, List, length, Option}
use Rattle.jls_values.specs.Join.{IsBetween}
use Rattle.jls_marker.specs.declared.fault.MarkerFault.{MarkerFault}
use Rattle.jls_partial.specs.Partial.{PartialPicture, has_same_shape, union}
use Rattle.jls_copy.specs.CopyReads.{CopyReads, CopyGivesNone}
use Rattle.jls_copy.specs.ReadCopy.{ReadCopy}
use Rattle.jls_copy.specs.declared.reader.CopyFault.TheVariants as copy
use Rattle.jls_io.specs.Event.{Event}
use Rattle.jls_station.specs.Given.{CopyReport, found_in, marked}
use Rattle.jls_station.specs.Inputs.{IsCopyDone}
use Rattle.jls_station.specs.Reading.{IsRead, IsReadInPart}
use Rattle.jls_station.specs.declared.input.ReadStop.{ReadStop}
use Rattle.jls_station.specs.declared.input.ReadStop.TheVariants.{Whole}
use Rattle.jls_station.specs.declared.input.InputFault.{InputFault}
use Rattle.jls_station.specs.declared.input.InputFault.TheVariants as input
use Rattle.jls_station.specs.declared.take_copy.TakeFault.{TakeFault}
use Rattle.jls_station.specs.declared.take_copy.TakeFault.TheVariants as fault

-- a copy that is refused so as an input is not taken for this
pub data IsTakenFor : InputFault → TakeFault → Type 0 where
  no_frame : (f : MarkerFault) (offset : ℕ) → IsTakenFor (input.NoPicture f offset) (fault.NoPicture f offset)
  unread : (stop : ReadStop) (count : ℕ) → IsTakenFor (input.Read stop count) (fault.Read stop count)
  for_memory : IsTakenFor input.OutOfMemory fault.OutOfMemory

-- these are all reads of a copy in which a frame was taken, and it gives this partial picture and this report
pub record CopyGives (source : Option ℕ) (p : PartialPicture) (report : CopyReport) (reads : List Event) : Type 0 where
  pub bytes : List ℕ
  pub is_read : IsRead IsCopyDone reads bytes report.stop
  pub read : ReadCopy
  pub reads_as : CopyReads bytes read
  pub partial_is : p ≡ marked source read.partial
  pub found_is : report.found ≡ found_in bytes read

-- these are all reads of a copy in which no frame was taken, and the fault. If it was read whole, it is the copy's own. If not, it is how
-- it stopped, with the number of bytes. Or memory ran out between two reads, or after the last
pub data CopyStops : TakeFault → List Event → Type 0 where
  no_picture : (bytes : List ℕ) (f : MarkerFault) (offset : ℕ) (reads : List Event)
      → IsRead IsCopyDone reads bytes Whole → CopyGivesNone bytes (copy.NoPicture f offset) → CopyStops (fault.NoPicture f offset) reads
  not_read : (bytes : List ℕ) (stop : ReadStop) (f : MarkerFault) (offset : ℕ) (reads : List Event) → (stop ≡ Whole → ⊥)
      → IsRead IsCopyDone reads bytes stop → CopyGivesNone bytes (copy.NoPicture f offset)
      → CopyStops (fault.Read stop (length bytes)) reads
  between_reads : (reads : List Event) → IsReadInPart IsCopyDone reads → CopyStops fault.OutOfMemory reads
  after_the_last : (bytes : List ℕ) (stop : ReadStop) (reads : List Event) → IsRead IsCopyDone reads bytes stop
      → CopyStops fault.OutOfMemory reads

-- a station that held `old` took a copy of its shape, whose report this is, and holds `new`
pub record TakesCopy (source : Option ℕ) (old new : PartialPicture) (report : CopyReport) (reads : List Event) : Type 0 where
  pub given : PartialPicture
  pub gives : CopyGives source given report reads
  pub one_shape : has_same_shape old given ≡ true
  pub union_is : new ≡ union old given

-- a station that held the first of these refused a copy for this fault, and holds the second. The copy gives nothing, or it has another
-- shape. Or memory ran out as the two were joined, and some of the copy's readings may be held
pub data RefusesCopy : Option ℕ → PartialPicture → PartialPicture → TakeFault → List Event → Type 0 where
  gives_none : (source : Option ℕ) (old : PartialPicture) (f : TakeFault) (reads : List Event) → CopyStops f reads
      → RefusesCopy source old old f reads
  other_shape : (source : Option ℕ) (old p : PartialPicture) (report : CopyReport) (reads : List Event)
      → CopyGives source p report reads → has_same_shape old p ≡ false → RefusesCopy source old old fault.ShapeDiffers reads
  no_memory : (source : Option ℕ) (old new p : PartialPicture) (report : CopyReport) (reads : List Event)
      → CopyGives source p report reads → has_same_shape old p ≡ true → IsBetween union old new (union old p)
      → RefusesCopy source old new fault.OutOfMemory reads
