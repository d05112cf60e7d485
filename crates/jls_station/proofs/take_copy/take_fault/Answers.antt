use Rattle.std.proofs.Common.{subst, sym}
use Rattle.jls_station.specs.TakingCopies.{IsTakenFor, no_frame, unread, for_memory}
use Rattle.jls_station.specs.declared.input.InputFault.{InputFault}
use Rattle.jls_station.specs.declared.take_copy.TakeFault.TheVariants as take
use Rattle.jls_station.proofs.CopyEnds.{no_text_taken}
use Rattle.jls_station.proofs.take_copy.take_fault.Goals as goal

-- no frame was taken, for the fault at this offset
pub returns-in-NoPicture : goal.returns-in-NoPicture
returns-in-NoPicture c =
    let f = c.in-NoPicture.fault in
    let offset = c.in-NoPicture.offset in
    subst (λ (x : InputFault). IsTakenFor x (take.NoPicture f offset)) (sym c.in-NoPicture.is) (no_frame f offset)

-- the device stopped before a frame was taken
pub returns-in-Read : goal.returns-in-Read
returns-in-Read c =
    let stop = c.in-Read.stop in
    let count = c.in-Read.count in
    subst (λ (x : InputFault). IsTakenFor x (take.Read stop count)) (sym c.in-Read.is) (unread stop count)

-- memory ran out
pub returns-in-OutOfMemory : goal.returns-in-OutOfMemory
returns-in-OutOfMemory c = subst (λ (x : InputFault). IsTakenFor x take.OutOfMemory) (sym c.in-OutOfMemory.is) for_memory

-- a copy is not refused as a text
pub unreachable-requires : goal.unreachable-requires
unreachable-requires c =
    no_text_taken _ c.requires.0 (subst (λ (x : InputFault). IsTakenFor x c.requires.0) c.in-Text.is c.requires.1)
