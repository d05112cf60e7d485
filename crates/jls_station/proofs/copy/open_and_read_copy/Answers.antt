use Rattle.std.proofs.Common.{rules, ◌≡◌, ◌∷◌, [], true}
use Rattle.jls_io.specs.Event.{not_opened}
use Rattle.jls_station.specs.Reading.{IsRead, IsReadInPart}
use Rattle.jls_station.specs.CopyFiles.{begins_as_text, IsTextPrefix, StopsAtCopy, between_reads, not_there, partial_picture}
use Rattle.jls_station.specs.declared.copy.CopyCause.TheVariants as cause
use Rattle.jls_station.proofs.CopiesInTurn.{opened_then}
use Rattle.jls_station.proofs.copy.open_and_read_copy.Goals as goal

pub returns-in-Err-clause-stopped : goal.returns-in-Err-clause-stopped
returns-in-Err-clause-stopped g c =
    let name = c.args.name.now in
    record { events = not_opened name ∷ []; grew = c.in-Err.ensures.failed; they_are = not_there name }

-- memory ran out while the copy was read
pub returns-in-Err-read_to_end-clause-stopped : goal.returns-in-Err-read_to_end-clause-stopped
returns-in-Err-read_to_end-clause-stopped g c =
    let history = g.D.Device.history in
    let name = c.args.name.now in
    opened_then (IsReadInPart IsTextPrefix) (StopsAtCopy name cause.OutOfMemory) name (history c.args.desk.now)
    (history c.open_input.new.self) (history c.read_to_end.new.device)
    c.in-Ok.ensures.opened (between_reads name) c.in-Err-read_to_end.ensures.refused

-- the copy begins as a text
pub returns-then-is_text-clause-stopped : goal.returns-then-is_text-clause-stopped
returns-then-is_text-clause-stopped g c =
    let history = g.D.Device.history in
    let name = c.args.name.now in
    let bytes = c.read_to_end.new.bytes.items in
    let stop = c.in-Ok-read_to_end.stop in
    let prefix : begins_as_text bytes ≡ true = search rules in
    opened_then (λ reads. IsRead IsTextPrefix reads bytes stop) (StopsAtCopy name cause.PartialPicture) name (history c.args.desk.now)
    (history c.open_input.new.self)
    (history c.read_to_end.new.device) c.in-Ok.ensures.opened (λ reads is. partial_picture name bytes stop reads is prefix)
    c.in-Ok-read_to_end.ensures.read
