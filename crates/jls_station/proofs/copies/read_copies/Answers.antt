use Rattle.std.proofs.Common.{◌<◌, ◌+◌, [], length, map, take, drop, get_or, List, ℕ, arith}
use Rattle.std.specs.Borrow.{Bor}
use Rattle.jls_io.proofs.Growing.{grew_as}
use Rattle.jls_station.specs.CopyFiles.{IsCopyRead, StopsAtCopy, after_the_last, copies_of, copy_of}
use Rattle.jls_station.specs.declared.copy.CopyCause.TheVariants as cause
use Rattle.jls_station.specs.declared.copy.CopyRefusal.{CopyRefusal}
use Rattle.jls_station.proofs.CopiesInTurn.{name_of, names_split, reads_on, stops_next}
use Rattle.jls_station.proofs.copies.read_copies.Goals as goal

-- what stands in for a name where there is none
abbrev none : Bor (List ℕ)
none = record { ref_ptr = (0, 0); now = [] }

-- a copy is not taken, after those before it were read
pub returns-in-Err-clause-stopped : goal.returns-in-Err-clause-stopped
returns-in-Err-clause-stopped g c =
    let history = g.D.Device.history in
    let names = c.args.names.now in
    let i = c.loop-name.name-index in
    let within : i < length names = omega arith in
    let refusal : CopyRefusal = record { name = get_or names i none; cause = c.in-Err.cause } in
    stops_next (map name_of (take i names)) (copies_of c.loop-name.copies.items) (history c.args.desk.now) (history c.loop-name.desk)
    (history c.open_and_read_copy.new.desk) c.loop-name.invariant
    (map name_of names) (map name_of (drop (i + 1) names)) refusal (names_split names i none within) c.in-Err.ensures.stopped

-- there is no memory to keep a copy that was read
pub returns-in-Err-push-clause-stopped : goal.returns-in-Err-push-clause-stopped
returns-in-Err-push-clause-stopped g c =
    let history = g.D.Device.history in
    let names = c.args.names.now in
    let i = c.loop-name.name-index in
    let within : i < length names = omega arith in
    let refusal : CopyRefusal = record { name = get_or names i none; cause = cause.OutOfMemory } in
    let name = refusal.name.now in
    let copy = copy_of c.in-Ok.copy in
    stops_next (map name_of (take i names)) (copies_of c.loop-name.copies.items) (history c.args.desk.now) (history c.loop-name.desk)
    (history c.open_and_read_copy.new.desk) c.loop-name.invariant
    (map name_of names) (map name_of (drop (i + 1) names)) refusal (names_split names i none within)
    (grew_as (IsCopyRead name copy) (StopsAtCopy name cause.OutOfMemory) (history c.loop-name.desk) (history c.open_and_read_copy.new.desk)
    (after_the_last name copy) c.in-Ok.ensures.read)

-- one copy more is read
pub loop-name-preserved : goal.loop-name-preserved
loop-name-preserved g c =
    let history = g.D.Device.history in
    reads_on c.args.names.now c.loop-name.name-index none (omega arith) c.loop-name.copies.items c.push.new.self.items c.in-Ok.copy
    c.in-Ok-push.ensures.items
    (history c.args.desk.now) (history c.loop-name.desk) (history c.open_and_read_copy.new.desk) c.loop-name.invariant c.in-Ok.ensures.read
