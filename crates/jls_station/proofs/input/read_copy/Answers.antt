use Rattle.std.proofs.Common.{◌≡◌, ℕ, List, Option, Some, ap, sym, subst, ◌∙◌, arith}
use Rattle.std.specs.Prelude.{IfSome}
use Rattle.std.proofs.lemmas.Result.{err_from_is_err_and}
use Rattle.jls_copy.specs.ReadCopy.{after}
use Rattle.jls_station.specs.Given.{Given}
use Rattle.jls_station.specs.Inputs.{IsCopyDone}
use Rattle.jls_station.specs.KnownCopies.{BytesGive}
use Rattle.jls_station.specs.KnownInputs.{CountsWithin}
use Rattle.jls_station.proofs.CopyEnds.{copy_gives, copy_refused}
use Rattle.jls_station.proofs.KnownCopies.{known_copy_count, known_copy_gives}
use Rattle.jls_station.proofs.KnownInputs.{input_ran_out, known_input_stops}
use Rattle.jls_station.proofs.OneInput.{out_of_memory_in_part, part_of_input, read_in_part}
use Rattle.jls_station.proofs.input.read_copy.Goals as goal

-- there is no memory for what the first read gave
pub returns-in_err-feed-clause-refused : goal.returns-in_err-feed-clause-refused
returns-in_err-feed-clause-refused g c before h =
    let now = g.S.Device.history c.args.device.now in
    let p = err_from_is_err_and c.from_residual.result c.from_residual.ensures.1 in
    rw (p.1, p.2) (out_of_memory_in_part before now
    (part_of_input before now (read_in_part IsCopyDone 1 before now now c.args.first.now h (omega arith))))

-- there is no memory while the rest is read
pub returns-in_err-stop-clause-refused : goal.returns-in_err-stop-clause-refused
returns-in_err-stop-clause-refused g c before h =
    let now = g.S.Device.history c.read_copy_on.new.device in
    let fed : c.feed.new.self ≡ Some c.args.first.now = c.in_ok-feed.ensures.ok
    ∙ ap (λ (o : Option (List ℕ)). after o c.args.first.now) c.new-reader.ensures in
    let p = err_from_is_err_and c.from_residual-in_err-stop.result c.from_residual-in_err-stop.ensures.1 in
    rw (p.1, p.2) (out_of_memory_in_part before now
    (part_of_input before now (c.in_err-stop.ensures.refused before c.args.first.now fed h)))

-- the copy is read, and gives its readings
pub returns-clause-given : goal.returns-clause-given
returns-clause-given g c before h =
    let first = c.args.first.now in
    let fed : c.feed.new.self ≡ Some first = c.in_ok-feed.ensures.ok ∙ ap (λ (o : Option (List ℕ)). after o first) c.new-reader.ensures in
    let e = c.in_ok-stop.ensures in
    let given = c.in_ok-given.given in
    copy_gives c.args.source first c.in_ok-stop.stop before (g.S.Device.history c.read_copy_on.new.device) c.requires.no_text
    c.read_copy_on.new.reader given.partial given.report c.of_copy.result c.of_copy.ensures
    (e.begins first fed c.requires.some) (e.read before first fed h) c.in_ok-given.ensures.given

-- the copy gives no picture
pub returns-in_err-given-clause-refused : goal.returns-in_err-given-clause-refused
returns-in_err-given-clause-refused g c before h =
    let first = c.args.first.now in
    let fed : c.feed.new.self ≡ Some first = c.in_ok-feed.ensures.ok ∙ ap (λ (o : Option (List ℕ)). after o first) c.new-reader.ensures in
    let e = c.in_ok-stop.ensures in
    let p = err_from_is_err_and c.from_residual-in_err-given.result c.from_residual-in_err-given.ensures.1 in
    rw (p.1, p.2) (copy_refused c.args.source first c.in_ok-stop.stop before (g.S.Device.history c.read_copy_on.new.device)
    c.requires.no_text c.read_copy_on.new.reader c.in_err-given.field-0.0
    (e.begins first fed c.requires.some) (e.read before first fed h) c.in_err-given.ensures.refused)

-- what the copy gives, in the words of known bytes
pub returns-clause-known : goal.returns-clause-known
returns-clause-known g c before h =
    let first = c.args.first.now in
    let fed : c.feed.new.self ≡ Some first = c.in_ok-feed.ensures.ok ∙ ap (λ (o : Option (List ℕ)). after o first) c.new-reader.ensures in
    let given = c.in_ok-given.given in
    subst (λ (x : Given). IfSome before (BytesGive c.args.source x.partial x.stop)) (sym c.of_copy.ensures)
    (known_copy_gives c.args.source c.in_ok-stop.stop before c.read_copy_on.new.reader given.partial given.report
    (c.in_ok-stop.ensures.known before first fed h) c.in_ok-given.ensures.given)

pub returns-in_err-feed-clause-known_refused : goal.returns-in_err-feed-clause-known_refused
returns-in_err-feed-clause-known_refused g c before h =
    let p = err_from_is_err_and c.from_residual.result c.from_residual.ensures.1 in
    rw (p.1, p.2) (input_ran_out before)

pub returns-in_err-stop-clause-known_refused : goal.returns-in_err-stop-clause-known_refused
returns-in_err-stop-clause-known_refused g c before h =
    let p = err_from_is_err_and c.from_residual-in_err-stop.result c.from_residual-in_err-stop.ensures.1 in
    rw (p.1, p.2) (input_ran_out before)

-- the copy gives no picture, in the words of known bytes
pub returns-in_err-given-clause-known_refused : goal.returns-in_err-given-clause-known_refused
returns-in_err-given-clause-known_refused g c before h =
    let first = c.args.first.now in
    let fed : c.feed.new.self ≡ Some first = c.in_ok-feed.ensures.ok ∙ ap (λ (o : Option (List ℕ)). after o first) c.new-reader.ensures in
    let p = err_from_is_err_and c.from_residual-in_err-given.result c.from_residual-in_err-given.ensures.1 in
    rw (p.1, p.2) (known_input_stops first c.in_ok-stop.stop before (g.S.Source.remaining c.args.device.now) c.read_copy_on.new.reader
    c.in_err-given.field-0.0
    c.requires.no_text c.requires.some h (c.in_ok-stop.ensures.known before first fed h) c.in_err-given.ensures.refused)

-- no more bytes are counted than the source has
pub returns-clause-known_count : goal.returns-clause-known_count
returns-clause-known_count g c before h =
    let first = c.args.first.now in
    let fed : c.feed.new.self ≡ Some first = c.in_ok-feed.ensures.ok ∙ ap (λ (o : Option (List ℕ)). after o first) c.new-reader.ensures in
    let given = c.in_ok-given.given in
    subst (λ (x : Given). IfSome before (CountsWithin x)) (sym c.of_copy.ensures)
    (known_copy_count c.args.source c.in_ok-stop.stop before c.read_copy_on.new.reader given.partial given.report
    (c.in_ok-stop.ensures.known before first fed h) c.in_ok-given.ensures.given)
