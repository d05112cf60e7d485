use Rattle.std.proofs.Common.{rules, []}
use Rattle.std.specs.Prelude.{IfSome, IsSomeAnd}
use Rattle.std.proofs.lemmas.Result.{IfErr-at_err, IfOk-at_ok, err_from_is_err_and}
use Rattle.jls_io.specs.Event.{GrewBy}
use Rattle.jls_io.proofs.Growing.{grew_as}
use Rattle.jls_station.specs.Inputs.{IsCopyDone}
use Rattle.jls_station.specs.KnownCopies.{IsPrefixOf}
use Rattle.jls_station.specs.Reading.{IsRead, IsReadInPart}
use Rattle.jls_station.specs.TakingCopies.{CopyStops, between_reads}
use Rattle.jls_station.specs.declared.take_copy.TakeFault.TheVariants as take
use Rattle.jls_station.proofs.CopyEnds.{is_taken, whole_copy_gives, whole_copy_stops}
use Rattle.jls_station.proofs.KnownCopies.{known_copy_count, known_copy_gives, known_copy_stops, ran_out}
use Rattle.jls_station.proofs.Mapped.{error_as, error_at, value_at, value_so}
use Rattle.jls_station.proofs.OneInput.{nothing_read, consumes_nothing}
use Rattle.jls_station.proofs.take_copy.read_from_start.Given.{Over}
use Rattle.jls_station.proofs.take_copy.read_from_start.Goals.{After-read_of_copy}
use Rattle.jls_station.proofs.take_copy.read_from_start.Goals as goal

-- there is no memory while the copy is read
pub returns-in_err-stop-clause-refused : goal.returns-in_err-stop-clause-refused
returns-in_err-stop-clause-refused g c =
    let old = g.S.Device.history c.args.device.now in
    let new = g.S.Device.history c.read_copy_on.new.device in
    let made = error_at _ (λ _. take.OutOfMemory) (λ e r made. search rules) c.read_copy_on.result c.map_err.result c.in_err-stop.field-0.0
    c.map_err.ensures.cases c.in_err-stop.was in
    let in_part = IfErr-at_err _ made.2
    (c.read_copy_on.ensures.refused old [] c.new-reader.ensures (nothing_read IsCopyDone 0 old old old [])) in
    let p = err_from_is_err_and c.from_residual.result c.from_residual.ensures.1 in
    rw (p.1, p.2, made.1) (grew_as (IsReadInPart IsCopyDone) (CopyStops take.OutOfMemory) old new (λ reads h. between_reads reads h)
    in_part)

-- how the copy was read
read_so : (g : Over) (c : After-read_of_copy g)
    → IsSomeAnd c.read_copy_on.new.reader (λ bytes. GrewBy (λ reads. IsRead IsCopyDone reads bytes c.in_ok-stop.stop)
    (g.S.Device.history c.args.device.now) (g.S.Device.history c.read_copy_on.new.device))
read_so g c =
    let old = g.S.Device.history c.args.device.now in
    let was = value_at _ c.read_copy_on.result c.map_err.result c.in_ok-stop.stop c.map_err.ensures.cases c.in_ok-stop.was in
    IfOk-at_ok _ was (c.read_copy_on.ensures.read old [] c.new-reader.ensures (nothing_read IsCopyDone 0 old old old []))

-- how the copy was read, in the words of known bytes
prefix_so : (g : Over) (c : After-read_of_copy g) → IsSomeAnd c.read_copy_on.new.reader
    (λ prefix. IfSome (g.S.Source.remaining c.args.device.now) (λ bytes. IsPrefixOf bytes prefix c.in_ok-stop.stop))
prefix_so g c =
    let before = g.S.Source.remaining c.args.device.now in
    let was = value_at _ c.read_copy_on.result c.map_err.result c.in_ok-stop.stop c.map_err.ensures.cases c.in_ok-stop.was in
    IfOk-at_ok _ was (c.read_copy_on.ensures.known before [] c.new-reader.ensures (consumes_nothing before))

-- a copy that gives no picture is refused for a fault of copies
pub map_err-requires-2 : goal.map_err-requires-2
map_err-requires-2 g c = λ fault is.
    is_taken _ c.read_copy_on.new.reader c.in_ok-stop.stop fault (read_so g (goal.at.map_err-requires-2 g c).After-read_of_copy)
    (IfErr-at_err _ is c.read_of_copy.ensures.refused)

-- the reads give what the copy that was read gives
pub returns-clause-given : goal.returns-clause-given
returns-clause-given g c =
    value_so _ _ _ _ _ (λ given. whole_copy_gives c.args.source c.in_ok-stop.stop _ _ c.read_copy_on.new.reader given.partial given.report
    (read_so g (goal.at.returns-clause-given g c).After-read_of_copy)) c.map_err-2.ensures.cases c.read_of_copy.ensures.given

-- the copy gives no picture
pub returns-clause-refused : goal.returns-clause-refused
returns-clause-refused g c =
    error_as _ c.read_of_copy.result c.map_err-2.result _ _
    (λ fault taken made h. whole_copy_stops c.args.source c.in_ok-stop.stop (g.S.Device.history c.args.device.now)
    (g.S.Device.history c.read_copy_on.new.device) c.read_copy_on.new.reader fault taken
    (read_so g (goal.at.returns-clause-refused g c).After-read_of_copy) h (search rules))
    c.map_err-2.ensures.cases c.read_of_copy.ensures.refused

-- there is no memory while the known bytes are read
pub returns-in_err-stop-clause-known_refused : goal.returns-in_err-stop-clause-known_refused
returns-in_err-stop-clause-known_refused g c held =
    let made = error_at _ (λ _. take.OutOfMemory) (λ e r made. search rules) c.read_copy_on.result c.map_err.result c.in_err-stop.field-0.0
    c.map_err.ensures.cases c.in_err-stop.was in
    let p = err_from_is_err_and c.from_residual.result c.from_residual.ensures.1 in
    rw (p.1, p.2, made.1) (ran_out c.args.source held (g.S.Source.remaining c.args.device.now))

-- the known bytes give what the copy that was read gives
pub returns-clause-known : goal.returns-clause-known
returns-clause-known g c =
    value_so _ _ _ _ _ (λ given. known_copy_gives c.args.source c.in_ok-stop.stop _ c.read_copy_on.new.reader given.partial given.report
    (prefix_so g (goal.at.returns-clause-known g c).After-read_of_copy)) c.map_err-2.ensures.cases c.read_of_copy.ensures.given

-- the known bytes give no picture
pub returns-clause-known_refused : goal.returns-clause-known_refused
returns-clause-known_refused g c held =
    error_as _ c.read_of_copy.result c.map_err-2.result _ _
    (λ fault taken made h. known_copy_stops c.args.source held c.in_ok-stop.stop (g.S.Source.remaining c.args.device.now)
    c.read_copy_on.new.reader fault taken (prefix_so g (goal.at.returns-clause-known_refused g c).After-read_of_copy) h (search rules))
    c.map_err-2.ensures.cases c.read_of_copy.ensures.refused

-- no more bytes are counted than are known
pub returns-clause-known_count : goal.returns-clause-known_count
returns-clause-known_count g c =
    value_so _ _ _ _ _ (λ given. known_copy_count c.args.source c.in_ok-stop.stop _ c.read_copy_on.new.reader given.partial given.report
    (prefix_so g (goal.at.returns-clause-known_count g c).After-read_of_copy)) c.map_err-2.ensures.cases c.read_of_copy.ensures.given
