use Rattle.std.proofs.Common.{◌≡◌, Result, Err, ap, refl, sym, subst}
use Rattle.std.proofs.lemmas.Result.{err_from_is_err_and}
use Rattle.jls_values.specs.declared.merge.MergeFault.{MergeFault}
use Rattle.jls_values.specs.declared.merge.MergeFault.TheVariants as merge
use Rattle.jls_partial.specs.Partial.{PartialPicture, has_same_shape}
use Rattle.jls_io.specs.Event.{GrewBy}
use Rattle.jls_io.proofs.Growing.{grew_as}
use Rattle.jls_station.specs.KnownCopies.{BytesGive, TakesBytes, RefusesBytes}
use Rattle.jls_station.specs.TakingCopies.{CopyGives, CopyStops, TakesCopy, RefusesCopy, gives_none, other_shape, no_memory}
use Rattle.jls_station.specs.declared.take_copy.TakeFault.TheVariants as take
use Rattle.jls_values.proofs.Joins.{not_false-true}
use Rattle.jls_station.proofs.KnownCopies.{some_then, ran_out}
use Rattle.jls_station.proofs.station.Station.take_copy.Goals as goal

not_both : (r : Result (Unit {0}) MergeFault) (f : MergeFault) → r ≡ Err f → f ≡ merge.OutOfMemory → r ≡ Err merge.ShapeDiffers → ⊥
not_both r f is memory other = cc

-- the copy gives no picture
pub returns-in_err-given-clause-refused : goal.returns-in_err-given-clause-refused
returns-in_err-given-clause-refused g c =
    let history = g.S.Device.history in
    let fault = c.in_err-given.field-0.0 in
    let p = err_from_is_err_and c.from_residual.result c.from_residual.ensures.1 in
    rw (p.1, p.2) (grew_as (CopyStops fault) (RefusesCopy c.args.source c.args.self.now c.args.self.now fault) (history c.args.device.now)
    (history c.read_from_start.new.device)
    (λ reads h. gives_none c.args.source c.args.self.now fault reads h) c.in_err-given.ensures.refused)

-- the copy has another shape
pub returns-in-Err-ShapeDiffers-clause-refused : goal.returns-in-Err-ShapeDiffers-clause-refused
returns-in-Err-ShapeDiffers-clause-refused g c =
    let history = g.S.Device.history in
    let given = c.in_ok-given.given in
    let is = ap (λ e. Err e) c.in-Err-ShapeDiffers.field-0-is in
    subst (λ (new : PartialPicture). GrewBy (RefusesCopy c.args.source c.args.self.now new take.ShapeDiffers) (history c.args.device.now)
    (history c.read_from_start.new.device))
    (sym (c.in-Err-ShapeDiffers.ensures.unchanged is))
    (grew_as (CopyGives c.args.source given.partial given.report)
    (RefusesCopy c.args.source c.args.self.now c.args.self.now take.ShapeDiffers) (history c.args.device.now)
    (history c.read_from_start.new.device)
    (λ reads h. other_shape c.args.source c.args.self.now given.partial given.report reads h
    (c.in-Err-ShapeDiffers.ensures.shape_differs.0 is)) c.in_ok-given.ensures.given)

-- memory ran out while the readings were merged
pub returns-in-Err-OutOfMemory-clause-refused : goal.returns-in-Err-OutOfMemory-clause-refused
returns-in-Err-OutOfMemory-clause-refused g c =
    let history = g.S.Device.history in
    let given = c.in_ok-given.given in
    let f = c.in-Err-OutOfMemory.field-0 in
    let same = not_false-true (has_same_shape c.args.self.now given.partial)
    (λ e. not_both (Err f) f refl c.in-Err-OutOfMemory.field-0-is (c.in-Err-OutOfMemory.ensures.shape_differs.1 e)) in
    grew_as (CopyGives c.args.source given.partial given.report)
    (RefusesCopy c.args.source c.args.self.now c.take.new.self take.OutOfMemory) (history c.args.device.now)
    (history c.read_from_start.new.device)
    (λ reads h. no_memory c.args.source c.args.self.now c.take.new.self given.partial given.report reads h same
    (c.in-Err-OutOfMemory.ensures.out_of_memory (ap (λ e. Err e) c.in-Err-OutOfMemory.field-0-is))) c.in_ok-given.ensures.given

-- the readings of the copy are merged
pub returns-clause-taken : goal.returns-clause-taken
returns-clause-taken g c =
    let history = g.S.Device.history in
    let given = c.in_ok-given.given in
    grew_as (CopyGives c.args.source given.partial given.report) (TakesCopy c.args.source c.args.self.now c.take.new.self given.report)
    (history c.args.device.now) (history c.read_from_start.new.device)
    (λ reads h. record { given = given.partial; gives = h; one_shape = c.in-Ok.ensures.ok_same_shape; union_is = c.in-Ok.ensures.ok })
    c.in_ok-given.ensures.given

-- the known bytes give no picture
pub returns-in_err-given-clause-known_refused : goal.returns-in_err-given-clause-known_refused
returns-in_err-given-clause-known_refused g c =
    let p = err_from_is_err_and c.from_residual.result c.from_residual.ensures.1 in
    rw (p.1, p.2) (c.in_err-given.ensures.known_refused c.args.self.now)

-- the picture of the known bytes has another shape
pub returns-in-Err-ShapeDiffers-clause-known_refused : goal.returns-in-Err-ShapeDiffers-clause-known_refused
returns-in-Err-ShapeDiffers-clause-known_refused g c =
    let given = c.in_ok-given.given in
    let is = ap (λ e. Err e) c.in-Err-ShapeDiffers.field-0-is in
    some_then (g.S.Source.remaining c.args.device.now) (BytesGive c.args.source given.partial given.report.stop)
    (λ bytes. RefusesBytes c.args.source c.args.self.now bytes take.ShapeDiffers)
    (λ bytes b. (given.partial, given.report.stop, b, c.in-Err-ShapeDiffers.ensures.shape_differs.0 is)) c.in_ok-given.ensures.known

-- memory ran out while the readings of the known bytes were merged
pub returns-in-Err-OutOfMemory-clause-known_refused : goal.returns-in-Err-OutOfMemory-clause-known_refused
returns-in-Err-OutOfMemory-clause-known_refused g c = ran_out c.args.source c.args.self.now (g.S.Source.remaining c.args.device.now)

-- the readings of the known bytes are merged
pub returns-clause-known : goal.returns-clause-known
returns-clause-known g c =
    let given = c.in_ok-given.given in
    some_then (g.S.Source.remaining c.args.device.now) (BytesGive c.args.source given.partial given.report.stop)
    (TakesBytes c.args.source c.args.self.now c.take.new.self given.report.stop)
    (λ bytes b. record { given = given.partial; gives = b; one_shape = c.in-Ok.ensures.ok_same_shape; union_is = c.in-Ok.ensures.ok })
    c.in_ok-given.ensures.known
