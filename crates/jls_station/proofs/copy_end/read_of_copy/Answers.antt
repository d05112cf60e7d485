use Rattle.std.proofs.Common.{rules, ◌∙◌, ap}
use Rattle.std.proofs.lemmas.Result.{IfErr-at_err, IfOk-at_ok, err_from_is_err_and}
use Rattle.jls_station.specs.Given.{marked}
use Rattle.jls_station.specs.InputFaults.{input_fault_of_copy}
use Rattle.jls_station.proofs.CopyEnds.{copy_given, refused_so, refused_for_memory}
use Rattle.jls_station.proofs.Mapped.{error_at, value_at}
use Rattle.jls_station.proofs.copy_end.read_of_copy.Goals as goal

-- the copy gives no picture
pub returns-in_err-read-clause-refused : goal.returns-in_err-read-clause-refused
returns-in_err-read-clause-refused c =
    let count = c.fed-count.result in
    let fault = c.in_err-read.field-0.0 in
    let made = error_at _ (λ e. input_fault_of_copy e c.args.stop count) (λ e r made. search rules) c.finish.result c.map_err.result fault
    c.map_err.ensures.cases c.in_err-read.was in
    let none = IfErr-at_err _ made.2 c.finish.ensures.none in
    let p = err_from_is_err_and c.from_residual.result c.from_residual.ensures.1 in
    rw (p.1, p.2) (refused_so c.args.reader made.0 c.args.stop count fault none c.fed-count.ensures made.1)

pub returns-in_err-put_source-clause-refused : goal.returns-in_err-put_source-clause-refused
returns-in_err-put_source-clause-refused c =
    let p = err_from_is_err_and c.from_residual-in_err-put_source.result c.from_residual-in_err-put_source.ensures.1 in
    rw (p.1, p.2) (refused_for_memory c.args.reader c.args.stop)

-- the copy gives its readings, under the source
pub returns-clause-given : goal.returns-clause-given
returns-clause-given c =
    let was = value_at _ c.finish.result c.map_err.result c.in_ok-read.read c.map_err.ensures.cases c.in_ok-read.was in
    let read = IfOk-at_ok _ was c.finish.ensures.read in
    copy_given c.args.source c.args.reader c.in_ok-read.read c.put_source.new.partial c.into_parts-partial.result.1.items
    c.piece_count-piece_count.result c.ended-ended.result c.fed-count.result c.args.stop
    (c.in_ok-put_source.ensures ∙ ap (marked c.args.source) c.into_parts-partial.ensures.partial) c.into_parts-partial.ensures.pieces
    c.piece_count-piece_count.ensures c.ended-ended.ensures c.fed-count.ensures read
