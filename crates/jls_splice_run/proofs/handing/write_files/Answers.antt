use Rattle.std.proofs.Common.{[]}
use Rattle.jls_io.proofs.Growing.{grew_not}
use Rattle.jls_splice_run.specs.Handing.{HandsFiles, none_handed}
use Rattle.jls_splice_run.proofs.Named.{one_more_handed, stops_at_one}
use Rattle.jls_splice_run.proofs.handing.write_files.Goals as goal

pub loop-place-init : goal.loop-place-init
loop-place-init g c = grew_not (HandsFiles []) (g.D.Device.history c.args.desk.now) none_handed

pub returns-in-Err-clause-stopped : goal.returns-in-Err-clause-stopped
returns-in-Err-clause-stopped g c =
    let history = g.D.Device.history in
    stops_at_one c.args.files.now c.loop-place.place c.index-files-place.result c.loop-place-test.true c.index-files-place.is
    (history c.args.desk.now) (history c.loop-place.desk) (history c.write_numbered.new.desk) c.loop-place.invariant
    c.args.prefix.now c.in-Err.refusal c.in-Err.ensures.stopped

pub loop-place-preserved : goal.loop-place-preserved
loop-place-preserved g c =
    let history = g.D.Device.history in
    one_more_handed c.args.files.now c.loop-place.place c.index-files-place.result c.loop-place-test.true c.index-files-place.is
    (history c.args.desk.now) (history c.loop-place.desk) (history c.write_numbered.new.desk) c.loop-place.invariant c.in-Ok.ensures.written
