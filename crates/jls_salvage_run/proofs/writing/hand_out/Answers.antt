use Rattle.jls_salvage_run.proofs.Written.{stopped_as_pnm, stopped_as_jls}
use Rattle.jls_salvage_run.proofs.writing.hand_out.Goals as goal

pub returns-in-Pnm-clause-stopped : goal.returns-in-Pnm-clause-stopped
returns-in-Pnm-clause-stopped g c =
    let desk = g.D.Device.history in
    stopped_as_pnm c.args.format c.in-Pnm.is c.hand_out_pnm.result (desk c.args.desk.now) (desk c.hand_out_pnm.new.desk) c.args.name.now
    c.args.picture.now c.hand_out_pnm.ensures.stopped

pub returns-in-Jls-clause-stopped : goal.returns-in-Jls-clause-stopped
returns-in-Jls-clause-stopped g c =
    let desk = g.D.Device.history in
    stopped_as_jls c.args.format c.in-Jls.line c.in-Jls.ri c.in-Jls.is c.hand_out_jls.result (desk c.args.desk.now)
    (desk c.hand_out_jls.new.desk) c.args.picture.now
    c.pictures_are_whole.ensures.picture c.jls_options-options.result c.jls_options-options.ensures c.hand_out_jls.ensures.stopped
