use Rattle.jls_copy.proofs.Outcomes.{on_ok3, beyond_adds, fault_adds, lines_add}
use Rattle.jls_copy.proofs.findings.Findings.close.Goals as goal

-- a piece beyond the last interval is noted, and gives no lines
pub returns-in-Beyond : goal.returns-in-Beyond
returns-in-Beyond c =
    on_ok3 c.note.result (beyond_adds c.args.shape.now c.args.fed.scan c.args.plan.now c.args.fed.offset c.in-Beyond.interval
    c.args.self.now c.note.new.self c.args.fed.piece c.in-Beyond.is)
    c.note.ensures.partial c.note.ensures.records c.note.ensures.count

-- the lines of the piece are taken into the picture
pub returns-in-Ok : goal.returns-in-Ok
returns-in-Ok c =
    on_ok3 c.take.result (lines_add c.args.shape.now c.args.fed.scan c.args.plan.now c.args.fed.offset c.in-Within.interval c.args.self.now
    c.take.new.self c.in-Within.decoder c.args.fed.piece c.in-Within.is c.requires.sound c.in-Ok.lines c.in-Ok.ensures.outcome)
    c.take.ensures.picture c.take.ensures.records c.take.ensures.count

-- the piece reads as no lines, and has a record
pub returns-in-Err : goal.returns-in-Err
returns-in-Err c =
    on_ok3 c.note-in-Err.result
    (fault_adds c.args.shape.now c.args.fed.scan c.args.plan.now c.args.fed.offset c.in-Within.interval c.args.self.now
    c.note-in-Err.new.self c.in-Within.decoder c.args.fed.piece c.in-Within.is c.requires.sound c.in-Err.fault c.kind_of.result
    c.in-Err.ensures.outcome c.kind_of.ensures)
    c.note-in-Err.ensures.partial c.note-in-Err.ensures.records c.note-in-Err.ensures.count
