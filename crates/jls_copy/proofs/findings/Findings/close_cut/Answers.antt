use Rattle.std.proofs.Common.{subst}
use Rattle.jls_copy.proofs.Outcomes.{on_ok3}
use Rattle.jls_copy.proofs.CutOutcomes.{CutFinishes, beyond_adds, whole_adds, head_adds, cut_lines}
use Rattle.jls_copy.proofs.findings.Findings.close_cut.Goals as goal

-- the complete lines are those of the interval of this piece
pub take_head-requires-clause-lines : goal.take_head-requires-clause-lines
take_head-requires-clause-lines c =
    let said = subst (CutFinishes c.in-Within.decoder) c.in-Head.is c.in_ok-lines-in-Within.ensures.cut_end in
    cut_lines c.args.plan.now c.in-Within.interval c.in-Within.decoder c.args.fed.piece c.in-Within.is c.requires.sound c.in-Head.head
    c.in-Head.fault said

-- a piece beyond the last interval is noted, and gives no lines
pub returns-in-Beyond : goal.returns-in-Beyond
returns-in-Beyond c =
    on_ok3 c.note.result (beyond_adds c.args.shape.now c.args.fed.scan c.args.plan.now c.args.fed.offset c.in-Beyond.interval
    c.args.self.now c.note.new.self c.args.fed.piece c.in-Beyond.is)
    c.note.ensures.partial c.note.ensures.records c.note.ensures.count

-- the cut piece reads as lines
pub returns-in-Whole : goal.returns-in-Whole
returns-in-Whole c =
    let said = subst (CutFinishes c.in-Within.decoder) c.in-Whole.is c.in_ok-lines-in-Within.ensures.cut_end in
    on_ok3 c.take.result (whole_adds c.args.plan.now _ _ _ c.in-Within.is c.requires.sound c.width-width.ensures.ranges c.args.shape.now
    c.args.fed.scan c.args.fed.offset c.args.self.now c.take.new.self c.in-Whole.lines said) c.take.ensures.picture c.take.ensures.records
    c.take.ensures.count

-- the cut piece gives its head, and has a record
pub returns-in-Head : goal.returns-in-Head
returns-in-Head c =
    let said = subst (CutFinishes c.in-Within.decoder) c.in-Head.is c.in_ok-lines-in-Within.ensures.cut_end in
    on_ok3 c.take_head.result (head_adds c.args.plan.now _ _ _ c.in-Within.is c.requires.sound c.width-width.ensures.ranges
    c.args.shape.now c.args.fed.scan c.args.fed.offset c.args.self.now c.take_head.new.self c.in-Head.head c.in-Head.fault _ said
    c.kind_of.ensures)
    c.take_head.ensures.picture c.take_head.ensures.records c.take_head.ensures.count
