use Rattle.std.proofs.Common.{sym, subst, rules}
use Rattle.jls_search.specs.Seen.{HasItIfFaultless}
use Rattle.jls_search.specs.declared.seen.Seen.{Seen}
use Rattle.jls_search.proofs.Members.{all_one_more}
use Rattle.jls_search.proofs.SeenFiles.{has_it}
use Rattle.jls_search.proofs.shape_rule.agree.Goals as goal
use Rattle.jls_search.proofs.shape_rule.agree.Goals.{in-Faultless+else-ne, in_default}

pub loop-file-preserved : goal.loop-file-preserved
loop-file-preserved c =
    let P : Seen → Type 0 = HasItIfFaultless c.args.shape.now in
    let here : P c.file-item.result =
    elim c.match-file.branch [
      | in-Faultless+else-ne w ↦ subst P (sym w.in-Faultless.is) (search rules)
      | in_default w ↦ has_it c.args.shape.now c.file-item.result w.in_default.not-Faultless
    ] in
    all_one_more P c.args.seen.now c.loop-file.file-index c.file-item.result c.loop-file.invariant c.loop-file-test.true
    (subst P c.file-item.is here)
