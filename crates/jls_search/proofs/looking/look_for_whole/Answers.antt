use Rattle.std.proofs.Common.{arith, rules}
use Rattle.jls_search.proofs.EarlyReads.{fed_none, fed_some}
use Rattle.jls_search.proofs.Paths.{path_len}
use Rattle.jls_search.proofs.WholeSplices.{dead_prefix}
use Rattle.jls_search.proofs.looking.look_for_whole.Goals as goal

pub returns-then-path-len : goal.returns-then-path-len
returns-then-path-len c =
    c.look_at_prefix.ensures c.args.parts.now c.args.path.now c.requires.path (omega arith)
    (fed_some c.args.parts.now c.args.path.now c.in_ok-reader.field-0 c.in-Some.reader c.in-Some.is c.in_ok-reader.ensures.living)

pub returns-else-path-len : goal.returns-else-path-len
returns-else-path-len c =
    let l = path_len c.args.parts.now c.args.path.now c.requires.path in
    c.look_at_file.ensures c.args.parts.now c.args.path.now (omega (arith, l))
    (fed_some c.args.parts.now c.args.path.now c.in_ok-reader.field-0 c.in-Some.reader c.in-Some.is c.in_ok-reader.ensures.living)

pub returns-in_default : goal.returns-in_default
returns-in_default c =
    dead_prefix c.args.judge.now.ceiling c.args.parts.now c.args.path.now c.requires.path
    (λ more low sought. fed_none c.args.parts.now c.args.path.now c.in_ok-reader.field-0 (search rules) c.in_ok-reader.ensures.dead more low
    sought.0)
