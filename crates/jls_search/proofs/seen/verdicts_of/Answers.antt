use Rattle.std.proofs.Common.{◌≡◌, [], ◌∷◌, ◌++◌, map, get_or, sym, ap, ◌∙◌, arith}
use Rattle.std.proofs.lemmas.List.{take_all}
use Rattle.jls_search.specs.Seen.{verdict_of}
use Rattle.jls_search.proofs.Members.{map_one_more}
use Rattle.jls_search.proofs.seen.verdicts_of.Goals as goal

pub loop-file-preserved : goal.loop-file-preserved
loop-file-preserved c =
    let seen = c.args.seen.now in
    let i = c.loop-file.file-index in
    let file = c.file-item.result in
    let one : c.has_no_fault.result ≡ verdict_of (get_or seen i file) = c.has_no_fault.ensures ∙ ap verdict_of c.file-item.is in
    c.in_ok-push.ensures.items ∙ (λ j. c.loop-file.invariant j ++ one j ∷ [])
    ∙ sym (map_one_more verdict_of seen i file c.loop-file-test.true)

pub returns : goal.returns
returns c =
    c.loop-file.invariant ∙ ap (map verdict_of) (take_all c.loop-file.file-index c.args.seen.now (omega (arith, c.loop-file-test.false)))
