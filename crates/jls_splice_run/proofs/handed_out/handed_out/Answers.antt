use Rattle.std.proofs.Common.{◌≡◌, List, Vec, Global, map, ◌∙◌, subst}
use Rattle.jls_held.specs.Judging.{codings_of}
use Rattle.jls_held.specs.Mending.{file_of}
use Rattle.jls_held.specs.declared.mending.MendedCopy.{MendedCopy}
use Rattle.jls_splice_run.specs.Carrying.{promise_for}
use Rattle.jls_splice_run.specs.ReadsAs.{EachReadsAs}
use Rattle.jls_splice_run.proofs.handed_out.handed_out.Goals as goal

pub returns-clause-read : goal.returns-clause-read
returns-clause-read c = λ are.
    subst (λ (fs : List MendedCopy). EachReadsAs c.args.between.judged.held (map file_of fs)) c.deref-2.ensures.value
    (c.in_ok-are_read.ensures are)

pub returns-clause-promise : goal.returns-clause-promise
returns-clause-promise c =
    c.carried_promise-promise.ensures
    ∙ (λ i. promise_for (codings_of (c.deref-3.ensures.value i)) (c.deref-4.ensures.value i) c.is_settled-is_held.result
    c.in_ok-are_read.are_read)
