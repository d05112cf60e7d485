use Rattle.std.specs.Prelude.{IfErr, IsTrue}
use Rattle.std.proofs.Common.{inr, subst}
use Rattle.jls_bad.specs.ListText.{IsFirstFault}
use Rattle.jls_splice_run.specs.BadLists.{not_whole, not_understood}
use Rattle.jls_splice_run.proofs.bad_lists.places_of.Goals as goal

pub returns-then-not-is_whole-clause-refused : goal.returns-then-not-is_whole-clause-refused
returns-then-not-is_whole-clause-refused c = inr (not_whole (λ whole.
    let is : IsTrue c.is_whole.result = c.is_whole.ensures.1 whole in let is_not = c.if-not-is_whole.true in absurd cc))

pub returns-in-Ok-Err-clause-refused : goal.returns-in-Ok-Err-clause-refused
returns-in-Ok-Err-clause-refused c =
    let fault = subst (λ outcome. IfErr outcome (λ line. IsFirstFault c.deref.result.now line.number)) c.in-Ok-Err.field-0-is
    c.in-Ok-Err.ensures.fault in
    inr (not_understood c.in-Ok-Err.line.number (c.is_whole.ensures.0 c.if-not-is_whole.false)
    (subst (λ text. IsFirstFault text c.in-Ok-Err.line.number) c.deref.ensures.value fault))
