use Rattle.jls_copy.specs.CopyReads.{CopyReadsUnder, CopyGivesNoneUnder}
use Rattle.jls_copy.specs.ReadCopy.{ReaderBytes}
use Rattle.std.proofs.Common.{refl, subst}
use Rattle.std.specs.Prelude.{IfSome}
use Rattle.jls_copy.proofs.Gathering.{is_machine, saying_none, to_fed, if_ok, if_err}
use Rattle.jls_copy.proofs.CutGathering.{concluding}
use Rattle.jls_copy.proofs.CopyFed.{conclusion_fed, none_fed}
use Rattle.jls_copy.proofs.profile_reader.ProfileReader.finish.Goals as goal

pub finish-requires : goal.finish-requires
finish-requires c = is_machine _ _ _ (c.self.invariant c.if-failed.false)

-- what the machine holds at the end is what the copy gives
pub returns-in-Ok-clause-read : goal.returns-in-Ok-clause-read
returns-in-Ok-clause-read c =
    let h = c.self.invariant c.if-failed.false in
    if_ok c.conclude.result
    (λ read fed.
    subst (λ (v : ReaderBytes). IfSome v.bytes (λ bytes. CopyReadsUnder v.profile bytes read)) c.self.view_is
    (to_fed c.self.inside.failed c.self.inside.bytes.list _ (λ bytes. CopyReadsUnder c.self.inside.profile bytes read) refl
    c.if-failed.false (conclusion_fed _ _ h.are_bytes read
    (concluding _ _ c.finish.new.self _ _ read h c.in-Ok.ensures.end c.in-Ok.ensures.found c.in-Ok.ensures.headers fed))))
    c.conclude.ensures.read

-- no frame was taken, and the copy gives no picture
pub returns-in-Ok-clause-none : goal.returns-in-Ok-clause-none
returns-in-Ok-clause-none c =
    let h = c.self.invariant c.if-failed.false in
    if_err c.conclude.result
    (λ f fed.
    subst (λ (v : ReaderBytes). IfSome v.bytes (λ bytes. CopyGivesNoneUnder v.profile bytes f)) c.self.view_is
    (to_fed c.self.inside.failed c.self.inside.bytes.list _ (λ bytes. CopyGivesNoneUnder c.self.inside.profile bytes f) refl
    c.if-failed.false
    (none_fed _ _ h.are_bytes f (saying_none _ _ c.finish.new.self _ _ f h c.in-Ok.ensures.end c.in-Ok.ensures.headers fed))))
    c.conclude.ensures.none
