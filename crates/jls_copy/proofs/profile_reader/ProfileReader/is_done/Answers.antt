use Rattle.std.proofs.Common.{ap, refl, subst}
use Rattle.std.specs.Prelude.{IfSome}
use Rattle.jls_copy.specs.CopyReads.{IsDoneUnder}
use Rattle.jls_copy.specs.ReadCopy.{ReaderBytes}
use Rattle.jls_copy.proofs.Gathering.{fed_or_failed}
use Rattle.jls_copy.proofs.CopyFed.{done_fed}
use Rattle.jls_copy.proofs.profile_reader.ProfileReader.is_done.Goals as goal

-- the place is final exactly where the course is
pub returns : goal.returns
returns c =
    let reader = c.self.inside in
    let done = c.is_final.result in
    subst (λ (v : ReaderBytes). IfSome v.bytes (λ bytes. IsDoneUnder v.profile bytes done)) c.self.view_is
    (fed_or_failed reader.failed reader.bytes.list _ (λ bytes. IsDoneUnder reader.profile bytes done) refl
    (λ open_. let h = c.self.invariant open_ in
    done_fed reader.profile reader.bytes.list h.are_bytes reader.machine.place (ap (λ s. s.place) h.state_is) done c.is_final.ensures))
