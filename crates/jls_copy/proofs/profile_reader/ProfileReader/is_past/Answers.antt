use Rattle.std.proofs.Common.{ap, refl, subst}
use Rattle.std.specs.Prelude.{IfSome}
use Rattle.jls_copy.specs.Prefixes.{IsPastUnder}
use Rattle.jls_copy.specs.ReadCopy.{ReaderBytes}
use Rattle.jls_copy.proofs.Gathering.{fed_or_failed}
use Rattle.jls_copy.proofs.SettledPieces.{past_fed}
use Rattle.jls_copy.proofs.profile_reader.ProfileReader.is_past.Goals as goal

-- the piece in hand begins at the offset or after it
pub returns : goal.returns
returns c = λ past.
    let reader = c.self.inside in
    let machine = reader.machine in
    subst (λ (v : ReaderBytes). IfSome v.bytes (λ bytes. IsPastUnder v.profile c.args.offset bytes)) c.self.view_is
    (fed_or_failed reader.failed reader.bytes.list _ (λ bytes. IsPastUnder reader.profile c.args.offset bytes) refl
    (λ open_. let h = c.self.invariant open_ in
    past_fed reader.profile c.args.offset reader.bytes.list h.are_bytes machine.place (ap (λ s. s.place) h.state_is)
    (c.is_past.ensures past)))
