use Rattle.std.proofs.Common.{ap, refl, subst}
use Rattle.std.specs.Prelude.{IfSome}
use Rattle.jls_copy.specs.Prefixes.{IsPieceBrokenUnder}
use Rattle.jls_copy.specs.ReadCopy.{ReaderBytes}
use Rattle.jls_copy.proofs.Gathering.{fed_or_failed}
use Rattle.jls_copy.proofs.Prefixes.{broken_fed}
use Rattle.jls_copy.proofs.profile_reader.ProfileReader.is_piece_broken.Goals as goal

-- the piece in hand reads no more, so it stays broken
pub returns : goal.returns
returns c = λ broken.
    let reader = c.self.inside in
    let machine = reader.machine in
    subst (λ (v : ReaderBytes). IfSome v.bytes (λ bytes. IsPieceBrokenUnder v.profile bytes)) c.self.view_is
    (fed_or_failed reader.failed reader.bytes.list _ (λ bytes. IsPieceBrokenUnder reader.profile bytes) refl
    (λ open_. let h = c.self.invariant open_ in
    broken_fed reader.profile reader.bytes.list h.are_bytes machine.headers.frame machine.payload.items machine.place
    (ap (λ s. s.place) h.state_is) h.place_is (c.reads_no_more.ensures broken)))
