use Rattle.std.proofs.Common.{◌≡◌, ℕ, true, not, ◌∙◌, refl, subst}
use Rattle.std.specs.Prelude.{◌==◌, IfSome}
use Rattle.jls_copy.specs.Prefixes.{StaysFaultyUnder}
use Rattle.jls_copy.specs.ReadCopy.{ReaderBytes}
use Rattle.jls_copy.specs.ReaderState.{reading}
use Rattle.jls_copy.proofs.FaultyPieces.{some_fault, stays_faulty}
use Rattle.jls_copy.proofs.Gathering.{fed_or_failed}
use Rattle.jls_copy.proofs.profile_reader.ProfileReader.has_faulty_piece.Goals as goal

-- a record is of a closed piece that is faulty
pub returns : goal.returns
returns c = λ yes.
    let reader = c.self.inside in
    subst (λ (v : ReaderBytes). IfSome v.bytes (λ bytes. StaysFaultyUnder v.profile bytes)) c.self.view_is
    (fed_or_failed reader.failed reader.bytes.list _ (λ bytes. StaysFaultyUnder reader.profile bytes) refl
    (λ open_. let h = c.self.invariant open_ in
    stays_faulty reader.profile reader.bytes.list (some_fault (reading reader.profile reader.bytes.list).pieces h.gathers.outcomes
    h.gathers.each (λ none.
    let zero : reader.machine.findings.record_count ≡ 0 = h.gathers.count_is ∙ none in
    let never : not (0 == 0) ≡ true = subst (λ (n : ℕ). not (n == 0) ≡ true) zero yes in absurd cc))))
