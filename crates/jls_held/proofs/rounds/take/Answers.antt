use Rattle.std.proofs.Common.{◌≡◌, true, sym, subst}
use Rattle.jls_partial.specs.Reading.{reading_of}
use Rattle.jls_partial.specs.Partial.{PartialPicture, with_reading}
use Rattle.jls_held.specs.HeldPictures.{is_among}
use Rattle.jls_held.specs.Chains.{AreKept, IsHeldPicture}
use Rattle.jls_held.proofs.HeldReadings.{held_with, kept_with, added}
use Rattle.jls_held.proofs.rounds.take.Goals as goal

-- the line is inserted
pub returns-in-Ok-clause-kept : goal.returns-in-Ok-clause-kept
returns-in-Ok-clause-kept c =
    let line = c.args.line.now in
    subst (AreKept c.args.held.now) (sym c.in-Ok.ensures.held)
    (subst (λ z. AreKept c.args.held.now (with_reading c.args.held.now line.component line.row z)) (sym c.deref-2.ensures.value)
    (kept_with c.args.held.now line.component line.row line.samples.items))

pub returns-in-Ok-clause-taken : goal.returns-in-Ok-clause-taken
returns-in-Ok-clause-taken c _ =
    let line = c.args.line.now in let own = reading_of line.component line.row line.samples.items in
    subst (λ (p : PartialPicture). is_among p own ≡ true) (sym c.in-Ok.ensures.held)
    (subst (λ z. is_among (with_reading c.args.held.now line.component line.row z) own ≡ true) (sym c.deref-2.ensures.value)
    (added c.args.held.now line.component line.row line.samples.items))

-- as a line that is held behind those before it
pub returns-in-Ok-clause-held : goal.returns-in-Ok-clause-held
returns-in-Ok-clause-held c files own all =
    let line = c.args.line.now in let held = own c.if-not-line.false in
    subst (IsHeldPicture files) (sym c.in-Ok.ensures.held)
    (subst (λ z. IsHeldPicture files (with_reading c.args.held.now line.component line.row z)) (sym c.deref-2.ensures.value)
    (held_with c.args.held.now line.component line.row line.samples.items files all held))
