use Rattle.std.proofs.Common.{◌≡◌, ℕ, List, ◌∷◌, [], ◌++◌, refl, subst}
use Rattle.std.specs.String.{string_bytes}
use Rattle.jls_io.specs.Event.{GrewBy, created, not_created}
use Rattle.jls_io.specs.Writing.{Wrote, WrotePrefix}
use Rattle.jls_io.specs.Outputs.{HandsOut}
use Rattle.jls_splice_run.specs.Handing.{StopsAtNumber, number_cut, number_not_there}
use Rattle.jls_splice_run.specs.Listing.{named_file}
use Rattle.jls_cli.proofs.OutputSteps.{grew_after}
use Rattle.jls_splice_run.proofs.handing.write_numbered.Goals as goal

pub returns-in-Err-clause-stopped : goal.returns-in-Err-clause-stopped
returns-in-Err-clause-stopped g c =
    let history = g.D.Device.history in
    let failed = subst (λ (name : List ℕ). history c.create_output.new.self ≡ history c.args.desk.now ++ not_created name ∷ [])
    c.deref.ensures c.in-Err.ensures.failed in
    record { events = not_created (string_bytes c.args.file.now.name) ∷ []; grew = failed; they_are = number_not_there refl refl }

pub returns-in-Ok-write_all-clause-written : goal.returns-in-Ok-write_all-clause-written
returns-in-Ok-write_all-clause-written g c =
    let history = g.D.Device.history in
    let name = string_bytes c.args.file.now.name in
    let bytes = c.args.file.now.bytes.items in
    let made = subst (λ (name : List ℕ). history c.create_output.new.self ≡ history c.args.desk.now ++ created name ∷ []) c.deref.ensures
    c.in-Ok.ensures.created in
    grew_after (Wrote bytes) (HandsOut name bytes) (history c.args.desk.now) (history c.create_output.new.self)
    (history c.write_all.new.sink) (created name)
    (λ writes h. record { writes = writes; events_are = refl; wrote = h }) made
    (subst (λ (text : List ℕ). GrewBy (Wrote text) (history c.create_output.new.self) (history c.write_all.new.sink))
    c.deref-2.ensures.value c.in-Ok-write_all.ensures.written)

pub returns-in-Err-write_all-clause-stopped : goal.returns-in-Err-write_all-clause-stopped
returns-in-Err-write_all-clause-stopped g c =
    let history = g.D.Device.history in
    let name = string_bytes c.args.file.now.name in
    let bytes = c.args.file.now.bytes.items in
    let count = c.in-Err-write_all.count in
    let made = subst (λ (name : List ℕ). history c.create_output.new.self ≡ history c.args.desk.now ++ created name ∷ []) c.deref.ensures
    c.in-Ok.ensures.created in
    grew_after (WrotePrefix bytes count) (StopsAtNumber c.args.prefix.now c.args.number (named_file c.args.file.now) _)
    (history c.args.desk.now) (history c.create_output.new.self) (history c.write_all.new.sink) (created name)
    (λ writes h. number_cut count writes refl refl h) made
    (subst (λ (text : List ℕ). GrewBy (WrotePrefix text count) (history c.create_output.new.self) (history c.write_all.new.sink))
    c.deref-2.ensures.value c.in-Err-write_all.ensures.stopped)
