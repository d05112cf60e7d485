use Rattle.std.proofs.Common.{◌≡◌, refl, sym, subst, Ok, ◌<◌, length}
use Rattle.jls_values.specs.Shape.{PictureShape}
use Rattle.jls_partial.specs.Merging.{TakesPrefix}
use Rattle.jls_partial.specs.TextPrefix.{entry_prefix}
use Rattle.jls_partial.specs.TextReading.{place_fields}
use Rattle.jls_partial.proofs.TextEntries.{place_inside}
use Rattle.jls_partial.proofs.TextPrefixes.{on_error, nothing_taken, entry_prefix_is}
use Rattle.jls_partial.proofs.text_reading.read_entry.Goals as goal

pub read_readings-requires-clause-component_in : goal.read_readings-requires-clause-component_in
read_readings-requires-clause-component_in c =
    subst (λ (s : PictureShape). c.in_ok-at.at.component < length s.ids) c.shape.ensures.value
    (place_inside c.args.form.size c.shape.result.now c.args.before c.args.bytes.now (c.in_ok-at.at, c.in_ok-at.rest.now)
    c.in_ok-at.ensures).0

pub read_readings-requires-clause-line_in : goal.read_readings-requires-clause-line_in
read_readings-requires-clause-line_in c =
    subst (λ (s : PictureShape). c.in_ok-at.at.line < s.height) c.shape.ensures.value
    (place_inside c.args.form.size c.shape.result.now c.args.before c.args.bytes.now (c.in_ok-at.at, c.in_ok-at.rest.now)
    c.in_ok-at.ensures).1

pub returns-in_err-at-clause-prefix : goal.returns-in_err-at-clause-prefix
returns-in_err-at-clause-prefix c =
    let all = entry_prefix c.args.form.size c.args.form.version c.args.partial.now.shape c.args.before c.args.bytes.now in
    on_error c.from_residual.result (TakesPrefix c.args.partial.now c.args.partial.now all)
    (nothing_taken c.args.partial.now c.args.partial.now all refl)

pub returns-in_err-count-clause-prefix : goal.returns-in_err-count-clause-prefix
returns-in_err-count-clause-prefix c =
    let all = entry_prefix c.args.form.size c.args.form.version c.args.partial.now.shape c.args.before c.args.bytes.now in
    on_error c.from_residual-in_err-count.result (TakesPrefix c.args.partial.now c.args.partial.now all)
    (nothing_taken c.args.partial.now c.args.partial.now all refl)

-- a reading of the entry can't be read: those before it are taken
pub returns-in_err-rest-clause-prefix : goal.returns-in_err-rest-clause-prefix
returns-in_err-rest-clause-prefix c =
    let size = c.args.form.size in
    let version = c.args.form.version in
    let shape = c.args.partial.now.shape in
    let p = c.args.partial.now in
    let q = c.read_readings.new.partial in
    let all = entry_prefix size version shape c.args.before c.args.bytes.now in
    let placed : place_fields size shape c.args.before c.args.bytes.now ≡ Ok (c.in_ok-at.at, c.in_ok-at.rest.now) =
    subst (λ (s : PictureShape). place_fields size s c.args.before c.args.bytes.now ≡ Ok (c.in_ok-at.at, c.in_ok-at.rest.now))
    c.shape.ensures.value c.in_ok-at.ensures in
    let is = entry_prefix_is size version shape c.args.before c.args.bytes.now c.in_ok-at.at c.in_ok-at.rest.now c.in_ok-count.count
    c.in_ok-count.rest.now placed c.in_ok-count.ensures in
    on_error c.from_residual-in_err-rest.result (TakesPrefix p q all) (subst (TakesPrefix p q) (sym is) c.in_err-rest.ensures.prefix)
