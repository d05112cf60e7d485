use Rattle.std.proofs.Common.{◌≡◌, ◌∙◌, subst, None, Ok}
use Rattle.std.proofs.lemmas.Result.{err_from_is_err_and}
use Rattle.jls_values.specs.Shape.{PictureShape}
use Rattle.jls_partial.specs.Merging.{TakesPrefix}
use Rattle.jls_partial.specs.TextPrefix.{entry_prefix, entries_prefix}
use Rattle.jls_partial.specs.TextInto.{with_entry, with_entries}
use Rattle.jls_partial.specs.TextReading.{Fails, entry_fields, entries_fields}
use Rattle.jls_partial.proofs.TextPrefixes.{on_error, entry_cut, entry_taken}
use Rattle.jls_partial.proofs.TextLoops.{entry_keeps_shape, entries_go_on, entries_end, entries_done}
use Rattle.jls_partial.proofs.text_reading.read_entries.Goals as goal

-- the next entry can't be read, so neither can all
pub returns-in_err-at-clause-read : goal.returns-in_err-at-clause-read
returns-in_err-at-clause-read c =
    let p = err_from_is_err_and c.from_residual.result c.from_residual.ensures.1 in
    let shape = c.args.partial.now.shape in
    let e = c.in_err-at.field-0.0 in
    let failed : Fails e (with_entry c.loop.partial
    (entry_fields c.args.form.size c.args.form.version shape c.loop.before c.loop.rest.now)) =
    subst (λ (s : PictureShape). Fails e
    (with_entry c.loop.partial (entry_fields c.args.form.size c.args.form.version s c.loop.before c.loop.rest.now)))
    c.loop.invariant.shape c.in_err-at.ensures.read in
    rw (p.1, p.2) (entries_end e c.args.form.size c.args.form.version shape c.loop.partial c.loop.before c.args.count c.loop.counter
    c.loop.rest.now (with_entries c.args.partial.now
    (entries_fields c.args.form.size c.args.form.version shape None c.args.count c.args.bytes.now)) c.loop-test.true failed
    c.loop.invariant.same)

-- the next entry can't be read: the readings before the fault are taken
pub returns-in_err-at-clause-prefix : goal.returns-in_err-at-clause-prefix
returns-in_err-at-clause-prefix c =
    let size = c.args.form.size in
    let version = c.args.form.version in
    let shape = c.args.partial.now.shape in
    let p = c.loop.partial in
    let q = c.read_entry.new.partial in
    let all = entries_prefix size version shape None c.args.count c.args.bytes.now in
    let cut : TakesPrefix p q (entry_prefix size version shape c.loop.before c.loop.rest.now) =
    subst (λ (s : PictureShape). TakesPrefix p q (entry_prefix size version s c.loop.before c.loop.rest.now)) c.loop.invariant.shape
    c.in_err-at.ensures.prefix in
    on_error c.from_residual.result (TakesPrefix c.args.partial.now q all)
    (entry_cut size version shape c.loop.before c.args.count c.loop.counter c.loop.rest.now c.loop-test.true c.args.partial.now p q all
    c.loop.invariant.so_far cut)

-- one entry more is read, and its readings are taken
pub loop-preserved : goal.loop-preserved
loop-preserved c =
    let shape = c.args.partial.now.shape in
    let q = c.read_entry.new.partial in
    let at = c.in_ok-at.at in
    let after = c.in_ok-at.after.now in
    let total = with_entries c.args.partial.now
    (entries_fields c.args.form.size c.args.form.version shape None c.args.count c.args.bytes.now) in
    let read : with_entry c.loop.partial (entry_fields c.args.form.size c.args.form.version shape c.loop.before c.loop.rest.now)
    ≡ Ok (q, at, after) =
    subst (λ (s : PictureShape). with_entry c.loop.partial
    (entry_fields c.args.form.size c.args.form.version s c.loop.before c.loop.rest.now) ≡ Ok (q, at, after)) c.loop.invariant.shape
    c.in_ok-at.ensures.read in
    record {
      shape = entry_keeps_shape c.args.form.size c.args.form.version shape c.loop.partial q c.loop.before c.loop.rest.now at after read
          ∙ c.loop.invariant.shape;
      same = entries_go_on c.args.form.size c.args.form.version shape c.loop.partial q c.loop.before c.args.count c.loop.counter
          c.loop.rest.now at after total c.loop-test.true read c.loop.invariant.same;
      so_far = entry_taken c.args.form.size c.args.form.version shape c.loop.before c.args.count c.loop.counter c.loop.rest.now
          c.loop-test.true c.args.partial.now c.loop.partial q at after
          (entries_prefix c.args.form.size c.args.form.version shape None c.args.count c.args.bytes.now) c.loop.invariant.so_far read;
    }

-- all entries are read
pub returns-clause-read : goal.returns-clause-read
returns-clause-read c =
    entries_done c.args.form.size c.args.form.version c.args.partial.now.shape c.loop.partial c.loop.before c.args.count c.loop.counter
    c.loop.rest.now (with_entries c.args.partial.now
    (entries_fields c.args.form.size c.args.form.version c.args.partial.now.shape None c.args.count c.args.bytes.now)) c.loop-test.false
    c.loop.invariant.same
