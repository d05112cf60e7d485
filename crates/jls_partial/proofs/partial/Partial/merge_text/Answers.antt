use Rattle.std.proofs.Common.{◌≡◌, ◌∙◌, false, arith, refl, subst, sym}
use Rattle.std.proofs.lemmas.Result.{err_from_is_err_and}
use Rattle.jls_values.specs.Join.{IsBetween}
use Rattle.jls_values.specs.SameShape.{same_shape}
use Rattle.jls_values.specs.Shape.{PictureShape}
use Rattle.jls_partial.specs.Merging.{TakesPrefix}
use Rattle.jls_partial.specs.Partial.{union}
use Rattle.jls_partial.specs.TextPrefix.{text_prefix}
use Rattle.jls_partial.proofs.SameEntries.{shapes_differ, shapes_from_test}
use Rattle.jls_partial.proofs.TextPrefixes.{on_error, nothing_taken}
use Rattle.jls_partial.proofs.TextMerges.{head_fault, fault_after, fault_merged, differs, merged, prefix_merged, text_between}
use Rattle.jls_partial.proofs.TextMerges.{no_other_head}
use Rattle.jls_partial.proofs.partial.Partial.merge_text.Goals as goal

pub returns-in_err-head-clause-refused : goal.returns-in_err-head-clause-refused
returns-in_err-head-clause-refused c =
    let p = err_from_is_err_and c.from_residual.result c.from_residual.ensures.1 in
    rw (p.1, p.2) (head_fault c.in_err-head.field-0.0 c.args.bytes.now c.in_err-head.ensures)

pub returns-in_err-head-clause-between : goal.returns-in_err-head-clause-between
returns-in_err-head-clause-between c = λ p is.
    on_error c.from_residual.result (IsBetween union c.args.self.now c.args.self.now (union c.args.self.now p))
    (text_between c.args.self.now c.args.self.now c.args.bytes.now
    (nothing_taken c.args.self.now c.args.self.now (text_prefix c.args.bytes.now) refl) p is)

-- the text has another shape and a fault
pub returns-in_err-read_after-clause-refused : goal.returns-in_err-read_after-clause-refused
returns-in_err-read_after-clause-refused c =
    let p = err_from_is_err_and c.from_residual-in_err-read_after.result c.from_residual-in_err-read_after.ensures.1 in
    let head = c.in_ok-head.head in
    rw (p.1, p.2) (fault_after c.args.bytes.now (head.form.size, head.form.version, head.shape, head.count, head.rest.now)
    c.in_ok-head.ensures c.in_err-read_after.field-0.0 c.in_err-read_after.ensures)

pub returns-in_err-read_after-clause-between : goal.returns-in_err-read_after-clause-between
returns-in_err-read_after-clause-between c = λ p is.
    on_error c.from_residual-in_err-read_after.result (IsBetween union c.args.self.now c.args.self.now (union c.args.self.now p))
    (text_between c.args.self.now c.args.self.now c.args.bytes.now
    (nothing_taken c.args.self.now c.args.self.now (text_prefix c.args.bytes.now) refl) p is)

-- the text has another shape
pub returns-then-ne-clause-refused : goal.returns-then-ne-clause-refused
returns-then-ne-clause-refused c =
    let head = c.in_ok-head.head in
    differs c.args.bytes.now (head.form.size, head.form.version, head.shape, head.count, head.rest.now) c.in_ok-head.ensures c.args.self.now
    c.in_ok-read_after.field-0 (λ i. omega (arith, c.type_inv.bytes i))
    (subst (λ (s : PictureShape). same_shape s head.shape ≡ false) c.shape.ensures.value
    (shapes_differ c.shape.result.now head.shape c.ne.result c.ne.ensures c.if-ne.true)) c.in_ok-read_after.ensures

pub returns-then-ne-clause-between : goal.returns-then-ne-clause-between
returns-then-ne-clause-between c = λ p is.
    text_between c.args.self.now c.args.self.now c.args.bytes.now
    (nothing_taken c.args.self.now c.args.self.now (text_prefix c.args.bytes.now) refl) p is

-- the text has a fault behind its head
pub returns-in_err-read_rest-clause-refused : goal.returns-in_err-read_rest-clause-refused
returns-in_err-read_rest-clause-refused c =
    let p = err_from_is_err_and c.from_residual-in_err-read_rest.result c.from_residual-in_err-read_rest.ensures.1 in
    let head = c.in_ok-head.head in
    let one : head.shape ≡ c.args.self.now.shape =
    sym (shapes_from_test c.shape.result.now head.shape c.ne.result c.ne.ensures c.if-ne.false) ∙ c.shape.ensures.value in
    rw (p.1, p.2) (fault_merged c.args.bytes.now (head.form.size, head.form.version, head.shape, head.count, head.rest.now)
    c.in_ok-head.ensures c.args.self.now one c.in_err-read_rest.field-0.0 c.in_err-read_rest.ensures.read)

-- the text has a fault: the readings before it are taken
pub returns-in_err-read_rest-clause-prefix : goal.returns-in_err-read_rest-clause-prefix
returns-in_err-read_rest-clause-prefix c =
    let head = c.in_ok-head.head in
    let one : head.shape ≡ c.args.self.now.shape =
    sym (shapes_from_test c.shape.result.now head.shape c.ne.result c.ne.ensures c.if-ne.false) ∙ c.shape.ensures.value in
    on_error c.from_residual-in_err-read_rest.result (TakesPrefix c.args.self.now c.read_rest.new.partial (text_prefix c.args.bytes.now))
    (prefix_merged c.args.bytes.now (head.form.size, head.form.version, head.shape, head.count, head.rest.now) c.in_ok-head.ensures
    c.args.self.now one c.read_rest.new.partial c.in_err-read_rest.ensures.prefix)

-- memory ran out: what is held is between before and the union
pub returns-in_err-read_rest-clause-between : goal.returns-in_err-read_rest-clause-between
returns-in_err-read_rest-clause-between c = λ p is.
    let head = c.in_ok-head.head in
    let one : head.shape ≡ c.args.self.now.shape =
    sym (shapes_from_test c.shape.result.now head.shape c.ne.result c.ne.ensures c.if-ne.false) ∙ c.shape.ensures.value in
    on_error c.from_residual-in_err-read_rest.result (IsBetween union c.args.self.now c.read_rest.new.partial (union c.args.self.now p))
    (text_between c.args.self.now c.read_rest.new.partial c.args.bytes.now
    (prefix_merged c.args.bytes.now (head.form.size, head.form.version, head.shape, head.count, head.rest.now) c.in_ok-head.ensures
    c.args.self.now one c.read_rest.new.partial c.in_err-read_rest.ensures.prefix) p is)

-- all readings of the text are taken
pub returns-clause-ok : goal.returns-clause-ok
returns-clause-ok c =
    let head = c.in_ok-head.head in
    let one : head.shape ≡ c.args.self.now.shape =
    sym (shapes_from_test c.shape.result.now head.shape c.ne.result c.ne.ensures c.if-ne.false) ∙ c.shape.ensures.value in
    merged c.args.bytes.now (head.form.size, head.form.version, head.shape, head.count, head.rest.now) c.in_ok-head.ensures c.args.self.now
    one c.read_rest.new.partial (λ i. omega (arith, c.type_inv.bytes i)) c.in_ok-read_rest.ensures.read

-- the text has this shape, not another
pub returns-in_err-read_rest-clause-other_head : goal.returns-in_err-read_rest-clause-other_head
returns-in_err-read_rest-clause-other_head c = λ other.
    let head = c.in_ok-head.head in
    let one : head.shape ≡ c.args.self.now.shape =
    sym (shapes_from_test c.shape.result.now head.shape c.ne.result c.ne.ensures c.if-ne.false) ∙ c.shape.ensures.value in
    absurd (no_other_head c.args.self.now c.args.bytes.now (head.form.size, head.form.version, head.shape, head.count, head.rest.now)
    c.in_ok-head.ensures one other)

-- the text has this shape, not another
pub returns-clause-other_head : goal.returns-clause-other_head
returns-clause-other_head c = λ other.
    let head = c.in_ok-head.head in
    let one : head.shape ≡ c.args.self.now.shape =
    sym (shapes_from_test c.shape.result.now head.shape c.ne.result c.ne.ensures c.if-ne.false) ∙ c.shape.ensures.value in
    absurd (no_other_head c.args.self.now c.args.bytes.now (head.form.size, head.form.version, head.shape, head.count, head.rest.now)
    c.in_ok-head.ensures one other)
