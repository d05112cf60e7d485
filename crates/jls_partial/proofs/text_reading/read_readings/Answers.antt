use Rattle.std.proofs.Common.{◌≡◌, map, ◌+◌, ◌-◌, ◌∙◌, ◌∷◌, [], ap, refl, sym, subst, List, ℕ, None, Some, Ok}
use Rattle.std.proofs.lemmas.Result.{err_from_is_err_and}
use Rattle.std.specs.Option.{option_map}
use Rattle.jls_values.specs.Shape.{PictureShape}
use Rattle.jls_partial.specs.Entries.{at_place, kept_at_place}
use Rattle.jls_partial.specs.InsertFaults.{reading_fault}
use Rattle.jls_partial.specs.Merging.{TakesPrefix}
use Rattle.jls_partial.specs.Packed.{Kept}
use Rattle.jls_partial.specs.Partial.{PartialPicture, with_all}
use Rattle.jls_partial.specs.Reading.{Reading}
use Rattle.jls_partial.specs.TextPrefix.{readings_prefix}
use Rattle.jls_partial.specs.TextInto.{with_readings}
use Rattle.jls_partial.specs.TextReading.{Fails, kept_fields, readings_fields}
use Rattle.jls_partial.proofs.Growth.{IsSoFar, more_so_far}
use Rattle.jls_partial.proofs.TextEntries.{fits_there}
use Rattle.jls_partial.proofs.TextPrefixes.{on_error, so_far_prefix, next_reading}
use Rattle.jls_partial.proofs.TextLoops.{kept_fits, with_kept, readings_go_on, readings_end, readings_done}
use Rattle.jls_partial.proofs.text_reading.read_readings.Goals.{After-shape, In_ok-samples}
use Rattle.jls_partial.proofs.text_reading.read_readings.Goals as goal

-- all readings that the bytes give
abbrev all : After-shape → List (Reading × List ℕ)
all c = map (kept_at_place c.args.at)
    (readings_prefix c.args.form.size c.args.form.version c.args.partial.now.shape None c.args.count c.args.bytes.now)

-- a prefix of them is taken, also where the next one is not
prefix : (c : After-shape) (q : PartialPicture) → q ≡ c.loop.partial → TakesPrefix c.args.partial.now q (all c)
prefix c q same =
    so_far_prefix c.args.partial.now c.loop.partial q (all c) (map (kept_at_place c.args.at)
    (readings_prefix c.args.form.size c.args.form.version c.args.partial.now.shape (option_map (λ v. v.items) c.loop.before)
    (c.args.count - c.loop.counter) c.loop.rest.now)) c.loop.invariant.so_far same

-- the next reading, with its sources
abbrev next : In_ok-samples → Kept
next c = (c.in_ok-samples.samples.items, c.in_ok-samples.sources.items)

-- is that of the bytes
read : (c : In_ok-samples) → kept_fields c.args.form.size c.args.form.version c.args.partial.now.shape
    (option_map (λ v. v.items) c.loop.before) c.loop.rest.now ≡ Ok (next c, c.in_ok-samples.after.now)
read c =
    subst (λ (s : PictureShape). kept_fields c.args.form.size c.args.form.version s (option_map (λ v. v.items) c.loop.before)
    c.loop.rest.now
    ≡ Ok (next c, c.in_ok-samples.after.now)) (c.shape.ensures.value ∙ c.loop.invariant.shape) c.in_ok-samples.ensures

-- the next reading can't be read, so neither can all
pub returns-in_err-samples-clause-read : goal.returns-in_err-samples-clause-read
returns-in_err-samples-clause-read c =
    let p = err_from_is_err_and c.from_residual.result c.from_residual.ensures.1 in
    let shape = c.args.partial.now.shape in
    let before = option_map (λ v. v.items) c.loop.before in
    let e = c.in_err-samples.field-0.0 in
    let size = c.args.form.size in
    let version = c.args.form.version in
    let failed : Fails e (kept_fields size version shape before c.loop.rest.now) =
    subst (λ (s : PictureShape). Fails e (kept_fields size version s before c.loop.rest.now))
    (c.shape.ensures.value ∙ c.loop.invariant.shape) c.in_err-samples.ensures in
    rw (p.1, p.2) (readings_end e size version shape c.loop.partial c.args.at before c.args.count c.loop.counter c.loop.rest.now
    (with_readings c.args.partial.now c.args.at (readings_fields size version shape None c.args.count c.args.bytes.now)) c.loop-test.true
    failed c.loop.invariant.same)

pub returns-in_err-samples-clause-prefix : goal.returns-in_err-samples-clause-prefix
returns-in_err-samples-clause-prefix c =
    let here = (goal.at.returns-in_err-samples-clause-prefix c).After-shape in
    on_error c.from_residual.result (TakesPrefix c.args.partial.now c.loop.partial (all here)) (prefix here c.loop.partial refl)

pub returns-in_err-take-clause-prefix : goal.returns-in_err-take-clause-prefix
returns-in_err-take-clause-prefix c =
    let here = (goal.at.returns-in_err-take-clause-prefix c).After-shape in
    on_error c.from_residual-in_err-take.result (TakesPrefix c.args.partial.now c.take.new.self (all here))
    (prefix here c.take.new.self c.in_err-take.ensures.err)

-- the reading fits its place
pub take-requires : goal.take-requires
take-requires c =
    let here = (goal.at.take-requires c).In_ok-samples in
    let shape = c.args.partial.now.shape in
    let fits = fits_there shape c.args.at.component c.args.at.line (next here).0 c.requires.component_in c.requires.line_in
    (kept_fits c.args.form.size c.args.form.version shape (option_map (λ v. v.items) c.loop.before) c.loop.rest.now
    (next here, c.in_ok-samples.after.now) (read here)) in
    subst (λ (s : PictureShape). reading_fault s c.args.at.component c.args.at.line c.deref.result.now ≡ None) (sym c.loop.invariant.shape)
    (subst (λ (ys : List ℕ). reading_fault shape c.args.at.component c.args.at.line ys ≡ None) (sym c.deref.ensures.value) fits)

-- one reading more is read, and taken
pub loop-preserved : goal.loop-preserved
loop-preserved c =
    let shape = c.args.partial.now.shape in
    let before = option_map (λ v. v.items) c.loop.before in
    let size = c.args.form.size in
    let version = c.args.form.version in
    let here = (goal.at.loop-preserved c).In_ok-samples in
    let k = next here in
    let after = c.in_ok-samples.after.now in
    let total = with_readings c.args.partial.now c.args.at (readings_fields size version shape None c.args.count c.args.bytes.now) in
    let taken : c.take.new.self ≡ with_kept c.loop.partial c.args.at k =
    c.in_ok-take.ensures.ok ∙ (λ i. with_all c.loop.partial
    ((at_place c.args.at (c.deref.ensures.value i), c.deref-in-loop.ensures.value i) ∷ [])) in
    record {
      shape = ap (λ (q : PartialPicture). q.shape) taken ∙ c.loop.invariant.shape;
      same = subst (λ (q : PartialPicture). with_readings q c.args.at
          (readings_fields size version shape (Some k.0) (c.args.count - (c.loop.counter + 1)) after) ≡ total) (sym taken)
          (readings_go_on size version shape c.loop.partial c.args.at before c.args.count c.loop.counter c.loop.rest.now k after total
          c.loop-test.true (read here) c.loop.invariant.same);
      so_far = more_so_far c.args.partial.now c.loop.partial c.take.new.self
          (map (kept_at_place c.args.at) (readings_prefix size version shape None c.args.count c.args.bytes.now))
          (kept_at_place c.args.at k ∷ [])
          (map (kept_at_place c.args.at) (readings_prefix size version shape (Some k.0) (c.args.count - (c.loop.counter + 1)) after))
          (subst (IsSoFar c.args.partial.now c.loop.partial
          (map (kept_at_place c.args.at) (readings_prefix size version shape None c.args.count c.args.bytes.now)))
          (ap (map (kept_at_place c.args.at))
          (next_reading size version shape before c.args.count c.loop.counter c.loop.rest.now k after c.loop-test.true (read here)))
          c.loop.invariant.so_far) taken;
    }

-- all readings of the line are read
pub returns-clause-read : goal.returns-clause-read
returns-clause-read c =
    readings_done c.args.form.size c.args.form.version c.args.partial.now.shape c.loop.partial c.args.at
    (option_map (λ v. v.items) c.loop.before) c.args.count c.loop.counter c.loop.rest.now
    (with_readings c.args.partial.now c.args.at
    (readings_fields c.args.form.size c.args.form.version c.args.partial.now.shape None c.args.count c.args.bytes.now)) c.loop-test.false
    c.loop.invariant.same
