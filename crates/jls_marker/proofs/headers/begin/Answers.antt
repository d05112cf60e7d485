use Rattle.std.proofs.Common.{◌≡◌, ◌<◌, ℕ, Bool, true, length, map, sym, ap, subst, Ok, ◌∙◌}
use Rattle.std.specs.Prelude.{is_ok}
use Rattle.std.specs.List.{AllByRecursion}
use Rattle.jls_values.specs.ParamsOf.{params_of}
use Rattle.jls_values.specs.PresetParameters.{PresetParameters}
use Rattle.jls_marker.specs.ComponentIndex.{index_of}
use Rattle.jls_marker.specs.Scan.{scan_by}
use Rattle.jls_marker.specs.declared.headers.PresetValues.{PresetValues}
use Rattle.jls_marker.proofs.Beginning.{are_known, known_there, indices_there, indices_below, bytes_below, params_known, bad_params}
use Rattle.jls_marker.proofs.Beginning.{too_large, too_many, begins, ok_scan}
use Rattle.jls_marker.proofs.headers.begin.Goals.{In-Some, In-Ok}
use Rattle.jls_marker.proofs.headers.begin.Goals as goal

abbrev values : PresetValues → PresetParameters
values v = record { maxval = v.maxval; t1 = v.t1; t2 = v.t2; t3 = v.t3; reset = v.reset }

-- the frame has all components of the scan
known : (c : In-Some) → are_known c.args.frame.now.ids c.args.head.now.ids ≡ true
known c = known_there c.ids.result.now c.ids-2.result.now c.args.frame.now.ids c.args.head.now.ids c.ids.ensures.value
    c.ids-2.ensures.value c.in-Some.ensures.known

-- the indices that were found are those of the scan's components in the frame
indices : (c : In-Some) → c.in-Some.components.items ≡ map (index_of c.args.frame.now.ids) c.args.head.now.ids
indices c = indices_there c.ids.result.now c.ids-2.result.now c.args.frame.now.ids c.args.head.now.ids c.in-Some.components.items
    c.ids.ensures.value c.ids-2.ensures.value c.in-Some.ensures.indices

-- its values of LSE are in range
judged : (c : In-Ok) → params_of c.args.frame.now.precision (values c.args.preset) ≡ Ok c.in-Ok.params
judged c = params_known c.args.frame.now (values c.args.preset) c.precision.result _ c.precision.ensures.value c.in-Ok.ensures

-- the parameters are out of range: that fault comes after the unknown component
pub returns-in-Err-clause-judged : goal.returns-in-Err-clause-judged
returns-in-Err-clause-judged c =
    let f = c.args.frame.now in
    let p = values c.args.preset in
    sym (bad_params f p c.args.restart_interval c.args.scans c.args.head.now _ (known (goal.at.returns-in-Err-clause-judged c).In-Some)
    (params_known f p c.precision.result _ c.precision.ensures.value c.in-Err.ensures))

pub returns-then-first_samples-gt-MOST_SAMPLES-clause-judged :
    goal.returns-then-first_samples-gt-MOST_SAMPLES-clause-judged
returns-then-first_samples-gt-MOST_SAMPLES-clause-judged c =
    let here = goal.at.returns-then-first_samples-gt-MOST_SAMPLES-clause-judged c in
    let large = rw c.first_samples.ensures at c.if-first_samples-gt-MOST_SAMPLES.true in
    sym (too_large c.args.frame.now (values c.args.preset) c.args.restart_interval c.args.scans c.args.head.now (known here.In-Some)
    (ap is_ok (judged here.In-Ok)) large)

pub returns-then-scans-ge-MOST_SCANS-clause-judged :
    goal.returns-then-scans-ge-MOST_SCANS-clause-judged
returns-then-scans-ge-MOST_SCANS-clause-judged c =
    let here = goal.at.returns-then-scans-ge-MOST_SCANS-clause-judged c in
    let small = rw c.first_samples.ensures at c.if-first_samples-gt-MOST_SAMPLES.false in
    sym (too_many c.args.frame.now (values c.args.preset) c.args.restart_interval c.args.scans c.args.head.now (known here.In-Some)
    (ap is_ok (judged here.In-Ok)) small c.if-scans-ge-MOST_SCANS.true)

pub new-requires-clause-bytes : goal.new-requires-clause-bytes
new-requires-clause-bytes c =
    let here = (goal.at.new-requires-clause-bytes c).In-Some in
    let ids = c.args.frame.now.ids in
    bytes_below (length ids) c.in-Some.components.items c.ids.ensures.ranges.ids_at_most
    (subst (AllByRecursion (λ (i : ℕ). i < length ids)) (sym (indices here)) (indices_below ids c.args.head.now.ids (known here)))

-- no test fails, and the scan begins
pub returns-clause-judged : goal.returns-clause-judged
returns-clause-judged c =
    let here = goal.at.returns-clause-judged c in
    let small = rw c.first_samples.ensures at c.if-first_samples-gt-MOST_SAMPLES.false in
    ap ok_scan c.new.ensures
    ∙ ap (λ (b : Bool). ok_scan (scan_by b c.args.frame.now c.in-Some.components.items c.in-Ok.params c.args.restart_interval))
    c.by_sample.ensures.value
    ∙ sym (begins c.args.frame.now (values c.args.preset) c.args.restart_interval c.args.scans c.args.head.now
    c.in-Some.components.items c.in-Ok.params (known here.In-Some) (indices here.In-Some) (judged here.In-Ok) small
    c.if-scans-ge-MOST_SCANS.false)
