use Rattle.std.proofs.Common.{◌≡◌, ℕ, ◌+◌, ◌-◌, ◌≤◌, ◌++◌, length, arith, ap, sym, subst, ◌∙◌}
use Rattle.jls_values.specs.Params.{limit, qbpp}
use Rattle.jls_context.specs.declared.mode.Neighbours.{Neighbours}
use Rattle.jls_context.specs.Interruption.{run_k}
use Rattle.jls_context.specs.Variables.{run_cell_at}
use Rattle.jls_bits.specs.CodeState.{IsOpen, bits_fed}
use Rattle.jls_interval.specs.Events.{neighbours}
use Rattle.jls_interval.specs.Cells.{is_same}
use Rattle.jls_interval.specs.Runs.{run_order}
use Rattle.jls_interval.specs.Reading.{NoInterruption}
use Rattle.jls_interval.specs.Place.{above_of}
use Rattle.jls_interval.specs.OpenEvents.{now_at, following}
use Rattle.jls_interval.specs.CutEventsOpen.{BeginsInterruption}
use Rattle.jls_interval.proofs.OpenEventBits.{rb_small, near_after}
use Rattle.jls_interval.proofs.cut_event.interrupted_goes_on.Goals as goal
use Rattle.jls_interval.proofs.cut_event.interrupted_goes_on.Goals.{After-run_order}

next_is : (c : After-run_order) → c.neighbours-next.result
    ≡ neighbours c.args.reader.now.width (above_of c.args.place.now) c.args.reader.now.line.items
    (c.len-column.result + c.args.interruption.count)
next_is c =
    let reader = c.args.reader.now in let x : ℕ = c.len-column.result + c.args.interruption.count in
    c.neighbours-next.ensures ∙ ap (λ z. neighbours reader.width (above_of c.args.place.now) z x) c.deref-2.ensures.value

-- the neighbours of the sample, as the code puts them together
abbrev there : After-run_order → Neighbours
there c = record {
  ra = c.neighbours-first.result.ra;
  rb = c.neighbours-next.result.rb;
  rc = c.neighbours-next.result.rc;
  rd = c.neighbours-next.result.rd;
}

-- the neighbours that the code finds are those after the run
there_is : (c : After-run_order)
    → there c ≡ following c.args.reader.now.width (above_of c.args.place.now) c.args.reader.now.line.items c.args.interruption.count
there_is c =
    let reader = c.args.reader.now in let up = above_of c.args.place.now in let count : ℕ = c.args.interruption.count in
    let column_is : c.len-column.result ≡ length reader.line.items = (let e = c.len-column.ensures in omega arith) in
    let first_is : c.neighbours-first.result ≡ now_at reader.width up reader.line.items = c.neighbours-first.ensures
    ∙ ap (λ z. neighbours reader.width up z c.len-column.result) c.deref.ensures.value
    ∙ ap (λ z. neighbours reader.width up reader.line.items z) column_is in
    near_after reader.width up reader.line.items count c.neighbours-first.result.ra (c.len-column.result + count) c.neighbours-next.result
    (ap (λ (z : Neighbours). z.ra) first_is) (ap (λ z. z + count) column_is) (next_is c)

-- what holds of these neighbours and this J
same : (c : After-run_order) (P : Neighbours → ℕ → Type 0) → P (there c) c.run_order.result
    → P (following c.args.reader.now.width (above_of c.args.place.now) c.args.reader.now.line.items c.args.interruption.count)
    (run_order c.args.interruption.run_index)
same c P h = subst (λ (z : Neighbours). P z (run_order c.args.interruption.run_index)) (there_is c)
    (subst (λ j. P (there c) j) c.run_order.ensures.value h)

pub interruption_goes_on-requires-clause-above : goal.interruption_goes_on-requires-clause-above
interruption_goes_on-requires-clause-above c =
    let reader = c.args.reader.now in let p = reader.coder.cells.parameters in
    subst (λ (z : Neighbours). z.rb ≤ p.maxval) (sym (next_is (goal.at.interruption_goes_on-requires-clause-above c).After-run_order))
    (rb_small p reader.width (above_of c.args.place.now) c.requires.above _ reader.line.items)

pub interruption_goes_on-requires-clause-opened : goal.interruption_goes_on-requires-clause-opened
interruption_goes_on-requires-clause-opened c =
    let cells = c.args.reader.now.coder.cells in let p = cells.parameters in
    let here = (goal.at.interruption_goes_on-requires-clause-opened c).After-run_order in
    let Opened : Neighbours → ℕ → Type 0 =
    λ n j. IsOpen (run_k (is_same n) (run_cell_at cells (is_same n))) (limit p - j - 1) (qbpp p) c.args.interruption.code in
    same here (λ n j. Opened n j → Opened (there here) c.run_order.result) (λ o. o) c.requires.opened

pub returns-clause-yes : goal.returns-clause-yes
returns-clause-yes c = λ e.
    let cells = c.args.reader.now.coder.cells in let p = cells.parameters in
    same (goal.at.returns-clause-yes c).After-run_order (λ n j. BeginsInterruption p (run_cell_at cells (is_same n)) n j
    (bits_fed (limit p - j - 1) (qbpp p) c.args.interruption.code)) (c.interruption_goes_on.ensures.yes e)

pub returns-clause-no : goal.returns-clause-no
returns-clause-no c = λ e more.
    let cells = c.args.reader.now.coder.cells in let p = cells.parameters in
    same (goal.at.returns-clause-no c).After-run_order (λ n j. NoInterruption p (run_cell_at cells (is_same n)) n j
    (bits_fed (limit p - j - 1) (qbpp p) c.args.interruption.code ++ more)) (c.interruption_goes_on.ensures.no e more)
