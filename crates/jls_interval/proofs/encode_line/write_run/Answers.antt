use Rattle.std.proofs.Common.{◌≡◌, ℕ, ◌+◌, ◌≤◌, Bool, List, [], ◌∷◌, ◌++◌, length, drop, get_or, eqb, set, refl, sym, ap, ◌∙◌, subst, arith}
use Rattle.std.specs.List.{prefix_len}
use Rattle.jls_values.specs.Params.{CodingParameters}
use Rattle.jls_context.specs.declared.mode.Neighbours.{Neighbours}
use Rattle.jls_context.specs.Variables.{Variables}
use Rattle.jls_interval.specs.Events.{Above, Stretch, stretch, run_to_end, interrupted_run}
use Rattle.jls_interval.specs.Runs.{blocks}
use Rattle.jls_interval.specs.Code.{run_to_end_bits, interrupted_run_bits}
use Rattle.jls_interval.specs.Place.{above_of}
use Rattle.jls_interval.specs.Encoding.{Written, Writes}
use Rattle.jls_interval.proofs.EventsApart.{b_small}
use Rattle.jls_interval.proofs.EncodedEvents.{written_same, to_end_writes, interrupted_writes}
use Rattle.jls_interval.proofs.EncodedStretches.{counted, stop_differs, stop_value, stretch_to_end, stretch_interrupted}
use Rattle.jls_interval.proofs.encode_line.write_run.Goals as goal
use Rattle.jls_interval.proofs.encode_line.write_run.Goals.{After-run_length-count}

-- the run's columns, counted in the whole line
counted_is : (c : After-run_length-count) → c.run_length-count.result
    ≡ prefix_len (λ s. eqb s c.args.value) (drop c.args.x c.args.line.now)
counted_is c = counted c.args.line.now c.args.x c.args.value c.run_length-count.result c.run_length-count.ensures.value

pub returns-then-stop-line-clause-column : goal.returns-then-stop-line-clause-column
returns-then-stop-line-clause-column c =
    let up : Above = above_of c.args.place.now in
    let s = stretch_to_end c.args.line.now c.args.x c.args.value c.run_length-count.result c.requires.column
    (counted_is (goal.at.returns-then-stop-line-clause-column c).After-run_length-count) up c.requires.value
    c.args.place.now.component c.requires.run c.if-stop-line.true in
    c.if-stop-line.true ∙ ap (λ (z : Stretch). z.next) (sym s)

-- the run goes to the end of the line: its blocks are written, and no sample
pub returns-then-stop-line-clause-written : goal.returns-then-stop-line-clause-written
returns-then-stop-line-clause-written c =
    let up : Above = above_of c.args.place.now in let coder = c.args.encoder.now.coder in let k : ℕ = c.args.place.now.component in
    let count : ℕ = c.run_length-count.result in let index : ℕ = c.in_ok-after.after in
    let cells : Variables = coder.cells in let p : CodingParameters = cells.parameters in
    let four : length coder.run_indices ≡ 4 = coder.four in let below = c.args.place.now.component_below in
    let before : List Bool = c.args.encoder.now.writer in let after : List Bool = c.write_run_to_end.new.writer in
    let r : ℕ = c.run_index-run_index.result in let r_is : r ≡ get_or coder.run_indices k 0 = c.run_index-run_index.ensures.value in
    let s = stretch_to_end c.args.line.now c.args.x c.args.value count c.requires.column
    (counted_is (goal.at.returns-then-stop-line-clause-written c).After-run_length-count) up c.requires.value k
    c.requires.run c.if-stop-line.true in
    let old : Written = record { cells = cells; run_indices = coder.run_indices; written = before } in
    let new : Written = record { cells = cells; run_indices = set coder.run_indices k index; written = after } in
    let writes : Writes p old new (run_to_end k count ∷ []) =
    to_end_writes p cells coder.run_indices k index count before after (omega arith)
    (c.in_ok-after.ensures.written ∙ ap (λ z. before ++ run_to_end_bits (blocks z count)) r_is)
    (c.in_ok-after.ensures.run_index ∙ ap (λ z. (blocks z count).run_index) r_is) in
    subst (λ (z : Written). Writes p old z ((stretch (length c.args.line.now) k up c.args.line.now c.args.x).event ∷ []))
    (written_same _ _ _ _ _ _ (sym c.set_run_index.ensures.cells) (sym c.set_run_index.ensures.run_indices) refl)
    (subst (λ (z : Stretch). Writes p old new (z.event ∷ [])) (sym s) writes)

pub write_interrupting-requires-clause-above : goal.write_interrupting-requires-clause-above
write_interrupting-requires-clause-above c =
    let up : Above = above_of c.args.place.now in
    subst (λ (n : Neighbours). n.rb ≤ c.args.encoder.now.coder.cells.parameters.maxval) (sym c.neighbours-neighbours.ensures)
    (b_small c.args.encoder.now.coder.cells.parameters (length c.args.line.now) up c.args.line.now (c.args.x + c.run_length-count.result)
    c.requires.above)

pub write_interrupting-requires-clause-another : goal.write_interrupting-requires-clause-another
write_interrupting-requires-clause-another c = λ e.
    let up : Above = above_of c.args.place.now in
    let v = stop_value c.args.line.now c.args.x c.args.value c.run_length-count.result c.requires.column
    (counted_is (goal.at.write_interrupting-requires-clause-another c).After-run_length-count) up c.requires.value in
    stop_differs c.args.line.now c.args.x c.args.value c.run_length-count.result c.requires.column
    (counted_is (goal.at.write_interrupting-requires-clause-another c).After-run_length-count) c.if-stop-line.false
    (e ∙ ap (λ (n : Neighbours). n.ra) c.neighbours-neighbours.ensures ∙ v)

pub returns-clause-column : goal.returns-clause-column
returns-clause-column c =
    let up : Above = above_of c.args.place.now in
    let s = stretch_interrupted c.args.line.now c.args.x c.args.value c.run_length-count.result c.requires.column
    (counted_is (goal.at.returns-clause-column c).After-run_length-count) up c.requires.value
    c.args.place.now.component c.requires.run c.if-stop-line.false in
    ap (λ (z : Stretch). z.next) (sym s)

-- the run is interrupted: its columns are written, and then the sample after them
pub returns-clause-written : goal.returns-clause-written
returns-clause-written c =
    let up : Above = above_of c.args.place.now in let coder = c.args.encoder.now.coder in let k : ℕ = c.args.place.now.component in
    let r : ℕ = c.run_index-run_index.result in let r_is : r ≡ get_or coder.run_indices k 0 = c.run_index-run_index.ensures.value in
    let cells : Variables = coder.cells in let p : CodingParameters = cells.parameters in
    let four : length coder.run_indices ≡ 4 = coder.four in let below = c.args.place.now.component_below in
    let encoder = c.write_interrupting.new.encoder in let cells' : Variables = encoder.coder.cells in
    let before : List Bool = c.args.encoder.now.writer in let middle : List Bool = c.write_interrupted_run.new.writer in
    let after : List Bool = encoder.writer in
    let count : ℕ = c.run_length-count.result in let near : Neighbours = c.neighbours-neighbours.result in
    let sample : ℕ = get_or c.args.line.now (c.args.x + count) 0 in
    let s = stretch_interrupted c.args.line.now c.args.x c.args.value count c.requires.column
    (counted_is (goal.at.returns-clause-written c).After-run_length-count) up c.requires.value k
    c.requires.run c.if-stop-line.false in
    let old : Written = record { cells = cells; run_indices = coder.run_indices; written = before } in
    let new : Written = record { cells = cells'; run_indices = set coder.run_indices k c.lowered.result; written = after } in
    let e = c.in_ok-write_interrupting.ensures in let a = c.in_ok-raised.ensures in
    let w = interrupted_writes cells cells' near sample c.write_interrupting.ensures.parameters e.updated c.write_interrupting.ensures.other
    c.write_interrupting.ensures.regular coder.run_indices k count (omega arith) c.in_ok-raised.raised c.lowered.result c.run_order.result
    before middle after (a.written ∙ ap (λ z. before ++ interrupted_run_bits (blocks z count) []) r_is)
    (a.run_index ∙ ap (λ z. (blocks z count).run_index) r_is) c.run_order.ensures.value e.written c.lowered.ensures in
    let writes : Writes p old new ((stretch (length c.args.line.now) k up c.args.line.now c.args.x).event ∷ []) =
    subst (λ (z : Stretch). Writes p old new (z.event ∷ [])) (sym s)
    (subst (λ (n : Neighbours). Writes p old new (interrupted_run k count n sample ∷ [])) c.neighbours-neighbours.ensures w) in
    subst (λ (z : Written). Writes p old z ((stretch (length c.args.line.now) k up c.args.line.now c.args.x).event ∷ []))
    (written_same _ _ _ _ _ _ (sym c.set_run_index-2.ensures.cells)
    (ap (λ z. set z k c.lowered.result) (sym c.write_interrupting.ensures.run_indices) ∙ sym c.set_run_index-2.ensures.run_indices) refl)
    writes
