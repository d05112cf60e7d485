use Rattle.std.proofs.Common.{◌≡◌, ℕ, ◌+◌, ◌-◌, ◌≤◌, replicate, refl, List, [], ◌∷◌, ◌++◌, length, get_or, w32, to_z, of_z, arith, ap, sym}
use Rattle.std.proofs.Common.{subst, ◌∙◌, append_assoc}
use Rattle.std.specs.Prelude.{ℤ, Bool, true}
use Rattle.std.specs.List.{AllByRecursion}
use Rattle.std.specs.Vec.{vec_len}
use Rattle.std.proofs.lemmas.Int.{ints}
use Rattle.std.proofs.lemmas.List.{append-nil}
use Rattle.jls_values.specs.Params.{limit, qbpp}
use Rattle.jls_context.specs.declared.mode.Neighbours.{Neighbours}
use Rattle.jls_context.specs.declared.interruption.RunCell.{RunCell}
use Rattle.jls_context.specs.Interruption.{run_k, run_updated}
use Rattle.jls_context.specs.Variables.{Variables, run_cell_at}
use Rattle.jls_context.specs.Mode.{is_run_mode}
use Rattle.jls_bits.specs.CodeState.{IsOpen, bits_fed}
use Rattle.jls_bits.specs.declared.code_state.CodeState.{CodeState}
use Rattle.jls_interval.specs.Events.{Event, Above, neighbours, interrupted_run}
use Rattle.jls_interval.specs.Cells.{is_same, interruption_error, run_cell_before}
use Rattle.jls_interval.specs.Code.{event_bits, interrupted_run_bits, interrupting_bits}
use Rattle.jls_interval.specs.Runs.{Blocks, run_order, blocks, run_index_lowered}
use Rattle.jls_interval.specs.Growth.{Fits}
use Rattle.jls_interval.specs.Reading.{NoInterruption}
use Rattle.jls_interval.specs.Place.{above_of}
use Rattle.jls_interval.specs.After.{IsAfter}
use Rattle.jls_interval.specs.RunState.{RunIs}
use Rattle.jls_interval.specs.OpenEvents.{now_at, following, NoEvent}
use Rattle.jls_interval.specs.declared.run_reader.Run.TheVariants.{Interrupted}
use Rattle.jls_interval.specs.declared.place.Place.{Place}
use Rattle.jls_interval.specs.declared.line_reader.LineReader.{LineReader}
use Rattle.jls_interval.proofs.SamplesRead.{wide}
use Rattle.jls_interval.proofs.RunEvents.{run_alone, run_broken, run_fits}
use Rattle.jls_interval.proofs.AfterEvents.{after_interruption, after_same}
use Rattle.jls_interval.proofs.OpenEventBits.{rb_small, near_after, broken_with}
use Rattle.jls_interval.proofs.push_event.push_to_interrupted.Goals as goal

-- where a run of so many samples is interrupted
module _ (old : LineReader) (place : Place) (count : ℕ) where
  open old use {width as w, line.{items as line}, coder.{cells.{parameters as p}}}

  abbrev up : Above
  up = above_of place

  abbrev b : Neighbours
  b = following w up line count

  -- the samples round that column, as the reader finds them
  there_at : {value : ℕ} {slice : List ℕ} {next : Neighbours} (column : ℕ) → next ≡ neighbours w up slice (column + count) → slice ≡ line
      → value ≡ (now_at w up line).ra → column ≡ vec_len old.line
      → record { ra = value; rb = next.rb; rc = next.rc; rd = next.rd } ≡ b
  there_at {value} {slice} {next} column next_is same a e =
      near_after w up line count value (column + count) next a (omega arith) (next_is ∙ ap (λ z. neighbours w up z (column + count)) same)

  -- the code of the sample there is open
  abbrev Opened : Neighbours → ℕ → CodeState → Type 0
  Opened near order code = IsOpen (run_k (is_same near) (run_cell_at old.coder.cells (is_same near))) (limit p - order - 1) (qbpp p) code

  -- an open code stays one where the neighbours and the order are the same
  opened_same : (code : CodeState) {near near' : Neighbours} {i j : ℕ} → near ≡ near' → i ≡ j → Opened near i code → Opened near' j code
  opened_same code {near} {near'} {i} {j} e f o = subst (λ z. Opened near' z code) f (subst (λ (z : Neighbours). Opened z i code) e o)

  -- What was fed of the run, and of the sample that interrupts it, with the bits that are taken now
  module _ {rx j : ℕ} (code : CodeState) {there : Neighbours} {fed : List Bool} {earlier : List Event} (there_is : there ≡ b)
      (j_is : j ≡ run_order rx) (t : IsAfter p old.coder.cells old.coder.run_indices earlier)
      (s : RunIs (get_or old.coder.run_indices place.component 0) (w - length line) fed
      (bits_fed (limit p - run_order rx - 1) (qbpp p) code) (Interrupted count rx)) (taken : List Bool)
      (above : AllByRecursion (λ s. s ≤ p.maxval) up.line_above) (mode : is_run_mode (now_at w up line) ≡ true) where
    abbrev cell : RunCell
    cell = run_cell_at old.coder.cells (is_same there)

    abbrev run : Blocks
    run = blocks (get_or old.coder.run_indices place.component 0) count

    abbrev unread : List Bool
    unread = bits_fed (limit p - j - 1) (qbpp p) code ++ taken

    cell_is : cell ≡ run_cell_before p earlier (is_same b)
    cell_is = t.run_cells (is_same there) ∙ ap (λ (z : Neighbours). run_cell_before p earlier (is_same z)) there_is

    order_is : j ≡ run_order run.run_index
    order_is = j_is ∙ ap run_order (sym s.2)

    given_is : fed ++ taken ≡ interrupted_run_bits run unread
    given_is = ap (λ z. z ++ taken) s.1 ∙ ap (λ z. interrupted_run_bits run (bits_fed (limit p - z - 1) (qbpp p) code) ++ taken) (sym j_is)
        ∙ broken_with run (bits_fed (limit p - j - 1) (qbpp p) code) taken

    -- the code goes on
    more_fed : (code' : CodeState) → unread ≡ bits_fed (limit p - j - 1) (qbpp p) code'
        → fed ++ taken ≡ interrupted_run_bits run (bits_fed (limit p - run_order rx - 1) (qbpp p) code')
    more_fed code' e = given_is ∙ ap (interrupted_run_bits run) e
        ∙ ap (λ z. interrupted_run_bits run (bits_fed (limit p - z - 1) (qbpp p) code')) j_is

    -- no sample can come
    refused : ((more : List Bool) → NoInterruption p cell there j (unread ++ more)) → (more : List Bool)
        → NoEvent p w place.component up line ((fed ++ taken) ++ more) earlier
    refused none more =
        run_alone p (wide p old.coder.in_range) w place.component up above line earlier _ (t.run_indices_are place.component)
        (w - length line) (let e = s.0 in omega arith) ((fed ++ taken) ++ more) mode count s.0 (unread ++ more)
        (ap (λ z. z ++ more) given_is ∙ broken_with run unread more) cell cell_is j order_is
        (subst (λ (z : Neighbours). NoInterruption p cell z j (unread ++ more)) there_is (none more))

    -- the sample is there
    fits : (m : ℕ) → m ≤ p.maxval → (m ≡ there.ra → ⊥)
        → Fits p w place.component up line (now_at w up line) (interrupted_run place.component count b m)
    fits m small another =
        run_fits p (wide p old.coder.in_range) w place.component up above line earlier _ (t.run_indices_are place.component)
        (w - length line) (let e = s.0 in omega arith) (fed ++ taken) mode count s.0 unread given_is cell cell_is j order_is m small
        (λ o. another (o ∙ ap (λ (z : Neighbours). z.ra) (sym there_is)))

    whole : (m : ℕ) → unread ≡ interrupting_bits p cell there j m → fed ++ taken
        ≡ event_bits p earlier (interrupted_run place.component count b m)
    whole m e =
        run_broken p (wide p old.coder.in_range) w place.component up above line earlier _ (t.run_indices_are place.component)
        (w - length line) (let e = s.0 in omega arith) (fed ++ taken) mode count s.0 unread given_is cell cell_is j order_is m []
        (e ∙ ap (λ (z : Neighbours). interrupting_bits p cell z j m) there_is ∙ sym (append-nil (interrupting_bits p cell b j m)))
        ∙ append-nil _

pub push_to_interruption-requires-clause-above : goal.push_to_interruption-requires-clause-above
push_to_interruption-requires-clause-above c =
    let old = c.args.reader.now in let p = old.coder.cells.parameters in
    subst (λ (z : Neighbours). z.rb ≤ p.maxval) (sym c.neighbours-next.ensures)
    (rb_small p old.width (above_of c.args.place.now) c.requires.above _ _)

pub push_to_interruption-requires-clause-opened : goal.push_to_interruption-requires-clause-opened
push_to_interruption-requires-clause-opened c =
    let old = c.args.reader.now in let place = c.args.place.now in let count : ℕ = c.args.interruption.count in
    let there_is = there_at old place count c.len.result c.neighbours-next.ensures c.deref.ensures.value c.requires.value c.len.ensures in
    opened_same old place count _ (sym there_is) (sym c.run_order.ensures.value) c.requires.opened

-- the code of the last sample is still not whole
pub returns-in-More-clause-step : goal.returns-in-More-clause-step
returns-in-More-clause-step c = λ fed earlier t s.
    let old = c.args.reader.now in let place = c.args.place.now in let count : ℕ = c.args.interruption.count in let q = c.in-More.ensures in
    let there_is = there_at old place count c.len.result c.neighbours-next.ensures c.deref.ensures.value c.requires.value c.len.ensures in
    let j_is = c.run_order.ensures.value in
    record {
      taken = q.taken;
      chunk_is = q.chunk_is;
      step_is = (
        refl,
        refl,
        refl,
        (
          c.requires.run,
          c.requires.run_index,
          opened_same old place count _ there_is j_is q.step_is.0,
          (s.0, more_fed old place count _ there_is j_is t s q.taken c.requires.above c.requires.run _ q.step_is.1, s.2),
        ),
      );
      all = q.all;
    }

-- no code of a sample that can interrupt the run begins so
pub returns-in-Refused-clause-step : goal.returns-in-Refused-clause-step
returns-in-Refused-clause-step c = λ fed earlier t s.
    let old = c.args.reader.now in let place = c.args.place.now in let count : ℕ = c.args.interruption.count in
    let q = c.in-Refused.ensures in
    let there_is = there_at old place count c.len.result c.neighbours-next.ensures c.deref.ensures.value c.requires.value c.len.ensures in
    record {
      taken = q.taken;
      chunk_is = q.chunk_is;
      step_is = (refl, refused old place count _ there_is c.run_order.ensures.value t s q.taken c.requires.above c.requires.run q.step_is);
      all = tt;
    }

-- the last sample is there, and the interrupted run is whole
pub returns-in_ok-push-in-Done-clause-step : goal.returns-in_ok-push-in-Done-clause-step
returns-in_ok-push-in-Done-clause-step c = λ fed earlier t s.
    let old = c.args.reader.now in let cells : Variables = old.coder.cells in let p = cells.parameters in let w : ℕ = old.width in
    let line : List ℕ = old.line.items in let ri : List ℕ = old.coder.run_indices in
    let place = c.args.place.now in let k : ℕ = place.component in let up : Above = above_of place in
    let count : ℕ = c.args.interruption.count in let b = following w up line count in let q = c.in-Done.ensures in let d = q.step_is in
    let there_is = there_at old place count c.len.result c.neighbours-next.ensures c.deref.ensures.value c.requires.value c.len.ensures in
    let j_is = c.run_order.ensures.value in
    let next : Neighbours = c.neighbours-next.result in
    let there : Neighbours = record { ra = c.args.value; rb = next.rb; rc = next.rc; rd = next.rd } in
    let m : ℕ = c.in-Done.sample.value in let err : ℤ = c.in-Done.sample.error in let u = c.update_run.ensures in
    let same : to_z w32 (of_z w32 err) ≡ err = omega (arith, ints) in
    let err_is : err ≡ interruption_error p b m = d.2 ∙ ap (λ (z : Neighbours). interruption_error p z m) there_is in
    let four : length ri ≡ 4 = old.coder.four in let below = place.component_below in
    let after = after_interruption p cells ri earlier t k count (omega arith) b m c.lowered.result (is_same there) err c.update_run.new.self
    (c.lowered.ensures ∙ ap run_index_lowered (sym s.2)) (ap is_same there_is) err_is u.regular u.parameters
    (u.updated ∙ ap (λ z. run_updated p.reset (is_same there) (run_cell_at cells (is_same there)) z) same) u.other in
    let e = interrupted_run k count b m in
    record {
      taken = q.taken;
      chunk_is = q.chunk_is;
      step_is = (
        record {
          event = e;
          fits = fits old place count _ there_is j_is t s q.taken c.requires.above c.requires.run m d.0 d.1;
          line_is = c.in_ok-push-in-Done.ensures.items
              ∙ ap (λ z. z ++ m ∷ []) (c.in_ok-push_run-in-Done.ensures ∙ ap (λ z. line ++ replicate count z) c.requires.value)
              ∙ append_assoc line (replicate count (now_at w up line).ra) (m ∷ []);
          is_after =
              after_same p _ _ _ _ (earlier ++ e ∷ []) c.set_run_index.ensures.cells c.set_run_index.ensures.run_indices after;
          bits_are =
              whole old place count _ there_is j_is t s q.taken c.requires.above c.requires.run m d.5;
        },
        refl,
      );
      all = tt;
    }
