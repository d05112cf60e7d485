use Rattle.std.proofs.Common.{◌≡◌, ℕ, ◌-◌, ◌+◌, replicate, refl, List, Bool, [], ◌∷◌, ◌++◌, length, get_or, arith, ap, sym, subst, ◌∙◌}
use Rattle.std.proofs.lemmas.List.{append-nil}
use Rattle.std.proofs.lemmas.Result.{IfOk-weaker}
use Rattle.jls_context.specs.Variables.{Variables}
use Rattle.jls_interval.specs.Events.{Event, Above, run_to_end}
use Rattle.jls_interval.specs.RunState.{RunAt, RunIs, IsRunState}
use Rattle.jls_interval.specs.RunChunks.{RunPushed}
use Rattle.jls_interval.specs.After.{IsAfter}
use Rattle.jls_interval.specs.Place.{above_of}
use Rattle.jls_interval.specs.OpenEvents.{EventPushed}
use Rattle.jls_interval.specs.declared.line_reader.EventStep.{EventStep}
use Rattle.jls_interval.specs.declared.run_reader.Run.TheVariants.{ToEnd, Interrupted}
use Rattle.jls_interval.specs.declared.run_reader.RunStep.{RunStep}
use Rattle.jls_interval.specs.declared.run_reader.RunStep.TheVariants.{More, Done, Refused}
use Rattle.jls_interval.proofs.SamplesRead.{wide}
use Rattle.jls_interval.proofs.RunEvents.{run_none, run_end}
use Rattle.jls_interval.proofs.AfterEvents.{after_end, after_same}
use Rattle.jls_interval.proofs.OpenEventBits.{run_then}
use Rattle.jls_interval.proofs.push_event.push_to_run.Goals as goal
use Rattle.jls_interval.proofs.push_event.push_to_run.Goals.{After-push_chunk}

left_is : (c : After-push_chunk) → c.args.reader.now.width - c.len.result ≡ c.args.reader.now.width - length c.args.reader.now.line.items
left_is c = let e = c.len.ensures in omega arith

-- what the step says of the run, by the columns that are left
step_of : (c : After-push_chunk) (step : RunStep)
    → RunPushed (c.args.reader.now.width - c.len.result) c.args.state c.args.chunk.now c.push_chunk.new.chunk step
    → RunPushed (c.args.reader.now.width - length c.args.reader.now.line.items) c.args.state c.args.chunk.now c.push_chunk.new.chunk step
step_of c step pushed = subst (λ z. RunPushed z c.args.state c.args.chunk.now c.push_chunk.new.chunk step) (left_is c) pushed

-- the bits of the run are still not all there
pub returns-in-More-clause-step : goal.returns-in-More-clause-step
returns-in-More-clause-step c = λ fed earlier t h.
    let here = (goal.at.returns-in-More-clause-step c).After-push_chunk in let x = c.in-More in
    let s = step_of here (More x.next) x.ensures.step in
    record {
      taken = s.taken;
      chunk_is = s.chunk_is;
      step_is = (
        refl,
        refl,
        refl,
        (c.requires.run, subst (λ z. IsRunState z x.next) (left_is here) x.ensures.state, s.step_is _ fed h),
      );
      all = s.all;
    }

-- no run begins so
pub returns-in-Refused-clause-step : goal.returns-in-Refused-clause-step
returns-in-Refused-clause-step c = λ fed earlier t h.
    let old = c.args.reader.now in let p = old.coder.cells.parameters in let w : ℕ = old.width in
    let line : List ℕ = old.line.items in let k : ℕ = c.args.place.now.component in
    let w0_is : length line + (w - length line) ≡ w = (let e = c.requires.columns in omega arith) in
    let s = step_of (goal.at.returns-in-Refused-clause-step c).After-push_chunk Refused c.in-Refused.ensures.step in
    record {
      taken = s.taken;
      chunk_is = s.chunk_is;
      step_is = (
        refl,
        λ more. run_none p (wide p old.coder.in_range) w k (above_of c.args.place.now) c.requires.above line earlier _
            (t.run_indices_are k) (w - length line) w0_is ((fed ++ s.taken) ++ more) c.requires.run (s.step_is _ fed h more),
      );
      all = tt;
    }

-- the run goes to the end of the line, and is whole
pub returns-in_ok-push_run-in-Done-ToEnd-clause-step : goal.returns-in_ok-push_run-in-Done-ToEnd-clause-step
returns-in_ok-push_run-in-Done-ToEnd-clause-step c = λ fed earlier t h.
    let old = c.args.reader.now in let cells : Variables = old.coder.cells in let p = cells.parameters in let w : ℕ = old.width in
    let line : List ℕ = old.line.items in let ri : List ℕ = old.coder.run_indices in let k : ℕ = c.args.place.now.component in
    let r : ℕ = get_or ri k 0 in
    let w0_is : length line + (w - length line) ≡ w = (let e = c.requires.columns in omega arith) in
    let here = (goal.at.returns-in_ok-push_run-in-Done-ToEnd-clause-step c).After-push_chunk in let x = c.in-Done-ToEnd in
    let s = step_of here (Done x.field-0) x.ensures.step in let rx : ℕ = x.run_index in
    let e : RunIs r (w - length line) (fed ++ s.taken) [] (ToEnd rx) =
    subst (λ z. RunIs r (w - length line) (fed ++ s.taken) [] z) x.field-0-is (s.step_is r fed h) in
    let four : length ri ≡ 4 = old.coder.four in let below = c.args.place.now.component_below in
    let event = run_to_end k (w - length line) in
    record {
      taken = s.taken;
      chunk_is = s.chunk_is;
      step_is = (
        record {
          event = event;
          fits = (c.requires.run, refl, w0_is);
          line_is = c.in_ok-push_run-in-Done-ToEnd.ensures
              ∙ ap (λ z. line ++ replicate z c.args.value) (left_is here)
              ∙ ap (λ z. line ++ replicate (w - length line) z) c.requires.value;
          is_after =
              after_same p _ _ _ _ (earlier ++ event ∷ []) c.set_run_index.ensures.cells c.set_run_index.ensures.run_indices
              (after_end p cells ri earlier t k (w - length line) (omega arith) rx (sym e.1));
          bits_are =
              run_end p (wide p old.coder.in_range) w k (above_of c.args.place.now) c.requires.above line earlier r (t.run_indices_are k)
              (w - length line) w0_is (fed ++ s.taken) c.requires.run [] e.0 ∙ append-nil _;
        },
        refl,
      );
      all = tt;
    }

-- the run is interrupted: its last sample comes next
pub returns-in-Done-Interrupted-clause-step : goal.returns-in-Done-Interrupted-clause-step
returns-in-Done-Interrupted-clause-step c =
    let old = c.args.reader.now in let cells : Variables = old.coder.cells in let p = cells.parameters in
    let w0 : ℕ = old.width - length old.line.items in let ri : List ℕ = old.coder.run_indices in
    let k : ℕ = c.args.place.now.component in let up : Above = above_of c.args.place.now in let state = c.args.state in
    let r : ℕ = get_or ri k 0 in let x = c.in-Done-Interrupted in
    let s = step_of (goal.at.returns-in-Done-Interrupted-clause-step c).After-push_chunk (Done x.field-0) x.ensures.step in
    let count : ℕ = x.count in let rx : ℕ = x.run_index in
    let reader = c.push_to_interrupted.new.reader in let middle : List Bool = c.push_chunk.new.chunk in
    let unread : List Bool = c.push_to_interrupted.new.chunk in
    IfOk-weaker _ _ _ (λ (step : EventStep)
    (later : (fed : List Bool) (earlier : List Event) → IsAfter p cells ri earlier
    → RunIs r w0 fed [] (Interrupted count rx) → EventPushed k up old reader fed middle unread earlier step).
    λ (fed : List Bool) (earlier : List Event) t (h : RunAt r w0 fed state). run_then k up old reader fed s.taken
    c.args.chunk.now middle unread earlier step s.chunk_is
    (later (fed ++ s.taken) earlier t
    (subst (λ z. RunIs r w0 (fed ++ s.taken) [] z) x.field-0-is (s.step_is r fed h)))) c.push_to_interrupted.ensures.step
