use Rattle.std.proofs.Common.{◌≡◌, ℕ, ◌-◌, ◌≤◌, List, Bool, [], length, get_or, arith, sym, subst}
use Rattle.std.proofs.lemmas.Result.{IfOk-weaker}
use Rattle.jls_context.specs.Variables.{Variables}
use Rattle.jls_interval.specs.Events.{Event, Above}
use Rattle.jls_interval.specs.RunState.{RunAt}
use Rattle.jls_interval.specs.After.{IsAfter}
use Rattle.jls_interval.specs.Place.{above_of}
use Rattle.jls_interval.specs.OpenEvents.{OpenEventAt, EventPushed}
use Rattle.jls_interval.specs.declared.line_reader.EventStep.{EventStep}
use Rattle.jls_interval.specs.declared.run_reader.RunState.TheVariants.{Blocks}
use Rattle.jls_interval.proofs.BlocksTaken.{taken_start}
use Rattle.jls_interval.proofs.push_event.push_to_event.Goals as goal

-- no event has begun: the mode says whether it is a sample or a run
pub returns-in-NotBegun-clause-step : goal.returns-in-NotBegun-clause-step
returns-in-NotBegun-clause-step c =
    let old = c.args.reader.now in let cells : Variables = old.coder.cells in let p = cells.parameters in let w : ℕ = old.width in
    let line : List ℕ = old.line.items in let ri : List ℕ = old.coder.run_indices in let k : ℕ = c.args.place.now.component in
    let up : Above = above_of c.args.place.now in let r : ℕ = get_or ri k 0 in let reader = c.push_to_run.new.reader in
    let chunk : List Bool = c.args.chunk.now in let unread : List Bool = c.push_to_run.new.chunk in
    let x : ℕ = c.run_index-run_index.result in let x_is : x ≡ r = c.run_index-run_index.ensures.value in
    let W : w - c.len-column.result ≡ w - length line = (let e = c.len-column.ensures in omega arith) in
    let small : r ≤ 31 = (let e = c.run_index-run_index.ensures.at_most in omega arith) in
    let state = Blocks x (w - c.len-column.result) in
    let first : (fed : List Bool) → fed ≡ [] → RunAt r (w - length line) fed state =
    λ fed e. subst (λ z. RunAt r (w - length line) fed (Blocks z (w - c.len-column.result))) (sym x_is)
    (subst (λ z. RunAt r (w - length line) fed (Blocks r z)) (sym W)
    (subst (λ z. RunAt r (w - length line) z (Blocks r (w - length line))) (sym e) (taken_start r (w - length line) [] small))) in
    IfOk-weaker _ _ _ (λ (s : EventStep)
    (later : (fed : List Bool) (earlier : List Event) → IsAfter p cells ri earlier → RunAt r (w - length line) fed state
    → EventPushed k up old reader fed chunk unread earlier s). λ (fed : List Bool) (earlier : List Event) (t : IsAfter p cells ri earlier)
    h. later fed earlier t (first fed (subst (λ z. OpenEventAt p w up line cells r z fed) c.in-NotBegun.is h))) c.push_to_run.ensures.step
