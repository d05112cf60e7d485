use Rattle.std.proofs.Common.{◌≡◌, ℕ, ◌+◌, ◌-◌, ◌++◌, List, length, take, replicate, Result, Ok, Err, IfOk, is_ok, if◌then◌else◌, ap, ◌∙◌}
use Rattle.std.proofs.Common.{arith}
use Rattle.std.proofs.lemmas.List.{take_all}
use Rattle.jls_interval.proofs.push_event.push_run.Goals as goal

-- a line that was filled up with the samples of a run
run_filled : {T E : Type 0} (r : Result T E) (line next : List ℕ) (len begun count v : ℕ) → len ≡ length line → begun ≡ len
    → next ≡ (if is_ok r then take (begun + count) line ++ replicate (begun + count - len) v else line)
    → IfOk r (λ _. next ≡ line ++ replicate count v)
run_filled (Ok x) line next len begun count v e f h =
    let all : take (begun + count) line ≡ line = take_all (begun + count) line (omega (arith, e, f)) in
    let more : begun + count - len ≡ count = omega (arith, f) in
    h ∙ ap (λ z. z ++ replicate (begun + count - len) v) all ∙ ap (λ z. line ++ replicate z v) more
run_filled (Err x) line next len begun count v e f h = tt

pub returns : goal.returns
returns c =
    let line = c.args.line.now in
    run_filled c.resize.result line.items c.resize.new.self.items line.len c.len.result c.args.count c.args.value line.ok.0 c.len.ensures
    c.resize.ensures.items
