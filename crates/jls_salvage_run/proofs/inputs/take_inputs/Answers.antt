use Rattle.std.proofs.Common.{◌∷◌, [], ◌++◌, ◌<◌, length, map, take, drop, get_or, List, ℕ, ap, sym, subst, refl, ◌∙◌, ◌+◌, arith, Option}
use Rattle.std.proofs.Common.{Some}
use Rattle.std.proofs.lemmas.Result.{err_from_is_err_and}
use Rattle.std.specs.Prelude.{◌&&◌}
use Rattle.std.specs.Borrow.{Bor}
use Rattle.jls_io.specs.Event.{GrewBy}
use Rattle.jls_salvage_run.specs.AllInputs.{JoinsInput, StopsAt, TakesUnion}
use Rattle.jls_salvage_run.proofs.InTurn.{stops_first, stops_next, names_split, names_one_more}
use Rattle.jls_salvage_run.proofs.NextInputs.{first_joined, next_joined}
use Rattle.jls_salvage_run.proofs.inputs.take_inputs.Goals as goal

abbrev text_of : Bor (List ℕ) → List ℕ
text_of f = f.now

-- what stands in for a name where there is none
abbrev none : Bor (List ℕ)
none = record { ref_ptr = (0, 0); now = [] }

pub returns-in_err-begun-clause-stopped : goal.returns-in_err-begun-clause-stopped
returns-in_err-begun-clause-stopped g c =
    let history = g.D.Device.history in
    let p = err_from_is_err_and c.from_residual.result c.from_residual.ensures.1 in
    rw (p.1, p.2) (stops_first c.args.inputs.source (history c.args.desk.now) (history c.take_input.new.desk) c.args.inputs.first.now
    (map text_of c.args.inputs.others.now) c.in_err-begun.field-0.0
    c.in_err-begun.ensures.named (c.in_err-begun.ensures.stopped [] refl))

pub loop-name-init : goal.loop-name-init
loop-name-init g c =
    let history = g.D.Device.history in
    record {
      source = c.take_input.ensures.source;
      so_far = first_joined c.args.inputs.source (history c.args.desk.now) (history c.take_input.new.desk) c.args.inputs.first.now
          c.in_ok-begun.begun.station c.in_ok-begun.begun.whole c.in_ok-begun.ensures.joined;
    }

pub returns-in_err-taken-clause-stopped : goal.returns-in_err-taken-clause-stopped
returns-in_err-taken-clause-stopped g c =
    let history = g.D.Device.history in
    let names = c.args.inputs.others.now in
    let i = c.loop-name.name-index in
    let lt : i < length names = omega arith in
    let r = c.in_err-taken.field-0.0 in
    let before = c.args.inputs.first.now ∷ map text_of (take i names) in
    let after = map text_of (drop (i + 1) names) in
    let p = err_from_is_err_and c.from_residual-in_err-taken.result c.from_residual-in_err-taken.ensures.1 in
    rw (p.1, p.2) (stops_next c.args.inputs.source (history c.args.desk.now) (history c.loop-name.desk)
    (history c.take_input-in-loop-name.new.desk) before c.loop-name.station c.loop-name.whole
    c.loop-name.invariant.so_far (c.args.inputs.first.now ∷ map text_of names) after r
    (ap (λ (xs : List (List ℕ)). c.args.inputs.first.now ∷ xs)
    (names_split text_of names i none lt ∙ (λ j. map text_of (take i names) ++ sym c.in_err-taken.ensures.named j ∷ after)))
    (λ before u. subst (λ (source : Option ℕ). GrewBy (StopsAt source before r) (history c.loop-name.desk)
    (history c.take_input-in-loop-name.new.desk)) c.loop-name.invariant.source (c.in_err-taken.ensures.stopped before u)))

pub loop-name-preserved : goal.loop-name-preserved
loop-name-preserved g c =
    let history = g.D.Device.history in
    let source = c.args.inputs.source in
    let names = c.args.inputs.others.now in
    let i = c.loop-name.name-index in
    let lt : i < length names = omega arith in
    let taken = c.in_ok-taken.taken in
    let joined = subst (λ (s : Option ℕ). GrewBy
    (JoinsInput s (get_or names i none).now (Some c.loop-name.station) taken.station taken.whole) (history c.loop-name.desk)
    (history c.take_input-in-loop-name.new.desk)) c.loop-name.invariant.source c.in_ok-taken.ensures.joined in
    record {
      source = c.take_input-in-loop-name.ensures.source ∙ c.loop-name.invariant.source;
      so_far = subst (λ (so_far : List (List ℕ)). GrewBy
          (TakesUnion source (c.args.inputs.first.now ∷ so_far) taken.station (c.loop-name.whole && taken.whole)) (history c.args.desk.now)
          (history c.take_input-in-loop-name.new.desk))
          (sym (names_one_more text_of names i none lt))
          (next_joined source (history c.args.desk.now) (history c.loop-name.desk) (history c.take_input-in-loop-name.new.desk)
          (c.args.inputs.first.now ∷ map text_of (take i names)) c.loop-name.station c.loop-name.whole
          c.loop-name.invariant.so_far (get_or names i none).now taken.station taken.whole (c.loop-name.whole && taken.whole) refl joined);
    }
