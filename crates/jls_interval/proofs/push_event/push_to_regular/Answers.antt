use Rattle.std.proofs.Common.{◌≡◌, ℕ, List, false, ◌++◌, w32, to_z, of_z, arith, refl, ap, sym, subst, ◌∙◌}
use Rattle.std.specs.Prelude.{ℤ}
use Rattle.std.proofs.lemmas.Int.{ints}
use Rattle.jls_values.specs.Params.{limit, qbpp}
use Rattle.jls_context.specs.declared.mode.Neighbours.{Neighbours}
use Rattle.jls_context.specs.Mode.{is_run_mode, context}
use Rattle.jls_context.specs.Regular.{updated}
use Rattle.jls_context.specs.Variables.{Variables, cell_at}
use Rattle.jls_bits.specs.CodeState.{bits_fed}
use Rattle.jls_interval.specs.Code.{regular_bits}
use Rattle.jls_interval.specs.Events.{regular}
use Rattle.jls_interval.specs.Reading.{NoSample}
use Rattle.jls_interval.specs.OpenEvents.{now_at}
use Rattle.jls_interval.proofs.AfterEvents.{after_regular, sample_bits}
use Rattle.jls_interval.proofs.OpenEventBits.{no_sample_no_event}
use Rattle.jls_interval.proofs.push_event.push_to_regular.Goals as goal

-- no code of a sample begins so
pub returns-in-Refused-clause-step : goal.returns-in-Refused-clause-step
returns-in-Refused-clause-step c = λ k up fed earlier near_is t fed_is.
    let old = c.args.reader.now in let cells : Variables = old.coder.cells in let p = cells.parameters in let w : ℕ = old.width in
    let line : List ℕ = old.line.items in let near : Neighbours = c.args.neighbours in
    let s = c.in-Refused.ensures in let before = bits_fed (limit p) (qbpp p) c.args.code in
    record {
      taken = s.taken;
      chunk_is = s.chunk_is;
      step_is = (
        refl,
        λ more. (let a : NoSample p (cell_at cells c.args.mode.context) near ((before ++ s.taken) ++ more) =
            s.step_is more in let b : NoSample p (cell_at cells (context p near)) near ((before ++ s.taken) ++ more) =
            subst (λ z. NoSample p (cell_at cells z) near ((before ++ s.taken) ++ more)) c.requires.mode.context_is a in
            let d : NoSample p (cell_at cells (context p (now_at w up line))) (now_at w up line) ((before ++ s.taken) ++ more) =
            subst (λ (z : Neighbours). NoSample p (cell_at cells (context p z)) z ((before ++ s.taken) ++ more)) near_is b in
            no_sample_no_event p w k up line cells old.coder.run_indices earlier t ((fed ++ s.taken) ++ more)
            (subst (λ (z : Neighbours). is_run_mode z ≡ false) near_is c.requires.mode.not_run)
            (subst (λ z. NoSample p (cell_at cells (context p (now_at w up line))) (now_at w up line) ((z ++ s.taken) ++ more)) (sym fed_is)
            d)),
      );
      all = tt;
    }

-- the sample is there, and the event is whole
pub returns-in_ok-push-in-Done-clause-step : goal.returns-in_ok-push-in-Done-clause-step
returns-in_ok-push-in-Done-clause-step c = λ k up fed earlier near_is t fed_is.
    let old = c.args.reader.now in let cells : Variables = old.coder.cells in let p = cells.parameters in let w : ℕ = old.width in
    let line : List ℕ = old.line.items in let near : Neighbours = c.args.neighbours in
    let q : ℕ = c.args.mode.context in let q_is : q ≡ context p near = c.requires.mode.context_is in
    let s = c.in-Done.ensures in let d = s.step_is in let v : ℕ = c.in-Done.sample.value in let e : ℤ = c.in-Done.sample.error in
    let u = c.update_regular.ensures in
    let same : to_z w32 (of_z w32 e) ≡ e = omega (arith, ints) in
    record {
      taken = s.taken;
      chunk_is = s.chunk_is;
      step_is = (
        record {
          event = regular near v;
          fits =
              (subst (λ (z : Neighbours). is_run_mode z ≡ false) near_is c.requires.mode.not_run, near_is, d.0);
          line_is =
              c.in_ok-push-in-Done.ensures.items;
          is_after =
              after_regular p cells old.coder.run_indices earlier t near q q_is v e c.update_regular.new.self u.parameters d.1
              (u.updated ∙ ap (λ z. updated p.reset (cell_at cells q) z) same) u.others u.run_cells;
          bits_are = ap (λ z. z ++ s.taken) fed_is
              ∙ d.3 ∙ ap (λ z. regular_bits p (cell_at cells z) near v) q_is
              ∙ sym (sample_bits p cells old.coder.run_indices earlier t near v);
        },
        refl,
      );
      all = tt;
    }
