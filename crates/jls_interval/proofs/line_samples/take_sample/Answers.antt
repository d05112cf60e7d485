use Rattle.std.proofs.Common.{◌≡◌, ℕ, List, Bool, true, ◌++◌, w32, to_z, of_z, arith, refl, ap, sym, subst, ◌∙◌}
use Rattle.std.specs.Prelude.{ℤ}
use Rattle.std.proofs.lemmas.Int.{ints}
use Rattle.jls_context.specs.declared.mode.Neighbours.{Neighbours}
use Rattle.jls_context.specs.Mode.{IsRegularMode, context}
use Rattle.jls_values.specs.Params.{limit, qbpp}
use Rattle.jls_context.specs.Regular.{updated, regular_k}
use Rattle.jls_bits.specs.Golomb.{golomb, has_golomb}
use Rattle.jls_bits.specs.CodeState.{IsOpen, bits_fed}
use Rattle.jls_bits.specs.declared.code_state.CodeState.{CodeState}
use Rattle.jls_context.specs.Variables.{Variables, cell_at}
use Rattle.jls_interval.specs.Code.{regular_bits}
use Rattle.jls_interval.proofs.AfterEvents.{after_regular, sample_bits}
use Rattle.jls_interval.proofs.SamplesRead.{along}
use Rattle.jls_interval.proofs.line_samples.take_sample.Goals as goal
use Rattle.jls_interval.proofs.line_samples.take_sample.Goals.{In-Regular}

-- the mode of the sample, by its gradients
mode_is : (c : In-Regular) → IsRegularMode c.args.coder.now.cells.parameters c.args.neighbours c.in-Regular.cell c.in-Regular.negative
mode_is c =
    let a : to_z w32 (of_z w32 c.args.gradients.first) ≡ c.args.gradients.first = omega (arith, ints) in
    let b : to_z w32 (of_z w32 c.args.gradients.second) ≡ c.args.gradients.second = omega (arith, ints) in
    let d : to_z w32 (of_z w32 c.gradient-third.result) ≡ c.gradient-third.result = omega (arith, ints) in
    c.in-Regular.ensures c.args.neighbours
    (record { first = a ∙ c.requires.first; second = b ∙ c.requires.second; third = d ∙ c.gradient-third.ensures.value })

pub sample_of-requires-clause-mode : goal.sample_of-requires-clause-mode
sample_of-requires-clause-mode c = mode_is (goal.at.sample_of-requires-clause-mode c).In-Regular

pub sample_of-requires-clause-code : goal.sample_of-requires-clause-code
sample_of-requires-clause-code c =
    let coder = c.args.coder.now in let m : ℕ = c.in-Some.mapped in
    along (λ k g q. has_golomb k g q m ≡ true) _ _ _ _ _ _ c.regular_k-k.ensures.value c.requires.lengths.limit_is
    c.requires.lengths.qbpp_is c.in-Some.ensures.some.0

pub update_regular-requires-clause-cell : goal.update_regular-requires-clause-cell
update_regular-requires-clause-cell c = (mode_is (goal.at.update_regular-requires-clause-cell c).In-Regular).at_most

-- a short code stands whole at the start, and its sample is taken
pub returns-in-Some-sample_of-clause-prefix : goal.returns-in-Some-sample_of-clause-prefix
returns-in-Some-sample_of-clause-prefix c =
    let old = c.args.coder.now in let cells : Variables = old.cells in let p = cells.parameters in
    let near : Neighbours = c.args.neighbours in
    let m = mode_is (goal.at.returns-in-Some-sample_of-clause-prefix c).In-Regular in
    let q : ℕ = c.in-Regular.cell in let q_is : q ≡ context p near = m.context_is in
    let v : ℕ = c.in-Some-sample_of.sample.value in let e : ℤ = c.in-Some-sample_of.sample.error in let s = c.in-Some-sample_of.ensures in
    let u = c.update_regular.ensures in
    let unread : List Bool = c.take_code.new.self in let same : to_z w32 (of_z w32 e) ≡ e = omega (arith, ints) in
    let mapped : ℕ = c.in-Some.mapped in
    let code : c.args.chunk.now ≡ golomb (regular_k (cell_at cells q)) (limit p) (qbpp p) mapped ++ unread =
    along (λ k g b. c.args.chunk.now ≡ golomb k g b mapped ++ unread) _ _ _ _ _ _ c.regular_k-k.ensures.value c.requires.lengths.limit_is
    c.requires.lengths.qbpp_is c.in-Some.ensures.some.1 in
    record {
      not_run = m.not_run;
      at_most = s.sample;
      is_after = λ earlier t. after_regular p cells old.run_indices earlier t near q q_is v e c.update_regular.new.self u.parameters s.error
          (u.updated ∙ ap (λ z. updated p.reset (cell_at cells q) z) same) u.others u.run_cells;
      bits_are = λ earlier t. code ∙ ap (λ z. z ++ unread)
          (sym s.bits ∙ ap (λ z. regular_bits p (cell_at cells z) near v) q_is
          ∙ sym (sample_bits p cells old.run_indices earlier t near v));
    }

-- all bits are the first ones of a short code, and are taken
pub returns-in-Some-of_short-clause-prefix : goal.returns-in-Some-of_short-clause-prefix
returns-in-Some-of_short-clause-prefix c =
    let old = c.args.coder.now in let cells : Variables = old.cells in let p = cells.parameters in
    let near : Neighbours = c.args.neighbours in
    let m = mode_is (goal.at.returns-in-Some-of_short-clause-prefix c).In-Regular in
    let code : CodeState = c.in-Some-of_short.code in let s = c.in-Some-of_short.ensures in
    let same : c.take_code.new.self ≡ c.args.chunk.now = c.in-None.ensures.none in
    let opened : IsOpen (regular_k (cell_at cells c.in-Regular.cell)) (limit p) (qbpp p) code =
    along (λ k g b. IsOpen k g b code) _ _ _ _ _ _ c.regular_k-k.ensures.value c.requires.lengths.limit_is c.requires.lengths.qbpp_is
    s.opened in
    let fed : bits_fed (limit p) (qbpp p) code ≡ c.args.chunk.now =
    subst (λ g. bits_fed g (qbpp p) code ≡ c.args.chunk.now) c.requires.lengths.limit_is
    (subst (λ b. bits_fed c.args.lengths.limit b code ≡ c.args.chunk.now) c.requires.lengths.qbpp_is (s.fed ∙ same)) in (
      record {
        not_run = m.not_run;
        opened = subst (λ q. IsOpen (regular_k (cell_at cells q)) (limit p) (qbpp p) code) m.context_is opened;
        fed = sym fed;
        all = c.new.ensures;
      },
      refl,
    )
