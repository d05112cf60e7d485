use Rattle.std.proofs.Common.{ℕ, ◌-◌, ◌++◌, ap, sym}
use Rattle.jls_values.specs.Params.{limit, qbpp}
use Rattle.jls_context.specs.declared.interruption.RunCell.{RunCell}
use Rattle.jls_context.specs.Interruption.{run_k}
use Rattle.jls_context.specs.Variables.{run_cell_at}
use Rattle.jls_bits.specs.CodeState.{bits_fed}
use Rattle.jls_bits.specs.Chunk.{ChunkStep}
use Rattle.jls_bits.specs.declared.code_state.CodeStep.TheVariants.{Done, Refused}
use Rattle.jls_interval.specs.Cells.{is_same}
use Rattle.jls_interval.proofs.SamplesRead.{interruption_none, along}
use Rattle.jls_interval.proofs.push_sample.push_to_interruption.Goals as goal

-- the bits begin no code
pub returns-in-Refused : goal.returns-in-Refused
returns-in-Refused c =
    let coder = c.args.coder.now in let p = coder.cells.parameters in let near = c.args.neighbours in let j : ℕ = c.args.order in
    let cell : RunCell = run_cell_at coder.cells (is_same near) in let code = c.args.code in
    let e = ap (λ z. z - j - 1) coder.lengths_are.limit_is in
    let r : ChunkStep (run_k (is_same near) cell) (limit p - j - 1) (qbpp p) (bits_fed (limit p - j - 1) (qbpp p) code) c.args.chunk.now
    c.push_chunk.new.chunk Refused =
    along (λ k g q. ChunkStep k g q (bits_fed g q code) c.args.chunk.now c.push_chunk.new.chunk Refused) _ _ _ _ _ _
    c.run_k-k.ensures.value e coder.lengths_are.qbpp_is c.in-Refused.ensures in
    record {
      taken = r.taken;
      chunk_is = r.chunk_is;
      step_is = λ more. interruption_none p coder.in_range cell near c.requires.above j c.requires.order
          ((bits_fed (limit p - j - 1) (qbpp p) code ++ r.taken) ++ more) (λ m rest has e. r.step_is m more rest has e);
      all = tt;
    }

-- the bits are the code of a number that no error is mapped to
pub returns-in-None : goal.returns-in-None
returns-in-None c =
    let coder = c.args.coder.now in let p = coder.cells.parameters in let near = c.args.neighbours in let j : ℕ = c.args.order in
    let cell : RunCell = run_cell_at coder.cells (is_same near) in let code = c.args.code in let m : ℕ = c.in-Done.mapped in
    let e = ap (λ z. z - j - 1) coder.lengths_are.limit_is in
    let r : ChunkStep (run_k (is_same near) cell) (limit p - j - 1) (qbpp p) (bits_fed (limit p - j - 1) (qbpp p) code) c.args.chunk.now
    c.push_chunk.new.chunk (Done m) =
    along (λ k g q. ChunkStep k g q (bits_fed g q code) c.args.chunk.now c.push_chunk.new.chunk (Done m)) _ _ _ _ _ _
    c.run_k-k.ensures.value e coder.lengths_are.qbpp_is c.in-Done.ensures in
    record {
      taken = r.taken;
      chunk_is = r.chunk_is;
      step_is = λ more. c.in-None.ensures.none ((bits_fed (limit p - j - 1) (qbpp p) code ++ r.taken) ++ more) more
          (ap (λ z. z ++ more) (sym r.step_is.1));
      all = tt;
    }
