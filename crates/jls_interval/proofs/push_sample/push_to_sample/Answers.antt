use Rattle.std.proofs.Common.{ℕ, ◌++◌, ap, sym}
use Rattle.jls_values.specs.Params.{limit, qbpp}
use Rattle.jls_context.specs.declared.regular.Cell.{Cell}
use Rattle.jls_context.specs.Regular.{regular_k}
use Rattle.jls_context.specs.Variables.{cell_at}
use Rattle.jls_bits.specs.CodeState.{bits_fed}
use Rattle.jls_bits.specs.Chunk.{ChunkStep}
use Rattle.jls_bits.specs.declared.code_state.CodeStep.TheVariants.{Done, Refused}
use Rattle.jls_interval.proofs.SamplesRead.{regular_none, along}
use Rattle.jls_interval.proofs.push_sample.push_to_sample.Goals as goal

-- the bits begin no code
pub returns-in-Refused : goal.returns-in-Refused
returns-in-Refused c =
    let coder = c.args.coder.now in let p = coder.cells.parameters in let cell : Cell = cell_at coder.cells c.args.mode.context in
    let code = c.args.code in
    let r : ChunkStep (regular_k cell) (limit p) (qbpp p) (bits_fed (limit p) (qbpp p) code) c.args.chunk.now c.push_chunk.new.chunk
    Refused = along (λ k g q. ChunkStep k g q (bits_fed g q code) c.args.chunk.now c.push_chunk.new.chunk Refused) _ _ _ _ _ _
    c.regular_k-k.ensures.value coder.lengths_are.limit_is coder.lengths_are.qbpp_is c.in-Refused.ensures in
    record {
      taken = r.taken;
      chunk_is = r.chunk_is;
      step_is = λ more. regular_none p coder.in_range cell c.args.neighbours ((bits_fed (limit p) (qbpp p) code ++ r.taken) ++ more)
          (λ m rest has e. r.step_is m more rest has e);
      all = tt;
    }

-- the bits are the code of a number that no error is mapped to
pub returns-in-None : goal.returns-in-None
returns-in-None c =
    let coder = c.args.coder.now in let p = coder.cells.parameters in let cell : Cell = cell_at coder.cells c.args.mode.context in
    let code = c.args.code in let m : ℕ = c.in-Done.mapped in
    let r : ChunkStep (regular_k cell) (limit p) (qbpp p) (bits_fed (limit p) (qbpp p) code) c.args.chunk.now c.push_chunk.new.chunk
    (Done m) = along (λ k g q. ChunkStep k g q (bits_fed g q code) c.args.chunk.now c.push_chunk.new.chunk (Done m)) _ _ _ _ _ _
    c.regular_k-k.ensures.value coder.lengths_are.limit_is coder.lengths_are.qbpp_is c.in-Done.ensures in
    record {
      taken = r.taken;
      chunk_is = r.chunk_is;
      step_is = λ more. c.in-None.ensures.none ((bits_fed (limit p) (qbpp p) code ++ r.taken) ++ more) more
          (ap (λ z. z ++ more) (sym r.step_is.1));
      all = tt;
    }
