use Rattle.std.proofs.Common.{◌≡◌, Bool, List, sym, ◌∙◌, ap, subst}
use Rattle.jls_values.specs.Params.{qbpp}
use Rattle.jls_bits.specs.CodeState.{bits_fed}
use Rattle.jls_interval.proofs.SamplesRead.{along}
use Rattle.jls_pixel.specs.OpenEvents.{CutsNoCode, CutsSamples, CutsNoSample}
use Rattle.jls_pixel.proofs.CutSamples.{no_code_no_sample}
use Rattle.jls_pixel.proofs.cut_sample.sample_is_cut.Goals as goal

pub returns-in-None-clause-no : goal.returns-in-None-clause-no
returns-in-None-clause-no c = λ _ earlier t x.
    let coder = c.args.coder.now in let p = coder.cells.parameters in let given : List Bool = c.args.pending.now in
    no_code_no_sample p coder.in_range coder.cells c.args.near c.args.kind c.requires.kind given
    (subst (CutsNoCode _ _ _) c.in_ok-left.ensures
    (along (λ k g q. CutsNoCode k g q c.in_ok-left.left) _ _ _ _ _ _ c.code_shape-shape.ensures.k c.code_shape-shape.ensures.limit
    coder.lengths_are.qbpp_is c.in-None.ensures.none)) earlier t x.sample x.cut

pub returns-clause-yes : goal.returns-clause-yes
returns-clause-yes c =
    let coder = c.args.coder.now in let p = coder.cells.parameters in let given : List Bool = c.args.pending.now in
    let fed : bits_fed c.code_shape-shape.result.limit (qbpp p) c.in-Some.code ≡ given =
    ap (λ q. bits_fed c.code_shape-shape.result.limit q c.in-Some.code) (sym coder.lengths_are.qbpp_is)
    ∙ c.in-Some.ensures.fed ∙ c.in_ok-left.ensures in
    λ e. subst (CutsSamples p c.args.kind c.args.near c.args.except coder.cells) fed (c.some_sample_begins.ensures.yes e)

pub returns-clause-no : goal.returns-clause-no
returns-clause-no c =
    let coder = c.args.coder.now in let p = coder.cells.parameters in let given : List Bool = c.args.pending.now in
    let fed : bits_fed c.code_shape-shape.result.limit (qbpp p) c.in-Some.code ≡ given =
    ap (λ q. bits_fed c.code_shape-shape.result.limit q c.in-Some.code) (sym coder.lengths_are.qbpp_is)
    ∙ c.in-Some.ensures.fed ∙ c.in_ok-left.ensures in
    λ e. subst (CutsNoSample p c.args.kind c.args.near c.args.except coder.cells) fed (c.some_sample_begins.ensures.no e)
