use Rattle.std.proofs.Common.{eqb, sym, ap, ◌∙◌, arith, w8}
use lib.Count.{count_trailing_zeros}
use lib.Lanes.{chunk}
use Rattle.std.proofs.lemmas.Simd.{length-chunk, bitmask_splat, leading_from_mask_l, trailing_mask_l}
use Rattle.jls_copy.proofs.ff_search.count_before_ff.Goals as goal

-- none of the sixteen bytes is FF
pub returns-then-hits-eq0 : goal.returns-then-hits-eq0
returns-then-hits-eq0 c =
    let v = chunk c.args.at 16 c.args.bytes.now in
    let long = length-chunk c.args.at 16 c.args.bytes.now c.requires in
    let hits = bitmask_splat w8 eqb v 16 255 long (omega arith) in
    sym (leading_from_mask_l (λ x. eqb x 255) v (sym hits ∙ c.if-hits-eq0.true) ∙ long)

-- the lowest bit that is set is that of the first FF
pub returns-else-hits-eq0 : goal.returns-else-hits-eq0
returns-else-hits-eq0 c =
    let v = chunk c.args.at 16 c.args.bytes.now in
    let long = length-chunk c.args.at 16 c.args.bytes.now c.requires in
    let hits = bitmask_splat w8 eqb v 16 255 long (omega arith) in
    ap (count_trailing_zeros 64) hits ∙ trailing_mask_l (λ x. eqb x 255) 64 v (omega arith) (omega arith)
