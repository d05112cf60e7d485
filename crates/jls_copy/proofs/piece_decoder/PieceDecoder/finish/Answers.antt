use Rattle.std.proofs.Common.{◌≡◌, ◌<◌, ◌*◌, Err, arith, subst}
use Rattle.std.proofs.lemmas.Nat.{mul-le}
use Rattle.jls_interval.specs.declared.decode_piece.PieceFault.TheVariants.{Broken}
use Rattle.jls_piece.specs.PieceBytes.{piece_asked, unfed}
use Rattle.jls_piece.proofs.PieceReads.{empty_is_broken}
use Rattle.jls_copy.specs.PieceDecoder.{made_or_unfed}
use Rattle.jls_copy.proofs.Outcomes.{Finishes}
use Rattle.jls_copy.proofs.piece_decoder.PieceDecoder.finish.Goals as goal

-- no byte was fed: the piece is empty
pub returns-in-None : goal.returns-in-None
returns-in-None c =
    let s = c.self.inside.planned in
    let fed_nothing : unfed s ≡ c.args.self = subst (λ made. made_or_unfed made s ≡ c.args.self) c.in-None.is c.self.view_is in
    let wide : 0 < s.width = (let l = s.width_at_least in omega arith) in
    let some : 0 < s.components = (let l = s.components_at_least in omega arith) in
    let least : 0 < s.rows * s.components =
    (let l = mul-le 1 1 s.rows s.components s.rows_at_least s.components_at_least in omega arith) in
    let broken = empty_is_broken (piece_asked (unfed s)) wide some least in
    record { outcome = subst (λ decoder. Finishes decoder (Err Broken)) fed_nothing broken }
