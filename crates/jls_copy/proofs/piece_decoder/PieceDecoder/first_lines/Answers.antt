use Rattle.std.proofs.Common.{subst, map}
use Rattle.jls_copy.proofs.CutOutcomes.{CutFinishes}
use Rattle.jls_copy.proofs.PiecesInHand.{head_first}
use Rattle.jls_copy.proofs.piece_decoder.PieceDecoder.first_lines.Goals as goal

-- the piece ends early, and its complete lines are the first ones
pub returns-in-Head : goal.returns-in-Head
returns-in-Head c =
    let said = subst (CutFinishes c.args.self) c.in-Head.is c.in_ok-lines.ensures.cut_end in
    head_first c.args.self c.in-Head.lines c.in-Head.field-1 c.into_vecs-in-Head.result (λ lines. map (λ v. v.items) lines.items) said
    c.into_vecs-in-Head.ensures
