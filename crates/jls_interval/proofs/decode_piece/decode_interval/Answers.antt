use Rattle.std.proofs.Common.{◌≡◌, ℕ, ◌*◌, List, [], ◌++◌, ◌∙◌, ap, subst}
use Rattle.std.specs.Prelude.{Some, IfSome}
use Rattle.std.specs.Option.{option_map}
use Rattle.jls_values.specs.Params.{CodingParameters}
use Rattle.jls_interval.specs.Lines.{interval_shape}
use Rattle.jls_interval.specs.Reads.{Reads}
use Rattle.jls_interval.specs.IntervalBytes.{IntervalBytes, interval_asked}
use Rattle.jls_interval.proofs.decode_piece.decode_interval.Goals as goal

-- what is said of a decoder that was fed a piece, said of the piece
told : (old new : IntervalBytes) (p : CodingParameters) (w c r : ℕ) (piece : List ℕ) (Q : List (List ℕ) → Type 0)
    → old ≡ record { parameters = p; width = w; components = c; rows = r; bytes = Some [] }
    → new ≡ record old { bytes = option_map (λ bytes. bytes ++ piece) old.bytes }
    → IfSome new.bytes (λ bytes. (lines : List (List ℕ)) → Reads (interval_asked new) bytes lines → Q lines)
    → (lines : List (List ℕ)) → Reads (interval_shape p w c (r * c)) piece lines → Q lines
told old new p w c r piece Q a b h =
    subst (λ (z : IntervalBytes). IfSome z.bytes (λ bytes. (lines : List (List ℕ)) → Reads (interval_asked z) bytes lines → Q lines))
    (b ∙ ap (λ (z : IntervalBytes). record z { bytes = option_map (λ bytes. bytes ++ piece) z.bytes }) a) h

pub returns-in-Err-finish-clause-read : goal.returns-in-Err-finish-clause-read
returns-in-Err-finish-clause-read c = λ lines r.
    absurd (told c.new-decoder.result c.push_all.new.self c.args.params.now c.args.width c.args.components c.args.rows c.args.piece.now
    (λ lines. ⊥) c.new-decoder.ensures c.in-Ok.ensures.ok c.in-Err-finish.ensures.read lines r)

pub returns-in-Ok-into_vecs-clause-read : goal.returns-in-Ok-into_vecs-clause-read
returns-in-Ok-into_vecs-clause-read c = λ lines r.
    c.in-Ok-into_vecs.ensures
    ∙ told c.new-decoder.result c.push_all.new.self c.args.params.now c.args.width c.args.components c.args.rows c.args.piece.now
    (λ lines. c.in-Ok-finish.lines ≡ lines) c.new-decoder.ensures c.in-Ok.ensures.ok c.in-Ok-finish.ensures.read lines r
