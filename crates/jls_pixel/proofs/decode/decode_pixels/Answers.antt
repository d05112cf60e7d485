use Rattle.std.proofs.Common.{◌≡◌, ℕ, List, [], ◌++◌, ◌∙◌, ap, subst}
use Rattle.std.specs.Prelude.{Some, IfSome}
use Rattle.std.specs.Option.{option_map}
use Rattle.jls_values.specs.Params.{CodingParameters}
use Rattle.jls_pixel.specs.Pixels.{pixel_shape}
use Rattle.jls_pixel.specs.Reads.{Reads}
use Rattle.jls_pixel.specs.PixelBytes.{PixelBytes, pixels_asked}
use Rattle.jls_pixel.specs.declared.decode.PixelFault.TheVariants.{OutOfMemory}
use Rattle.jls_pixel.proofs.decode.decode_pixels.Goals as goal

-- what is said of a decoder that was given a piece, said of the piece
told : (old new : PixelBytes) (p : CodingParameters) (w k n : ℕ) (piece : List ℕ) (Q : List (List (List ℕ)) → Type 0)
    → old ≡ record { parameters = p; width = w; components = k; rows = n; bytes = Some [] }
    → new ≡ record old { bytes = option_map (λ bytes. bytes ++ piece) old.bytes }
    → IfSome new.bytes (λ bytes. (wanted : List (List (List ℕ))) → Reads (pixels_asked new) bytes wanted → Q wanted)
    → (wanted : List (List (List ℕ))) → Reads (pixel_shape p w k n) piece wanted → Q wanted
told old new p w k n piece Q a b h =
    subst (λ (z : PixelBytes). IfSome z.bytes (λ bytes. (wanted : List (List (List ℕ))) → Reads (pixels_asked z) bytes wanted → Q wanted))
    (b ∙ ap (λ (z : PixelBytes). record z { bytes = option_map (λ bytes. bytes ++ piece) z.bytes }) a) h

pub returns-in-Err-finish-clause-read : goal.returns-in-Err-finish-clause-read
returns-in-Err-finish-clause-read c = λ wanted r.
    told c.new-decoder.result c.push_all.new.self c.args.params.now c.args.width c.args.components c.args.rows c.args.piece.now
    (λ wanted. c.in-Err-finish.fault ≡ OutOfMemory) c.new-decoder.ensures c.in-Ok.ensures.ok c.in-Err-finish.ensures.read wanted r

pub returns-in-Ok-into_vecs-clause-read : goal.returns-in-Ok-into_vecs-clause-read
returns-in-Ok-into_vecs-clause-read c = λ wanted r.
    c.in-Ok-into_vecs.ensures
    ∙ told c.new-decoder.result c.push_all.new.self c.args.params.now c.args.width c.args.components c.args.rows c.args.piece.now
    (λ wanted. c.in-Ok-finish.rows ≡ wanted) c.new-decoder.ensures c.in-Ok.ensures.ok c.in-Ok-finish.ensures.read wanted r
