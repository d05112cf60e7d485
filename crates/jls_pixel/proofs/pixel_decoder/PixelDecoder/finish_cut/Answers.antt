use Rattle.std.proofs.Common.{◌≡◌, ℕ, Bool, false, List, sym, subst, inr}
use Rattle.std.specs.Prelude.{Some, IfSome, IfOk}
use Rattle.jls_values.specs.Params.{CodingParameters}
use Rattle.jls_interval.specs.IntervalBytes.{bytes_of}
use Rattle.jls_pixel.specs.Pixels.{pixel_shape}
use Rattle.jls_pixel.specs.PixelBytes.{PixelBytes, pixels_asked}
use Rattle.jls_pixel.specs.CutEnds.{CutEndIs}
use Rattle.jls_pixel.specs.declared.cut_end.PixelCutEnd.{PixelCutEnd}
use Rattle.jls_pixel.specs.declared.cut_end.PixelCutEnd.TheVariants.{Head}
use Rattle.jls_pixel.specs.declared.decode.PixelFault.TheVariants.{Broken}
use Rattle.jls_pixel.proofs.DecodedPieces.{broken_bytes}
use Rattle.jls_pixel.proofs.pixel_decoder.PixelDecoder.finish_cut.Goals as goal

-- what is said of the bytes, where no push was refused
at_view : (P : PixelBytes → Type 0) (p : CodingParameters) (w k n : ℕ) (refused : Bool) (bytes : List ℕ) (z : PixelBytes)
    → refused ≡ false
    → (let v : PixelBytes = record { parameters = p; width = w; components = k; rows = n; bytes = bytes_of refused bytes } in v) ≡ z
    → P (record { parameters = p; width = w; components = k; rows = n; bytes = Some bytes }) → P z
at_view P p w k n refused bytes z e view h =
    subst P view
    (subst (λ r. P (record { parameters = p; width = w; components = k; rows = n; bytes = bytes_of r bytes })) (sym e) h)

pub returns-then-ended-clause-cut_end : goal.returns-then-ended-clause-cut_end
returns-then-ended-clause-cut_end c =
    let i = c.self.inside in let d = i.reader in let h = c.self.invariant.decoding c.if-self.false in let bytes : List ℕ = i.unstuffer in
    let none : List (List (List ℕ)) = c.new-none.result in
    at_view (λ (z : PixelBytes). IfSome z.bytes (λ bytes. CutEndIs (pixels_asked z) bytes (Head none Broken)))
    i.params d.width d.components d.count i.refused bytes c.args.self c.if-self.false c.self.view_is (
      broken_bytes (pixel_shape i.params d.width d.components d.count) bytes (h.ended_is c.if-ended.true),
      inr (h.ended_is c.if-ended.true, c.new-none.ensures),
    )

pub returns-clause-cut_end : goal.returns-clause-cut_end
returns-clause-cut_end c =
    let i = c.self.inside in let d = i.reader in let v = c.self.invariant in let h = v.decoding c.if-self.false in
    let bytes : List ℕ = i.unstuffer in
    at_view (λ (z : PixelBytes). IfSome z.bytes (λ bytes. IfOk c.into_cut_end.result (λ (end : PixelCutEnd). CutEndIs (pixels_asked z)
    bytes end))) i.params d.width d.components d.count i.refused bytes c.args.self c.if-self.false c.self.view_is
    (c.into_cut_end.ensures i.params bytes v.are_bytes (h.whole c.if-ended.false) (h.reading c.if-ended.false))
