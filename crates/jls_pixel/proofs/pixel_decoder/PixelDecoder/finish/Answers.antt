use Rattle.std.proofs.Common.{◌≡◌, ℕ, Bool, false, List, sym, subst}
use Rattle.std.specs.Prelude.{Some, IfSome, IfErr, MatchResult}
use Rattle.jls_values.specs.Params.{CodingParameters}
use Rattle.jls_interval.specs.IntervalBytes.{bytes_of}
use Rattle.jls_pixel.specs.Pixels.{pixel_shape}
use Rattle.jls_pixel.specs.Reads.{Reads}
use Rattle.jls_pixel.specs.PieceFaults.{FaultIs}
use Rattle.jls_pixel.specs.PixelBytes.{PixelBytes, pixels_asked}
use Rattle.jls_pixel.specs.declared.decode.PixelFault.{PixelFault}
use Rattle.jls_pixel.specs.declared.decode.PixelFault.TheVariants.{OutOfMemory}
use Rattle.jls_pixel.proofs.DecodedPieces.{judged}
use Rattle.jls_pixel.proofs.pixel_decoder.PixelDecoder.finish.Goals as goal

-- what is said of the bytes, where no push was refused
at_view : (P : PixelBytes → Type 0) (p : CodingParameters) (w k n : ℕ) (refused : Bool) (bytes : List ℕ) (z : PixelBytes)
    → refused ≡ false
    → (let v : PixelBytes = record { parameters = p; width = w; components = k; rows = n; bytes = bytes_of refused bytes } in v) ≡ z
    → P (record { parameters = p; width = w; components = k; rows = n; bytes = Some bytes }) → P z
at_view P p w k n refused bytes z e view h =
    subst P view
    (subst (λ r. P (record { parameters = p; width = w; components = k; rows = n; bytes = bytes_of r bytes })) (sym e) h)

pub returns-clause-fault : goal.returns-clause-fault
returns-clause-fault c =
    let i = c.self.inside in let d = i.reader in let v = c.self.invariant in let h = v.decoding c.if-self.false in
    let bytes : List ℕ = i.unstuffer in
    at_view (λ (z : PixelBytes). IfSome z.bytes (λ bytes. IfErr c.into_rows.result (λ (fault : PixelFault). FaultIs fault (pixels_asked z)
    bytes))) i.params d.width d.components d.count i.refused bytes c.args.self c.if-self.false c.self.view_is
    (c.into_rows.ensures.fault i.params bytes v.are_bytes (h.whole c.if-self-2.false) (h.reading c.if-self-2.false))

pub returns-clause-read : goal.returns-clause-read
returns-clause-read c =
    let i = c.self.inside in let d = i.reader in let v = c.self.invariant in let h = v.decoding c.if-self.false in
    let bytes : List ℕ = i.unstuffer in
    at_view (λ (z : PixelBytes). IfSome z.bytes (λ bytes. (wanted : List (List (List ℕ))) → Reads (pixels_asked z) bytes wanted
    → MatchResult c.into_rows.result (λ (found : List (List (List ℕ))). found ≡ wanted) (λ (fault : PixelFault). fault ≡ OutOfMemory)))
    i.params d.width d.components d.count i.refused bytes c.args.self c.if-self.false c.self.view_is
    (λ wanted read. judged (pixel_shape i.params d.width d.components d.count) bytes v.in_range v.width_at_least
    (λ (rows : List (List (List ℕ))). rows) c.into_rows.result
    (c.into_rows.ensures.rows i.params bytes v.are_bytes (h.whole c.if-self-2.false) (h.reading c.if-self-2.false))
    (c.into_rows.ensures.fault i.params bytes v.are_bytes (h.whole c.if-self-2.false) (h.reading c.if-self-2.false)) wanted read)
