use Rattle.std.proofs.Common.{◌≡◌, ℕ, ◌<◌, Bool, false, List, sym, subst, arith}
use Rattle.std.specs.Prelude.{IfSome}
use Rattle.std.proofs.lemmas.Bool.Decides.{nat_tests}
use Rattle.jls_values.specs.Params.{CodingParameters}
use Rattle.jls_bits.specs.Bits.{bits_read}
use Rattle.jls_interval.specs.IntervalBytes.{bytes_of}
use Rattle.jls_pixel.specs.Pixels.{pixel_shape}
use Rattle.jls_pixel.specs.Reads.{ReadsNoMore}
use Rattle.jls_pixel.specs.PixelReading.{BeginsNoCode, IsComplete}
use Rattle.jls_pixel.specs.PixelBytes.{PixelBytes, pixels_asked}
use Rattle.jls_pixel.proofs.NoMore.{unwhole_reads_no_more, no_code_reads_no_more, over_reads_no_more}
use Rattle.jls_pixel.proofs.PixelReading.{state_of}
use Rattle.jls_pixel.proofs.pixel_decoder.PixelDecoder.reads_no_more.Goals as goal

said : (p : CodingParameters) (w k n : ℕ) (refused : Bool) (bytes : List ℕ) (z : PixelBytes) → refused ≡ false
    → (let v : PixelBytes = record { parameters = p; width = w; components = k; rows = n; bytes = bytes_of refused bytes } in v) ≡ z
    → ReadsNoMore (pixel_shape p w k n) bytes → IfSome z.bytes (λ bytes. ReadsNoMore (pixels_asked z) bytes)
said p w k n refused bytes z e view h =
    subst (λ (z : PixelBytes). IfSome z.bytes (λ bytes. ReadsNoMore (pixels_asked z) bytes)) view
    (subst (λ r. IfSome (bytes_of r bytes) (λ b. ReadsNoMore (pixel_shape p w k n) b)) (sym e) h)

pub returns-then-self-2 : goal.returns-then-self-2
returns-then-self-2 c = λ _.
    let i = c.self.inside in let d = i.reader in
    said i.params d.width d.components d.count i.refused i.unstuffer _ c.if-self.false c.self.view_is
    (unwhole_reads_no_more i.params d.width d.components d.count i.unstuffer
    ((c.self.invariant.decoding c.if-self.false).ended_is c.if-self-2.true))

pub returns-in-NoCode : goal.returns-in-NoCode
returns-in-NoCode c = λ _.
    let i = c.self.inside in let d = i.reader in let bytes : List ℕ = i.unstuffer in
    let reading = (c.self.invariant.decoding c.if-self.false).reading c.if-self-2.false in
    let no_code : BeginsNoCode i.params d.width d.components d.count (bits_read bytes) =
    state_of i.params d (bits_read bytes) reading _ c.in-NoCode.is in
    said i.params d.width d.components d.count i.refused bytes _ c.if-self.false c.self.view_is
    (no_code_reads_no_more i.params d.width d.components d.count bytes no_code)

pub returns-in-Complete : goal.returns-in-Complete
returns-in-Complete c = λ many.
    let i = c.self.inside in let d = i.reader in let v = c.self.invariant in let bytes : List ℕ = i.unstuffer in
    let rows : List (List (List ℕ)) = d.rows in
    let reading = (v.decoding c.if-self.false).reading c.if-self-2.false in
    let over : IsComplete i.params d.width d.components d.count (bits_read bytes) rows c.in-Complete.extra =
    state_of i.params d (bits_read bytes) reading _ c.in-Complete.is in
    let high : 7 < c.in-Complete.extra = grind (arith, nat_tests, many) in
    said i.params d.width d.components d.count i.refused bytes _ c.if-self.false c.self.view_is
    (over_reads_no_more i.params d.width d.components d.count bytes v.in_range v.width_at_least rows c.in-Complete.extra over high)
