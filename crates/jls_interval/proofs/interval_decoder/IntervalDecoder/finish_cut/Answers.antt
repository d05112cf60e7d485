use Rattle.std.proofs.Common.{◌≡◌, ℕ, ◌*◌, ◌<◌, Bool, false, List, sym, subst, inl, arith}
use Rattle.std.specs.Prelude.{IfSome}
use Rattle.jls_values.specs.Params.{CodingParameters}
use Rattle.jls_bits.specs.Bits.{bits_read}
use Rattle.jls_interval.specs.Lines.{interval_shape}
use Rattle.jls_interval.specs.CutEnds.{CutEndIs}
use Rattle.jls_interval.specs.IntervalBytes.{IntervalBytes, bytes_of, interval_asked, IsDecoder}
use Rattle.jls_interval.specs.declared.cut_end.CutEnd.{CutEnd}
use Rattle.jls_interval.specs.declared.cut_end.CutEnd.TheVariants.{Head}
use Rattle.jls_interval.specs.declared.decode_piece.PieceFault.TheVariants.{Long, Broken}
use Rattle.jls_interval.specs.declared.interval_reader.IntervalReader.{IntervalReader}
use Rattle.jls_interval.specs.declared.interval_reader.State.TheVariants.{Complete}
use Rattle.jls_interval.proofs.Finishing.{working_breaks, stopped_breaks, over_long}
use Rattle.jls_interval.proofs.IntervalReading.{state_of}
use Rattle.jls_interval.proofs.interval_decoder.IntervalDecoder.finish_cut.Goals as goal

-- what is seen of the bytes, where no push was refused
seen : {p : CodingParameters} {rows : ℕ} {bytes : List ℕ} {ended refused : Bool} {d : IntervalReader} (v : IntervalBytes) (end : CutEnd)
    → IsDecoder p rows bytes ended refused d → refused ≡ false
    → record { parameters = p; width = d.reader.width; components = d.components; rows = rows; bytes = bytes_of refused bytes } ≡ v
    → CutEndIs (interval_shape p d.reader.width d.components d.count) bytes end
    → IfSome v.bytes (λ bytes. CutEndIs (interval_asked v) bytes end)
seen {p} {rows} {bytes} {ended} {refused} {d} v end invariant granted view h =
    let w : ℕ = d.reader.width in let n : ℕ = d.components in
    let all : CutEndIs (interval_shape p w n (rows * n)) bytes end =
    subst (λ z. CutEndIs (interval_shape p w n z) bytes end) invariant.count_is h in
    let there : IfSome (bytes_of refused bytes) (λ bytes. CutEndIs (interval_shape p w n (rows * n)) bytes end) =
    subst (λ r. IfSome (bytes_of r bytes) (λ bytes. CutEndIs (interval_shape p w n (rows * n)) bytes end)) (sym granted) all in
    subst (λ (z : IntervalBytes). IfSome z.bytes (λ bytes. CutEndIs (interval_asked z) bytes end)) view there

pub returns-in-Working-clause-cut_end : goal.returns-in-Working-clause-cut_end
returns-in-Working-clause-cut_end c =
    let i = c.self.inside in let h = c.self.invariant.decoding c.if-self.false in let r = h.reading c.if-ended.false in
    seen c.args.self (Head c.into_head.result Broken) c.self.invariant c.if-self.false c.self.view_is
    (working_breaks i.params i.reader i.unstuffer r c.in-Working.is, inl (h.whole c.if-ended.false, c.into_head.ensures i.params _ r))

-- the bits begin no code: the piece is broken
pub returns-in-NoCode-clause-cut_end : goal.returns-in-NoCode-clause-cut_end
returns-in-NoCode-clause-cut_end c =
    let i = c.self.inside in let h = c.self.invariant.decoding c.if-self.false in let r = h.reading c.if-ended.false in
    seen c.args.self (Head c.into_head-in-NoCode.result Broken) c.self.invariant c.if-self.false c.self.view_is (
      stopped_breaks i.params i.reader i.unstuffer r c.in-NoCode.is,
      inl (h.whole c.if-ended.false, c.into_head-in-NoCode.ensures i.params _ r),
    )

-- too many bits follow the code of the lines
pub returns-else-extra-le7-clause-cut_end : goal.returns-else-extra-le7-clause-cut_end
returns-else-extra-le7-clause-cut_end c =
    let i = c.self.inside in let d = i.reader in let h = c.self.invariant.decoding c.if-self.false in
    let r = h.reading c.if-ended.false in let whole = h.whole c.if-ended.false in
    let many : 7 < c.in-Complete.extra = (let e = c.if-extra-le7.false in omega arith) in
    seen c.args.self (Head c.into_head-in-Complete.result Long) c.self.invariant c.if-self.false c.self.view_is (
      over_long i.params d.reader.width d.components d.count i.unstuffer c.self.invariant.are_bytes whole d.lines
          c.in-Complete.extra (state_of i.params d (bits_read i.unstuffer) r (Complete c.in-Complete.extra) c.in-Complete.is) many,
      inl (whole, c.into_head-in-Complete.ensures i.params _ r),
    )
