use Rattle.std.proofs.Common.{◌≡◌, ◌^◌, ◌<◌, true, false, [], ◌∷◌, ◌++◌, sym, ap, subst, ◌∙◌, arith}
use Rattle.jls_bits.specs.Bits.{bits, width_after, ends_data, bits_read, is_whole}
use Rattle.jls_bits.specs.Unstuffing.{IsUnstuffing}
use Rattle.jls_bits.proofs.Unstuffing.{plain_goes, plain_width, byte_ends, byte_whole, byte_bits, byte_fits, byte_kept, stays_ended}
use Rattle.jls_bits.proofs.Unstuffing.{ended_kept}
use Rattle.jls_bits.proofs.unstuffer.Unstuffer.push.Goals as goal

-- the data had ended before this byte
pub returns-then-self-clause-none : goal.returns-then-self-clause-none
returns-then-self-clause-none c =
    let xs = c.self.inside.pushed.list in let last = c.self.inside.last in let ended = c.self.inside.ended in
    let u = c.self.invariant in let byte = c.args.byte in let small : byte < 256 = omega (arith, c.ranges.byte.fits) in
    ap is_whole c.note.ensures ∙ stays_ended xs last ended u byte small c.if-self.true

-- the data had ended before this byte
pub invariant_of-self : goal.invariant_of-self
invariant_of-self c =
    let xs = c.self.inside.pushed.list in let last = c.self.inside.last in let ended = c.self.inside.ended in
    let u = c.self.invariant in let byte = c.args.byte in let small : byte < 256 = omega (arith, c.ranges.byte.fits) in
    let none = stays_ended xs last ended u byte small c.if-self.true in
    subst (λ z. IsUnstuffing z last ended) (sym c.note.ensures)
    (subst (λ z. IsUnstuffing (xs ++ byte ∷ []) last z) (sym c.if-self.true)
    (ended_kept xs last ended u byte small none))

-- the last byte is not FF, so this one has eight data bits
pub invariant_of-self-then-self-2 : goal.invariant_of-self-then-self-2
invariant_of-self-then-self-2 c =
    let xs = c.self.inside.pushed.list in let last = c.self.inside.last in let ended = c.self.inside.ended in
    let u = c.self.invariant in let byte = c.args.byte in let small : byte < 256 = omega (arith, c.ranges.byte.fits) in
    let on : ends_data last byte ≡ false = plain_goes last byte c.if-self-2.true in
    subst (λ z. IsUnstuffing z byte ended) (sym c.note.ensures)
    (byte_kept xs last ended u byte small c.if-self.false on)

-- the last byte is not FF
pub returns-then-self-2-clause-whole : goal.returns-then-self-2-clause-whole
returns-then-self-2-clause-whole c =
    let xs = c.self.inside.pushed.list in let last = c.self.inside.last in let ended = c.self.inside.ended in
    let u = c.self.invariant in let byte = c.args.byte in let small : byte < 256 = omega (arith, c.ranges.byte.fits) in
    let on : ends_data last byte ≡ false = plain_goes last byte c.if-self-2.true in
    ap is_whole c.note.ensures ∙ byte_whole xs last ended u byte small c.if-self.false on

-- the last byte is not FF
pub returns-then-self-2-clause-bits : goal.returns-then-self-2-clause-bits
returns-then-self-2-clause-bits c =
    let xs = c.self.inside.pushed.list in let last = c.self.inside.last in let ended = c.self.inside.ended in
    let u = c.self.invariant in let byte = c.args.byte in let small : byte < 256 = omega (arith, c.ranges.byte.fits) in
    let on : ends_data last byte ≡ false = plain_goes last byte c.if-self-2.true in
    ap bits_read c.note.ensures ∙ byte_bits xs last ended u byte small c.if-self.false on
    ∙ ap (λ z. bits_read z ++ bits (width_after last) byte) c.self.view_is
    ∙ ap (λ z. bits_read c.args.self.now ++ bits z byte) (plain_width last c.if-self-2.true)

-- this byte ends the data
pub returns-then-ends_data-clause-none : goal.returns-then-ends_data-clause-none
returns-then-ends_data-clause-none c =
    let xs = c.self.inside.pushed.list in let last = c.self.inside.last in let ended = c.self.inside.ended in
    let u = c.self.invariant in let byte = c.args.byte in let small : byte < 256 = omega (arith, c.ranges.byte.fits) in
    ap is_whole c.note.ensures ∙ byte_ends xs last ended u byte small c.if-self.false
    (sym c.ends_data.ensures ∙ c.if-ends_data.true)

-- this byte ends the data
pub invariant_of-self-then-ends_data : goal.invariant_of-self-then-ends_data
invariant_of-self-then-ends_data c =
    let xs = c.self.inside.pushed.list in let last = c.self.inside.last in let ended = c.self.inside.ended in
    let u = c.self.invariant in let byte = c.args.byte in let small : byte < 256 = omega (arith, c.ranges.byte.fits) in
    let none = byte_ends xs last ended u byte small c.if-self.false
    (sym c.ends_data.ensures ∙ c.if-ends_data.true) in
    subst (λ z. IsUnstuffing z last true) (sym c.note.ensures)
    (ended_kept xs last ended u byte small none)

-- the byte follows FF and is below 0x80, so it has seven data bits
pub invariant_of-self-2 : goal.invariant_of-self-2
invariant_of-self-2 c =
    let xs = c.self.inside.pushed.list in let last = c.self.inside.last in let ended = c.self.inside.ended in
    let u = c.self.invariant in let byte = c.args.byte in let small : byte < 256 = omega (arith, c.ranges.byte.fits) in
    subst (λ z. IsUnstuffing z byte ended) (sym c.note.ensures)
    (byte_kept xs last ended u byte small c.if-self.false
    (sym c.ends_data.ensures ∙ c.if-ends_data.false))

-- the byte follows FF and is below 0x80
pub returns-clause-whole : goal.returns-clause-whole
returns-clause-whole c =
    let xs = c.self.inside.pushed.list in let last = c.self.inside.last in let ended = c.self.inside.ended in
    let u = c.self.invariant in let byte = c.args.byte in let small : byte < 256 = omega (arith, c.ranges.byte.fits) in
    ap is_whole c.note.ensures ∙ byte_whole xs last ended u byte small c.if-self.false
    (sym c.ends_data.ensures ∙ c.if-ends_data.false)

-- the byte follows FF and is below 0x80
pub returns-clause-bits : goal.returns-clause-bits
returns-clause-bits c =
    let xs = c.self.inside.pushed.list in let last = c.self.inside.last in let ended = c.self.inside.ended in
    let u = c.self.invariant in let byte = c.args.byte in let small : byte < 256 = omega (arith, c.ranges.byte.fits) in
    ap bits_read c.note.ensures ∙ byte_bits xs last ended u byte small c.if-self.false
    (sym c.ends_data.ensures ∙ c.if-ends_data.false)
    ∙ ap (λ z. bits_read z ++ bits (width_after last) byte) c.self.view_is
    ∙ ap (λ z. bits_read c.args.self.now ++ bits z byte) (sym c.width_after-count.ensures.width)

-- the byte follows FF and is below 0x80
pub returns-clause-value : goal.returns-clause-value
returns-clause-value c =
    let xs = c.self.inside.pushed.list in let last = c.self.inside.last in let ended = c.self.inside.ended in
    let u = c.self.invariant in let byte = c.args.byte in let small : byte < 256 = omega (arith, c.ranges.byte.fits) in
    subst (λ z. byte < 2 ^ z) (sym c.width_after-count.ensures.width)
    (byte_fits xs last ended u byte small c.if-self.false
    (sym c.ends_data.ensures ∙ c.if-ends_data.false))
