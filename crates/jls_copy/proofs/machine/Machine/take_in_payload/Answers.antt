use Rattle.std.proofs.Common.{◌≡◌, ℕ, ◌+◌, ◌-◌, ◌<◌, ◌^◌, List, length, refl, sym, ap, ◌∙◌, arith}
use Rattle.jls_copy.specs.ReaderState.{with_segment}
use Rattle.jls_copy.proofs.MachineTakes.{takes_part, takes_rest}
use Rattle.jls_copy.proofs.machine.Machine.take_in_payload.Goals as goal

-- the bytes do not complete the payload
pub returns-then-count-lacking : goal.returns-then-count-lacking
returns-then-count-lacking c =
    let small : c.args.size < 2 ^ 16 = omega (arith, c.ranges.size.fits) in
    let wide = c.from.ensures in
    let held : c.len.result ≡ length c.args.self.now.payload.items = (let e = c.len.ensures in omega arith) in
    let least = c.min-count.ensures in
    takes_part c.args.self.now _ c.args.bytes.now c.min-count.result c.args.marker c.args.code c.args.size c.requires.place refl
    (omega arith) (omega arith)
    c.in_ok-extend_from_slice.ensures.items (omega (arith, c.if-count-lacking.true)) small refl refl refl

-- the bytes complete the payload, and the segment is taken
pub returns : goal.returns
returns c =
    let small : c.args.size < 2 ^ 16 = omega (arith, c.ranges.size.fits) in
    let wide = c.from.ensures in
    let held : c.len.result ≡ length c.args.self.now.payload.items = (let e = c.len.ensures in omega arith) in
    let least = c.min-count.ensures in
    takes_rest c.args.self.now c.take_segment.new.self c.args.bytes.now c.min-count.result c.args.marker c.args.code c.args.size
    c.requires.place (omega arith) (omega arith)
    (c.take_segment.ensures.payload ∙ c.in_ok-extend_from_slice.ensures.items) (omega (arith, c.if-count-lacking.false)) small
    (c.take_segment.ensures.place
    ∙ ap (λ (ys : List ℕ). (with_segment (c.args.self.now.count + c.min-count.result - 1) c.args.self.now.headers ys c.args.marker
    c.args.code).place) (sym c.take_segment.ensures.payload))
    (c.take_segment.ensures.headers
    ∙ ap (λ (ys : List ℕ). (with_segment (c.args.self.now.count + c.min-count.result - 1) c.args.self.now.headers ys c.args.marker
    c.args.code).headers) (sym c.take_segment.ensures.payload))
    c.take_segment.ensures.findings c.take_segment.ensures.count (c.take_segment.ensures.sound c.take_segment.new.self.payload.items)
