use Rattle.std.proofs.Common.{◌≡◌, ℕ, ◌+◌, ◌-◌, ◌*◌, ◌<◌, true, List, ◌++◌, take, drop, get_or, refl, sym, ap, ◌∙◌, arith}
use Rattle.jls_copy.specs.ReaderState.{Step, with_segment}
use Rattle.jls_copy.specs.declared.place.CopyPosition.TheVariants.{AtMarker}
use Rattle.jls_copy.proofs.Idle.{fill_at_marker}
use Rattle.jls_copy.proofs.MachineTakes.{takes_fill, takes_segment}
use Rattle.jls_copy.proofs.machine.Machine.take_at_marker.Goals as goal

-- a whole segment stands at the start, and is taken at once
pub returns-in-Some : goal.returns-in-Some
returns-in-Some c =
    let old = c.args.self.now in let new = c.take_segment.new.self in let took = c.take_segment.ensures in
    let bytes = c.args.bytes.now in let size = c.in-Some.size in let end = c.from-end.result + 2 in
    let ends : end ≡ size + 2 = omega (arith, c.from-end.ensures) in
    let high : get_or bytes 2 0 < 256 = omega (arith, c.type_inv.bytes 2) in
    let low : get_or bytes 3 0 < 256 = omega (arith, c.type_inv.bytes 3) in
    let sized : 256 * get_or bytes 2 0 + get_or bytes 3 0 ≡ size = c.in-Some.ensures.size_is in
    let cut : end - 4 ≡ size - 2 = omega (arith, ends) in
    let payload_is : new.payload.items ≡ take (size - 2) (drop 4 bytes) =
    took.payload ∙ c.in_ok-extend_from_slice.ensures.items ∙ ap (λ (ys : List ℕ). ys ++ take (end - 4) (drop 4 bytes)) c.clear.ensures.items
    ∙ ap (λ (n : ℕ). take n (drop 4 bytes)) cut in
    let step : List ℕ → Step = λ ys. with_segment (old.count + end - 1) old.headers ys old.count (get_or bytes 1 0) in
    takes_segment old new bytes c.args.fill size end c.requires.place c.in-Some.ensures ends (omega (arith, high, low, sized)) payload_is
    (took.place ∙ ap (λ (ys : List ℕ). (step ys).place) (sym took.payload))
    (took.headers ∙ ap (λ (ys : List ℕ). (step ys).headers) (sym took.payload))
    took.findings took.count (took.sound new.payload.items)

-- fill bytes stand at the start, and are taken at once
pub returns-then-count-gt0 : goal.returns-then-count-gt0
returns-then-count-gt0 c =
    takes_fill c.args.self.now c.args.bytes.now c.fill_len-count.result (AtMarker true) (c.requires.place ∙ ap AtMarker c.if-fill.true)
    (omega (arith, c.if-count-gt0.true)) c.fill_len-count.ensures.within
    (fill_at_marker _ _ c.fill_len-count.ensures.within c.fill_len-count.ensures.fill) refl tt c.requires.header_bytes
