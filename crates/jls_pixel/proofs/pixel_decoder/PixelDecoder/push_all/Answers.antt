use Rattle.std.proofs.Common.{ℕ, ◌+◌, List, take, get_or, ap, ◌∙◌}
use Rattle.std.proofs.lemmas.List.{take_more, take_all}
use Rattle.jls_pixel.proofs.PushedBytes.{after, after_none, after_more}
use Rattle.jls_pixel.proofs.pixel_decoder.PixelDecoder.push_all.Goals as goal

pub loop-byte-init : goal.loop-byte-init
loop-byte-init c = after_none c.args.self.now

pub loop-byte-preserved : goal.loop-byte-preserved
loop-byte-preserved c =
    let xs : List ℕ = c.args.more.now in let i : ℕ = c.loop-byte.byte-index in
    after_more c.args.self.now c.loop-byte.self c.push.new.self (take i xs) (take (i + 1) xs) (get_or xs i 0) c.loop-byte.invariant
    c.in_ok-push.ensures.ok (take_more xs i 0 c.loop-byte-test.true)

pub returns-clause-ok : goal.returns-clause-ok
returns-clause-ok c =
    c.loop-byte.invariant ∙ ap (after c.args.self.now) (take_all c.loop-byte.byte-index c.args.more.now c.loop-byte-test.false)
