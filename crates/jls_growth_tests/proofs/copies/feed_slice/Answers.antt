use Rattle.std.proofs.Common.{◌≡◌, ℕ, ◌+◌, ◌-◌, ◌≤◌, ◌^◌, List, length, arith}
use Rattle.std.proofs.lemmas.Option.{IfSome_then}
use Rattle.jls_growth_tests.proofs.copies.feed_slice.Goals as goal

pub feed-requires : goal.feed-requires
feed-requires c =
    let fed = c.fed-fed.result in
    let more = length c.args.slice.now in
    IfSome_then _ {P = λ (bytes : List ℕ). fed ≡ length bytes} {Q = λ (bytes : List ℕ). length bytes + more ≤ 2 ^ 63 - 1}
    c.fed-fed.ensures (λ bytes e. omega (arith, e))
