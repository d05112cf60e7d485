use Rattle.std.proofs.Common.{◌≡◌, ◌++◌, drop, map}
use Rattle.jls_c.specs.Copies.{parted}
use Rattle.jls_c.proofs.copies.copies_in.Given as goal

-- the copies so far, and those of the other sizes
abbrev pub invariant-loop-size : goal.invariant-loop-size
invariant-loop-size l = map (λ copy. copy.now) l.copies.items ++ parted (drop l.size-index l.sizes) l.rest ≡ parted l.sizes l.bytes
