use Rattle.std.proofs.Common.{◌≡◌, ◌++◌, replicate}
use Rattle.jls_held.proofs.mending.MendedCopy.put.Given as goal

-- the bytes are put, and the first marks of them
abbrev pub invariant-loop : goal.invariant-loop
invariant-loop l = record {
  bytes : l.self.bytes.items ≡ l.fn.self.bytes.items ++ l.bytes;
  held : l.self.held.items ≡ l.fn.self.held.items ++ replicate l.counter l.held;
}
