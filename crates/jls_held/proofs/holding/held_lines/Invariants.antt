use Rattle.std.proofs.Common.{map}
use Rattle.jls_held.specs.Mending.{file_of}
use Rattle.jls_held.specs.Chains.{AreChains}
use Rattle.jls_held.proofs.holding.held_lines.Given as goal

-- the chains are of the files
abbrev pub invariant-loop-file : goal.invariant-loop-file
invariant-loop-file l = AreChains (map file_of l.files) l.chains.items
