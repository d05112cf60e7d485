use Rattle.std.proofs.Common.{◌≡◌, ◌++◌, drop, true}
use Rattle.std.specs.Prelude.{codes}
use Rattle.jls_splice_run.specs.Lines.{in_prefix}
use Rattle.jls_splice_run.proofs.noting.put_first.Given as goal

abbrev pub invariant-loop-byte : goal.invariant-loop-byte
invariant-loop-byte l =
    l.out.items ++ in_prefix (codes "jls-splice: ") l.begins (drop l.byte-index l.text) ≡ l.fn.out.items
    ++ in_prefix (codes "jls-splice: ") true l.text
