use Rattle.std.proofs.Common.{◌≡◌, map}
use Rattle.jls_interval.specs.Encoding.{written_by, AreWritten}
use Rattle.jls_interval.proofs.encode.write_lines.Given as goal

-- the first j lines are written
abbrev pub invariant-loop-j : goal.invariant-loop-j
invariant-loop-j l = record {
  parameters : l.encoder.coder.cells.parameters ≡ l.initial.encoder.coder.cells.parameters;
  are : AreWritten l.initial.encoder.coder.cells.parameters l.width l.components (map (λ line. line.now) l.lines) l.j
      (written_by l.encoder);
}
