use Rattle.std.proofs.Common.{◌≡◌, length, map}
use Rattle.jls_interval.specs.Encoding.{written_by, AreWritten}
use Rattle.jls_interval.proofs.Fronts.{EndBefore}
use Rattle.jls_interval.proofs.front.write_with_ends.Given as goal

-- the first j lines are written, and their ends noted
abbrev pub invariant-loop-j : goal.invariant-loop-j
invariant-loop-j l = record {
  parameters : l.encoder.coder.cells.parameters ≡ l.initial.encoder.coder.cells.parameters;
  are : AreWritten l.initial.encoder.coder.cells.parameters l.width l.components (map (λ line. line.now) l.lines) l.j
      (written_by l.encoder);
  count : length l.ends.items ≡ l.j;
  ends : EndBefore l.initial.encoder.coder.cells.parameters l.width l.components (map (λ line. line.now) l.lines) l.j l.ends.items;
}
