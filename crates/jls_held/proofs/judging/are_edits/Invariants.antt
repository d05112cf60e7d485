use Rattle.std.proofs.Common.{◌≤◌, drop}
use Rattle.jls_held.specs.Edits.{AreEdits}
use Rattle.jls_held.specs.Mending.{edits_of}
use Rattle.jls_held.proofs.judging.are_edits.Given as goal

-- the edits so far are in order, so the answer is that of the rest
abbrev pub invariant-loop-edit : goal.invariant-loop-edit
invariant-loop-edit l = record {
  inside : l.at ≤ l.length;
  enough : AreEdits l.at l.length (edits_of (drop l.edit-index l.edits)) → AreEdits 0 l.length (edits_of l.edits);
  needed : AreEdits 0 l.length (edits_of l.edits) → AreEdits l.at l.length (edits_of (drop l.edit-index l.edits));
}
