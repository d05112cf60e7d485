use Rattle.std.proofs.Common.{◌≡◌, ◌++◌, length, drop}
use Rattle.jls_held.specs.Edits.{AreEdits, edited}
use Rattle.jls_held.specs.Mending.{edits_of}
use Rattle.jls_held.proofs.mending.mended_copy.Given as goal

-- what is put, with what the edits left make, is the whole
abbrev pub invariant-loop-edit : goal.invariant-loop-edit
invariant-loop-edit l = record {
  edits : AreEdits l.at (length l.copy) (edits_of (drop l.edit-index l.edits));
  bytes : l.mended.bytes.items ++ (edited l.at (drop l.at l.copy) (edits_of (drop l.edit-index l.edits))).bytes
      ≡ (edited 0 l.copy (edits_of l.edits)).bytes;
  held : l.mended.held.items ++ (edited l.at (drop l.at l.copy) (edits_of (drop l.edit-index l.edits))).held
      ≡ (edited 0 l.copy (edits_of l.edits)).held;
}
