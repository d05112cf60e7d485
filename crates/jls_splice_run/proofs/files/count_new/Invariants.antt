use Rattle.std.proofs.Common.{◌≡◌, ◌≤◌, take}
use Rattle.jls_diff.specs.PartsOf.{bytes_of}
use Rattle.jls_search.specs.Search.{files_of, lists_of}
use Rattle.jls_splice_run.specs.Files as spec
use Rattle.jls_splice_run.proofs.files.count_new.Given as goal

abbrev pub invariant-loop-choices : goal.invariant-loop-choices
invariant-loop-choices l = record {
  counted : l.count ≡ spec.count_new (bytes_of l.copies) (files_of l.parts (lists_of (take l.choices-index l.splices)));
  few : l.count ≤ l.choices-index;
}
