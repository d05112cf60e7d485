-- What a run is to do, as the words ask for it.
use Rattle.std.specs.Prelude.{ℕ, List, map}
use Rattle.std.specs.Borrow.{Bor}
use Rattle.jls_cli.specs.SpliceAsking.{Asked, options_in}
use Rattle.jls_splice_run.specs.declared.task.Task.{Task}

-- the texts that slices of strings show
abbrev pub texts_of : List (Bor (List ℕ)) → List (List ℕ)
texts_of slices = map (λ s. s.now) slices

-- what the words asked for, as the code holds it
abbrev pub task_of : Task → Asked
task_of t = record {
  options = options_in t.options;
  out = t.out.now;
  copies = texts_of t.names.now;
  bad = texts_of t.bad.now;
  witnesses = texts_of t.witnesses.now;
}
