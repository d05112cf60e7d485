use Rattle.std.proofs.Common.{◌≡◌, [], ◌∷◌, ◌++◌, true}
use Rattle.jls_partial.specs.Partial.{has_same_shape, union}
use Rattle.jls_headline.specs.TookFiles.{TookFiles, file_taken, file_refused, file_ran_out}
use Rattle.jls_callers.proofs.Answered.{ok_both}
use Rattle.jls_callers.proofs.files.take_read.Goals as goal

pub returns-clause-taken : goal.returns-clause-taken
returns-clause-taken c = λ profile files over file took read.
    let old = c.args.station.now in
    let new = c.take.new.self in
    let p = c.args.partial.now in
    ok_both c.take.result (new ≡ union old p) (has_same_shape old p ≡ true) (TookFiles profile new (files ++ file ∷ []) over)
    c.take.ensures.ok c.take.ensures.ok_same_shape (λ is same. file_taken old new p files over file took read same is)

pub returns-clause-refused : goal.returns-clause-refused
returns-clause-refused c = λ profile files over took e.
    file_refused c.args.station.now c.take.new.self files over took (c.take.ensures.unchanged e)

pub returns-clause-ran_out : goal.returns-clause-ran_out
returns-clause-ran_out c = λ profile files over file took read e.
    file_ran_out c.args.station.now c.take.new.self c.args.partial.now files over file took read (c.take.ensures.out_of_memory e)
