use Rattle.jls_run_laws.proofs.RunToRun.{give_the_picture, read_as_the_picture}
use Rattle.jls_run_laws.proofs.run_to_run.joins_and_writes_give_the_picture.Goals as goal

pub returns-clause-written : goal.returns-clause-written
returns-clause-written c =
    give_the_picture c.done_joins_ran.ensures c.done_writes_ran.ensures c.joined_copies_give_the_picture.ensures.damaged
    c.written_joins_read_as_the_picture.ensures.written

pub returns-clause-reads : goal.returns-clause-reads
returns-clause-reads c =
    read_as_the_picture c.done_joins_ran.ensures c.done_writes_ran.ensures c.written_joins_read_as_the_picture.ensures.reads
