use Rattle.jls_salvage_run.proofs.WholeRuns.{picture_written}
use Rattle.jls_salvage_run.proofs.command_laws.surviving_lines_give_the_picture.Goals as goal

pub returns : goal.returns
returns c = picture_written c.texts_are_apart.ensures.apart c.bytes_decide.ensures c.parts_give_the_picture.ensures
