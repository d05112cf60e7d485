use Rattle.jls_file_laws.proofs.FileRead.{file_is_read}
use Rattle.jls_file_laws.proofs.laws.written_files_are_read.Goals as goal

pub returns : goal.returns
returns c = file_is_read
