use Rattle.jls_file_laws.proofs.FileRead.{file_law}
use Rattle.jls_file_laws.proofs.laws.written_files_read_back.Goals as goal

pub returns : goal.returns
returns c = file_law
