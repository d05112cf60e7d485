use Rattle.jls_marker.specs.declared.profile.Profile.TheVariants.{Wide}
use Rattle.jls_splice_run.proofs.Eois.{completed_once}
use Rattle.jls_splice_laws.proofs.CompletedFiles.{completed_files_read_alike}
use Rattle.jls_splice_laws.proofs.completed.completed_files_read_alike.Goals as goal

pub returns-clause-alike : goal.returns-clause-alike
returns-clause-alike c =
    completed_files_read_alike (c.copies_have_one_course_under.ensures Wide) (c.prefixes_keep_readings_under.ensures Wide)

pub returns-clause-once : goal.returns-clause-once
returns-clause-once c = completed_once
