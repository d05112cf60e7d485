use Rattle.std.proofs.Common.{rules}
use Rattle.jls_marker.specs.declared.profile.Profile.TheVariants.{Wide}
use Rattle.jls_copy.specs.CopyReads.{CopyGivesNoneUnder}
use Rattle.jls_copy.specs.declared.reader.CopyFault.TheVariants.{NoPicture}
use Rattle.jls_splice_run.proofs.Eois.{none_so}
use Rattle.jls_splice_run.proofs.completing.ends_at_eoi.Goals as goal

pub returns-in-Err-NoPicture : goal.returns-in-Err-NoPicture
returns-in-Err-NoPicture c =
    let gives : CopyGivesNoneUnder Wide c.args.file.now (NoPicture c.in-Err-NoPicture.field-0-0 c.in-Err-NoPicture.field-0-1) =
    search rules in (
      λ t. absurd cc,
      λ ends. absurd (none_so (c.copies_have_one_course_under.ensures Wide) c.args.file.now c.in-Err-NoPicture.field-0-0
          c.in-Err-NoPicture.field-0-1 gives ends),
    )
