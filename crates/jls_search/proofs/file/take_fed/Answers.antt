use Rattle.std.proofs.Common.{subst}
use Rattle.std.specs.Prelude.{IfSome}
use Rattle.jls_copy.specs.CopyReads.{CopyGivesNoneUnder}
use Rattle.jls_marker.specs.declared.profile.Profile.TheVariants.{Wide}
use Rattle.jls_search.proofs.TakenFiles.{without_frame}
use Rattle.jls_search.proofs.file.take_fed.Goals as goal

pub returns-in-Err-NoPicture : goal.returns-in-Err-NoPicture
returns-in-Err-NoPicture c =
    let none = c.in-Err-NoPicture in
    without_frame c.args.source c.args.station.now c.args.reader none.field-0-0 none.field-0-1
    (subst (λ f. IfSome c.args.reader (λ bytes. CopyGivesNoneUnder Wide bytes f)) none.field-0-is none.ensures.none)
