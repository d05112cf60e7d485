use Rattle.std.proofs.Common.{◌≡◌, [], ◌∷◌, ◌++◌, refl, subst}
use Rattle.std.specs.Prelude.{IfSome}
use Rattle.std.proofs.lemmas.Option.{IfSome_then}
use Rattle.jls_copy.specs.CopyReads.{CopyGivesNoneUnder}
use Rattle.jls_marker.specs.declared.profile.Profile.TheVariants.{Wide}
use Rattle.jls_search.specs.declared.seen.Seen.TheVariants.{NoFrame}
use Rattle.jls_search.proofs.ReadFiles.{with_frame, without_frame}
use Rattle.jls_search.proofs.reading_files.read_file.Goals as goal

pub returns-in_ok-take_read-in-Ok : goal.returns-in_ok-take_read-in-Ok
returns-in_ok-take_read-in-Ok c =
    IfSome_then c.args.reader c.in-Ok.ensures.read (λ file reads low.
    with_frame c.args.source file c.see.result (c.see.ensures file low reads) c.args.before _ c.in_ok-push-in-Ok.ensures.items
    c.station_for-station.result c.take_read.new.station (c.station_for-station.ensures c.args.source)
    (c.in_ok-take_read-in-Ok.ensures file low reads) refl)

pub returns-in_ok-push-in-Err-NoPicture : goal.returns-in_ok-push-in-Err-NoPicture
returns-in_ok-push-in-Err-NoPicture c =
    let none = c.in-Err-NoPicture in
    let s = NoFrame none.fault none.offset in
    let pushed : c.push-in-Err-NoPicture.new.self.items ≡ c.args.before.seen.items ++ s ∷ [] =
    cc (c.in_ok-push-in-Err-NoPicture.ensures.items, none.fault-is, none.offset-is) in
    IfSome_then c.args.reader
    (subst (λ f. IfSome c.args.reader (λ bytes. CopyGivesNoneUnder Wide bytes f)) none.field-0-is none.ensures.none)
    (λ file gives low. without_frame c.args.source file s gives c.args.before _ pushed (gives.0, gives.1, gives.2) refl)
