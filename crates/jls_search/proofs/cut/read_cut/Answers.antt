use Rattle.std.proofs.Common.{subst}
use Rattle.std.specs.Prelude.{IfSome}
use Rattle.std.proofs.lemmas.Option.{IfSome_then}
use Rattle.jls_copy.specs.CopyReads.{CopyGivesNoneUnder, CopyReadsUnder}
use Rattle.jls_marker.specs.declared.profile.Profile.TheVariants.{Wide}
use Rattle.jls_search.specs.Choices.{prefix_of}
use Rattle.jls_search.specs.Shapes.{HasNoFrame}
use Rattle.jls_search.proofs.Prefixes.{fed_first, of_some}
use Rattle.jls_search.proofs.cut.read_cut.Goals as goal

pub returns-in-Ok-clause-some : goal.returns-in-Ok-clause-some
returns-in-Ok-clause-some c =
    let prefix = prefix_of c.args.parts.now c.args.cut.now in
    let fed = c.feed_prefix.new.reader in
    of_some fed prefix (λ bytes. CopyReadsUnder Wide bytes c.in-Ok.read)
    (fed_first fed c.new-reader.result prefix c.new-reader.ensures c.in_ok-feed_prefix.ensures.fed) c.in-Ok.ensures.read

pub returns-in-Err-NoPicture-clause-none : goal.returns-in-Err-NoPicture-clause-none
returns-in-Err-NoPicture-clause-none c =
    let none = c.in-Err-NoPicture in
    let prefix = prefix_of c.args.parts.now c.args.cut.now in
    let fed = c.feed_prefix.new.reader in
    of_some fed prefix (λ bytes. HasNoFrame bytes)
    (fed_first fed c.new-reader.result prefix c.new-reader.ensures c.in_ok-feed_prefix.ensures.fed)
    (IfSome_then fed (subst (λ f. IfSome fed (λ bytes. CopyGivesNoneUnder Wide bytes f)) none.field-0-is none.ensures.none)
    (λ bytes gives. (gives.0, gives.1, gives.2)))
