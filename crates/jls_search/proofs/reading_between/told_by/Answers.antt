use Rattle.std.proofs.Common.{◌<◌}
use Rattle.std.specs.List.{AllByRecursion}
use Rattle.jls_copy.specs.CopyReads.{CopyReadsUnder}
use Rattle.jls_marker.specs.declared.profile.Profile.TheVariants.{Wide}
use Rattle.jls_search.specs.OfGroups.{HasManyFaults}
use Rattle.jls_search.specs.ReadsBetween.{ReadsBetween}
use Rattle.jls_search.proofs.Records.{unread_without_frame}
use Rattle.jls_station.proofs.KnownCopies.{some_then}
use Rattle.jls_search.proofs.reading_between.told_by.Goals as goal

pub returns-in-Ok-clause-reads : goal.returns-in-Ok-clause-reads
returns-in-Ok-clause-reads c =
    λ t. some_then c.args.reader (λ file. CopyReadsUnder Wide file c.in-Ok.read) (λ file. ReadsBetween c.args.from c.args.to file)
    (c.told_between.ensures.reads t) c.in-Ok.ensures.read

pub returns-in-Ok-clause-unread : goal.returns-in-Ok-clause-unread
returns-in-Ok-clause-unread c = λ f. some_then c.args.reader (λ file. CopyReadsUnder Wide file c.in-Ok.read)
    (λ file. AllByRecursion (λ b. b < 256) file → ReadsBetween c.args.from c.args.to file → ⊥) (c.told_between.ensures.unread f)
    c.in-Ok.ensures.read

pub returns-in-Ok-clause-many : goal.returns-in-Ok-clause-many
returns-in-Ok-clause-many c = λ m. some_then c.args.reader (λ file. CopyReadsUnder Wide file c.in-Ok.read) HasManyFaults
    (c.told_between.ensures.many m) c.in-Ok.ensures.read

pub returns-in-Err-NoPicture-clause-unread : goal.returns-in-Err-NoPicture-clause-unread
returns-in-Err-NoPicture-clause-unread c = λ _. unread_without_frame c.args.from c.args.to c.args.reader c.in-Err-NoPicture.field-0
    c.in-Err-NoPicture.field-0-0 c.in-Err-NoPicture.field-0-1 (let e = c.in-Err-NoPicture.field-0-is in cc) c.in-Err-NoPicture.ensures.none
