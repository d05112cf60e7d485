use Rattle.std.proofs.Common.{◌≡◌, ℕ, List, ap, ◌∙◌, subst}
use Rattle.std.specs.Prelude.{IfSome}
use Rattle.jls_partial.specs.Partial.{PartialPicture}
use Rattle.jls_copy.specs.CopyReads.{CopyReadsUnder}
use Rattle.jls_copy.specs.ReadCopy.{ReadCopy}
use Rattle.jls_marker.specs.declared.profile.Profile.TheVariants.{Wide}
use Rattle.jls_search.specs.Choices.{prefix_of}
use Rattle.jls_search.specs.Files.{files_taken}
use Rattle.jls_search.proofs.CutFiles.{cut_taken}
use Rattle.jls_search.proofs.cut.take_cut.Goals as goal

pub read_cut-requires-clause-few : goal.read_cut-requires-clause-few
read_cut-requires-clause-few c = c.requires.short c.args.cut.now c.requires.cut

pub returns-clause-some : goal.returns-clause-some
returns-clause-some c =
    let cut : List ℕ = prefix_of c.args.files.now.parts.now c.args.cut.now in
    let read : ReadCopy = c.in-Some.read in
    let reads : CopyReadsUnder Wide cut read =
    subst (λ found. IfSome found (λ (r : ReadCopy). CopyReadsUnder Wide cut r)) c.in-Some.is c.in_ok-read.ensures.some in
    let shape : c.to_owned-shape.result ≡ read.partial.shape =
    c.to_owned-shape.ensures ∙ c.shape.ensures.value ∙ ap (λ (p : PartialPicture). p.shape) c.partial.ensures in
    cut_taken c.args.source (files_taken c.args.files.now) cut read c.to_owned-shape.result c.in_ok-station.station c.take_read.new.station
    reads shape c.in_ok-station.ensures.readings (c.in_ok-take_read.ensures cut c.in_ok-read.ensures.bytes reads)
