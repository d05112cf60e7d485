use Rattle.std.proofs.Common.{◌≡◌, ◌∙◌, ℕ, List, Option, Some, ap, arith, subst}
use Rattle.std.specs.Prelude.{IfSome}
use Rattle.jls_values.proofs.Lists.{all_bytes}
use Rattle.jls_marker.specs.declared.profile.Profile.TheVariants.{Wide}
use Rattle.jls_copy.specs.CopyReads.{CopyReadsUnder}
use Rattle.jls_copy.specs.ReadCopy.{after}
use Rattle.jls_splice_run.proofs.reading_as.reads_as.Goals as goal

pub returns-in-Ok : goal.returns-in-Ok
returns-in-Ok c =
    λ reads.
    let file = c.args.file.now in
    let fed : c.feed.new.self ≡ Some file = c.in_ok-feed.ensures.ok ∙ ap (λ (o : Option (List ℕ)). after o file) c.new-reader.ensures in
    c.is_read_as.ensures reads file
    (subst (λ (o : Option (List ℕ)). IfSome o (λ bytes. CopyReadsUnder Wide bytes c.in-Ok.read)) fed c.in-Ok.ensures.read)
    (all_bytes file (λ i. omega (arith, c.type_inv.file i)))
