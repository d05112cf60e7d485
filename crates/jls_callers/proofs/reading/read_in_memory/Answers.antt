use Rattle.std.proofs.Common.{◌≡◌, ℕ, List, Option, Some, sym, ap, ◌∙◌, subst, arith}
use Rattle.std.specs.Prelude.{IfSome}
use Rattle.std.proofs.lemmas.Result.{err_from_is_err_and}
use Rattle.jls_values.proofs.Lists.{all_bytes}
use Rattle.jls_partial.specs.Partial.{PartialPicture, with_source}
use Rattle.jls_copy.specs.CopyReads.{CopyReads, CopyGivesNone}
use Rattle.jls_copy.specs.ReadCopy.{after}
use Rattle.jls_station.specs.Given.{marked}
use Rattle.jls_headline.specs.Collected.{reader_finished}
use Rattle.jls_callers.proofs.reading.read_in_memory.Goals as goal

pub returns-in_err-read-clause-none : goal.returns-in_err-read-clause-none
returns-in_err-read-clause-none c =
    let bytes = c.args.bytes.now in
    let p = err_from_is_err_and c.from_residual.result c.from_residual.ensures.1 in
    let fed : c.feed.new.self ≡ Some bytes = c.in-Ok.ensures.ok ∙ ap (λ (o : Option (List ℕ)). after o bytes) c.new-reader.ensures in
    rw (p.1, p.2) (subst (λ (o : Option (List ℕ)). IfSome o (λ b. CopyGivesNone b c.in_err-read.field-0.0)) fed c.in_err-read.ensures.none)

pub returns-in-None-clause-read : goal.returns-in-None-clause-read
returns-in-None-clause-read c = λ known.
    let bytes = c.args.bytes.now in
    let read = c.in_ok-read.read in
    let fed : c.feed.new.self ≡ Some bytes = c.in-Ok.ensures.ok ∙ ap (λ (o : Option (List ℕ)). after o bytes) c.new-reader.ensures in
    reader_finished c.args.source bytes read c.into_partial-partial.result (all_bytes bytes (λ i. omega (arith, c.type_inv.bytes i)))
    (subst (λ (o : Option (List ℕ)). IfSome o (λ b. CopyReads b read)) fed c.in_ok-read.ensures.read)
    (c.into_partial-partial.ensures ∙ sym (ap (λ (s : Option ℕ). marked s read.partial) c.in-None.is))

pub returns-in-Ok-mark-clause-read : goal.returns-in-Ok-mark-clause-read
returns-in-Ok-mark-clause-read c = λ known.
    let bytes = c.args.bytes.now in
    let read = c.in_ok-read.read in
    let fed : c.feed.new.self ≡ Some bytes = c.in-Ok.ensures.ok ∙ ap (λ (o : Option (List ℕ)). after o bytes) c.new-reader.ensures in
    reader_finished c.args.source bytes read c.mark.new.self (all_bytes bytes (λ i. omega (arith, c.type_inv.bytes i)))
    (subst (λ (o : Option (List ℕ)). IfSome o (λ b. CopyReads b read)) fed c.in_ok-read.ensures.read)
    (c.in-Ok-mark.ensures.marked ∙ ap (λ (p : PartialPicture). with_source p c.in-Some.number) c.into_partial-partial.ensures
    ∙ sym (ap (λ (s : Option ℕ). marked s read.partial) c.in-Some.is))
