use Rattle.std.proofs.Common.{ℕ, List, Option, Some, sym, ap, ◌∙◌, subst, arith}
use Rattle.std.specs.Prelude.{IfSome}
use Rattle.std.proofs.lemmas.Result.{err_from_is_err_and}
use Rattle.jls_values.proofs.Lists.{all_bytes}
use Rattle.jls_partial.specs.Partial.{PartialPicture, with_source}
use Rattle.jls_copy.specs.CopyReads.{CopyReadsUnder, CopyGivesNoneUnder}
use Rattle.jls_copy.specs.ReadCopy.{ReadCopy, ReaderBytes, after}
use Rattle.jls_copy.specs.declared.reader.CopyFault.{CopyFault}
use Rattle.jls_station.specs.Given.{marked}
use Rattle.jls_callers.proofs.files.read_under.Goals as goal

abbrev fed_with : List ℕ → ReaderBytes → ReaderBytes
fed_with bytes reader = record reader { bytes = after reader.bytes bytes }

abbrev Reads : ReadCopy → ReaderBytes → Type 0
Reads read reader = IfSome reader.bytes (λ bytes. CopyReadsUnder reader.profile bytes read)

abbrev GivesNone : CopyFault → ReaderBytes → Type 0
GivesNone fault reader = IfSome reader.bytes (λ bytes. CopyGivesNoneUnder reader.profile bytes fault)

pub returns-in_err-read-clause-none : goal.returns-in_err-read-clause-none
returns-in_err-read-clause-none c =
    let p = err_from_is_err_and c.from_residual.result c.from_residual.ensures.1 in
    rw (p.1, p.2) (subst (GivesNone c.in_err-read.field-0.0) (c.in-Ok.ensures.ok ∙ ap (fed_with c.args.bytes.now) c.new-reader.ensures)
    c.in_err-read.ensures.none)

pub returns-in-None-clause-read : goal.returns-in-None-clause-read
returns-in-None-clause-read c =
    let bytes = c.args.bytes.now in
    let read = c.in_ok-read.read in
    record {
      are_bytes = all_bytes bytes (λ i. omega (arith, c.type_inv.bytes i));
      read = read;
      reads = subst (Reads read) (c.in-Ok.ensures.ok ∙ ap (fed_with bytes) c.new-reader.ensures) c.in_ok-read.ensures.read;
      partial_is = c.into_partial-partial.ensures ∙ sym (ap (λ (s : Option ℕ). marked s read.partial) c.in-None.is);
    }

pub returns-in-Ok-mark-clause-read : goal.returns-in-Ok-mark-clause-read
returns-in-Ok-mark-clause-read c =
    let bytes = c.args.bytes.now in
    let read = c.in_ok-read.read in
    record {
      are_bytes = all_bytes bytes (λ i. omega (arith, c.type_inv.bytes i));
      read = read;
      reads = subst (Reads read) (c.in-Ok.ensures.ok ∙ ap (fed_with bytes) c.new-reader.ensures) c.in_ok-read.ensures.read;
      partial_is = c.in-Ok-mark.ensures.marked ∙ ap (λ (p : PartialPicture). with_source p c.in-Some.number) c.into_partial-partial.ensures
          ∙ sym (ap (λ (s : Option ℕ). marked s read.partial) c.in-Some.is);
    }
