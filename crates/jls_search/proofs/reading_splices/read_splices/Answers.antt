use Rattle.std.proofs.Common.{ℕ, List, [], ◌∷◌, ◌++◌, Vec, Global, take, sym, ap, ◌∙◌, subst, append_assoc, arith, Option}
use Rattle.std.proofs.lemmas.List.{append-nil, take_all}
use Rattle.std.specs.Prelude.{IfSome}
use Rattle.std.specs.List.{AllByRecursion}
use Rattle.jls_marker.specs.SegmentLaws.{AreBytes}
use Rattle.jls_diff.specs.Parts.{Part}
use Rattle.jls_search.specs.Choices.{IsPath, prefix_of}
use Rattle.jls_search.specs.Search.{IsKeptReader, files_of, lists_of}
use Rattle.jls_search.specs.Reading.{AreRead, ReadsMore}
use Rattle.jls_search.proofs.Members.{splices_one_more, whole_at}
use Rattle.jls_search.proofs.reading_splices.read_splices.Goals as goal

pub read_on-requires-clause-path : goal.read_on-requires-clause-path
read_on-requires-clause-path c =
    let v = c.index-files-number.result in
    let w = whole_at c.args.files.now.parts.now c.args.files.now.splices.now c.loop-number.number v v c.requires.whole
    c.loop-number-test.true c.index-files-number.is in
    subst (IsPath c.args.files.now.parts.now)
    (sym (c.deref-path.ensures.value ∙ ap (λ (x : Vec ℕ Global). x.items) (sym c.index-files-number.is))) w.0

pub read_on-requires-clause-few : goal.read_on-requires-clause-few
read_on-requires-clause-few c = c.requires.short c.deref-path.result.now (read_on-requires-clause-path c)

pub read_on-requires-clause-kept : goal.read_on-requires-clause-kept
read_on-requires-clause-kept c = c.loop-number.invariant.kept

pub makes_bytes-requires : goal.makes_bytes-requires
makes_bytes-requires c =
    let v = c.index-files-number.result in
    let w = whole_at c.args.files.now.parts.now c.args.files.now.splices.now c.loop-number.number v v c.requires.whole
    c.loop-number-test.true c.index-files-number.is in
    record {
      path = subst (IsPath c.args.files.now.parts.now)
          (sym (c.deref-path.ensures.value ∙ ap (λ (x : Vec ℕ Global). x.items) (sym c.index-files-number.is))) w.0;
    }

pub loop-number-init : goal.loop-number-init
loop-number-init c = record {
  read = λ files read. subst (λ (all : List (List ℕ)). AreRead c.args.source all c.args.before) (sym (append-nil files)) read;
  kept = c.in_ok-kept.ensures c.args.files.now.parts.now c.requires.reader;
}

pub loop-number-preserved : goal.loop-number-preserved
loop-number-preserved c =
    let ps : List Part = c.args.files.now.parts.now in
    let vs = c.args.files.now.splices.now in
    let n = c.loop-number.number in
    let v = c.index-files-number.result in
    let path = c.deref-path.result.now in
    let some = files_of ps (lists_of (take n vs)) in
    let one : ReadsMore c.args.source (prefix_of ps path ∷ []) c.loop-number.read c.in_ok-read.read =
    subst (λ (r : Option (List ℕ)). IfSome r
    (λ file. AreBytes file → ReadsMore c.args.source (file ∷ []) c.loop-number.read c.in_ok-read.read))
    c.in_ok-reader.ensures.reader c.in_ok-read.ensures c.makes_bytes.ensures in
    record {
      read = λ files read.
          subst (λ (all : List (List ℕ)). AreRead c.args.source all c.in_ok-read.read)
          (append_assoc files some (prefix_of ps path ∷ [])
          ∙ ap (λ (z : List ℕ). files ++ (some ++ prefix_of ps z ∷ []))
          (c.deref-path.ensures.value ∙ ap (λ (x : Vec ℕ Global). x.items) (sym c.index-files-number.is))
          ∙ ap (λ (z : List (List ℕ)). files ++ z) (sym (splices_one_more ps vs n v c.loop-number-test.true c.index-files-number.is)))
          (one (files ++ some) (c.loop-number.invariant.read files read));
      kept = c.in_ok-reader.ensures.kept;
    }

pub returns : goal.returns
returns c =
    subst (λ (vs : List (Vec ℕ Global)). ReadsMore c.args.source (files_of c.args.files.now.parts.now (lists_of vs)) c.args.before
    c.loop-number.read)
    (take_all c.loop-number.number c.args.files.now.splices.now (omega (arith, c.loop-number-test.false))) c.loop-number.invariant.read
