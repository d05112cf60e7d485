use Rattle.std.proofs.Common.{◌≡◌, ℕ, false, List, [], ◌∷◌, ◌++◌, Vec, Global, take, get_or, sym, ap, ◌∙◌, subst, append_assoc, arith}
use Rattle.std.specs.Prelude.{◌↔◌, IsTrue}
use Rattle.jls_search.specs.Choices.{IsPath, prefix_of}
use Rattle.jls_search.specs.Faultless.{IsFaultless}
use Rattle.jls_search.specs.Search.{files_of, lists_of}
use Rattle.jls_search.proofs.Members.{splices_one_more, whole_at}
use Rattle.jls_search.proofs.Verdicts.{on_splice, one_a_splice}
use Rattle.jls_splice_run.specs.Listing.{AreNamed, named_files}
use Rattle.jls_splice_run.proofs.listing.name_splices.Goals as goal

pub file_of-requires : goal.file_of-requires
file_of-requires c =
    let files = c.args.files.now in
    let ps = files.parts.now in
    let v = c.index-files-place.result in
    let w = whole_at ps files.splices.now c.loop-place.place v v c.requires.whole c.loop-place-test.true c.index-files-place.is in
    subst (IsPath ps) (sym (c.deref.ensures.value ∙ ap (λ (x : Vec ℕ Global). x.items) (sym c.index-files-place.is))) w.0

pub bounds-verdicts-place : goal.bounds-verdicts-place
bounds-verdicts-place c =
    let files = c.args.files.now in
    let count = one_a_splice files.parts.now files.splices.now c.args.verdicts.now c.requires.verdicts in
    omega (arith, count, c.loop-place-test.true)

pub name_file-requires : goal.name_file-requires
name_file-requires c =
    let files = c.args.files.now in
    let ps = files.parts.now in
    let v = c.index-files-place.result in
    let bytes : List ℕ = c.deref-in-loop-place.result.now in
    let made : bytes ≡ prefix_of ps v.items = c.deref-in-loop-place.ensures.value ∙ c.in_ok-file.ensures
    ∙ ap (prefix_of ps) (c.deref.ensures.value ∙ ap (λ (x : Vec ℕ Global). x.items) (sym c.index-files-place.is)) in
    subst (λ (file : List ℕ). IsTrue (get_or c.args.verdicts.now c.loop-place.place false) ↔ IsFaultless file) (sym made)
    (on_splice ps files.splices.now c.args.verdicts.now c.loop-place.place v false c.requires.verdicts c.loop-place-test.true
    c.index-files-place.is)

pub loop-place-preserved : goal.loop-place-preserved
loop-place-preserved c = λ files named.
    let ps = c.args.files.now.parts.now in
    let vs = c.args.files.now.splices.now in
    let i = c.loop-place.place in
    let v = c.index-files-place.result in
    let bytes : List ℕ = c.deref-in-loop-place.result.now in
    let before = files_of ps (lists_of (take i vs)) in
    let made : bytes ≡ prefix_of ps v.items = c.deref-in-loop-place.ensures.value ∙ c.in_ok-file.ensures
    ∙ ap (prefix_of ps) (c.deref.ensures.value ∙ ap (λ (x : Vec ℕ Global). x.items) (sym c.index-files-place.is)) in
    subst (λ (xs : List (List ℕ)). AreNamed c.args.naming.most c.args.naming.prefix.now xs (named_files c.name_file.new.named.items))
    (append_assoc files before (bytes ∷ []) ∙ ap (λ (z : List ℕ). files ++ (before ++ z ∷ [])) made
    ∙ ap (λ (z : List (List ℕ)). files ++ z) (sym (splices_one_more ps vs i v c.loop-place-test.true c.index-files-place.is)))
    (c.in_ok-name_file.ensures (files ++ before) (c.loop-place.invariant files named))
