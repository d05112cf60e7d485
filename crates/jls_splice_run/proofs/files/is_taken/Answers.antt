use Rattle.std.proofs.Common.{◌≡◌, ℕ, true, List, Vec, Global, sym, ap, ◌∙◌, subst}
use Rattle.std.specs.Str.{bytes_eq}
use Rattle.jls_diff.specs.PartsOf.{bytes_of}
use Rattle.jls_search.specs.Choices.{IsPath, prefix_of}
use Rattle.jls_search.specs.Search.{files_of, lists_of}
use Rattle.jls_search.proofs.Members.{whole_at}
use Rattle.jls_splice_run.proofs.NewFiles.{is_copy_right, is_made_at}
use Rattle.jls_splice_run.proofs.files.is_taken.Goals as goal

pub file_of-requires : goal.file_of-requires
file_of-requires c =
    let files = c.args.files.now in
    let ps = files.parts.now in
    let v = c.index-files-place.result in
    let w = whole_at ps files.splices.now c.loop-place.place v v c.requires c.loop-place-test.true c.index-files-place.is in
    subst (IsPath ps) (sym (c.deref.ensures.value ∙ ap (λ (x : Vec ℕ Global). x.items) (sym c.index-files-place.is))) w.0

pub returns-then-eq : goal.returns-then-eq
returns-then-eq c =
    let files = c.args.files.now in
    let file = c.args.file.now in
    let ps = files.parts.now in
    let v = c.index-files-place.result in
    let bytes : List ℕ = c.deref-in-loop-place.result.now in
    let made : bytes ≡ prefix_of ps v.items = c.deref-in-loop-place.ensures.value ∙ c.in_ok-made.ensures
    ∙ ap (prefix_of ps) (c.deref.ensures.value ∙ ap (λ (x : Vec ℕ Global). x.items) (sym c.index-files-place.is)) in
    let same : bytes_eq (prefix_of ps v.items) file ≡ true = sym (c.if-eq.ensures ∙ ap (λ (z : List ℕ). bytes_eq z file) made) in
    sym (is_copy_right (bytes_of files.copies.now) (files_of ps (lists_of files.splices.now)) file
    (is_made_at ps files.splices.now file c.loop-place.place v c.loop-place-test.true c.index-files-place.is same))
