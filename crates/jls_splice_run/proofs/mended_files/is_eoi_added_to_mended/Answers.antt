use Rattle.std.proofs.Common.{◌≡◌, ℕ, List, Vec, Global, ap, ◌∙◌, subst}
use Rattle.std.specs.Prelude.{IfOk, option_map}
use Rattle.std.proofs.lemmas.List.{append-nil}
use Rattle.jls_diff.specs.PartsOf.{bytes_of}
use Rattle.jls_splice_run.specs.Files.{is_eoi_added}
use Rattle.jls_splice_run.specs.Listing.{named_files}
use Rattle.jls_splice_run.proofs.mended_files.is_eoi_added_to_mended.Goals as goal

pub returns : goal.returns
returns c =
    subst (λ (others : List (List ℕ)). IfOk c.is_eoi_added.result (λ is. is ≡ is_eoi_added others
    (option_map (λ (f : Vec ℕ Global). f.items) c.args.single.now) (named_files c.args.numbered.now)))
    (append-nil (bytes_of c.deref.result.now) ∙ ap bytes_of c.deref.ensures.value ∙ c.in_ok-slices.ensures) c.is_eoi_added.ensures
