use Rattle.std.proofs.Common.{◌≡◌, ℕ, List, [], ◌∷◌, ◌++◌, Option, None, inr, sym, subst, ap, ◌∙◌, map, rules}
use Rattle.std.specs.Prelude.{IfNone, IfSome}
use Rattle.jls_partial.specs.Partial.{PartialPicture, nothing_known}
use Rattle.jls_diff.specs.PartsOf.{bytes_of}
use Rattle.jls_search.specs.Choices.{prefix_of}
use Rattle.jls_search.specs.Files.{AreVerdicts, files_taken, splices_found}
use Rattle.jls_search.specs.Seen.{AreSeen, verdict_of}
use Rattle.jls_search.specs.Shapes.{HasNoFrame, HasFrameOfShape}
use Rattle.jls_search.specs.Stations.{TakesFiles}
use Rattle.jls_search.proofs.CutFiles.{faultless_seen}
use Rattle.jls_search.proofs.SeenFiles.{none_faultless}
use Rattle.jls_search.proofs.Verdicts.{verdicts_seen}
use Rattle.jls_search.proofs.cut.settle_with_cut.Goals as goal

pub returns-in-Some-clause-nothing : goal.returns-in-Some-clause-nothing
returns-in-Some-clause-nothing c =
    let files = c.args.files.now in
    faultless_seen (bytes_of files.copies.now) (splices_found files) (prefix_of files.parts.now c.args.cut.items) c.deref.result.now
    c.in-Some.field-0.now (subst (AreSeen (files_taken files)) (sym c.deref.ensures.value) c.in_ok-seen.ensures.seen) c.in-Some.ensures.some

pub returns-clause-taken : goal.returns-clause-taken
returns-clause-taken c =
    let files = c.args.files.now in
    let cut : List ℕ = prefix_of files.parts.now c.args.cut.items in
    let none = none_faultless (files_taken files) c.deref.result.now
    (subst (AreSeen (files_taken files)) (sym c.deref.ensures.value) c.in_ok-seen.ensures.seen) c.in-None.ensures.none in
    let takes = subst (λ (found : Option PartialPicture). IfSome found (λ station. HasFrameOfShape station.shape cut
    × TakesFiles c.args.source (files_taken files ++ cut ∷ []) (nothing_known station.shape) station)) c.in-Some-2.is
    (subst (λ (path : List ℕ). IfSome c.in_ok-station.field-0 (λ station. HasFrameOfShape station.shape (prefix_of files.parts.now path)
    × TakesFiles c.args.source (files_taken files ++ prefix_of files.parts.now path ∷ []) (nothing_known station.shape) station))
    c.deref-2.ensures.value c.in_ok-station.ensures.some) in
    record { none_faultless = none; shape_is = takes.0; takes = takes.1 }

pub returns-in_default-clause-nothing : goal.returns-in_default-clause-nothing
returns-in_default-clause-nothing c =
    let cut : List ℕ = prefix_of c.args.files.now.parts.now c.args.cut.items in
    let gone : c.in_ok-station.field-0 ≡ None = search rules in
    inr (subst (λ (found : Option PartialPicture). IfNone found (HasNoFrame cut)) gone
    (subst (λ (path : List ℕ). IfNone c.in_ok-station.field-0 (HasNoFrame (prefix_of c.args.files.now.parts.now path)))
    c.deref-2.ensures.value c.in_ok-station.ensures.none))

pub returns-clause-verdicts : goal.returns-clause-verdicts
returns-clause-verdicts c =
    let files = files_taken c.args.files.now in
    subst (AreVerdicts files) (sym (c.in_ok-faultless.ensures ∙ ap (map verdict_of) c.deref-3.ensures.value))
    (verdicts_seen files c.in_ok-seen.field-0.seen.items c.in_ok-seen.ensures.seen)
