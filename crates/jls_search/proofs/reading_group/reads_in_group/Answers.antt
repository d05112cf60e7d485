use Rattle.std.proofs.Common.{◌≡◌, ℕ, ◌<◌, List, Option, false, sym, ◌∙◌, subst}
use Rattle.std.specs.Prelude.{IfSome}
use Rattle.std.specs.List.{AllByRecursion}
use Rattle.jls_search.specs.Choices.{prefix_of}
use Rattle.jls_search.specs.OfGroups.{HasManyFaults, ReadsInGroup}
use Rattle.jls_search.specs.Places.{offset_of}
use Rattle.jls_search.specs.ReadsBetween.{ReadsBetween}
use Rattle.jls_search.proofs.EarlyReads.{if_ok}
use Rattle.jls_search.proofs.Prefixes.{of_some}
use Rattle.jls_search.proofs.reading_group.reads_in_group.Goals.{in-Some+in_ok-begun+in_ok-answer+in_default-2, in_default}
use Rattle.jls_search.proofs.reading_group.reads_in_group.Goals as goal

pub returns-clause-unread : goal.returns-clause-unread
returns-clause-unread c =
    let ps = c.args.parts.now in
    let file : List ℕ = prefix_of ps c.args.path.now in
    let from = c.border_offset-from.result in
    let to = c.match-to.to in
    let same : c.end_offset-to.result ≡ to = elim c.match-to.branch [
      | in-Some+in_ok-begun+in_ok-answer+in_default-2 w ↦ w.in-Some.is ∙ sym w.to-is
      | in_default w ↦ sym w.to-is
    ] in
    let unread : List ℕ → Type 0 = λ file. AllByRecursion (λ b. b < 256) file → ReadsBetween from to file → HasManyFaults file in
    if_ok c.is_read_between.result (λ answer. answer ≡ false → IfSome c.in_ok-reader.reader unread)
    (λ answer. answer ≡ false → AllByRecursion (λ b. b < 256) file → ReadsInGroup ps c.args.group c.args.path.now → HasManyFaults file)
    (λ answer said no low reads. of_some c.in_ok-reader.reader file unread c.in_ok-reader.ensures (said no) low
    (subst (λ o. ReadsBetween o to file) (sym c.border_offset-from.ensures)
    (subst (λ o. ReadsBetween (offset_of ps c.args.path.now c.args.group.begin) o file) (sym c.end_offset-to.ensures ∙ same) reads)))
    c.is_read_between.ensures.unread
