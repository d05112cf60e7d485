-- What a search over copies found is as files are taken from it: for callers of `settle_files`.
use Rattle.std.proofs.Common.{ℕ, ◌<◌, List, [], ◌∷◌, length, Bor, sym, subst}
use Rattle.std.specs.List.{AllByRecursion}
use Rattle.jls_diff.proofs.Slices.{count_of_slices}
use Rattle.jls_diff.specs.Parts.{Part, AreParts}
use Rattle.jls_diff.specs.PartsOf.{bytes_of}
use Rattle.jls_search.specs.Choices.{IsWhole}
use Rattle.jls_search.specs.Search.{MakeFiles, IsShort}
use Rattle.jls_search.specs.SearchLaws.{AreShort, PartsCanBeSearched}

-- each splice has a choice for each part
pub whole_of_found : (Sought : List ℕ → Type 0) (ps : List Part) (found : List (List ℕ)) → MakeFiles Sought ps found
    → AllByRecursion (IsWhole ps) found
whole_of_found Sought ps [] files = tt
whole_of_found Sought ps (choices ∷ found) files = (files.0.0, whole_of_found Sought ps found files.1)

-- and a reader takes it
pub short_of_found : PartsCanBeSearched → (copies : List (Bor (List ℕ))) (ps : List Part) → AreParts (bytes_of copies) ps → 0
    < length copies
    → AreShort (bytes_of copies) → IsShort ps
short_of_found law copies ps are some short =
    (law (bytes_of copies) ps are (subst (λ n. 0 < n) (sym (count_of_slices copies)) some) short).1
