-- The files that a search finds, as splices of copies.
use Rattle.std.proofs.Common.{◌≡◌, ℕ, ◌<◌, List, [], ◌∷◌, length, refl, subst, arith}
use Rattle.std.specs.List.{AllByRecursion}
use Rattle.jls_diff.specs.Parts.{Part, Same, Differ, HasWays, IsSplice}
use Rattle.jls_search.specs.Choices.{IsPath, prefix_of}
use Rattle.jls_search.specs.Faultless.{IsSought}
use Rattle.jls_search.specs.Search.{MakeFiles, files_of}
use Rattle.jls_search.specs.SearchLaws.{SearchesComeToEachSplice}

-- a way of each part makes a splice
made_of_path : (count : ℕ) (parts : List Part) (choices : List ℕ) → 0 < count → AllByRecursion (HasWays count) parts → IsPath parts choices
    → length choices ≡ length parts → IsSplice count parts (prefix_of parts choices)
made_of_path count [] [] some ways path e = refl
made_of_path count [] (c ∷ cs) some ways path e = absurd path
made_of_path count (p ∷ parts) [] some ways path e = absurd (omega (arith, e))
made_of_path count (Same b ∷ parts) (c ∷ cs) some ways path e =
    (0, some, prefix_of parts cs, refl, made_of_path count parts cs some ways.1 path.1 (omega (arith, e)))
made_of_path count (Differ ws ∷ parts) (c ∷ cs) some ways path e =
    (c, subst (λ n. c < n) ways.0 path.0.0, prefix_of parts cs, refl, made_of_path count parts cs some ways.1 path.1 (omega (arith, e)))

found_are : (Sought : List ℕ → Type 0) (count : ℕ) (parts : List Part) (found : List (List ℕ)) → 0 < count
    → AllByRecursion (HasWays count) parts → MakeFiles Sought parts found
    → AllByRecursion (λ file. IsSplice count parts file × Sought file) (files_of parts found)
found_are Sought count parts [] some ways made = tt
found_are Sought count parts (c ∷ found) some ways made =
    ((made_of_path count parts c some ways made.0.0.0 made.0.0.1, made.0.1), found_are Sought count parts found some ways made.1)

pub searches_come_to_each_splice : SearchesComeToEachSplice
searches_come_to_each_splice ceiling copies parts are some found is_used_up came = (
  found_are (IsSought ceiling) (length copies) parts found some are.ways came.files,
  λ enough file low splice sought. came.all enough (length copies) some are.ways file low splice sought,
)
