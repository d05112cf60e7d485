-- Searches through the splices of some copies for files without a fault.
use Rattle.std.specs.Prelude.{ℕ, ◌<◌, true, List, [], ◌∷◌, ◌++◌, length}
use Rattle.std.specs.List.{AllByRecursion, Contains}
use Rattle.jls_marker.specs.declared.profile.Profile.TheVariants.{Wide}
use Rattle.jls_copy.specs.CopyReads.{IsDoneUnder}
use Rattle.jls_copy.specs.Prefixes.{IsPieceBrokenUnder}
use Rattle.jls_diff.specs.Parts.{Part, Same, Differ, AreParts, IsSplice}
use Rattle.jls_search.specs.Faultless.{IsFaultless}
use Rattle.jls_search.specs.Search.{HasEachSplice}

-- a prefix that can be given up: its current piece is broken, whatever follows; or bytes after it leave its course as it is, and it has a
-- fault
pub data CanBeGivenUp : List ℕ → Type 0 where
  broken : (prefix : List ℕ) → IsPieceBrokenUnder Wide prefix → CanBeGivenUp prefix
  done : (prefix : List ℕ) → IsDoneUnder Wide prefix true → (IsFaultless prefix → ⊥) → CanBeGivenUp prefix

-- The files that a search finds from a prefix on, through these parts, depth first: at a part each of its ways in turn, in their order.
-- Ways that stand there before can be passed over, and prefixes that can be given up can be
pub data Searched : List ℕ → List Part → List (List ℕ) → Type 0 where
  found : (file : List ℕ) → IsFaultless file → Searched file [] (file ∷ [])
  has_fault : (file : List ℕ) → (IsFaultless file → ⊥) → Searched file [] []
  along : (prefix bytes : List ℕ) (parts : List Part) (files : List (List ℕ)) → Searched (prefix ++ bytes) parts files
      → Searched prefix (Same bytes ∷ parts) files
  no_way : (prefix : List ℕ) (parts : List Part) → Searched prefix (Differ [] ∷ parts) []
  last_way : (prefix here : List ℕ) (ways : List (List ℕ)) (parts : List Part) (files more : List (List ℕ))
      → Searched prefix (Differ ways ∷ parts) files → Searched (prefix ++ here) parts more
      → Searched prefix (Differ (ways ++ here ∷ []) ∷ parts) (files ++ more)
  way_again : (prefix here : List ℕ) (ways : List (List ℕ)) (parts : List Part) (files : List (List ℕ)) → Contains ways here
      → Searched prefix (Differ ways ∷ parts) files → Searched prefix (Differ (ways ++ here ∷ []) ∷ parts) files
  given_up : (prefix : List ℕ) (parts : List Part) → CanBeGivenUp prefix → Searched prefix parts []

-- each of these files is a splice without a fault
abbrev pub AreFaultlessSplices : ℕ → List Part → List (List ℕ) → Type 0
AreFaultlessSplices count parts files = AllByRecursion (λ file. IsSplice count parts file × IsFaultless file) files

-- What a search finds are splices without a fault
abbrev pub SearchesFindSplices : Type 0
SearchesFindSplices =
    (copies : List (List ℕ)) (parts : List Part) → AreParts copies parts → 0 < length copies → (files : List (List ℕ))
    → Searched [] parts files → AreFaultlessSplices (length copies) parts files

-- a search loses no splice without a fault, whatever was given up and passed over
abbrev pub SearchesLoseNothing : Type 0
SearchesLoseNothing =
    (copies : List (List ℕ)) (parts : List Part) → AreParts copies parts → 0 < length copies → (files : List (List ℕ))
    → Searched [] parts files → HasEachSplice IsFaultless parts files
