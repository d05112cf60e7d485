-- The laws of what can be searched, and of what a search finds.
use Rattle.std.specs.Prelude.{◌≡◌, ℕ, ◌-◌, ◌^◌, ◌<◌, ◌≤◌, Bool, false, List, length, Option}
use Rattle.std.specs.List.{AllByRecursion, Contains, sum_by}
use Rattle.jls_diff.specs.Parts.{Part, AreParts, IsSplice}
use Rattle.jls_search.specs.Choices.{HasSomeWay}
use Rattle.jls_search.specs.Faultless.{IsSought}
use Rattle.jls_search.specs.Search.{IsShort, CameTo, files_of}

-- the copies have so few bytes together that a reader takes any splice of them
abbrev pub AreShort : List (List ℕ) → Type 0
AreShort copies = sum_by length copies ≤ 2 ^ 63 - 1

-- parts of one copy or more that are short can be searched. At each of them some copy has something, and no choices make more than a reader
-- takes
abbrev pub PartsCanBeSearched : Type 0
PartsCanBeSearched =
    (copies : List (List ℕ)) (parts : List Part) → AreParts copies parts → 0 < length copies → AreShort copies
    → AllByRecursion HasSomeWay parts × IsShort parts

-- what a search over copies found are splices that are sought under its ceiling. If its tries were not used up, it found each file
-- that is sought and has, at each part, what some copy has there
abbrev pub SearchesComeToEachSplice : Type 0
SearchesComeToEachSplice =
    (ceiling : Option ℕ) (copies : List (List ℕ)) (parts : List Part) → AreParts copies parts → 0 < length copies
    → (found : List (List ℕ)) (is_used_up : Bool) → CameTo (IsSought ceiling) parts found is_used_up
    → AllByRecursion (λ file. IsSplice (length copies) parts file × IsSought ceiling file) (files_of parts found)
    × (is_used_up ≡ false → (file : List ℕ) → AllByRecursion (λ b. b < 256) file → IsSplice (length copies) parts file
    → IsSought ceiling file → Contains (files_of parts found) file)
