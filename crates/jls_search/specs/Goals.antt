-- What a search is after, by its goal: whole files, or files that read in a group.
use Rattle.std.specs.Prelude.{◌≡◌, ℕ, ◌<◌, ◌++◌, ◌∷◌, [], Bool, true, false, List, length, Option, Some, IfSome, ◌⊎◌}
use Rattle.std.specs.List.{AllByRecursion, Contains}
use Rattle.jls_diff.specs.Parts.{Part}
use Rattle.jls_search.specs.Choices.{prefix_of}
use Rattle.jls_search.specs.Faultless.{IsSought}
use Rattle.jls_search.specs.OfGroups.{IsPassedBy, IsSetting, ReadsInGroup}
use Rattle.jls_search.specs.Order.{IsLater, IsToCome}
use Rattle.jls_search.specs.Tried.{IsSetFor, IsSetWholeFor, IsStop}
use Rattle.jls_search.specs.declared.looking.PathVerdict.{PathVerdict}
use Rattle.jls_search.specs.declared.looking.PathVerdict.TheVariants.{Dead, Open, Found}
use Rattle.jls_search.specs.declared.setting.Goal.{Goal}
use Rattle.jls_search.specs.declared.setting.Goal.TheVariants.{Whole, Group}

-- whole files of the parts; or a group of them, and one of the copies
abbrev pub IsGoal : List Part → Goal → Type 0
IsGoal parts Whole = Unit {0}
IsGoal parts (Group setting) = IsSetting parts setting

-- choices make a file that is sought: one without a fault, under the ceiling if there is one; or one that reads in the group
abbrev pub IsFileFor : Option ℕ → List Part → Goal → List ℕ → Type 0
IsFileFor ceiling parts Whole choices = IsSought ceiling (prefix_of parts choices)
IsFileFor ceiling parts (Group setting) choices = ReadsInGroup parts setting.group choices

-- choices make such a file. There is one for each part; where no ways are tried they are the copy's
abbrev pub MakesFor : Option ℕ → List Part → Goal → List ℕ → Type 0
MakesFor ceiling parts goal choices = IsSetWholeFor parts goal choices × IsFileFor ceiling parts goal choices

-- a search is after choices that make such a file, of bytes
abbrev pub IsSoughtFor : Option ℕ → List Part → Goal → List ℕ → Type 0
IsSoughtFor ceiling parts goal choices = MakesFor ceiling parts goal choices × AllByRecursion (λ b. b < 256) (prefix_of parts choices)

-- choices that a search passes by. One of whole files passes by none
abbrev pub IsPassedFor : List Part → Goal → List ℕ → Type 0
IsPassedFor parts Whole choices = ⊥
IsPassedFor parts (Group setting) choices = IsPassedBy parts setting.group choices

-- the choices are found, or passed by
abbrev pub IsSettledFor : List Part → Goal → List (List ℕ) → List ℕ → Type 0
IsSettledFor parts goal found choices = Contains found choices ⊎ IsPassedFor parts goal choices

-- A search is at a path, which goes up to a part whose ways it tries, or to the end. What it is after is settled, or still to come
pub record Stands (ceiling : Option ℕ) (parts : List Part) (goal : Goal) (path : List ℕ) (found : List (List ℕ)) : Type 0 where
  pub is_set : IsSetFor parts goal path
  pub stop : IsStop parts goal path
  pub all : (choices : List ℕ) → IsSoughtFor ceiling parts goal choices → IsSettledFor parts goal found choices ⊎ IsToCome path choices

-- it is at its path if it goes on. If not, all that it is after is settled
abbrev pub StandsOrIsSettled : Option ℕ → List Part → Goal → List ℕ → List (List ℕ) → Bool → Type 0
StandsOrIsSettled ceiling parts goal path found true = Stands ceiling parts goal path found
StandsOrIsSettled ceiling parts goal path found false =
    (choices : List ℕ) → IsSoughtFor ceiling parts goal choices → IsSettledFor parts goal found choices

-- nothing is found; or the path is, which makes a file that is sought and was not found before
abbrev pub AddsFor : Option ℕ → List Part → Goal → List ℕ → List (List ℕ) → List (List ℕ) → Type 0
AddsFor ceiling parts goal path before found =
    (found ≡ before)
    ⊎ (MakesFor ceiling parts goal path × (Contains before path → ⊥) × (found ≡ before ++ path ∷ []))

-- Inside the crate -------------------------------------------------------------------------------------------------

-- what is seen of a path. It is dead where what begins so is not sought, or passed by
abbrev pub IsSeenFor : Option ℕ → List Part → Goal → List ℕ → PathVerdict → Type 0
IsSeenFor ceiling parts goal path Dead =
    (choices : List ℕ) → IsSoughtFor ceiling parts goal choices → IsToCome path choices
    → IsPassedFor parts goal choices ⊎ IsLater path choices
IsSeenFor ceiling parts goal path (Open reader) =
    (length path < length parts) × IfSome reader (λ fed. fed ≡ Some (prefix_of parts path))
IsSeenFor ceiling parts goal path (Found reader) =
    (length path ≡ length parts) × IsFileFor ceiling parts goal path × IfSome reader (λ fed. fed ≡ Some (prefix_of parts path))
