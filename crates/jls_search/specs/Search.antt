-- What a search has found, and what it has still to come to.
use Rattle.std.specs.Prelude.{◌≡◌, ℕ, ◌+◌, ◌++◌, [], ◌-◌, ◌^◌, ◌<◌, ◌≤◌, Bool, true, false, List, length, map, max, take}
use Rattle.std.specs.Prelude.{Option, Some, None}
use Rattle.std.specs.Prelude.{IfSome, ◌⊎◌}
use Rattle.std.specs.List.{AllByRecursion, Contains}
use Rattle.std.specs.declared.vec.Vec.{Vec}
use Rattle.std.specs.declared.alloc.Global.{Global}
use Rattle.jls_copy.specs.Prefixes.{IsPastUnder}
use Rattle.jls_copy.specs.ReadCopy.{after}
use Rattle.jls_marker.specs.declared.profile.Profile.TheVariants.{Wide}
use Rattle.jls_diff.specs.Parts.{Part, HasWays, IsSplice}
use Rattle.jls_search.specs.Choices.{IsPath, IsWhole, prefix_of}
use Rattle.jls_search.specs.Faultless.{IsDead, IsFaultless, IsSought}
use Rattle.jls_search.specs.Goals.{AddsFor, StandsOrIsSettled, IsGoal}
use Rattle.jls_search.specs.OfGroups.{AreOfGroups}
use Rattle.jls_search.specs.Order.{Goes, IsLater}
use Rattle.jls_search.specs.declared.early.Until.{Until}
use Rattle.jls_search.specs.declared.early.Until.TheVariants.{Dead as UntilDead, Past as UntilPast, End as UntilEnd}
use Rattle.jls_search.specs.declared.searching.Search.{Search}
use Rattle.jls_search.specs.declared.kept.BegunReader.{BegunReader}
use Rattle.jls_search.specs.declared.kept.Judge.{Judge}
use Rattle.jls_search.specs.declared.kept.KeptReader.{KeptReader}
use Rattle.jls_search.specs.declared.setting.Goal.{Goal}
use Rattle.jls_search.specs.declared.setting.Goal.TheVariants.{Whole, Group}

-- each splice that is a file of the kind that is sought is among these files
abbrev pub HasEachSplice : (List ℕ → Type 0) → List Part → List (List ℕ) → Type 0
HasEachSplice Sought parts files =
    (count : ℕ) → 0 < count → AllByRecursion (HasWays count) parts → (bytes : List ℕ) → AllByRecursion (λ b. b < 256) bytes
    → IsSplice count parts bytes → Sought bytes → Contains files bytes

-- each of these choices makes a file of the kind that is sought
abbrev pub MakeFiles : (List ℕ → Type 0) → List Part → List (List ℕ) → Type 0
MakeFiles Sought parts found = AllByRecursion (λ choices. IsWhole parts choices × Sought (prefix_of parts choices)) found

-- the files that choices make
abbrev pub files_of : List Part → List (List ℕ) → List (List ℕ)
files_of parts found = map (prefix_of parts) found

-- no prefix of choices has more bytes than a reader takes
abbrev pub IsShort : List Part → Type 0
IsShort parts = (choices : List ℕ) → IsPath parts choices → length (prefix_of parts choices) ≤ 2 ^ 63 - 1

-- the lists that the code holds
abbrev pub lists_of : List (Vec ℕ Global) → List (List ℕ)
lists_of vs = map (λ v. v.items) vs

-- what a search found. The choices make files of the kind that is sought. If its tries were not used up, each splice of that kind is one
-- of these files
pub record CameTo (Sought : List ℕ → Type 0) (parts : List Part) (found : List (List ℕ)) (is_used_up : Bool) : Type 0 where
  pub files : MakeFiles Sought parts found
  pub all : is_used_up ≡ false → HasEachSplice Sought parts (files_of parts found)

-- A search that goes on ---------------------------------------------------------------------------------------------

-- what a search has found so far. For whole files: files that are sought. For a group: splices of groups, none of which is there twice
abbrev pub AreFilesFor : Option ℕ → List Part → Goal → List (List ℕ) → Type 0
AreFilesFor ceiling parts Whole found = MakeFiles (IsSought ceiling) parts found
AreFilesFor ceiling parts (Group setting) found = AreOfGroups parts found

-- one step of a search: the file of its path is found, or nothing is. The next path begins with the path, and has more choices, or comes
-- after all that begin with it
abbrev pub IsStep : Option ℕ → List Part → Goal → List ℕ → List (List ℕ) → List ℕ → List (List ℕ) → Bool → Type 0
IsStep ceiling parts goal path found next found' more =
    AddsFor ceiling parts goal path found found' × (more ≡ true → Goes path next ⊎ IsLater path next)

-- a reader that is kept was fed what its choices make
abbrev pub IsKeptReader : List Part → KeptReader → Type 0
IsKeptReader parts k = k.reader ≡ Some (prefix_of parts k.choices.items)

-- so were those that a search goes on from
abbrev pub AreKept : List Part → Judge → Type 0
AreKept parts judge = IfSome judge.begin (IsKeptReader parts) × IfSome judge.kept (IsKeptReader parts)

-- a search over parts has come so far: what it is after is settled, or still to come. The readers that it keeps were fed what their
-- choices make
pub record IsAt (parts : List Part) (s : Search) : Type 0 where
  pub goal : IsGoal parts s.goal
  pub goes : StandsOrIsSettled s.judge.ceiling parts s.goal s.path.items (lists_of s.splices.items) s.goes_on
  pub files : AreFilesFor s.judge.ceiling parts s.goal (lists_of s.splices.items)
  pub few : length (lists_of s.splices.items) ≤ s.most
  pub kept : AreKept parts s.judge

-- A search of whole files has come so far. Each splice that is sought under its ceiling is one that it found, or is still to come. It finds
-- 64 files at most
pub record IsSearch (parts : List Part) (s : Search) : Type 0 where
  pub is_at : IsAt parts s
  pub goal_is : s.goal ≡ Whole
  pub most_is : s.most ≡ 64

-- A search can go on. There is more to try, fewer tries than these were made, and fewer files were found than it finds at most
abbrev pub CanGoOn : Search → ℕ → Type 0
CanGoOn s most_tries = (s.goes_on ≡ true) × (s.tries < most_tries) × (length (lists_of s.splices.items) < s.most)

-- its goal, its ceiling and the number of files that it finds at most are the same
abbrev pub IsAlike : Search → Search → Type 0
IsAlike old new = (new.goal ≡ old.goal) × (new.judge.ceiling ≡ old.judge.ceiling) × (new.most ≡ old.most)

-- a search made one try more: there was more to try, the count of tries rose by one, and the path made one step
pub record IsTry (parts : List Part) (old new : Search) : Type 0 where
  pub goes_on : old.goes_on ≡ true
  pub stands : IsAt parts new
  pub counted : new.tries ≡ old.tries + 1
  pub alike : IsAlike old new
  pub step : IsStep old.judge.ceiling parts old.goal old.path.items (lists_of old.splices.items) new.path.items
      (lists_of new.splices.items) new.goes_on

-- so many tries, one after the other, take a search from the first state to the second
pub data Tried (parts : List Part) : Search → Search → Type 0 where
  nothing : (s : Search) → Tried parts s s
  one_more : (old mid new : Search) → Tried parts old mid → IsTry parts mid new → Tried parts old new

-- a search has tried nothing
abbrev pub IsBegun : Search → Type 0
IsBegun s = (s.tries ≡ 0) × (s.splices.items ≡ []) × (s.goes_on ≡ true)

-- so many tries, from the begin of a search over parts under this ceiling on, found these, and there was more to try, or not
pub record WereTried (ceiling : Option ℕ) (parts : List Part) (tries : ℕ) (found : List (List ℕ)) (more : Bool) : Type 0 where
  pub begun : Search
  pub ceiling_is : begun.judge.ceiling ≡ ceiling
  pub is_begun : IsBegun begun
  pub stands : IsSearch parts begun
  pub last : Search
  pub tried : Tried parts begun last
  pub tries_are : last.tries ≡ tries
  pub found_are : lists_of last.splices.items ≡ found
  pub more_is : last.goes_on ≡ more

-- a search went on by tries, up to so many in all. It has forgotten none, and has made one at least if it could go on
pub record GoesFrom (parts : List Part) (old new : Search) (most_tries : ℕ) : Type 0 where
  pub tried : Tried parts old new
  pub tries : old.tries ≤ new.tries
  pub files : length (lists_of old.splices.items) ≤ length (lists_of new.splices.items)
  pub within : new.tries ≤ max old.tries most_tries
  pub ceiling : new.judge.ceiling ≡ old.judge.ceiling
  pub some : CanGoOn old most_tries → old.tries < new.tries

-- Inside the crate -------------------------------------------------------------------------------------------------

-- each of these readers, where there is one, was fed what its choices make
abbrev pub AreEachKept : List Part → List (Option KeptReader) → Type 0
AreEachKept parts readers = AllByRecursion (λ reader. IfSome reader (IsKeptReader parts)) readers

-- a reader was fed what so many first choices of a path make
abbrev pub IsBegunOn : List Part → List ℕ → BegunReader → Type 0
IsBegunOn parts path begun = (begun.choices ≤ length path) × (begun.reader ≡ Some (prefix_of parts (take begun.choices path)))

-- What a reader was fed is enough. No file without a fault begins so, or the piece in hand begins at the offset or after it. Where it is
-- fed to the end, nothing is enough
abbrev pub IsFedEnough : Until → List ℕ → Type 0
IsFedEnough UntilDead = IsDead IsFaultless
IsFedEnough (UntilPast offset) = IsPastUnder Wide offset
IsFedEnough UntilEnd = λ prefix. ⊥

-- of more bytes so many were fed to a reader: all, or those up to some with which what it was fed is enough
pub record IsFedUntil (Enough : List ℕ → Type 0) (way : List ℕ) (before after_it : Option (List ℕ)) (past : Bool) : Type 0 where
  pub begin : List ℕ
  pub rest : List ℕ
  pub way_is : way ≡ begin ++ rest
  pub fed : after_it ≡ after before begin
  pub all : past ≡ false → rest ≡ []
  pub past_it : past ≡ true → IfSome after_it Enough

-- what is kept: a reader with the path that it was fed; where there is none, what was kept before
abbrev pub Keeps : Option KeptReader → Option (Option (List ℕ)) → List ℕ → Option KeptReader → Type 0
Keeps old None path new = new ≡ old
Keeps old (Some reader) path new = (k : KeptReader) × (new ≡ Some k) × (k.reader ≡ reader) × (k.choices.items ≡ path)
