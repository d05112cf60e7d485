-- What stands at an output's name.
use Rattle.std.specs.Prelude.{◌≡◌, ◌≢◌, ◌⊎◌, ℕ, Bool, true, false, List, [], ◌++◌, Option, Some, None, codes}
use Rattle.jls_host.specs.Disk.{Disk, Content, shown, IsPartial}

-- a name is no link, and shows this: what a file has, or that there is none
pub record Shows (name : List ℕ) (content : Option Content) (d : Disk) : Type 0 where
  pub plain : d.is_plain name ≡ true
  pub content_is : shown d name ≡ content

-- a file of its own name, which begins as the output's, has this number, and the output's name leads elsewhere
pub record IsBeside (name own : List ℕ) (i : ℕ) (d : Disk) : Type 0 where
  pub named : (rest : List ℕ) × (own ≡ name ++ (codes ".jls-salvage-" ++ rest))
  pub leads : d.leads own ≡ Some i
  pub plain : d.is_plain own ≡ true
  pub apart : d.leads name ≢ Some i

-- the file of this number has these bytes
abbrev pub Has : ℕ → List ℕ → Disk → Type 0
Has i bytes d = (d.has i).0 ≡ bytes

-- the name shows this, be it a link or not
abbrev pub FirstShows : List ℕ → Option Content → Disk → Type 0
FirstShows name content d = shown d name ≡ content

-- of any disk
abbrev pub Anything : Disk → Type 0
Anything d = Unit {0}

-- an output is written: its file is beside the name, which shows what it showed
pub record IsGoingOn (name own : List ℕ) (i : ℕ) (before : Option Content) (d : Disk) : Type 0 where
  pub shows : Shows name before d
  pub beside : IsBeside name own i d

-- it has begun: nothing is written yet
pub record IsBegun (name own : List ℕ) (i : ℕ) (before : Option Content) (d : Disk) : Type 0 where
  pub going : IsGoingOn name own i before d
  pub empty : Has i [] d

-- this was a name's content: all of the bytes stand there now, and stored for good if they were
abbrev pub StandsAt : Option Content → List ℕ → Disk → Type 0
StandsAt None name d = Unit {0}
StandsAt (Some old) name d = Shows name (Some old) d ⊎ Shows name (Some (old.0, true)) d

-- the name for an older file
abbrev pub older_name : List ℕ → List ℕ
older_name name = name ++ codes "~"

-- a file is kept when another takes its name: it is a partial picture, and no input
pub record IsPrecious (name : List ℕ) (content : Option Content) (d : Disk) : Type 0 where
  pub partial : IsPartial content
  pub no_input : (i : ℕ) → d.leads name ≡ Some i → d.is_input i ≡ false

-- the name shows what it showed before, or all of the new bytes, stored for good. What was there and is precious stands at the name, or
-- at the name for older files
pub record IsWhole (name : List ℕ) (before : Option Content) (bytes : List ℕ) (precious : Bool) (d : Disk) : Type 0 where
  pub old_or_new : Shows name before d ⊎ Shows name (Some (bytes, true)) d
  pub older : precious ≡ true → StandsAt before name d ⊎ StandsAt before (older_name name) d

-- an output is ready: all of its bytes are in its file beside the name
pub record IsReady (name own : List ℕ) (i : ℕ) (before : Option Content) (bytes : List ℕ) (precious : Bool) (d : Disk) : Type 0 where
  pub going : IsGoingOn name own i before d
  pub has : Has i bytes d
  pub precious_is : precious ≡ true → IsPrecious name before d
