-- What is so between two calls while an output is made and ended. Only contracts of private functions cite these.
use Rattle.std.specs.Prelude.{◌≡◌, ◌≢◌, ◌⊎◌, ℕ, Bool, true, false, List, ◌++◌, Option, Some, None, codes}
use Rattle.jls_host.specs.Disk.{Disk, Content, shown, all_bytes}
use Rattle.jls_host.specs.Moments.{Shows, StandsAt, IsBeside, IsPrecious, IsWhole, Has, older_name}

-- a file beside the name: its own name, its number and its bytes
abbrev pub Beside : Type 0
Beside = List ℕ × ℕ × List ℕ

-- a file beside the name, if there is one, with all of its bytes stored
pub record IsHeld (name : List ℕ) (held : Beside) (d : Disk) : Type 0 where
  pub beside : IsBeside name held.0 held.1 d
  pub stored : d.has held.1 ≡ (held.2, true)

-- the same where there is such a file, and nothing where there is none
abbrev pub Holds : List ℕ → Option Beside → Disk → Type 0
Holds name None d = Unit {0}
Holds name (Some held) d = IsHeld name held d

-- the name shows what it showed, and so does the file beside it, if there is one
pub record Steady (name : List ℕ) (x : Option Content) (held : Option Beside) (d : Disk) : Type 0 where
  pub shows : Shows name x d
  pub holds : Holds name held d

-- a second name is not that of the file beside the name
abbrev pub IsOther : List ℕ → Option Beside → Type 0
IsOther second None = Unit {0}
IsOther second (Some held) = held.0 ≢ second

-- a number is not that of the file beside the name
abbrev pub IsOtherNumber : ℕ → Option Beside → Type 0
IsOtherNumber j None = Unit {0}
IsOtherNumber j (Some held) = held.1 ≢ j

-- a file was made under a second name
pub record IsNew (name second : List ℕ) (j : ℕ) (bytes : List ℕ) (x : Option Content) (held : Option Beside) (d : Disk) : Type 0 where
  pub steady : Steady name x held d
  pub beside : IsBeside name second j d
  pub has : Has j bytes d
  pub other : IsOther second held
  pub number : IsOtherNumber j held

-- a file was made under a second name, and written
abbrev pub IsOpened : List ℕ → List ℕ → ℕ → Option Content → Option Beside → Disk → Type 0
IsOpened name second j x held d = (bytes : List ℕ) × IsNew name second j bytes x held d

-- what the name shows has a second name, or a copy there
pub record IsSecond (name second : List ℕ) (x : Option Content) (held : Option Beside) (d : Disk) : Type 0 where
  pub steady : Steady name x held d
  pub named : (rest : List ℕ) × (second ≡ name ++ (codes ".jls-salvage-" ++ rest))
  pub plain : d.is_plain second ≡ true
  pub stands : StandsAt x second d
  pub other : IsOther second held

-- that could not be given the name for older files
pub record IsUnkept (name second : List ℕ) (x : Option Content) (held : Option Beside) (d : Disk) : Type 0 where
  pub steady : Steady name x held d
  pub named : (rest : List ℕ) × (second ≡ name ++ (codes ".jls-salvage-" ++ rest))
  pub other : IsOther second held

-- the older file stands at the name for older files
pub record IsKept (name : List ℕ) (x : Option Content) (held : Option Beside) (d : Disk) : Type 0 where
  pub steady : Steady name x held d
  pub stands : StandsAt x (older_name name) d

-- the file beside the name may take it: a precious one is kept, or has the same bytes
pub record MayTake (name : List ℕ) (x : Option Content) (held : Beside) (precious : Bool) (d : Disk) : Type 0 where
  pub steady : Steady name x (Some held) d
  pub older : precious ≡ true → StandsAt x (older_name name) d ⊎ (held.2 ≡ all_bytes x)

-- the file beside the name is stored, and what is precious is known
pub record IsStored (name : List ℕ) (x : Option Content) (held : Beside) (precious : Bool) (d : Disk) : Type 0 where
  pub steady : Steady name x (Some held) d
  pub precious_is : precious ≡ true → IsPrecious name x d

-- the file has taken the name
pub record IsTaken (name : List ℕ) (x : Option Content) (bytes : List ℕ) (precious : Bool) (d : Disk) : Type 0 where
  pub shows : Shows name (Some (bytes, true)) d
  pub whole : IsWhole name x bytes precious d

-- the name shows this, and where it was told so, it is no link
pub record IsSeen (name : List ℕ) (x : Option Content) (told_plain : Bool) (d : Disk) : Type 0 where
  pub content_is : shown d name ≡ x
  pub plain : told_plain ≡ true → d.is_plain name ≡ true

-- the output is ended, in one way or the other, and its file has a name of its own
pub record IsLeft (name own : List ℕ) (x : Option Content) (bytes : List ℕ) (precious : Bool) (d : Disk) : Type 0 where
  pub whole : IsWhole name x bytes precious d
  pub named : (rest : List ℕ) × (own ≡ name ++ (codes ".jls-salvage-" ++ rest))

-- and it was told whether the older file may be a partial picture, and whether it is an input
pub record IsTold (name : List ℕ) (x : Option Content) (held : Beside) (precious may_be_partial is_input : Bool) (d : Disk) : Type 0 where
  pub stored : IsStored name x held precious d
  pub partial : precious ≡ true → may_be_partial ≡ true
  pub no_input : precious ≡ true → is_input ≡ false
