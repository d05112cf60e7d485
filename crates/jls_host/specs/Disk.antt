-- A disk: files by their names, and what each call of a machine may do to them.
use Rattle.std.specs.Prelude.{◌≡◌, ◌≢◌, ◌⊎◌, ℕ, Bool, true, false, List, [], ◌∷◌, ◌++◌, Option, Some, None, take}
use Rattle.jls_host.specs.Choices.{kind_of_bytes}
use Rattle.jls_host.specs.declared.choice.Kind.TheVariants.{Partial}

-- the bytes of a file, and whether all of it is stored for good
abbrev pub Content : Type 0
Content = List ℕ × Bool

-- the file that each name leads to, itself or through a link, by its number; the names at which nothing or a regular file stands; what
-- each file has, and whether it was opened as an input. A file that is opened for writing has a number of its own from then on
pub record Disk : Type 0 where
  pub leads : List ℕ → Option ℕ
  pub is_plain : List ℕ → Bool
  pub has : ℕ → Content
  pub is_input : ℕ → Bool

-- what a name has that leads to this file, or to none
abbrev pub content_of : (ℕ → Content) → Option ℕ → Option Content
content_of has None = None
content_of has (Some i) = Some (has i)

-- what a reader of this name finds
abbrev pub shown : Disk → List ℕ → Option Content
shown d name = content_of d.has (d.leads name)

-- it is a partial picture, by its first bytes
abbrev pub IsPartial : Option Content → Type 0
IsPartial None = ⊥
IsPartial (Some content) = kind_of_bytes content.0 ≡ Partial

-- ---- what else stays

-- names lead where they led, and no file but this one changes
pub record FileAlone (i : ℕ) (d e : Disk) : Type 0 where
  pub leads : e.leads ≡ d.leads
  pub is_plain : e.is_plain ≡ d.is_plain
  pub is_input : e.is_input ≡ d.is_input
  pub files : (j : ℕ) → j ≢ i → e.has j ≡ d.has j

-- a name is none of these
abbrev pub IsNone : List ℕ → List (List ℕ) → Type 0
IsNone name [] = Unit {0}
IsNone name (n ∷ names) = (name ≢ n) × IsNone name names

-- where a name leads, none of these does
abbrev pub LeadsApart : Disk → Option ℕ → List (List ℕ) → Type 0
LeadsApart d to [] = Unit {0}
LeadsApart d to (n ∷ names) = (to ≢ d.leads n) × LeadsApart d to names

-- no name but these changes; but a link may lead elsewhere if it led where one of these did
pub record NamesAlone (names : List (List ℕ)) (d e : Disk) : Type 0 where
  pub leads : (n : List ℕ) → IsNone n names → (d.is_plain n ≡ true) ⊎ LeadsApart d (d.leads n) names → e.leads n ≡ d.leads n
  pub is_plain : (n : List ℕ) → IsNone n names → e.is_plain n ≡ d.is_plain n

-- no file has this number
abbrev pub IsUnused : ℕ → Disk → Type 0
IsUnused i d = (n : List ℕ) → d.leads n ≢ Some i

-- a file without bytes was opened under this name, by this number
pub record Opened (name : List ℕ) (i : ℕ) (d e : Disk) : Type 0 where
  pub unused : IsUnused i d
  pub leads : e.leads name ≡ Some i
  pub empty : (e.has i).0 ≡ []
  pub names : NamesAlone (name ∷ []) d e
  pub files : (j : ℕ) → j ≢ i → e.has j ≡ d.has j
  pub inputs : (j : ℕ) → j ≢ i → e.is_input j ≡ d.is_input j

-- a file was made, where nothing was
pub record Made (name : List ℕ) (i : ℕ) (d e : Disk) : Type 0 where
  pub free : d.leads name ≡ None
  pub plain : e.is_plain name ≡ true
  pub opened : Opened name i d e

-- the second name leads where the first did, if that was no link. Names may change, but these alone
pub record Named (first second : List ℕ) (names : List (List ℕ)) (d e : Disk) : Type 0 where
  pub leads : d.is_plain first ≡ true → e.leads second ≡ d.leads first
  pub plain : d.is_plain first ≡ true → e.is_plain second ≡ true
  pub others : NamesAlone names d e
  pub files : e.has ≡ d.has
  pub inputs : e.is_input ≡ d.is_input

-- these bytes are at the end of what the file had
pub record Wrote (i : ℕ) (bytes : List ℕ) (d e : Disk) : Type 0 where
  pub bytes_are : (e.has i).0 ≡ (d.has i).0 ++ bytes
  pub alone : FileAlone i d e

-- all of the bytes of one content
abbrev pub all_bytes : Option Content → List ℕ
all_bytes None = []
all_bytes (Some content) = content.0

-- the name is gone
pub record Removed (name : List ℕ) (d e : Disk) : Type 0 where
  pub others : NamesAlone (name ∷ []) d e
  pub files : e.has ≡ d.has
  pub inputs : e.is_input ≡ d.is_input

-- ---- calls

-- what a machine is asked. Names of files, and numbers of files that it opened
pub data Act : Type 0 where
  asks_plain : List ℕ → Act
  asks_partial : List ℕ → Act
  asks_input : List ℕ → Act
  looks : List ℕ → Act
  asks_one : List ℕ → List ℕ → Act
  asks_equal : List ℕ → List ℕ → Act
  makes : List ℕ → ℕ → Act
  empties : List ℕ → ℕ → Act
  links : List ℕ → List ℕ → Act
  copies : List ℕ → ℕ → Act
  writes : ℕ → List ℕ → Act
  syncs : ℕ → Act
  renames : List ℕ → List ℕ → Act
  removes : List ℕ → Act

-- what is asked, and the answer: yes, or that it went well; or no, or that it failed
abbrev pub Call : Type 0
Call = Act × Bool

-- what a disk may be after a call with this answer. A call that failed, or was cut off by the end of the program or by a power cut, has
-- left part of what it was to do: a name changes at once or not at all, and a file has any of the bytes that come
abbrev pub Did : Act → Bool → Disk → Disk → Type 0
Did (asks_plain name) true d e = (e ≡ d) × (d.is_plain name ≡ true)
Did (asks_plain name) false d e = e ≡ d
Did (asks_partial name) true d e = e ≡ d
Did (asks_partial name) false d e = (e ≡ d) × (IsPartial (shown d name) → ⊥)
Did (asks_input name) true d e = (e ≡ d) × ((i : ℕ) × (d.leads name ≡ Some i) × (d.is_input i ≡ true))
Did (asks_input name) false d e = e ≡ d
Did (looks name) answer d e = e ≡ d
Did (asks_one name other) true d e = (e ≡ d) × (d.leads name ≡ d.leads other)
Did (asks_one name other) false d e = e ≡ d
Did (asks_equal name other) true d e = (e ≡ d) × (all_bytes (shown d name) ≡ all_bytes (shown d other))
Did (asks_equal name other) false d e = e ≡ d
Did (makes name i) true d e = Made name i d e
Did (makes name i) false d e = (e ≡ d) ⊎ Made name i d e
Did (empties name i) true d e = Opened name i d e
Did (empties name i) false d e = (e ≡ d) ⊎ Opened name i d e
Did (links name second) true d e = (d.leads second ≡ None) × Named name second (second ∷ []) d e
Did (links name second) false d e = (e ≡ d) ⊎ ((d.leads second ≡ None) × Named name second (second ∷ []) d e)
Did (copies name i) true d e = Wrote i (all_bytes (shown d name)) d e
Did (copies name i) false d e = (k : ℕ) × Wrote i (take k (all_bytes (shown d name))) d e
Did (writes i bytes) true d e = Wrote i bytes d e
Did (writes i bytes) false d e = (k : ℕ) × Wrote i (take k bytes) d e
Did (syncs i) true d e = (e.has i ≡ ((d.has i).0, true)) × FileAlone i d e
Did (syncs i) false d e = Wrote i [] d e
Did (renames name second) true d e = Named name second (name ∷ second ∷ []) d e
Did (renames name second) false d e = (e ≡ d) ⊎ Named name second (name ∷ second ∷ []) d e
Did (removes name) true d e = Removed name d e
Did (removes name) false d e = (e ≡ d) ⊎ Removed name d e

-- ---- runs

-- from this disk on, Always holds at each moment of these calls, those inside a call among them, and Then when they have ended
abbrev pub Through : (Disk → Type 0) → (Disk → Type 0) → List Call → Disk → Type 0
Through Always Then [] d = Always d × Then d
Through Always Then (call ∷ calls) d =
    Always d × ((c : Disk) → Did call.0 false d c → Always c) × ((c : Disk) → Did call.0 call.1 d c → Through Always Then calls c)

-- calls were made, and from each disk that is as First says they went so
pub record Went (First Always Then : Disk → Type 0) (old new : List Call) : Type 0 where
  pub calls : List Call
  pub made : new ≡ old ++ calls
  pub through : (d : Disk) → First d → Through Always Then calls d
