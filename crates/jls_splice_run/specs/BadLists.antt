-- The lists of bad places that a run reads, and the copies that are searched then.
use Rattle.std.specs.Prelude.{◌≡◌, ℕ, zero, suc, ◌+◌, ◌==◌, List, [], ◌∷◌, ◌++◌, get_or, length, map, take, Option, Some, None}
use Rattle.std.specs.Prelude.{if◌then◌else◌}
use Rattle.std.specs.List.{AllByRecursion, AllZip, filter_map, slice_get}
use Rattle.std.specs.declared.alloc.Global.{Global}
use Rattle.std.specs.declared.vec.Vec.{Vec}
use Rattle.clap.specs.Words.{Text}
use Rattle.jls_io.specs.Event.{Event}
use Rattle.jls_station.specs.CopyFiles.{AreCopiesRead, CopyBytes}
use Rattle.jls_station.specs.declared.copy.CopyFile.{CopyFile}
use Rattle.jls_station.specs.declared.input.ReadStop.TheVariants.{Whole}
use Rattle.jls_bad.specs.Known.{AreKnownCopies, Copy}
use Rattle.jls_bad.specs.ListText.{AreNamed, IsFirstFault}
use Rattle.jls_bad.specs.declared.place.Place.{Place}
use Rattle.jls_cli.specs.BadValues.{BadList, bad_list_of}
use Rattle.jls_cli.specs.SpliceAsking.{Asked}
use Rattle.jls_cli.specs.declared.outcome.Cause.{Cause}
use Rattle.jls_cli.specs.declared.outcome.Cause.TheVariants as cause
use Rattle.jls_cli.specs.declared.outcome.Refusal.{Refusal}
use Rattle.jls_splice_run.specs.Copies.{bytes_read, stops_read, StopsAtCopies}
use Rattle.jls_splice_run.specs.Making.{IsWantOfMemory}

-- ---- the lists

-- the lists that values of `--bad` name, in their order
abbrev pub lists_in : List Text → List BadList
lists_in values = filter_map bad_list_of values

-- the names of these lists
abbrev pub list_names : List Text → List Text
list_names values = map (λ l. l.name) (lists_in values)

-- what was read of a list is all of it, and names these places
pub record IsList (file : CopyBytes) (places : List Place) : Type 0 where
  pub whole : file.stop ≡ Whole
  pub named : AreNamed file.bytes places

-- ---- the copies

-- the places of the copy of this number, which these lists name
abbrev pub places_for : ℕ → List BadList → List (List Place) → List Place
places_for number [] places = []
places_for number (l ∷ ls) [] = []
places_for number (l ∷ ls) (named ∷ more) = (if l.copy == number then named else []) ++ places_for number ls more

-- the places of so many copies, from the one of this number on
abbrev pub places_from : ℕ → List BadList → List (List Place) → ℕ → List (List Place)
places_from number lists places zero = []
places_from number lists places (suc count) = places_for number lists places ∷ places_from (number + 1) lists places count

-- copies, each with its places
abbrev pub with_places : List (List ℕ) → List (List Place) → List Copy
with_places (bytes ∷ copies) (own ∷ places) = record { bytes = bytes; places = own } ∷ with_places copies places
with_places _ _ = []

-- copies with the places that these lists name
abbrev pub copies_with : List BadList → List (List Place) → List (List ℕ) → List Copy
copies_with lists places copies = with_places copies (places_from 1 lists places (length copies))

-- The lists of these values were read, and name places of the copies that were read. What is searched are known copies. Each has its bytes
-- that are not bad. Where one is bad, it has that of the first copy of the same length whose byte is not
pub record AreKnownBy (values : List Text) (read searched : List CopyBytes) (listing : List Event) : Type 0 where
  pub lists : List CopyBytes
  pub lists_read : AreCopiesRead (list_names values) lists listing
  pub places : List (List Place)
  pub are_lists : AllZip IsList lists places
  pub known : AreKnownCopies (copies_with (lists_in values) places (bytes_read read)) (bytes_read searched)
  pub stops_are : stops_read searched ≡ stops_read read

-- what is searched of copies that were read, by the values of `--bad`. Without one it is the copies
abbrev pub AreSearched : List Text → List CopyBytes → List CopyBytes → List Event → Type 0
AreSearched [] read searched listing = (searched ≡ read) × (listing ≡ [])
AreSearched (value ∷ values) read searched listing = AreKnownBy (value ∷ values) read searched listing

-- ---- why lists stop a run

-- a list isn't taken: it was not read to its end, or this is its first line that isn't understood
pub data IsListRefused (file : CopyBytes) : Cause → Type 0 where
  not_whole : (file.stop ≡ Whole → ⊥) → IsListRefused file cause.NotRead
  not_understood : (line : ℕ) → file.stop ≡ Whole → IsFirstFault file.bytes line → IsListRefused file (cause.NoList line)

-- the first list that isn't taken stops a run, under its name
pub record IsStoppedBy (names : List Text) (lists : List CopyBytes) (r : Refusal) : Type 0 where
  pub number : ℕ
  pub before : AllByRecursion (λ file. (places : List Place) × IsList file places) (take number lists)
  pub file : CopyBytes
  pub file_is : slice_get lists number ≡ Some file
  pub refused : IsListRefused file r.cause
  pub name_is : r.name.now ≡ get_or names number []

-- Why a run stops between reading its copies and searching them. Memory ran out before the lists were read, or a list can't be read. Or
-- all were read, and one isn't taken, or memory ran out then
pub data StopsAtLists (a : Asked) (r : Refusal) : List Event → Type 0 where
  none_read : IsWantOfMemory a r → StopsAtLists a r []
  not_read : (events : List Event) → StopsAtCopies (list_names a.bad) r events → StopsAtLists a r events
  not_taken : (lists : List CopyBytes) (events : List Event) → AreCopiesRead (list_names a.bad) lists events
      → IsStoppedBy (list_names a.bad) lists r → StopsAtLists a r events
  no_memory : (lists : List CopyBytes) (events : List Event) → AreCopiesRead (list_names a.bad) lists events
      → IsWantOfMemory a r → StopsAtLists a r events

-- ---- as the code holds them

-- the places that lists name
abbrev pub places_held : List (Vec Place Global) → List (List Place)
places_held places = map (λ own. own.items) places

-- the copies that are searched: those that stand for the copies that were read, or these
abbrev pub files_searched : Option (Vec CopyFile Global) → List CopyFile → List CopyFile
files_searched None read = read
files_searched (Some known) read = known.items
