-- What a mending asks the program for, and the copies and lists as its inputs.
use Rattle.std.specs.Prelude.{◌≡◌, ◌≤◌, ◌<◌, ℕ, ◌+◌, false, List, [], ◌∷◌, ◌++◌, Some, None, codes, decimal, length, map, if◌then◌else◌}
use Rattle.std.specs.List.{AllByRecursion}
use Rattle.clap.specs.Words.{Text}
use Rattle.jls_cli.specs.BadValues.{BadList}
use Rattle.jls_cli.specs.SpliceAsking.{Asked}
use Rattle.jls_memory.specs.Files.{File}
use Rattle.jls_mend.specs.declared.asking.BadPlaces.{BadPlaces as BadPlacesValue}
use Rattle.jls_mend.specs.declared.asking.MendOptions.{MendOptions}

-- ---- the copies

-- copies under their numbers, from this one on
abbrev pub inputs_from : ℕ → List (List ℕ) → List File
inputs_from number [] = []
inputs_from number (copy ∷ copies) = record { name = decimal number; bytes = copy } ∷ inputs_from (number + 1) copies

-- the copies as inputs: their names are their numbers, from 1 on
abbrev pub inputs_of : List (List ℕ) → List File
inputs_of copies = inputs_from 1 copies

-- the names of files
abbrev pub names_in : List File → List (List ℕ)
names_in files = map (λ f. f.name) files

-- ---- the lists

-- a list of bad places: the number of its copy, from 0 on, and its text
pub record BadPlaces : Type 0 where
  pub copy : ℕ
  pub text : List ℕ

-- as the code has it
abbrev pub places_of : BadPlacesValue → BadPlaces
places_of l = record { copy = l.copy; text = l.text.now }

-- the name of the list of this number
abbrev pub list_name : ℕ → Text
list_name number = codes "BAD-" ++ decimal number

-- lists under their names, from this number on
abbrev pub lists_from : ℕ → List BadPlaces → List File
lists_from number [] = []
lists_from number (l ∷ ls) = record { name = list_name number; bytes = l.text } ∷ lists_from (number + 1) ls

-- the lists as inputs: BAD-1, BAD-2 and so on
abbrev pub lists_of : List BadPlaces → List File
lists_of bad = lists_from 1 bad

-- the values of `--bad` that name lists, from this number on. Copies have the numbers from 1 on there
abbrev pub values_from : ℕ → List BadPlaces → List Text
values_from number [] = []
values_from number (l ∷ ls) = (decimal (l.copy + 1) ++ (codes ":" ++ list_name number)) ∷ values_from (number + 1) ls

-- the values of `--bad`: N:BAD-1, N:BAD-2 and so on
abbrev pub values_of : List BadPlaces → List Text
values_of bad = values_from 1 bad

-- what these values say, from this number on
abbrev pub said_from : ℕ → List BadPlaces → List BadList
said_from number [] = []
said_from number (l ∷ ls) = record { copy = l.copy + 1; name = list_name number } ∷ said_from (number + 1) ls

-- what the values of `--bad` say
abbrev pub said_by : List BadPlaces → List BadList
said_by bad = said_from 1 bad

-- ---- what is asked for

-- the copies, and behind them the lists
abbrev pub inputs_with : List (List ℕ) → List BadPlaces → List File
inputs_with copies bad = inputs_of copies ++ lists_of bad

-- what `jls-splice --file FILE [--files ALL] [--source N] --tries N [--max N] [--bad N:BAD-1 ..] OUT 1 2 ..` asks for
abbrev pub asked_for : MendOptions → List (List ℕ) → List BadPlaces → Asked
asked_for o copies bad = record {
  options = record {
    source = o.source;
    tries = o.tries;
    ceiling = o.ceiling;
    progress = false;
    file = Some (codes "FILE");
    files = if o.files then Some (codes "ALL") else None;
  };
  out = codes "OUT";
  copies = names_in (inputs_of copies);
  bad = values_of bad;
  witnesses = [];
}

-- ---- which copies and lists there may be

-- the number of one of so many copies, from 0 on, which `--bad` takes as the number behind it
pub record IsNumberOf (count number : ℕ) : Type 0 where
  pub has : number < count
  pub taken : number < 4294967295

-- these can be mended: two copies or more, and with a list one. Each list is of one of the copies
pub record AreMendable (copies : List (List ℕ)) (bad : List BadPlaces) : Type 0 where
  pub some : 1 ≤ length copies
  pub without_lists : length bad ≡ 0 → 2 ≤ length copies
  pub of_copies : AllByRecursion (λ l. IsNumberOf (length copies) l.copy) bad
