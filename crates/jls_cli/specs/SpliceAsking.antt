-- What the words of a command line of `jls-splice` ask for.
use Rattle.std.specs.Prelude.{◌≡◌, ℕ, Bool, false, List, [], ◌∷◌, Option, Some, None, map, codes, option_map, unwrap_or}
use Rattle.std.specs.Str.{bytes_eq}
use Rattle.clap.specs.Words.{Row, Text, all_of, first_of, matches_of}
use Rattle.jls_cli.specs.SpliceWords.{splice_app}
use Rattle.jls_cli.specs.Words.{TakesWords, number_in}
use Rattle.jls_cli.specs.declared.splice.asked.Asked.{Asked as AskedValue}
use Rattle.jls_cli.specs.declared.splice.asked.Options.{Options as OptionsValue}

-- What the words ask for beside files: the source of the readings, and the ceiling above which no sample of a file may be that is searched
-- for, each if one is given. Then how much each search tries, and whether it tells how far it is. Then where the mended file goes, and what
-- the names of the files without a fault begin with, each if that is asked for
pub record Options : Type 0 where
  pub source : Option ℕ
  pub tries : ℕ
  pub ceiling : Option ℕ
  pub progress : Bool
  pub file : Option Text
  pub files : Option Text

-- The output, the copies in their order, the values of `--bad` in theirs, and the files of `--witness` in theirs, whose lines bear witness.
-- A value of `--bad` is to name a copy by its number, and a file that lists places of it that are bad
pub record Asked : Type 0 where
  pub options : Options
  pub out : Text
  pub copies : List Text
  pub bad : List Text
  pub witnesses : List Text

-- ---- by the values of the arguments

-- the source, if one is given; nothing, if what is given is no such number
abbrev pub source_of : Option Text → Option (Option ℕ)
source_of None = Some None
source_of (Some value) = option_map (λ n. Some n) (number_in 0 4294967295 value)

-- the number of tries
abbrev pub tries_of : Option Text → Option ℕ
tries_of None = None
tries_of (Some value) = number_in 1 4294967295 value

-- the ceiling, if one is given; nothing, if what is given is no such number
abbrev pub ceiling_of : Option Text → Option (Option ℕ)
ceiling_of None = Some None
ceiling_of (Some value) = option_map (λ n. Some n) (number_in 0 65535 value)

-- whether a flag is given: clap's value for it is then `true`
abbrev pub is_set : Option Text → Bool
is_set None = false
is_set (Some value) = bytes_eq value (codes "true")

-- the options, if all of their values are there
abbrev pub options_with : Bool → Option Text → Option Text → Option (Option ℕ) → Option ℕ → Option (Option ℕ) → Option Options
options_with progress file files (Some source) (Some tries) (Some ceiling) =
    Some (record { source = source; tries = tries; ceiling = ceiling; progress = progress; file = file; files = files })
options_with progress file files _ _ _ = None

-- the options that the words give
abbrev pub options_of : Option Text → Option Text → Option Text → Option Text → Option Text → Option Text → Option Options
options_of source tries ceiling progress file files =
    options_with (is_set progress) file files (source_of source) (tries_of tries) (ceiling_of ceiling)

-- what is asked for, if there is a second COPY, or a value of `--bad` or `--witness`
abbrev pub asked_among : Options → Text → Text → List Text → List Text → List Text → Option Asked
asked_among options out first [] [] [] = None
asked_among options out first others bad witnesses =
    Some (record { options = options; out = out; copies = first ∷ others; bad = bad; witnesses = witnesses })

-- OUT, the first COPY, the others, and the values of `--bad` and `--witness`
abbrev pub asked_with : Option Options → Option Text → Option Text → List Text → List Text → List Text → Option Asked
asked_with (Some options) (Some out) (Some first) others bad witnesses = asked_among options out first others bad witnesses
asked_with _ _ _ others bad witnesses = None

-- ---- by what clap reads

-- the values of an argument in their order, none if it is not given
abbrev pub values_of : Text → List Row → List Text
values_of id rows = unwrap_or (all_of id rows) []

-- the arguments have these values
abbrev pub asked_by : List Row → Option Asked
asked_by rows =
    asked_with (options_of (first_of (codes "source") rows) (first_of (codes "tries") rows) (first_of (codes "max") rows)
    (first_of (codes "progress") rows) (first_of (codes "file") rows) (first_of (codes "files") rows))
    (first_of (codes "OUT") rows) (first_of (codes "COPY") rows) (values_of (codes "OTHERS") rows) (values_of (codes "bad") rows)
    (values_of (codes "witness") rows)

-- what the words ask for, by the values that clap reads in them
abbrev pub asked_in : List Text → Option Asked
asked_in words = asked_by (matches_of splice_app words)

-- clap takes the words, and they ask for this
pub record AskFor (words : List Text) (a : Asked) : Type 0 where
  pub taken : TakesWords splice_app words
  pub asks : asked_in words ≡ Some a

-- clap takes the words, and they ask for nothing that there is
pub record AskForNothing (words : List Text) : Type 0 where
  pub taken : TakesWords splice_app words
  pub asks : asked_in words ≡ None

-- the options, as the code has them
abbrev pub options_in : OptionsValue → Options
options_in o = record {
  source = o.source;
  tries = o.tries;
  ceiling = o.ceiling;
  progress = o.progress;
  file = option_map (λ s. s.now) o.file;
  files = option_map (λ s. s.now) o.files;
}

-- what is asked, as the code has it
abbrev pub asked_of : AskedValue → Asked
asked_of a = record {
  options = options_in a.options;
  out = a.out.now;
  copies = a.first.now ∷ map (λ f. f.now) a.others.now;
  bad = map (λ f. f.now) a.bad.now;
  witnesses = map (λ f. f.now) a.witnesses.now;
}
