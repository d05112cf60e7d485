-- What the words of a command line ask for.
use Rattle.std.specs.Prelude.{◌≡◌, ℕ, Bool, true, false, List, ◌∷◌, Option, Some, None, map, codes, if◌then◌else◌, option_map}
use Rattle.std.specs.Prelude.{option_and_then}
use Rattle.std.specs.Str.{bytes_eq}
use Rattle.clap.specs.Words.{Row, Text, all_of, first_of, subcommand_of}
use Rattle.jls_cli.specs.SalvageWords.{salvage_app}
use Rattle.jls_cli.specs.Words.{TakesWords, number_in}
use Rattle.jls_cli.specs.declared.salvage.asked.Asked.{Asked as AskedValue}
use Rattle.jls_cli.specs.declared.salvage.asked.Asked.TheVariants as asked

-- a command with its words: the output comes before the inputs
pub data Asked : Type 0 where
  check : Text → Asked
  -- with the source under which the readings of copies are taken, if one is given
  join : Option ℕ → Text → List Text → Asked
  show : Text → Asked
  write_pnm : Text → Text → Asked
  -- as JPEG-LS: whether all components stand in one scan, by line; and the restart interval, 0 for none
  write_jls : Bool → ℕ → Text → Text → Asked

-- ---- by the values of a command's arguments

-- what `check` asks for, by its FILE
abbrev pub asked_check : Option Text → Option Asked
asked_check file = option_map check file

-- what `show` asks for, by its FILE
abbrev pub asked_show : Option Text → Option Asked
asked_show file = option_map show file

-- whether the interleave mode of this name is by line
abbrev pub is_by_line : Text → Option Bool
is_by_line name = if bytes_eq name (codes "line") then Some true else if bytes_eq name (codes "none") then Some false else None

-- the source, if one is given; OUT and the FILEs
abbrev pub asked_join : Option Text → Option Text → Option (List Text) → Option Asked
asked_join None (Some out) (Some (first ∷ others)) = Some (join None out (first ∷ others))
asked_join (Some source) (Some out) (Some (first ∷ others)) =
    option_map (λ n. join (Some n) out (first ∷ others)) (number_in 0 4294967295 source)
asked_join _ _ _ = None

-- both values, if both are there
abbrev pub both_of : Option Bool → Option ℕ → Option (Bool × ℕ)
both_of (Some line) (Some n) = Some (line, n)
both_of _ _ = None

-- the interleave mode and the restart interval
abbrev pub options_of : Option Text → Option Text → Option (Bool × ℕ)
options_of (Some ilv) (Some ri) = both_of (is_by_line ilv) (number_in 0 65535 ri)
options_of _ _ = None

-- the format that is asked for, the options, OUT and FILE
abbrev pub asked_write : Option Text → Option (Bool × ℕ) → Option Text → Option Text → Option Asked
asked_write (Some format) (Some options) (Some out) (Some file) =
    if bytes_eq format (codes "pnm") then Some (write_pnm out file)
    else if bytes_eq format (codes "jls") then Some (write_jls options.0 options.1 out file)
    else None
asked_write _ _ _ _ = None

-- whether the value of `--as` is a format that there is
abbrev pub is_format : Option Text → Bool
is_format None = false
is_format (Some format) = if bytes_eq format (codes "pnm") then true else bytes_eq format (codes "jls")

-- ---- by what clap reads

-- the command of this name, whose arguments have these values, asks for this
abbrev pub asked_by : Text → List Row → Option Asked
asked_by name rows =
    if bytes_eq name (codes "check") then asked_check (first_of (codes "FILE") rows)
    else if bytes_eq name (codes "join") then
    asked_join (first_of (codes "source") rows) (first_of (codes "OUT") rows) (all_of (codes "FILE") rows)
    else if bytes_eq name (codes "show") then asked_show (first_of (codes "FILE") rows)
    else if bytes_eq name (codes "write") then
    asked_write (first_of (codes "as") rows) (options_of (first_of (codes "ilv") rows) (first_of (codes "ri") rows))
    (first_of (codes "OUT") rows) (first_of (codes "FILE") rows)
    else None

-- what the words ask for, by the command that clap reads in them
abbrev pub asked_in : List Text → Option Asked
asked_in words = option_and_then (λ p. asked_by p.0 p.1) (subcommand_of salvage_app words)

-- whether the command that clap reads has `--as` with a format that there is
abbrev pub format_is_known_by : Option (Text × List Row) → Bool
format_is_known_by None = false
format_is_known_by (Some p) = is_format (first_of (codes "as") p.1)

-- whether the words name a format that there is
abbrev pub format_is_known : List Text → Bool
format_is_known words = format_is_known_by (subcommand_of salvage_app words)

-- clap takes the words, and they ask for this
pub record AskFor (words : List Text) (a : Asked) : Type 0 where
  pub taken : TakesWords salvage_app words
  pub asks : asked_in words ≡ Some a

-- clap takes the words, and they ask for nothing that there is
pub record AskForNothing (words : List Text) : Type 0 where
  pub taken : TakesWords salvage_app words
  pub asks : asked_in words ≡ None

-- what is asked, as the code has it
abbrev pub asked_of : AskedValue → Asked
asked_of (asked.Join source out first others) = join source out.now (first.now ∷ map (λ f. f.now) others.now)
asked_of (asked.Check file) = check file.now
asked_of (asked.Show file) = show file.now
asked_of (asked.WritePnm out file) = write_pnm out.now file.now
asked_of (asked.WriteJls line ri out file) = write_jls line ri out.now file.now
