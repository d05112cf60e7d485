-- Words that clap reads as commands: the premises of the theorems on `run` hold of them.
use Rattle.std.proofs.Common.{◌≡◌, true, false, List, [], ◌∷◌, Some, None, refl, inl, subst, sym}
use Rattle.std.specs.Prelude.{codes}
use Rattle.clap.specs.Words.{IsAmong, Kinds, Text, fault_of, takes}
use Rattle.clap.specs.declared.error.kind.ErrorKind.{ErrorKind}
use Rattle.clap.specs.declared.error.kind.ErrorKind.TheVariants as kind
use Rattle.clap.proofs.OnLiterals.{clap_on_literals}
use Rattle.jls_cli.specs.SalvageAsking.{AskFor, AskForNothing, format_is_known, check, join, show, write_pnm, write_jls}
use Rattle.jls_cli.specs.SalvageWords.{salvage_app, AreRefused}

-- `jls-salvage join OUT A B`
abbrev pub two_files : List Text
two_files = codes "jls-salvage" ∷ codes "join" ∷ codes "OUT" ∷ codes "A" ∷ codes "B" ∷ []

-- `jls-salvage join - -`
abbrev pub dashes : List Text
dashes = codes "jls-salvage" ∷ codes "join" ∷ codes "-" ∷ codes "-" ∷ []

-- `jls-salvage COMMAND A`
abbrev pub one_file : Text → List Text
one_file command = codes "jls-salvage" ∷ command ∷ codes "A" ∷ []

-- `jls-salvage write --as FORMAT OUT A`
abbrev pub as_format : Text → List Text
as_format format = codes "jls-salvage" ∷ codes "write" ∷ codes "--as" ∷ format ∷ codes "OUT" ∷ codes "A" ∷ []

pub two_files-join : AskFor two_files (join None (codes "OUT") (codes "A" ∷ codes "B" ∷ []))
unfolding clap_on_literals
two_files-join = record { taken = refl; asks = refl }

pub dashes-join : AskFor dashes (join None (codes "-") (codes "-" ∷ []))
unfolding clap_on_literals
dashes-join = record { taken = refl; asks = refl }

-- `jls-salvage join --source 7 OUT A`
abbrev pub with_source : List Text
with_source = codes "jls-salvage" ∷ codes "join" ∷ codes "--source" ∷ codes "7" ∷ codes "OUT" ∷ codes "A" ∷ []

pub with_source-join : AskFor with_source (join (Some 7) (codes "OUT") (codes "A" ∷ []))
unfolding clap_on_literals
with_source-join = record { taken = refl; asks = refl }

pub one_file-check : AskFor (one_file (codes "check")) (check (codes "A"))
unfolding clap_on_literals
one_file-check = record { taken = refl; asks = refl }

pub one_file-show : AskFor (one_file (codes "show")) (show (codes "A"))
unfolding clap_on_literals
one_file-show = record { taken = refl; asks = refl }

pub as_pnm-write : AskFor (as_format (codes "pnm")) (write_pnm (codes "OUT") (codes "A"))
unfolding clap_on_literals
as_pnm-write = record { taken = refl; asks = refl }

as_jls-write : AskFor (as_format (codes "jls")) (write_jls false 0 (codes "OUT") (codes "A"))
unfolding clap_on_literals
as_jls-write = record { taken = refl; asks = refl }

-- `jls-salvage write --as jls --ilv line --ri 12 OUT A`
abbrev pub with_options : List Text
with_options =
    codes "jls-salvage" ∷ codes "write" ∷ codes "--as" ∷ codes "jls" ∷ codes "--ilv" ∷ codes "line" ∷ codes "--ri" ∷ codes "12"
    ∷ codes "OUT" ∷ codes "A" ∷ []

pub with_options-write : AskFor with_options (write_jls true 12 (codes "OUT") (codes "A"))
unfolding clap_on_literals
with_options-write = record { taken = refl; asks = refl }

-- `jls-salvage write --as jls --ri N OUT A`
abbrev pub with_rows : Text → List Text
with_rows rows =
    codes "jls-salvage" ∷ codes "write" ∷ codes "--as" ∷ codes "jls" ∷ codes "--ri" ∷ rows ∷ codes "OUT" ∷ codes "A" ∷ []

-- the greatest restart interval
pub most_rows-write : AskFor (with_rows (codes "65535")) (write_jls false 65535 (codes "OUT") (codes "A"))
unfolding clap_on_literals
most_rows-write = record { taken = refl; asks = refl }

-- words that clap does not take, with the one kind of fault that it finds in them
refused : (words : List Text) (k : ErrorKind) → takes salvage_app words ≡ false → fault_of salvage_app words ≡ k ∷ [] → AreRefused words k
refused words k untaken found = record {
  not_taken = λ taken. cc;
  found = subst (λ (kinds : Kinds). IsAmong k kinds) (sym found) (inl refl);
}

pub too_many_rows : AreRefused (with_rows (codes "65536")) kind.ValueValidation
unfolding clap_on_literals
too_many_rows = refused _ _ refl refl

-- words that have to be there, and are not: `jls-salvage check` and `jls-salvage join OUT`
pub too_few : AreRefused (codes "jls-salvage" ∷ codes "check" ∷ []) kind.MissingRequiredArgument
    × AreRefused (codes "jls-salvage" ∷ codes "join" ∷ codes "OUT" ∷ []) kind.MissingRequiredArgument
unfolding clap_on_literals
too_few = (refused _ _ refl refl, refused _ _ refl refl)

-- the version, of the program, and of a command with and without its words
pub versions : AreRefused (codes "jls-salvage" ∷ codes "--version" ∷ []) kind.DisplayVersion
    × AreRefused (codes "jls-salvage" ∷ codes "check" ∷ codes "--version" ∷ []) kind.DisplayVersion
    × AreRefused (codes "jls-salvage" ∷ codes "check" ∷ codes "A" ∷ codes "--version" ∷ []) kind.DisplayVersion
unfolding clap_on_literals
versions = (refused _ _ refl refl, refused _ _ refl refl, refused _ _ refl refl)

-- a format that there is not
pub as_gif-nothing : AskForNothing (as_format (codes "gif"))
unfolding clap_on_literals
as_gif-nothing = record { taken = refl; asks = refl }

pub gif-unknown : format_is_known (as_format (codes "gif")) ≡ false
unfolding clap_on_literals
gif-unknown = refl

-- an interleave mode that there is not: the format is known
abbrev pub by_sample : List Text
by_sample =
    codes "jls-salvage" ∷ codes "write" ∷ codes "--as" ∷ codes "jls" ∷ codes "--ilv" ∷ codes "sample" ∷ codes "OUT" ∷ codes "A" ∷ []

pub by_sample-nothing : AskForNothing by_sample
unfolding clap_on_literals
by_sample-nothing = record { taken = refl; asks = refl }

pub by_sample-known : format_is_known by_sample ≡ true
unfolding clap_on_literals
by_sample-known = refl
