-- What the words of a command line ask for, by clap's own definition of what a simple command takes.
use Rattle.std.specs.Prelude.{true, List, [], ◌∷◌, Some, codes}
use Rattle.clap.specs.Words.{App, Rule, Text, new_app, with_rule, with_subcommand}
use Rattle.clap.specs.declared.builder.ArgAction.TheVariants.{Append}
use Rattle.clap.specs.declared.error.kind.ErrorKind.{ErrorKind}
use Rattle.jls_cli.specs.Words.{RefusesWords, number_rule, option_rule, source_rule, word_rule}

-- FILE..: one word or more
abbrev pub files_rule : Rule
files_rule = record (word_rule (codes "FILE")) { action = Some Append }

-- --as FORMAT, which has to be there
abbrev pub as_rule : Rule
as_rule = record (option_rule (codes "as")) { required = true }

-- --ilv MODE, none if it is not given
abbrev pub ilv_rule : Rule
ilv_rule = record (option_rule (codes "ilv")) { defaults = codes "none" ∷ [] }

-- --ri N, a number from 0 to 65535, 0 if it is not given
abbrev pub ri_rule : Rule
ri_rule = record (number_rule (codes "ri") 0 65535) { defaults = codes "0" ∷ [] }

-- the definition of `join` that clap gets
abbrev pub join_app : App
join_app = with_rule (with_rule (with_rule (new_app (codes "join")) source_rule) (word_rule (codes "OUT"))) files_rule

-- the definition of `show` that clap gets
abbrev pub show_app : App
show_app = with_rule (new_app (codes "show")) (word_rule (codes "FILE"))

-- the definition of `check` that clap gets
abbrev pub check_app : App
check_app = with_rule (new_app (codes "check")) (word_rule (codes "FILE"))

-- the definition of the options of `write` that clap gets
abbrev pub write_options_app : App
write_options_app = with_rule (with_rule (with_rule (new_app (codes "write")) as_rule) ilv_rule) ri_rule

-- the definition of `write` that clap gets
abbrev pub write_app : App
write_app = with_rule (with_rule write_options_app (word_rule (codes "OUT"))) (word_rule (codes "FILE"))

-- the program without its commands: it has a version, which each command prints too, and must be followed by a command
abbrev pub bare_app : App
bare_app =
    let app = new_app (codes "jls-salvage") in
    record app { top = record app.top { has_version = true; propagate_version = true; subcommand_required = true } }

-- the definition of the whole command line that clap gets
abbrev pub salvage_app : App
salvage_app = with_subcommand (with_subcommand (with_subcommand
    (with_subcommand bare_app check_app.top) show_app.top) join_app.top) write_app.top

-- clap does not take the words, and this is one of the kinds of fault that its definition finds in them
abbrev pub AreRefused : List Text → ErrorKind → Type 0
AreRefused words k = RefusesWords salvage_app words k
