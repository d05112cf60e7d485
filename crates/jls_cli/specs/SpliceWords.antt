-- What words the program takes, by clap's own definition of what a simple command takes.
use Rattle.std.specs.Prelude.{true, List, [], ◌∷◌, Some, codes}
use Rattle.clap.specs.Words.{App, Rule, Text, new_app, new_rule, with_rule}
use Rattle.clap.specs.declared.builder.ArgAction.TheVariants.{Append, SetTrue}
use Rattle.clap.specs.declared.error.kind.ErrorKind.{ErrorKind}
use Rattle.jls_cli.specs.Words.{RefusesWords, number_rule, option_rule, source_rule, word_rule}

-- --tries N, a number from 1 to 2^32 - 1, 4096 if it is not given
abbrev pub tries_rule : Rule
tries_rule = record (number_rule (codes "tries") 1 4294967295) { defaults = codes "4096" ∷ [] }

-- --max N, a number from 0 to 2^16 - 1, which need not be there
abbrev pub ceiling_rule : Rule
ceiling_rule = number_rule (codes "max") 0 65535

-- --progress, without a value
abbrev pub progress_rule : Rule
progress_rule = record (new_rule (codes "progress")) { long = Some (codes "progress"); action = Some SetTrue }

-- --file NAME, which need not be there
abbrev pub file_rule : Rule
file_rule = option_rule (codes "file")

-- --files PREFIX, which need not be there
abbrev pub files_rule : Rule
files_rule = option_rule (codes "files")

-- --bad N:LIST, which need not be there, and may be there again
abbrev pub bad_rule : Rule
bad_rule = record (option_rule (codes "bad")) { action = Some Append }

-- --witness FILE, which need not be there, and may be there again
abbrev pub witness_rule : Rule
witness_rule = record (option_rule (codes "witness")) { action = Some Append }

-- COPY.., after the first one: any number of words
abbrev pub others_rule : Rule
others_rule = record (new_rule (codes "OTHERS")) { value_names = 1; action = Some Append }

-- the program without its words: it has a version
abbrev pub bare_app : App
bare_app = let app = new_app (codes "jls-splice") in record app { top = record app.top { has_version = true } }

-- the program with its options that are numbers
abbrev pub numbers_app : App
numbers_app = with_rule (with_rule (with_rule bare_app source_rule) tries_rule) ceiling_rule

-- and with those of what it prints and writes
abbrev pub outputs_app : App
outputs_app = with_rule (with_rule (with_rule numbers_app progress_rule) file_rule) files_rule

-- the program with its options
abbrev pub options_app : App
options_app = with_rule (with_rule outputs_app bad_rule) witness_rule

-- jls-splice [--source N] [--tries N] [--max N] [--progress] [--file NAME] [--files PREFIX] [--bad N:LIST].. [--witness FILE]..
-- OUT COPY [COPY..]
abbrev pub splice_app : App
splice_app = with_rule (with_rule (with_rule options_app (word_rule (codes "OUT"))) (word_rule (codes "COPY"))) others_rule

-- clap does not take the words, and this is one of the kinds of fault that its definition finds in them
abbrev pub AreRefused : List Text → ErrorKind → Type 0
AreRefused words k = RefusesWords splice_app words k
