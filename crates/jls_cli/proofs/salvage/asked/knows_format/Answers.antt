use Rattle.std.proofs.Common.{◌∙◌, sym, ap, codes}
use Rattle.clap.specs.Words.{found_of, rows_of}
use Rattle.clap.proofs.WalkLemmas.{first_value-rows}
use Rattle.jls_cli.specs.SalvageAsking.{format_is_known_by, is_format}
use Rattle.jls_cli.proofs.SalvageWordsRead.{entered_rows}
use Rattle.jls_cli.proofs.salvage.asked.knows_format.Goals as goal

pub returns-in-Some : goal.returns-in-Some
returns-in-Some c =
    let m = c.args.matches.now in
    let found = found_of c.in-Some.given.now in
    let format = c.get_str.ensures ∙ first_value-rows found (codes "as") in
    let entered = entered_rows m c.in-Some._name.now (rows_of found) (sym c.in-Some.ensures.name) (sym c.in-Some.ensures.rows) in
    c.is_format.ensures ∙ (ap is_format format ∙ sym (ap format_is_known_by entered))
