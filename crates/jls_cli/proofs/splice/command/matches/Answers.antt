use Rattle.std.proofs.Common.{map}
use Rattle.std.specs.String.{string_bytes}
use Rattle.jls_cli.specs.SpliceWords.{splice_app}
use Rattle.jls_cli.proofs.ErrorKinds.{answered}
use Rattle.jls_cli.proofs.SimpleCommands.{splice_faultless, splice_is_simple}
use Rattle.jls_cli.proofs.splice.command.matches.Goals as goal

pub returns : goal.returns
returns c =
    let a = answered splice_app splice_is_simple splice_faultless _ (map string_bytes c.args.words.now) c.in_ok-command.ensures
    _ c.try_get_matches_from.ensures.passes c.try_get_matches_from.ensures.kinds c.try_get_matches_from.ensures.matches in
    record { rows = a.3; taken = a.0; passes = a.1; refused = a.2 }
