use Rattle.std.proofs.Common.{map}
use Rattle.std.specs.String.{string_bytes}
use Rattle.jls_cli.specs.SalvageWords.{salvage_app}
use Rattle.jls_cli.proofs.ErrorKinds.{answered}
use Rattle.jls_cli.proofs.SimpleCommands.{salvage_faultless, salvage_is_simple}
use Rattle.jls_cli.proofs.salvage.command.matches.Goals as goal

pub returns : goal.returns
returns c =
    let a = answered salvage_app salvage_is_simple salvage_faultless _ (map string_bytes c.args.words.now) c.in_ok-command.ensures
    _ c.try_get_matches_from.ensures.passes c.try_get_matches_from.ensures.kinds c.try_get_matches_from.ensures.matches in
    record { rows = a.4; taken = a.0; passes = a.1; refused = a.2 }
