-- clap's definitions fit both programs: each is a simple command, with no rule between its arguments, and its defaults are values that it
-- takes.
use Rattle.std.proofs.Common.{◌≡◌, true, refl}
use Rattle.clap.specs.Words.{built, is_simple_and_free}
use Rattle.clap.proofs.OnLiterals.{clap_on_literals}
use Rattle.jls_cli.specs.SalvageWords.{salvage_app}
use Rattle.jls_cli.specs.SpliceWords.{splice_app}
use Rattle.jls_cli.specs.Words.{TakesFaultless}
use Rattle.jls_cli.proofs.FaultlessWords.{all_defaults_pass, takes_faultless}

pub salvage_is_simple : is_simple_and_free salvage_app ≡ true
unfolding clap_on_literals
salvage_is_simple = refl

salvage_defaults : all_defaults_pass (built salvage_app) ≡ true
unfolding clap_on_literals
salvage_defaults = refl

pub salvage_faultless : TakesFaultless salvage_app
salvage_faultless = takes_faultless salvage_app salvage_is_simple salvage_defaults

pub splice_is_simple : is_simple_and_free splice_app ≡ true
unfolding clap_on_literals
splice_is_simple = refl

splice_defaults : all_defaults_pass (built splice_app) ≡ true
unfolding clap_on_literals
splice_defaults = refl

pub splice_faultless : TakesFaultless splice_app
splice_faultless = takes_faultless splice_app splice_is_simple splice_defaults
