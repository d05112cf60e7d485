-- What is noted of the answers of a machine.
use Rattle.std.specs.Prelude.{Bool, true, false}
use Rattle.jls_host.specs.declared.choice.Kind.{Kind}
use Rattle.jls_host.specs.declared.choice.Kind.TheVariants as kind
use Rattle.jls_host.specs.declared.choice.Standing.{Standing}
use Rattle.jls_host.specs.declared.choice.Standing.TheVariants.{Absent, Regular, Other}

-- nothing or a regular file stands there
abbrev pub plainly : Standing → Bool
plainly Absent = true
plainly (Regular mode) = true
plainly Other = false

-- a file of this kind may be a partial picture
abbrev pub maybe_partial : Kind → Bool
maybe_partial kind.Partial = true
maybe_partial kind.Unknown = true
maybe_partial kind.NoFile = false
maybe_partial kind.Jpeg = false
maybe_partial kind.Other = false
