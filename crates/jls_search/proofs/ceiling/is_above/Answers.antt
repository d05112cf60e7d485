use Rattle.std.proofs.Common.{ℕ, List, subst, sym, rules}
use Rattle.std.specs.Prelude.{IfSome, IsTrue}
use Rattle.jls_copy.specs.CopyReads.{CopyReadsUnder}
use Rattle.jls_marker.specs.declared.profile.Profile.TheVariants.{Wide}
use Rattle.jls_search.specs.Faultless.{IsDead, IsReadWithin, IsSought}
use Rattle.jls_search.proofs.Ceilings.{prefix_within}
use Rattle.jls_station.proofs.KnownCopies.{some_then}
use Rattle.jls_search.proofs.ceiling.is_above.Goals as goal

pub returns-in-Ok : goal.returns-in-Ok
returns-in-Ok c = λ above.
    let Dead : List ℕ → Type 0 = IsDead (IsSought c.args.ceiling) in
    subst (λ fed. IfSome fed Dead) c.in_ok-fed.ensures
    (some_then c.in_ok-fed.fed (λ prefix. CopyReadsUnder Wide prefix c.in-Ok.read) Dead
    (λ prefix reads more low sought.
    let read_is = prefix_within prefix c.in-Ok.read reads (c.prefixes_keep_readings_under.ensures Wide) c.args.ceiling more low sought in
    let within : IsTrue c.is_read_within-within.result =
    c.is_read_within-within.ensures.1 (subst (IsReadWithin c.args.ceiling) (sym c.partial.ensures) read_is) in
    search rules)
    c.in-Ok.ensures.read)
