use Rattle.std.proofs.Common.{Option, ap, sym}
use Rattle.std.specs.Prelude.{option_map}
use Rattle.jls_search.specs.Found.{by_groups_of}
use Rattle.jls_search.specs.declared.found.GroupsReported.{GroupsReported}
use Rattle.jls_splice_run.specs.Making.{groups_reported}
use Rattle.jls_splice_run.proofs.made.groups_reported.Goals as goal

pub returns-in-Some : goal.returns-in-Some
returns-in-Some c = λ choices. ap (λ (o : Option GroupsReported). groups_reported (option_map (by_groups_of choices) o)) (sym c.in-Some.is)

pub returns-in-None : goal.returns-in-None
returns-in-None c = λ choices. ap (λ (o : Option GroupsReported). groups_reported (option_map (by_groups_of choices) o)) (sym c.in-None.is)
