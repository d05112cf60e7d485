use Rattle.jls_search.proofs.SeenFiles.{named_other, named_first}
use Rattle.jls_search.proofs.shape_rule.copy_to_name.Goals as goal

pub returns-in-Some : goal.returns-in-Some
returns-in-Some c =
    named_other c.in-Some.shape.now c.args.copies.now c.first_other.result c.unwrap_or.result c.unwrap_or.ensures c.in-Some.ensures.some
    c.first_other.ensures.some c.first_other.ensures.none

pub returns-in-None : goal.returns-in-None
returns-in-None c = named_first c.args.copies.now c.in-None.ensures.none
