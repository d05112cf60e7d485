use Rattle.std.proofs.Common.{List, sym, subst}
use Rattle.jls_diff.specs.Parts.{Part}
use Rattle.jls_search.specs.OfGroups.{HasCopy}
use Rattle.jls_search.proofs.Lists.{copy_at}
use Rattle.jls_search.proofs.choosing.choice_at.Goals as goal

pub choice_of-requires : goal.choice_of-requires
choice_of-requires c =
    let ps : List Part = c.args.parts.now in
    subst (HasCopy c.args.copy) (sym c.part.ensures) (copy_at c.args.copy ps c.args.place c.requires.place c.requires.copy)
