use Rattle.std.proofs.Common.{sym, subst}
use Rattle.jls_search.specs.Choices.{IsPath}
use Rattle.jls_search.proofs.Members.{whole_at}
use Rattle.jls_carried.proofs.own_splices.new_files.Goals as goal

pub file_of-requires : goal.file_of-requires
file_of-requires c =
    let ps = c.args.parts.now in
    let v = c.choices-item.result in
    let w = whole_at ps c.args.splices.now c.loop-choices.choices-index v v c.requires c.loop-choices-test.true c.choices-item.is in
    subst (IsPath ps) (sym c.deref.ensures.value) w.0
