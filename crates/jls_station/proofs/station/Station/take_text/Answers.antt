use Rattle.std.proofs.Common.{◌≡◌, OnErr, subst}
use Rattle.jls_values.specs.Join.{IsBetween}
use Rattle.jls_partial.specs.Partial.{PartialPicture, union}
use Rattle.jls_station.proofs.station.Station.take_text.Goals as goal

-- what is held then lies between what was held and its union with the readings of the text
pub returns-clause-between : goal.returns-clause-between
returns-clause-between c p is =
    let held : c.self.inside.held ≡ c.args.self.now = cc in
    subst (λ (old : PartialPicture). OnErr c.merge_text.result (IsBetween union old c.merge_text.new.self (union old p))) held
    (c.merge_text.ensures.between p is)
