use Rattle.std.proofs.Common.{subst}
use Rattle.jls_values.specs.Shape.{PictureShape, IsShape}
use Rattle.jls_write.proofs.WholePictures.{is_picture, is_whole}
use Rattle.jls_write.proofs.lender.settled_are_whole.Goals as goal

pub returns-clause-picture : goal.returns-clause-picture
returns-clause-picture c =
    is_picture c.args.partial.now (subst (λ (s : PictureShape). IsShape s) c.shape.ensures.value c.ids-ids.ensures.ranges)
    c.shape.ensures.fitting c.requires

pub returns-clause-whole : goal.returns-clause-whole
returns-clause-whole c =
    is_whole c.args.partial.now (subst (λ (s : PictureShape). IsShape s) c.shape.ensures.value c.ids-ids.ensures.ranges)
    c.shape.ensures.fitting c.requires
