use Rattle.jls_write.proofs.WholePictures.{samples_are_picture, samples_are_whole}
use Rattle.jls_write.proofs.lender.samples_are_whole.Goals as goal

pub returns-clause-picture : goal.returns-clause-picture
returns-clause-picture c = samples_are_picture c.args.shape.now c.args.samples.now c.ids-ids.ensures.ranges c.requires

pub returns-clause-whole : goal.returns-clause-whole
returns-clause-whole c = samples_are_whole c.args.shape.now c.args.samples.now c.ids-ids.ensures.ranges c.requires
