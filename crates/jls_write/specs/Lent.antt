-- What lends the lines of a picture. No public contract cites these words.
use Rattle.jls_partial.specs.Status.{IsSettled}
use Rattle.jls_write.specs.Picture.{WholePicture, picture_of}
use Rattle.jls_write.specs.Samples.{picture_in, AreSamplesOf}
use Rattle.jls_write.specs.declared.lender.Lender.{Lender}
use Rattle.jls_write.specs.declared.lender.Lender.TheVariants.{Settled, Samples}

-- the picture whose lines it lends
abbrev pub picture_lent : Lender → WholePicture
picture_lent (Settled partial) = picture_of partial.now
picture_lent (Samples shape samples) = picture_in shape.now samples.now

-- it has all of them
abbrev pub LendsAll : Lender → Type 0
LendsAll (Settled partial) = IsSettled partial.now
LendsAll (Samples shape samples) = AreSamplesOf shape.now samples.now
