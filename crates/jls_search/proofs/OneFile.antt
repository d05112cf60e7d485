-- The shape of one file.
use Rattle.std.proofs.Common.{◌≡◌, ℕ, List, Some, None, sym, ap, ◌∙◌}
use Rattle.jls_values.specs.Shape.{PictureShape}
use Rattle.jls_partial.specs.Partial.{PartialPicture}
use Rattle.jls_copy.specs.Course.{Course}
use Rattle.jls_copy.specs.CopyReads.{CopyReadsUnder}
use Rattle.jls_copy.specs.ReadCopy.{ReadCopy}
use Rattle.jls_copy.proofs.OneCourse.{one_course}
use Rattle.jls_marker.specs.declared.profile.Profile.TheVariants.{Wide}
use Rattle.jls_search.specs.Faultless.{IsFaultless}
use Rattle.jls_search.specs.Shapes.{HasFrameOfShape, HasNoFrame}

-- a file has one shape at most
pub one_shape_of : (shape other : PictureShape) (file : List ℕ) → HasFrameOfShape shape file → HasFrameOfShape other file → shape ≡ other
one_shape_of shape other file (c, is, framed) (d, also, framed') =
    let e : c ≡ d = one_course file c d is also in
    let f : Some shape ≡ Some other = sym framed ∙ ap (λ (x : Course). x.headers.frame) e ∙ framed' in cc

-- a file without a frame has none
pub no_shape : (shape : PictureShape) (file : List ℕ) → HasNoFrame file → HasFrameOfShape shape file → ⊥
no_shape shape file (c, is, none) (d, also, framed) =
    let e : c ≡ d = one_course file c d is also in
    let f : None ≡ Some shape = sym none ∙ ap (λ (x : Course). x.headers.frame) e ∙ framed in cc

-- a file without a fault has one
pub faultless_shape : (file : List ℕ) (f : IsFaultless file) → HasFrameOfShape f.shape file
faultless_shape file f = (f.course, f.is_course, f.framed)

-- what was read of a file has the shape of its frame
pub shape_read : (file : List ℕ) (read : ReadCopy) → CopyReadsUnder Wide file read → HasFrameOfShape read.partial.shape file
shape_read file read reads =
    (reads.course, reads.is_course, reads.framed ∙ ap Some (sym (ap (λ (p : PartialPicture). p.shape) reads.partial_is)))
