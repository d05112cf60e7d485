use Rattle.std.proofs.Common.{◌≡◌, ◌∙◌, ℕ, ◌<◌, length, ap, subst}
use Rattle.jls_values.specs.Shape.{PictureShape}
use Rattle.jls_partial.specs.Partial.{PartialPicture}
use Rattle.jls_splice_run.specs.ReadsAs.{HaveComponentAlike, HaveSameSize}
use Rattle.jls_splice_run.proofs.reading_as.is_read_as.Goals as goal

pub returns : goal.returns
returns c =
    λ all file reads bytes.
    let picture = c.args.picture.now in
    let of_read : c.shape.result.now ≡ c.args.read.now.partial.shape =
    c.shape.ensures.value ∙ ap (λ (p : PartialPicture). p.shape) c.partial.ensures in
    let sized = c.have_same_size-sized.ensures c.if-not-sized.false in
    record {
      are_bytes = bytes;
      faultless = c.is_read_faultless-faultless.ensures.faultless c.if-not-faultless.false file reads;
      read = c.args.read.now;
      reads = reads;
      ends = c.is_read_faultless-faultless.ensures.ends c.if-not-faultless.false;
      same_size = subst (λ (s : PictureShape). HaveSameSize s picture.shape) of_read
          (subst (λ (s : PictureShape). HaveSameSize c.shape.result.now s) c.shape-2.ensures.value sized);
      each_alike = subst (λ (p : PartialPicture). (component : ℕ) → component < length picture.shape.ids
          → HaveComponentAlike p picture component) c.partial-2.ensures (c.have_all_alike.ensures all);
    }
