use Rattle.std.proofs.Common.{◌<◌, ◌^◌, length, ap, sym, subst, ◌∙◌}
use Rattle.std.specs.List.{AllByRecursion}
use Rattle.jls_write.specs.Picture.{WholePicture, line_of}
use Rattle.jls_write.proofs.picture.Picture.line.Goals as goal

pub line-requires-clause-component_in : goal.line-requires-clause-component_in
line-requires-clause-component_in c =
    subst (λ (pic : WholePicture). c.args.component < length pic.shape.ids) (sym c.self.view_is) c.requires.component_in

pub line-requires-clause-line_in : goal.line-requires-clause-line_in
line-requires-clause-line_in c = subst (λ (pic : WholePicture). c.args.line < pic.shape.height) (sym c.self.view_is) c.requires.line_in

pub returns-clause-value : goal.returns-clause-value
returns-clause-value c = c.line.ensures.value ∙ ap (λ (pic : WholePicture). line_of pic c.args.component c.args.line) c.self.view_is

pub returns-clause-width : goal.returns-clause-width
returns-clause-width c = c.line.ensures.width ∙ ap (λ (pic : WholePicture). pic.shape.width) c.self.view_is

pub returns-clause-samples : goal.returns-clause-samples
returns-clause-samples c =
    subst (λ (pic : WholePicture). AllByRecursion (λ sample. sample < 2 ^ pic.shape.precision) c.line.result.now) c.self.view_is
    c.line.ensures.samples
