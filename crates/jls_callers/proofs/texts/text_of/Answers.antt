use Rattle.std.proofs.Common.{◌≡◌, ℕ, List, refl, sym, subst}
use Rattle.std.specs.Prelude.{IfOk}
use Rattle.jls_values.specs.Shape.{PictureShape, IsShape}
use Rattle.jls_partial.specs.Partial.{PartialPicture}
use Rattle.jls_partial.specs.Text.{text, IsTextOf}
use Rattle.jls_partial.specs.declared.version.Version.TheVariants.{Two}
use Rattle.jls_callers.proofs.Answered.{ok_then}
use Rattle.jls_callers.proofs.texts.text_of.Goals as goal

pub returns-clause-is_text : goal.returns-clause-is_text
returns-clause-is_text c =
    let p = c.partial-partial.result.now in
    let own : IsTextOf (text p) p = record {
      partial = record {
        shape = subst (λ (s : PictureShape). IsShape s) c.shape.ensures.value c.ids-ids.ensures.ranges;
        fitting = c.shape.ensures.fitting;
        countable = c.shape.ensures.countable;
        marks_held = c.shape.ensures.marks_held;
        sources_small = c.shape.ensures.sources_small;
      };
      version = Two;
      says_all = tt;
      bytes_are = refl;
    } in
    ok_then c.to_bytes.result _ _ c.to_bytes.ensures
    (λ bytes e. subst (λ (x : PartialPicture). IsTextOf bytes.items x) c.partial-partial.ensures
    (subst (λ (b : List ℕ). IsTextOf b p) (sym e) own))

pub returns-clause-bytes : goal.returns-clause-bytes
returns-clause-bytes c =
    subst (λ (p : PartialPicture). IfOk c.to_bytes.result (λ bytes. bytes.items ≡ text p)) c.partial-partial.ensures c.to_bytes.ensures
