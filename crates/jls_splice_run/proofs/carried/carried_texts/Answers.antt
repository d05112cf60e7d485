use Rattle.std.proofs.Common.{◌≡◌, Bool, true, false, List, Option, map, ap, sym, ◌∙◌, subst}
use Rattle.std.specs.Prelude.{IfSome}
use Rattle.std.specs.List.{AllByRecursion, Contains}
use Rattle.jls_diff.specs.PartsOf.{bytes_of}
use Rattle.jls_values.specs.OrderedSet as set
use Rattle.jls_held.specs.HeldPictures.{AreReadingsHeld}
use Rattle.jls_held.specs.Judging.{AreMendedOf, codings_of}
use Rattle.jls_held.specs.Mending.{file_of}
use Rattle.jls_carried.specs.declared.carrying.Between.{Between}
use Rattle.jls_partial.specs.Partial.{PartialPicture}
use Rattle.jls_search.specs.Files.{files_taken}
use Rattle.jls_splice_run.specs.Making.{AreTextsOfJudged}
use Rattle.jls_splice_run.specs.declared.made.Made.{Made as MadeValue}
use Rattle.jls_splice_run.specs.Tasks.{task_of}
use Rattle.jls_splice_run.proofs.CarriedCopies.{found_none, none_is_faultless, none_there}
use Rattle.jls_splice_run.proofs.carried.carried_texts.Goals as goal

pub returns : goal.returns
returns c =
    let copies = bytes_of c.args.files.now.copies.now in
    let taken = files_taken c.args.files.now in
    let verdicts = c.args.held.now.faultless.items in
    let station = c.args.held.now.station in
    let between = c.in-Some.between in
    let is_alone = c.is_none_faultless-is_alone.result in
    let given : c.partial-given.result.now ≡ station = c.partial-given.ensures in
    let texts = subst (λ (o : Option MadeValue). IfSome o (AreTextsOfJudged (task_of c.args.task.now) copies taken c.args.all.now station
    between is_alone)) c.in-Some-2.is c.in_ok-made.ensures in (
      none_there c.args.held.now.cut (sym c.is_some.ensures ∙ c.if-is_some.false),
      record {
        between = between;
        is_alone = is_alone;
        texts = texts;
        is_carried = record {
          alone = (
            λ alone. none_is_faultless taken verdicts c.requires.verdicts
                (subst (λ (vs : List Bool). AllByRecursion (λ v. v ≡ false) vs) c.deref.ensures.value
                (c.is_none_faultless-is_alone.ensures.none alone)),
            found_none taken verdicts c.requires.verdicts is_alone
                (λ no. subst (λ (vs : List Bool). Contains vs true) c.deref.ensures.value (c.is_none_faultless-is_alone.ensures.some no)),
          );
          are_mended = subst (λ (o : Option Between). IfSome o (λ b. AreMendedOf copies (codings_of b.judged.codings.items)
              (map file_of b.judged.files.items))) c.in-Some.is c.in_ok-between.ensures.mended;
          shape_is = subst (λ (o : Option Between). IfSome o (λ b. b.judged.held.shape ≡ c.to_owned-shape.result)) c.in-Some.is
              c.in_ok-between.ensures.shape
              ∙ c.to_owned-shape.ensures ∙ c.shape.ensures.value ∙ ap (λ (p : PartialPicture). p.shape) given;
          marks_are = subst (λ (o : Option Between). IfSome o (λ b. b.judged.held.marks ≡ set.empty)) c.in-Some.is
              c.in_ok-between.ensures.marks;
          are_held = subst (λ (o : Option Between). IfSome o (λ b. AreReadingsHeld (map file_of b.judged.files.items) b.judged.held))
              c.in-Some.is c.in_ok-between.ensures.held;
          all_held = texts.all_held;
          each_reads = texts.each_read;
        };
      },
    )
