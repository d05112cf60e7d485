use Rattle.std.proofs.Common.{◌≡◌, ℕ, Bool, true, List, Vec, Global, Option, Some, map, ap, sym, ◌∙◌, subst}
use Rattle.std.specs.Prelude.{◌↔◌, IsTrue, IfSome, option_map}
use Rattle.std.specs.List.{AllByRecursion}
use Rattle.jls_diff.specs.PartsOf.{bytes_of}
use Rattle.jls_partial.specs.Partial.{PartialPicture}
use Rattle.jls_partial.specs.Status.{IsSettled}
use Rattle.jls_search.specs.Faultless.{IsFaultless}
use Rattle.jls_search.specs.Files.{AreVerdicts, files_taken}
use Rattle.jls_held.specs.MendedFiles.{MendedFile}
use Rattle.jls_held.specs.Judging.{AreMendedOf, EditedCopy, codings_of}
use Rattle.jls_held.specs.Mending.{file_of}
use Rattle.jls_held.specs.declared.judging.EditedCopy.{EditedCopy as EditedValue}
use Rattle.jls_held.specs.declared.mending.MendedCopy.{MendedCopy}
use Rattle.jls_splice_run.specs.Carrying.{Carried, IsHandedOut, carried_file, carried_files, carried_of, carried_out, carried_promise}
use Rattle.jls_splice_run.specs.Carrying.{files_beside, handed_by, joined, promise_for}
use Rattle.jls_splice_run.specs.Completing.{IsCompletedIn}
use Rattle.jls_splice_run.specs.Listing.{AreCompleted, AreNamedAsked, named_files}
use Rattle.jls_splice_run.specs.Making.{AreTextsOf, carried_made}
use Rattle.jls_splice_run.specs.ReadsAs.{EachReadsAs}
use Rattle.jls_splice_run.specs.Tasks.{task_of}
use Rattle.jls_splice_run.specs.declared.handed_out.HandedOut.{HandedOut}
use Rattle.jls_splice_run.specs.declared.found.Promise.TheVariants.{Held}
use Rattle.jls_splice_run.proofs.BesideFiles.{none_has_a_fault, promised_are_read}
use Rattle.jls_splice_run.proofs.carried.texts_of_judged.Goals as goal

pub texts_of_handed-requires-clause-verdicts : goal.texts_of_handed-requires-clause-verdicts
texts_of_handed-requires-clause-verdicts c =
    subst (AreVerdicts (files_taken c.args.files.now)) (sym c.deref-2.ensures.value) c.requires.verdicts

pub texts_of_handed-requires-clause-mended : goal.texts_of_handed-requires-clause-mended
texts_of_handed-requires-clause-mended c =
    let copies = bytes_of c.args.files.now.copies.now in
    let judged = c.args.between.judged in
    let out = c.in-Some.out in
    let codings = subst (λ (o : Option HandedOut). IfSome o (λ h. h.codings ≡ judged.codings)) c.in-Some.is c.in_ok-out.ensures.codings in
    let mended = subst (λ (o : Option HandedOut). IfSome o (λ h. h.mended ≡ judged.files)) c.in-Some.is c.in_ok-out.ensures.mended in
    subst (λ (v : Vec (Vec EditedValue Global) Global). AreMendedOf copies (codings_of v.items) (map file_of out.mended.items)) (sym codings)
    (subst (λ (v : Vec MendedCopy Global). AreMendedOf copies (codings_of judged.codings.items) (map file_of v.items)) (sym mended)
    c.requires.mended)

pub texts_of_handed-requires-clause-faultless : goal.texts_of_handed-requires-clause-faultless
texts_of_handed-requires-clause-faultless c = λ held.
    let judged = c.args.between.judged in
    let codings = codings_of judged.codings.items in
    let strangers = c.args.between.strangers.items in
    let out = c.in-Some.out in
    let mended = subst (λ (o : Option HandedOut). IfSome o (λ h. h.mended ≡ judged.files)) c.in-Some.is c.in_ok-out.ensures.mended in
    let read = subst (λ (o : Option HandedOut). IfSome o (λ h. IsTrue h.are_read → EachReadsAs judged.held (map file_of judged.files.items)))
    c.in-Some.is c.in_ok-out.ensures.read in
    let promise = subst (λ (o : Option HandedOut). IfSome o (λ h. h.promise ≡ promise_for codings strangers h.is_held h.are_read))
    c.in-Some.is c.in_ok-out.ensures.promise in
    subst (λ (v : Vec MendedCopy Global). AllByRecursion (λ (f : MendedFile). IsFaultless f.bytes) (map file_of v.items)) (sym mended)
    (none_has_a_fault judged.held (map file_of judged.files.items)
    (read (promised_are_read codings strangers out.is_held out.are_read (sym promise ∙ held))))

pub returns : goal.returns
returns c =
    let a = task_of c.args.task.now in
    let source = c.args.task.now.options.source in
    let copies = bytes_of c.args.files.now.copies.now in
    let taken = files_taken c.args.files.now in
    let all = c.args.all.now in
    let station = c.args.taken.now.station in
    let is_alone = c.args.is_alone in
    let between = c.args.between in
    let judged = between.judged in
    let out = c.in-Some.out in
    let made = c.in_ok-made.made in
    let single = option_map (λ (f : Vec ℕ Global). f.items) made.file in
    let named = named_files made.files.items in
    let carried = carried_of between is_alone out.is_held out.are_read in
    let codings = subst (λ (o : Option HandedOut). IfSome o (λ h. h.codings ≡ judged.codings)) c.in-Some.is c.in_ok-out.ensures.codings in
    let mended = subst (λ (o : Option HandedOut). IfSome o (λ h. h.mended ≡ judged.files)) c.in-Some.is c.in_ok-out.ensures.mended in
    let strangers = subst (λ (o : Option HandedOut). IfSome o (λ h. h.strangers ≡ between.strangers)) c.in-Some.is
    c.in_ok-out.ensures.strangers in
    let same : carried_out out judged.held is_alone ≡ carried =
    λ i. record {
      codings = codings_of (codings i).items;
      files = map file_of (mended i).items;
      strangers = (strangers i).items;
      held = judged.held;
      is_alone = is_alone;
      is_held = out.is_held;
      are_read = out.are_read;
    } in
    let promise : out.promise ≡ carried_promise carried =
    subst (λ (o : Option HandedOut). IfSome o (λ h. h.promise
    ≡ promise_for (codings_of judged.codings.items) between.strangers.items h.is_held h.are_read)) c.in-Some.is
    c.in_ok-out.ensures.promise in
    let shown : out.picture ≡ handed_by out.promise source judged.held c.partial-given.result.now =
    subst (λ (o : Option HandedOut). IfSome o (λ h. h.picture ≡ handed_by h.promise source judged.held c.partial-given.result.now))
    c.in-Some.is c.in_ok-out.ensures.picture in
    let picture : out.picture ≡ joined source (Some carried) station =
    shown ∙ (λ i. handed_by (promise i) source judged.held (c.partial-given.ensures i)) in
    let is : IsHandedOut source judged.held station is_alone out = record {
      promise_is = promise ∙ ap carried_promise (sym same);
      picture_is = picture ∙ ap (λ (x : Carried). joined source (Some x) station) (sym same);
    } in
    let first : carried_file a.options.file out.promise (map file_of out.mended.items)
    ≡ carried_file a.options.file (carried_promise carried) (map file_of judged.files.items) =
    λ i. carried_file a.options.file (promise i) (map file_of (mended i).items) in
    let beside : files_beside out.promise (map file_of out.mended.items) taken
    ≡ files_beside (carried_promise carried) (map file_of judged.files.items) taken =
    λ i. files_beside (promise i) (map file_of (mended i).items) taken in
    record {
      is_held = out.is_held;
      is_settled = out.is_settled;
      are_read = out.are_read;
      each_read = subst (λ (o : Option HandedOut). IfSome o (λ h. IsTrue h.are_read
          → EachReadsAs judged.held (map file_of judged.files.items))) c.in-Some.is c.in_ok-out.ensures.read;
      all_held = subst (λ (o : Option HandedOut). IfSome o (λ h. IsTrue h.is_held ↔ IsSettled judged.held)) c.in-Some.is
          c.in_ok-out.ensures.held;
      settled = subst (λ (p : PartialPicture). IsTrue out.is_settled ↔ IsSettled p) picture
          (subst (λ (o : Option HandedOut). IfSome o (λ h. IsTrue h.is_settled ↔ IsSettled h.picture)) c.in-Some.is
          c.in_ok-out.ensures.settled);
      texts = λ lone. subst (λ (x : Carried). AreTextsOf a copies (carried_made source all lone station x out.is_settled made) made) same
          (c.in_ok-made.ensures.texts judged.held station is lone);
      single = (
        λ alone. subst (λ (o : Option (List ℕ)). IsCompletedIn o single) first (c.in_ok-made.ensures.single alone),
        c.in_ok-made.ensures.no_single,
      );
      named = (
        λ alone. subst (λ (v : Vec MendedCopy Global). AreCompleted (carried_files a.options.files (map file_of v.items)) named) mended
            (c.in_ok-made.ensures.named alone),
        λ no. subst (λ (fs : List (List ℕ)). AreNamedAsked a.options.files fs named) beside (c.in_ok-made.ensures.named_beside no),
      );
    }
