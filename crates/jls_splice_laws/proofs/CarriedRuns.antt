-- Runs that promise the picture of lines that mended files hold.
use Rattle.std.proofs.Common.{◌≡◌, ℕ, Bool, true, false, List, [], ◌∷◌, Option, Some, None, refl, sym, ap, ◌∙◌, arith, subst}
use Rattle.std.specs.Prelude.{IfSome, if◌then◌else◌, length, nat_eq}
use Rattle.std.proofs.lemmas.Bool.{eqb-true}
use Rattle.jls_values.proofs.Lists.{all_at}
use Rattle.jls_held.specs.MendedFiles.{MendedFile}
use Rattle.jls_partial.specs.Partial.{PartialPicture, with_source}
use Rattle.jls_partial.specs.Status.{IsSettled}
use Rattle.jls_search.specs.Found.{Found}
use Rattle.jls_carry_laws.specs.TrueFiles.{PictureLines, AreFilesOfBytes, HaveTrueFilesOfTheirSkeletons}
use Rattle.jls_carry_laws.specs.Laws.{HasPictureLines, JudgedFilesHaveTrueBytes, SettledHeldLinesAreThePicture}
use Rattle.jls_carried.specs.CodingLines.{are_all_printed}
use Rattle.jls_splice_run.specs.Carrying.{Carried, IsCarried, carried_promise, handed_by, joined}
use Rattle.jls_splice_run.specs.Copies.{bytes_read}
use Rattle.jls_splice_run.specs.Making.{Made, files_taken, promise_with}
use Rattle.jls_splice_run.specs.Ceilings.{has_some}
use Rattle.jls_splice_run.specs.ReadsAs.{EachReadsAs, ReadsAs}
use Rattle.jls_splice_run.specs.declared.found.Promise.{Promise}
use Rattle.jls_splice_run.specs.declared.found.Promise.TheVariants.{Held, Picture, Lines}
use Rattle.jls_station.specs.Given.{marked}
use Rattle.jls_splice_laws.specs.CarryLaws.{CarriedRunsGiveNoOther}
use Rattle.jls_splice_laws.proofs.TrueCodings.{have_true_files}

-- The promise ------------------------------------------------------------------------------------------------------

-- what the promise stands on
record OfHeld (carried : Option Carried) : Type 0 where
  what : Carried
  carried_is : carried ≡ Some what
  promise_is : carried_promise what ≡ Held
  held : what.is_held ≡ true
  are_read : what.are_read ≡ true
  printed : are_all_printed what.codings ≡ true
  none_strange : what.strangers ≡ []

none_of : (strangers : List ℕ) → nat_eq (length strangers) 0 ≡ true → strangers ≡ []
none_of [] e = refl
none_of (s ∷ strangers) e = absurd (let l : length (s ∷ strangers) ≡ 0 = eqb-true (length (s ∷ strangers)) 0 e in omega (arith, l))

promised : (carried : Option Carried) (ceiling : Option ℕ) (f : Found) (is_settled : Bool)
    → promise_with carried ceiling f is_settled ≡ Held → OfHeld carried
promised None ceiling f is_settled e = absurd (by f.is_used_up (has_some f.choices) is_settled e)
  where
    by : (used some all : Bool) → (if used then Lines else (if some then (if all then Picture ceiling else Lines) else Lines)) ≡ Held → ⊥
    by true some all e = cc
    by false false all e = cc
    by false true false e = cc
    by false true true e = cc
promised (Some c) ceiling f is_settled e =
    let all = by c.is_held c.are_read (are_all_printed c.codings) (nat_eq (length c.strangers) 0) e in
    record {
      what = c;
      carried_is = refl;
      promise_is = e;
      held = all.0;
      are_read = all.1;
      printed = all.2;
      none_strange = none_of c.strangers all.3;
    }
  where
    by : (held read printed none : Bool)
        → (if held then (if read then (if (if printed then none else false) then Held else Lines) else Lines) else Lines) ≡ Held
        → (held ≡ true) × (read ≡ true) × (printed ≡ true) × (none ≡ true)
    by false read printed none e = absurd cc
    by true false printed none e = absurd cc
    by true true false none e = absurd cc
    by true true true false e = absurd cc
    by true true true true e = (refl, refl, refl, refl)

-- The picture ------------------------------------------------------------------------------------------------------

-- a source changes no reading
settled_marked : (source : Option ℕ) (p : PartialPicture) → IsSettled p → IsSettled (marked source p)
settled_marked None p settled = settled
settled_marked (Some number) p settled = settled

reads_marked : (number : ℕ) (p : PartialPicture) (files : List MendedFile) → EachReadsAs p files → EachReadsAs (with_source p number) files
reads_marked number p [] each = tt
reads_marked number p (f ∷ files) each = (
  record {
    are_bytes = each.0.are_bytes;
    faultless = each.0.faultless;
    read = each.0.read;
    reads = each.0.reads;
    ends = each.0.ends;
    same_size = each.0.same_size;
    each_alike = each.0.each_alike;
  },
  reads_marked number p files each.1,
)

read_marked : (source : Option ℕ) (p : PartialPicture) (files : List MendedFile) → EachReadsAs p files → EachReadsAs (marked source p) files
read_marked None p files each = each
read_marked (Some number) p files each = reads_marked number p files each

lines_marked : (source : Option ℕ) (p : PartialPicture) (picture : PictureLines) → HasPictureLines picture p
    → HasPictureLines picture (marked source p)
lines_marked None p picture has = has
lines_marked (Some number) p picture has = has

-- The law ----------------------------------------------------------------------------------------------------------

pub carried_runs_give_no_other : SettledHeldLinesAreThePicture → JudgedFilesHaveTrueBytes → CarriedRunsGiveNoOther
carried_runs_give_no_other settled_held judged words a desk report faults d promises =
    let m : Made = d.made in
    let copies : List (List ℕ) = bytes_read d.copies in
    let p = promised m.carried m.ceiling m.found m.is_settled promises in
    let c : Carried = p.what in
    let found =
    subst (λ (o : Option Carried). IfSome o (λ c. IsCarried copies (files_taken copies m.found) m.given.shape c × (m.cut ≡ None)))
    p.carried_is d.is_made.is_carried in
    let is : IsCarried copies (files_taken copies m.found) m.given.shape c = found.0 in
    let each : EachReadsAs c.held c.files = is.each_reads p.are_read in
    let low : AreFilesOfBytes c.files =
    λ f among. (all_at (λ (f : MendedFile). ReadsAs c.held f.bytes) c.files f each among).are_bytes in
    let source = a.options.source in
    let picture_is : m.picture ≡ marked source c.held =
    d.is_made.picture_is ∙ ap (λ (o : Option Carried). joined source o m.given) p.carried_is
    ∙ ap (λ (promise : Promise). handed_by promise source c.held m.given) p.promise_is in
    let held : IsSettled c.held = is.all_held.0 p.held in
    let no_other : (picture : PictureLines) → HaveTrueFilesOfTheirSkeletons picture c.files → HasPictureLines picture m.picture =
    λ picture have. subst (HasPictureLines picture) (sym picture_is)
    (lines_marked source c.held picture (settled_held c.files picture low have c.held held is.are_held)) in
    record {
      carried = c;
      carried_is = p.carried_is;
      are_mended = is.are_mended;
      are_printed = p.printed;
      none_strange = p.none_strange;
      held = held;
      settled = subst IsSettled (sym picture_is) (settled_marked source c.held held);
      each_reads = subst (λ (p : PartialPicture). EachReadsAs p c.files) (sym picture_is) (read_marked source c.held c.files each);
      no_other = no_other;
      no_other_of_copies = λ picture are. no_other picture (have_true_files judged picture copies c.codings c.files is.are_mended are);
    }
