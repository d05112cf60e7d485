use Rattle.std.proofs.Common.{◌≡◌, ℕ, ◌<◌, Bool, true, List, [], ◌++◌, Vec, Global, Bor, Option, Some, None, drop, length, map, ap, refl, sym}
use Rattle.std.proofs.Common.{◌∙◌, subst, arith}
use Rattle.std.specs.Prelude.{◌^◌, codes, option_map, if◌then◌else◌}
use Rattle.std.specs.Str.{bytes_eq}
use Rattle.jls_diff.specs.PartsOf.{bytes_of}
use Rattle.jls_diff.proofs.Slices.{count_of_slices}
use Rattle.jls_report.specs.Report.{report_of}
use Rattle.jls_report.specs.ReportText.{report_text}
use Rattle.jls_search.specs.Search.{lists_of}
use Rattle.jls_search.specs.Files.{AreVerdicts, files_taken, splices_found}
use Rattle.jls_search.specs.Found.{found_of, splices_in}
use Rattle.jls_held.specs.Judging.{codings_of}
use Rattle.jls_held.specs.MendedFiles.{MendedFile}
use Rattle.jls_held.specs.Mending.{file_of}
use Rattle.jls_held.specs.declared.judging.EditedCopy.{EditedCopy}
use Rattle.jls_held.specs.declared.mending.MendedCopy.{MendedCopy}
use Rattle.jls_carried.specs.CodingLines.{HavePrintedNumbers}
use Rattle.jls_partial.specs.Text.{text}
use Rattle.jls_splice_run.specs.Tasks.{texts_of}
use Rattle.jls_splice_run.specs.Ceilings.{has_some}
use Rattle.jls_splice_run.specs.Carrying.{carried_file, carried_files, carried_out, carried_promise, files_beside}
use Rattle.jls_splice_run.specs.Carrying.{verdicts_beside}
use Rattle.jls_splice_run.specs.CodingLines.{carried_noted_text, carried_text}
use Rattle.jls_splice_run.specs.Differences.{differences}
use Rattle.jls_splice_run.specs.Completing.{IsCompletedIn}
use Rattle.jls_splice_run.specs.Files.{count_new, is_eoi_added}
use Rattle.jls_splice_run.specs.Listing.{AreCompleted, AreNamedAsked, named_file, named_files}
use Rattle.jls_splice_run.specs.Making.{files_held, files_reported, groups_reported, lacks_single, ceiling_reported}
use Rattle.jls_splice_run.specs.declared.found.SearchReport.{SearchReport}
use Rattle.jls_splice_run.proofs.BesideFiles.{are_verdicts_beside, more_beside}
use Rattle.jls_splice_run.proofs.CarriedCopies.{are_printed, carried_file_maps}
use Rattle.jls_splice_run.proofs.MakingLemmas.{lacks_maps, reported_maps}
use Rattle.jls_splice_run.proofs.carried.texts_of_handed.Goals as goal

pub numbered_files-requires-clause-verdicts : goal.numbered_files-requires-clause-verdicts
numbered_files-requires-clause-verdicts c =
    let out = c.args.out.now in
    let copies = bytes_of c.args.files.now.copies.now in
    let found = splices_found c.args.files.now in
    let mended = map file_of out.mended.items in
    let of_taken = c.args.verdicts.now in
    let beside : bytes_of c.deref-3.result.now ++ found ≡ files_beside out.promise mended (copies ++ found) =
    (λ i. bytes_of (c.deref-3.ensures.value i) ++ found) ∙ ap (λ (xs : List (List ℕ)). xs ++ found) c.in_ok-beside.ensures.copies
    ∙ (λ i. files_beside out.promise (map file_of (c.deref-2.ensures.value i)) copies ++ found)
    ∙ more_beside out.promise mended copies found in
    let verdicts : c.deref-4.result.now ≡ verdicts_beside out.promise mended of_taken =
    c.deref-4.ensures.value ∙ c.in_ok-beside.ensures.verdicts
    ∙ (λ i. verdicts_beside out.promise (map file_of (c.deref-2.ensures.value i)) of_taken) in
    subst (λ (vs : List Bool). AreVerdicts (bytes_of c.deref-3.result.now ++ found) vs) (sym verdicts)
    (subst (λ (fs : List (List ℕ)). AreVerdicts fs (verdicts_beside out.promise mended of_taken)) (sym beside)
    (are_verdicts_beside (copies ++ found) of_taken c.requires.verdicts out.promise mended c.requires.faultless))

pub lines_of_carried-requires-clause-numbers : goal.lines_of_carried-requires-clause-numbers
lines_of_carried-requires-clause-numbers c =
    let slices = c.args.files.now.copies.now in
    let out = c.args.out.now in
    let counted = count_of_slices slices in
    let few : length (bytes_of slices) < 2 ^ 64 = omega (arith, counted, c.count_copies-count.ensures, c.count_copies-count.type_inv) in
    subst (λ (codings : List (Vec EditedCopy Global)). HavePrintedNumbers (codings_of codings)) (sym c.deref-9.ensures.value)
    (are_printed (bytes_of slices) few (codings_of out.codings.items) (map file_of out.mended.items) c.requires.mended)

pub notes_of_carried-requires : goal.notes_of_carried-requires
notes_of_carried-requires c =
    let slices = c.args.files.now.copies.now in
    let out = c.args.out.now in
    let counted = count_of_slices slices in
    let few : length (bytes_of slices) < 2 ^ 64 = omega (arith, counted, c.count_copies-count.ensures, c.count_copies-count.type_inv) in
    subst (λ (codings : List (Vec EditedCopy Global)). HavePrintedNumbers (codings_of codings)) (sym c.deref-11.ensures.value)
    (are_printed (bytes_of slices) few (codings_of out.codings.items) (map file_of out.mended.items) c.requires.mended)

pub returns-clause-texts : goal.returns-clause-texts
returns-clause-texts c = λ held given is lone.
    let found = c.args.all.now.splices in
    let parts = found.parts in
    let lists = lists_of found.splices.items in
    let slices = c.args.files.now.copies.now in
    let copies = bytes_of slices in
    let options = c.args.task.now.options in
    let name = c.args.task.now.out.now in
    let out = c.args.out.now in
    let mended = map file_of out.mended.items in
    let is_alone = c.args.is_alone in
    let carried = carried_out out held is_alone in
    let promise : out.promise ≡ carried_promise carried = is.promise_is in
    let file = c.in_ok-file.file in
    let single = option_map (λ (f : Vec ℕ Global). f.items) file in
    let name_asked = option_map (λ (s : Bor (List ℕ)). s.now) options.file in
    let prefix_asked = option_map (λ (s : Bor (List ℕ)). s.now) options.files in
    let numbered = c.in_ok-numbered.numbered.items in
    let taken = files_taken c.args.files.now in
    let all_taken : taken ≡ copies ++ splices_in (found_of found) = ap (λ (xs : List (List ℕ)). copies ++ xs) c.requires.splices in
    let beside : bytes_of c.deref-3.result.now ++ splices_found c.args.files.now ≡ files_beside (carried_promise carried) mended taken =
    (λ i. bytes_of (c.deref-3.ensures.value i) ++ splices_found c.args.files.now)
    ∙ ap (λ (xs : List (List ℕ)). xs ++ splices_found c.args.files.now) c.in_ok-beside.ensures.copies
    ∙ (λ i. files_beside (promise i) (map file_of (c.deref-2.ensures.value i)) copies ++ splices_found c.args.files.now)
    ∙ more_beside (carried_promise carried) mended copies (splices_found c.args.files.now) in
    let added : c.in_ok-is_added.is_added
    ≡ is_eoi_added (files_held is_alone (carried_promise carried) mended (copies ++ splices_in (found_of found))) single
    (named_files numbered) =
    c.in_ok-is_added.ensures
    ∙ (λ i. is_eoi_added (if is_alone then map (λ (f : MendedFile). f.bytes) (map file_of (c.deref-6.ensures.value i)) else beside i) single
    (named_files (c.deref-7.ensures.value i)))
    ∙ (λ i. is_eoi_added (files_held is_alone (carried_promise carried) mended (all_taken i)) single (named_files numbered)) in
    let count : c.count_copies-count.result ≡ length copies = c.count_copies-count.ensures ∙ sym (count_of_slices slices) in
    let new : c.in_ok-splices.splices ≡ count_new copies (splices_in (found_of found)) =
    c.in_ok-splices.ensures ∙ ap (count_new copies) c.requires.splices in
    let groups : c.groups_reported.result ≡ groups_reported (found_of found).by_groups =
    c.groups_reported.ensures (drop found.whole lists) in
    let lacks : c.lacks_file.result ≡ lacks_single name_asked single =
    c.lacks_file.ensures ∙ sym (lacks_maps (λ (s : Bor (List ℕ)). s.now) (λ (f : Vec ℕ Global). f.items) options.file file) in
    let files : c.files_reported.result ≡ files_reported prefix_asked (named_files numbered) =
    c.files_reported.ensures ∙ (λ i. files_reported options.files (c.deref-8.ensures.value i))
    ∙ sym (reported_maps (λ (s : Bor (List ℕ)). s.now) named_file options.files numbered) in
    let reported : SearchReport = record {
      splices = c.in_ok-splices.splices;
      is_used_up = found.is_used_up;
      ceiling = c.ceiling_reported.result;
      by_groups = c.groups_reported.result;
      before = None;
      files = c.files_reported.result;
      is_eoi_added = c.in_ok-is_added.is_added;
      lacks_single_file = c.lacks_file.result;
      has_lists = c.has_lists.result;
      promise = out.promise;
    } in
    let report : reported ≡ record {
      splices = count_new copies (splices_in (found_of found));
      is_used_up = found.is_used_up;
      ceiling = ceiling_reported options.ceiling found.ceiling;
      by_groups = groups_reported (found_of found).by_groups;
      before = None;
      files = files_reported prefix_asked (named_files numbered);
      is_eoi_added = is_eoi_added (files_held is_alone (carried_promise carried) mended (copies ++ splices_in (found_of found))) single
          (named_files numbered);
      lacks_single_file = lacks_single name_asked single;
      has_lists = has_some (texts_of c.args.task.now.bad.now);
      promise = carried_promise carried;
    } =
    λ i. record {
      splices = new i;
      is_used_up = found.is_used_up;
      ceiling = c.ceiling_reported.ensures i;
      by_groups = groups i;
      before = None;
      files = files i;
      is_eoi_added = added i;
      lacks_single_file = lacks i;
      has_lists = c.has_lists.ensures i;
      promise = promise i;
    } in
    record {
      lines_are = c.in_ok-lines.ensures
          ∙ (λ i. if bytes_eq name (codes "-") then []
          else carried_text (differences parts) (count i) (codings_of (c.deref-9.ensures.value i)) (c.deref-10.ensures.value i) (report i)
          ++ report_text (report_of (is.picture_is i)));
      notes_are = c.in_ok-notes.ensures
          ∙ (λ i. if bytes_eq name (codes "-")
          then carried_noted_text (count i) (codings_of (c.deref-11.ensures.value i)) (c.deref-12.ensures.value i) (report i) else []);
      text_is = c.in_ok-text.ensures ∙ ap text is.picture_is;
      file_is = refl;
      files_are = refl;
      promise_is = promise;
    }

pub returns-clause-single : goal.returns-clause-single
returns-clause-single c = λ alone.
    let out = c.args.out.now in
    let options = c.args.task.now.options in
    let mended = map file_of out.mended.items in
    let single = option_map (λ (f : Vec ℕ Global). f.items) c.in_ok-file.file in
    let name_asked = option_map (λ (s : Bor (List ℕ)). s.now) options.file in
    let of_first : carried_file options.file out.promise (map file_of c.deref.result.now) ≡ carried_file name_asked out.promise mended =
    (λ i. carried_file options.file out.promise (map file_of (c.deref.ensures.value i)))
    ∙ sym (carried_file_maps (λ (s : Bor (List ℕ)). s.now) options.file out.promise mended) in
    subst (λ (o : Option (List ℕ)). IsCompletedIn o single) of_first (c.in_ok-file.ensures.mended alone)

pub returns-clause-no_single : goal.returns-clause-no_single
returns-clause-no_single c = c.in_ok-file.ensures.none

pub returns-clause-named : goal.returns-clause-named
returns-clause-named c = λ alone.
    let prefix_asked = option_map (λ (s : Bor (List ℕ)). s.now) c.args.task.now.options.files in
    let named = named_files c.in_ok-numbered.numbered.items in
    subst (λ (fs : List MendedCopy). AreCompleted (carried_files prefix_asked (map file_of fs)) named) c.deref-5.ensures.value
    (c.in_ok-numbered.ensures.mended alone)

pub returns-clause-named_beside : goal.returns-clause-named_beside
returns-clause-named_beside c = λ no.
    let out = c.args.out.now in
    let copies = bytes_of c.args.files.now.copies.now in
    let found = splices_found c.args.files.now in
    let mended = map file_of out.mended.items in
    let prefix_asked = option_map (λ (s : Bor (List ℕ)). s.now) c.args.task.now.options.files in
    let named = named_files c.in_ok-numbered.numbered.items in
    let beside : bytes_of c.deref-3.result.now ++ found ≡ files_beside out.promise mended (files_taken c.args.files.now) =
    (λ i. bytes_of (c.deref-3.ensures.value i) ++ found) ∙ ap (λ (xs : List (List ℕ)). xs ++ found) c.in_ok-beside.ensures.copies
    ∙ (λ i. files_beside out.promise (map file_of (c.deref-2.ensures.value i)) copies ++ found)
    ∙ more_beside out.promise mended copies found in
    subst (λ (fs : List (List ℕ)). AreNamedAsked prefix_asked fs named) beside (c.in_ok-numbered.ensures.taken no)
