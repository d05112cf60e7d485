use Rattle.std.proofs.Common.{◌≡◌, ℕ, List, [], ◌++◌, drop, Vec, Global, Bor, ap, refl, sym, ◌∙◌, subst}
use Rattle.std.specs.Prelude.{◌↔◌, IsTrue, codes, option_map, if◌then◌else◌}
use Rattle.std.specs.Str.{bytes_eq}
use Rattle.jls_diff.specs.PartsOf.{bytes_of}
use Rattle.jls_report.specs.Report.{report_of}
use Rattle.jls_report.specs.ReportText.{report_text}
use Rattle.jls_search.specs.Files.{AreVerdicts}
use Rattle.jls_search.specs.Files as given
use Rattle.jls_search.specs.Search.{lists_of}
use Rattle.jls_search.specs.Found.{found_of, splices_in}
use Rattle.jls_splice_run.specs.Tasks.{texts_of}
use Rattle.jls_splice_run.specs.Ceilings.{has_some}
use Rattle.jls_splice_run.specs.Files.{count_new, is_eoi_added}
use Rattle.jls_partial.specs.Partial.{PartialPicture}
use Rattle.jls_partial.specs.Status.{IsSettled}
use Rattle.jls_partial.specs.Text.{text}
use Rattle.jls_splice_run.specs.Differences.{differences}
use Rattle.jls_splice_run.specs.Lines.{found_text, noted_text}
use Rattle.jls_splice_run.specs.Making.{cut_end, files_reported, groups_reported, lacks_single, ceiling_reported, promise_of}
use Rattle.jls_splice_run.specs.declared.found.SearchReport.{SearchReport}
use Rattle.jls_splice_run.specs.Listing.{AreNamedAsked, named_file, named_files}
use Rattle.jls_splice_run.specs.Single.{IsSingleAsked}
use Rattle.jls_splice_run.proofs.MakingLemmas.{lacks_maps, mapped_twice, single_maps, reported_maps}
use Rattle.jls_splice_run.proofs.made.texts_of.Goals as goal

pub returns-clause-texts : goal.returns-clause-texts
returns-clause-texts c = (
  c.is_settled-settled.result,
  subst (λ (p : PartialPicture). IsTrue c.is_settled-settled.result ↔ IsSettled p) c.partial-partial.ensures c.is_settled-settled.ensures,
  λ lone.
      let found = c.args.all.now.splices in
      let ceiling = c.args.all.now.cut_ceiling in
      let parts = found.parts in
      let lists = lists_of found.splices.items in
      let copies = bytes_of c.args.files.now.copies.now in
      let options = c.args.task.now.options in
      let cut = c.args.held.now.cut in
      let file = c.in_ok-file.file in
      let name_asked = option_map (λ (s : Bor (List ℕ)). s.now) options.file in
      let single = option_map (λ (f : Vec ℕ Global). f.items) file in
      let new : c.in_ok-splices.splices ≡ count_new copies (splices_in (found_of found)) =
      c.in_ok-splices.ensures ∙ ap (count_new copies) c.requires.splices in
      let groups : c.groups_reported.result ≡ groups_reported (found_of found).by_groups =
      c.groups_reported.ensures (drop found.whole lists) in
      let before : c.cut_end.result ≡ option_map (cut_end parts ceiling) (option_map (λ (v : Vec ℕ Global). v.items) cut) =
      c.cut_end.ensures ∙ sym (mapped_twice (cut_end parts ceiling) (λ (v : Vec ℕ Global). v.items) cut) in
      let lacks : c.lacks_file.result ≡ lacks_single name_asked single =
      c.lacks_file.ensures ∙ sym (lacks_maps (λ (s : Bor (List ℕ)). s.now) (λ (f : Vec ℕ Global). f.items) options.file file) in
      let numbered = c.in_ok-numbered.numbered.items in
      let files : c.files_reported.result ≡ files_reported (option_map (λ (s : Bor (List ℕ)). s.now) options.files) (named_files numbered) =
      c.files_reported.ensures ∙ (λ i. files_reported options.files (c.deref-2.ensures.value i))
      ∙ sym (reported_maps (λ (s : Bor (List ℕ)). s.now) named_file options.files numbered) in
      let added : c.in_ok-is_added.is_added ≡ is_eoi_added (copies ++ splices_in (found_of found)) single (named_files numbered) =
      c.in_ok-is_added.ensures
      ∙ (λ i. is_eoi_added (copies ++ c.requires.splices i) single (named_files (c.deref.ensures.value i))) in
      let name = c.args.task.now.out.now in
      let reported : SearchReport = record {
        splices = c.in_ok-splices.splices;
        is_used_up = found.is_used_up;
        ceiling = c.ceiling_reported.result;
        by_groups = c.groups_reported.result;
        before = c.cut_end.result;
        files = c.files_reported.result;
        is_eoi_added = c.in_ok-is_added.is_added;
        lacks_single_file = c.lacks_file.result;
        has_lists = c.has_lists.result;
        promise = c.promise_of-promise.result;
      } in
      let report : reported ≡ record {
        splices = count_new copies (splices_in (found_of found));
        is_used_up = found.is_used_up;
        ceiling = ceiling_reported options.ceiling found.ceiling;
        by_groups = groups_reported (found_of found).by_groups;
        before = option_map (cut_end parts ceiling) (option_map (λ (v : Vec ℕ Global). v.items) cut);
        files = files_reported (option_map (λ (s : Bor (List ℕ)). s.now) options.files) (named_files numbered);
        is_eoi_added = is_eoi_added (copies ++ splices_in (found_of found)) single (named_files numbered);
        lacks_single_file = lacks_single name_asked single;
        has_lists = has_some (texts_of c.args.task.now.bad.now);
        promise = promise_of found.ceiling (found_of found) c.is_settled-settled.result;
      } =
      λ i. record {
        splices = new i;
        is_used_up = found.is_used_up;
        ceiling = c.ceiling_reported.ensures i;
        by_groups = groups i;
        before = before i;
        files = files i;
        is_eoi_added = added i;
        lacks_single_file = lacks i;
        has_lists = c.has_lists.ensures i;
        promise = c.promise_of-promise.ensures i;
      } in
      record {
        lines_are = c.in_ok-lines.ensures
            ∙ (λ i. if bytes_eq name (codes "-") then []
            else found_text (differences parts) (report i) ++ report_text (report_of (c.partial-partial.ensures i)));
        notes_are = c.in_ok-notes.ensures ∙ (λ i. if bytes_eq name (codes "-") then noted_text (report i) else []);
        text_is = c.in_ok-text.ensures ∙ ap text c.partial-partial.ensures;
        file_is = refl;
        files_are = refl;
        promise_is = c.promise_of-promise.ensures;
      },
)

pub returns-clause-single : goal.returns-clause-single
returns-clause-single c =
    let found = c.args.all.now.splices in
    let copies = bytes_of c.args.files.now.copies.now in
    let options = c.args.task.now.options in
    let single = option_map (λ (f : Vec ℕ Global). f.items) c.in_ok-file.file in
    single_maps (λ (s : Bor (List ℕ)). s.now) options.file (copies ++ splices_in (found_of found)) single
    (subst (λ (xs : List (List ℕ)). IsSingleAsked options.file (copies ++ xs) single) c.requires.splices c.in_ok-file.ensures)

pub returns-clause-named : goal.returns-clause-named
returns-clause-named c =
    let found = c.args.all.now.splices in
    let copies = bytes_of c.args.files.now.copies.now in
    let options = c.args.task.now.options in
    let named = named_files c.in_ok-numbered.numbered.items in
    subst (λ (xs : List (List ℕ)). AreNamedAsked (option_map (λ (s : Bor (List ℕ)). s.now) options.files) (copies ++ xs) named)
    c.requires.splices c.in_ok-numbered.ensures

pub file_asked-requires-clause-verdicts : goal.file_asked-requires-clause-verdicts
file_asked-requires-clause-verdicts c =
    subst (AreVerdicts (given.files_taken c.args.files.now)) (sym c.as_slice-verdicts.ensures.value) c.requires.verdicts

pub files_asked-requires-clause-verdicts : goal.files_asked-requires-clause-verdicts
files_asked-requires-clause-verdicts c =
    subst (AreVerdicts (given.files_taken c.args.files.now)) (sym c.as_slice-verdicts.ensures.value) c.requires.verdicts
