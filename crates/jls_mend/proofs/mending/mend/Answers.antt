use Rattle.std.proofs.Common.{map, refl, subst, inr}
use Rattle.jls_cli.specs.Outcomes.{Outcome}
use Rattle.jls_splice_run.specs.Runs.{Splices}
use Rattle.jls_mend.specs.Asking.{asked_for, inputs_of, lists_of, names_in, places_of}
use Rattle.jls_mend.proofs.ListFiles.{numbers_taken}
use Rattle.jls_mend.proofs.MendedFiles.{is_mended, is_of_run}
use Rattle.jls_mend.proofs.NamesOn.{given}
use Rattle.jls_mend.proofs.TaskOf.{place_is}
use Rattle.jls_mend.proofs.mending.mend.Goals as goal

pub names_for-requires : goal.names_for-requires
names_for-requires c = numbers_taken _ (map places_of c.args.bad.now) c.requires.of_copies

pub returns-in-Ok-clause-mended : goal.returns-in-Ok-clause-mended
returns-in-Ok-clause-mended c =
    is_mended c.outputs_hold_what_is_handed_out.ensures c.args.options.now (given c.args.copies.now) (map places_of c.args.bad.now)
    c.are_few.ensures c.lists_are_few.ensures c.requires c.in_ok-ran.ran c.in_ok-ran.ensures c.in-Ok.done c.in-Ok.is _ refl refl refl
    c.last_bytes.ensures

pub returns-in-Ok-clause-ran : goal.returns-in-Ok-clause-ran
returns-in-Ok-clause-ran c =
    is_of_run c.outputs_hold_what_is_handed_out.ensures c.args.options.now (given c.args.copies.now) (map places_of c.args.bad.now)
    c.are_few.ensures c.lists_are_few.ensures c.requires c.in_ok-ran.ran c.in_ok-ran.ensures c.in-Ok.done c.in-Ok.is _ refl refl refl
    c.last_bytes.ensures

pub returns-clause-refused : goal.returns-clause-refused
returns-clause-refused c =
    let copies = given c.args.copies.now in
    let bad = map places_of c.args.bad.now in
    let run = c.in_ok-ran.ensures in
    inr (record {
      refusal = c.in-Err.refusal;
      desk = run.desk;
      report = run.report;
      faults = run.faults;
      splices = subst (λ (o : Outcome). Splices (asked_for c.args.options.now copies bad) o run.desk run.report run.faults) c.in-Err.is
          run.splices;
      reads = run.reads;
      cause_is = refl;
      copy_is = place_is c.in_ok-names.names.copies.items c.deref.result.now (names_in (inputs_of copies)) c.in-Err.refusal.name.now
          c.place_of.result c.in_ok-names.ensures.of_copies c.deref.ensures.value c.place_of.ensures;
      list_is = place_is c.in_ok-names.names.lists.items c.deref-in-Err.result.now (names_in (lists_of bad)) c.in-Err.refusal.name.now
          c.place_of-in-Err.result c.in_ok-names.ensures.of_lists c.deref-in-Err.ensures.value c.place_of-in-Err.ensures;
    })
