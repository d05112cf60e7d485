use Rattle.std.proofs.Common.{◌≡◌, ◌<◌, ◌∙◌, List, length, ap, subst, sym, arith}
use Rattle.std.specs.Prelude.{◌↔◌, IsTrue}
use Rattle.jls_station.specs.CopyFiles.{copies_of}
use Rattle.jls_station.specs.declared.copy.CopyFile.{CopyFile}
use Rattle.jls_splice_run.specs.BadLists.{files_searched}
use Rattle.jls_splice_run.specs.Copies.{AreWhole}
use Rattle.jls_splice_run.specs.Tasks.{task_of}
use Rattle.jls_splice_run.proofs.Done.{is_done, stops_at_inputs, stops_in_handing, stops_unmade}
use Rattle.jls_splice_run.proofs.splicing.splice.Goals as goal

pub returns-in-Err : goal.returns-in-Err
returns-in-Err g c = stops_at_inputs (task_of c.args.task.now) _ _ _ _ c.in-Err.refusal c.in-Err.ensures.stopped

pub make-requires-clause-names : goal.make-requires-clause-names
make-requires-clause-names g c =
    let i = c.in-Ok.inputs in
    subst (λ (xs : List CopyFile). length c.args.task.now.names.now ≡ length xs)
    (sym (c.files_searched.ensures ∙ ap (files_searched i.known) c.deref.ensures.value)) (sym c.in-Ok.ensures.counted)

pub make-requires-clause-some_copy : goal.make-requires-clause-some_copy
make-requires-clause-some_copy g c =
    let i = c.in-Ok.inputs in
    let count = c.in-Ok.ensures.counted in
    let some : 0 < length (files_searched i.known i.read.items) = omega (arith, count, c.requires) in
    subst (λ (xs : List CopyFile). 0 < length xs)
    (sym (c.files_searched.ensures ∙ ap (files_searched i.known) c.deref.ensures.value)) some

pub returns-in-Err-make : goal.returns-in-Err-make
returns-in-Err-make g c =
    let i = c.in-Ok.inputs in
    stops_unmade (task_of c.args.task.now) _ _ _ _ _ (copies_of i.read.items) (copies_of (files_searched i.known i.read.items))
    c.in-Ok.ensures.read
    c.in-Err-make.refusal (ap copies_of (c.files_searched.ensures ∙ ap (files_searched i.known) c.deref.ensures.value))
    c.in-Err-make.ensures.stopped c.in-Err-make.ensures.told

pub returns : goal.returns
returns g c =
    let i = c.in-Ok.inputs in
    stops_in_handing (task_of c.args.task.now) _ _ _ _ _ (copies_of i.read.items) (copies_of (files_searched i.known i.read.items))
    c.in-Ok.ensures.read
    _ _ _ c.in-Ok-make.made (ap copies_of (c.files_searched.ensures ∙ ap (files_searched i.known) c.deref.ensures.value))
    c.in-Ok-make.ensures.made c.in-Ok-make.ensures.told c.deref-3.ensures.value c.print_notes.ensures
    c.in-Err-hand_out.refusal c.in-Err-hand_out.ensures.stopped

pub returns-in-Ok-hand_out : goal.returns-in-Ok-hand_out
returns-in-Ok-hand_out g c =
    let i = c.in-Ok.inputs in
    let whole = c.are_whole.result in
    rw c.is_of_picture.ensures
    (is_done (task_of c.args.task.now) _ _ _ _ _ (copies_of i.read.items) (copies_of (files_searched i.known i.read.items))
    c.in-Ok.ensures.read
    _ _ _ c.in-Ok-make.made (ap copies_of (c.files_searched.ensures ∙ ap (files_searched i.known) c.deref.ensures.value))
    c.in-Ok-make.ensures.made c.in-Ok-make.ensures.told c.deref-3.ensures.value c.print_notes.ensures whole
    (subst (λ (xs : List CopyFile). IsTrue whole ↔ AreWhole (copies_of xs)) c.deref-in-Ok-hand_out.ensures.value c.are_whole.ensures)
    c.in-Ok-hand_out.ensures.done)
