use Rattle.std.proofs.Common.{ℕ, List, subst}
use Rattle.jls_io.specs.Event.{GrewBy}
use Rattle.jls_splice_run.specs.Handing.{HandsFiles, StopsAtFiles}
use Rattle.jls_splice_run.specs.Listing.{named_files}
use Rattle.jls_splice_run.specs.Runs.{texts_held}
use Rattle.jls_splice_run.specs.declared.listing.NumberedFile.{NumberedFile}
use Rattle.jls_splice_run.specs.Tasks.{task_of}
use Rattle.jls_splice_run.proofs.Handed.{hands_all, stops_at_file, stops_at_files, stops_at_output, stops_at_report}
use Rattle.jls_splice_run.proofs.splicing.hand_out.Goals as goal

pub returns-in-Err-clause-stopped : goal.returns-in-Err-clause-stopped
returns-in-Err-clause-stopped g c =
    stops_at_report (texts_held (task_of c.args.task.now) c.args.made.now) _ _ _ c.deref.ensures.value
    c.in-Err.refusal c.in-Err.ensures.stopped

pub returns-in-Err-write_output-clause-stopped : goal.returns-in-Err-write_output-clause-stopped
returns-in-Err-write_output-clause-stopped g c =
    stops_at_output (texts_held (task_of c.args.task.now) c.args.made.now) _ _ _ c.deref.ensures.value c.in-Ok.ensures.printed
    c.deref-2.ensures.value c.in-Err-write_output.refusal c.in-Err-write_output.ensures.stopped

pub returns-in-Err-write_file-clause-stopped : goal.returns-in-Err-write_file-clause-stopped
returns-in-Err-write_file-clause-stopped g c =
    stops_at_file (texts_held (task_of c.args.task.now) c.args.made.now) _ _ _ c.deref.ensures.value c.in-Ok.ensures.printed
    c.deref-2.ensures.value _ _ c.in-Ok-write_output.ensures.written c.bytes_in.ensures c.in-Err-write_file.refusal
    c.in-Err-write_file.ensures.stopped

pub returns-in-Err-write_files-clause-stopped : goal.returns-in-Err-write_files-clause-stopped
returns-in-Err-write_files-clause-stopped g c =
    let desk = g.D.Device.history in
    let t = texts_held (task_of c.args.task.now) c.args.made.now in
    let r = c.in-Err-write_files.refusal in
    stops_at_files t _ _ _ c.deref.ensures.value c.in-Ok.ensures.printed c.deref-2.ensures.value _ _ c.in-Ok-write_output.ensures.written
    c.bytes_in.ensures _ c.in-Ok-write_file.ensures.written r
    (subst (λ (files : List NumberedFile). GrewBy (StopsAtFiles t.prefix (named_files files) r) (desk c.write_file.new.desk)
    (desk c.write_files.new.desk)) c.deref-3.ensures.value
    (subst (λ (prefix : List ℕ). GrewBy (StopsAtFiles prefix (named_files c.deref-3.result.now) r) (desk c.write_file.new.desk)
    (desk c.write_files.new.desk)) c.prefix_of.ensures c.in-Err-write_files.ensures.stopped))

pub returns-in-Ok-write_files-clause-done : goal.returns-in-Ok-write_files-clause-done
returns-in-Ok-write_files-clause-done g c =
    let desk = g.D.Device.history in
    hands_all (texts_held (task_of c.args.task.now) c.args.made.now) _ _ _ c.deref.ensures.value c.in-Ok.ensures.printed
    c.deref-2.ensures.value
    _ _ c.in-Ok-write_output.ensures.written c.bytes_in.ensures _ c.in-Ok-write_file.ensures.written
    (subst (λ (files : List NumberedFile). GrewBy (HandsFiles (named_files files)) (desk c.write_file.new.desk)
    (desk c.write_files.new.desk)) c.deref-3.ensures.value c.in-Ok-write_files.ensures.written)
