use Rattle.std.proofs.Common.{◌≡◌, ℕ, List, Option, length, Bor, Global, Vec, subst, sym, arith}
use Rattle.std.proofs.lemmas.List.{length-map}
use Rattle.jls_io.specs.Event.{Event, GrewBy}
use Rattle.jls_station.specs.CopyFiles.{AreCopiesRead, copies_of, copy_of}
use Rattle.jls_station.specs.declared.copy.CopyFile.{CopyFile}
use Rattle.jls_splice_run.specs.BadLists.{AreSearched, files_searched}
use Rattle.jls_splice_run.specs.Tasks.{task_of, texts_of}
use Rattle.jls_splice_run.proofs.Done.{copies_stop, inputs_of, lists_stop, searched_count, witnesses_stop}
use Rattle.jls_splice_run.proofs.ListedCopies.{as_many_read}
use Rattle.jls_splice_run.proofs.inputs.read_inputs.Goals as goal

-- as much is searched as there are names
counts_searched : (names : List (Bor (List ℕ))) (values : List (List ℕ)) (read searched : List CopyFile) (events listing : List Event)
    → AreCopiesRead (texts_of names) (copies_of read) events → AreSearched values (copies_of read) (copies_of searched) listing
    → length names ≡ length searched
counts_searched names values read searched events listing are known =
    let count = as_many_read names read events are in
    let same = searched_count values (copies_of read) (copies_of searched) listing known in
    let n = length-map read copy_of in
    let m = length-map searched copy_of in
    omega (arith, count, same, n, m)

-- what is searched of copies is what is searched of these
searched_as : (values : List (List ℕ)) (known : Option (Vec CopyFile Global)) (seen read : List CopyFile) (old new : List Event) → seen ≡ read
    → GrewBy (AreSearched values (copies_of seen) (copies_of (files_searched known seen))) old new
    → GrewBy (AreSearched values (copies_of read) (copies_of (files_searched known read))) old new
searched_as values known seen read old new same =
    subst (λ (xs : List CopyFile). GrewBy (AreSearched values (copies_of xs) (copies_of (files_searched known xs))) old new) same

pub returns-in-Err-clause-stopped : goal.returns-in-Err-clause-stopped
returns-in-Err-clause-stopped g c = copies_stop (task_of c.args.task.now) _ _ c.in-Err.refusal c.in-Err.ensures.stopped

pub returns-in-Err-searched_copies-clause-stopped : goal.returns-in-Err-searched_copies-clause-stopped
returns-in-Err-searched_copies-clause-stopped g c =
    lists_stop (task_of c.args.task.now) _ _ c.in-Err-searched_copies.refusal (copies_of c.in-Ok.read.items) c.in-Ok.ensures.read
    c.in-Err-searched_copies.ensures.stopped

pub returns-in-Ok-read_all-clause-read : goal.returns-in-Ok-read_all-clause-read
returns-in-Ok-read_all-clause-read g c =
    let task = task_of c.args.task.now in
    let read = c.in-Ok.read.items in
    let known = c.in-Ok-searched_copies.known in
    let searched = searched_as task.bad known _ read _ _ c.deref.ensures.value c.in-Ok-searched_copies.ensures.searched in
    inputs_of task _ _ (copies_of read) (copies_of (files_searched known read)) (copies_of c.in-Ok-read_all.witnesses.items)
    c.in-Ok.ensures.read searched c.in-Ok-read_all.ensures.read

pub returns-in-Ok-read_all-clause-counted : goal.returns-in-Ok-read_all-clause-counted
returns-in-Ok-read_all-clause-counted g c =
    let values = texts_of c.args.task.now.bad.now in
    let read = c.in-Ok.read.items in
    let known = c.in-Ok-searched_copies.known in
    let searched = searched_as values known _ read _ _ c.deref.ensures.value c.in-Ok-searched_copies.ensures.searched in
    sym (counts_searched c.args.task.now.names.now values read (files_searched known read) c.in-Ok.ensures.read.events searched.events
    c.in-Ok.ensures.read.they_are searched.they_are)

pub returns-clause-stopped : goal.returns-clause-stopped
returns-clause-stopped g c =
    let task = task_of c.args.task.now in
    let read = c.in-Ok.read.items in
    let known = c.in-Ok-searched_copies.known in
    let searched = searched_as task.bad known _ read _ _ c.deref.ensures.value c.in-Ok-searched_copies.ensures.searched in
    witnesses_stop task _ _ c.in-Err-read_all.refusal (copies_of read) (copies_of (files_searched known read))
    c.in-Ok.ensures.read searched c.in-Err-read_all.ensures.stopped
