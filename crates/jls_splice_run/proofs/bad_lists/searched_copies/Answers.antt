use Rattle.std.proofs.Common.{◌==◌, ◌∙◌, List, ap, inl, length, map, subst, sym}
use Rattle.std.proofs.Common.{Bor, ℕ}
use Rattle.std.specs.Prelude.{◌⊎◌}
use Rattle.std.specs.List.{AllZip}
use Rattle.std.proofs.lemmas.List.{length-map}
use Rattle.jls_bad.specs.Known.{AreKnownCopies}
use Rattle.jls_io.proofs.Growing.{grew_as, grew_not}
use Rattle.jls_cli.specs.BadValues.{list_of}
use Rattle.jls_cli.specs.declared.splice.bad.BadList.{BadList}
use Rattle.jls_station.specs.CopyFiles.{copies_of}
use Rattle.jls_station.specs.declared.copy.CopyFile.{CopyFile}
use Rattle.clap.specs.Words.{Text}
use Rattle.jls_splice_run.specs.BadLists.{IsList, IsStoppedBy, StopsAtLists, copies_with, lists_in, none_read, not_read, places_held}
use Rattle.jls_splice_run.specs.Copies.{StopsAtCopies, bytes_read}
use Rattle.jls_splice_run.specs.Making.{IsWantOfMemory}
use Rattle.jls_splice_run.specs.Tasks.{task_of, texts_of}
use Rattle.jls_splice_run.proofs.ListedCopies.{as_many_read, names_are, places_count, searched_by, stopped_after}
use Rattle.jls_splice_run.proofs.bad_lists.searched_copies.Goals as goal

pub returns-in_default-clause-stopped : goal.returns-in_default-clause-stopped
returns-in_default-clause-stopped g c =
    grew_not (StopsAtLists (task_of c.args.task.now) c.want_of_memory.result) (g.D.Device.history c.args.desk.now)
    (none_read (c.want_of_memory.ensures.name, c.want_of_memory.ensures.cause))

pub returns-in_default-names_of-clause-stopped : goal.returns-in_default-names_of-clause-stopped
returns-in_default-names_of-clause-stopped g c =
    let want = c.want_of_memory-in_default-names_of in
    grew_not (StopsAtLists (task_of c.args.task.now) want.result) (g.D.Device.history c.args.desk.now)
    (none_read (want.ensures.name, want.ensures.cause))

pub returns-in-Err-clause-stopped : goal.returns-in-Err-clause-stopped
returns-in-Err-clause-stopped g c =
    let a = task_of c.args.task.now in
    let r = c.in-Err.refusal in
    let names = c.deref-2.result.now in
    let named = names_are c.args.task.now.bad.now c.in-Ok.lists.items names c.in-Ok.ensures
    (ap texts_of c.deref-2.ensures.value ∙ c.in-Ok-names_of.ensures
    ∙ ap (map (λ (l : BadList). l.name.now)) c.deref.ensures.value) in
    grew_as (StopsAtCopies (texts_of names) r) (StopsAtLists a r) (g.D.Device.history c.args.desk.now)
    (g.D.Device.history c.read_all.new.desk)
    (λ events stopped. not_read events (subst (λ (ns : List Text). StopsAtCopies ns r events) named stopped)) c.in-Err.ensures.stopped

pub places_of_all-requires : goal.places_of_all-requires
places_of_all-requires g c =
    let read = c.in-Ok-read_all.ensures.read in
    ap length (c.deref-3.ensures.value ∙ sym c.deref-2.ensures.value)
    ∙ as_many_read c.deref-2.result.now c.in-Ok-read_all.files.items read.events read.they_are ∙ ap length (sym c.deref-4.ensures.value)

pub returns-in-Err-places_of_all-clause-stopped : goal.returns-in-Err-places_of_all-clause-stopped
returns-in-Err-places_of_all-clause-stopped g c =
    let a = task_of c.args.task.now in
    let r = c.in-Err-places_of_all.refusal in
    let names = c.deref-2.result.now in
    let files = c.in-Ok-read_all.files.items in
    let named = names_are c.args.task.now.bad.now c.in-Ok.lists.items names c.in-Ok.ensures
    (ap texts_of c.deref-2.ensures.value ∙ c.in-Ok-names_of.ensures
    ∙ ap (map (λ (l : BadList). l.name.now)) c.deref.ensures.value) in
    let same = c.deref-3.ensures.value ∙ sym c.deref-2.ensures.value in
    let P : List (Bor (List ℕ)) → Type 0 = λ ns. IsWantOfMemory a r ⊎ IsStoppedBy (texts_of ns) (copies_of c.deref-4.result.now) r in
    let Q : List CopyFile → Type 0 = λ fs. IsWantOfMemory a r ⊎ IsStoppedBy (texts_of names) (copies_of fs) r in
    stopped_after a r (texts_of names) (copies_of files) (g.D.Device.history c.args.desk.now) (g.D.Device.history c.read_all.new.desk) named
    (subst Q c.deref-4.ensures.value (subst P same c.in-Err-places_of_all.ensures.stopped)) c.in-Ok-read_all.ensures.read

pub known_files-requires : goal.known_files-requires
known_files-requires g c =
    let read = c.in-Ok-read_all.ensures.read in
    let names = c.deref-2.result.now in
    let files = c.in-Ok-read_all.files.items in
    let many = as_many_read names files read.events read.they_are in
    let listed = ap texts_of c.deref-2.ensures.value ∙ c.in-Ok-names_of.ensures
    ∙ ap (map (λ (l : BadList). l.name.now)) c.deref.ensures.value in
    let zip = subst (λ (fs : List CopyFile). AllZip IsList (copies_of fs)
    (places_held c.in-Ok-places_of_all.places.items)) c.deref-4.ensures.value
    c.in-Ok-places_of_all.ensures.named in
    ap length c.deref-5.ensures.value ∙ places_count c.in-Ok.lists.items names files c.in-Ok-places_of_all.places.items listed many zip
    ∙ ap length (sym c.deref-6.ensures.value)

pub returns-in-Ok-known_files-clause-searched : goal.returns-in-Ok-known_files-clause-searched
returns-in-Ok-known_files-clause-searched g c =
    let values = texts_of c.args.task.now.bad.now in
    let names = c.deref-2.result.now in
    let files = c.in-Ok-read_all.files.items in
    let read = copies_of c.args.read.now in
    let known = copies_of c.in-Ok-known_files.known.items in
    let named = names_are c.args.task.now.bad.now c.in-Ok.lists.items names c.in-Ok.ensures
    (ap texts_of c.deref-2.ensures.value ∙ c.in-Ok-names_of.ensures
    ∙ ap (map (λ (l : BadList). l.name.now)) c.deref.ensures.value) in
    let zip = subst (λ (fs : List CopyFile). AllZip IsList (copies_of fs)
    (places_held c.in-Ok-places_of_all.places.items)) c.deref-4.ensures.value
    c.in-Ok-places_of_all.ensures.named in
    let lists_are = ap (map list_of) c.deref-5.ensures.value ∙ c.in-Ok.ensures in
    let are = subst (λ ls. AreKnownCopies (copies_with ls (places_held c.deref-6.result.now) (bytes_read read))
    (bytes_read known)) lists_are
    c.in-Ok-known_files.ensures.known in
    let are_known = subst (λ ps. AreKnownCopies (copies_with (lists_in values) (places_held ps) (bytes_read read)) (bytes_read known))
    c.deref-6.ensures.value are in
    searched_by values read known (texts_of names) (copies_of files) (places_held c.in-Ok-places_of_all.places.items)
    (g.D.Device.history c.args.desk.now) (g.D.Device.history c.read_all.new.desk)
    (ap (λ (n : ℕ). n == 0) (length-map c.args.task.now.bad.now (λ (s : Bor (List ℕ)). s.now)) ∙ (sym c.is_empty.ensures
    ∙ c.if-is_empty.false))
    named zip are_known c.in-Ok-known_files.ensures.stops
    c.in-Ok-read_all.ensures.read

pub returns-clause-stopped : goal.returns-clause-stopped
returns-clause-stopped g c =
    let a = task_of c.args.task.now in
    let want = c.want_of_memory-in-Err-known_files in
    let names = c.deref-2.result.now in
    let named = names_are c.args.task.now.bad.now c.in-Ok.lists.items names c.in-Ok.ensures
    (ap texts_of c.deref-2.ensures.value ∙ c.in-Ok-names_of.ensures
    ∙ ap (map (λ (l : BadList). l.name.now)) c.deref.ensures.value) in
    stopped_after a want.result (texts_of names) (copies_of c.in-Ok-read_all.files.items) (g.D.Device.history c.args.desk.now)
    (g.D.Device.history c.read_all.new.desk) named (inl (want.ensures.name, want.ensures.cause)) c.in-Ok-read_all.ensures.read
