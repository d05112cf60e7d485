use Rattle.std.proofs.Common.{◌≡◌, ◌<◌, ℕ, List, Vec, Global, Option, None, length, inl, inr, refl, sym, ap, ◌∙◌, subst, arith}
use Rattle.std.specs.Prelude.{IfNone, IfSome, option_map}
use Rattle.jls_diff.specs.PartsOf.{bytes_of}
use Rattle.jls_station.specs.CopyFiles.{copies_of}
use Rattle.jls_station.specs.declared.input.ReadStop.{ReadStop}
use Rattle.jls_search.specs.Choices.{prefix_of}
use Rattle.jls_search.specs.Cuts.{TakesNoCut}
use Rattle.jls_search.specs.Files.{splices_found}
use Rattle.jls_search.specs.Settling.{HasNoCut, SettlesFiles}
use Rattle.jls_search.specs.Shapes.{IsShapeFound}
use Rattle.jls_search.specs.declared.settling.HeldFiles.{HeldFiles}
use Rattle.jls_search.specs.declared.shape_found.ShapeFound.TheVariants as found
use Rattle.jls_splice_run.specs.Copies.{bytes_read}
use Rattle.jls_splice_run.specs.Making.{IsPictureOf, no_picture_cause}
use Rattle.jls_splice_run.proofs.Members.{first_stop, name_at, named_within}
use Rattle.jls_splice_run.proofs.settling.settle.Goals.{in-Some+in-Ok-None, in_default}
use Rattle.jls_splice_run.proofs.settling.settle.Goals as goal

pub returns-in-Held-clause-settled : goal.returns-in-Held-clause-settled
returns-in-Held-clause-settled c =
    let a = c.args.task.now.options.source in
    let files = c.args.files.now in
    let splices = splices_found files in
    let copies = bytes_read (copies_of c.args.copies.now) in
    let held = c.in-Held.taken in
    let none : held.cut ≡ None = subst HasNoCut c.in-Held.is c.in-Ok.ensures.uncut in
    let seen = subst (λ (xs : List (List ℕ)). SettlesFiles a xs splices c.in-Ok.settled) c.requires.copies
    c.in-Ok.ensures.settled in
    let picture = subst (SettlesFiles a copies splices) c.in-Held.is seen in
    subst (λ (cut : Option (List ℕ)). IsPictureOf a copies splices cut held.station)
    (sym (ap (option_map (λ (path : Vec ℕ Global). prefix_of files.parts.now path.items)) none))
    (record { shape_is = picture.0; union_is = picture.1 })

pub returns-in-Held-clause-cut : goal.returns-in-Held-clause-cut
returns-in-Held-clause-cut c =
    let files = c.args.files.now in
    let splices = splices_found files in
    let copies = bytes_read (copies_of c.args.copies.now) in
    let why = λ (path : Vec ℕ Global). TakesNoCut copies splices (prefix_of files.parts.now path.items) in
    let none : c.in-Held.taken.cut ≡ None = subst HasNoCut c.in-Held.is c.in-Ok.ensures.uncut in
    elim c.match-cut.branch [
      | in_default w ↦ inl (none ∙ sym w.in_default.is)
      | in-Some+in-Ok-None w ↦
          (let nothing : TakesNoCut (bytes_of files.copies.now) splices (prefix_of files.parts.now w.in-Some.path.items) =
          subst (λ (o : Option HeldFiles). IfNone o
          (TakesNoCut (bytes_of files.copies.now) splices (prefix_of files.parts.now w.in-Some.path.items)))
          w.in-Ok-None.field-0-is w.in-Ok-None.ensures.nothing in
          let same = subst (λ (xs : List (List ℕ)). TakesNoCut xs splices (prefix_of files.parts.now w.in-Some.path.items))
          c.requires.copies nothing in
          inr (none, subst (λ (o : Option (Vec ℕ Global)). IfSome o why) (sym w.in-Some.is) same))
    ]

pub returns-in-Differ-clause-stopped : goal.returns-in-Differ-clause-stopped
returns-in-Differ-clause-stopped c =
    let copy = c.in-Differ.copy in
    let answer = found.Differ copy in
    let copies = bytes_of c.args.files.now.copies.now in
    let splices = splices_found c.args.files.now in
    let seen = subst (SettlesFiles c.args.task.now.options.source copies splices) c.in-Differ.is c.in-Ok.ensures.settled in
    let within = named_within c.args.copies.now copies copy c.requires.copies c.requires.some_copy seen.1 in
    let named : copy < length c.args.task.now.names.now = omega (arith, within, c.requires.names) in
    inr (
      answer,
      subst (λ (xs : List (List ℕ)). IsShapeFound xs splices answer) c.requires.copies seen,
      (name_at c.args.task.now.names.now copy _ named, refl),
    )

pub returns-in-NoFrame-clause-stopped : goal.returns-in-NoFrame-clause-stopped
returns-in-NoFrame-clause-stopped c =
    let answer = found.NoFrame c.in-NoFrame.fault c.in-NoFrame.offset in
    let copies = bytes_of c.args.files.now.copies.now in
    let splices = splices_found c.args.files.now in
    let seen = subst (SettlesFiles c.args.task.now.options.source copies splices) c.in-NoFrame.is c.in-Ok.ensures.settled in
    let some : 0 < length c.args.task.now.names.now = omega (arith, c.requires.names, c.requires.some_copy) in
    inr (
      answer,
      subst (λ (xs : List (List ℕ)). IsShapeFound xs splices answer) c.requires.copies seen,
      (
        name_at c.args.task.now.names.now 0 _ some,
        c.no_picture_cause.ensures
            ∙ ap (λ (stop : ReadStop). no_picture_cause stop c.in-NoFrame.fault c.in-NoFrame.offset)
            (first_stop c.args.copies.now c.index-copies-0.result c.requires.some_copy),
      ),
    )
