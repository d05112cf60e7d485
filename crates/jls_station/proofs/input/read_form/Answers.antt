use Rattle.std.proofs.Common.{rules, ◌≡◌, ◌<◌, ℕ, List, [], ap, refl, sym, subst, arith, length, take}
use Rattle.std.proofs.lemmas.List.{length-take}
use Rattle.std.proofs.lemmas.Result.{IfErr-at_err, IfOk-at_ok, MatchResult-at_ok, err_from_is_err_and}
use Rattle.jls_marker.specs.declared.fault.MarkerFault.TheVariants as marker
use Rattle.std.specs.Io.KnownBytes.{Consumes}
use Rattle.jls_io.specs.Event.{GrewBy}
use Rattle.jls_station.specs.Inputs.{IsEnough, IsCopyDone, no_picture, copy_not_read}
use Rattle.jls_station.specs.Reading.{ReadSoFar}
use Rattle.jls_station.specs.declared.input.ReadStop.TheVariants.{Whole, Failed}
use Rattle.jls_station.specs.declared.input.InputFault.TheVariants as fault
use Rattle.jls_station.proofs.Mapped.{error_at, value_at}
use Rattle.jls_station.proofs.KnownInputs.{none_read, empty_refused, text_counted}
use Rattle.jls_station.proofs.OneInput.{nothing_read, one_read_more, read_to_end, read_to_failure, refused_for, empty_gives_none}
use Rattle.jls_station.proofs.OneInput.{empty_goes_on}
use Rattle.jls_station.proofs.input.read_form.Given.{Over}
use Rattle.jls_station.proofs.input.read_form.Goals.{After-prefix-first}
use Rattle.jls_station.proofs.input.read_form.Goals as goal
use Rattle.jls_marker.specs.SegmentLaws.{AreBytes}

-- the first read gave some bytes, if none are not enough
first_gave : (g : Over) (c : After-prefix-first g) (E : List ℕ → Type 0) → (E [] → ⊥)
    → GrewBy (ReadSoFar E 1 c.prefix-first.result.now) (g.S.Device.history c.args.device.now) (g.S.Device.history c.read_some.new.self)
first_gave g c E not =
    let old = g.S.Device.history c.args.device.now in
    let new = g.S.Device.history c.read_some.new.self in
    let given = take c.in_ok-count.count c.read_some.new.into in
    let was = value_at _ c.read_some.result c.map_err.result c.in_ok-count.count c.map_err.ensures.cases c.in_ok-count.was in
    let read = IfOk-at_ok _ was c.read_some.ensures.read in
    let within = IfOk-at_ok _ was c.read_some.ensures.within in
    let room : length c.read_some.new.into ≡ 4096 = search rules in
    let some : 0 < length given = omega (arith, length-take c.in_ok-count.count c.read_some.new.into, within, c.if-count-eq0.false) in
    subst (λ (t : List ℕ). GrewBy (ReadSoFar E 1 t) old new) (sym c.prefix-first.ensures.prefix)
    (one_read_more E 0 old old new [] 4096 given (nothing_read E 0 old old old []) (rw room at read) not (omega arith) some
    (subst AreBytes c.prefix-first.ensures.prefix c.prefix-first.ensures.bytes))

-- the first read failed
pub returns-in_err-count-clause-refused : goal.returns-in_err-count-clause-refused
returns-in_err-count-clause-refused g c =
    let old = g.S.Device.history c.args.device.now in
    let new = g.S.Device.history c.read_some.new.self in
    let made = error_at _ (λ _. fault.Read Failed 0) (λ e r made. search rules) c.read_some.result c.map_err.result c.in_err-count.field-0.0
    c.map_err.ensures.cases c.in_err-count.was in
    let failed = IfErr-at_err _ made.2 c.read_some.ensures.failed in
    let p = err_from_is_err_and c.from_residual.result c.from_residual.ensures.1 in
    rw (p.1, p.2, made.1) (refused_for old new [] Failed
    (read_to_failure IsEnough 0 old old new [] (nothing_read IsEnough 0 old old old []) failed
    (λ e. empty_goes_on c.copies_have_one_course.ensures e.1) (omega arith))
    (fault.Read Failed 0) (copy_not_read [] Failed marker.Ended 0 refl (λ t. absurd cc) empty_gives_none))

-- the input is empty, which is a copy without a frame
pub returns-then-count-eq0-clause-refused : goal.returns-then-count-eq0-clause-refused
returns-then-count-eq0-clause-refused g c =
    let old = g.S.Device.history c.args.device.now in
    let new = g.S.Device.history c.read_some.new.self in
    let was = value_at _ c.read_some.result c.map_err.result c.in_ok-count.count c.map_err.ensures.cases c.in_ok-count.was in
    let read = IfOk-at_ok _ was c.read_some.ensures.read in
    let room : length c.read_some.new.into ≡ 4096 = search rules in
    refused_for old new [] Whole
    (read_to_end IsEnough 0 old old new [] 4096 (take c.in_ok-count.count c.read_some.new.into) (nothing_read IsEnough 0 old old old [])
    (rw room at read)
    (ap (λ (k : ℕ). take k c.read_some.new.into) c.if-count-eq0.true) (λ e. empty_goes_on c.copies_have_one_course.ensures e.1)
    (omega arith) (omega arith) (omega arith))
    (fault.NoPicture marker.Ended 0) (no_picture [] marker.Ended 0 refl empty_gives_none)

-- what the first read gave begins a text, and reads to its end give the rest
pub returns-in_ok-read_text-clause-form : goal.returns-in_ok-read_text-clause-form
returns-in_ok-read_text-clause-form g c =
    let all = c.in_ok-read_text.ensures.read _
    (first_gave g (goal.at.returns-in_ok-read_text-clause-form g c).After-prefix-first IsEnough
    (λ e. empty_goes_on c.copies_have_one_course.ensures e.1)) in
    record { events = all.events; grew = all.grew; they_are = (all.they_are, c.in_ok-read_text.ensures.text) }

-- the reads that refuse a text are those since the first one
pub returns-in_err-read_text-clause-refused : goal.returns-in_err-read_text-clause-refused
returns-in_err-read_text-clause-refused g c =
    let p = err_from_is_err_and c.from_residual-in_err-read_text.result c.from_residual-in_err-read_text.ensures.1 in
    rw (p.1, p.2) (c.in_err-read_text.ensures.refused _
    (first_gave g (goal.at.returns-in_err-read_text-clause-refused g c).After-prefix-first IsEnough
    (λ e. empty_goes_on c.copies_have_one_course.ensures e.1)))

-- what the first read gave begins a copy, and the reads since then give what it reads as
pub returns-in_ok-read-clause-form : goal.returns-in_ok-read-clause-form
returns-in_ok-read-clause-form g c =
    c.in_ok-read.ensures.given _ (first_gave g (goal.at.returns-in_ok-read-clause-form g c).After-prefix-first IsCopyDone
    (empty_goes_on c.copies_have_one_course.ensures))

-- the reads that refuse a copy are those since the first one
pub returns-in_err-read-clause-refused : goal.returns-in_err-read-clause-refused
returns-in_err-read-clause-refused g c =
    let p = err_from_is_err_and c.from_residual-in_err-read.result c.from_residual-in_err-read.ensures.1 in
    rw (p.1, p.2) (c.in_err-read.ensures.refused _
    (first_gave g (goal.at.returns-in_err-read-clause-refused g c).After-prefix-first IsCopyDone
    (empty_goes_on c.copies_have_one_course.ensures)))

-- the first read took what it gave from the known bytes
first_taken : (g : Over) (c : After-prefix-first g)
    → Consumes (g.S.Source.remaining c.args.device.now) (g.S.Source.remaining c.read_some.new.self) c.prefix-first.result.now
first_taken g c =
    let was = value_at _ c.read_some.result c.map_err.result c.in_ok-count.count c.map_err.ensures.cases c.in_ok-count.was in
    subst (λ (t : List ℕ). Consumes (g.S.Source.remaining c.args.device.now) (g.S.Source.remaining c.read_some.new.self) t)
    (sym c.prefix-first.ensures.prefix) (MatchResult-at_ok _ _ _ was c.read_some.ensures.bytes).0

-- the first read failed, so that no known byte was given
pub returns-in_err-count-clause-known_refused : goal.returns-in_err-count-clause-known_refused
returns-in_err-count-clause-known_refused g c =
    let made = error_at _ (λ _. fault.Read Failed 0) (λ e r made. search rules) c.read_some.result c.map_err.result c.in_err-count.field-0.0
    c.map_err.ensures.cases c.in_err-count.was in
    let p = err_from_is_err_and c.from_residual.result c.from_residual.ensures.1 in
    rw (p.1, p.2, made.1) (none_read (g.S.Source.remaining c.args.device.now))

-- the known bytes are none, as the first read met their end
pub returns-then-count-eq0-clause-known_refused : goal.returns-then-count-eq0-clause-known_refused
returns-then-count-eq0-clause-known_refused g c =
    let old = g.S.Source.remaining c.args.device.now in
    let new = g.S.Source.remaining c.read_some.new.self in
    let was = value_at _ c.read_some.result c.map_err.result c.in_ok-count.count c.map_err.ensures.cases c.in_ok-count.was in
    let read = MatchResult-at_ok _ _ _ was c.read_some.ensures.bytes in
    let none = ap (λ (k : ℕ). take k c.read_some.new.into) c.if-count-eq0.true in
    let room : length c.read_some.new.into ≡ 4096 = search rules in
    empty_refused old new (subst (λ (t : List ℕ). Consumes old new t) none read.0) (read.1 c.if-count-eq0.true (omega (arith, room)))

-- a text is refused for a fault that its known bytes can have
pub returns-in_err-read_text-clause-known_refused : goal.returns-in_err-read_text-clause-known_refused
returns-in_err-read_text-clause-known_refused g c =
    let p = err_from_is_err_and c.from_residual-in_err-read_text.result c.from_residual-in_err-read_text.ensures.1 in
    rw (p.1, p.2) (c.in_err-read_text.ensures.known_refused _
    (first_taken g (goal.at.returns-in_err-read_text-clause-known_refused g c).After-prefix-first))

-- a copy is refused for a fault that its known bytes can have
pub returns-in_err-read-clause-known_refused : goal.returns-in_err-read-clause-known_refused
returns-in_err-read-clause-known_refused g c =
    let p = err_from_is_err_and c.from_residual-in_err-read.result c.from_residual-in_err-read.ensures.1 in
    rw (p.1, p.2) (c.in_err-read.ensures.known_refused _
    (first_taken g (goal.at.returns-in_err-read-clause-known_refused g c).After-prefix-first))

-- no bytes of a text are counted
pub returns-in_ok-read_text-clause-known_count : goal.returns-in_ok-read_text-clause-known_count
returns-in_ok-read_text-clause-known_count g c = text_counted (g.S.Source.remaining c.args.device.now)

pub returns-in_ok-read-clause-known_count : goal.returns-in_ok-read-clause-known_count
returns-in_ok-read-clause-known_count g c =
    c.in_ok-read.ensures.known_count _ (first_taken g (goal.at.returns-in_ok-read-clause-known_count g c).After-prefix-first)
