use Rattle.std.proofs.Common.{rules, ◌≡◌, ◌<◌, ◌+◌, ◌++◌, ◌∙◌, ap, subst, List, [], arith, take, length, Some, inl}
use Rattle.std.specs.Prelude.{ℕ}
use Rattle.std.specs.Io.KnownBytes.{Consumes}
use Rattle.std.proofs.lemmas.List.{length-take}
use Rattle.jls_io.specs.Event.{GrewBy}
use Rattle.jls_station.specs.Reading.{IsRead, IsReadInPart}
use Rattle.jls_station.specs.declared.input.ReadStop.TheVariants.{Whole, Failed, Turns}
use Rattle.jls_station.proofs.CopySteps.{of_reader, goes_on, none_more, stops_enough, stops_known, stops_longer, one_more, consumes_no_more}
use Rattle.jls_station.proofs.CopySteps.{put_fits}
use Rattle.jls_partial.proofs.TextPrefixes.{on_error}
use Rattle.jls_station.proofs.OneInput.{one_read_more, read_to_end, read_to_failure, read_to_turns, read_in_part}
use Rattle.jls_station.proofs.reading.read_on.Goals as goal
use Rattle.jls_marker.specs.SegmentLaws.{AreBytes}

-- a read failed: the input is read up to there
pub returns-in-Err-clause-read : goal.returns-in-Err-clause-read
returns-in-Err-clause-read g c before fed was h =
    let history = g.S.Device.history in let after = history c.read_some.new.self in
    let enough = g.I.Intake.IsEnough in let held = g.I.Intake.fed c.loop.held in
    let i = c.loop.invariant in
    let not_yet = goes_on enough c.is_enough.result held i.bytes i.is c.is_enough.ensures c.if-is_enough.false in
    of_reader (λ bytes. GrewBy (λ reads. IsRead enough reads bytes Failed) before after) held i.bytes i.is
    (read_to_failure enough c.loop.counter before (history c.loop.device) after i.bytes (i.so_far before fed was h) c.in-Err.ensures.failed
    not_yet (omega arith))

-- the end was met: the input is read whole
pub returns-then-n-eq0-clause-read : goal.returns-then-n-eq0-clause-read
returns-then-n-eq0-clause-read g c before fed was h =
    let history = g.S.Device.history in let after = history c.read_some.new.self in
    let enough = g.I.Intake.IsEnough in let held = g.I.Intake.fed c.loop.held in
    let i = c.loop.invariant in
    let room : length c.read_some.new.into ≡ 4096 = search rules in
    let none = ap (λ (k : ℕ). take k c.read_some.new.into) c.if-n-eq0.true in
    let not_yet = goes_on enough c.is_enough.result held i.bytes i.is c.is_enough.ensures c.if-is_enough.false in
    of_reader (λ bytes. GrewBy (λ reads. IsRead enough reads bytes Whole) before after) held i.bytes i.is
    (read_to_end enough c.loop.counter before (history c.loop.device) after i.bytes 4096 (take c.in-Ok.n c.read_some.new.into)
    (i.so_far before fed was h) (rw room at c.in-Ok.ensures.read) none not_yet (omega arith) (omega arith) (omega arith))

-- there is no memory for what a read gave
pub returns-in_err-put-clause-refused : goal.returns-in_err-put-clause-refused
returns-in_err-put-clause-refused g c before fed was h =
    let history = g.S.Device.history in let after = history c.read_some.new.self in
    let enough = g.I.Intake.IsEnough in let held = g.I.Intake.fed c.loop.held in
    let i = c.loop.invariant in
    let room : length c.read_some.new.into ≡ 4096 = search rules in
    let given = take c.in-Ok.n c.read_some.new.into in
    let some : 0 < length given = omega (arith, length-take c.in-Ok.n c.read_some.new.into, c.in-Ok.ensures.within, c.if-n-eq0.false) in
    let not_yet = goes_on enough c.is_enough.result held i.bytes i.is c.is_enough.ensures c.if-is_enough.false in
    let are_bytes = subst AreBytes c.prefix.ensures.prefix c.prefix.ensures.bytes in
    let so_far = one_read_more enough c.loop.counter before (history c.loop.device) after i.bytes 4096 given
    (i.so_far before fed was h) (rw room at c.in-Ok.ensures.read) not_yet (omega arith) some are_bytes in
    on_error c.from_residual.result (GrewBy (IsReadInPart enough) before after)
    (read_in_part enough (c.loop.counter + 1) before after after (i.bytes ++ given) so_far (omega arith))

-- one read more is made, and what it gave is put
pub loop-preserved : goal.loop-preserved
loop-preserved g c =
    let history = g.S.Device.history in
    let remaining = g.S.Source.remaining in
    let fed = g.I.Intake.fed in
    let enough = g.I.Intake.IsEnough in
    let i = c.loop.invariant in
    let room : length c.read_some.new.into ≡ 4096 = search rules in
    let given = take c.in-Ok.n c.read_some.new.into in
    let n = length-take c.in-Ok.n c.read_some.new.into in
    let some : 0 < length given = omega (arith, n, c.in-Ok.ensures.within, c.if-n-eq0.false) in
    let is_put = c.in_ok-put.ensures i.bytes i.is ∙ ap (λ (t : List ℕ). Some (i.bytes ++ t)) c.prefix.ensures.prefix in
    let not_yet = goes_on enough c.is_enough.result (fed c.loop.held) i.bytes i.is c.is_enough.ensures c.if-is_enough.false in
    let are_bytes = subst AreBytes c.prefix.ensures.prefix c.prefix.ensures.bytes in
    one_more enough (fed c.args.held.now) (fed c.loop.held) (fed c.put.new.held) c.args.made c.loop.counter
    (history c.args.device.now) (history c.loop.device) (history c.read_some.new.self) 4096 given
    (remaining c.args.device.now) (remaining c.loop.device) (remaining c.read_some.new.self) i is_put (rw room at c.in-Ok.ensures.read)
    not_yet (omega arith) some (omega (arith, n, room)) are_bytes c.in-Ok.ensures.bytes.0

-- the end was met: the known bytes are used up
pub returns-then-n-eq0-clause-known : goal.returns-then-n-eq0-clause-known
returns-then-n-eq0-clause-known g c before fed was h =
    let remaining = g.S.Source.remaining in
    let i = c.loop.invariant in
    let none : take c.in-Ok.n c.read_some.new.into ≡ [] = ap (λ (k : ℕ). take k c.read_some.new.into) c.if-n-eq0.true in
    let consumed : Consumes (remaining c.loop.device) (remaining c.read_some.new.self) [] =
    subst (λ (t : List ℕ). Consumes (remaining c.loop.device) (remaining c.read_some.new.self) t) none c.in-Ok.ensures.bytes.0 in
    of_reader (λ bytes. Consumes before (remaining c.read_some.new.self) bytes) (g.I.Intake.fed c.loop.held) i.bytes i.is
    (consumes_no_more before (remaining c.loop.device) (remaining c.read_some.new.self) i.bytes (i.known before fed was h) consumed)

-- before the first read nothing is added to what was held
pub loop-init : goal.loop-init
loop-init g c =
    none_more g.I.Intake.IsEnough (g.I.Intake.fed c.args.held.now) c.args.made (g.S.Device.history c.args.device.now)
    (g.S.Source.remaining c.args.device.now)
    c.requires.fed_few

-- so few bytes were fed that these can be too
pub put-requires : goal.put-requires
put-requires g c =
    let i = c.loop.invariant in
    let room : length c.read_some.new.into ≡ 4096 = search rules in
    put_fits (g.I.Intake.fed c.loop.held) i.bytes c.prefix.result.now i.is
    (omega (arith, i.few, ap length c.prefix.ensures.prefix, length-take c.in-Ok.n c.read_some.new.into, room))

-- the bytes are enough, so that no further read is made
pub returns-then-is_enough : goal.returns-then-is_enough
returns-then-is_enough g c =
    let s = stops_enough c.loop.invariant c.is_enough.result c.is_enough.ensures c.if-is_enough.true (omega arith) in
    record { longer = s.0; read = s.1; refused = λ before fed was h. tt; known = s.2; end = λ whole. inl s.3 }

-- a read failed: what is held begins with what was held
pub returns-in-Err-clause-longer : goal.returns-in-Err-clause-longer
returns-in-Err-clause-longer g c = stops_longer c.loop.invariant

-- a read failed: the known bytes begin with what was read
pub returns-in-Err-clause-known : goal.returns-in-Err-clause-known
returns-in-Err-clause-known g c before fed was h =
    let remaining = g.S.Source.remaining in
    let i = c.loop.invariant in
    of_reader (λ bytes. Consumes before (remaining c.read_some.new.self) bytes) (g.I.Intake.fed c.loop.held) i.bytes i.is (search rules)

-- the end was met: what is held begins with what was held
pub returns-then-n-eq0-clause-longer : goal.returns-then-n-eq0-clause-longer
returns-then-n-eq0-clause-longer g c = stops_longer c.loop.invariant

-- the last read was made, and the bytes are enough
pub returns-then-is_enough-2 : goal.returns-then-is_enough-2
returns-then-is_enough-2 g c =
    let s = stops_enough c.loop.invariant c.is_enough-2.result c.is_enough-2.ensures c.if-is_enough-2.true (omega arith) in
    record { longer = s.0; read = s.1; refused = λ before fed was h. tt; known = s.2; end = λ whole. inl s.3 }

-- all reads are used up: what is held begins with what was held
pub returns-else-is_enough-2-clause-longer : goal.returns-else-is_enough-2-clause-longer
returns-else-is_enough-2-clause-longer g c = stops_longer c.loop.invariant

-- all reads are used up
pub returns-else-is_enough-2-clause-read : goal.returns-else-is_enough-2-clause-read
returns-else-is_enough-2-clause-read g c before fed was h =
    let history = g.S.Device.history in let after = history c.loop.device in
    let enough = g.I.Intake.IsEnough in let held = g.I.Intake.fed c.loop.held in
    let i = c.loop.invariant in
    let not_yet = goes_on enough c.is_enough-2.result held i.bytes i.is c.is_enough-2.ensures c.if-is_enough-2.false in
    of_reader (λ bytes. GrewBy (λ reads. IsRead enough reads bytes Turns) before after) held i.bytes i.is
    (read_to_turns enough c.loop.counter before after after i.bytes (i.so_far before fed was h) not_yet (omega arith))

-- all reads are used up: the known bytes begin with what was read
pub returns-else-is_enough-2-clause-known : goal.returns-else-is_enough-2-clause-known
returns-else-is_enough-2-clause-known g c = stops_known c.loop.invariant
