use Rattle.std.proofs.Common.{◌≡◌, ℕ, ◌++◌, List, [], length, sym, ap, ◌∙◌, arith, length-append}
use Rattle.std.proofs.lemmas.List.{append-nil}
use Rattle.std.proofs.lemmas.Result.{on_ok_weaker}
use Rattle.jls_write.specs.Outcomes.{HandedPrefix, StoppedBy}
use Rattle.jls_write.proofs.Handing.{handed_as, handed_on, if_err_weaker}
use Rattle.jls_marker.specs.Scan.{Scan}
use Rattle.jls_write.specs.Picture.{WholePicture}
use Rattle.jls_write.specs.Parts.{scan_from}
use Rattle.jls_write.specs.Stops.{StopsIn}
use Rattle.jls_write.specs.WrittenFile.{before_interval, interval_code, marked_interval}
use Rattle.jls_write.proofs.FileLength.{marked_at_most}
use Rattle.jls_write.proofs.FileHanding.{stops_at_once, stops_by, stops_on}
use Rattle.jls_write.proofs.Scans.{marked_some}
use Rattle.jls_write.proofs.write.write_interval.Goals as goal

-- so few bytes have gone out that they can be counted
pub write_part-requires-in-Ok : goal.write_part-requires-in-Ok
write_part-requires-in-Ok g c =
    let part = c.args.part.now in
    let pic = part.picture.now in
    let s = scan_from pic part.options part.first part.count in
    let most = marked_at_most pic part.options part.first part.count c.args.interval c.requires.part.fit c.requires.part.shape
    c.requires.part.params c.requires.part.of_scan in
    let both = length-append (before_interval pic s c.args.interval) (interval_code pic s c.args.interval) in
    let mark = ap length (c.deref.ensures.value ∙ c.in-Ok.ensures.before) in
    let code = ap length (c.deref-in-Ok.ensures.value ∙ c.in-Ok.ensures.code) in
    let counted = c.in_ok-count-in-Ok.ensures.count in
    omega (arith, most, both, mark, code, counted, c.requires.early)

-- there is no memory for the interval
pub returns-in-Err-clause-stops : goal.returns-in-Err-clause-stops
returns-in-Err-clause-stops g c =
    let part = c.args.part.now in
    let pic = part.picture.now in
    stops_at_once (g.W.Device.history c.args.sink.now) (g.W.Sink.contents c.args.sink.now) c.args.before
    (marked_interval pic (scan_from pic part.options part.first part.count) c.args.interval)
    (marked_some pic part.options part.first part.count c.args.interval)

-- what stands before an interval, and its code
marked : (pic : WholePicture) (s : Scan) (k : ℕ) (mark code : List ℕ) → mark ≡ before_interval pic s k → code ≡ interval_code pic s k
    → mark ++ code ≡ marked_interval pic s k
marked pic s k mark code mark_is code_is =
    ap (λ (t : List ℕ). t ++ code) mark_is ∙ ap (λ (t : List ℕ). before_interval pic s k ++ t) code_is

-- what stands before the interval went out, and its code
pub returns-in_ok-count-in-Ok-clause-all : goal.returns-in_ok-count-in-Ok-clause-all
returns-in_ok-count-in-Ok-clause-all g c =
    let s = scan_from c.args.part.now.picture.now c.args.part.now.options c.args.part.now.first c.args.part.now.count in
    let all_is = marked c.args.part.now.picture.now s c.args.interval c.deref.result.now c.deref-in-Ok.result.now
    (c.deref.ensures.value ∙ c.in-Ok.ensures.before) (c.deref-in-Ok.ensures.value ∙ c.in-Ok.ensures.code) in
    on_ok_weaker c.write_part-in-Ok.result
    (λ second. handed_as _ _ all_is (handed_on _ _ _ _ _ _ _ _ c.in_ok-count-in-Ok.ensures.all second)) c.write_part-in-Ok.ensures.all

-- what stands before the interval went out, and its code as far as it did
pub returns-in_ok-count-in-Ok-clause-stops : goal.returns-in_ok-count-in-Ok-clause-stops
returns-in_ok-count-in-Ok-clause-stops g c =
    let history = g.W.Device.history in
    let contents = g.W.Sink.contents in
    let part = c.args.part.now in
    let mark = c.deref.result.now in
    let code = c.deref-in-Ok.result.now in
    let s = scan_from part.picture.now part.options part.first part.count in
    let all = marked_interval part.picture.now s c.args.interval in
    let all_is : mark ++ code ≡ all = marked part.picture.now s c.args.interval mark code
    (c.deref.ensures.value ∙ c.in-Ok.ensures.before) (c.deref-in-Ok.ensures.value ∙ c.in-Ok.ensures.code) in
    if_err_weaker c.write_part-in-Ok.result
    (λ fault. StoppedBy fault c.in_ok-count-in-Ok.count
    (HandedPrefix (history c.write_part.new.sink) (history c.write_part-in-Ok.new.sink) (contents c.write_part.new.sink)
    (contents c.write_part-in-Ok.new.sink) code))
    (λ fault. StopsIn fault c.args.before (history c.args.sink.now) (history c.write_part-in-Ok.new.sink) (contents c.args.sink.now)
    (contents c.write_part-in-Ok.new.sink) all)
    (λ fault stopped. stops_on _ _ (history c.write_part-in-Ok.new.sink) _ _ (contents c.write_part-in-Ok.new.sink) fault c.args.before _
    mark code [] all c.in_ok-count-in-Ok.ensures.count (sym (append-nil (mark ++ code) ∙ all_is)) c.in_ok-count-in-Ok.ensures.all
    (stops_by (history c.write_part.new.sink) (history c.write_part-in-Ok.new.sink) (contents c.write_part.new.sink)
    (contents c.write_part-in-Ok.new.sink) fault c.in_ok-count-in-Ok.count code stopped))
    c.write_part-in-Ok.ensures.prefix
