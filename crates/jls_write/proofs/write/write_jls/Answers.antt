use Rattle.std.proofs.Common.{◌≡◌, ℕ, ◌+◌, ◌++◌, List, [], ◌∷◌, length, sym, ap, ◌∙◌, arith, length-append, append_assoc}
use Rattle.std.proofs.lemmas.List.{append-nil}
use Rattle.std.proofs.lemmas.Result.{err_from_is_err_and}
use Rattle.jls_write.proofs.Handing.{handed_as, handed_on}
use Rattle.jls_write.specs.Picture.{WholePicture}
use Rattle.jls_write.specs.Options.{WriteOptions}
use Rattle.jls_write.specs.WrittenFile.{header_bytes, scans_bytes, written_file}
use Rattle.jls_write.proofs.FileLength.{header_at_most, all_scans_at_most}
use Rattle.jls_write.proofs.FileHanding.{stops_by, stops_first, stops_on}
use Rattle.jls_write.proofs.write.write_jls.Goals as goal

-- the file is its header, and then its scans and EOI
file_is : (pic : WholePicture) (o : WriteOptions) (header : List ℕ) → header ≡ header_bytes pic o
    → header ++ (scans_bytes pic o ++ 0xFF ∷ 0xD9 ∷ []) ≡ written_file pic o
file_is pic o header is = ap (λ (t : List ℕ). t ++ (scans_bytes pic o ++ 0xFF ∷ 0xD9 ∷ [])) is

parts : (pic : WholePicture) (o : WriteOptions) (header : List ℕ) → header ≡ header_bytes pic o
    → written_file pic o ≡ (header ++ scans_bytes pic o) ++ 0xFF ∷ 0xD9 ∷ []
parts pic o header is = sym (append_assoc header (scans_bytes pic o) (0xFF ∷ 0xD9 ∷ []) ∙ file_is pic o header is)

-- a write of the header failed
pub returns-in_err-count-in-Ok-clause-stops : goal.returns-in_err-count-in-Ok-clause-stops
returns-in_err-count-in-Ok-clause-stops g c =
    let old = g.W.Device.history c.args.sink.now in
    let new = g.W.Device.history c.write_part.new.sink in
    let held = g.W.Sink.contents c.args.sink.now in
    let holds = g.W.Sink.contents c.write_part.new.sink in
    let pic = c.args.picture.now in
    let header = c.deref.result.now in
    let fault = c.in_err-count-in-Ok.field-0.0 in
    let p = err_from_is_err_and c.from_residual.result c.from_residual.ensures.1 in
    rw (p.1, p.2) (stops_first old new held holds fault 0 header (scans_bytes pic c.args.options.now ++ 0xFF ∷ 0xD9 ∷ [])
    (written_file pic c.args.options.now) (sym (file_is pic c.args.options.now header (c.deref.ensures.value ∙ c.in-Ok.ensures.value)))
    (stops_by old new held holds fault 0 header c.in_err-count-in-Ok.ensures.prefix))

-- the headers leave room for the scans in the count
pub write_scans-requires-clause-early : goal.write_scans-requires-clause-early
write_scans-requires-clause-early g c =
    let few = header_at_most c.args.picture.now c.args.options.now c.header_bytes.ensures.ranges in
    let size = ap length (c.deref.ensures.value ∙ c.in-Ok.ensures.value) in
    let count = c.in_ok-count-in-Ok.ensures.count in
    omega (arith, few, size, count)

-- a scan was not handed out whole
pub returns-in_err-count-in-Ok-2-clause-stops : goal.returns-in_err-count-in-Ok-2-clause-stops
returns-in_err-count-in-Ok-2-clause-stops g c =
    let pic = c.args.picture.now in
    let o = c.args.options.now in
    let header = c.deref.result.now in
    let p = err_from_is_err_and c.from_residual-in_err-count-in-Ok-2.result c.from_residual-in_err-count-in-Ok-2.ensures.1 in
    rw (p.1, p.2) (stops_on _ _ (g.W.Device.history c.write_scans.new.sink) _ _ (g.W.Sink.contents c.write_scans.new.sink)
    c.in_err-count-in-Ok-2.field-0.0 0 _ header (scans_bytes pic o) (0xFF ∷ 0xD9 ∷ []) (written_file pic o)
    c.in_ok-count-in-Ok.ensures.count (parts pic o header (c.deref.ensures.value ∙ c.in-Ok.ensures.value))
    c.in_ok-count-in-Ok.ensures.all c.in_err-count-in-Ok-2.ensures.stops)

-- the headers and the scans leave room for EOI in the count
pub write_part-requires-in-Ok : goal.write_part-requires-in-Ok
write_part-requires-in-Ok g c =
    let few = header_at_most c.args.picture.now c.args.options.now c.header_bytes.ensures.ranges in
    let size = ap length (c.deref.ensures.value ∙ c.in-Ok.ensures.value) in
    let scans = all_scans_at_most c.args.picture.now c.args.options.now c.requires c.header_bytes.ensures.ranges c.in-Ok.ensures.params in
    let count = c.in_ok-count-in-Ok.ensures.count in
    let more = c.in_ok-count-in-Ok-2.ensures.count in
    omega (arith, few, size, count, scans, more)

-- the write of EOI failed
pub returns-in_err-write_part-in-Ok-clause-stops : goal.returns-in_err-write_part-in-Ok-clause-stops
returns-in_err-write_part-in-Ok-clause-stops g c =
    let new = g.W.Device.history c.write_part-in-Ok.new.sink in
    let holds = g.W.Sink.contents c.write_part-in-Ok.new.sink in
    let o = c.args.options.now in
    let header = c.deref.result.now in
    let before = header ++ scans_bytes c.args.picture.now o in
    let eoi : List ℕ = 0xFF ∷ 0xD9 ∷ [] in
    let sizes = length-append header (scans_bytes c.args.picture.now o) in
    let first = c.in_ok-count-in-Ok.ensures.count in
    let second = c.in_ok-count-in-Ok-2.ensures.count in
    let counted : c.in_ok-count-in-Ok-2.count ≡ 0 + length before = omega (arith, sizes, first, second) in
    let p = err_from_is_err_and c.from_residual-in_err-write_part-in-Ok.result c.from_residual-in_err-write_part-in-Ok.ensures.1 in
    let fault = c.in_err-write_part-in-Ok.field-0.0 in
    rw (p.1, p.2) (stops_on _ _ new _ _ holds fault 0 _ before eoi [] (written_file c.args.picture.now o) counted
    (parts c.args.picture.now o header (c.deref.ensures.value ∙ c.in-Ok.ensures.value) ∙ sym (append-nil (before ++ eoi)))
    (handed_on _ _ _ _ _ _ _ _ c.in_ok-count-in-Ok.ensures.all c.in_ok-count-in-Ok-2.ensures.all)
    (stops_by (g.W.Device.history c.write_scans.new.sink) new (g.W.Sink.contents c.write_scans.new.sink) holds fault
    c.in_ok-count-in-Ok-2.count eoi c.in_err-write_part-in-Ok.ensures.prefix))

-- headers, scans and EOI went out, which are the file
pub returns-in_ok-write_part-in-Ok-clause-all : goal.returns-in_ok-write_part-in-Ok-clause-all
returns-in_ok-write_part-in-Ok-clause-all g c =
    handed_as _ _ (file_is c.args.picture.now c.args.options.now c.deref.result.now (c.deref.ensures.value ∙ c.in-Ok.ensures.value))
    (handed_on _ _ _ _ _ _ _ _ c.in_ok-count-in-Ok.ensures.all
    (handed_on _ _ _ _ _ _ _ _ c.in_ok-count-in-Ok-2.ensures.all c.in_ok-write_part-in-Ok.ensures.all))
