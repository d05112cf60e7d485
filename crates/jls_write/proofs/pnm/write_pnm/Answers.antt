use Rattle.std.proofs.Common.{◌≡◌, ◌++◌, ◌∙◌, List, ℕ, [], ap, sym, arith}
use Rattle.std.proofs.lemmas.List.{append-nil}
use Rattle.std.proofs.lemmas.Result.{on_ok_weaker}
use Rattle.jls_write.specs.Outcomes.{HandedPrefix, StoppedBy}
use Rattle.jls_write.specs.Picture.{WholePicture}
use Rattle.jls_write.specs.Pnm.{pnm_header, raster, pnm}
use Rattle.jls_write.proofs.Handing.{handed_as, handed_on, stopped_on, if_err_weaker}
use Rattle.jls_write.proofs.pnm.write_pnm.Goals as goal

-- the file is its header and its raster
file_is : (pic : WholePicture) (header out waits : List ℕ) → header ≡ pnm_header pic.shape → header ++ raster pic ≡ out ++ waits
    → out ++ waits ≡ pnm pic
file_is pic header out waits is all = sym all ∙ ap (λ (t : List ℕ). t ++ raster pic) is

-- the header and the raster went out
pub returns-clause-all : goal.returns-clause-all
returns-clause-all g c =
    let put = c.in_ok-write_raster.ensures.all in
    let all_is = file_is c.args.picture.now _ put.out c.write_raster.new.waiting.bytes.items
    (c.of-waiting.ensures.items ∙ c.deref.ensures.0 ∙ c.pnm_header.ensures ∙ ap pnm_header c.shape.ensures) put.all in
    on_ok_weaker c.hand_out.result (λ rest. handed_as _ _ all_is (handed_on _ _ _ _ _ _ _ _ put.handed rest)) c.hand_out.ensures.all

-- a write failed in the end: a prefix of the file went out
pub returns-clause-prefix : goal.returns-clause-prefix
returns-clause-prefix g c =
    let history = g.W.Device.history in
    let contents = g.W.Sink.contents in
    let pic = c.args.picture.now in
    let waits = c.write_raster.new.waiting.bytes.items in
    let gone = c.write_raster.new.waiting.gone in
    let put = c.in_ok-write_raster.ensures.all in
    let begun = c.of-waiting.ensures.gone in
    let counted = put.counted in
    let all_is = file_is pic _ put.out waits
    (c.of-waiting.ensures.items ∙ c.deref.ensures.0 ∙ c.pnm_header.ensures ∙ ap pnm_header c.shape.ensures) put.all in
    if_err_weaker c.hand_out.result
    (λ fault. StoppedBy fault gone
    (HandedPrefix (history c.write_raster.new.sink) (history c.hand_out.new.sink) (contents c.write_raster.new.sink)
    (contents c.hand_out.new.sink) waits))
    (λ fault. StoppedBy fault 0 (HandedPrefix (history c.args.sink.now) (history c.hand_out.new.sink) (contents c.args.sink.now)
    (contents c.hand_out.new.sink) (pnm pic)))
    (λ fault stopped. stopped_on _ _ (history c.hand_out.new.sink) _ _ (contents c.hand_out.new.sink) fault 0 gone put.out waits []
    (pnm pic) (omega (arith, counted, begun)) (sym (append-nil (put.out ++ waits) ∙ all_is)) put.handed stopped)
    c.hand_out.ensures.prefix
