use Rattle.std.proofs.Common.{◌≡◌, ap, ◌∙◌}
use Rattle.jls_partial.specs.Partial.{PartialPicture, with_source}
use Rattle.jls_c.proofs.Texts.{put_as, longer_as}
use Rattle.jls_c.proofs.make.put_read.Goals as goal

pub returns-clause-done : goal.returns-clause-done
returns-clause-done c = λ done.
    let made : c.mark.new.self ≡ with_source c.args.read.partial c.args.source =
    c.in-Ok-mark.ensures.marked ∙ ap (λ (p : PartialPicture). with_source p c.args.source) c.into_partial-partial.ensures in
    put_as _ _ _ _ _ _ _ made c.info_of-reported.ensures (c.put_text.ensures.done done)

pub returns-clause-short_room : goal.returns-clause-short_room
returns-clause-short_room c = λ short.
    let made : c.mark.new.self ≡ with_source c.args.read.partial c.args.source =
    c.in-Ok-mark.ensures.marked ∙ ap (λ (p : PartialPicture). with_source p c.args.source) c.into_partial-partial.ensures in
    longer_as _ _ _ _ _ _ made c.info_of-reported.ensures (c.put_text.ensures.short_room short)
