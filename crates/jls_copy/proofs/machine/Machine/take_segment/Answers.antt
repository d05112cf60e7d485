use Rattle.std.proofs.Common.{Ok, ap, ◌∙◌, subst, sym}
use Rattle.jls_copy.specs.Sound.{IsOfFrame}
use Rattle.jls_copy.proofs.HeaderFacts.{scan_is_of_frame}
use Rattle.jls_copy.proofs.machine.Machine.take_segment.Goals as goal

-- the segment begins a scan, which is one of the frame
pub returns-in-Ok-Some-clause-sound : goal.returns-in-Ok-Some-clause-sound
returns-in-Ok-Some-clause-sound c = λ _.
    let plan = ap (λ scan. scan.plan) c.open-scan.ensures.opened in
    let taken = c.in-Ok-Some.ensures.accepted ∙ ap (λ scan. Ok (c.take.new.self, scan)) c.in-Ok-Some.field-0-is in (
      c.open-scan.ensures.sound,
      subst (IsOfFrame c.take.new.self.frame) (sym plan)
          (scan_is_of_frame c.args.self.now.headers c.take.new.self c.args.code c.deref.result.now c.in-Ok-Some.plan taken),
    )
