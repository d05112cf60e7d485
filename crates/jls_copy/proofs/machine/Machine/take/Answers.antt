use Rattle.std.proofs.Common.{◌≤◌, length, refl, subst, arith}
use Rattle.jls_copy.specs.Stretch.{TakesData, TakesStep}
use Rattle.jls_copy.specs.declared.place.CopyPosition.TheVariants.{Done}
use Rattle.jls_copy.proofs.Idle.{all_at_end}
use Rattle.jls_copy.proofs.MachineTakes.{takes_stretch, takes_of_scan}
use Rattle.jls_copy.proofs.machine.Machine.take.Goals as goal

-- bytes of the piece are taken
pub returns-in-Data : goal.returns-in-Data
returns-in-Data c =
    let fed : TakesData c.in-InScan.scan c.args.bytes.now c.take.new.self c.in-Data.count =
    subst (λ step. TakesStep c.in-InScan.scan c.args.bytes.now c.take.new.self step) c.in-Data.is c.in_ok-count-in-InScan.ensures in
    takes_of_scan c.args.self.now _ c.args.bytes.now c.in-Data.count c.in-InScan.scan c.take.new.self c.in-InScan.is refl fed refl refl refl
    refl
    c.requires.machine.place_is c.requires.machine.header_bytes

-- bytes after the end are taken
pub returns-in-Done : goal.returns-in-Done
returns-in-Done c =
    let all : length c.args.bytes.now ≤ length c.args.bytes.now = omega arith in
    takes_stretch c.args.self.now _ c.args.bytes.now (length c.args.bytes.now) (Done c.in-Done.field-0) (Done c.in-Done.field-0)
    c.in-Done.is c.in-Done.is
    c.requires.some all (all_at_end c.in-Done.field-0 c.args.bytes.now (length c.args.bytes.now) all)
    refl refl refl refl refl tt c.requires.machine.header_bytes
