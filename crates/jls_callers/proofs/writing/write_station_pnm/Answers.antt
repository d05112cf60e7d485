use Rattle.std.proofs.Common.{refl, subst}
use Rattle.std.proofs.lemmas.Result.{IfErr-at_err}
use Rattle.jls_write.specs.Outcomes.{HandedOut, HandedPrefix, StoppedBy}
use Rattle.jls_write.specs.Picture.{WholePicture, picture_of}
use Rattle.jls_write.specs.Pnm.{pnm}
use Rattle.jls_write.specs.Unsettled.{NamesFirstUnsettled}
use Rattle.jls_callers.specs.declared.writing.StationFault.{StationFault}
use Rattle.jls_callers.proofs.StationFaults.{OfLine, OfOutput}
use Rattle.jls_callers.proofs.writing.write_station_pnm.Goals as goal

-- ---- a line isn't settled

pub returns-in-Err-clause-unsettled : goal.returns-in-Err-clause-unsettled
returns-in-Err-clause-unsettled g c = λ fault e.
    IfErr-at_err (OfLine (NamesFirstUnsettled c.args.station.now)) e c.in-Err.ensures.unsettled

pub returns-in-Err-clause-each_unsettled : goal.returns-in-Err-clause-each_unsettled
returns-in-Err-clause-each_unsettled g c = λ not. (c.in-Err.fault, refl)

pub returns-in-Err-clause-no_options : goal.returns-in-Err-clause-no_options
returns-in-Err-clause-no_options g c = λ e. IfErr-at_err (OfLine (λ fault. Unit {0})) e tt

pub returns-in-Err-clause-stops : goal.returns-in-Err-clause-stops
returns-in-Err-clause-stops g c = λ fault e. absurd (IfErr-at_err (OfLine (λ fault. Unit {0})) e tt)

pub returns-in-Err-clause-kept : goal.returns-in-Err-clause-kept
returns-in-Err-clause-kept g c = λ before. record { did_nothing = refl; contains_the_same = refl }

-- ---- a write failed

pub returns-in-Err-write_pnm-clause-unsettled : goal.returns-in-Err-write_pnm-clause-unsettled
returns-in-Err-write_pnm-clause-unsettled g c = λ fault e. absurd (IfErr-at_err (OfOutput (λ fault. Unit {0})) e tt)

pub returns-in-Err-write_pnm-clause-each_unsettled : goal.returns-in-Err-write_pnm-clause-each_unsettled
returns-in-Err-write_pnm-clause-each_unsettled g c = λ not. absurd (not c.in-Ok.ensures.settled)

pub returns-in-Err-write_pnm-clause-no_options : goal.returns-in-Err-write_pnm-clause-no_options
returns-in-Err-write_pnm-clause-no_options g c = λ e. IfErr-at_err (OfOutput (λ fault. Unit {0})) e tt

pub returns-in-Err-write_pnm-clause-stops : goal.returns-in-Err-write_pnm-clause-stops
returns-in-Err-write_pnm-clause-stops g c = λ fault e.
    IfErr-at_err (OfOutput (λ fault. StoppedBy fault 0 (HandedPrefix (g.W.Device.history c.args.sink.now)
    (g.W.Device.history c.write_pnm.new.sink) (g.W.Sink.contents c.args.sink.now) (g.W.Sink.contents c.write_pnm.new.sink)
    (pnm (picture_of c.args.station.now))))) e
    (subst (λ (pic : WholePicture). StoppedBy c.in-Err-write_pnm.fault 0 (HandedPrefix (g.W.Device.history c.args.sink.now)
    (g.W.Device.history c.write_pnm.new.sink) (g.W.Sink.contents c.args.sink.now) (g.W.Sink.contents c.write_pnm.new.sink) (pnm pic)))
    c.in-Ok.ensures.picture c.in-Err-write_pnm.ensures.prefix)

pub returns-in-Err-write_pnm-clause-kept : goal.returns-in-Err-write_pnm-clause-kept
returns-in-Err-write_pnm-clause-kept g c = λ before. absurd before

-- ---- the file was written

pub returns-in-Ok-write_pnm-clause-all : goal.returns-in-Ok-write_pnm-clause-all
returns-in-Ok-write_pnm-clause-all g c =
    subst (λ (pic : WholePicture). HandedOut (g.W.Device.history c.args.sink.now) (g.W.Device.history c.write_pnm.new.sink)
    (g.W.Sink.contents c.args.sink.now) (g.W.Sink.contents c.write_pnm.new.sink) (pnm pic)) c.in-Ok.ensures.picture
    c.in-Ok-write_pnm.ensures.all

pub returns-in-Ok-write_pnm-clause-unsettled : goal.returns-in-Ok-write_pnm-clause-unsettled
returns-in-Ok-write_pnm-clause-unsettled g c = λ fault e. absurd (IfErr-at_err (λ (fault : StationFault). ⊥) e tt)

pub returns-in-Ok-write_pnm-clause-each_unsettled : goal.returns-in-Ok-write_pnm-clause-each_unsettled
returns-in-Ok-write_pnm-clause-each_unsettled g c = λ not. absurd (not c.in-Ok.ensures.settled)

pub returns-in-Ok-write_pnm-clause-no_options : goal.returns-in-Ok-write_pnm-clause-no_options
returns-in-Ok-write_pnm-clause-no_options g c = λ e. IfErr-at_err (λ (fault : StationFault). ⊥) e tt

pub returns-in-Ok-write_pnm-clause-stops : goal.returns-in-Ok-write_pnm-clause-stops
returns-in-Ok-write_pnm-clause-stops g c = λ fault e. absurd (IfErr-at_err (λ (fault : StationFault). ⊥) e tt)
