use Rattle.std.proofs.Common.{ℕ, ◌<◌, ◌^◌, refl, sym, subst, arith}
use Rattle.std.proofs.lemmas.Bool.{false≢true}
use Rattle.std.proofs.lemmas.Result.{IfErr-at_err}
use Rattle.jls_values.specs.Params.{CodingParameters, AreCodingParameters}
use Rattle.jls_write.specs.Outcomes.{HandedOut}
use Rattle.jls_write.specs.Picture.{WholePicture, picture_of}
use Rattle.jls_write.specs.Stops.{StopsIn}
use Rattle.jls_write.specs.Unsettled.{NamesFirstUnsettled}
use Rattle.jls_write.specs.WrittenFile.{written_file}
use Rattle.jls_write.specs.Options.{OptionsFit}
use Rattle.jls_write.specs.declared.output.OutputFault.{OutputFault}
use Rattle.jls_headline.specs.Headline.{SinkCall}
use Rattle.jls_callers.specs.declared.writing.StationFault.{StationFault}
use Rattle.jls_callers.proofs.StationFaults.{OfLine, OfOptions, OfOutput, not_settled}
use Rattle.jls_callers.proofs.writing.write_station.Goals as goal

-- ---- a line isn't settled

pub returns-in-Err-clause-unsettled : goal.returns-in-Err-clause-unsettled
returns-in-Err-clause-unsettled g c = λ fault e.
    IfErr-at_err (OfLine (NamesFirstUnsettled c.args.station.now)) e c.in-Err.ensures.unsettled

pub returns-in-Err-clause-each_unsettled : goal.returns-in-Err-clause-each_unsettled
returns-in-Err-clause-each_unsettled g c = λ not. (c.in-Err.fault, refl)

pub returns-in-Err-clause-unfit : goal.returns-in-Err-clause-unfit
returns-in-Err-clause-unfit g c = λ e. absurd (IfErr-at_err (OfLine (λ fault. Unit {0})) e tt)

pub returns-in-Err-clause-each_unfit : goal.returns-in-Err-clause-each_unfit
returns-in-Err-clause-each_unfit g c = λ settled not.
    absurd (not_settled c.args.station.now c.in-Err.fault c.in-Err.ensures.unsettled settled)

pub returns-in-Err-clause-stops : goal.returns-in-Err-clause-stops
returns-in-Err-clause-stops g c = λ fault e. absurd (IfErr-at_err (OfLine (λ fault. Unit {0})) e tt)

pub returns-in-Err-clause-kept : goal.returns-in-Err-clause-kept
returns-in-Err-clause-kept g c = λ before. record { did_nothing = refl; contains_the_same = refl }

-- ---- the options don't fit

pub returns-then-not-fits-clause-unsettled : goal.returns-then-not-fits-clause-unsettled
returns-then-not-fits-clause-unsettled g c = λ fault e. absurd (IfErr-at_err OfOptions e tt)

pub returns-then-not-fits-clause-each_unsettled : goal.returns-then-not-fits-clause-each_unsettled
returns-then-not-fits-clause-each_unsettled g c = λ not. absurd (not c.in-Ok.ensures.settled)

pub returns-then-not-fits-clause-unfit : goal.returns-then-not-fits-clause-unfit
returns-then-not-fits-clause-unfit g c = λ e. (
  c.in-Ok.ensures.settled,
  λ fit. false≢true (c.if-not-fits.ensures.1
      (subst (λ (pic : WholePicture). OptionsFit pic c.args.options.now) (sym c.in-Ok.ensures.picture) fit)),
)

pub returns-then-not-fits-clause-each_unfit : goal.returns-then-not-fits-clause-each_unfit
returns-then-not-fits-clause-each_unfit g c = λ settled not. refl

pub returns-then-not-fits-clause-stops : goal.returns-then-not-fits-clause-stops
returns-then-not-fits-clause-stops g c = λ fault e. absurd (IfErr-at_err OfOptions e tt)

pub returns-then-not-fits-clause-kept : goal.returns-then-not-fits-clause-kept
returns-then-not-fits-clause-kept g c = λ before. record { did_nothing = refl; contains_the_same = refl }

-- ---- a write failed, or there was no memory

pub returns-in-Err-write_jls-clause-unsettled : goal.returns-in-Err-write_jls-clause-unsettled
returns-in-Err-write_jls-clause-unsettled g c = λ fault e. absurd (IfErr-at_err (OfOutput (λ fault. Unit {0})) e tt)

pub returns-in-Err-write_jls-clause-each_unsettled : goal.returns-in-Err-write_jls-clause-each_unsettled
returns-in-Err-write_jls-clause-each_unsettled g c = λ not. absurd (not c.in-Ok.ensures.settled)

pub returns-in-Err-write_jls-clause-unfit : goal.returns-in-Err-write_jls-clause-unfit
returns-in-Err-write_jls-clause-unfit g c = λ e. absurd (IfErr-at_err (OfOutput (λ fault. Unit {0})) e tt)

pub returns-in-Err-write_jls-clause-each_unfit : goal.returns-in-Err-write_jls-clause-each_unfit
returns-in-Err-write_jls-clause-each_unfit g c = λ settled not.
    absurd (not (subst (λ (pic : WholePicture). OptionsFit pic c.args.options.now) c.in-Ok.ensures.picture
    (c.if-not-fits.ensures.0 refl)))

pub returns-in-Err-write_jls-clause-stops : goal.returns-in-Err-write_jls-clause-stops
returns-in-Err-write_jls-clause-stops g c = λ fault e.
    IfErr-at_err (OfOutput (λ fault. StopsIn fault 0 (g.W.Device.history c.args.sink.now) (g.W.Device.history c.write_jls.new.sink)
    (g.W.Sink.contents c.args.sink.now) (g.W.Sink.contents c.write_jls.new.sink)
    (written_file (picture_of c.args.station.now) c.args.options.now))) e
    (subst (λ (pic : WholePicture). StopsIn c.in-Err-write_jls.fault 0 (g.W.Device.history c.args.sink.now)
    (g.W.Device.history c.write_jls.new.sink) (g.W.Sink.contents c.args.sink.now) (g.W.Sink.contents c.write_jls.new.sink)
    (written_file pic c.args.options.now)) c.in-Ok.ensures.picture c.in-Err-write_jls.ensures.stops)

pub returns-in-Err-write_jls-clause-kept : goal.returns-in-Err-write_jls-clause-kept
returns-in-Err-write_jls-clause-kept g c = λ before. absurd before

-- ---- the file was written

pub returns-in-Ok-write_jls-clause-all : goal.returns-in-Ok-write_jls-clause-all
returns-in-Ok-write_jls-clause-all g c =
    subst (λ (pic : WholePicture). HandedOut (g.W.Device.history c.args.sink.now) (g.W.Device.history c.write_jls.new.sink)
    (g.W.Sink.contents c.args.sink.now) (g.W.Sink.contents c.write_jls.new.sink) (written_file pic c.args.options.now))
    c.in-Ok.ensures.picture c.in-Ok-write_jls.ensures.all

pub returns-in-Ok-write_jls-clause-unsettled : goal.returns-in-Ok-write_jls-clause-unsettled
returns-in-Ok-write_jls-clause-unsettled g c = λ fault e. absurd (IfErr-at_err (λ (fault : StationFault). ⊥) e tt)

pub returns-in-Ok-write_jls-clause-each_unsettled : goal.returns-in-Ok-write_jls-clause-each_unsettled
returns-in-Ok-write_jls-clause-each_unsettled g c = λ not. absurd (not c.in-Ok.ensures.settled)

pub returns-in-Ok-write_jls-clause-unfit : goal.returns-in-Ok-write_jls-clause-unfit
returns-in-Ok-write_jls-clause-unfit g c = λ e. absurd (IfErr-at_err (λ (fault : StationFault). ⊥) e tt)

pub returns-in-Ok-write_jls-clause-each_unfit : goal.returns-in-Ok-write_jls-clause-each_unfit
returns-in-Ok-write_jls-clause-each_unfit g c = λ settled not.
    absurd (not (subst (λ (pic : WholePicture). OptionsFit pic c.args.options.now) c.in-Ok.ensures.picture
    (c.if-not-fits.ensures.0 refl)))

pub returns-in-Ok-write_jls-clause-stops : goal.returns-in-Ok-write_jls-clause-stops
returns-in-Ok-write_jls-clause-stops g c = λ fault e. absurd (IfErr-at_err (λ (fault : StationFault). ⊥) e tt)

pub returns-in-Ok-write_jls-clause-damaged : goal.returns-in-Ok-write_jls-clause-damaged
returns-in-Ok-write_jls-clause-damaged g c = λ pic copies is collected damaged each.
    let writes = c.same_copies_give_the_picture.ensures.damaged pic is c.args.station.now copies collected damaged each in
    let call : SinkCall = record {
      old = g.W.Device.history c.args.sink.now;
      new = g.W.Device.history c.write_jls.new.sink;
      held = g.W.Sink.contents c.args.sink.now;
      holds = g.W.Sink.contents c.write_jls.new.sink;
    } in
    let low : c.restart_interval-ri.result < 2 ^ 32 = omega (arith, c.restart_interval-ri.type_inv) in
    let fit : OptionsFit c.in-Ok.picture c.args.options.now = c.if-not-fits.ensures.0 refl in
    let file = writes.file c.in-Ok.picture c.args.options.now call c.in-Ok.ensures.picture
    (subst (λ (p : CodingParameters). AreCodingParameters p) c.params-params.ensures c.precision-precision.ensures.ranges)
    (subst (λ (n : ℕ). n < 2 ^ 32) c.restart_interval-ri.ensures low) fit c.in-Ok-write_jls.ensures.all in
    (file.0, file.1, file.2)

pub returns-in-Err-clause-damaged : goal.returns-in-Err-clause-damaged
returns-in-Err-clause-damaged g c = λ pic copies is collected damaged each. tt

pub returns-then-not-fits-clause-damaged : goal.returns-then-not-fits-clause-damaged
returns-then-not-fits-clause-damaged g c = λ pic copies is collected damaged each. tt

pub returns-in-Err-write_jls-clause-damaged : goal.returns-in-Err-write_jls-clause-damaged
returns-in-Err-write_jls-clause-damaged g c = λ pic copies is collected damaged each. tt
