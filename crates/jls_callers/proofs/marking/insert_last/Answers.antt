use Rattle.std.proofs.Common.{◌≡◌, [], sym, subst}
use Rattle.jls_partial.specs.Partial.{PartialPicture, with_reading}
use Rattle.jls_headline.specs.Collected.{CollectedFrom, CollectedUnder, is_known}
use Rattle.jls_headline.specs.Sources.{copies_of, HoldsExactlyUnder}
use Rattle.jls_headline.specs.Stations.{HoldsExactly}
use Rattle.jls_values.proofs.Lists.{none_in}
use Rattle.jls_callers.proofs.Answered.{ok_both}
use Rattle.jls_callers.proofs.marking.insert_last.Goals as goal

pub returns-clause-readings : goal.returns-clause-readings
returns-clause-readings c = λ copies h.
    let new = c.insert.new.self in
    let old = with_reading c.args.partial.now c.args.component c.args.line c.args.samples.now in
    ok_both c.insert.result (new ≡ old) (new ≡ old) (CollectedFrom new copies) c.insert.ensures.held c.insert.ensures.held
    (λ is again. (
      [],
      is_known new copies (subst (λ (p : PartialPicture). HoldsExactly p (copies_of copies)) (sym is) h),
      λ copy m. absurd (none_in copy m),
    ))

pub returns-clause-sources : goal.returns-clause-sources
returns-clause-sources c = λ copies h.
    let new = c.insert.new.self in
    let old = with_reading c.args.partial.now c.args.component c.args.line c.args.samples.now in
    ok_both c.insert.result (new ≡ old) (new ≡ old) (CollectedUnder new copies) c.insert.ensures.held c.insert.ensures.held
    (λ is again. (
      [],
      is_known new copies (subst (λ (p : PartialPicture). HoldsExactlyUnder p copies) (sym is) h),
      λ copy m. absurd (none_in copy m),
    ))
