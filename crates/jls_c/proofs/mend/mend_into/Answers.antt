use Rattle.std.proofs.Common.{◌∙◌, map, subst, sym}
use Rattle.jls_mend.specs.Asking.{places_of}
use Rattle.jls_mend.specs.Mending.{IsMendedOf, IsOfRun, IsRefusedOf}
use Rattle.jls_c.proofs.Known.{of_mended, of_refused}
use Rattle.jls_c.proofs.Mending.{stops_of}
use Rattle.jls_c.proofs.mend.mend_into.Goals as goal

pub returns-in-Ok-clause-answers : goal.returns-in-Ok-clause-answers
returns-in-Ok-clause-answers c = of_mended c.put_mended.result c.put_mended.ensures.known c.put_mended.ensures.answers

pub returns-in-Ok-clause-done : goal.returns-in-Ok-clause-done
returns-in-Ok-clause-done c = λ done.
    let copies = map (λ copy. copy.now) c.args.copies.now in
    let bad = map places_of c.args.bad.now in
    record {
      v = c.in-Ok.mended;
      mended = subst (λ o. IsMendedOf o copies bad c.in-Ok.mended) c.options_of.ensures c.in-Ok.ensures.mended;
      of_run = subst (λ o. IsOfRun o copies bad c.in-Ok.mended) c.options_of.ensures c.in-Ok.ensures.ran;
      put = c.put_mended.ensures.done done;
    }

pub returns-in-Ok-clause-short_room : goal.returns-in-Ok-clause-short_room
returns-in-Ok-clause-short_room c = λ short.
    let copies = map (λ copy. copy.now) c.args.copies.now in
    let bad = map places_of c.args.bad.now in
    record {
      v = c.in-Ok.mended;
      mended = subst (λ o. IsMendedOf o copies bad c.in-Ok.mended) c.options_of.ensures c.in-Ok.ensures.mended;
      of_run = subst (λ o. IsOfRun o copies bad c.in-Ok.mended) c.options_of.ensures c.in-Ok.ensures.ran;
      longer = c.put_mended.ensures.short_room short;
    }

pub returns-in-Err-clause-answers : goal.returns-in-Err-clause-answers
returns-in-Err-clause-answers c = of_refused c.refuse_mending.result c.refuse_mending.ensures.known

pub returns-in-Err-clause-not_mended : goal.returns-in-Err-clause-not_mended
returns-in-Err-clause-not_mended c = λ not_mended.
    let copies = map (λ copy. copy.now) c.args.copies.now in
    let bad = map places_of c.args.bad.now in
    let answer = sym c.refuse_mending.ensures.answer ∙ not_mended in
    record {
      refusal = c.in-Err.refusal;
      stops = stops_of _ copies bad c.in-Err.refusal
          (subst (λ o. IsRefusedOf o copies bad c.in-Err.refusal) c.options_of.ensures c.in-Err.ensures.refused) answer;
      no_want_of_memory = answer;
      info_is = c.refuse_mending.ensures.not_mended not_mended;
    }
