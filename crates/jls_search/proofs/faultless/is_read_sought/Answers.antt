use Rattle.std.proofs.Common.{subst, sym, rules}
use Rattle.std.specs.Prelude.{IsTrue}
use Rattle.jls_partial.specs.Partial.{IsFitting}
use Rattle.jls_search.specs.Faultless.{IsReadWithin}
use Rattle.jls_search.proofs.Ceilings.{read_within, within_read}
use Rattle.jls_search.proofs.faultless.is_read_sought.Goals as goal

pub returns-clause-sought : goal.returns-clause-sought
returns-clause-sought c = λ yes file reads.
    let within : IsTrue c.is_read_within.result = search rules in
    let read_is = subst (IsReadWithin c.args.ceiling) c.partial-2.ensures (c.is_read_within.ensures.0 within) in
    let fits = subst IsFitting c.partial.ensures c.shape-shape.ensures.fitting in (
      c.is_read_faultless-faultless.ensures.faultless c.if-not-faultless.false file reads,
      read_within file c.args.read.now reads c.args.ceiling fits read_is,
    )

pub returns-clause-unsought : goal.returns-clause-unsought
returns-clause-unsought c = λ no file reads low sought.
    let read_is = within_read file c.args.read.now reads c.args.ceiling low sought.1 in
    let reported : IsTrue c.is_read_within.result =
    c.is_read_within.ensures.1 (subst (IsReadWithin c.args.ceiling) (sym c.partial-2.ensures) read_is) in
    search rules
