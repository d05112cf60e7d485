use Rattle.std.proofs.Common.{◌≡◌, Result, Ok, Err, sym, ap, ◌∙◌, subst, refl}
use Rattle.std.proofs.lemmas.Result.{err_from_is_err_and}
use Rattle.jls_partial.specs.Partial.{PartialPicture}
use Rattle.jls_partial.specs.TextReading.{Fails}
use Rattle.jls_partial.specs.declared.text_fault.TextFault.{TextFault}
use Rattle.jls_partial.specs.declared.text_fault.TextFault.TheVariants as fault
use Rattle.jls_headline.specs.Collected.{text_back, same_again}
use Rattle.jls_callers.proofs.texts.read_back.Goals as goal

-- what was read, or else this
got : PartialPicture → Result PartialPicture TextFault → PartialPicture
got other (Ok p) = p
got other (Err f) = other

abbrev IsGood : Result PartialPicture TextFault → Type 0
IsGood (Ok p) = Unit {0}
IsGood (Err f) = ⊥

-- what is a text has no fault
only_memory : (f : TextFault) (p : PartialPicture) → Fails f (Ok p) → f ≡ fault.OutOfMemory
only_memory (fault.Magic offset) p h = absurd (subst IsGood h tt)
only_memory (fault.BadShape offset) p h = absurd (subst IsGood h tt)
only_memory (fault.Truncated offset) p h = absurd (subst IsGood h tt)
only_memory (fault.Place offset) p h = absurd (subst IsGood h tt)
only_memory (fault.Count offset) p h = absurd (subst IsGood h tt)
only_memory (fault.Order offset) p h = absurd (subst IsGood h tt)
only_memory (fault.Sample offset) p h = absurd (subst IsGood h tt)
only_memory (fault.Trailing offset) p h = absurd (subst IsGood h tt)
only_memory fault.OutOfMemory p h = refl

pub returns-clause-same : goal.returns-clause-same
unfolding got
returns-clause-same c =
    let other = c.args.other.now in
    c.holding.ensures ∙ sym (ap (got other) (c.in_ok-partial.ensures.only other c.requires))

pub returns-in_err-partial-clause-refused : goal.returns-in_err-partial-clause-refused
returns-in_err-partial-clause-refused c =
    let other = c.args.other.now in
    let p = err_from_is_err_and c.from_residual.result c.from_residual.ensures.1 in
    rw (p.1, p.2) (only_memory c.in_err-partial.field-0.0 other (c.in_err-partial.ensures.only other c.requires))

pub returns-clause-collected : goal.returns-clause-collected
returns-clause-collected c = λ known copies over collected.
    same_again c.in_ok-partial.partial c.holding.result copies over
    (text_back c.args.other.now c.in_ok-partial.partial copies over c.args.bytes.now collected c.requires c.in_ok-partial.ensures.found)
    c.holding.ensures
