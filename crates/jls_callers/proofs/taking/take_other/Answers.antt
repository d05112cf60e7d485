use Rattle.std.proofs.Common.{◌≡◌, ◌++◌, false, true, sym, subst}
use Rattle.std.specs.Prelude.{◌↔◌, OnOk, IsErrOf}
use Rattle.jls_values.specs.Join.{IsBetween}
use Rattle.jls_values.specs.declared.merge.MergeFault.TheVariants.{ShapeDiffers, OutOfMemory}
use Rattle.jls_partial.specs.Partial.{PartialPicture, has_same_shape, union}
use Rattle.jls_headline.specs.Collected.{Collected, same_again, partial_taken, partial_ran_out}
use Rattle.jls_callers.proofs.Answered.{ok_both}
use Rattle.jls_callers.proofs.taking.take_other.Goals as goal

pub returns-clause-taken : goal.returns-clause-taken
returns-clause-taken c = λ known copies over more further g k.
    let old = c.args.station.now in
    let new = c.take.new.self in
    let other = c.partial.result.now in
    ok_both c.take.result (new ≡ union old other) (has_same_shape old other ≡ true) (Collected known new (copies ++ more) (over ++ further))
    c.take.ensures.ok c.take.ensures.ok_same_shape
    (λ is same. partial_taken old new other copies over more further g
    (subst (λ (p : PartialPicture). Collected known p more further) (sym c.partial.ensures) k) same is)

pub returns-clause-ran_out : goal.returns-clause-ran_out
returns-clause-ran_out c = λ known copies over more further g k e.
    partial_ran_out c.args.station.now c.take.new.self c.partial.result.now copies over more further g
    (subst (λ (p : PartialPicture). Collected known p more further) (sym c.partial.ensures) k) (c.take.ensures.out_of_memory e)

pub returns-clause-refused : goal.returns-clause-refused
returns-clause-refused c = λ known copies over g e. same_again c.args.station.now c.take.new.self copies over g (c.take.ensures.unchanged e)

pub returns-clause-ok : goal.returns-clause-ok
returns-clause-ok c =
    subst (λ (p : PartialPicture). OnOk c.take.result (c.take.new.self ≡ union c.args.station.now p)) c.partial.ensures c.take.ensures.ok

pub returns-clause-shape_differs : goal.returns-clause-shape_differs
returns-clause-shape_differs c =
    subst (λ (p : PartialPicture). IsErrOf c.take.result ShapeDiffers ↔ (has_same_shape c.args.station.now p ≡ false)) c.partial.ensures
    c.take.ensures.shape_differs

pub returns-clause-between : goal.returns-clause-between
returns-clause-between c =
    let old = c.args.station.now in
    subst (λ (p : PartialPicture). IsErrOf c.take.result OutOfMemory → IsBetween union old c.take.new.self (union old p)) c.partial.ensures
    c.take.ensures.out_of_memory
