use Rattle.std.proofs.Common.{◌≡◌, ◌∙◌, ◌∷◌, [], ℕ, List, map, not, true, false, length, ap, sym, subst, None, arith}
use Rattle.std.specs.Prelude.{nat_le}
use Rattle.jls_partial.specs.Entries.{at_place, partial_of}
use Rattle.jls_partial.specs.Held.{IsStoreOf, kept_entry}
use Rattle.jls_partial.specs.InsertFaults.{reading_fault, samples_fault}
use Rattle.jls_partial.specs.Partial.{PartialPicture, with_all}
use Rattle.jls_values.specs.Shape.{PictureShape}
use Rattle.jls_partial.proofs.BareEntries.{first_none}
use Rattle.jls_partial.proofs.Store.{holds_stored}
use Rattle.jls_partial.proofs.StorePuts.{all_small, store_put}
use Rattle.jls_partial.proofs.partial.Partial.keep.Goals.{In_ok-take}
use Rattle.jls_partial.proofs.partial.Partial.keep.Goals as goal

-- a reading that fits the picture fits its lines
fits_lines : (shape : PictureShape) (component line : ℕ) (x : List ℕ) → reading_fault shape component line x ≡ None
    → samples_fault shape.precision shape.width x ≡ None
fits_lines shape component line x e =
    let a = first_none (nat_le (length shape.ids) component) _ _ e in
    let b = first_none (nat_le shape.height line) _ _ a.1 in
    b.1

-- the reading fits, so its samples have no fault
pub take-requires : goal.take-requires
take-requires c =
    let shape = c.self.inside.shape in
    let at = c.args.at in
    let x = c.args.samples.now in
    let fits = subst (λ (s : PictureShape). reading_fault s at.component at.line x ≡ None) (sym (ap (λ p. p.shape) c.self.view_is))
    c.requires in
    (λ i. samples_fault (c.self.invariant.precision i) (c.self.invariant.width i) x) ∙ fits_lines shape at.component at.line x fits

-- the store has taken the reading
put : (c : In_ok-take) → IsStoreOf c.self.inside.shape c.take.new.self
    × (partial_of c.self.inside.shape (map kept_entry c.take.new.self.entries)
    ≡ with_all (partial_of c.self.inside.shape (map kept_entry c.self.inside.store.entries))
    ((at_place c.args.at c.args.samples.now, c.args.sources.now) ∷ []))
put c =
    let at = c.args.at in
    let x = c.args.samples.now in
    let fits = subst (λ (s : PictureShape). reading_fault s at.component at.line x ≡ None) (sym (ap (λ p. p.shape) c.self.view_is))
    c.requires in
    let small = all_small c.args.sources.now (λ i. omega (arith, c.type_inv.sources i)) in
    store_put c.self.inside.shape c.self.inside.store c.take.new.self at x c.args.sources.now c.self.invariant fits small
    c.in_ok-take.ensures.ordered c.in_ok-take.ensures.ok

pub invariant_of-self-2 : goal.invariant_of-self-2
invariant_of-self-2 c = (put (goal.at.invariant_of-self-2 c).In_ok-take).0

pub returns-clause-ok : goal.returns-clause-ok
returns-clause-ok c =
    (put (goal.at.returns-clause-ok c).In_ok-take).1
    ∙ ap (λ (p : PartialPicture). with_all p ((at_place c.args.at c.args.samples.now, c.args.sources.now) ∷ [])) c.self.view_is

pub returns-clause-added : goal.returns-clause-added
returns-clause-added c =
    c.in_ok-take.ensures.added ∙ ap not (sym (holds_stored c.self.invariant c.self.view_is c.args.at c.args.samples.now))

pub returns-in_err-take-clause-no_memory : goal.returns-in_err-take-clause-no_memory
returns-in_err-take-clause-no_memory c = λ h e.
    let bad : false ≡ true = c.in_err-take.ensures.no_memory
    (sym (holds_stored c.self.invariant c.self.view_is c.args.at c.args.samples.now) ∙ h) e in
    absurd cc
