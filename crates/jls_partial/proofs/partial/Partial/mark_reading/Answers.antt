use Rattle.std.proofs.Common.{◌≡◌, ◌∙◌, ◌<◌, ◌^◌, ◌∷◌, [], ℕ, zero, suc, List, map, Option, Some, ap, sym, subst, length, refl, arith}
use Rattle.std.specs.Prelude.{IfSome, slice_get}
use Rattle.jls_values.specs.OrderedSet as set
use Rattle.jls_partial.specs.Entries.{at_place, partial_of}
use Rattle.jls_partial.specs.Held.{IsStoreOf, kept_entry}
use Rattle.jls_partial.specs.Partial.{PartialPicture, readings_at, with_all, with_marks}
use Rattle.jls_partial.specs.Stored.{stored_at}
use Rattle.jls_partial.proofs.Marked.{got_held, taken_is_marked}
use Rattle.jls_partial.proofs.Store.{is_there, readings_stored, below_stored}
use Rattle.jls_partial.proofs.StorePuts.{store_put}
use Rattle.jls_partial.proofs.Views.{got_held as got_there}
use Rattle.jls_partial.proofs.partial.Partial.mark_reading.Goals.{In_ok-mark}
use Rattle.jls_partial.proofs.partial.Partial.mark_reading.Goals as goal

-- an item of a list, at its index
item : (xs : List (List ℕ)) (i : ℕ) → i < length xs → (x : List ℕ) × (slice_get xs i ≡ Some x)
item [] i lt = absurd (omega arith)
item (x ∷ xs) zero lt = (x, refl)
item (x ∷ xs) (suc i) lt = item xs i (omega arith)

pub mark-requires : goal.mark-requires
mark-requires c = below_stored c.self.invariant c.self.view_is c.args.at c.args.i c.requires.i_in

-- the samples of the reading
marked : (c : In_ok-mark) → (x : List ℕ) × (slice_get (set.items (stored_at c.self.inside.store c.args.at).lines) c.args.i ≡ Some x)
marked c = item (set.items (stored_at c.self.inside.store c.args.at).lines) c.args.i
    (below_stored c.self.invariant c.self.view_is c.args.at c.args.i c.requires.i_in)

-- the store has taken it once more, with the source
put : (c : In_ok-mark) → IsStoreOf c.self.inside.shape c.mark.new.self
    × (partial_of c.self.inside.shape (map kept_entry c.mark.new.self.entries)
    ≡ with_all (partial_of c.self.inside.shape (map kept_entry c.self.inside.store.entries))
    ((at_place c.args.at (marked c).0, c.args.source ∷ []) ∷ []))
put c =
    let store = c.self.inside.store in
    let shape = c.self.inside.shape in
    let at = c.args.at in
    let is = c.self.invariant in
    let now = c.in_ok-mark.ensures.ok in
    let x = marked c in
    let there = is_there shape store.precision store.width store.entries at is.precision is.width is.kept in
    let source_fits : c.args.source < 2 ^ 32 = omega (arith, c.ranges.source.fits) in
    store_put shape store c.mark.new.self at x.0 (c.args.source ∷ []) is
    (there.fitting x.0 (got_there (stored_at store at).lines c.args.i x.0 x.1)) (source_fits, tt) c.in_ok-mark.ensures.ordered
    (record { precision = now.precision; width = now.width; lines = now.lines; changed = now.changed.puts x.0 x.1; puts = now.puts })

pub invariant_of-self-2 : goal.invariant_of-self-2
invariant_of-self-2 c = (put (goal.at.invariant_of-self-2 c).In_ok-mark).0

-- the reading has the source, and nothing else has changed
pub returns-clause-ok : goal.returns-clause-ok
returns-clause-ok c =
    let here = (goal.at.returns-clause-ok c).In_ok-mark in
    let p = c.args.self.now in
    let at = c.args.at in
    let x = marked here in
    let read : slice_get (readings_at p at.component at.line) c.args.i ≡ Some x.0 =
    ap (λ (xs : List (List ℕ)). slice_get xs c.args.i) (readings_stored c.self.invariant c.self.view_is at) ∙ x.1 in
    subst (λ (o : Option (List ℕ)). IfSome o (λ samples. partial_of c.self.inside.shape (map kept_entry c.mark.new.self.entries)
    ≡ with_marks p c.args.source (at_place at samples ∷ []))) (sym read)
    ((put here).1 ∙ ap (λ (q : PartialPicture). with_all q ((at_place at x.0, c.args.source ∷ []) ∷ [])) c.self.view_is
    ∙ taken_is_marked p (at_place at x.0) c.args.source (got_held p at.component at.line c.args.i x.0 read))
