use Rattle.std.proofs.Common.{◌≡◌, ◌∙◌, ℕ, List, ap, sym, true}
use Rattle.std.specs.Prelude.{slice_get}
use Rattle.jls_values.specs.OrderedSet as set
use Rattle.jls_partial.specs.LineSet.{PictureLines}
use Rattle.jls_partial.specs.Partial.{holds}
use Rattle.jls_partial.specs.LinePlace.{place}
use Rattle.jls_partial.proofs.Store.{readings_stored, some_stored, below_stored, holds_stored, fitting}
use Rattle.jls_partial.proofs.Views.{got_held}
use Rattle.jls_partial.proofs.partial.Partial.reading.Goals as goal

pub lines_at-requires : goal.lines_at-requires
lines_at-requires c = some_stored c.self.invariant c.self.view_is (place c.args.component c.args.line) c.args.i c.requires.i_in

pub get-requires : goal.get-requires
get-requires c =
    rw c.lines_at.ensures (below_stored c.self.invariant c.self.view_is (place c.args.component c.args.line) c.args.i c.requires.i_in)

pub returns-clause-value : goal.returns-clause-value
returns-clause-value c =
    ap (λ (xs : List (List ℕ)). slice_get xs c.args.i)
    (readings_stored c.self.invariant c.self.view_is (place c.args.component c.args.line))
    ∙ ap (λ (L : PictureLines). slice_get (set.items L.lines) c.args.i) (sym c.lines_at.ensures) ∙ c.get.ensures.value

-- the reading fits the shape
pub returns-clause-fitting : goal.returns-clause-fitting
returns-clause-fitting c =
    let store = c.self.inside.store in
    let held : holds c.args.self.now c.args.component c.args.line c.get.result.now ≡ true =
    holds_stored c.self.invariant c.self.view_is (place c.args.component c.args.line) c.get.result.now
    ∙ ap (λ (L : PictureLines). set.contains L.lines c.get.result.now) (sym c.lines_at.ensures)
    ∙ got_held c.lines_at.result.lines c.args.i c.get.result.now c.get.ensures.value in
    fitting store.precision store.width c.self.inside.shape store.entries c.self.invariant.kept c.args.self.now c.self.view_is
    c.args.component c.args.line c.get.result.now held
