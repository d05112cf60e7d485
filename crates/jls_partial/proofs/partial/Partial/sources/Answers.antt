use Rattle.std.proofs.Common.{◌≡◌, Option, Some, None, ◌∙◌, ℕ, List, sym, subst}
use Rattle.std.specs.Prelude.{slice_get, IfSome}
use Rattle.jls_values.specs.OrderedSet as set
use Rattle.jls_partial.specs.LineSet.{PictureLines, line_sources}
use Rattle.jls_partial.specs.Partial.{sources_at}
use Rattle.jls_partial.specs.LinePlace.{place}
use Rattle.jls_partial.specs.Stored.{stored_at}
use Rattle.jls_partial.proofs.Store.{readings_stored, some_stored, below_stored, sources_stored}
use Rattle.jls_partial.proofs.partial.Partial.sources.Goals as goal

pub lines_at-requires : goal.lines_at-requires
lines_at-requires c = some_stored c.self.invariant c.self.view_is (place c.args.component c.args.line) c.args.i c.requires.i_in

pub sources-requires : goal.sources-requires
sources-requires c =
    rw c.lines_at.ensures (below_stored c.self.invariant c.self.view_is (place c.args.component c.args.line) c.args.i c.requires.i_in)

-- the sources of the line in the store are those of the reading
pub returns : goal.returns
returns c =
    let at = place c.args.component c.args.line in
    let L = stored_at c.self.inside.store at in
    let lent : IfSome (slice_get (set.items L.lines) c.args.i) (λ samples. c.sources.result.now ≡ line_sources L samples) =
    subst (λ (K : PictureLines). IfSome (slice_get (set.items K.lines) c.args.i) (λ samples. c.sources.result.now ≡ line_sources K samples))
    c.lines_at.ensures c.sources.ensures in
    subst (λ (xs : List (List ℕ)). IfSome (slice_get xs c.args.i)
    (λ samples. c.sources.result.now ≡ sources_at c.args.self.now c.args.component c.args.line samples))
    (sym (readings_stored c.self.invariant c.self.view_is at)) (each_of (slice_get (set.items L.lines) c.args.i) lent)
  where
    each_of : (o : Option (List ℕ))
        → IfSome o (λ samples. c.sources.result.now
        ≡ line_sources (stored_at c.self.inside.store (place c.args.component c.args.line)) samples)
        → IfSome o (λ samples. c.sources.result.now ≡ sources_at c.args.self.now c.args.component c.args.line samples)
    each_of None h = tt
    each_of (Some x) h = h ∙ sym (sources_stored c.self.invariant c.self.view_is (place c.args.component c.args.line) x)
