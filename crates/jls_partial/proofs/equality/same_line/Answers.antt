use Rattle.std.proofs.Common.{◌∙◌, ◌<◌, ◌++◌, ◌∷◌, [], List, ℕ, length, sym, arith}
use Rattle.jls_values.specs.OrderedSet.{items}
use Rattle.jls_partial.specs.PartialLaws.{same_list}
use Rattle.jls_partial.specs.Packed.{Kept}
use Rattle.jls_partial.proofs.Growth.{kept_more}
use Rattle.jls_partial.proofs.SameEntries.{apart_lists, samples_same, sources_same}
use Rattle.jls_partial.proofs.equality.same_line.Goals.{After-get}
use Rattle.jls_partial.proofs.equality.same_line.Goals as goal

-- both lists go on
within : (c : After-get) → (c.loop-i.i < length (items c.args.one.now.lines)) × (c.loop-i.i < length (items c.args.other.now.lines))
within c =
    let lens = c.if-len.false in
    let l1 = c.len.ensures.value in
    let l2 = c.len-2.ensures.value in
    let end = c.len-i-end.ensures.value in
    (omega (arith, end, c.loop-i-test.true), omega (arith, lens, l1, l2, end, c.loop-i-test.true))

-- a reading has other samples
pub returns-then-not-same_samples : goal.returns-then-not-same_samples
returns-then-not-same_samples c = (
  λ e. absurd cc,
  λ same. absurd (apart_lists c.get.result.now c.get-in-loop-i.result.now (sym c.eq-same_samples.ensures ∙ c.if-not-same_samples.true)
      (samples_same c.args.one.now c.args.other.now c.loop-i.i c.get.result.now c.get-in-loop-i.result.now c.get.ensures.value
      c.get-in-loop-i.ensures.value same)),
)

-- a reading has other sources in the second, so the lines differ
pub returns-then-not-same_sources : goal.returns-then-not-same_sources
returns-then-not-same_sources c =
    let L = c.args.one.now in
    let M = c.args.other.now in
    let i = c.loop-i.i in
    let inside = within (goal.at.returns-then-not-same_sources c).After-get in (
      λ e. absurd cc,
      λ same. absurd (apart_lists c.sources.result.now c.sources-in-loop-i.result.now
          (sym c.eq-same_sources.ensures ∙ c.if-not-same_sources.true)
          (sources_same L M i c.get.result.now c.get-in-loop-i.result.now c.sources.result.now c.sources-in-loop-i.result.now inside.0
          inside.1
          c.get.ensures.value c.get-in-loop-i.ensures.value c.sources.ensures c.sources-in-loop-i.ensures same)),
    )

-- one reading more is the same in both
pub loop-i-preserved : goal.loop-i-preserved
loop-i-preserved c =
    let L = c.args.one.now in
    let M = c.args.other.now in
    let i = c.loop-i.i in
    let inside = within (goal.at.loop-i-preserved c).After-get in
    let x = same_list c.get.result.now c.get-in-loop-i.result.now (sym c.eq-same_samples.ensures ∙ c.if-not-same_samples.false) in
    let ss = same_list c.sources.result.now c.sources-in-loop-i.result.now (sym c.eq-same_sources.ensures ∙ c.if-not-same_sources.false) in
    let k = λ (x ss : List ℕ). let k : Kept = (x, ss) in k in
    kept_more L i c.get.result.now c.sources.result.now inside.0 c.get.ensures.value c.sources.ensures
    ∙ (λ j. c.loop-i.invariant j ++ k (x j) (ss j) ∷ [])
    ∙ sym (kept_more M i c.get-in-loop-i.result.now c.sources-in-loop-i.result.now inside.1 c.get-in-loop-i.ensures.value
    c.sources-in-loop-i.ensures)
