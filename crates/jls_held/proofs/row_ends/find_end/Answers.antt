use Rattle.std.proofs.Common.{◌≡◌, ℕ, ◌+◌, ◌-◌, ◌/◌, ◌<◌, ◌++◌, take, drop, refl, ap, ◌∙◌, subst, arith, Some}
use Rattle.std.specs.Option.{option_map}
use Rattle.jls_pixel.specs.PixelBytes.{PixelBytes, pixels_asked}
use Rattle.jls_piece.specs.Lines.{pixel_piece}
use Rattle.jls_held.specs.RowEnds.{HasWholeRows}
use Rattle.jls_held.proofs.WholeRows.{given_more, said}
use Rattle.jls_held.proofs.row_ends.find_end.Goals as goal

-- the row stands whole in the bytes up to the middle
pub loop-high-preserved-then-branch-row : goal.loop-high-preserved-then-branch-row
loop-high-preserved-then-branch-row c =
    let l = c.loop-high in let d = c.args.decoder.now in let bytes = c.args.bytes.now in let v = l.invariant in
    let middle = l.low + (l.high - l.low) / 2 in
    let below : middle < l.high = (let t = c.loop-high-test.true in omega (arith, t)) in
    let next : c.push_all.new.self ≡ record d { bytes = Some (take middle bytes) } =
    c.in_ok-push_all.ensures.ok
    ∙ ap (λ (z : PixelBytes). record z { bytes = option_map (λ given. given ++ take (middle - l.low) (drop l.low bytes)) z.bytes })
    (c.in_ok-next.ensures ∙ v.given)
    ∙ ap (λ o. record d { bytes = o }) (given_more bytes l.low middle (omega arith) (Some (take l.low bytes)) refl
    (take (middle - l.low) (drop l.low bytes)) refl) in
    let many = said d c.push_all.new.self (take middle bytes) c.in_ok-whole_rows.field-0 next c.in_ok-whole_rows.ensures in
    record {
      order = (let t = c.loop-high-test.true in omega (arith, t));
      below = (let b = v.below in omega (arith, below, b));
      given = v.given;
      before = v.before;
      behind = (c.in_ok-whole_rows.field-0, many, (let t = c.if-branch-row.true in omega (arith, t)));
    }

-- the row stands behind the middle
pub loop-high-preserved : goal.loop-high-preserved
loop-high-preserved c =
    let l = c.loop-high in let d = c.args.decoder.now in let bytes = c.args.bytes.now in let v = l.invariant in
    let middle = l.low + (l.high - l.low) / 2 in
    let next : c.push_all.new.self ≡ record d { bytes = Some (take middle bytes) } =
    c.in_ok-push_all.ensures.ok
    ∙ ap (λ (z : PixelBytes). record z { bytes = option_map (λ given. given ++ take (middle - l.low) (drop l.low bytes)) z.bytes })
    (c.in_ok-next.ensures ∙ v.given)
    ∙ ap (λ o. record d { bytes = o }) (given_more bytes l.low middle (omega arith) (Some (take l.low bytes)) refl
    (take (middle - l.low) (drop l.low bytes)) refl) in
    let few = said d c.push_all.new.self (take middle bytes) c.in_ok-whole_rows.field-0 next c.in_ok-whole_rows.ensures in
    record {
      order = (let t = c.loop-high-test.true in omega (arith, t));
      below = v.below;
      given = next;
      before = (c.in_ok-whole_rows.field-0, few, (let t = c.if-branch-row.false in omega (arith, t)));
      behind = v.behind;
    }

-- both places stand side by side
pub returns-clause-end : goal.returns-clause-end
returns-clause-end c =
    let l = c.loop-high in let v = l.invariant in
    let next : l.high ≡ l.low + 1 = (let t = c.loop-high-test.false in let o = v.order in omega (arith, t, o)) in
    record {
      within = (let o = v.order in let b = v.below in let w = c.requires.within in omega (arith, o, b, w));
      before = v.before;
      with_it = subst (λ n. (count : ℕ) × HasWholeRows (pixel_piece (pixels_asked c.args.decoder.now)) (take n c.args.bytes.now) count
          × (c.args.row < count)) next v.behind;
    }
