use Rattle.std.proofs.Common.{◌≡◌, ℕ, ◌+◌, ◌-◌, [], ◌++◌, length, take, drop, refl, ap, ◌∙◌, arith, Some}
use Rattle.std.specs.Option.{option_map}
use Rattle.jls_values.specs.Params.{CodingParameters}
use Rattle.jls_pixel.specs.PixelBytes.{PixelBytes}
use Rattle.jls_held.proofs.WholeRows.{given_more, said, at_most_of, whole_of, ends_there, ends_here}
use Rattle.jls_held.proofs.row_ends.row_ends.Goals as goal

-- a decoder of so many rows that was given nothing
abbrev new : CodingParameters → ℕ → ℕ → ℕ → PixelBytes
new params width components rows =
    record { parameters = params; width = width; components = components; rows = rows; bytes = Some [] }

-- no row stands whole in no bytes
pub loop-at-init : goal.loop-at-init
loop-at-init c =
    let d = new c.args.params.now c.args.width c.args.components c.args.rows in
    record {
      some = omega arith;
      within = omega arith;
      given = c.new-decoder.ensures;
      before = (
        c.in_ok-whole_rows.field-0,
        said d c.new-decoder.result [] c.in_ok-whole_rows.field-0 c.new-decoder.ensures
            c.in_ok-whole_rows.ensures,
        (let t = c.if-branch-gt0.false in omega (arith, t)),
      );
      known = λ row e inside. absurd (let e = ap length c.new-ends.ensures.items in omega (arith, e, inside));
    }

-- the ends so far, and the rows up to the place
pub add_ends-requires-clause-before : goal.add_ends-requires-clause-before
add_ends-requires-clause-before c =
    let l = c.loop-at in let d = new c.args.params.now c.args.width c.args.components c.args.rows in
    at_most_of d l.decoder c.args.bytes.now l.at (length l.ends.items) l.invariant.given l.invariant.before

-- the rows up to the next place
pub add_ends-requires-clause-behind : goal.add_ends-requires-clause-behind
add_ends-requires-clause-behind c =
    let l = c.loop-at in let d = new c.args.params.now c.args.width c.args.components c.args.rows in
    let bytes = c.args.bytes.now in let to = l.at + c.min.result in
    let next : c.push_all.new.self ≡ record d { bytes = Some (take to bytes) } =
    c.in_ok-push_all.ensures.ok
    ∙ ap (λ (z : PixelBytes). record z { bytes = option_map (λ given. given ++ take (to - l.at) (drop l.at bytes)) z.bytes })
    (c.in_ok-next.ensures ∙ l.invariant.given)
    ∙ ap (λ o. record d { bytes = o }) (given_more bytes l.at to (omega arith) (Some (take l.at bytes)) refl
    (take (to - l.at) (drop l.at bytes)) refl) in
    whole_of d l.decoder bytes to l.at c.in_ok-count.count l.invariant.given
    (said d c.push_all.new.self (take to bytes) c.in_ok-count.count next c.in_ok-count.ensures)

-- the ends so far
pub add_ends-requires-clause-known : goal.add_ends-requires-clause-known
add_ends-requires-clause-known c =
    let l = c.loop-at in let d = new c.args.params.now c.args.width c.args.components c.args.rows in
    ends_there d l.decoder c.args.bytes.now l.at l.ends.items l.invariant.given l.invariant.known

-- the ends up to the next place
pub loop-at-preserved : goal.loop-at-preserved
loop-at-preserved c =
    let l = c.loop-at in let d = new c.args.params.now c.args.width c.args.components c.args.rows in
    let bytes = c.args.bytes.now in let to = l.at + c.min.result in
    let next : c.push_all.new.self ≡ record d { bytes = Some (take to bytes) } =
    c.in_ok-push_all.ensures.ok
    ∙ ap (λ (z : PixelBytes). record z { bytes = option_map (λ given. given ++ take (to - l.at) (drop l.at bytes)) z.bytes })
    (c.in_ok-next.ensures ∙ l.invariant.given)
    ∙ ap (λ o. record d { bytes = o }) (given_more bytes l.at to (omega arith) (Some (take l.at bytes)) refl
    (take (to - l.at) (drop l.at bytes)) refl) in
    record {
      some = l.invariant.some;
      within = (let w = l.invariant.within in omega (arith, c.min.ensures, w));
      given = next;
      before = (
        c.in_ok-count.count,
        said d c.push_all.new.self (take to bytes) c.in_ok-count.count next c.in_ok-count.ensures,
        c.in_ok-add_ends.ensures.count,
      );
      known = ends_here d l.decoder bytes l.at c.add_ends.new.ends.items l.invariant.given c.in_ok-add_ends.ensures.known;
    }
