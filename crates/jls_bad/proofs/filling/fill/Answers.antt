use Rattle.std.proofs.Common.{◌≡◌, ◌∙◌, ℕ, ◌+◌, Bool, Option, List, [], ◌∷◌, ◌++◌, length, unwrap_or, sym, ap, subst, arith}
use Rattle.std.proofs.lemmas.List.{length_push, nil_from_length}
use Rattle.jls_bad.specs.Inside.{IsFilled, marked_byte_for}
use Rattle.jls_bad.proofs.FilledBytes.{byte_filled, own_filled, zero_by_test}
use Rattle.jls_bad.proofs.filling.fill.Goals as goal

pub returns-then-is_empty : goal.returns-then-is_empty
returns-then-is_empty c =
    let P : List Bool → Type 0 = λ marks. IsFilled (marked_byte_for c.args.copies.now c.args.copy.now) (length c.args.copy.now.bytes.now) c.in_ok-from_slice.field-0.items marks in
    let none = zero_by_test _ c.is_empty.result c.is_empty.ensures c.if-is_empty.true in
    subst P (sym c.new.ensures.items) (own_filled c.args.copy.now c.args.copies.now c.in_ok-from_slice.field-0.items (nil_from_length c.args.copy.now.is_bad.items (omega (arith, none, c.args.copy.now.is_bad.ok.0))) c.in_ok-from_slice.ensures.items)

pub loop-offset-preserved : goal.loop-offset-preserved
loop-offset-preserved c =
    let bytes : List ℕ = c.loop-offset.bytes.items in
    let marks : List Bool = c.loop-offset.is_lost.items in
    let byte = c.byte_for-byte.result in
    let mark : Bool = c.is_none.result in
    let f : ℕ → Option ℕ = marked_byte_for c.args.copies.now c.args.copy.now in
    let e : c.push.new.self.items ≡ bytes ++ unwrap_or byte 0 ∷ [] = c.in_ok-push.ensures.items ∙ ap (λ x. bytes ++ x ∷ []) c.unwrap_or.ensures in
    let g : c.push-in-loop-offset.new.self.items ≡ marks ++ mark ∷ [] = c.in_ok-push-2.ensures.items in
    let P : List ℕ → Type 0 = λ bs. IsFilled f (c.loop-offset.offset + 1) bs (marks ++ mark ∷ []) in
    let Q : List Bool → Type 0 = λ ms. IsFilled f (c.loop-offset.offset + 1) c.push.new.self.items ms in
    record {
      filled = subst Q (sym g) (subst P (sym e) (byte_filled f c.loop-offset.offset bytes marks byte mark c.loop-offset.invariant.filled c.loop-offset.invariant.lost c.byte_for-byte.ensures c.is_none.ensures));
      lost = omega (arith, ap length g, length_push marks mark, c.loop-offset.invariant.lost);
    }
