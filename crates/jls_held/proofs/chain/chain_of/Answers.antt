-- Each line of the piece goes on with the chain.
use Rattle.std.proofs.Common.{◌≡◌, ◌+◌, ◌<◌, ℕ, Bool, List, [], ◌∷◌, ◌++◌, length, map, get_or, sym, ap, subst, arith, Vec, Global}
use Rattle.std.specs.Vec.Iter.{into_iter_items}
use Rattle.std.proofs.lemmas.Bool.{eq-eqb, ne_eqb}
use Rattle.jls_held.specs.declared.chain.ChainLine.{ChainLine}
use Rattle.jls_held.specs.Mending.{file_of}
use Rattle.jls_held.specs.FilePieces.{lines_of}
use Rattle.jls_held.proofs.PieceChains.{IsSoFar, chain_step, same_row, next_row}
use Rattle.jls_held.proofs.chain.chain_of.Goals as goal

abbrev items_of : Vec ℕ Global → List ℕ
items_of v = v.items

abbrev line_of : ℕ → ℕ → Vec ℕ Global → Bool → ChainLine
line_of component row samples held = record { component = component; row = row; samples = samples; is_code_held = held }

-- the next row would be none of a picture: the chain ends here
pub returns-in_default : goal.returns-in_default
returns-in_default c =
    let p = c.args.piece in let f = file_of c.args.file.now in let before = c.loop-samples in let chain = before.chain.items in
    let l = line_of (get_or c.components.result.now before.place 0) before.row c.in-Some.samples c.is_held-is_code_held.result in
    let rest = map items_of (into_iter_items c.next.new.self) in
    let so : IsSoFar p.plan p.interval (lines_of p) chain (c.in-Some.samples.items ∷ rest) before.row before.place =
    subst (λ z. IsSoFar p.plan p.interval (lines_of p) chain (map items_of z) before.row before.place) c.in-Some.ensures.steps.0
    before.invariant.so in
    let component : l.component ≡ get_or p.plan.components before.place 0 = ap (λ z. get_or z before.place 0) c.components.ensures.value in
    let some = c.components.ensures.ranges.components_at_least in
    chain_step f p c.requires (omega (arith, some)) c.in_ok-codes.codes.ends.items (c.in_ok-codes.ensures.ends c.requires) chain l rest
    before.place c.in_ok-codes.codes.together c.len.result c.deref.result.now so component c.in_ok-codes.ensures.together
    (omega (arith, c.len.ensures)) c.deref.ensures.value c.is_held-is_code_held.ensures.within c.is_held-is_code_held.ensures.held before.invariant.are
    c.push.new.self.items c.in_ok-push.ensures.items

-- one line more, which is the last of its row
pub loop-samples-preserved-then-place-components : goal.loop-samples-preserved-then-place-components
loop-samples-preserved-then-place-components c =
    let p = c.args.piece in let f = file_of c.args.file.now in let before = c.loop-samples in let chain = before.chain.items in
    let l = line_of (get_or c.components.result.now before.place 0) before.row c.in-Some.samples c.is_held-is_code_held.result in
    let rest = map items_of (into_iter_items c.next.new.self) in
    let so : IsSoFar p.plan p.interval (lines_of p) chain (c.in-Some.samples.items ∷ rest) before.row before.place =
    subst (λ z. IsSoFar p.plan p.interval (lines_of p) chain (map items_of z) before.row before.place) c.in-Some.ensures.steps.0
    before.invariant.so in
    let component : l.component ≡ get_or p.plan.components before.place 0 = ap (λ z. get_or z before.place 0) c.components.ensures.value in
    let some = c.components.ensures.ranges.components_at_least in
    let out = c.push.new.self.items in let out_is : out ≡ chain ++ l ∷ [] = c.in_ok-push.ensures.items in
    let over : before.place + 1 ≡ length p.plan.components = omega (arith, ap length c.components-in-loop-samples.ensures.value) in
    let next = c.in-Some-checked_add.ensures.1 in
    record {
      so = subst (λ r. IsSoFar p.plan p.interval (lines_of p) out rest r 0) (sym next)
          (next_row p.plan p.interval (lines_of p) chain l rest before.place so component out out_is
          (eq-eqb (before.place + 1) (length p.plan.components) over));
      place_in = omega (arith, before.invariant.place_in);
      are = chain_step f p c.requires (omega (arith, some)) c.in_ok-codes.codes.ends.items (c.in_ok-codes.ensures.ends c.requires) chain l
          rest before.place c.in_ok-codes.codes.together c.len.result c.deref.result.now so component c.in_ok-codes.ensures.together
          (omega (arith, c.len.ensures)) c.deref.ensures.value c.is_held-is_code_held.ensures.within c.is_held-is_code_held.ensures.held before.invariant.are
          out out_is;
    }

-- one line more, after which the row goes on
pub loop-samples-preserved : goal.loop-samples-preserved
loop-samples-preserved c =
    let p = c.args.piece in let f = file_of c.args.file.now in let before = c.loop-samples in let chain = before.chain.items in
    let l = line_of (get_or c.components.result.now before.place 0) before.row c.in-Some.samples c.is_held-is_code_held.result in
    let rest = map items_of (into_iter_items c.next.new.self) in
    let so : IsSoFar p.plan p.interval (lines_of p) chain (c.in-Some.samples.items ∷ rest) before.row before.place =
    subst (λ z. IsSoFar p.plan p.interval (lines_of p) chain (map items_of z) before.row before.place) c.in-Some.ensures.steps.0
    before.invariant.so in
    let component : l.component ≡ get_or p.plan.components before.place 0 = ap (λ z. get_or z before.place 0) c.components.ensures.value in
    let some = c.components.ensures.ranges.components_at_least in
    let out = c.push.new.self.items in let out_is : out ≡ chain ++ l ∷ [] = c.in_ok-push.ensures.items in
    let test = c.if-place-components.false in let inside : before.place + 1 < length p.plan.components =
    omega (arith, before.invariant.place_in, ap length c.components-in-loop-samples.ensures.value, test) in
    record {
      so = same_row p.plan p.interval (lines_of p) chain l rest before.place so component out out_is
          (ne_eqb (before.place + 1) (length p.plan.components) (λ e. omega (arith, e, inside)));
      place_in = inside;
      are = chain_step f p c.requires (omega (arith, some)) c.in_ok-codes.codes.ends.items (c.in_ok-codes.ensures.ends c.requires) chain l
          rest before.place c.in_ok-codes.codes.together c.len.result c.deref.result.now so component c.in_ok-codes.ensures.together
          (omega (arith, c.len.ensures)) c.deref.ensures.value c.is_held-is_code_held.ensures.within c.is_held-is_code_held.ensures.held before.invariant.are
          out out_is;
    }
