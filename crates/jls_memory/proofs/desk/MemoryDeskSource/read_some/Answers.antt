use Rattle.std.proofs.Common.{◌≡◌, false, ◌∷◌, ◌++◌, ◌-◌, [], ℕ, List, ap, drop, length, sym, subst, map, take, arith}
use Rattle.std.proofs.lemmas.List.{take_rest}
use Rattle.std.specs.List.{list_any}
use Rattle.jls_io.specs.Event.{History, gave, is_opening}
use Rattle.jls_memory.specs.Desks.{AtDesk, IsKept}
use Rattle.jls_memory.specs.Held.{input_file, output_files}
use Rattle.jls_memory.proofs.Kept.{kept_read, none_left}
use Rattle.jls_memory.proofs.desk.MemoryDeskSource.read_some.Goals as goal

pub invariant_of-self : goal.invariant_of-self
invariant_of-self c =
    let inputs = map input_file c.self.inside.inputs.now in
    let rest : List ℕ = c.self.inside.rest.now in
    let outputs = output_files c.self.inside.outputs.items in
    let n : ℕ = c.fill-count.result in
    let kept = kept_read inputs rest outputs c.self.inside.ledger c.self.invariant (length c.fill-count.new.into) n
    (take n c.fill-count.new.into) c.fill-count.ensures.count c.fill-count.ensures.filled in
    let there = subst (λ (l : List ℕ). IsKept inputs l outputs (c.self.inside.ledger ++ gave (length c.fill-count.new.into)
    (take n c.fill-count.new.into) ∷ [])) (sym (take_rest rest n)) kept in
    subst (λ (h : History). IsKept inputs (take (length rest - n) (drop n rest)) outputs h) (sym c.note.ensures) there

pub returns-clause-nothing_open : goal.returns-clause-nothing_open
returns-clause-nothing_open c = λ e.
    let inputs = map input_file c.self.inside.inputs.now in
    let outputs = output_files c.self.inside.outputs.items in
    let none : c.self.inside.rest.now ≡ [] = none_left inputs c.self.inside.rest.now outputs c.self.inside.ledger c.self.invariant
    (subst (λ (d : AtDesk). list_any is_opening d.events ≡ false) (sym c.self.view_is) e) in
    let len : length c.self.inside.rest.now ≡ 0 = ap length none in
    omega (arith, c.fill-count.ensures.count, len)
