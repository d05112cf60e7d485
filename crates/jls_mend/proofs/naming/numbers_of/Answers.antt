use Rattle.std.proofs.Common.{◌≡◌, ◌+◌, List, map, sym, subst, take}
use Rattle.std.specs.String.{string_bytes}
use Rattle.std.specs.declared.string.String.{String}
use Rattle.std.specs.declared.alloc.Global.{Global}
use Rattle.jls_mend.specs.Asking.{inputs_from, names_in}
use Rattle.jls_mend.proofs.NamesOn.{number_more}
use Rattle.jls_mend.proofs.naming.numbers_of.Goals as goal

pub loop-index-preserved : goal.loop-index-preserved
loop-index-preserved c =
    let copies = c.args.copies.now in
    let i = c.loop-index.index in
    subst (λ (ns : List (String Global)).
    map string_bytes ns ≡ names_in (inputs_from 1 (take (i + 1) (map (λ copy. copy.now) copies)))) (sym c.in_ok-push.ensures.items)
    (number_more copies i c.loop-index-test.true c.loop-index.names.items c.in_ok-name.name c.loop-index.invariant c.in_ok-name.ensures)
