use Rattle.std.proofs.Common.{◌≡◌, ◌+◌, ◌∙◌, List, map, ap, sym, subst, take}
use Rattle.std.specs.String.{string_bytes}
use Rattle.jls_memory.specs.Held.{input_file}
use Rattle.jls_memory.specs.declared.files.Input.{Input}
use Rattle.jls_mend.specs.Asking.{inputs_from}
use Rattle.jls_mend.proofs.NamesOn.{held_there, in_names, input_more, named_there}
use Rattle.jls_mend.proofs.naming.inputs_for.Goals as goal

pub bounds-names-index : goal.bounds-names-index
bounds-names-index c = in_names c.args.copies.now c.loop-index.index c.loop-index-test.true c.args.names.now c.requires

pub loop-index-preserved : goal.loop-index-preserved
loop-index-preserved c =
    let copies = c.args.copies.now in
    let i = c.loop-index.index in
    let within = c.loop-index-test.true in
    let named = c.as_str.ensures.value
    ∙ (ap string_bytes c.index-names-index.is ∙ named_there copies i within c.args.names.now c.requires _) in
    subst (λ (is : List Input). map input_file is ≡ inputs_from 1 (take (i + 1) (map (λ copy. copy.now) copies)))
    (sym c.in_ok-push.ensures.items)
    (input_more copies i within c.loop-index.inputs.items _ c.loop-index.invariant named
    (held_there copies i within c.args.names.now c.requires _))
