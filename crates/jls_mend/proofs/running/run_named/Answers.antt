use Rattle.std.proofs.Common.{◌∙◌, map, ap, refl}
use Rattle.jls_memory.specs.Held.{input_file}
use Rattle.jls_mend.specs.Asking.{places_of}
use Rattle.jls_mend.proofs.NamesOn.{given}
use Rattle.jls_mend.proofs.TaskOf.{is_run_of, shown, some_name}
use Rattle.jls_mend.proofs.running.run_named.Goals as goal

pub run_over-requires : goal.run_over-requires
run_over-requires c =
    some_name (given c.args.copies.now) (map places_of c.args.bad.now) c.deref-3.result.now c.requires.copies
    (shown c.args.names.now.copies.items c.deref.result.now c.in_ok-numbers.numbers.items c.deref-3.result.now _ c.requires.names.of_copies
    c.deref.ensures.value c.in_ok-numbers.ensures c.deref-3.ensures.value)

pub returns : goal.returns
returns c =
    is_run_of c.args.options.now (given c.args.copies.now) (map places_of c.args.bad.now) _ _ c.in_ok-ran.ran c.options_for.ensures refl
    (shown c.args.names.now.copies.items c.deref.result.now c.in_ok-numbers.numbers.items c.deref-3.result.now _ c.requires.names.of_copies
    c.deref.ensures.value c.in_ok-numbers.ensures c.deref-3.ensures.value)
    (shown c.args.names.now.values.items c.deref-2.result.now c.in_ok-values.values.items c.deref-4.result.now _ c.requires.names.values_are
    c.deref-2.ensures.value c.in_ok-values.ensures c.deref-4.ensures.value)
    refl (ap (map input_file) c.deref-5.ensures.value ∙ c.in_ok-inputs.ensures)
    c.in_ok-ran.ensures
