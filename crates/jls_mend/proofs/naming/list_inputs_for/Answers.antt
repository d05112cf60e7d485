use Rattle.std.proofs.Common.{◌≡◌, ◌+◌, ◌++◌, List, [], map, drop, get_or, ap, sym, ◌∙◌, subst}
use Rattle.std.specs.String.{string_bytes}
use Rattle.std.proofs.lemmas.List.{at_drop_more}
use Rattle.jls_memory.specs.Files.{File}
use Rattle.jls_memory.specs.Held.{input_file}
use Rattle.jls_memory.specs.declared.files.Input.{Input}
use Rattle.jls_mend.specs.Asking.{list_name, lists_from, lists_of, places_of}
use Rattle.jls_mend.specs.declared.asking.BadPlaces.{BadPlaces}
use Rattle.jls_mend.proofs.ListFiles.{in_lists, list_named, pushed}
use Rattle.jls_mend.proofs.naming.list_inputs_for.Goals as goal

pub bounds-names-index : goal.bounds-names-index
bounds-names-index c = in_lists c.args.bad.now c.loop-index.index c.loop-index-test.true c.args.names.now c.requires

pub loop-index-preserved : goal.loop-index-preserved
loop-index-preserved c =
    let bad = c.args.bad.now in
    let i = c.loop-index.index in
    let within = c.loop-index-test.true in
    let none : BadPlaces = record { copy = 0; text = record { ref_ptr = (0, 0); now = [] } } in
    let text = (get_or bad i none).text.now in
    let named = c.as_str.ensures.value
    ∙ (ap string_bytes c.index-names-index.is ∙ list_named bad i within c.args.names.now c.requires _) in
    let more = at_drop_more (λ (ls : List BadPlaces). lists_from (i + 1) (map places_of ls)) bad i none within in
    subst (λ (is : List Input). map input_file is ++ lists_from (i + 1 + 1) (map places_of (drop (i + 1) bad))
    ≡ lists_of (map places_of bad)) (sym c.in_ok-push.ensures.items)
    (pushed input_file c.loop-index.inputs.items _ (record { name = list_name (i + 1); bytes = text }) _ _
    (ap (λ name. record { name = name; bytes = text }) named)
    (sym (ap (λ (rest : List File). map input_file c.loop-index.inputs.items ++ rest) more) ∙ c.loop-index.invariant))
