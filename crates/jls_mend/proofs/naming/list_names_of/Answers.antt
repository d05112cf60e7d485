use Rattle.std.proofs.Common.{◌≡◌, ◌+◌, ◌++◌, List, [], map, drop, ap, sym, ◌∙◌, subst}
use Rattle.std.specs.String.{string_bytes}
use Rattle.std.specs.declared.string.String.{String}
use Rattle.std.specs.declared.alloc.Global.{Global}
use Rattle.std.proofs.lemmas.List.{at_drop_more}
use Rattle.jls_mend.specs.Asking.{list_name, lists_from, lists_of, names_in, places_of}
use Rattle.jls_mend.specs.declared.asking.BadPlaces.{BadPlaces}
use Rattle.jls_mend.proofs.ListFiles.{pushed}
use Rattle.jls_mend.proofs.naming.list_names_of.Goals as goal

pub loop-index-preserved : goal.loop-index-preserved
loop-index-preserved c =
    let bad = c.args.bad.now in
    let i = c.loop-index.index in
    let none : BadPlaces = record { copy = 0; text = record { ref_ptr = (0, 0); now = [] } } in
    let more = at_drop_more (λ (ls : List BadPlaces). names_in (lists_from (i + 1) (map places_of ls))) bad i none c.loop-index-test.true in
    subst (λ (ns : List (String Global)). map string_bytes ns ++ names_in (lists_from (i + 1 + 1) (map places_of (drop (i + 1) bad)))
    ≡ names_in (lists_of (map places_of bad))) (sym c.in_ok-push.ensures.items)
    (pushed string_bytes c.loop-index.names.items c.in_ok-name.name (list_name (i + 1)) _ _ c.in_ok-name.ensures
    (sym (ap (λ rest. map string_bytes c.loop-index.names.items ++ rest) more) ∙ c.loop-index.invariant))
