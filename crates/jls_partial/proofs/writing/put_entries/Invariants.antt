use Rattle.std.proofs.Common.{◌≡◌, ◌++◌, map}
use Rattle.std.specs.List.{flat_map}
use Rattle.jls_partial.specs.Held.{kept_entry}
use Rattle.jls_partial.specs.Text.{entry_text, entries}
use Rattle.jls_partial.specs.declared.version.Version.TheVariants.{Two}
use Rattle.jls_partial.proofs.writing.put_entries.Given as goal

-- what is put, and the text of the entries left, are the text of all
abbrev pub invariant-loop-at : goal.invariant-loop-at
invariant-loop-at l = l.out.items ++ flat_map (entry_text Two) (map kept_entry l.at-iterator) ≡ l.fn.out.items
    ++ flat_map (entry_text Two) (entries l.partial)
