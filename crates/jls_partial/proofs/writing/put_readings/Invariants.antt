use Rattle.std.proofs.Common.{◌≡◌, ◌++◌, drop}
use Rattle.std.specs.List.{flat_map}
use Rattle.jls_partial.specs.LineSet.{kept_lines}
use Rattle.jls_partial.specs.Text.{reading_text}
use Rattle.jls_partial.specs.declared.version.Version.TheVariants.{Two}
use Rattle.jls_partial.proofs.writing.put_readings.Given as goal

-- what is put, and the text of the readings left, are the text of all
abbrev pub invariant-loop-i : goal.invariant-loop-i
invariant-loop-i l = l.out.items ++ flat_map (reading_text Two) (drop l.i (kept_lines l.lines)) ≡ l.fn.out.items
    ++ flat_map (reading_text Two) (kept_lines l.lines)
