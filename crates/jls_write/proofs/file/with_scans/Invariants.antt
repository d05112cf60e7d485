use Rattle.std.proofs.Common.{◌≡◌, ◌++◌}
use Rattle.std.specs.List.{flat_map, range_with_len}
use Rattle.jls_write.specs.Options.{components_of_scan}
use Rattle.jls_write.specs.Parts.{scan_from}
use Rattle.jls_write.specs.WrittenFile.{scan_bytes}
use Rattle.jls_write.proofs.file.with_scans.Given as goal

-- the scans before this one are in the file
abbrev pub invariant-loop-first : goal.invariant-loop-first
invariant-loop-first l =
    let pic = l.picture in
    let o = l.options in
    l.file.front.items ++ l.file.back.items ≡ (l.initial.file.front.items ++ l.initial.file.back.items)
    ++ flat_map (λ first. scan_bytes pic (scan_from pic o first (components_of_scan pic.shape o))) (range_with_len 0 l.first)
